-- The names stand in byte order, so that the first unknown one is the least.
use Rattle.std.proofs.Common.{◌≡◌, ◌∙◌, ap, true, false, Some, string_bytes}
use Rattle.toml.specs.View.{table_view}
use Rattle.job_order.specs.Known.{known_names}
use Rattle.job_spec.specs.Values.{is_one_of}
use Rattle.job_order.proofs.Tables.{all_left, left_after, unknown_left, none_left}
use Rattle.job_order.proofs.unknown.least_other.Goals as goal

pub loop-name-init : goal.loop-name-init
loop-name-init c =
    all_left (known_names c.args.known) c.args.table.now.entries _ (c.into_iter-name-iterator.ensures.into_iter_gives ∙ c.keys-name-items.ensures.rest) c.keys-name-items.ensures.ordered

pub returns-then-not-is_known : goal.returns-then-not-is_known
returns-then-not-is_known c =
    let other : is_one_of (known_names c.args.known) (string_bytes c.in-Some.name.now) ≡ false = cc in
    ap Some c.as_str-then-not-is_known.ensures.value ∙ unknown_left (known_names c.args.known) (table_view c.args.table.now) _ c.in-Some.name.now _ c.in-Some.ensures.steps other c.loop-name.invariant

pub loop-name-preserved : goal.loop-name-preserved
loop-name-preserved c =
    let one : is_one_of (known_names c.args.known) (string_bytes c.in-Some.name.now) ≡ true = cc in
    left_after (known_names c.args.known) (table_view c.args.table.now) _ c.in-Some.name.now _ c.in-Some.ensures.steps one c.loop-name.invariant

pub returns : goal.returns
returns c = none_left (known_names c.args.known) (table_view c.args.table.now) _ c.in-None.ensures.steps.0 c.loop-name.invariant
