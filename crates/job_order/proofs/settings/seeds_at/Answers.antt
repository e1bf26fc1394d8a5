use Rattle.std.proofs.Common.{◌≡◌, ◌≤◌, ◌<◌, length, ◌∙◌, sym, ap, arith}
use Rattle.std.specs.Prelude.{count_by}
use Rattle.seed_list.specs.Lines.{is_seed_line, lines}
use Rattle.job_spec.specs.OutOfRange.{seed_limit}
use Rattle.toml.specs.View.{table_view}
use Rattle.job_order.proofs.TextSettings.{seeds_by, no_text, bad_text, good_text, text_given, few_enough, too_long, too_many, within_most}
use Rattle.job_order.proofs.settings.seeds_at.Goals as goal

pub returns-in_default : goal.returns-in_default
returns-in_default c =
    let m = table_view c.args.table.now in
    c.bad.ensures m (no_text (seeds_by m) c.requires (rw c.in_default.is at (sym c.text_at.ensures)))

pub returns-then-text-gt-MOST_TEXT : goal.returns-then-text-gt-MOST_TEXT
returns-then-text-gt-MOST_TEXT c =
    let m = table_view c.args.table.now in
    let there = rw c.in-Some.is at (sym c.text_at.ensures) in
    let text = c.in-Some.text.now in
    let long : 1048576 < length text = omega arith in
    c.bad-then-text-gt-MOST_TEXT.ensures m (bad_text text (seeds_by m) there (too_long m text long))

pub returns-then-count_seeds-seed_limit : goal.returns-then-count_seeds-seed_limit
returns-then-count_seeds-seed_limit c =
    let m = table_view c.args.table.now in
    let there = rw c.in-Some.is at (sym c.text_at.ensures) in
    let text = c.in-Some.text.now in
    let count : c.count_seeds.result ≡ count_by is_seed_line (lines text) = c.count_seeds.ensures ∙ ap (λ t. count_by is_seed_line (lines t)) c.as_bytes.ensures.value in
    let many : seed_limit m < count_by is_seed_line (lines text) = omega (arith, count, c.seed_limit.ensures) in
    c.bad-then-count_seeds-seed_limit.ensures m (bad_text text (seeds_by m) there (too_many m text many))

pub returns : goal.returns
returns c =
    let m = table_view c.args.table.now in
    let there = rw c.in-Some.is at (sym c.text_at.ensures) in
    let text = c.in-Some.text.now in
    let count : c.count_seeds.result ≡ count_by is_seed_line (lines text) = c.count_seeds.ensures ∙ ap (λ t. count_by is_seed_line (lines t)) c.as_bytes.ensures.value in
    let few : count_by is_seed_line (lines text) ≤ seed_limit m = omega (arith, count, c.seed_limit.ensures) in
    let short : length text ≤ 1048576 = omega arith in
    (good_text text (seeds_by m) there (few_enough m text short few), (sym (text_given m _ text there), short, within_most m text few))
