-- Texts that are taken pass their tests.
use Rattle.std.proofs.Common.{◌≡◌, ℕ, ◌≤◌, Bool, true, false, not, List, [], length, Option, Some, None}
use Rattle.std.specs.Prelude.{is_none, nat_le, count_by, unwrap_or, option_and_then, IfSome}
use Rattle.std.specs.Option.{option_map_or}
use Rattle.std.proofs.lemmas.Bool.{and_parts, leb-true, not-false}
use Rattle.toml.specs.Data.{Data, Members, get_member, as_str}
use Rattle.seed_list.specs.Bad.{most_text}
use Rattle.seed_list.specs.Lines.{is_seed_line, lines}
use Rattle.job_spec.specs.declared.setting.Setting.TheVariants as setting
use Rattle.job_spec.specs.Gives.{seeds_text, text_at, text_in}
use Rattle.job_spec.specs.Missing.{lacks}
use Rattle.job_spec.specs.OutOfRange.{are_seeds, is_bad, is_taken, seed_limit}
use Rattle.job_spec.specs.Settings.{setting_name}
use Rattle.job_spec.specs.Texts.{is_name, is_agent, is_proxy}
use Rattle.job_spec.specs.Values.{holds}

-- a value stands there that is no text which passes
abbrev bad_by : (List ℕ → Bool) → Option Data → Bool
bad_by test value = option_map_or (λ v. not (holds test (as_str v))) value false

text_passes : (test : List ℕ → Bool) (text : Option (List ℕ)) → not (holds test text) ≡ false → test (unwrap_or text []) ≡ true
text_passes test None good = absurd cc
text_passes test (Some text) good = not-false (test text) good

-- a text that is needed
needed_passes : (test : List ℕ → Bool) (value : Option Data) → is_none value ≡ false → bad_by test value ≡ false → test (unwrap_or (option_and_then as_str value) []) ≡ true
needed_passes test None there good = absurd cc
needed_passes test (Some d) there good = text_passes test (as_str d) good

some_passes : (test : List ℕ → Bool) (text : Option (List ℕ)) → not (holds test text) ≡ false → IfSome text (λ t. test t ≡ true)
some_passes test None good = tt
some_passes test (Some text) good = not-false (test text) good

-- a text that may be absent
given_passes : (test : List ℕ → Bool) (value : Option Data) → bad_by test value ≡ false → IfSome (option_and_then as_str value) (λ t. test t ≡ true)
given_passes test None good = tt
given_passes test (Some d) good = some_passes test (as_str d) good

pub name_taken : (m : Members) → lacks m (setting_name setting.Name) ≡ false → is_bad m setting.Name ≡ false → is_name (text_in m setting.Name) ≡ true
unfolding is_bad is_taken text_in
name_taken m there good = needed_passes is_name (get_member (setting_name setting.Name) m) there good

pub agent_taken : (m : Members) → lacks m (setting_name setting.Agent) ≡ false → is_bad m setting.Agent ≡ false → is_agent (text_in m setting.Agent) ≡ true
unfolding is_bad is_taken text_in
agent_taken m there good = needed_passes is_agent (get_member (setting_name setting.Agent) m) there good

pub proxy_taken : (m : Members) → is_bad m setting.Proxy ≡ false → IfSome (text_at m setting.Proxy) (λ proxy. is_proxy proxy ≡ true)
unfolding is_bad is_taken
proxy_taken m good = given_passes is_proxy (get_member (setting_name setting.Proxy) m) good

-- no more seed lines than the limit
pub seeds_taken : (m : Members) → lacks m (setting_name setting.Seeds) ≡ false → is_bad m setting.Seeds ≡ false → count_by is_seed_line (lines (seeds_text m)) ≤ seed_limit m
unfolding is_bad is_taken text_in
seeds_taken m there good =
    let passes = needed_passes (are_seeds m) (get_member (setting_name setting.Seeds) m) there good in
    let few = and_parts (nat_le (length (seeds_text m)) most_text) (nat_le (count_by is_seed_line (lines (seeds_text m))) (seed_limit m)) passes in
    leb-true _ _ few.1
