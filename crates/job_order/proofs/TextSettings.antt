-- Settings that are texts: when their values are bad.
use Rattle.std.proofs.Common.{◌≡◌, ℕ, ◌≤◌, ◌<◌, Bool, true, false, cond, not, ◌&&◌, le-leb, List, [], ◌∷◌, length, Option, Some, None, refl, sym, ap, ◌∙◌, arith}
use Rattle.std.specs.Prelude.{is_none, nat_le, count_by, find, option_and_then}
use Rattle.std.proofs.lemmas.Bool.{and_from}
use Rattle.std.proofs.lemmas.Bool.Decides.{nat_tests}
use Rattle.std.specs.Option.{option_map_or}
use Rattle.toml.specs.Data.{Data, Members, get_member, as_str}
use Rattle.seed_list.specs.Lines.{is_seed_line, lines}
use Rattle.job_spec.specs.declared.setting.Setting.{Setting}
use Rattle.job_spec.specs.declared.setting.Setting.TheVariants as setting
use Rattle.job_spec.specs.Gives.{text_at, text_in}
use Rattle.job_spec.specs.Missing.{lacks}
use Rattle.job_spec.specs.OutOfRange.{are_seeds, is_bad, is_taken, seed_limit}
use Rattle.job_spec.specs.Settings.{setting_name, numbers}
use Rattle.job_spec.specs.declared.setting.Number.{Number}
use Rattle.job_order.specs.Steps.{bad_number}
use Rattle.job_spec.specs.Texts.{is_name, is_agent, is_address, is_proxy}
use Rattle.job_spec.specs.Values.{holds}

-- a text stands there that fails a test, or no text
abbrev bad_by : (List ℕ → Bool) → Option Data → Bool
bad_by test value = option_map_or (λ v. not (holds test (as_str v))) value false

-- a setting is bad by a test
pub record IsByTest (m : Members) (s : Setting) (test : List ℕ → Bool) : Type 0 where
  pub same : is_bad m s ≡ bad_by test (get_member (setting_name s) m)

pub name_by : (m : Members) → IsByTest m setting.Name is_name
unfolding is_bad is_taken
name_by m = record { same = refl }

pub agent_by : (m : Members) → IsByTest m setting.Agent is_agent
unfolding is_bad is_taken
agent_by m = record { same = refl }

pub contact_by : (m : Members) → IsByTest m setting.Contact is_address
unfolding is_bad is_taken
contact_by m = record { same = refl }

pub seeds_by : (m : Members) → IsByTest m setting.Seeds (are_seeds m)
unfolding is_bad is_taken
seeds_by m = record { same = refl }

pub proxy_by : (m : Members) → IsByTest m setting.Proxy is_proxy
unfolding is_bad is_taken
proxy_by m = record { same = refl }

bad_of_none : (test : List ℕ → Bool) (o : Option Data) → is_none o ≡ false → option_and_then as_str o ≡ None → bad_by test o ≡ true
bad_of_none test None there none = sym there
bad_of_none test (Some d) there none = rw none

bad_of_some : (test : List ℕ → Bool) (o : Option Data) (text : List ℕ) → option_and_then as_str o ≡ Some text → bad_by test o ≡ not (test text)
bad_of_some test None text some = absurd cc
bad_of_some test (Some d) text some = rw some

-- no text stands at a name that stands there
pub no_text : {m : Members} {s : Setting} {test : List ℕ → Bool} → IsByTest m s test → lacks m (setting_name s) ≡ false → text_at m s ≡ None → is_bad m s ≡ true
no_text {m} {s} {test} by there none = by.same ∙ bad_of_none test (get_member (setting_name s) m) there none

pub bad_text : {m : Members} {s : Setting} {test : List ℕ → Bool} (text : List ℕ) → IsByTest m s test → text_at m s ≡ Some text → test text ≡ false → is_bad m s ≡ true
bad_text {m} {s} {test} text by some fails = by.same ∙ bad_of_some test (get_member (setting_name s) m) text some ∙ ap not fails

pub good_text : {m : Members} {s : Setting} {test : List ℕ → Bool} (text : List ℕ) → IsByTest m s test → text_at m s ≡ Some text → test text ≡ true → is_bad m s ≡ false
good_text {m} {s} {test} text by some passes = by.same ∙ bad_of_some test (get_member (setting_name s) m) text some ∙ ap not passes

-- nothing stands there
pub good_absent : {m : Members} {s : Setting} {test : List ℕ → Bool} → IsByTest m s test → get_member (setting_name s) m ≡ None → is_bad m s ≡ false
good_absent {m} {s} {test} by none = by.same ∙ ap (bad_by test) none

pub text_given : (m : Members) (s : Setting) (text : List ℕ) → text_at m s ≡ Some text → text_in m s ≡ text
unfolding text_in
text_given m s text some = rw some

pub text_here : (m : Members) (s : Setting) (d : Data) (text : List ℕ) → get_member (setting_name s) m ≡ Some d → as_str d ≡ Some text → text_at m s ≡ Some text
text_here m s d text here is = rw here is

-- what stands there is no text
pub bad_value : {m : Members} {s : Setting} {test : List ℕ → Bool} (d : Data) → IsByTest m s test → get_member (setting_name s) m ≡ Some d → as_str d ≡ None → is_bad m s ≡ true
bad_value {m} {s} {test} d by here none = by.same ∙ ap (bad_by test) here ∙ ap (λ o. not (holds test o)) none

-- not too long, and no more seed lines than the limit
pub few_enough : (m : Members) (text : List ℕ) → length text ≤ 1048576 → count_by is_seed_line (lines text) ≤ seed_limit m → are_seeds m text ≡ true
few_enough m text short few = and_from (nat_le (length text) 1048576) (nat_le (count_by is_seed_line (lines text)) (seed_limit m)) (le-leb _ _ short) (le-leb _ _ few)

pub too_long : (m : Members) (text : List ℕ) → 1048576 < length text → are_seeds m text ≡ false
too_long m text long = let fails : nat_le (length text) 1048576 ≡ false = grind (arith, nat_tests) in rw fails

and_false : (a b : Bool) → b ≡ false → (a && b) ≡ false
and_false true b e = e
and_false false b e = refl

pub too_many : (m : Members) (text : List ℕ) → seed_limit m < count_by is_seed_line (lines text) → are_seeds m text ≡ false
too_many m text many =
    let fails : nat_le (count_by is_seed_line (lines text)) (seed_limit m) ≡ false = grind (arith, nat_tests) in
    and_false (nat_le (length text) 1048576) _ fails

pub within_most : (m : Members) (text : List ℕ) → count_by is_seed_line (lines text) ≤ seed_limit m → count_by is_seed_line (lines text) ≤ 200000
unfolding seed_limit
within_most m text few = omega arith

here_or_later : {X : Type 0} (p : X → Bool) (x y : X) (b : Bool) (more : Option X) → p x ≡ b → cond b (Some x) more ≡ Some y → (more ≡ Some y → p y ≡ true) → p y ≡ true
here_or_later p x y true more e is later = let same : x ≡ y = cc in ap p (sym same) ∙ e
here_or_later p x y false more e is later = later is

found_passes : {X : Type 0} (p : X → Bool) (xs : List X) (y : X) → find p xs ≡ Some y → p y ≡ true
found_passes p [] y is = absurd cc
found_passes p (x ∷ xs) y is = here_or_later p x y (p x) (find p xs) refl is (λ later. found_passes p xs y later)

-- the first bad number is bad
pub number_is_bad : (m : Members) (n : Number) → bad_number m ≡ Some n → is_bad m (setting.Number n) ≡ true
unfolding bad_number
number_is_bad m n is = found_passes (λ number. is_bad m (setting.Number number)) numbers n is
