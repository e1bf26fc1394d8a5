-- Where nothing is missing and nothing is bad: each setting.
use Rattle.std.proofs.Common.{◌≡◌, Bool, true, false, cond, List, [], ◌∷◌, ◌++◌, Option, Some, None, refl}
use Rattle.std.specs.Prelude.{find, option_map}
use Rattle.std.specs.List.{AllByRecursion}
use Rattle.toml.specs.Data.{Members}
use Rattle.job_spec.specs.declared.setting.Setting.TheVariants as setting
use Rattle.job_spec.specs.Missing.{is_missing, lacks, missing_name}
use Rattle.job_spec.specs.OutOfRange.{is_bad, out_of_range}
use Rattle.job_spec.specs.Settings.{needed, setting_name, settings_in_order}

none_here : {X : Type 0} (p : X → Bool) (x : X) (b : Bool) (xs : List X) → p x ≡ b → cond b (Some x) (find p xs) ≡ None → (find p xs ≡ None → AllByRecursion (λ x. p x ≡ false) xs)
    → (p x ≡ false) × AllByRecursion (λ x. p x ≡ false) xs
none_here p x true xs is none more = absurd cc
none_here p x false xs is none more = (is, more none)

-- where none is found, each fails the test
none_found : {X : Type 0} (p : X → Bool) (xs : List X) → find p xs ≡ None → AllByRecursion (λ x. p x ≡ false) xs
none_found p [] none = tt
none_found p (x ∷ xs) none = none_here p x (p x) xs refl none (λ later. none_found p xs later)

no_name : {X Y : Type 0} (f : X → Y) (o : Option X) → option_map f o ≡ None → o ≡ None
no_name f None none = refl
no_name f (Some x) none = absurd cc

-- texts that a job has to give stand there
pub record ArePresent (m : Members) : Type 0 where
  pub name : lacks m (setting_name setting.Name) ≡ false
  pub agent : lacks m (setting_name setting.Agent) ≡ false
  pub seeds : lacks m (setting_name setting.Seeds) ≡ false

pub present : (m : Members) → missing_name m ≡ None → ArePresent m
unfolding missing_name is_missing
present m complete =
    let all = none_found (is_missing m) (needed ++ setting.Rule ∷ []) (no_name setting_name _ complete) in
    record { name = all.0; agent = all.1.0; seeds = all.1.1.1.0 }

-- texts of a job are taken
pub record AreTaken (m : Members) : Type 0 where
  pub name : is_bad m setting.Name ≡ false
  pub agent : is_bad m setting.Agent ≡ false
  pub seeds : is_bad m setting.Seeds ≡ false
  pub proxy : is_bad m setting.Proxy ≡ false

pub taken : (m : Members) → out_of_range m ≡ None → AreTaken m
unfolding out_of_range
taken m within =
    let all = none_found (is_bad m) settings_in_order (no_name setting_name _ within) in
    record { name = all.0; agent = all.1.0; seeds = all.1.1.1.0; proxy = all.1.1.1.1.0 }
