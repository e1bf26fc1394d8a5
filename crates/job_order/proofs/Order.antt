-- The first setting that is bad.
use Rattle.std.proofs.Common.{◌≡◌, Bool, true, false, cond, List, [], ◌∷◌, ◌++◌, map, Option, Some, None, refl, sym, ap, ◌∙◌}
use Rattle.std.specs.Prelude.{find, option_map}
use Rattle.std.specs.List.{AllByRecursion}
use Rattle.std.specs.Option.{option_or}
use Rattle.toml.specs.Data.{Members}
use Rattle.job_spec.specs.declared.fault.JobFault.{JobFault}
use Rattle.job_spec.specs.declared.fault.JobFault.TheVariants as fault
use Rattle.job_spec.specs.declared.setting.Number.{Number}
use Rattle.job_spec.specs.declared.setting.Setting.{Setting}
use Rattle.job_spec.specs.declared.setting.Setting.TheVariants as setting
use Rattle.job_spec.specs.Job.{IsComplete, IsRefusalOf}
use Rattle.job_spec.specs.Missing.{is_missing, lacks, missing_name}
use Rattle.job_spec.specs.OutOfRange.{is_bad, out_of_range}
use Rattle.job_spec.specs.Settings.{needed, numbers, setting_name, settings_in_order}
use Rattle.job_order.specs.Steps.{IsFaultAt, bad_number}
use Rattle.job_order.proofs.Lacking.{find_append}

-- the first bad setting
abbrev pub first_bad : Members → Option Setting
first_bad m = find (is_bad m) settings_in_order

none_here : {X : Type 0} (p : X → Bool) (x : X) (b : Bool) (xs : List X) → p x ≡ b → cond b (Some x) (find p xs) ≡ None → (find p xs ≡ None → AllByRecursion (λ x. p x ≡ false) xs)
    → (p x ≡ false) × AllByRecursion (λ x. p x ≡ false) xs
none_here p x true xs is none more = absurd cc
none_here p x false xs is none more = (is, more none)

none_found : {X : Type 0} (p : X → Bool) (xs : List X) → find p xs ≡ None → AllByRecursion (λ x. p x ≡ false) xs
none_found p [] none = tt
none_found p (x ∷ xs) none = none_here p x (p x) xs refl none (λ later. none_found p xs later)

no_name : {X Y : Type 0} (f : X → Y) (o : Option X) → option_map f o ≡ None → o ≡ None
no_name f None none = refl
no_name f (Some x) none = absurd cc

-- what a job has to give stands there
pub record ArePresent (m : Members) : Type 0 where
  pub name : lacks m (setting_name setting.Name) ≡ false
  pub agent : lacks m (setting_name setting.Agent) ≡ false
  pub contact : lacks m (setting_name setting.Contact) ≡ false
  pub seeds : lacks m (setting_name setting.Seeds) ≡ false

pub present : (m : Members) → IsComplete m → ArePresent m
unfolding missing_name is_missing
present m complete =
    let all = none_found (is_missing m) (needed ++ setting.Rule ∷ []) (no_name setting_name _ complete.1) in
    record { name = all.0; agent = all.1.0; contact = all.1.1.0; seeds = all.1.1.1.0 }

-- a fault of the first bad setting refuses the table
pub first_refusal : (m : Members) (s : Setting) (given : JobFault) → IsComplete m → (is_bad m s ≡ true → first_bad m ≡ Some s) → IsFaultAt m s given → IsRefusalOf m given
unfolding IsRefusalOf out_of_range
first_refusal m s fault.NoMemory complete first is = tt
first_refusal m s (fault.OutOfRange name) complete first is = (complete, ap (option_map setting_name) (first is.0) ∙ ap Some (sym is.1))
first_refusal m s fault.TooLong complete first is = absurd is
first_refusal m s fault.NotToml complete first is = absurd is
first_refusal m s (fault.UnknownName name) complete first is = absurd is
first_refusal m s (fault.Missing name) complete first is = absurd is
first_refusal m s (fault.BadSeed line) complete first is = absurd is
first_refusal m s (fault.BadPattern index) complete first is = absurd is

pub at_name : (m : Members) → is_bad m setting.Name ≡ true → first_bad m ≡ Some setting.Name
at_name m bad = rw bad

pub at_agent : (m : Members) → is_bad m setting.Name ≡ false → is_bad m setting.Agent ≡ true → first_bad m ≡ Some setting.Agent
at_agent m a bad = rw (a, bad)

pub at_contact : (m : Members) → is_bad m setting.Name ≡ false → is_bad m setting.Agent ≡ false → is_bad m setting.Contact ≡ true → first_bad m ≡ Some setting.Contact
at_contact m a b bad = rw (a, b, bad)

pub at_seeds : (m : Members) → is_bad m setting.Name ≡ false → is_bad m setting.Agent ≡ false → is_bad m setting.Contact ≡ false → is_bad m setting.Seeds ≡ true → first_bad m ≡ Some setting.Seeds
at_seeds m a b c bad = rw (a, b, c, bad)

-- the settings before the numbers are good
pub record AreGoodTexts (m : Members) : Type 0 where
  pub name : is_bad m setting.Name ≡ false
  pub agent : is_bad m setting.Agent ≡ false
  pub contact : is_bad m setting.Contact ≡ false
  pub seeds : is_bad m setting.Seeds ≡ false

pub at_proxy : (m : Members) → AreGoodTexts m → is_bad m setting.Proxy ≡ true → first_bad m ≡ Some setting.Proxy
at_proxy m good bad = rw (good.name, good.agent, good.contact, good.seeds, bad)

found : {X Y : Type 0} (f : X → Y) (b : Bool) (x : X) (all : Option Y) (more : Option X) → all ≡ option_map f more → cond b (Some (f x)) all ≡ option_map f (cond b (Some x) more)
found f true x all more same = refl
found f false x all more same = same

found_map : {X Y : Type 0} (p : Y → Bool) (f : X → Y) (xs : List X) → find p (map f xs) ≡ option_map f (find (λ x. p (f x)) xs)
found_map p f [] = refl
found_map p f (x ∷ xs) = found f (p (f x)) x _ _ (found_map p f xs)

-- behind good texts the first bad number decides, and then the rules
behind_texts : (m : Members) → AreGoodTexts m → is_bad m setting.Proxy ≡ false → first_bad m ≡ option_or (option_map setting.Number (bad_number m)) (find (is_bad m) (setting.Rule ∷ []))
unfolding bad_number
behind_texts m good proxy =
    let texts : find (is_bad m) (needed ++ (setting.Proxy ∷ map setting.Number numbers)) ≡ find (is_bad m) (map setting.Number numbers) =
    rw (good.name, good.agent, good.contact, good.seeds, proxy) in
    find_append (is_bad m) (needed ++ (setting.Proxy ∷ map setting.Number numbers)) (setting.Rule ∷ [])
    ∙ ap (λ o. option_or o (find (is_bad m) (setting.Rule ∷ []))) (texts ∙ found_map (is_bad m) setting.Number numbers)

pub at_number : (m : Members) (n : Number) → AreGoodTexts m → is_bad m setting.Proxy ≡ false → bad_number m ≡ Some n → first_bad m ≡ Some (setting.Number n)
at_number m n good proxy found = behind_texts m good proxy ∙ rw found

pub at_rule : (m : Members) → AreGoodTexts m → is_bad m setting.Proxy ≡ false → bad_number m ≡ None → is_bad m setting.Rule ≡ true → first_bad m ≡ Some setting.Rule
at_rule m good proxy none bad = behind_texts m good proxy ∙ rw (none, bad)

pub none_bad : (m : Members) → AreGoodTexts m → is_bad m setting.Proxy ≡ false → bad_number m ≡ None → is_bad m setting.Rule ≡ false → out_of_range m ≡ None
unfolding out_of_range
none_bad m good proxy none rule =
    let nothing : first_bad m ≡ None = behind_texts m good proxy ∙ rw (none, rule) in
    ap (option_map setting_name) nothing
