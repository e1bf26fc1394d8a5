-- The names of settings, part by part.
use Rattle.std.proofs.Common.{◌≡◌, ℕ, Bool, true, false, ◌||◌, List, [], ◌∷◌, ◌++◌, map, refl, ◌∙◌}
use Rattle.std.specs.Prelude.{bytes_eq}
use Rattle.std.specs.List.{list_any}
use Rattle.std.proofs.lemmas.List.Folds.{list_any-append}
use Rattle.job_spec.specs.declared.setting.Setting.{Setting}
use Rattle.job_spec.specs.declared.setting.Setting.TheVariants as setting
use Rattle.job_spec.specs.Settings.{needed, numbers, setting_name, setting_names, settings_in_order}
use Rattle.job_spec.specs.Values.{is_one_of}
use Rattle.job_order.proofs.Tables.{any_of_map}

or_false : (b : Bool) → (b || false) ≡ b
or_false true = refl
or_false false = refl

or_assoc : (a b c : Bool) → ((a || b) || c) ≡ (a || (b || c))
or_assoc true b c = refl
or_assoc false b c = refl

-- a name is one of those needed, or `proxy`, or a number's, or `rule`
pub split_settings : (name : List ℕ) → is_one_of setting_names name
    ≡ (list_any (λ s. bytes_eq name (setting_name s)) needed
    || (bytes_eq name (setting_name setting.Proxy)
    || (list_any (λ n. bytes_eq name (setting_name (setting.Number n))) numbers || bytes_eq name (setting_name setting.Rule))))
unfolding setting_names
split_settings name =
    let is : Setting → Bool = λ s. bytes_eq name (setting_name s) in
    let first = any_of_map (bytes_eq name) setting_name settings_in_order in
    let end = list_any-append is (needed ++ (setting.Proxy ∷ map setting.Number numbers)) (setting.Rule ∷ []) in
    let middle = list_any-append is needed (setting.Proxy ∷ map setting.Number numbers) in
    let numbered = any_of_map is setting.Number numbers in
    first ∙ end ∙ rw (or_false (is setting.Rule), middle, numbered) (simp or_assoc)
