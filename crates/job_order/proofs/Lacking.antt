-- What is missing.
use Rattle.std.proofs.Common.{◌≡◌, Bool, true, false, cond, List, [], ◌∷◌, ◌++◌, map, Option, Some, None, find, refl, sym, ap, ◌∙◌}
use Rattle.std.specs.List.{list_any}
use Rattle.std.specs.Option.{option_or}
use Rattle.toml.specs.declared.value.Value.{Value}
use Rattle.toml.specs.Data.{Members}
use Rattle.toml.specs.View.{view}
use Rattle.job_spec.specs.declared.setting.Setting.{Setting}
use Rattle.job_spec.specs.declared.setting.Setting.TheVariants as setting
use Rattle.job_spec.specs.Missing.{is_lacking, is_missing, lacks}
use Rattle.job_spec.specs.Settings.{needed, setting_name}
use Rattle.job_spec.specs.Unknown.{entries}
use Rattle.job_order.proofs.Tables.{any_of_map}

abbrev lacks_setting : Members → Setting → Bool
lacks_setting m s = lacks m (setting_name s)

found : {X : Type 0} (b : Bool) (x : X) (all first second : Option X) → all ≡ option_or first second → cond b (Some x) all ≡ option_or (cond b (Some x) first) second
found true x all first second same = refl
found false x all first second same = same

-- the first of two lists that passes
pub find_append : {X : Type 0} (p : X → Bool) (xs ys : List X) → find p (xs ++ ys) ≡ option_or (find p xs) (find p ys)
find_append p [] ys = refl
find_append p (x ∷ xs) ys = found (p x) x _ _ _ (find_append p xs ys)

split : (m : Members) → find (is_missing m) (needed ++ setting.Rule ∷ []) ≡ option_or (find (lacks_setting m) needed) (find (is_missing m) (setting.Rule ∷ []))
unfolding is_missing
split m = find_append (is_missing m) needed (setting.Rule ∷ [])

of_rules : (m : Members) (vs : List Value) → map view vs ≡ entries m → is_missing m setting.Rule ≡ list_any (λ v. is_lacking (view v)) vs
unfolding is_missing
of_rules m vs same = ap (list_any is_lacking) (sym same) ∙ any_of_map is_lacking view vs

pub one_is_missing : (m : Members) (s : Setting) → find (lacks_setting m) needed ≡ Some s → Some s ≡ find (is_missing m) (needed ++ setting.Rule ∷ [])
one_is_missing m s found = sym (split m ∙ ap (λ o. option_or o (find (is_missing m) (setting.Rule ∷ []))) found)

pub rule_is_missing : (m : Members) (vs : List Value) → find (lacks_setting m) needed ≡ None → map view vs ≡ entries m → list_any (λ v. is_lacking (view v)) vs ≡ true
    → Some setting.Rule ≡ find (is_missing m) (needed ++ setting.Rule ∷ [])
rule_is_missing m vs none same one =
    sym (split m ∙ ap (λ o. option_or o (find (is_missing m) (setting.Rule ∷ []))) none ∙ rw (of_rules m vs same, one))

pub none_is_missing : (m : Members) (vs : List Value) → find (lacks_setting m) needed ≡ None → map view vs ≡ entries m → list_any (λ v. is_lacking (view v)) vs ≡ false
    → None ≡ find (is_missing m) (needed ++ setting.Rule ∷ [])
none_is_missing m vs none same no_rule =
    sym (split m ∙ ap (λ o. option_or o (find (is_missing m) (setting.Rule ∷ []))) none ∙ rw (of_rules m vs same, no_rule))
