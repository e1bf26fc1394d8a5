-- What kind a line is, and what follows for its seed and its prefix.
use Rattle.std.proofs.Common.{◌≡◌, ◌≢◌, ◌⊎◌, ℕ, Bool, true, false, not, ◌&&◌, ◌||◌, cond, nat_eq, List, [], ◌∷◌, drop, Option, Some, None, Result, Ok, Err, refl, inl, inr, ap, ◌∙◌, eqb-true}
use Rattle.std.specs.Prelude.{is_none, codes}
use Rattle.std.specs.List.{starts_with}
use Rattle.std.specs.Result.{result_ok}
use Rattle.std.proofs.lemmas.Bool.Decides.{eqb_tells}
use Rattle.url.specs.Parser.{parse_url}
use Rattle.uri_spec.specs.Prefix.{names_a_path, seed_text}
use Rattle.uri_form.specs.declared.fault.UriFault.{UriFault}
use Rattle.uri_form.specs.Fault.{address_in}
use Rattle.uri_form.specs.Prefix.{prefix_from}
use Rattle.seed_list.specs.Lines.{is_passed, is_prefix_line, is_seed_line, plus_sign}
use Rattle.seed_list.specs.Seeds.{is_refused, prefix_behind, prefix_of, prefix_of_seed, seed_of, surt_of}

pub behind_stated : (rest : List ℕ) → starts_with nat_eq rest (codes "http://(") ≡ true → prefix_behind rest ≡ surt_of rest
unfolding prefix_behind
behind_stated rest h = ap (λ b. cond b (surt_of rest) (prefix_of_seed rest)) h

pub behind_made : (rest : List ℕ) → starts_with nat_eq rest (codes "http://(") ≡ false → prefix_behind rest ≡ prefix_of_seed rest
unfolding prefix_behind
behind_made rest h = ap (λ b. cond b (surt_of rest) (prefix_of_seed rest)) h

-- a line that is passed over is of no other kind
pub passed_no_prefix : (line : List ℕ) → is_passed line ≡ true → is_prefix_line line ≡ false
passed_no_prefix [] h = refl
passed_no_prefix (b ∷ line) h = ap (λ (n : ℕ). nat_eq n plus_sign) (eqb-true b 35 h)

pub passed_no_seed : (line : List ℕ) → is_passed line ≡ true → is_seed_line line ≡ false
passed_no_seed line h = ap (λ b. not (b || is_prefix_line line)) h

neither : (a b : Bool) → not (a || b) ≡ true → b ≡ false
neither a false h = refl
neither true true h = cc h
neither false true h = cc h

pub seed_no_prefix : (line : List ℕ) → is_seed_line line ≡ true → is_prefix_line line ≡ false
seed_no_prefix line h = neither (is_passed line) (is_prefix_line line) h

pub other_is_seed : (line : List ℕ) → is_passed line ≡ false → is_prefix_line line ≡ false → is_seed_line line ≡ true
other_is_seed line passed prefix = ap (λ a. not (a || is_prefix_line line)) passed ∙ ap (λ b. not (false || b)) prefix

pub prefix_of_seed_line : (line : List ℕ) → is_seed_line line ≡ true → prefix_of line ≡ prefix_of_seed line
unfolding prefix_of
prefix_of_seed_line line h =
    ap (λ b. cond b (prefix_behind (drop 1 line)) (cond (is_seed_line line) (prefix_of_seed line) None)) (seed_no_prefix line h)
    ∙ ap (λ b. cond b (prefix_of_seed line) None) h

pub prefix_of_marked : (rest : List ℕ) → prefix_of (plus_sign ∷ rest) ≡ prefix_behind rest
unfolding prefix_of
prefix_of_marked rest = refl

pub prefix_of_passed : (line : List ℕ) → is_passed line ≡ true → prefix_of line ≡ None
unfolding prefix_of
prefix_of_passed line h =
    ap (λ b. cond b (prefix_behind (drop 1 line)) (cond (is_seed_line line) (prefix_of_seed line) None)) (passed_no_prefix line h)
    ∙ ap (λ b. cond b (prefix_of_seed line) None) (passed_no_seed line h)

no_prefix : (named : Bool) (address : Result (List ℕ) UriFault) → result_ok (prefix_from named address) ≡ None → result_ok address ≡ None
no_prefix named (Ok text) h = cc h
no_prefix named (Err fault) h = refl

-- what makes no prefix as a seed is no seed
pub no_prefix_no_seed : (line : List ℕ) → prefix_of_seed line ≡ None → seed_of line ≡ None
unfolding prefix_of_seed seed_of
no_prefix_no_seed line h = no_prefix (names_a_path line) (address_in (seed_text line) (parse_url None (seed_text line))) h

none_test : {T : Type 0} (o : Option T) → is_none o ≡ true → o ≡ None
none_test None h = refl
none_test (Some x) h = cc h

either : (a b : Bool) → (a || b) ≡ true → (a ≡ true) ⊎ (b ≡ true)
either true b h = inl refl
either false b h = inr h

both : (a b : Bool) → (a && b) ≡ true → (a ≡ true) × (b ≡ true)
both true b h = (refl, h)
both false b h = cc h

pub refused_cases : (line : List ℕ) → is_refused line ≡ true
    → ((is_seed_line line ≡ true) × (seed_of line ≡ None)) ⊎ ((is_prefix_line line ≡ true) × (prefix_of line ≡ None))
unfolding is_refused
refused_cases line h =
    elim (either (is_seed_line line && is_none (seed_of line)) (is_prefix_line line && is_none (prefix_of line)) h) [
      | inl s ↦ let p = both (is_seed_line line) (is_none (seed_of line)) s in inl (p.0, none_test (seed_of line) p.1)
      | inr s ↦ let p = both (is_prefix_line line) (is_none (prefix_of line)) s in inr (p.0, none_test (prefix_of line) p.1)
    ]

or_true : (a : Bool) → (a || true) ≡ true
or_true true = refl
or_true false = refl

pub refused_seed : (line : List ℕ) → is_seed_line line ≡ true → seed_of line ≡ None → is_refused line ≡ true
unfolding is_refused
refused_seed line kind none =
    ap (λ a. (a && is_none (seed_of line)) || (is_prefix_line line && is_none (prefix_of line))) kind
    ∙ ap (λ (o : Option (List ℕ)). is_none o || (is_prefix_line line && is_none (prefix_of line))) none

pub refused_prefix : (line : List ℕ) → is_prefix_line line ≡ true → prefix_of line ≡ None → is_refused line ≡ true
unfolding is_refused
refused_prefix line kind none =
    ap (λ a. (is_seed_line line && is_none (seed_of line)) || (a && is_none (prefix_of line))) kind
    ∙ ap (λ (o : Option (List ℕ)). (is_seed_line line && is_none (seed_of line)) || is_none o) none
    ∙ or_true (is_seed_line line && is_none (seed_of line))

pub unmarked : (line : List ℕ) → ((rest : List ℕ) → line ≢ plus_sign ∷ rest) → is_prefix_line line ≡ false
unmarked [] h = refl
unmarked (b ∷ line) h =
    elim (eqb_tells b plus_sign) [
      | inl same ↦ absurd (h line (ap (λ (n : ℕ). n ∷ line) same.1))
      | inr other ↦ other.0
    ]
