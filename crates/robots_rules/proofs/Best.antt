-- The rule that decides, as far as a loop has come.
use Rattle.std.proofs.Common.{◌≡◌, ◌↔◌, inl, inr, ℕ, zero, suc, ◌+◌, ◌<◌, ◌≤◌, Bool, true, false, IsTrue, List, [], ◌∷◌, length, get_or, refl, sym, ◌∙◌, arith, below_more}
use Rattle.std.specs.List.{Contains}
use Rattle.std.proofs.lemmas.List.{get_or_default}
use Rattle.robots_spec.specs.declared.Rule.{Rule}
use Rattle.robots_spec.specs.Patterns.{Matches}
use Rattle.robots_spec.specs.Verdict.{IsLongest, RulesAllow}
use Rattle.robots_rules.specs.Ranks.{Outranks}

-- of the first i rules those that match have at most so many octets, and one of them decides as said
pub record IsBest (rules : List Rule) (path : List ℕ) (i longest : ℕ) (allowed : Bool) : Type 0 where
  pub most : (k : ℕ) (d : Rule) → k < i → Matches (get_or rules k d).pattern path → length (get_or rules k d).pattern ≤ longest
  pub reached : 0 < longest → (k : ℕ) × (k < i) × ((d : Rule) → Matches (get_or rules k d).pattern path × (length (get_or rules k d).pattern ≡ longest) × ((get_or rules k d).allows ≡ allowed))
  pub none : longest ≡ 0 → allowed ≡ true
  pub tie : allowed ≡ false → (k : ℕ) (d : Rule) → k < i → Matches (get_or rules k d).pattern path → (get_or rules k d).allows ≡ true → length (get_or rules k d).pattern < longest

pub best-start : (rules : List Rule) (path : List ℕ) → IsBest rules path 0 0 true
best-start rules path =
    record {
      most = λ k d h m. absurd (omega arith);
      reached = λ h. absurd (omega arith);
      none = λ h. refl;
      tie = λ e k d h m a. absurd (omega arith);
    }

long : (pattern path : List ℕ) → Matches pattern path → 0 < length pattern
long [] path m = absurd (m.0 refl)
long (b ∷ pattern) path m = omega arith

-- what holds below i, and of the element at i, holds below i + 1
below : (rules : List Rule) (i : ℕ) (rule : Rule) (P : Rule → Type 0) → i < length rules → rule ≡ get_or rules i rule → P rule → ((k : ℕ) (d : Rule) → k < i → P (get_or rules k d)) → (k : ℕ) (d : Rule) → k < i + 1 → P (get_or rules k d)
below rules i rule P h e p before k d within =
    let here : (d : Rule) → get_or rules i d ≡ rule = λ d. get_or_default rules i d rule h ∙ sym e in
    below_more (λ k. (d : Rule) → P (get_or rules k d)) i (λ k' within' d'. before k' d' within') (λ d'. rw here p) k within d

rank : (rule : Rule) (longest : ℕ) → Outranks rule longest → longest ≤ length rule.pattern
rank rule longest (inl h) = omega arith
rank rule longest (inr h) = omega (arith, h.0)

-- where the rule disallows, it outranks by its length
rank-disallow : (rule : Rule) (longest : ℕ) → Outranks rule longest → rule.allows ≡ false → longest < length rule.pattern
rank-disallow rule longest (inl h) e = h
rank-disallow rule longest (inr h) e = let both : true ≡ false = sym h.1 ∙ e in absurd (cc both)

pub best-takes : (rules : List Rule) (path : List ℕ) (i longest : ℕ) (allowed : Bool) (rule : Rule) → IsBest rules path i longest allowed → i < length rules → rule ≡ get_or rules i rule → Matches rule.pattern path → Outranks rule longest → IsBest rules path (i + 1) (length rule.pattern) rule.allows
best-takes rules path i longest allowed rule best h e m outranks =
    let more = rank rule longest outranks in
    let here : (d : Rule) → get_or rules i d ≡ rule = λ d. get_or_default rules i d rule h ∙ sym e in
    record {
      most = below rules i rule (λ r. Matches r.pattern path → length r.pattern ≤ length rule.pattern) h e (λ _. omega arith) (λ k d within m'. let least = best.most k d within m' in omega arith);
      reached = λ _. (i, omega arith, λ d. rw here (m, refl, refl));
      none = λ none. absurd (let some = long rule.pattern path m in omega arith);
      tie = λ disallows. let longer = rank-disallow rule longest outranks disallows in below rules i rule (λ r. Matches r.pattern path → r.allows ≡ true → length r.pattern < length rule.pattern) h e (λ _ a. let both : true ≡ false = sym a ∙ disallows in absurd (cc both)) (λ k d within m' a. let least = best.most k d within m' in omega arith);
    }

rank-not : (rule : Rule) (longest : ℕ) → ¬ Outranks rule longest → (length rule.pattern ≤ longest) × (rule.allows ≡ true → length rule.pattern < longest)
rank-not rule longest never =
    let not_longer : longest < length rule.pattern → ⊥ = λ h. never (inl h) in
    (omega arith, λ a. let not_as_long : longest ≡ length rule.pattern → ⊥ = λ e. never (inr (e, a)) in omega arith)

pub best-keeps : (rules : List Rule) (path : List ℕ) (i longest : ℕ) (allowed : Bool) (rule : Rule) → IsBest rules path i longest allowed → i < length rules → rule ≡ get_or rules i rule → (Matches rule.pattern path → ¬ Outranks rule longest) → IsBest rules path (i + 1) longest allowed
best-keeps rules path i longest allowed rule best h e never =
    record {
      most = below rules i rule (λ r. Matches r.pattern path → length r.pattern ≤ longest) h e (λ m. (rank-not rule longest (never m)).0) best.most;
      reached = λ some. let found = best.reached some in (found.0, omega (arith, found.1), found.2);
      none = best.none;
      tie = λ disallows. below rules i rule (λ r. Matches r.pattern path → r.allows ≡ true → length r.pattern < longest) h e (λ m a. (rank-not rule longest (never m)).1 a) (best.tie disallows);
    }

-- some rule, for places past the end
some_rule : Rule
some_rule = record { allows = true; pattern = [] }

-- a rule among the rules, as the element at its place
at_place : (P : Rule → Type 0) (rules : List Rule) (rule : Rule) (c : Contains rules rule) → P rule → P (get_or rules c.0 rule)
at_place P rules rule c p = rw c.2 p

back : (P : Rule → Type 0) (rules : List Rule) (rule : Rule) (c : Contains rules rule) → P (get_or rules c.0 rule) → P rule
back P rules rule c p = rw c.2 at p

no_longer : (rules : List Rule) (path : List ℕ) (longest : ℕ) (allowed : Bool) → IsBest rules path (length rules) longest allowed → (rule : Rule) → Contains rules rule → Matches rule.pattern path → length rule.pattern ≤ longest
no_longer rules path longest allowed best rule c m =
    back (λ r. length r.pattern ≤ longest) rules rule c (best.most c.0 rule c.1 (at_place (λ r. Matches r.pattern path) rules rule c m))

-- the rule that decides
deciding : (rules : List Rule) (path : List ℕ) (longest : ℕ) (allowed : Bool) → IsBest rules path (length rules) longest allowed → 0 < longest → (rule : Rule) × IsLongest rules path rule × (length rule.pattern ≡ longest) × (rule.allows ≡ allowed)
deciding rules path longest allowed best some =
    let found = best.reached some in
    let rule = get_or rules found.0 some_rule in
    let facts = found.2 some_rule in (
      rule,
      record {
        one_of = (found.0, found.1, get_or_default rules found.0 rule some_rule found.1);
        matches = facts.0;
        longest = λ other c m. let least = no_longer rules path longest allowed best other c m in omega (arith, facts.1);
      },
      facts.1,
      facts.2,
    )

allowed-true : (rules : List Rule) (path : List ℕ) (longest : ℕ) (allowed : Bool) → IsBest rules path (length rules) longest allowed → allowed ≡ true → RulesAllow rules path
allowed-true rules path zero allowed best e =
    inl (λ rule c m. let least = no_longer rules path zero allowed best rule c m in let some = long rule.pattern path m in absurd (omega arith))
allowed-true rules path (suc n) allowed best e =
    let found = deciding rules path (suc n) allowed best (omega arith) in
    inr (found.0, found.1, found.3 ∙ e)

allowed-false : (rules : List Rule) (path : List ℕ) (longest : ℕ) (allowed : Bool) → IsBest rules path (length rules) longest allowed → allowed ≡ false → RulesAllow rules path → ⊥
allowed-false rules path zero allowed best e says = let both : true ≡ false = sym (best.none refl) ∙ e in cc both
allowed-false rules path (suc n) allowed best e (inl none) =
    let found = deciding rules path (suc n) allowed best (omega arith) in none found.0 found.1.one_of found.1.matches
allowed-false rules path (suc n) allowed best e (inr (rule, is, allows)) =
    let found = deciding rules path (suc n) allowed best (omega arith) in
    let c = is.one_of in
    let short = back (λ r. r.allows ≡ true → length r.pattern < suc n) rules rule c (best.tie e c.0 rule c.1 (at_place (λ r. Matches r.pattern path) rules rule c is.matches)) allows in
    let least = is.longest found.0 found.1.one_of found.1.matches in
    omega (arith, found.2)

decided : (allowed : Bool) (P : Type 0) → (allowed ≡ true → P) → (allowed ≡ false → P → ⊥) → IsTrue allowed ↔ P
decided true P yes' no' = (λ _. yes' refl, λ _. refl)
decided false P yes' no' = (λ h. absurd (cc h), λ p. absurd (no' refl p))

pub best-end : (rules : List Rule) (path : List ℕ) (longest : ℕ) (allowed : Bool) → IsBest rules path (length rules) longest allowed → IsTrue allowed ↔ RulesAllow rules path
best-end rules path longest allowed best = decided allowed _ (allowed-true rules path longest allowed best) (allowed-false rules path longest allowed best)
