-- Worked examples of the definitions.
use Rattle.std.specs.Prelude.{◌≡◌, ℕ, true, false, List, [], ◌∷◌, codes, None}
use Rattle.crawl_kinds.specs.declared.event.Event.TheVariants.{Session, Seeds}
use Rattle.crawl_kinds.specs.declared.item.Item.{Item}
use Rattle.scope_spec.specs.declared.rule.Decision.TheVariants as decided
use Rattle.scope_spec.specs.declared.rule.Rule.TheVariants as rule
use Rattle.scope_spec.specs.Decision.{ScopeRules}
use Rattle.robots_spec.specs.declared.Rule.{Rule}
use Rattle.core_facts.specs.CoreFacts.{accepts_by, is_secure}
use Rattle.core_facts.specs.RobotsAnswer.{allows_path}
use Rattle.core_facts.specs.ValidEvent.{is_event}

-- pages of one domain, up to one hop away
abbrev scope : ScopeRules
scope =
    record {
      rules = rule.Surts decided.Accept (codes "http://(test,a," ∷ []) false ∷ rule.Hops 1 ∷ [];
      seeds = [];
    }

-- all below /x is forbidden but what ends with /y
abbrev rules : List Rule
rules = record { allows = false; pattern = codes "/x" } ∷ record { allows = true; pattern = codes "/x*/y$" } ∷ []

-- a seed
abbrev seed : List ℕ
seed = codes "https://www.a.test/"

-- its item, with this rank
abbrev added : ℕ → Item
added rank =
    record { key = codes "https://a.test/"; uri = seed; class = codes "test,a,www,#https"; path = []; via = None; rank = rank }

pub record AreWorked : Type 0 where
  pub accepted : accepts_by (scope ∷ []) 1 seed (codes "L") ≡ true
  pub far : accepts_by (scope ∷ []) 1 seed (codes "LL") ≡ false
  pub no_such_scope : accepts_by (scope ∷ []) 2 seed [] ≡ false
  pub none_at_0 : accepts_by (scope ∷ []) 0 seed [] ≡ false
  pub secure : is_secure seed ≡ true
  pub plain : is_secure (codes "http://https.test/") ≡ false
  pub allowed : allows_path rules (codes "/x/a/y") ≡ true
  pub forbidden : allows_path rules (codes "/x/a/yz") ≡ false
  pub other : allows_path rules (codes "/") ≡ true
  pub session : is_event (Session 7 (codes "sample") 1) ≡ true
  pub nameless : is_event (Session 7 [] 1) ≡ false
  pub too_late : is_event (Session 253402000000001 (codes "sample") 1) ≡ false
  pub seeds : is_event (Seeds 7 (seed ∷ []) (added 3 ∷ [])) ≡ true
  pub other_rank : is_event (Seeds 7 (seed ∷ []) (added 2 ∷ [])) ≡ false
