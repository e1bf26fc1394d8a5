-- The facts of a history that settings and scopes give, over any pages.
--     accepts_by scopes number uri path      whether the scope of this number accepts the address
--     facts_with settings scopes pages      the facts
use Rattle.std.specs.Prelude.{ℕ, ◌-◌, Bool, true, false, ◌==◌, List, slice_get, codes, bytes_eq, Option, Some, None, if◌then◌else◌}
use Rattle.crawl_kinds.specs.declared.settings.Settings.{Settings}
use Rattle.crawl_kinds.specs.declared.event.Spot.{Spot}
use Rattle.crawl_kinds.specs.declared.event.End.{End}
use Rattle.crawl_kinds.specs.declared.snapshot.Edge.{Edge}
use Rattle.crawl_kinds.specs.Event.{Finishing}
use Rattle.crawl_history.specs.Facts.{Facts, Link}
use Rattle.journal_valid.specs.Items.{key_of}
use Rattle.robots_spec.specs.Groups.{agent_rules}
use Rattle.scope_spec.specs.declared.rule.Decision.{Decision}
use Rattle.scope_spec.specs.declared.rule.Decision.TheVariants.{Accept, Reject}
use Rattle.scope_spec.specs.Decision.{ScopeRules, decision}
use Rattle.scope_spec.specs.UriParts.{scheme_of}
use Rattle.uri_spec.specs.Surt.{class_text, robots_text, surt_text}
use Rattle.core_facts.specs.RobotsAnswer.{allows_uri}
use Rattle.core_facts.specs.ValidEvent.{is_event}

-- what a history takes from responses and records
pub record Pages : Type 0 where
  -- the payload of a block
  pub payload : List ℕ → List ℕ
  -- the links of the page at an address with this block, in order
  pub links : List ℕ → List ℕ → List Link
  -- whether status, size, type, digest and cut of an end are those of this block of an address
  pub fits : List ℕ → List ℕ → End → Bool
  -- where the records of a finish with this block go, after the last cited record
  pub next_spot : Option Edge → Finishing → List ℕ → Spot

-- whether the decision is to accept
abbrev pub is_accept : Decision → Bool
is_accept Accept = true
is_accept Reject = false

-- whether these rules accept an address that was found on this path
abbrev pub is_accepted : ScopeRules → List ℕ → List ℕ → Bool
is_accepted scope uri path = is_accept (decision scope.rules scope.seeds uri (surt_text uri) path)

-- the same, where there is such a scope
abbrev pub accepted_by : Option ScopeRules → List ℕ → List ℕ → Bool
accepted_by None uri path = false
accepted_by (Some scope) uri path = is_accepted scope uri path

-- the scope of this number; scopes are counted from 1
abbrev pub scope_at : List ScopeRules → ℕ → Option ScopeRules
scope_at scopes number = if number == 0 then None else slice_get scopes (number - 1)

-- whether the scope of this number accepts an address that was found on this path
abbrev pub accepts_by : List ScopeRules → ℕ → List ℕ → List ℕ → Bool
accepts_by scopes number uri path = accepted_by (scope_at scopes number) uri path

-- the scheme of the address is https
abbrev pub is_secure : List ℕ → Bool
is_secure uri = bytes_eq (scheme_of uri) (codes "https")

-- the facts of a job with these settings and scopes, over these pages
abbrev pub facts_with : Settings → List ScopeRules → Pages → Facts
facts_with settings scopes pages =
    record {
      settings = settings;
      key_of = key_of;
      class_of = class_text;
      robots_uri = robots_text;
      is_secure = is_secure;
      accepts = accepts_by scopes;
      allows = allows_uri settings.agent;
      delay = λ text. (agent_rules text settings.agent).delay;
      is_valid = is_event;
      payload = pages.payload;
      links = pages.links;
      fits = pages.fits;
      next_spot = pages.next_spot;
    }
