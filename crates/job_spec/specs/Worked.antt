-- Worked examples of the definitions.
use Rattle.std.specs.Prelude.{◌≡◌, ℕ, true, false, ℤ, pos, negsuc, List, [], ◌∷◌, codes, Some, None}
use Rattle.toml.specs.Data.{Data, Items, no_items, item, Members, no_members, member, string, integer, boolean, array, table}
use Rattle.scope_spec.specs.declared.rule.Decision.TheVariants as answer
use Rattle.scope_spec.specs.declared.rule.Rule.TheVariants as rule
use Rattle.job_spec.specs.declared.setting.Number.TheVariants.{Workers, MaxDelay}
use Rattle.job_spec.specs.declared.setting.Setting.TheVariants as setting
use Rattle.job_spec.specs.Missing.{missing_name}
use Rattle.job_spec.specs.Numbers.{number_in}
use Rattle.job_spec.specs.OutOfRange.{is_bad, out_of_range, seed_limit}
use Rattle.job_spec.specs.Rules.{default_rules, rules_in}
use Rattle.job_spec.specs.Texts.{is_name, is_agent, is_proxy, is_address}
use Rattle.job_spec.specs.Unknown.{unknown_name}

-- a table of one name
abbrev one : List ℕ → Data → Members
one name value = member name value no_members

-- a table with a list of rules
abbrev with_rules : Items → Members
with_rules rules = one (codes "rule") (array rules)

-- a table with one rule
abbrev with_rule : Members → Members
with_rule fields = with_rules (item (table fields) no_items)

-- the fields of a rule of some kind
abbrev of_kind : List ℕ → Members
of_kind name = one (codes "kind") (string name)

abbrev text : List ℕ → Items
text line = item (string line) no_items

-- what a job has to give
abbrev sample : Members
sample =
    member (codes "agent") (string (codes "sampler"))
    (member (codes "contact") (string (codes "http://example.org/bot"))
    (member (codes "name") (string (codes "sample"))
    (one (codes "seeds") (string (codes "a.test")))))

-- two delays
abbrev delays : ℤ → ℤ → Members
delays max min = member (codes "max_delay_ms") (integer max) (one (codes "min_delay_ms") (integer min))

-- prefixes of a rule
abbrev surts : Items → Members
surts prefixes =
    with_rule (member (codes "answer") (string (codes "reject"))
    (member (codes "kind") (string (codes "surts")) (one (codes "prefixes") (array prefixes))))

-- a limit of hops
abbrev hops : Data → Members
hops value = with_rule (member (codes "kind") (string (codes "hops")) (one (codes "max") value))

pub record AreWorked : Type 0 where
  pub known : unknown_name sample ≡ None
  pub complete : missing_name sample ≡ None
  pub taken : out_of_range sample ≡ None
  pub least_first : unknown_name (member (codes "Speed") (boolean true) (one (codes "height") (boolean true))) ≡ Some (codes "Speed")
  pub longer_later : unknown_name (member (codes "a") (boolean true) (one (codes "aa") (boolean true))) ≡ Some (codes "a")
  pub not_of_kind : unknown_name (with_rule (member (codes "kind") (string (codes "hops")) (one (codes "names") (boolean true)))) ≡ Some (codes "names")
  pub of_any_kind : unknown_name (with_rule (one (codes "names") (boolean true))) ≡ None
  pub top_first : unknown_name (member (codes "rule") (array (item (table (one (codes "a") (boolean true))) no_items)) (one (codes "speed") (boolean true))) ≡ Some (codes "speed")
  pub no_name : missing_name no_members ≡ Some (codes "name")
  pub no_agent : missing_name (one (codes "name") (boolean true)) ≡ Some (codes "agent")
  pub no_max : missing_name (member (codes "agent") (boolean true) (member (codes "contact") (boolean true) (member (codes "name") (boolean true) (member (codes "rule") (array (item (table (of_kind (codes "hops"))) no_items)) (one (codes "seeds") (boolean true)))))) ≡ Some (codes "rule")
  pub default : number_in no_members Workers ≡ 25
  pub given : number_in (one (codes "workers") (integer (pos 32))) Workers ≡ 32
  pub above : out_of_range (one (codes "workers") (integer (pos 33))) ≡ Some (codes "workers")
  pub below : out_of_range (one (codes "timeout_ms") (integer (pos 0))) ≡ Some (codes "timeout_ms")
  pub negative : out_of_range (one (codes "host_budget") (integer (negsuc 0))) ≡ Some (codes "host_budget")
  pub raised : number_in (one (codes "min_delay_ms") (integer (pos 40000))) MaxDelay ≡ 40000
  pub not_raised : number_in (one (codes "min_delay_ms") (integer (pos 20000))) MaxDelay ≡ 30000
  pub below_least : out_of_range (delays (pos 35000) (pos 40000)) ≡ Some (codes "max_delay_ms")
  pub least_is_bad : out_of_range (delays (pos 0) (pos 3600001)) ≡ Some (codes "min_delay_ms")
  pub most_seeds : seed_limit no_members ≡ 200000
  pub fewer_seeds : seed_limit (one (codes "max_keys") (integer (pos 3))) ≡ 3
  pub bad_limit : seed_limit (one (codes "max_keys") (integer (pos 0))) ≡ 200000
  pub too_many_seeds : out_of_range (member (codes "max_keys") (integer (pos 1)) (one (codes "seeds") (string (codes "a\n#b\n+c\n d ")))) ≡ Some (codes "seeds")
  pub no_rules : rules_in no_members ≡ default_rules
  pub empty_rules : rules_in (with_rules no_items) ≡ default_rules
  pub prefixes : rules_in (surts (text (codes "http://(org,"))) ≡ rule.Surts answer.Reject (codes "http://(org," ∷ []) false ∷ []
  pub bad_prefix : is_bad (surts (text (codes "a b"))) setting.Rule ≡ true
  pub limit : rules_in (hops (integer (pos 1000))) ≡ rule.Hops 1000 ∷ []
  pub past_limit : is_bad (hops (integer (pos 1001))) setting.Rule ≡ true
  pub no_table : is_bad (with_rules (text (codes "accept"))) setting.Rule ≡ true
  pub no_kind : is_bad (with_rule (of_kind (codes "hop"))) setting.Rule ≡ true
  pub name : is_name (codes "crawl-2") ≡ true
  pub upper_name : is_name (codes "Crawl") ≡ false
  pub agent : is_agent (codes "Yawlcloth_a-b") ≡ true
  pub agent_version : is_agent (codes "crawler/1") ≡ false
  pub proxy : is_proxy (codes "a-1.test:65535") ≡ true
  pub no_port : is_proxy (codes "a.test") ≡ false
  pub great_port : is_proxy (codes "a.test:65536") ≡ false
  pub port_of_zero : is_proxy (codes "a.test:080") ≡ false
  pub two_ports : is_proxy (codes "a:1:1") ≡ false
  pub other_scheme : is_address (codes "mailto:a@b.test") ≡ false
