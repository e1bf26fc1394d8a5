-- The rules that a job's tables write.
--     rule_in value      the rule that an entry of `rule` writes, where it is a table whose fields are all taken
--     rules_in table      the rules of a job
use Rattle.std.specs.Prelude.{ℕ, true, false, nat_le, List, [], ◌∷◌, map, codes, bytes_eq, find, Option, Some, None, unwrap_or, option_map, option_and_then, if◌then◌else◌}
use Rattle.std.specs.Option.{option_map_or}
use Rattle.toml.specs.Data.{Data, Members, get_member, as_str, as_bool, as_array, as_table}
use Rattle.scope_spec.specs.declared.rule.Decision.{Decision}
use Rattle.scope_spec.specs.declared.rule.Decision.TheVariants as answer
use Rattle.scope_spec.specs.declared.rule.Rule.{Rule}
use Rattle.scope_spec.specs.declared.rule.Rule.TheVariants as rule
use Rattle.job_spec.specs.declared.rule.Field.{Field}
use Rattle.job_spec.specs.declared.rule.Field.TheVariants.{Answer, Prefixes, Seeds, Max, Speculative, Patterns, Names}
use Rattle.job_spec.specs.declared.rule.Kind.{Kind}
use Rattle.job_spec.specs.declared.rule.Kind.TheVariants.{Accept, Reject, Surts, Hops, Transclusion, Regex, Pathological, Segments, Schemes}
use Rattle.job_spec.specs.declared.setting.Setting.TheVariants as setting
use Rattle.job_spec.specs.RuleNames.{kind_field, kind_name, field_name, kinds}
use Rattle.job_spec.specs.Settings.{setting_name}
use Rattle.job_spec.specs.Texts.{is_surt}
use Rattle.job_spec.specs.Values.{values_of, as_natural, passing, all_given}

-- the kind of a name
unfoldable pub kind_named : List ℕ → Option Kind
kind_named name = find (λ kind. bytes_eq (kind_name kind) name) kinds

-- the kind that a value names
abbrev pub as_kind : Data → Option Kind
as_kind value = option_and_then kind_named (as_str value)

-- the kind of a rule, where its `kind` names one
abbrev pub kind_of : Members → Option Kind
kind_of table = option_and_then as_kind (get_member kind_field table)

-- an answer
unfoldable pub answer_named : List ℕ → Option Decision
answer_named name =
    if bytes_eq name (codes "accept") then Some answer.Accept
    else (if bytes_eq name (codes "reject") then Some answer.Reject else None)

abbrev pub as_answer : Data → Option Decision
as_answer value = option_and_then answer_named (as_str value)

-- a number of a rule is at most 1000
abbrev pub as_limit : Data → Option ℕ
as_limit value = passing (λ n. nat_le n 1000) (as_natural value)

-- a SURT prefix
abbrev pub as_surt : Data → Option (List ℕ)
as_surt value = passing is_surt (as_str value)

-- a list whose items are all taken
abbrev pub as_list : {X : Type 0} → (Data → Option X) → Data → Option (List X)
as_list read value = option_and_then (λ items. all_given (map read (values_of items))) (as_array value)

-- what a field gives, where it stands there and is taken
abbrev pub given : {X : Type 0} → Members → Field → (Data → Option X) → Option X
given table field read = option_and_then read (get_member (field_name field) table)

-- the same of a field with a default
abbrev pub given_or : {X : Type 0} → X → Members → Field → (Data → Option X) → Option X
given_or default table field read = option_map_or read (get_member (field_name field) table) (Some default)

infixl 10 ◌>>=◌
abbrev pub ◌>>=◌ : {A B : Type 0} → Option A → (A → Option B) → Option B
value >>= more = option_and_then more value

-- the rule of a kind that a table writes
unfoldable pub rule_of : Kind → Members → Option Rule
rule_of Accept table = Some rule.Accept
rule_of Reject table = Some rule.Reject
rule_of Surts table = do
  answer ← given table Answer as_answer
  prefixes ← given_or [] table Prefixes (as_list as_surt)
  seeds ← given_or false table Seeds as_bool
  Some (rule.Surts answer prefixes seeds)
rule_of Hops table = option_map rule.Hops (given table Max as_limit)
rule_of Transclusion table = do
  max ← given table Max as_limit
  speculative ← given table Speculative as_limit
  Some (rule.Transclusion max speculative)
rule_of Regex table = do
  answer ← given table Answer as_answer
  patterns ← given table Patterns (as_list as_str)
  Some (rule.Regex answer patterns)
rule_of Pathological table = option_map rule.Pathological (given table Max as_limit)
rule_of Segments table = option_map rule.Segments (given table Max as_limit)
rule_of Schemes table = option_map rule.Schemes (given table Names (as_list as_str))

-- the rule that an entry writes
unfoldable pub rule_in : Data → Option Rule
rule_in value = do
  table ← as_table value
  kind ← kind_of table
  rule_of kind table

-- the rules where a job has none
abbrev pub default_rules : List Rule
default_rules =
    rule.Reject ∷ rule.Surts answer.Accept [] true ∷ rule.Hops 20 ∷ rule.Transclusion 2 1 ∷ rule.Pathological 2
    ∷ rule.Segments 20 ∷ rule.Schemes (codes "http" ∷ codes "https" ∷ []) ∷ []

-- these rules, or the defaults where there is none
abbrev pub or_defaults : List Rule → List Rule
or_defaults [] = default_rules
or_defaults (first ∷ rest) = first ∷ rest

-- the rules that the entries of `rule` write
unfoldable pub rules_in : Members → List Rule
rules_in table =
    or_defaults (unwrap_or (option_and_then (as_list rule_in) (get_member (setting_name setting.Rule) table)) [])
