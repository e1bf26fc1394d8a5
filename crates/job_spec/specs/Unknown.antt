-- Names that a job text may not have.
use Rattle.std.specs.Prelude.{ℕ, List, [], ◌∷◌, map, Option, Some, None, option_and_then}
use Rattle.std.specs.Option.{option_map_or}
use Rattle.toml.specs.Data.{Data, Members, get_member, as_array, as_table}
use Rattle.job_spec.specs.declared.rule.Field.{Field}
use Rattle.job_spec.specs.declared.rule.Kind.{Kind}
use Rattle.job_spec.specs.declared.setting.Setting.TheVariants as setting
use Rattle.job_spec.specs.RuleNames.{kind_field, field_name, fields, fields_of}
use Rattle.job_spec.specs.Rules.{kind_of}
use Rattle.job_spec.specs.Settings.{setting_name, setting_names}
use Rattle.job_spec.specs.Values.{values_of, least_other, first_given}

-- the entries of `rule`
abbrev pub entries : Members → List Data
entries table = option_map_or values_of (option_and_then as_array (get_member (setting_name setting.Rule) table)) []

-- the fields that a rule may have: those of its kind, or of all kinds where its kind is not known
abbrev pub fields_in : Option Kind → List Field
fields_in None = fields
fields_in (Some kind) = fields_of kind

-- the names that a rule may have
abbrev pub rule_names : Option Kind → List (List ℕ)
rule_names kind = kind_field ∷ map field_name (fields_in kind)

-- the least unknown name of a rule
unfoldable pub unknown_in_rule : Members → Option (List ℕ)
unknown_in_rule rule = least_other (rule_names (kind_of rule)) rule

-- the least unknown name of an entry of `rule` that is a table
abbrev pub unknown_in_entry : Data → Option (List ℕ)
unknown_in_entry entry = option_and_then unknown_in_rule (as_table entry)

-- the least unknown name of the top table, or else of the first rule that has one
unfoldable pub unknown_name : Members → Option (List ℕ)
unknown_name table = first_given (least_other setting_names table ∷ map unknown_in_entry (entries table))
