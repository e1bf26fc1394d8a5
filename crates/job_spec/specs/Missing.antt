-- What a job text has to give and does not.
use Rattle.std.specs.Prelude.{ℕ, Bool, ◌||◌, List, [], ◌∷◌, ◌++◌, find, Option, Some, None, is_none, option_map}
use Rattle.std.specs.List.{list_any}
use Rattle.toml.specs.Data.{Data, Members, as_table, get_member}
use Rattle.job_spec.specs.declared.rule.Field.{Field}
use Rattle.job_spec.specs.declared.rule.Kind.{Kind}
use Rattle.job_spec.specs.declared.setting.Setting.{Setting}
use Rattle.job_spec.specs.declared.setting.Setting.TheVariants as setting
use Rattle.job_spec.specs.RuleNames.{kind_field, field_name, needed_of}
use Rattle.job_spec.specs.Rules.{kind_of}
use Rattle.job_spec.specs.Settings.{setting_name, needed}
use Rattle.job_spec.specs.Unknown.{entries}
use Rattle.job_spec.specs.Values.{holds}

-- a table has no such name
abbrev pub lacks : Members → List ℕ → Bool
lacks table name = is_none (get_member name table)

-- what a rule needs beside its kind
abbrev pub needed_by : Option Kind → List Field
needed_by None = []
needed_by (Some kind) = needed_of kind

-- a rule has no kind, or not all that its kind needs
unfoldable pub lacks_needed : Members → Bool
lacks_needed rule =
    lacks rule kind_field || list_any (λ field. lacks rule (field_name field)) (needed_by (kind_of rule))

-- an entry of `rule` is a rule that does
abbrev pub is_lacking : Data → Bool
is_lacking entry = holds lacks_needed (as_table entry)

-- a setting is needed and does not stand there; of `rule`, what a rule needs
unfoldable pub is_missing : Members → Setting → Bool
is_missing table setting.Rule = list_any is_lacking (entries table)
is_missing table other = lacks table (setting_name other)

-- the first that is missing
unfoldable pub missing_name : Members → Option (List ℕ)
missing_name table = option_map setting_name (find (is_missing table) (needed ++ setting.Rule ∷ []))
