-- The names that a table may have.
use Rattle.std.specs.Prelude.{ℕ, List}
use Rattle.job_spec.specs.Settings.{setting_names}
use Rattle.job_spec.specs.Unknown.{rule_names}
use Rattle.job_order.specs.declared.unknown.Known.{Known}
use Rattle.job_order.specs.declared.unknown.Known.TheVariants.{OfSettings, OfRule}

-- those of settings, or those of a rule of some kind
unfoldable pub known_names : Known → List (List ℕ)
known_names OfSettings = setting_names
known_names (OfRule kind) = rule_names kind
