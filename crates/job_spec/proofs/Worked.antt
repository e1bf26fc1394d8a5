-- The worked examples, computed.
use Rattle.std.proofs.Common.{refl}
use Rattle.std.specs.Fmt.{digits}
use Rattle.seed_list.specs.Lines.{trimmed}
use Rattle.url.proofs.OnLiterals.{url_on_literals}
use Rattle.job_spec.specs.Missing.{lacks_needed, is_missing, missing_name}
use Rattle.job_spec.specs.Numbers.{range_in, number_in}
use Rattle.job_spec.specs.OutOfRange.{seed_limit, is_taken, is_bad, out_of_range}
use Rattle.job_spec.specs.RuleNames.{kind_field, field_name, kind_name, fields_of, needed_of}
use Rattle.job_spec.specs.Rules.{kind_named, answer_named, rule_of, rule_in, rules_in}
use Rattle.job_spec.specs.Settings.{number_name, range_of, setting_name, setting_names}
use Rattle.job_spec.specs.Texts.{is_name, is_agent, is_address, is_proxy, is_surt}
use Rattle.job_spec.specs.Unknown.{unknown_in_rule, unknown_name}
use Rattle.job_spec.specs.Values.{least_other}
use Rattle.job_spec.specs.Worked.{AreWorked}

pub worked : AreWorked
unfolding url_on_literals digits trimmed lacks_needed is_missing missing_name range_in number_in seed_limit is_taken is_bad out_of_range kind_field field_name kind_name fields_of needed_of kind_named answer_named rule_of rule_in rules_in number_name range_of setting_name setting_names is_name is_agent is_address is_proxy is_surt unknown_in_rule unknown_name least_other
worked = record {
  known = refl;
  complete = refl;
  taken = refl;
  least_first = refl;
  longer_later = refl;
  not_of_kind = refl;
  of_any_kind = refl;
  top_first = refl;
  no_name = refl;
  no_agent = refl;
  no_max = refl;
  default = refl;
  given = refl;
  above = refl;
  below = refl;
  negative = refl;
  raised = refl;
  not_raised = refl;
  below_least = refl;
  least_is_bad = refl;
  most_seeds = refl;
  fewer_seeds = refl;
  bad_limit = refl;
  too_many_seeds = refl;
  no_rules = refl;
  empty_rules = refl;
  prefixes = refl;
  bad_prefix = refl;
  limit = refl;
  past_limit = refl;
  no_table = refl;
  no_kind = refl;
  name = refl;
  upper_name = refl;
  agent = refl;
  agent_version = refl;
  proxy = refl;
  no_port = refl;
  great_port = refl;
  port_of_zero = refl;
  two_ports = refl;
  other_scheme = refl;
}
