use Rattle.std.proofs.Common.{◌≡◌, subst, true}
use Rattle.regex.specs.Failures.{IsRightKind}
use Rattle.regex.specs.Patterns.{default_config}
use Rattle.scope_spec.specs.Pattern.{is_pattern}
use Rattle.scope_rules.proofs.Patterns.{compiled_is_pattern, refused_is_no_pattern}
use Rattle.scope_rules.proofs.pattern.Pattern.of.Goals as goal

pub returns-in-Ok : goal.returns-in-Ok
returns-in-Ok c = (
  c.in-Ok.ensures.source,
  subst (λ t. is_pattern t ≡ true) c.in-Ok.ensures.source (compiled_is_pattern c.in-Ok.regex (c.in-Ok.ensures.config, c.in-Ok.ensures.read)),
)

pub returns-in-Err-Syntax : goal.returns-in-Err-Syntax
returns-in-Err-Syntax c =
    let kind = subst (λ e. IsRightKind default_config c.args.text.now e) c.in-Err-Syntax.field-0-is c.in-Err-Syntax.ensures.kind in
    refused_is_no_pattern c.args.text.now c.in-Err-Syntax.field-0-0.kind kind (c.in-Err-Syntax.ensures.by_grammar _ c.in-Err-Syntax.field-0-is)
