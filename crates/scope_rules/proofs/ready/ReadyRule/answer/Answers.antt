use Rattle.std.proofs.Common.{◌≡◌, ◌∙◌, ap, sym, not, bytes_eq}
use Rattle.std.specs.List.{list_any}
use Rattle.scope_spec.specs.declared.rule.Decision.TheVariants.{Reject}
use Rattle.scope_spec.specs.Answer.{answer_if, answer_of}
use Rattle.scope_spec.specs.Decision.{rule_patterns}
use Rattle.scope_spec.specs.Pattern.{is_found}
use Rattle.scope_spec.specs.UriParts.{scheme_of}
use Rattle.scope_rules.proofs.ready.ReadyRule.answer.Goals as goal

pub returns-in-Regex-clause-answer : goal.returns-in-Regex-clause-answer
returns-in-Regex-clause-answer c =
    let a = c.args.candidate.now in
    let rule = sym c.self.view_is ∙ c.in-Regex.is in
    let own : c.args.finders.now ≡ c.in-Regex.patterns = c.requires ∙ ap rule_patterns rule in
    let found : c.any_found.result ≡ list_any (λ p. is_found p a.uri) c.in-Regex.patterns = c.any_found.ensures.found
    ∙ ap (list_any (λ p. is_found p c.as_str.result.now)) own ∙ ap (λ text. list_any (λ p. is_found p text) c.in-Regex.patterns) c.as_str.ensures.same in
    c.answer_if-in-Regex.ensures ∙ ap (λ b. answer_if b c.in-Regex.answer) found ∙ ap (answer_of c.args.seeds.now a.uri a.surt a.path) (sym rule)

pub returns-in-Schemes-clause-answer : goal.returns-in-Schemes-clause-answer
returns-in-Schemes-clause-answer c =
    let a = c.args.candidate.now in
    let rule = sym c.self.view_is ∙ c.in-Schemes.is in
    let one : c.has_scheme.result ≡ list_any (λ name. bytes_eq name (scheme_of a.uri)) c.in-Schemes.names = c.has_scheme.ensures
    ∙ ap (list_any (λ name. bytes_eq name (scheme_of c.as_bytes-uri.result.now))) c.as_slice.ensures ∙ ap (λ uri. list_any (λ name. bytes_eq name (scheme_of uri)) c.in-Schemes.names) c.as_bytes-uri.ensures.same in
    c.answer_if-in-Schemes.ensures ∙ ap (λ b. answer_if (not b) Reject) one ∙ ap (answer_of c.args.seeds.now a.uri a.surt a.path) (sym rule)
