use Rattle.std.proofs.Common.{◌≡◌, length, eqb}
use denote.Text.{Utf8}
use denote.Shadow.{shadow}
use Rattle.url.specs.Input.{trim_end}
use Rattle.uri_spec.specs.SessionId.{ampersand}
use Rattle.uri_form.proofs.ids.without_end.Given as goal

abbrev pub invariant-ends : goal.invariant-ends
invariant-ends l = shadow (Utf8 l.rest) × (trim_end (λ b. eqb b ampersand) l.rest ≡ trim_end (λ b. eqb b ampersand) l.text)

abbrev pub decreases-ends : goal.decreases-ends
decreases-ends l = length l.rest
