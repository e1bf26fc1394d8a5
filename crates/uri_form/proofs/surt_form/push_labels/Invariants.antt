use Rattle.std.proofs.Common.{◌≡◌, ◌++◌, length, string_bytes}
use denote.Text.{Utf8}
use denote.Shadow.{shadow}
use Rattle.uri_spec.specs.Surt.{reversed_labels}
use Rattle.uri_form.proofs.surt_form.push_labels.Given as goal

-- what is written and what the labels left will add make the whole
abbrev pub invariant-labels : goal.invariant-labels
invariant-labels l = shadow (Utf8 l.rest) × (string_bytes l.out ++ reversed_labels l.rest ≡ string_bytes l.fn.out ++ reversed_labels l.name)

abbrev pub decreases-labels : goal.decreases-labels
decreases-labels l = length l.rest
