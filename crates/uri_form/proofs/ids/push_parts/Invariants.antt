use Rattle.std.proofs.Common.{◌≡◌, ◌++◌, length, string_bytes, eqb}
use Rattle.std.specs.Prelude.{flat_map}
use Rattle.std.specs.List.{slice_split}
use denote.Text.{Utf8}
use denote.Shadow.{shadow}
use Rattle.uri_form.proofs.ids.push_parts.Given as goal

-- what is written and what the parts left will add make the whole
abbrev pub invariant-parts : goal.invariant-parts
invariant-parts g l = shadow (Utf8 l.rest) × (string_bytes l.out ++ flat_map g.P.Part.text (slice_split (λ b. eqb b l.mark) l.rest) ≡ string_bytes l.fn.out ++ flat_map g.P.Part.text (slice_split (λ b. eqb b l.mark) l.text))

abbrev pub decreases-parts : goal.decreases-parts
decreases-parts g l = length l.rest
