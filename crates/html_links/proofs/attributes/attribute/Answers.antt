use Rattle.std.proofs.Common.{◌≡◌, ℕ, List, drop, ◌∙◌, ap, arith}
use Rattle.std.specs.List.{prefix_len}
use Rattle.link_spec.specs.Cut.{Piece}
use Rattle.link_spec.specs.Attributes.{is_name_byte, value_at}
use Rattle.html_links.proofs.Tags.{pair-some}
use Rattle.html_links.proofs.attributes.attribute.Goals as goal

pub returns-clause-some : goal.returns-clause-some
returns-clause-some c =
    let text = c.args.text.now in
    let n : c.name_len-len.result ≡ prefix_len is_name_byte text = c.name_len-len.ensures.count in
    let size : Piece (List ℕ) → ℕ = λ p. p.size in
    let v : c.value_at-value.result.size ≡ (value_at (drop (prefix_len is_name_byte text) text)).size = ap size (c.value_at-value.ensures.found ∙ ap value_at (c.from.ensures ∙ ap (λ k. drop k text) n)) in
    omega (arith, n, v, pair-some text c.requires.on c.requires.pair)
