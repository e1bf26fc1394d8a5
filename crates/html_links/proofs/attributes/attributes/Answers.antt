use Rattle.std.proofs.Common.{◌≡◌, ◌+◌, ◌-◌, ◌<◌, true, false, length, drop, fold, sym, ◌∙◌, ap, arith, length-drop}
use Rattle.link_spec.specs.Cut.{given}
use Rattle.link_spec.specs.Attributes.{attribute, attribute_at, attributes_size, with_one}
use Rattle.html_links.specs.Reading.{begins_gap, goes_on}
use Rattle.html_links.proofs.Tags.{goes_on-some, list-gap, list-pair, list-end, size-gap, size-pair, size-end}
use Rattle.html_links.proofs.attributes.attributes.Goals as goal

pub loop-rest-preserved-then-begins_gap : goal.loop-rest-preserved-then-begins_gap
loop-rest-preserved-then-begins_gap c =
    let rest = c.loop-rest.rest.now in
    let on : goes_on rest ≡ true = sym c.goes_on.ensures.test ∙ c.loop-rest-test.true in
    let gap : begins_gap rest ≡ true = sym c.begins_gap.ensures ∙ c.if-begins_gap.true in
    let some : 0 < length rest = goes_on-some rest on in
    let within = c.loop-rest.invariant.within some in
    let left : length c.from-rest.result.now ≡ length rest - 1 = ap length c.from-rest.ensures ∙ length-drop 1 rest in
    let taken : attributes_size rest ≡ 1 + attributes_size c.from-rest.result.now = size-gap rest on gap ∙ ap (λ t. 1 + attributes_size t) (sym c.from-rest.ensures) in
    record {
      list = ap (λ t. fold with_one c.loop-rest.list (given attribute_at t)) c.from-rest.ensures ∙ list-gap c.loop-rest.list _ rest on gap c.loop-rest.invariant.list;
      size = omega (arith, taken, c.loop-rest.invariant.size);
      whole = omega (arith, within, some);
      within = λ h. omega (arith, within, left, some);
    }

pub loop-rest-preserved : goal.loop-rest-preserved
loop-rest-preserved c =
    let rest = c.loop-rest.rest.now in
    let pair = c.attribute-pair.result in
    let on : goes_on rest ≡ true = sym c.goes_on.ensures.test ∙ c.loop-rest-test.true in
    let off : begins_gap rest ≡ false = sym c.begins_gap.ensures ∙ c.if-begins_gap.false in
    let some : 0 < length rest = goes_on-some rest on in
    let within = c.loop-rest.invariant.within some in
    let same : pair.size ≡ (attribute rest).size = c.attribute-pair.ensures.size in
    let next : c.from-rest-else-begins_gap.result.now ≡ drop (attribute rest).size rest = c.from-rest-else-begins_gap.ensures ∙ ap (λ n. drop n rest) same in
    let kept : c.keep.new.kept ≡ fold with_one c.loop-rest.list (attribute rest).gives = c.in_ok-keep.ensures ∙ ap (λ xs. fold with_one c.loop-rest.list xs) c.attribute-pair.ensures.named in
    let left : length c.from-rest-else-begins_gap.result.now ≡ length rest - pair.size = ap length c.from-rest-else-begins_gap.ensures ∙ length-drop pair.size rest in
    let taken : attributes_size rest ≡ pair.size + attributes_size c.from-rest-else-begins_gap.result.now = size-pair rest on off ∙ (λ i. sym same i + attributes_size (sym next i)) in
    record {
      list = (λ i. fold with_one (kept i) (given attribute_at (next i))) ∙ list-pair c.loop-rest.list _ rest on off c.loop-rest.invariant.list;
      size = omega (arith, taken, c.loop-rest.invariant.size);
      whole = omega (arith, within, c.attribute-pair.ensures.within);
      within = λ h. omega (arith, within, left);
    }

pub returns-clause-list : goal.returns-clause-list
returns-clause-list c =
    let rest = c.loop-rest.rest.now in
    let off : goes_on rest ≡ false = sym c.goes_on.ensures.test ∙ c.loop-rest-test.false in
    list-end c.loop-rest.list _ rest off c.loop-rest.invariant.list

pub returns-clause-size : goal.returns-clause-size
returns-clause-size c =
    let rest = c.loop-rest.rest.now in
    let off : goes_on rest ≡ false = sym c.goes_on.ensures.test ∙ c.loop-rest-test.false in
    omega (arith, size-end rest off, c.loop-rest.invariant.size)
