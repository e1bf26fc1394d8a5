use Rattle.std.proofs.Common.{◌≡◌, take, drop, ap, sym, ◌∙◌}
use Rattle.std.specs.List.{slice_split, position_or_len}
use Rattle.robots_spec.specs.Lines.{is_line_end, line_of}
use Rattle.robots_rules.specs.Reading.{after, after_all}
use Rattle.robots_rules.proofs.LineSteps.{read-more}
use Rattle.robots_rules.proofs.robots.collected.Goals as goal

pub loop-rest-preserved : goal.loop-rest-preserved
loop-rest-preserved c =
    let agent = c.args.agent.now in
    let rest = c.loop-rest.rest.now in
    let cut : c.up_to.result.now ≡ take (position_or_len is_line_end rest) rest = c.up_to.ensures ∙ ap (λ n. take n rest) c.line_len-len.ensures in
    let field = c.line_of.ensures.field ∙ ap (λ xs. (line_of xs).field) cut in
    let value = c.line_of.ensures.value ∙ ap (λ xs. (line_of xs).value) cut in
    let taken : c.take.new.self ≡ after agent c.loop-rest.collector (line_of (take (position_or_len is_line_end rest) rest)) = c.in_ok-take.ensures ∙ (λ i. after agent c.loop-rest.collector (record { field = field i; value = value i })) in
    let left : c.from-rest.result.now ≡ drop 1 (drop (position_or_len is_line_end rest) rest) = c.from-rest.ensures ∙ ap (λ xs. drop 1 xs) (c.from.ensures ∙ ap (λ n. drop n rest) c.line_len-len.ensures) in
    (λ i. after_all agent (taken i) (slice_split is_line_end (left i))) ∙ sym (read-more agent c.loop-rest.collector rest) ∙ c.loop-rest.invariant
