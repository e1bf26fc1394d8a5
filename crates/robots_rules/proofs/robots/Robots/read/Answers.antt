use Rattle.std.proofs.Common.{◌≡◌, ap, sym, ◌∙◌}
use Rattle.robots_spec.specs.Lines.{all_agents}
use Rattle.robots_rules.specs.declared.collector.Collector.{Collector}
use Rattle.robots_rules.specs.Reading.{read_by, robots_of}
use Rattle.robots_rules.proofs.Collecting.{read-named, read-all}
use Rattle.robots_rules.proofs.robots.Robots.read.Goals as goal

pub returns-then-named : goal.returns-then-named
returns-then-named c =
    let same : c.in_ok-named.named ≡ read_by c.args.agent.now c.args.text.now = c.in_ok-named.ensures ∙ ap (λ a. read_by a c.args.text.now) c.as_bytes.ensures.value in
    c.of.ensures ∙ ap (λ r. robots_of r) same ∙ read-named c.args.text.now c.args.agent.now (sym (ap (λ (r : Collector). r.found) same) ∙ c.if-named.true)

pub returns : goal.returns
returns c =
    let same : c.in_ok-named.named ≡ read_by c.args.agent.now c.args.text.now = c.in_ok-named.ensures ∙ ap (λ a. read_by a c.args.text.now) c.as_bytes.ensures.value in
    let all : c.in_ok-collected.field-0 ≡ read_by all_agents c.args.text.now = c.in_ok-collected.ensures in
    c.of-2.ensures ∙ ap (λ r. robots_of r) all ∙ read-all c.args.text.now c.args.agent.now (sym (ap (λ (r : Collector). r.found) same) ∙ c.if-named.false)
