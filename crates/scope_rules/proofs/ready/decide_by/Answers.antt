use Rattle.std.proofs.Common.{◌≡◌, ◌∙◌, ◌++◌, ◌-◌, ◌≤◌, ap, sym, subst, take, length, arith}
use borrow.Rule.Slice.PartMut.{put_mid}
use Rattle.scope_spec.specs.Decision.{patterns_of, rule_patterns}
use Rattle.scope_rules.proofs.Deciding.{decision-some, decision-none, patterns-end, end-fits, front-of, back-of, put_back}
use Rattle.scope_rules.proofs.ready.decide_by.Goals as goal

pub overflow_sub-start : goal.overflow_sub-start
overflow_sub-start c =
    let last = c.in-Some.ensures.cases.0 in
    let own = c.rules.invariant.own ∙ patterns-end c.rules.left.now c.in-Some.earlier.now c.in-Some.rule.now last in
    let fits = end-fits c.rules.finders (patterns_of c.in-Some.earlier.now) (rule_patterns c.in-Some.rule.now) c.rules.end c.rules.invariant.within own in
    let count = ap length c.patterns.ensures in
    omega arith

pub answer-requires : goal.answer-requires
answer-requires c =
    let last = c.in-Some.ensures.cases.0 in
    let own = c.rules.invariant.own ∙ patterns-end c.rules.left.now c.in-Some.earlier.now c.in-Some.rule.now last ∙ ap (λ end. patterns_of c.in-Some.earlier.now ++ end) (sym c.patterns.ensures) in
    back-of c.rules.finders (patterns_of c.in-Some.earlier.now) c.patterns.result.now c.rules.end c.rules.invariant.within own
    ∙ c.patterns.ensures

pub returns-in-Some-answer-clause-decision : goal.returns-in-Some-answer-clause-decision
returns-in-Some-answer-clause-decision c =
    let a = c.args.candidate.now in
    sym (c.rules.invariant.decided
    ∙ decision-some c.rules.left.now c.in-Some.earlier.now c.in-Some.rule.now c.args.seeds.now a.uri a.surt a.path c.in-Some-answer.decision c.in-Some.ensures.cases.0 c.in-Some-answer.ensures.answer)

pub rules-preserved : goal.rules-preserved
rules-preserved c =
    let a = c.args.candidate.now in
    let last = c.in-Some.ensures.cases.0 in
    let own = c.rules.invariant.own ∙ patterns-end c.rules.left.now c.in-Some.earlier.now c.in-Some.rule.now last ∙ ap (λ end. patterns_of c.in-Some.earlier.now ++ end) (sym c.patterns.ensures) in
    let start = c.rules.end - length c.patterns.result.now in
    let back : put_mid start (c.rules.end - start) c.rules.finders c.answer.new.finders ≡ c.rules.finders = put_back c.rules.finders c.answer.new.finders start (c.rules.end - start) c.answer.ensures.same in
    let low : start ≤ length c.rules.finders = (let within = c.rules.invariant.within in omega arith) in
    record {
      same = back ∙ c.rules.invariant.same;
      within = subst (λ xs. start ≤ length xs) (sym back) low;
      own = ap (take start) back ∙ front-of c.rules.finders (patterns_of c.in-Some.earlier.now) c.patterns.result.now c.rules.end c.rules.invariant.within own;
      decided = c.rules.invariant.decided
          ∙ decision-none c.rules.left.now c.in-Some.earlier.now c.in-Some.rule.now c.args.seeds.now a.uri a.surt a.path last c.in_default-answer.ensures.answer;
    }
