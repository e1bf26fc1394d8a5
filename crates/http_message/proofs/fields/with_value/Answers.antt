use Rattle.std.proofs.Common.{[], ◌∷◌, ◌++◌, ap, subst}
use Rattle.httparse.specs.Spans.{span_bytes}
use Rattle.http_message.specs.Seen.{IsSeen}
use Rattle.http_message.specs.declared.fields.Seen.TheVariants.{One, Several}
use Rattle.http_message.proofs.fields.with_value.Goals as goal

pub returns-in-One : goal.returns-in-One
returns-in-One c = λ bytes values seen within.
    let s : IsSeen bytes values (One c.in-One.first) = subst (IsSeen bytes values) c.in-One.is seen in
    (_, [], ap (λ v. v ++ span_bytes bytes c.args.value ∷ []) s.0, s.1)

pub returns-in-Several : goal.returns-in-Several
returns-in-Several c = λ bytes values seen within.
    let s : IsSeen bytes values (Several c.in-Several.first) = subst (IsSeen bytes values) c.in-Several.is seen in
    (s.0, s.1 ++ span_bytes bytes c.args.value ∷ [], ap (λ v. v ++ span_bytes bytes c.args.value ∷ []) s.2, s.3)
