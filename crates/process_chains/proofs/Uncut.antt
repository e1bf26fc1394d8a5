-- No ending says that bytes of a response were cut off.
use Rattle.std.proofs.Common.{◌≡◌, inl, inr, ℕ, Bool, List, Option, Some, None, nat_lt, refl, sym, ap, subst, ◌∙◌}
use Rattle.std.specs.Prelude.{if◌then◌else◌}
use Rattle.std.proofs.lemmas.Bool.{cases_Bool}
use Rattle.crawl_kinds.specs.declared.event.Fetch.{Fetch}
use Rattle.crawl_kinds.specs.declared.event.Outcome.TheVariants.{Disregard, Failure, Retry}
use Rattle.crawl_kinds.specs.declared.event.Verdict.{Verdict}
use Rattle.crawl_kinds.specs.declared.event.Verdict.TheVariants.{Allowed, Precluded, Needed, Unsupported, Unreachable}
use Rattle.crawl_kinds.specs.declared.item.Work.{Work}
use Rattle.crawl_traits.specs.declared.link.Exchange.{Exchange}
use Rattle.crawl_traits.specs.declared.link.LinkFault.{LinkFault}
use Rattle.crawl_history.specs.Codes.{no_cause, robots_needed, robots_precluded, robots_unreachable, too_many_tries, unsupported}
use Rattle.http_message.specs.declared.front.Reply.{Reply}
use Rattle.process_chains.specs.Endings.{code_of, ending, faulty, unfetched}
use Rattle.process_chains.specs.Ends.{World, Ends}
use Rattle.process_chains.specs.declared.ending.Ending.{Ending}

abbrev IsUncut : Ending → Type 0
IsUncut one = one.notes.cut ≡ None

-- under a verdict that allows no fetch
unfetched_uncut : (verdict : Verdict) (tries : ℕ) (one : Ending) → unfetched verdict tries ≡ Some one → IsUncut one
unfetched_uncut Allowed tries one e = absurd (cc (e))
unfetched_uncut Precluded tries one e = let is : ending Disregard robots_precluded None tries no_cause ≡ one = cc (e) in subst IsUncut is refl
unfetched_uncut Needed tries one e = let is : ending Retry robots_needed None tries no_cause ≡ one = cc (e) in subst IsUncut is refl
unfetched_uncut Unsupported tries one e = let is : ending Failure unsupported None tries no_cause ≡ one = cc (e) in subst IsUncut is refl
unfetched_uncut Unreachable tries one e = let is : ending Failure robots_unreachable None tries no_cause ≡ one = cc (e) in subst IsUncut is refl

-- after a fault of the link
faulty_uncut : (fault : LinkFault) (span : Fetch) (tries max_tries : ℕ) → IsUncut (faulty fault span tries max_tries)
faulty_uncut fault span tries max_tries =
    let again : Ending = ending Retry (code_of fault) (Some span) tries no_cause in
    let out : Ending = ending Failure too_many_tries (Some span) tries (code_of fault) in
    let P : Bool → Type 0 = λ b. IsUncut (if b then again else out) in
    elim (cases_Bool (nat_lt tries max_tries)) [ inl less ↦ subst P (sym less) refl | inr last ↦ subst P (sym last) refl ]

-- whatever it was
pub ends_uncut : (w : World) (work : Work) (one : Ending) (reply : Option Reply) (seen : List Exchange) → Ends w work one reply seen → one.notes.cut ≡ None
ends_uncut w work one reply seen ends = elim ends [
  | inl u ↦ unfetched_uncut work.verdict work.tries one u.ends
  | inr fetched ↦ elim fetched.how [
    | inl came ↦ ap (λ (e : Ending). e.notes.cut) came.ends
    | inr other ↦ elim other [
      | inl fault ↦ ap (λ (e : Ending). e.notes.cut) fault.ends ∙ faulty_uncut fault.fault fault.span work.tries w.settings.max_tries
      | inr bare ↦ ap (λ (e : Ending). e.notes.cut) bare.ends
    ]
  ]
]
