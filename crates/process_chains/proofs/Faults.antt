-- An ending names a fault only where that fault ended the fetch.
use Rattle.std.proofs.Common.{◌≡◌, inl, inr, ℕ, ℤ, pos, Bool, true, false, List, Option, Some, None, refl, sym, ◌∙◌, ap, subst, nat_lt}
use Rattle.std.specs.Prelude.{if◌then◌else◌}
use Rattle.std.proofs.lemmas.Bool.{cases_Bool}
use Rattle.std.specs.Ordering.{int_eq}
use Rattle.crawl_kinds.specs.declared.event.Fetch.{Fetch}
use Rattle.crawl_kinds.specs.declared.event.Outcome.TheVariants.{Failure, Retry}
use Rattle.crawl_kinds.specs.declared.event.Verdict.{Verdict}
use Rattle.crawl_kinds.specs.declared.event.Verdict.TheVariants.{Allowed, Precluded, Needed, Unsupported, Unreachable}
use Rattle.crawl_kinds.specs.declared.item.Work.{Work}
use Rattle.crawl_traits.specs.declared.link.Exchange.{Exchange}
use Rattle.crawl_traits.specs.declared.link.LinkFault.{LinkFault}
use Rattle.crawl_traits.specs.declared.link.LinkFault.TheVariants.{Refused, Lost, TimedOut}
use Rattle.crawl_history.specs.Codes.{no_cause, robots_needed, robots_precluded, robots_unreachable, too_many_tries, unsupported}
use Rattle.crawl_history.specs.Ends.{is_link_fault}
use Rattle.http_message.specs.declared.front.Reply.{Reply}
use Rattle.process_chains.specs.Endings.{answered, code_of, ending, faulty, headless, unfetched}
use Rattle.process_chains.specs.Ends.{World, Ends, Ended, IsOfFault}
use Rattle.process_chains.specs.declared.ending.Ending.{Ending}

false_is_true : false ≡ true → ⊥
false_is_true e = absurd (cc (e))

is_fault : (fault : LinkFault) → is_link_fault (code_of fault) ≡ true
is_fault Refused = refl
is_fault Lost = refl
is_fault TimedOut = refl

one_code : (f g : LinkFault) → code_of f ≡ code_of g → f ≡ g
one_code Refused Refused e = refl
one_code Refused Lost e = absurd (false_is_true (ap (λ c. int_eq c (code_of Lost)) e))
one_code Refused TimedOut e = absurd (false_is_true (ap (λ c. int_eq c (code_of TimedOut)) e))
one_code Lost Refused e = absurd (false_is_true (ap (λ c. int_eq c (code_of Refused)) e))
one_code Lost Lost e = refl
one_code Lost TimedOut e = absurd (false_is_true (ap (λ c. int_eq c (code_of TimedOut)) e))
one_code TimedOut Refused e = absurd (false_is_true (ap (λ c. int_eq c (code_of Refused)) e))
one_code TimedOut Lost e = absurd (false_is_true (ap (λ c. int_eq c (code_of Lost)) e))
one_code TimedOut TimedOut e = refl

-- a code that is no fault of the link names none
other_code : (code : ℤ) (fault : LinkFault) → is_link_fault code ≡ false → code ≡ code_of fault → ⊥
other_code code fault apart e = false_is_true (sym apart ∙ ap is_link_fault e ∙ is_fault fault)

other_last : (code : ℤ) → int_eq code too_many_tries ≡ false → code ≡ too_many_tries → ⊥
other_last code apart e = false_is_true (sym apart ∙ ap (λ c. int_eq c too_many_tries) e)

-- an ending whose code is neither names none
names_none : (one : Ending) (fault : LinkFault) → is_link_fault one.code ≡ false → int_eq one.code too_many_tries ≡ false → IsOfFault fault one → ⊥
names_none one fault apart last named = elim named [
  | inl code ↦ other_code one.code fault apart code
  | inr cause ↦ other_last one.code last cause.0
]

abbrev code_in : Option Ending → ℤ
code_in None = pos 0
code_in (Some one) = one.code

by_code : (code : ℤ) (one : Ending) (fault : LinkFault) → code ≡ one.code → is_link_fault code ≡ false → int_eq code too_many_tries ≡ false → IsOfFault fault one → ⊥
by_code code one fault is apart last named =
    names_none one fault (ap is_link_fault (sym is) ∙ apart) (ap (λ c. int_eq c too_many_tries) (sym is) ∙ last) named

unfetched_none : (verdict : Verdict) (tries : ℕ) (one : Ending) (fault : LinkFault) → unfetched verdict tries ≡ Some one → IsOfFault fault one → ⊥
unfetched_none Allowed tries one fault e named = absurd (cc (e))
unfetched_none Precluded tries one fault e named = by_code robots_precluded one fault (ap code_in e) refl refl named
unfetched_none Needed tries one fault e named = by_code robots_needed one fault (ap code_in e) refl refl named
unfetched_none Unsupported tries one fault e named = by_code unsupported one fault (ap code_in e) refl refl named
unfetched_none Unreachable tries one fault e named = by_code robots_unreachable one fault (ap code_in e) refl refl named

-- the endings by a fault: below the last try, and at it
abbrev either : LinkFault → Fetch → ℕ → Bool → Ending
either g span tries below =
    if below then ending Retry (code_of g) (Some span) tries no_cause else ending Failure too_many_tries (Some span) tries (code_of g)

-- an ending by a fault names no other
faulty_names : (g fault : LinkFault) (span : Fetch) (tries max_tries : ℕ) → IsOfFault fault (faulty g span tries max_tries) → fault ≡ g
faulty_names g fault span tries max_tries named = elim (cases_Bool (nat_lt tries max_tries)) [
  | inl less ↦ elim named [
    | inl code ↦ one_code fault g (sym code ∙ ap (λ (b : Bool). (either g span tries b).code) less)
    | inr cause ↦ absurd (false_is_true (ap is_link_fault (sym cause.0 ∙ ap (λ (b : Bool). (either g span tries b).code) less) ∙ is_fault g))
  ]
  | inr last ↦ elim named [
    | inl code ↦ absurd (false_is_true (ap is_link_fault (sym (ap (λ (b : Bool). (either g span tries b).code) last) ∙ code) ∙ is_fault fault))
    | inr cause ↦ one_code fault g (sym cause.1 ∙ ap (λ (b : Bool). (either g span tries b).notes.cause) last)
  ]
]

module _ (w : World) (work : Work) (one : Ending) (fault : LinkFault) (named : IsOfFault fault one) where
  rises_by : (reply : Option Reply) (seen : List Exchange) → Ends w work one reply seen → w.rose fault
  rises_by reply seen ends = elim ends [
    | inl u ↦ absurd (unfetched_none work.verdict work.tries one fault u.ends named)
    | inr fetched ↦ elim fetched.how [
      | inl came ↦ absurd (names_none (answered came.one.status came.span work.tries) fault refl refl (subst (λ (o : Ending). IsOfFault fault o) came.ends named))
      | inr other ↦ elim other [
        | inl by ↦ subst (λ (f : LinkFault). w.rose f)
            (sym (faulty_names by.fault fault by.span work.tries w.settings.max_tries (subst (λ (o : Ending). IsOfFault fault o) by.ends named))) by.rises
        | inr bare ↦ absurd (names_none (headless bare.span work.tries) fault refl refl (subst (λ (o : Ending). IsOfFault fault o) bare.ends named))
      ]
    ]
  ]

-- the fault that an ending names rose
pub rose_by : (w : World) (work : Work) (before after : List Exchange) (one : Ending) (reply : Option Reply) → Ended w work before after one reply
    → (fault : LinkFault) → IsOfFault fault one → w.rose fault
rose_by w work before after one reply is fault named = rises_by w work one fault named reply is.seen is.ends
