-- The end of an item that was processed is one that a line of the journal can name.
use Rattle.std.proofs.Common.{◌≡◌, inl, inr, ℕ, pos, ◌≤◌, ◌<◌, ◌^◌, Bool, true, false, not, ◌&&◌, ◌||◌, ◌==◌, List, length, drop, Option, Some, None, refl, sym, subst, arith, le-leb}
use Rattle.std.specs.Prelude.{nat_le, nat_lt, codes, if◌then◌else◌}
use Rattle.std.proofs.lemmas.Bool.{and_parts, cases_Bool, leb-true}
use Rattle.crawl_kinds.specs.declared.event.Body.{Body}
use Rattle.crawl_kinds.specs.declared.event.Fetch.{Fetch}
use Rattle.crawl_kinds.specs.declared.event.Outcome.TheVariants.{Disregard, Failure, Retry}
use Rattle.crawl_kinds.specs.declared.event.Verdict.{Verdict}
use Rattle.crawl_kinds.specs.declared.event.Verdict.TheVariants.{Allowed, Precluded, Needed, Unsupported, Unreachable}
use Rattle.crawl_kinds.specs.declared.item.Work.{Work}
use Rattle.crawl_traits.specs.declared.link.Exchange.{Exchange}
use Rattle.crawl_traits.specs.declared.link.LinkFault.{LinkFault}
use Rattle.crawl_traits.specs.declared.link.LinkFault.TheVariants.{Refused, Lost, TimedOut}
use Rattle.crawl_history.specs.Codes.{no_cause, robots_needed, robots_precluded, robots_unreachable, too_many_tries, unsupported}
use Rattle.http_fetch.specs.Fetching.{IsSpanOf}
use Rattle.http_message.specs.declared.front.Reply.{Reply}
use Rattle.httparse.specs.Grammar.{status_code}
use Rattle.journal_valid.specs.Ends.{IsBody, IsEnd, IsFetch, is_status}
use Rattle.page_spec.specs.Fields.{Pair, announced, is_absent, is_page, one_count, values_of}
use Rattle.page_spec.specs.Response.{fields_of}
use Rattle.process_chains.specs.Done.{IsReply}
use Rattle.process_chains.specs.Endings.{answered, code_of, end_with, ending, faulty, headless, unfetched}
use Rattle.process_chains.specs.Ends.{World, Ends}
use Rattle.process_chains.specs.declared.ending.Ending.{Ending}

span_fits : (gives : ℕ → Type 0) (span : Fetch) → IsSpanOf gives span → IsFetch span
span_fits gives span is = record { start = omega (arith, is.start); duration = omega (arith, is.duration) }

chosen : (b : Bool) (count : Option ℕ) (n : ℕ) → (if b then count else None) ≡ Some n → b ≡ true
chosen true count n e = refl
chosen false count n e = absurd (cc (e))

-- what announces a body has the status of a page
page_status : (status : ℕ) (fields : List Pair) (n : ℕ) → announced status fields ≡ Some n → status ≤ 599
page_status status fields n counted =
    let is = chosen (is_page status && is_absent (values_of (codes "transfer-encoding") fields)) (one_count (values_of (codes "content-length") fields)) n counted in
    let one = and_parts (is_page status) (is_absent (values_of (codes "transfer-encoding") fields)) is in
    let two = and_parts (nat_le 200 status) (nat_le status 599 && not (status == 204 || status == 304)) one.0 in
    let three = and_parts (nat_le status 599) (not (status == 204 || status == 304)) two.1 in
    leb-true status 599 three.0

status_is : (limit : ℕ) (reply : Reply) → IsReply limit reply → is_status (pos reply.status) ≡ true
status_is limit reply is =
    let small = page_status (status_code is.h) (fields_of is.h) (length (drop reply.head_len reply.block)) is.whole.counted in
    le-leb reply.status 999 (omega (arith, is.status_is, small))

module _ (tries : ℕ) (first : 1 ≤ tries) (small : tries < 2 ^ 32) where
  unfetched_valid : (verdict : Verdict) (one : Ending) → unfetched verdict tries ≡ Some one → IsEnd (end_with one None)
  unfetched_valid Allowed one e = absurd (cc (e))
  unfetched_valid Precluded one e =
      let is : ending Disregard robots_precluded None tries no_cause ≡ one = cc (e) in
      subst (λ (x : Ending). IsEnd (end_with x None)) is (record { outcome = refl; fetched = refl; fetch = tt; recorded = refl; body = tt; notes = record { first = first; tries = small; cause = refl }; caused = refl })
  unfetched_valid Needed one e =
      let is : ending Retry robots_needed None tries no_cause ≡ one = cc (e) in
      subst (λ (x : Ending). IsEnd (end_with x None)) is (record { outcome = refl; fetched = refl; fetch = tt; recorded = refl; body = tt; notes = record { first = first; tries = small; cause = refl }; caused = refl })
  unfetched_valid Unsupported one e =
      let is : ending Failure unsupported None tries no_cause ≡ one = cc (e) in
      subst (λ (x : Ending). IsEnd (end_with x None)) is (record { outcome = refl; fetched = refl; fetch = tt; recorded = refl; body = tt; notes = record { first = first; tries = small; cause = refl }; caused = refl })
  unfetched_valid Unreachable one e =
      let is : ending Failure robots_unreachable None tries no_cause ≡ one = cc (e) in
      subst (λ (x : Ending). IsEnd (end_with x None)) is (record { outcome = refl; fetched = refl; fetch = tt; recorded = refl; body = tt; notes = record { first = first; tries = small; cause = refl }; caused = refl })

  module _ (span : Fetch) (fetch : IsFetch span) where
    headless_valid : IsEnd (end_with (headless span tries) None)
    headless_valid =
        record { outcome = refl; fetched = refl; fetch = fetch; recorded = refl; body = tt; notes = record { first = first; tries = small; cause = refl }; caused = refl }

    answered_valid : (status : ℕ) (body : Body) → is_status (pos status) ≡ true → IsBody body → IsEnd (end_with (answered status span tries) (Some body))
    answered_valid status body is fits = record {
      outcome = rw is refl;
      fetched = refl;
      fetch = fetch;
      recorded = sym is;
      body = fits;
      notes = record { first = first; tries = small; cause = refl };
      caused = refl;
    }

    retry_valid : (fault : LinkFault) → IsEnd (end_with (ending Retry (code_of fault) (Some span) tries no_cause) None)
    retry_valid Refused = record { outcome = refl; fetched = refl; fetch = fetch; recorded = refl; body = tt; notes = record { first = first; tries = small; cause = refl }; caused = refl }
    retry_valid Lost = record { outcome = refl; fetched = refl; fetch = fetch; recorded = refl; body = tt; notes = record { first = first; tries = small; cause = refl }; caused = refl }
    retry_valid TimedOut = record { outcome = refl; fetched = refl; fetch = fetch; recorded = refl; body = tt; notes = record { first = first; tries = small; cause = refl }; caused = refl }

    last_valid : (fault : LinkFault) → IsEnd (end_with (ending Failure too_many_tries (Some span) tries (code_of fault)) None)
    last_valid Refused = record { outcome = refl; fetched = refl; fetch = fetch; recorded = refl; body = tt; notes = record { first = first; tries = small; cause = refl }; caused = refl }
    last_valid Lost = record { outcome = refl; fetched = refl; fetch = fetch; recorded = refl; body = tt; notes = record { first = first; tries = small; cause = refl }; caused = refl }
    last_valid TimedOut = record { outcome = refl; fetched = refl; fetch = fetch; recorded = refl; body = tt; notes = record { first = first; tries = small; cause = refl }; caused = refl }

    faulty_valid : (fault : LinkFault) (max_tries : ℕ) → IsEnd (end_with (faulty fault span tries max_tries) None)
    faulty_valid fault max_tries =
        let again : Ending = ending Retry (code_of fault) (Some span) tries no_cause in
        let out : Ending = ending Failure too_many_tries (Some span) tries (code_of fault) in
        let P : Bool → Type 0 = λ b. IsEnd (end_with (if b then again else out) None) in
        elim (cases_Bool (nat_lt tries max_tries)) [ inl less ↦ subst P (sym less) (retry_valid fault) | inr last ↦ subst P (sym last) (last_valid fault) ]

module _ (w : World) (work : Work) (one : Ending) (first : 1 ≤ work.tries) (small : work.tries < 2 ^ 32) where
  pub valid_none : (seen : List Exchange) → Ends w work one None seen → IsEnd (end_with one None)
  valid_none seen ends = elim ends [
    | inl u ↦ unfetched_valid work.tries first small work.verdict one u.ends
    | inr fetched ↦ elim fetched.how [
      | inl came ↦ absurd (cc (came.came))
      | inr other ↦ elim other [
        | inl fault ↦ subst (λ (e : Ending). IsEnd (end_with e None)) (sym fault.ends)
            (faulty_valid work.tries first small fault.span (span_fits w.gives fault.span fault.timed) fault.fault w.settings.max_tries)
        | inr bare ↦ subst (λ (e : Ending). IsEnd (end_with e None)) (sym bare.ends)
            (headless_valid work.tries first small bare.span (span_fits w.gives bare.span bare.timed))
      ]
    ]
  ]

  pub valid_some : (reply : Reply) (seen : List Exchange) (body : Body) → Ends w work one (Some reply) seen → IsBody body → IsEnd (end_with one (Some body))
  valid_some reply seen body ends fits = elim ends [
    | inl u ↦ absurd (cc (u.nothing))
    | inr fetched ↦ elim fetched.how [
      | inl came ↦ subst (λ (e : Ending). IsEnd (end_with e (Some body))) (sym came.ends)
          (answered_valid work.tries first small came.span (span_fits w.gives came.span came.timed) came.one.status body
          (status_is w.settings.max_response_bytes came.one came.whole) fits)
      | inr other ↦ elim other [
        | inl fault ↦ absurd (cc (fault.nothing))
        | inr bare ↦ absurd (cc (bare.nothing))
      ]
    ]
  ]
