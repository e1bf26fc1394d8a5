-- What comes of work at the end of the chain.
use Rattle.std.proofs.Common.{◌≡◌, inl, inr, ℕ, ◌≤◌, ◌<◌, ◌^◌, true, false, List, length, Option, Some, None, refl, sym, ◌∙◌, ap, subst, arith, pos}
use Rattle.std.specs.Prelude.{IsTrue, IfSome, is_some}
use Rattle.std.proofs.lemmas.List.Elements.{All-nil}
use Rattle.crawl_kinds.specs.declared.event.Body.{Body}
use Rattle.crawl_kinds.specs.declared.event.Verdict.{Verdict}
use Rattle.crawl_kinds.specs.declared.event.Verdict.TheVariants.{Allowed}
use Rattle.crawl_kinds.specs.declared.item.Work.{Work}
use Rattle.crawl_kinds.specs.declared.settings.Settings.{Settings}
use Rattle.crawl_traits.specs.declared.link.Exchange.{Exchange}
use Rattle.crawl_traits.specs.declared.link.Link.{Ghosts}
use Rattle.crawl_history.specs.Ends.{Suits}
use Rattle.crawl_history.specs.Facts.{Facts, Archive}
use Rattle.extract_spec.specs.Joining.{IsLink}
use Rattle.http_message.specs.declared.front.Reply.{Reply}
use Rattle.journal_valid.specs.Ends.{IsBody, IsEnd}
use Rattle.process_chains.specs.Done.{Done, IsBodyOf, IsDone, IsReply}
use Rattle.process_chains.specs.Drafts.{IsReady, Stands, Becomes, ended_done, reached}
use Rattle.process_chains.specs.Endings.{end_with, faulty}
use Rattle.process_chains.specs.Ends.{World, world, Ends, Ended}
use Rattle.process_chains.specs.declared.draft.Draft.{Draft}
use Rattle.process_chains.specs.declared.draft.Draft.TheVariants as draft
use Rattle.process_chains.specs.declared.ending.Ending.{Ending}
use Rattle.process_chains.proofs.Valid.{valid_none, valid_some}
use Rattle.process_chains.proofs.Uncut.{ends_uncut}
use Rattle.process_chains.proofs.Suiting.{answered_suits, faulty_suits, headless_suits, unfetched_suits, whole_is_long}

module _ (w : World) (work : Work) (f : Facts) (a : Archive) (same : f.settings ≡ w.settings) where
  -- an end without a response
  suits_none : (ending : Ending) (seen : List Exchange) → Ends w work ending None seen → Suits f a work.tries work.item (end_with ending None) work.verdict
  suits_none ending seen ends = elim ends [
    | inl u ↦ unfetched_suits f a work.tries work.item work.verdict ending u.ends
    | inr fetched ↦ subst (λ (v : Verdict). Suits f a work.tries work.item (end_with ending None) v) (sym fetched.allowed) (elim fetched.how [
      | inl came ↦ absurd (cc (came.came))
      | inr other ↦ elim other [
        | inl fault ↦ subst (λ (e : Ending). Suits f a work.tries work.item (end_with e None) Allowed) (sym fault.ends)
            (subst (λ (s : Settings). Suits f a work.tries work.item (end_with (faulty fault.fault fault.span work.tries s.max_tries) None) Allowed) same
            (faulty_suits f a work.tries work.item fault.fault fault.span))
        | inr bare ↦ subst (λ (e : Ending). Suits f a work.tries work.item (end_with e None) Allowed) (sym bare.ends)
            (headless_suits f a work.tries work.item bare.span)
      ]
    ])
  ]

  -- an end with one, and a body that is its
  suits_some : (ending : Ending) (reply : Reply) (seen : List Exchange) (body : Body) → Ends w work ending (Some reply) seen
      → a body.spot ≡ reply.block → IsTrue (f.fits work.item.uri reply.block (end_with ending (Some body)))
      → Suits f a work.tries work.item (end_with ending (Some body)) work.verdict
  suits_some ending reply seen body ends at fits = elim ends [
    | inl u ↦ absurd (cc (u.nothing))
    | inr fetched ↦ subst (λ (v : Verdict). Suits f a work.tries work.item (end_with ending (Some body)) v) (sym fetched.allowed) (elim fetched.how [
      | inl came ↦
          let one : reply ≡ came.one = cc (came.came) in
          let long : 0 < length reply.block = subst (λ (r : Reply). 0 < length r.block) (sym one) (whole_is_long w.settings.max_response_bytes came.one came.whole) in
          subst (λ (e : Ending). Suits f a work.tries work.item (end_with e (Some body)) Allowed) (sym came.ends)
          (answered_suits f a work.tries came.one.status work.item came.span reply.block body long at
          (subst (λ (e : Ending). IsTrue (f.fits work.item.uri reply.block (end_with e (Some body)))) came.ends fits))
      | inr other ↦ elim other [
        | inl fault ↦ absurd (cc (fault.nothing))
        | inr bare ↦ absurd (cc (bare.nothing))
      ]
    ])
  ]

  suits_body : (ending : Ending) (reply : Reply) (seen : List Exchange) (body : Option Body) → Ends w work ending (Some reply) seen
      → IsBodyOf f a work.item.uri ending (Some reply) body → Suits f a work.tries work.item (end_with ending body) work.verdict
  suits_body ending reply seen None ends is = absurd is
  suits_body ending reply seen (Some body) ends is = suits_some ending reply seen body ends is.0 is.1

is_none_by : (body : Option Body) → is_some body ≡ false → body ≡ None
is_none_by None e = refl
is_none_by (Some body) e = absurd (cc (e))

body_valid : (w : World) (work : Work) (one : Ending) (reply : Reply) (seen : List Exchange) → 1 ≤ work.tries → work.tries < 2 ^ 32 → (body : Option Body)
    → Ends w work one (Some reply) seen → is_some body ≡ true → IfSome body IsBody → IsEnd (end_with one body)
body_valid w work one reply seen first small None ends some fits = absurd (cc (some))
body_valid w work one reply seen first small (Some body) ends some fits = valid_some w work one first small reply seen body ends fits

-- the reply of an answer is whole, and its status is the code
answer_is : (w : World) (work : Work) (ending : Ending) (reply : Reply) (seen : List Exchange) → Ends w work ending (Some reply) seen
    → IsReply w.settings.max_response_bytes reply × (ending.code ≡ pos reply.status)
answer_is w work ending reply seen ends = elim ends [
  | inl u ↦ absurd (cc (u.nothing))
  | inr fetched ↦ elim fetched.how [
    | inl came ↦
        let one : reply ≡ came.one = cc (came.came) in (
          subst (λ (r : Reply). IsReply w.settings.max_response_bytes r) (sym one) came.whole,
          ap (λ (e : Ending). e.code) came.ends ∙ ap (λ (r : Reply). pos r.status) (sym one),
        )
    | inr other ↦ elim other [
      | inl fault ↦ absurd (cc (fault.nothing))
      | inr bare ↦ absurd (cc (bare.nothing))
    ]
  ]
]

module _ {L : Type 0} (of : Ghosts L) (gives : ℕ → Type 0) (settings : Settings) (work : Work) (start now : L) where
  abbrev w : World
  w = world of gives settings start now

  ended_ready : (ending : Ending) → work.tries < 2 ^ 32 → Ended w work (of.exchanges start) (of.exchanges now) ending None → IsDone (ended_done work settings ending)
  ended_ready ending small is = record {
    suits = λ f a body same none. subst (λ (b : Option Body). Suits f a work.tries work.item (end_with ending b) work.verdict) (sym none)
        (suits_none w work f a same ending is.seen is.ends);
    small = small;
    uncut = ends_uncut w work ending None is.seen is.ends;
    valid = λ first body none fits. subst (λ (b : Option Body). IsEnd (end_with ending b)) (sym (is_none_by body none))
        (valid_none w work ending first small is.seen is.ends);
    reply = tt;
    status = tt;
    request = refl;
    links = refl;
    each = All-nil IsLink;
  }

  -- what a draft at the end of the chain says is what is known
  pub ready_by : (one : Draft) → work.tries < 2 ^ 32 → Stands of gives settings work start now one → 3 ≤ reached one → IsReady work settings one
  ready_by draft.New small is past = absurd (omega (arith, past))
  ready_by draft.MayFetch small is past = absurd (omega (arith, past))
  ready_by (draft.Answered answer) small is past = absurd (omega (arith, past))
  ready_by (draft.Ended ending) small is past = ended_ready ending small is
  ready_by (draft.Searched answer links) small is past =
      let known = answer_is w work answer.ending answer.reply is.0.ended.seen is.0.ended.ends in
      record {
        suits = λ f a body same fits. suits_body w work f a same answer.ending answer.reply is.0.ended.seen body is.0.ended.ends fits;
        small = small;
        uncut = ends_uncut w work answer.ending (Some answer.reply) is.0.ended.seen is.0.ended.ends;
        valid = λ first body some fits. body_valid w work answer.ending answer.reply is.0.ended.seen first small body is.0.ended.ends some fits;
        reply = known.0;
        status = known.1;
        request = is.0.request;
        links = is.1;
        each = is.1.each;
      }

  -- and is so of what comes of it
  pub ended_by : (one : Draft) (done : Done) → Stands of gives settings work start now one → Becomes work settings one done
      → Ended w work (of.exchanges start) (of.exchanges now) done.ending done.reply
  ended_by draft.New done is be = absurd be
  ended_by draft.MayFetch done is be = absurd be
  ended_by (draft.Answered answer) done is be = absurd be
  ended_by (draft.Ended ending) done is be =
      subst (λ (d : Done). Ended w work (of.exchanges start) (of.exchanges now) d.ending d.reply) (sym be) is
  ended_by (draft.Searched answer links) done is be =
      subst (λ (d : Done). Ended w work (of.exchanges start) (of.exchanges now) d.ending d.reply) (sym be) is.0.ended
