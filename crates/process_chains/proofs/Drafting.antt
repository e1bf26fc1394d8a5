-- What each step makes of a draft.
use Rattle.std.proofs.Common.{◌≡◌, ◌⊎◌, inl, inr, ℕ, zero, suc, ◌<◌, length, get_or, arith, Bool, true, false, List, [], ◌∷◌, ◌++◌, Option, Some, None, refl, sym, ◌∙◌, ap, subst, append-nil}
use Rattle.std.specs.Prelude.{IsTrue, IfSome, OnErr, Result, Ok, Err}
use Rattle.std.proofs.lemmas.Bool.{cases_Bool}
use Rattle.crawl_kinds.specs.declared.event.Fetch.{Fetch}
use Rattle.crawl_kinds.specs.declared.event.Verdict.{Verdict}
use Rattle.crawl_kinds.specs.declared.event.Verdict.TheVariants.{Allowed, Precluded, Needed, Unsupported, Unreachable}
use Rattle.crawl_kinds.specs.declared.item.Work.{Work}
use Rattle.crawl_kinds.specs.declared.settings.Settings.{Settings}
use Rattle.crawl_traits.specs.declared.link.Exchange.{Exchange}
use Rattle.crawl_traits.specs.declared.link.Link.{Ghosts}
use Rattle.crawl_traits.specs.declared.link.LinkFault.{LinkFault}
use Rattle.http_fetch.specs.Fetching.{IsBegun, IsSpanOf, Suits}
use Rattle.http_message.specs.declared.front.Reply.{Reply}
use Rattle.page_spec.specs.Outcome.{IsTo}
use Rattle.page_spec.specs.Request.{request_text}
use Rattle.process_chains.specs.Done.{AreLinks, IsReply}
use Rattle.process_chains.specs.Drafts.{IsAnswer, IsSearched, Stands, asked, chain, judged, place, with_reply}
use Rattle.process_chains.specs.Endings.{answered, faulty, headless, unfetched}
use Rattle.process_chains.specs.Ends.{World, world, Ends, Ended}
use Rattle.process_chains.specs.declared.draft.Answer.{Answer}
use Rattle.process_chains.specs.declared.draft.Draft.{Draft}
use Rattle.process_chains.specs.declared.draft.Draft.TheVariants as draft
use Rattle.process_chains.specs.declared.ending.Ending.{Ending}
use Rattle.process_chains.specs.declared.steps.Step.{Step}
use Rattle.process_chains.specs.declared.steps.Step.TheVariants.{AskVerdict}

-- what holds anyway holds of an error
pub any_err : {T E : Type 0} (r : Result T E) (Q : Type 0) → Q → OnErr r Q
any_err (Ok x) Q is = tt
any_err (Err e) Q is = is

place_in : (i : ℕ) → i < 3 → place (get_or chain i AskVerdict) ≡ i
place_in zero within = refl
place_in (suc zero) within = refl
place_in (suc (suc zero)) within = refl
place_in (suc (suc (suc i))) within = absurd (omega (arith, within))

-- the steps of the chain stand at their places
pub place_at : (items : List Step) (i : ℕ) → items ≡ chain → i < length items → place (get_or items i AskVerdict) ≡ i
place_at items i is within =
    subst (λ (l : List Step). place (get_or l i AskVerdict) ≡ i) (sym is) (place_in i (omega (arith, within, ap (λ (l : List Step). length l) is)))

pub clash : (b : Bool) → b ≡ true → b ≡ false → ⊥
clash b is other = let wrong : true ≡ false = sym is ∙ other in cc

allowed_by : (verdict : Verdict) (tries : ℕ) → unfetched verdict tries ≡ None → verdict ≡ Allowed
allowed_by Allowed tries e = refl
allowed_by Precluded tries e = absurd (cc (e))
allowed_by Needed tries e = absurd (cc (e))
allowed_by Unsupported tries e = absurd (cc (e))
allowed_by Unreachable tries e = absurd (cc (e))

-- an exchange of an ended work is one at most
begun_end : (w : World) (work : Work) (before after : List Exchange) (ending : Ending) (reply : Option Reply)
    → Ended w work before after ending reply → IsTrue w.tells → IsBegun work.item.uri w.settings before after
begun_end w work before after ending reply ended tells =
    let went = ended.went tells in
    let none : ended.seen ≡ [] → after ≡ before = λ e. went ∙ ap (λ (l : List Exchange). before ++ l) e ∙ append-nil before in
    let one : (e : Exchange) → ended.seen ≡ e ∷ [] → after ≡ before ++ e ∷ [] = λ e is. went ∙ ap (λ (l : List Exchange). before ++ l) is in
    elim ended.ends [
      | inl u ↦ inl (none u.told)
      | inr fetched ↦ elim fetched.how [
        | inl came ↦ let t = came.told tells in inr (t.0, t.2.sent.to, one t.0 t.1)
        | inr other ↦ elim other [
          | inl fault ↦ elim (fault.told tells) [
            | inl nothing ↦ inl (none nothing)
            | inr t ↦ inr (t.0, t.2, one t.0 t.1)
          ]
          | inr bare ↦ let t = bare.told tells in inr (t.0, t.2.sent.to, one t.0 t.1)
        ]
      ]
    ]

module _ {L : Type 0} (of : Ghosts L) (gives : ℕ → Type 0) (settings : Settings) (work : Work) (start now : L) where
  judged_stands : (o : Option Ending) → unfetched work.verdict work.tries ≡ o → now ≡ start → Stands of gives settings work start now (judged o)
  judged_stands None e same = (same, allowed_by work.verdict work.tries e)
  judged_stands (Some ending) e same = record {
    seen = [];
    ends = inl (record { ends = e; nothing = refl; told = refl });
    went = λ _. ap of.exchanges same ∙ sym (append-nil (of.exchanges start));
  }

  -- after the verdict
  pub asked_stands : (one : Draft) → Stands of gives settings work start now one → Stands of gives settings work start now (asked work one)
  asked_stands draft.New same = judged_stands (unfetched work.verdict work.tries) refl same
  asked_stands draft.MayFetch is = is
  asked_stands (draft.Ended ending) is = is
  asked_stands (draft.Answered answer) is = is
  asked_stands (draft.Searched answer links) is = is

  -- after the search for links
  pub searched_stands : (one two : Draft) → IsSearched work one two → Stands of gives settings work start now one → Stands of gives settings work start now two
  searched_stands (draft.Answered answer) (draft.Searched same links) (e, are) is = (
    subst (λ (a : Answer). IsAnswer (world of gives settings start now) work (of.exchanges start) (of.exchanges now) a) (sym e) is,
    subst (λ (a : Answer). AreLinks work.item a.reply links) (sym e) are,
  )
  searched_stands (draft.Answered answer) draft.New e is = absurd (cc (e))
  searched_stands (draft.Answered answer) draft.MayFetch e is = absurd (cc (e))
  searched_stands (draft.Answered answer) (draft.Ended ending) e is = absurd (cc (e))
  searched_stands (draft.Answered answer) (draft.Answered other) e is = subst (λ (d : Draft). Stands of gives settings work start now d) (sym e) is
  searched_stands draft.New two e is = subst (λ (d : Draft). Stands of gives settings work start now d) (sym e) is
  searched_stands draft.MayFetch two e is = subst (λ (d : Draft). Stands of gives settings work start now d) (sym e) is
  searched_stands (draft.Ended ending) two e is = subst (λ (d : Draft). Stands of gives settings work start now d) (sym e) is
  searched_stands (draft.Searched answer links) two e is = subst (λ (d : Draft). Stands of gives settings work start now d) (sym e) is

  -- whatever became of it, there was one exchange at most
  pub begun_by : (one : Draft) → Stands of gives settings work start now one → IsTrue (of.tells start) → IsBegun work.item.uri settings (of.exchanges start) (of.exchanges now)
  begun_by draft.New same tells = inl (ap of.exchanges same)
  begun_by draft.MayFetch is tells = inl (ap of.exchanges is.0)
  begun_by (draft.Ended ending) is tells = begun_end (world of gives settings start now) work (of.exchanges start) (of.exchanges now) ending None is tells
  begun_by (draft.Answered answer) is tells =
      begun_end (world of gives settings start now) work (of.exchanges start) (of.exchanges now) answer.ending (Some answer.reply) is.ended tells
  begun_by (draft.Searched answer links) is tells =
      begun_end (world of gives settings start now) work (of.exchanges start) (of.exchanges now) answer.ending (Some answer.reply) is.0.ended tells

  module _ (may : work.verdict ≡ Allowed) (shut : IsTrue (of.tells start) → of.connected now ≡ false) (span : Fetch) (timed : IsSpanOf gives span) where
    abbrev w : World
    w = world of gives settings start now

    abbrev before : List Exchange
    before = of.exchanges start

    abbrev after : List Exchange
    after = of.exchanges now

    -- what went over a link that tells
    abbrev Went : Option Reply → Type 0
    Went reply = IsTrue (of.tells start) → (e : Exchange) × (after ≡ before ++ e ∷ []) × Suits work.item.uri settings e reply

    came : (reply : Reply) (seen : List Exchange) → IsReply settings.max_response_bytes reply
        → (IsTrue (of.tells start) → (e : Exchange) × (seen ≡ e ∷ []) × Suits work.item.uri settings e (Some reply))
        → Ends w work (answered reply.status span work.tries) (Some reply) seen
    came reply seen is told =
        inr (record { allowed = may; shut = shut; how = inl (record { span = span; one = reply; came = refl; whole = is; timed = timed; ends = refl; told = λ t. let one = told t in (one.0, one.1, one.2.0) }) })

    bare : (seen : List Exchange) → (IsTrue (of.tells start) → (e : Exchange) × (seen ≡ e ∷ []) × Suits work.item.uri settings e None)
        → Ends w work (headless span work.tries) None seen
    bare seen told =
        inr (record { allowed = may; shut = shut; how = inr (inr (record { span = span; timed = timed; ends = refl; nothing = refl; told = told })) })

    ended_so : (ending : Ending) (reply : Option Reply)
        → ((seen : List Exchange) → (IsTrue (of.tells start) → (e : Exchange) × (seen ≡ e ∷ []) × Suits work.item.uri settings e reply) → Ends w work ending reply seen)
        → Went reply → Ended w work before after ending reply
    ended_so ending reply so went = elim (cases_Bool (of.tells start)) [
      | inl tells ↦ let one = went tells in record { seen = one.0 ∷ []; ends = so (one.0 ∷ []) (λ _. (one.0, refl, one.2)); went = λ _. one.1 }
      | inr silent ↦ record {
        seen = [];
        ends = so [] (λ tells. absurd (clash (of.tells start) tells silent));
        went = λ tells. absurd (clash (of.tells start) tells silent);
      }
    ]

    with_reply_stands : (request : List ℕ) (reply : Option Reply) → request ≡ request_text work.item.uri settings → IfSome reply (IsReply settings.max_response_bytes)
        → Went reply → Stands of gives settings work start now (with_reply span request work.tries reply)
    with_reply_stands request None asked is went = ended_so (headless span work.tries) None bare went
    with_reply_stands request (Some reply) asked is went = record {
      ended = ended_so (answered reply.status span work.tries) (Some reply) (λ seen. came reply seen is) went;
      request = asked;
    }

    -- after a fetch that came to its end
    pub reply_stands : (one : Draft) (request : List ℕ) (reply : Option Reply) → one ≡ with_reply span request work.tries reply
        → request ≡ request_text work.item.uri settings → IfSome reply (IsReply settings.max_response_bytes) → Went reply → Stands of gives settings work start now one
    reply_stands one request reply be asked is went =
        subst (λ (d : Draft). Stands of gives settings work start now d) (sym be) (with_reply_stands request reply asked is went)

    lost : (fault : LinkFault) (seen : List Exchange) → w.rose fault → (IsTrue (of.tells start) → (seen ≡ []) ⊎ ((e : Exchange) × (seen ≡ e ∷ []) × IsTo work.item.uri settings e))
        → Ends w work (faulty fault span work.tries settings.max_tries) None seen
    lost fault seen rises told =
        inr (record { allowed = may; shut = shut; how = inr (inl (record { span = span; fault = fault; rises = rises; timed = timed; ends = refl; nothing = refl; told = told })) })

    lost_stands : (fault : LinkFault) → w.rose fault → (IsTrue (of.tells start) → IsBegun work.item.uri settings before after)
        → Stands of gives settings work start now (draft.Ended (faulty fault span work.tries settings.max_tries))
    lost_stands fault rises begun = elim (cases_Bool (of.tells start)) [
      | inl tells ↦ elim (begun tells) [
        | inl same ↦ record { seen = []; ends = lost fault [] rises (λ _. inl refl); went = λ _. same ∙ sym (append-nil before) }
        | inr one ↦ record { seen = one.0 ∷ []; ends = lost fault (one.0 ∷ []) rises (λ _. inr (one.0, refl, one.1)); went = λ _. one.2 }
      ]
      | inr silent ↦ record { seen = []; ends = lost fault [] rises (λ _. inl refl); went = λ tells. absurd (clash (of.tells start) tells silent) }
    ]

    -- after a fault of the link
    pub fault_stands : (one : Ending) (fault : LinkFault) → one ≡ faulty fault span work.tries settings.max_tries → w.rose fault
        → (IsTrue (of.tells start) → IsBegun work.item.uri settings before after) → Stands of gives settings work start now (draft.Ended one)
    fault_stands one fault be rises begun =
        subst (λ (e : Ending). Stands of gives settings work start now (draft.Ended e)) (sym be) (lost_stands fault rises begun)
