-- Visits in a part of the time are visits in the whole; and visits behind visits.
use Rattle.std.proofs.Common.{◌≡◌, ◌⊎◌, inl, inr, ℕ, List, [], ◌∷◌, ◌++◌, sym, ◌∙◌, ap, subst, Option}
use Rattle.std.specs.Prelude.{IsTrue}
use Rattle.crawl_kinds.specs.declared.event.Fetch.{Fetch}
use Rattle.crawl_kinds.specs.declared.item.Work.{Work}
use Rattle.crawl_kinds.specs.declared.settings.Settings.{Settings}
use Rattle.crawl_traits.specs.declared.link.Exchange.{Exchange}
use Rattle.frontier_core.specs.Core.{Core}
use Rattle.http_fetch.specs.Fetching.{IsSpanOf}
use Rattle.http_message.specs.declared.front.Reply.{Reply}
use Rattle.page_spec.specs.Outcome.{Answered, IsTo, Unanswered}
use Rattle.process_chains.specs.Done.{IsReply}
use Rattle.process_chains.specs.Endings.{faulty}
use Rattle.process_chains.specs.Ends.{Ends, IsAnswered, IsFaulty, IsFetched, IsHeadless, World}
use Rattle.process_chains.specs.declared.ending.Ending.{Ending}
use Rattle.visit_spec.specs.Crawled.{IsRefused}
use Rattle.visit_spec.specs.Visits.{AreVisits, IsVisit, Visit}
use Rattle.visit_laws.specs.Laws.{IsWithin}

module _ (part whole : World) (within : IsWithin part whole) where
  -- where the whole tells, so does the part
  told : IsTrue whole.tells → IsTrue part.tells
  told tells = subst IsTrue (sym within.tells) tells

  -- its moments are given in the whole
  carry_span : (span : Fetch) → IsSpanOf part.gives span → IsSpanOf whole.gives span
  carry_span span is =
      record {
        first = is.first;
        second = is.second;
        first_given = within.given is.first is.first_given;
        second_given = within.given is.second is.second_given;
        start = is.start;
        duration = is.duration;
      }

  carry_answered : (work : Work) (ending : Ending) (reply : Option Reply) (seen : List Exchange) → IsAnswered part work ending reply seen → IsAnswered whole work ending reply seen
  carry_answered work ending reply seen is =
      record {
        span = is.span;
        one = is.one;
        came = is.came;
        whole = subst (λ (s : Settings). IsReply s.max_response_bytes is.one) within.settings is.whole;
        timed = carry_span is.span is.timed;
        ends = is.ends;
        told = λ tells. subst (λ (s : Settings). (e : Exchange) × (seen ≡ e ∷ []) × Answered work.item.uri s e is.one.block) within.settings (is.told (told tells));
      }

  carry_faulty : (work : Work) (ending : Ending) (reply : Option Reply) (seen : List Exchange) → IsFaulty part work ending reply seen → IsFaulty whole work ending reply seen
  carry_faulty work ending reply seen is =
      record {
        span = is.span;
        fault = is.fault;
        rises = within.rose is.fault is.rises;
        timed = carry_span is.span is.timed;
        ends = is.ends ∙ ap (λ (s : Settings). faulty is.fault is.span work.tries s.max_tries) within.settings;
        nothing = is.nothing;
        told = λ tells. subst (λ (s : Settings). (seen ≡ []) ⊎ ((e : Exchange) × (seen ≡ e ∷ []) × IsTo work.item.uri s e)) within.settings (is.told (told tells));
      }

  carry_headless : (work : Work) (ending : Ending) (reply : Option Reply) (seen : List Exchange) → IsHeadless part work ending reply seen → IsHeadless whole work ending reply seen
  carry_headless work ending reply seen is =
      record {
        span = is.span;
        timed = carry_span is.span is.timed;
        ends = is.ends;
        nothing = is.nothing;
        told = λ tells. subst (λ (s : Settings). (e : Exchange) × (seen ≡ e ∷ []) × Unanswered work.item.uri s e) within.settings (is.told (told tells));
      }

  carry_fetched : (work : Work) (ending : Ending) (reply : Option Reply) (seen : List Exchange) → IsFetched part work ending reply seen → IsFetched whole work ending reply seen
  carry_fetched work ending reply seen is =
      record {
        allowed = is.allowed;
        shut = λ tells. within.connected tells (is.shut (told tells));
        how = elim is.how [
          | inl answered ↦ inl (carry_answered work ending reply seen answered)
          | inr (inl faulty) ↦ inr (inl (carry_faulty work ending reply seen faulty))
          | inr (inr headless) ↦ inr (inr (carry_headless work ending reply seen headless))
        ];
      }

  -- what ended so in the part ended so in the whole
  carry_ends : (work : Work) (ending : Ending) (reply : Option Reply) (seen : List Exchange) → Ends part work ending reply seen → Ends whole work ending reply seen
  carry_ends work ending reply seen (inl unfetched) = inl unfetched
  carry_ends work ending reply seen (inr fetched) = inr (carry_fetched work ending reply seen fetched)

  -- a visit of the part is one of the whole
  carry_visit : (old new : Core) (v : Visit) → IsVisit part old new v → IsVisit whole old new v
  carry_visit old new v is =
      record {
        out = is.out;
        moment = is.moment;
        given = within.given is.moment is.given;
        emits = is.emits;
        done = is.done;
        work = is.work;
        settings = is.settings;
        how = carry_ends v.done.work v.done.ending v.done.reply v.seen is.how;
        recorded = is.recorded;
        named = is.named;
        later = is.later;
        given_later = within.given is.later is.given_later;
        time = is.time;
        ends = is.ends;
      }

  -- and so are visits
  pub carry_visits : (old new : Core) (visits : List Visit) → AreVisits part old new visits → AreVisits whole old new visits
  carry_visits old new [] same = same
  carry_visits old new (v ∷ visits) are = (are.0, carry_visit old are.0 v are.1, carry_visits are.0 new visits are.2)

  -- what was refused in the part was refused in the whole
  pub carry_refused : (core : Core) (known adds : ℕ) (seen : List Exchange) → IsRefused part core known adds seen → IsRefused whole core known adds seen
  carry_refused core known adds seen is =
      record {
        out = is.out;
        one = is.one;
        moment = is.moment;
        given = within.given is.moment is.given;
        emits = is.emits;
        done = is.done;
        is = is.is;
        work = is.work;
        settings = is.settings;
        how = carry_ends is.done.work is.done.ending is.done.reply seen is.how;
        body = is.body;
        bytes = is.bytes;
        recorded = is.recorded;
        later = is.later;
        given_later = within.given is.later is.given_later;
        full = is.full;
      }

-- visits behind visits
pub visits-append :
    (w : World) (old mid new : Core) (visits more : List Visit) → AreVisits w old mid visits → AreVisits w mid new more → AreVisits w old new (visits ++ more)
visits-append w old mid new [] more same are = subst (λ (core : Core). AreVisits w core new more) same are
visits-append w old mid new (v ∷ visits) more first second = (first.0, first.1, visits-append w first.0 mid new visits more first.2 second)

-- the settings stay
pub visits-settings : (w : World) (old new : Core) (visits : List Visit) → AreVisits w old new visits → new.settings ≡ old.settings
visits-settings w old new [] same = ap (λ (core : Core). core.settings) same
visits-settings w old new (v ∷ visits) are =
    visits-settings w are.0 new visits are.2 ∙ are.1.ends.settings ∙ ap (λ (core : Core). core.settings) are.1.emits.kept
