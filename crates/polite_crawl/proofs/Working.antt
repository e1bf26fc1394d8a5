-- An item that was handed out and processed.
use Rattle.std.proofs.Common.{◌≡◌, inl, inr, ℕ, false, List, Option, None, Some, Result, Ok, Err, IfOk, IfSome, sym, ◌∙◌, ap, subst}
use Rattle.std.specs.Prelude.{IsTrue}
use Rattle.crawl_kinds.specs.declared.event.Body.{Body}
use Rattle.crawl_kinds.specs.declared.event.Verdict.{Verdict}
use Rattle.crawl_kinds.specs.declared.event.Verdict.TheVariants.{Allowed}
use Rattle.crawl_kinds.specs.declared.item.Work.{Work}
use Rattle.crawl_kinds.specs.declared.settings.Settings.{Settings}
use Rattle.crawl_kinds.specs.declared.snapshot.Edge.{Edge}
use Rattle.crawl_traits.specs.declared.link.Exchange.{Exchange}
use Rattle.crawl_traits.specs.declared.link.Link.{Ghosts}
use Rattle.frontier_core.specs.Core.{Core}
use Rattle.frontier_core.specs.Finishing.{IsFullFor}
use Rattle.frontier_core.specs.declared.emitted.Emitted.{Emitted}
use Rattle.frontier_core.specs.declared.stop.FrontierStop.{FrontierStop}
use Rattle.journal_valid.specs.Ends.{IsBody}
use Rattle.process_chains.specs.Done.{Done, IsDone}
use Rattle.process_chains.specs.Endings.{end_with, unfetched}
use Rattle.process_chains.specs.Ends.{Ended, Ends, world}
use Rattle.process_chains.specs.declared.ending.Ending.{Ending}
use Rattle.visit_records.specs.declared.keeping.Prepared.{Prepared}
use Rattle.visit_spec.specs.Recorded.{IsRecordedAs}
use Rattle.polite_crawl.specs.Steps.{IsWorked, Readies, Refuses, Settles}

-- what is allowed does not end without a fetch
fetched : (verdict : Verdict) (tries : ℕ) (ending : Ending) → unfetched verdict tries ≡ Some ending → verdict ≡ Allowed → ⊥
fetched verdict tries ending ends allowed =
    let none : unfetched verdict tries ≡ None = ap (λ (v : Verdict). unfetched v tries) allowed in
    let wrong : None ≡ Some ending = sym none ∙ ends in
    cc

module _ {L : Type 0} (of : Ghosts L) (gives : ℕ → Type 0) (core : Core) (one : Emitted) (start now : L) (settings : Settings) (work : Work) (d : Done)
    (work_is : work ≡ one.work) (settings_are : settings ≡ core.settings) (same : (d.work ≡ work) × (d.settings ≡ settings))
    (ended : Ended (world of gives settings start now) work (of.exchanges start) (of.exchanges now) d.ending d.reply) (is : IsDone d) where
  module _ (place : Edge) (body : Option Body) (bytes : List ℕ) (later : ℕ) (recorded : IsRecordedAs place d d.reply body bytes) (named : IfSome body IsBody) (given : gives later) where
    -- what was processed, and is recorded at the place
    abbrev pub worked : IsWorked (world of gives core.settings start now) core one place (of.exchanges start) (of.exchanges now)
    worked = record {
      done = d;
      is = is;
      work = same.0 ∙ work_is;
      settings = same.1 ∙ settings_are;
      ended = subst (λ (s : Settings). Ended (world of gives s start now) d.work (of.exchanges start) (of.exchanges now) d.ending d.reply) settings_are
          (subst (λ (w : Work). Ended (world of gives settings start now) w (of.exchanges start) (of.exchanges now) d.ending d.reply) (sym same.0) ended);
      body = body;
      bytes = bytes;
      recorded = recorded;
      named = named;
      later = later;
      given = given;
    }

    -- where its end is settled, it is ready
    pub readies : (new : Core) (result : Result Prepared FrontierStop) → IfOk result (Settles core new one d body place bytes later)
        → IfOk result (Readies (world of gives core.settings start now) core new one place (of.exchanges start) (of.exchanges now))
    readies new (Ok p) settled = record { worked = worked; settled = settled }
    readies new (Err stop) settled = settled

    -- and where that would be too many keys, it is refused
    pub refuses : (known adds : ℕ) → IsFullFor core one (end_with d.ending body) later d.links known adds
        → Refuses (world of gives core.settings start now) core one place (of.exchanges start) (of.exchanges now) known adds
    refuses known adds full = record { worked = worked; full = full }

  -- the same, by how it ended
  shut_by : (seen : List Exchange) → Ends (world of gives settings start now) work d.ending d.reply seen → ((work.verdict ≡ Allowed → ⊥) → now ≡ start)
      → IsTrue (of.tells start) → of.connected start ≡ false → of.connected now ≡ false
  shut_by seen (inl unfetched) untouched tells none =
      subst (λ (l : L). of.connected l ≡ false) (sym (untouched (fetched work.verdict work.tries d.ending unfetched.ends))) none
  shut_by seen (inr got) untouched tells none = got.shut tells

  -- no connection is left where there was none
  pub shuts : ((work.verdict ≡ Allowed → ⊥) → now ≡ start) → IsTrue (of.tells start) → of.connected start ≡ false → of.connected now ≡ false
  shuts untouched tells none = shut_by ended.seen ended.ends untouched tells none
