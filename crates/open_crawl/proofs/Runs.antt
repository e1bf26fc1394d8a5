-- What a crash leaves of the journal in the midst of an opening, or of an adding of seeds, over any volume.
use Rattle.std.proofs.Common.{◌≡◌, inl, inr, ℕ, ◌≤◌, List, [], ◌∷◌, refl, ◌∙◌, subst}
use Rattle.crawl_kinds.specs.declared.settings.Settings.{Settings}
use Rattle.crawl_kinds.specs.declared.event.Event.{Event}
use Rattle.crawl_traits.specs.Images.{Image, After}
use Rattle.crawl_traits.specs.Runs.{LeavesOnly, IsSettled}
use Rattle.crawl_traits.specs.declared.volume.Volume.{Ghosts}
use Rattle.crawl_traits.proofs.Moments.{started, weaker, joined, now_one}
use Rattle.scope_spec.specs.Decision.{ScopeRules}
use Rattle.job_order.specs.declared.read.Job.{Job}
use Rattle.recover_journal.specs.Holds.{journal_file, Holds, HoldsEvents}
use Rattle.recover_journal.specs.Rest.{KeepsEvents, HoldsMore}
use Rattle.open_crawl.specs.Opening.{AddsSeeds, Begins}
use Rattle.open_crawl.specs.Standing.{HoldsBegun, HoldsSeeded}

-- an opening
module _ {V : Type 0} (of : Ghosts V) (job : Job) (moment : ℕ) (events : List Event) (old mid : V) (settled : IsSettled of old (λ i. HoldsEvents events (i journal_file))) where
  abbrev pub Begun : Image → Type 0
  Begun = After journal_file (HoldsBegun job moment events) (of.may_leave old)

  -- the journal is opened, and keeps its events
  pub opened_leaves : LeavesOnly of old mid (After journal_file KeepsEvents (of.may_leave old)) → LeavesOnly of old mid Begun
  opened_leaves run =
      weaker of old mid _ Begun
      (λ i a.
      let held : HoldsEvents events (a.old journal_file) = settled.each a.old a.was in
      record { old = a.old; was = a.was; by = record { here = inl (held.0, a.by.here events held.0 held.1); elsewhere = a.by.elsewhere } })
      run

  -- the events that were read are these
  pub read_events : ((events others : List Event) (gates places : List ℕ) (file : List ℕ) → Holds events gates file → Holds others places file → (events ≡ others) × (gates ≡ places))
      → of.may_leave old (of.contents old) → (read : List Event) (gates : List ℕ) → Holds read gates (of.contents old journal_file) → read ≡ events
  read_events one image read gates holds =
      let held : HoldsEvents events (of.contents old journal_file) = settled.each (of.contents old) image in
      (one read events gates held.0 (of.contents old journal_file) holds held.1).0

  -- and a block is appended
  pub begun_leaves : ((v : V) (t : ℕ) (i : Image) → t ≤ of.moment v → of.may_leave v i → of.left_since v t i) → (new : V) (added : List Event) → Begins job moment events added
      → LeavesOnly of old mid Begun → LeavesOnly of mid new (After journal_file (HoldsMore events added) (of.may_leave mid)) → LeavesOnly of old new Begun
  begun_leaves counts_now new added begins first second =
      joined of old mid new Begun first
      (weaker of mid new _ Begun
      (λ i a.
      let from = now_one of counts_now old mid Begun first a.old a.was in
      record { old = from.old; was = from.was; by = record { here = begun (from.old journal_file) (a.old journal_file) (i journal_file) a.by.here; elsewhere = λ other apart. a.by.elsewhere other apart ∙ from.by.elsewhere other apart } })
      second)
    where
      begun : (first before after : List ℕ) → HoldsMore events added before after → HoldsBegun job moment events first after
      begun first before after (inl held) = inl held
      begun first before after (inr held) = inr (added, begins, held)

  -- both, by the events that were read
  pub whole_leaves : ((events others : List Event) (gates places : List ℕ) (file : List ℕ) → Holds events gates file → Holds others places file → (events ≡ others) × (gates ≡ places))
      → ((v : V) (t : ℕ) (i : Image) → t ≤ of.moment v → of.may_leave v i → of.left_since v t i) → of.may_leave old (of.contents old)
      → (read : List Event) (gates : List ℕ) → Holds read gates (of.contents old journal_file) → (new : V) (added : List Event) → Begins job moment read added
      → LeavesOnly of old mid (After journal_file KeepsEvents (of.may_leave old)) → LeavesOnly of mid new (After journal_file (HoldsMore read added) (of.may_leave mid))
      → LeavesOnly of old new Begun
  whole_leaves one counts_now image read gates holds new added begins first second =
      let same : read ≡ events = read_events one image read gates holds in
      begun_leaves counts_now new added (subst (λ (es : List Event). Begins job moment es added) same begins) (opened_leaves first)
      (subst (λ (es : List Event). LeavesOnly of mid new (After journal_file (HoldsMore es added) (of.may_leave mid))) same second)

-- an adding of seeds
module _ {V : Type 0} (of : Ghosts V) (settings : Settings) (scope : ScopeRules) (events : List Event) (list : List (List ℕ)) (moment : ℕ) (old : V) where
  abbrev pub Seeded : Image → Type 0
  Seeded = After journal_file (HoldsSeeded settings scope events list moment) (of.may_leave old)

  -- before the volume is touched
  pub untouched_leaves : ((v : V) (i : Image) → of.left_since v (of.moment v) i → of.may_leave v i) → IsSettled of old (λ i. HoldsEvents events (i journal_file)) → LeavesOnly of old old Seeded
  untouched_leaves only_now settled =
      started of old Seeded
      (λ i left.
      let was : of.may_leave old i = only_now old i left in
      record { old = i; was = was; by = record { here = inl (settled.each i was); elsewhere = λ other apart. refl } })

  -- and where their block is appended
  pub seeded_leaves : (new : V) (e : Event) → AddsSeeds settings scope events list moment e
      → LeavesOnly of old new (After journal_file (HoldsMore events (e ∷ [])) (of.may_leave old)) → LeavesOnly of old new Seeded
  seeded_leaves new e adds run =
      weaker of old new _ Seeded
      (λ i a. record { old = a.old; was = a.was; by = record { here = seeded (a.old journal_file) (i journal_file) a.by.here; elsewhere = a.by.elsewhere } })
      run
    where
      seeded : (before after : List ℕ) → HoldsMore events (e ∷ []) before after → HoldsSeeded settings scope events list moment before after
      seeded before after (inl held) = inl held
      seeded before after (inr held) = inr (e, adds, held)
