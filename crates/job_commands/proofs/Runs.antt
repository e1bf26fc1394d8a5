-- What a crash leaves in the midst of a command, over any volume.
use Rattle.std.proofs.Common.{◌≡◌, ◌≢◌, inl, inr, ⊎_elim, ℕ, ◌≤◌, List, [], ◌∷◌, ◌++◌, length, refl, sym, ◌∙◌, subst}
use Rattle.std.specs.Prelude.{IsTrue}
use Rattle.crawl_kinds.specs.declared.event.Event.{Event}
use Rattle.crawl_traits.specs.Images.{Image, After}
use Rattle.crawl_traits.specs.Runs.{LeavesOnly, IsSettled}
use Rattle.crawl_traits.specs.declared.file.FileId.TheVariants as file
use Rattle.crawl_traits.specs.declared.volume.Volume.{Ghosts}
use Rattle.crawl_traits.proofs.Moments.{weaker, joined, now_one}
use Rattle.gate_log.specs.Blocks.{Counts}
use Rattle.gate_log.specs.Rest.{CountsOneMore}
use Rattle.job_order.specs.declared.read.Job.{Job}
use Rattle.open_crawl.specs.JobFile.{IsTextOfJob}
use Rattle.open_crawl.specs.Opening.{Begins}
use Rattle.open_crawl.specs.Standing.{HoldsBegun, HoldsSeeded}
use Rattle.recover_journal.specs.Holds.{journal_file, HoldsEvents}
use Rattle.job_commands.specs.Enqueue.{HoldsEnqueued}
use Rattle.job_commands.specs.Init.{HoldsInitiated}
use Rattle.job_commands.specs.Opened.{KeepsJob, Opens}

module _ {V : Type 0} (of : Ghosts V) where
  -- a state of which a crash now leaves what it left before
  pub settled_on : (P Q : Image → Type 0) (old mid : V) → ((v : V) (t : ℕ) (i : Image) → t ≤ of.moment v → of.may_leave v i → of.left_since v t i) → of.tells mid ≡ of.tells old
      → ((i : Image) → P i → Q i) → IsTrue (of.tells old) → LeavesOnly of old mid P → IsSettled of mid Q
  settled_on P Q old mid counts_now same to told run = record { tells = same ∙ told; each = λ i now. to i (now_one of counts_now old mid P run i now) }

  -- only reading, and then a run
  pub after_reading : (P : (Image → Type 0) → Image → Type 0) (old mid new : V) → ((v : V) (t : ℕ) (i : Image) → t ≤ of.moment v → of.may_leave v i → of.left_since v t i)
      → ((images more : Image → Type 0) → ((i : Image) → images i → more i) → (i : Image) → P images i → P more i) → ((i : Image) → of.may_leave old i → P (of.may_leave old) i)
      → LeavesOnly of old mid (of.may_leave old) → LeavesOnly of mid new (P (of.may_leave mid)) → LeavesOnly of old new (P (of.may_leave old))
  after_reading P old mid new counts_now grows here first second =
      joined of old mid new (P (of.may_leave old)) (weaker of old mid (of.may_leave old) (P (of.may_leave old)) here first)
      (weaker of mid new (P (of.may_leave mid)) (P (of.may_leave old)) (grows (of.may_leave mid) (of.may_leave old) (now_one of counts_now old mid (of.may_leave old) first)) second)

pub job_apart : journal_file ≢ file.Job
job_apart = λ same. absurd (cc (same))

-- `init`
module _ {V : Type 0} (of : Ghosts V) (counts_now : (v : V) (t : ℕ) (i : Image) → t ≤ of.moment v → of.may_leave v i → of.left_since v t i) (gives : ℕ → Type 0) (text : List ℕ) (events : List Event) (old mid : V) where
  abbrev pub Leaves : (Image → Type 0) → Image → Type 0
  Leaves images = HoldsInitiated (λ own. own ≡ text) gives events images

  abbrev pub Untouched : Image → Type 0
  Untouched i = (length (i file.Job) ≤ 1) × HoldsEvents events (i journal_file)

  -- the job is written
  pub written_leaves : (job : Job) → IsTextOfJob text job → IsSettled of old Untouched → LeavesOnly of old mid (After file.Job (CountsOneMore [] text) (of.may_leave old)) → LeavesOnly of old mid (Leaves (of.may_leave old))
  written_leaves job is settled run =
      weaker of old mid _ _
      (λ i a.
      let held : HoldsEvents events (i journal_file) = subst (HoldsEvents events) (sym (a.by.elsewhere journal_file job_apart)) (settled.each a.old a.was).1 in
      record {
        old = a.old;
        was = a.was;
        others = λ f apart other. a.by.elsewhere f apart;
        holds = ⊎_elim (λ none. inl (none, held)) (λ one. inr (record { text = text; own = refl; keeps = one; holds = inl held })) a.by.here;
      })
      run

  -- and the crawl is opened
  pub begun_leaves : (new : V) (job : Job) (moment : ℕ) → IsTextOfJob text job → gives moment → IsSettled of old Untouched
      → LeavesOnly of old mid (After file.Job (CountsOneMore [] text) (of.may_leave old)) → ((i : Image) → of.may_leave mid i → Counts (text ∷ []) (i file.Job))
      → LeavesOnly of mid new (After journal_file (HoldsBegun job moment events) (of.may_leave mid)) → LeavesOnly of old new (Leaves (of.may_leave old))
  begun_leaves new job moment is given settled first durable second =
      joined of old mid new _ (written_leaves job is settled first)
      (weaker of mid new _ _
      (λ i a.
      let from = now_one of counts_now old mid _ first a.old a.was in
      let job_file : i file.Job ≡ a.old file.Job = a.by.elsewhere file.Job (λ same. absurd (cc (same))) in
      record {
        old = from.old;
        was = from.was;
        others = λ f apart other. a.by.elsewhere f other ∙ from.by.elsewhere f apart;
        holds = inr (record {
          text = text;
          own = refl;
          keeps = subst (Counts (text ∷ [])) (sym job_file) (durable a.old a.was);
          holds = ⊎_elim (λ held. inl held)
              (λ begun. inr (record { job = job; is = is; moment = moment; given = given; new = begun.0; begins = begun.1 }, begun.2)) a.by.here;
        });
      })
      second)

-- before anything is written
pub untouched : (Own : List ℕ → Type 0) (gives : ℕ → Type 0) (events : List Event) (images : Image → Type 0) (i : Image) → images i → (length (i file.Job) ≤ 1) × HoldsEvents events (i journal_file)
    → HoldsInitiated Own gives events images i
untouched Own gives events images i was is = record { old = i; was = was; others = λ f apart other. refl; holds = inl (inr (refl, is.0), is.1) }

-- more texts may be the source's, and more images those from before
pub initiated_more : (Own More : List ℕ → Type 0) (gives : ℕ → Type 0) (events : List Event) (images more : Image → Type 0) → ((t : List ℕ) → Own t → More t) → ((i : Image) → images i → more i)
    → (i : Image) → HoldsInitiated Own gives events images i → HoldsInitiated More gives events more i
initiated_more Own More gives events images more to was i is = record {
  old = is.old;
  was = was is.old is.was;
  others = is.others;
  holds = ⊎_elim (λ none. inl none) (λ kept. inr (record { text = kept.text; own = to kept.text kept.own; keeps = kept.keeps; holds = kept.holds })) is.holds;
}

-- `enqueue`
module _ {V : Type 0} (of : Ghosts V) (counts_now : (v : V) (t : ℕ) (i : Image) → t ≤ of.moment v → of.may_leave v i → of.left_since v t i) (gives : ℕ → Type 0) (seeds : List (List ℕ)) (image : Image) (events : List Event) (job : Job) (moment : ℕ) (old mid : V) where
  abbrev pub Enqueues : Image → Type 0
  Enqueues = After journal_file (HoldsEnqueued (λ l. l ≡ seeds) gives image events) (of.may_leave old)

  -- the crawl is opened
  pub opened_leaves : KeepsJob image job → gives moment → LeavesOnly of old mid (After journal_file (HoldsBegun job moment events) (of.may_leave old)) → LeavesOnly of old mid Enqueues
  opened_leaves keeps given run =
      weaker of old mid _ _
      (λ i a. record {
        old = a.old;
        was = a.was;
        by = record {
          here = inl (⊎_elim (λ held. inl held) (λ begun. inr (record { job = job; is = keeps; moment = moment; given = given; new = begun.0; begins = begun.1 }, begun.2)) a.by.here);
          elsewhere = a.by.elsewhere;
        };
      })
      run

  -- and seeds are added
  pub added_leaves : (new : V) (added : List Event) → KeepsJob image job → gives moment → Begins job moment events added
      → LeavesOnly of old mid (After journal_file (HoldsBegun job moment events) (of.may_leave old))
      → LeavesOnly of mid new (After journal_file (HoldsSeeded job.settings job.scope (events ++ added) seeds moment) (of.may_leave mid)) → LeavesOnly of old new Enqueues
  added_leaves new added keeps given begins first second =
      joined of old mid new _ (opened_leaves keeps given first)
      (weaker of mid new _ _
      (λ i a.
      let from = now_one of counts_now old mid _ first a.old a.was in
      record {
        old = from.old;
        was = from.was;
        by = record {
          here = here (a.old journal_file) (i journal_file) a.by.here;
          elsewhere = λ other apart. a.by.elsewhere other apart ∙ from.by.elsewhere other apart;
        };
      })
      second)
    where
      opens : Opens (KeepsJob image) gives events
      opens = record { job = job; is = keeps; moment = moment; given = given; new = added; begins = begins }

      here : (before after : List ℕ) → HoldsSeeded job.settings job.scope (events ++ added) seeds moment before after → HoldsEnqueued (λ l. l ≡ seeds) gives image events before after
      here before after (inl held) = inl (inr (opens, held))
      here before after (inr made) = inr (record { opens = opens; seeds = seeds; are = refl; event = made.0; adds = made.1; holds = made.2 })

-- more seeds may be the source's
pub enqueued_more : (Own More : List (List ℕ) → Type 0) (gives : ℕ → Type 0) (image : Image) (events : List Event) (before after : List ℕ) → ((l : List (List ℕ)) → Own l → More l)
    → HoldsEnqueued Own gives image events before after → HoldsEnqueued More gives image events before after
enqueued_more Own More gives image events before after to (inl opened) = inl opened
enqueued_more Own More gives image events before after to (inr made) =
    inr (record { opens = made.opens; seeds = made.seeds; are = to made.seeds made.are; event = made.event; adds = made.adds; holds = made.holds })

-- before anything is written
pub unopened : (Own : List (List ℕ) → Type 0) (gives : ℕ → Type 0) (image : Image) (events : List Event) (images : Image → Type 0) (i : Image) → images i → HoldsEvents events (i journal_file)
    → After journal_file (HoldsEnqueued Own gives image events) images i
unopened Own gives image events images i was held = record { old = i; was = was; by = record { here = inl (inl held); elsewhere = λ other apart. refl } }

-- more images from before
pub enqueued_from : (Own More : List (List ℕ) → Type 0) (gives : ℕ → Type 0) (image : Image) (events : List Event) (images more : Image → Type 0) → ((l : List (List ℕ)) → Own l → More l) → ((i : Image) → images i → more i)
    → (i : Image) → After journal_file (HoldsEnqueued Own gives image events) images i → After journal_file (HoldsEnqueued More gives image events) more i
enqueued_from Own More gives image events images more to was i a =
    record { old = a.old; was = was a.old a.was; by = record { here = enqueued_more Own More gives image events (a.old journal_file) (i journal_file) to a.by.here; elsewhere = a.by.elsewhere } }
