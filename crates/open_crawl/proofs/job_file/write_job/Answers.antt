use Rattle.std.proofs.Common.{◌≡◌, ◌∷◌, [], ℕ, List, ◌∙◌, sym, subst}
use Rattle.crawl_traits.specs.Images.{After}
use Rattle.crawl_traits.specs.Runs.{LeavesOnly}
use Rattle.crawl_traits.specs.declared.file.FileId.{FileId}
use Rattle.crawl_traits.specs.declared.file.FileId.TheVariants.{Job}
use Rattle.gate_log.specs.Blocks.{Counts, EndsAt}
use Rattle.gate_log.specs.Rest.{CountsOneMore}
use Rattle.open_crawl.proofs.JobFiles.{fresh_leaves, append_leaves, rest_counts}
use Rattle.open_crawl.proofs.job_file.write_job.Goals as goal

pub returns-in-Ok-append-clause-ok : goal.returns-in-Ok-append-clause-ok
returns-in-Ok-append-clause-ok g c told =
    subst (λ (f : FileId). Counts (c.args.text.now ∷ []) (g.V.Volume.contents c.append.new.volume f)) (c.in-Ok-append.ensures.file ∙ c.in-Ok.ensures.ok.0)
    (rest_counts (c.args.text.now ∷ []) _ (subst (λ (b : List ℕ). EndsAt (b ∷ []) (g.V.Volume.contents c.append.new.volume c.append.new.self.file)) c.in_ok-frame.ensures (c.in-Ok-append.ensures.ok [] (c.in-Ok.ensures.ok.1 told)).ends))

pub returns-in-Err-clause-any_moment : goal.returns-in-Err-clause-any_moment
returns-in-Err-clause-any_moment g c settled =
    fresh_leaves g.V.Volume _ c.args.volume.now c.fresh.new.volume c.args.text.now settled c.in-Err.ensures.any_moment

pub returns-in-Ok-append-clause-any_moment : goal.returns-in-Ok-append-clause-any_moment
returns-in-Ok-append-clause-any_moment g c settled =
    let of = g.V.Volume in
    let step = λ (f : FileId). LeavesOnly of c.fresh.new.volume c.append.new.volume (After f (CountsOneMore [] c.args.text.now) (of.may_leave c.fresh.new.volume)) in
    let run = λ (b : List ℕ). LeavesOnly of c.fresh.new.volume c.append.new.volume (After c.in-Ok.log.file (CountsOneMore [] b) (of.may_leave c.fresh.new.volume)) in
    append_leaves of _ c.args.volume.now c.fresh.new.volume c.args.text.now g.met.V.Volume.counts_now c.append.new.volume (fresh_leaves of _ c.args.volume.now c.fresh.new.volume c.args.text.now settled c.in-Ok.ensures.any_moment)
    (subst step c.in-Ok.ensures.ok.0 (subst run c.in_ok-frame.ensures (c.in-Ok-append.ensures.any_moment [] (c.in-Ok.ensures.ok.1 settled.tells))))

pub returns-clause-any_moment : goal.returns-clause-any_moment
returns-clause-any_moment g c settled =
    let of = g.V.Volume in
    let step = λ (f : FileId). LeavesOnly of c.fresh.new.volume c.append.new.volume (After f (CountsOneMore [] c.args.text.now) (of.may_leave c.fresh.new.volume)) in
    let run = λ (b : List ℕ). LeavesOnly of c.fresh.new.volume c.append.new.volume (After c.in-Ok.log.file (CountsOneMore [] b) (of.may_leave c.fresh.new.volume)) in
    append_leaves of _ c.args.volume.now c.fresh.new.volume c.args.text.now g.met.V.Volume.counts_now c.append.new.volume (fresh_leaves of _ c.args.volume.now c.fresh.new.volume c.args.text.now settled c.in-Ok.ensures.any_moment)
    (subst step c.in-Ok.ensures.ok.0 (subst run c.in_ok-frame.ensures (c.in-Err-append.ensures.any_moment [] (c.in-Ok.ensures.ok.1 settled.tells))))

pub returns-in-Ok-append-clause-durable : goal.returns-in-Ok-append-clause-durable
returns-in-Ok-append-clause-durable g c told i left =
    let rests = c.in-Ok-append.ensures.ok [] (c.in-Ok.ensures.ok.1 told) in
    let same : c.append.new.self.file ≡ Job = c.in-Ok-append.ensures.file ∙ c.in-Ok.ensures.ok.0 in
    let on_disk : i c.append.new.self.file ≡ g.V.Volume.contents c.append.new.volume c.append.new.self.file = rests.disk.only i left in
    subst (λ (f : FileId). Counts (c.args.text.now ∷ []) (i f)) same
    (subst (Counts (c.args.text.now ∷ [])) (sym on_disk)
    (rest_counts (c.args.text.now ∷ []) _ (subst (λ (b : List ℕ). EndsAt (b ∷ []) (g.V.Volume.contents c.append.new.volume c.append.new.self.file)) c.in_ok-frame.ensures rests.ends)))
