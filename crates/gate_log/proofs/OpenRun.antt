-- What opening a log leaves: a sync, a reading, and then the mending of its end.
use Rattle.std.proofs.Common.{◌≡◌, IsTrue, sym, ◌∙◌, ap}
use Rattle.crawl_traits.specs.Images.{Image, After, Fewer, Only, Elapses}
use Rattle.crawl_traits.specs.Runs.{LeavesOnly}
use Rattle.crawl_traits.specs.declared.file.FileId.{FileId}
use Rattle.crawl_traits.specs.declared.volume.Volume.{Ghosts}
use Rattle.crawl_traits.proofs.Moments.{started, goes_on, weaker, joined}
use Rattle.crawl_traits.proofs.Steps.{stays}
use Rattle.gate_log.specs.Rest.{IsOnDisk, KeepsCount}

module _ {V : Type 0} (of : Ghosts V) (file : FileId) (old mid : V) (crash : Fewer (of.may_leave old) (of.may_leave mid)) where
  fewer : (i : Image) → After file KeepsCount (of.may_leave mid) i → After file KeepsCount (of.may_leave old) i
  fewer i a = record { old = a.old; was = crash a.old a.was; by = a.by }

  -- calls that leave the images as they were, and then calls that keep the count
  pub calm_then : (new : V) → LeavesOnly of old mid (of.may_leave old) → LeavesOnly of mid new (After file KeepsCount (of.may_leave mid)) → LeavesOnly of old new (After file KeepsCount (of.may_leave old))
  calm_then new calm then =
      joined of old mid new (After file KeepsCount (of.may_leave old)) (weaker of old mid (of.may_leave old) _ (λ i was. stays file KeepsCount (of.may_leave old) i was (λ bodies counts. counts)) calm) (weaker of mid new _ _ fewer then)

-- a sync, a reading and a mending leave of each image the blocks that it counts
pub open_run : {V : Type 0} (of : Ghosts V) (file : FileId) (old synced whole new : V) → ((v : V) (i : Image) → of.left_since v (of.moment v) i → of.may_leave v i)
    → Elapses (of.moment old) (of.moment synced) (of.left_since old) (of.left_since synced) (of.may_leave synced) → Fewer (of.may_leave old) (of.may_leave synced)
    → LeavesOnly of synced whole (of.may_leave synced) → Fewer (of.may_leave synced) (of.may_leave whole)
    → LeavesOnly of whole new (After file KeepsCount (of.may_leave whole)) → LeavesOnly of old new (After file KeepsCount (of.may_leave old))
open_run of file old synced whole new only_now time sync_fewer read read_fewer mended =
    let P = of.may_leave old in
    let at_start = started of old P (only_now old) in
    let sync = goes_on of old old synced P _ at_start time sync_fewer in
    let calm = joined of old synced whole P sync (weaker of synced whole _ P sync_fewer read) in
    calm_then of file old whole (λ i now. sync_fewer i (read_fewer i now)) new calm mended

-- after a sync and a reading the file is on the disk
pub read_on_disk : {V : Type 0} (of : Ghosts V) (file : FileId) (old synced whole : V) → IsTrue (of.tells old) → of.tells synced ≡ of.tells old → of.tells whole ≡ of.tells synced
    → of.contents synced ≡ of.contents old → of.contents whole ≡ of.contents synced → Only file (of.contents old file) (of.may_leave synced) → Fewer (of.may_leave synced) (of.may_leave whole) → IsOnDisk of whole file
read_on_disk of file old synced whole told one two same again only fewer = record {
  tells = two ∙ one ∙ told;
  only = λ i now. only i (fewer i now) ∙ ap (λ (m : Image). m file) (sym (again ∙ same));
}
