-- What the calls of an `append` leave, over any volume.
use Rattle.std.proofs.Common.{◌≡◌, ℕ, ◌+◌, ◌≤◌, List, [], ◌∷◌, ◌++◌, length, IsTrue, sym, ◌∙◌, ap, subst, arith, length-append}
use Rattle.std.proofs.lemmas.List.{append-nil}
use Rattle.crawl_traits.specs.Images.{Image, Written, TornWrite, InFile, After, Only}
use Rattle.crawl_traits.specs.Runs.{LeavesOnly}
use Rattle.crawl_traits.specs.declared.file.FileId.{FileId}
use Rattle.crawl_traits.specs.declared.volume.Volume.{Ghosts}
use Rattle.crawl_traits.proofs.Moments.{weaker, joined}
use Rattle.crawl_traits.proofs.Steps.{step_weaker, steps_joined}
use Rattle.gate_log.specs.Blocks.{blocks, framed, IsBody, at_rest}
use Rattle.gate_log.specs.Rest.{RestsAt, CountsOneMore}
use Rattle.gate_log.proofs.Appending.{blocks-push, torn_behind, written_behind, staged, torn_gate, written_gate, written_gate_is}

pub length-blocks_push : (bodies : List (List ℕ)) (body bytes : List ℕ) → bytes ≡ framed body ++ 45 ∷ [] → length (blocks (bodies ++ body ∷ [])) ≡ length (blocks bodies) + length bytes
length-blocks_push bodies body bytes is =
    let nothing : List ℕ = [] in
    let pushed : blocks (bodies ++ body ∷ []) ≡ blocks bodies ++ 43 ∷ (framed body ++ []) = sym (append-nil (blocks (bodies ++ body ∷ []))) ∙ blocks-push bodies body [] in
    omega (arith, ap length pushed, length-append (blocks bodies) (43 ∷ (framed body ++ [])), length-append (framed body) nothing, ap length is, length-append (framed body) (45 ∷ []))

module _ {V : Type 0} (of : Ghosts V) (file : FileId) (gate : ℕ) (old mid : V) (bodies : List (List ℕ)) (body bytes : List ℕ) (rest : RestsAt of old file gate bodies) (is_frame : bytes ≡ framed body ++ 45 ∷ []) (one : IsBody body) where
  -- any image that counts the blocks, with the new one or without
  abbrev pub Fine : Image → Type 0
  Fine = After file (CountsOneMore bodies body) (of.may_leave old)

  -- the file's bytes at entry
  abbrev pub held : List ℕ
  held = of.contents old file

  pub first_leaves : LeavesOnly of old mid (After file (TornWrite (gate + 1) (length bytes)) (of.may_leave old)) → LeavesOnly of old mid Fine
  first_leaves first =
      weaker of old mid _ Fine (step_weaker file held (TornWrite (gate + 1) (length bytes)) (CountsOneMore bodies body) (of.may_leave old) rest.disk.only
      (λ c torn. torn_behind bodies body held rest.ends (length bytes) c (subst (λ (k : ℕ). TornWrite (k + 1) (length bytes) held c) rest.place torn))) first

  module _ (written : InFile file (Written (gate + 1) bytes) (of.contents old) (of.contents mid)) (durable : Only file (of.contents mid file) (of.may_leave mid)) where
    written_is : of.contents mid file ≡ staged bodies body held rest.ends one
    written_is =
        let at : Written (length (blocks bodies) + 1) (framed body ++ 45 ∷ []) held (of.contents mid file) =
        subst (λ (k : ℕ). Written (k + 1) (framed body ++ 45 ∷ []) held (of.contents mid file)) rest.place
        (subst (λ (b : List ℕ). Written (gate + 1) b held (of.contents mid file)) is_frame written.here) in
        written_behind bodies body held rest.ends one (of.contents mid file) at

    pub mid_staged : Only file (staged bodies body held rest.ends one) (of.may_leave mid)
    mid_staged m now = durable m now ∙ written_is

    pub second_leaves : (counts_now : (v : V) (t : ℕ) (i : Image) → t ≤ of.moment v → of.may_leave v i → of.left_since v t i) (new : V) → LeavesOnly of old mid (After file (TornWrite (gate + 1) (length bytes)) (of.may_leave old))
        → LeavesOnly of mid new (After file (TornWrite gate 1) (of.may_leave mid)) → LeavesOnly of old new Fine
    second_leaves counts_now new first second =
        let fine = first_leaves first in
        joined of old mid new Fine fine
        (weaker of mid new _ Fine (steps_joined file (staged bodies body held rest.ends one) (CountsOneMore bodies body) (TornWrite gate 1) (CountsOneMore bodies body) (of.may_leave old) (of.may_leave mid) mid_staged
        (λ m now. fine.each m (counts_now mid (of.moment old) m fine.later now))
        (λ a c torn. torn_gate bodies body held rest.ends one c (subst (λ (k : ℕ). TornWrite k 1 (staged bodies body held rest.ends one) c) rest.place torn))) second)

    module _ (new : V) (again : InFile file (Written gate (43 ∷ [])) (of.contents mid) (of.contents new)) where
      here : Written (length (blocks bodies)) (43 ∷ []) (staged bodies body held rest.ends one) (of.contents new file)
      here = subst (λ (k : ℕ). Written k (43 ∷ []) (staged bodies body held rest.ends one) (of.contents new file)) rest.place (subst (λ (f : List ℕ). Written gate (43 ∷ []) f (of.contents new file)) written_is again.here)

      pub at_rest_again : (next : ℕ) → next ≡ gate + length bytes → IsTrue (of.tells new) → Only file (of.contents new file) (of.may_leave new) → RestsAt of new file next (bodies ++ body ∷ [])
      at_rest_again next is tells durable_again = record {
        disk = record { tells = tells; only = durable_again };
        ends = written_gate bodies body held rest.ends one (of.contents new file) here;
        place = is ∙ omega (arith, rest.place, length-blocks_push bodies body bytes is_frame);
      }

      -- and what a read gives is then spelled so
      pub spelled_again : of.contents new file ≡ at_rest (bodies ++ body ∷ [])
      spelled_again = written_gate_is bodies body held rest.ends one (of.contents new file) here
