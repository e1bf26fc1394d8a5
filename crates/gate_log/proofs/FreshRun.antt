-- What the calls of a `fresh` leave, over any volume.
use Rattle.std.proofs.Common.{◌≡◌, ℕ, List, [], ◌∷◌, ◌++◌, length, IsTrue, ◌∙◌, ap, arith}
use Rattle.crawl_traits.specs.Images.{Image, Written, TornWrite, Shortened, TornCut, InFile, After, Only}
use Rattle.crawl_traits.specs.declared.file.FileId.{FileId}
use Rattle.crawl_traits.specs.declared.volume.Volume.{Ghosts}
use Rattle.crawl_traits.proofs.Steps.{in_file_weaker, in_file_joined}
use Rattle.gate_log.specs.Rest.{RestsAt, Emptied}
use Rattle.gate_log.proofs.Appending.{written_at_end}

-- a step that does what another may do
pub step_as : (file : FileId) (step other : List ℕ → List ℕ → Type 0) (images : Image → Type 0) → ((a b : List ℕ) → step a b → other a b) → (i : Image) → After file step images i → After file other images i
step_as file step other images to i a = record { old = a.old; was = a.was; by = in_file_weaker file step other a.old i to a.by }

-- one step after another
pub steps_as : (file : FileId) (first second both : List ℕ → List ℕ → Type 0) (images between : Image → Type 0) → ((a b c : List ℕ) → first a b → second b c → both a c) → ((m : Image) → between m → After file first images m)
    → (i : Image) → After file second between i → After file both images i
steps_as file first second both images between to was i a =
    let from = was a.old a.was in
    record { old = from.old; was = from.was; by = in_file_joined file first second both from.old a.old i to from.by a.by }

-- what cutting a file to nothing and writing one byte leave of it at any moment
pub cut_empties : (a b : List ℕ) → TornCut 0 a b → Emptied a b
cut_empties a b torn = omega (arith, torn.no_longer)

pub write_empties : (a b c : List ℕ) → TornCut 0 a b → TornWrite 0 1 b c → Emptied a c
write_empties a b c cut torn = omega (arith, cut.no_longer, torn.no_longer)

pub emptied : (c d e : List ℕ) → Shortened 0 c d → Written 0 (45 ∷ []) d e → e ≡ 45 ∷ []
emptied c d e cut written = let none : d ≡ [] = cut in written_at_end 0 (45 ∷ []) d e (ap length none) written ∙ ap (λ (l : List ℕ). l ++ 45 ∷ []) none

pub at_rest_fresh : {V : Type 0} (of : Ghosts V) (file : FileId) (old mid new : V) → InFile file (Shortened 0) (of.contents old) (of.contents mid) → InFile file (Written 0 (45 ∷ [])) (of.contents mid) (of.contents new)
    → IsTrue (of.tells new) → Only file (of.contents new file) (of.may_leave new) → RestsAt of new file 0 []
at_rest_fresh of file old mid new cut written tells durable = record {
  disk = record { tells = tells; only = durable };
  ends = record { gate = 45; all = tt; closed = λ e. absurd (cc (e)); spelled = emptied (of.contents old file) (of.contents mid file) (of.contents new file) cut.here written.here };
  place = λ i. 0;
}
