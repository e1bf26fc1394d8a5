-- What the output gains.
use Rattle.std.proofs.Common.{◌≡◌, ℕ, List, [], ◌++◌, take, refl, ◌∙◌, ap, arith}
use Rattle.std.proofs.lemmas.List.{take_all, append-nil}
use Rattle.program_status.specs.Gains.{Gains, GainsFront}
use Rattle.program_status.specs.Status.{status_text}
use Rattle.program_status.specs.declared.status.Status.TheVariants.{SinkFault}

-- a line behind an output that was left alone
pub gains_from : (rose_then rose : Type 0) (old mid new text : List ℕ) → mid ≡ old → (rose_then → rose) → Gains rose_then mid new text → Gains rose old new text
gains_from rose_then rose old mid new text same to gains = record {
  upto = gains.upto;
  within = gains.within;
  is = gains.is ∙ ap (λ (l : List ℕ). l ++ take gains.upto text) same;
  whole = λ less. to (gains.whole less);
}

sink_line : status_text SinkFault ≡ []
unfolding status_text
sink_line = refl

-- a failed sink is told nothing more
pub front_stays : (rose : Type 0) (old mid new shown : List ℕ) → GainsFront old mid shown → Gains rose mid new (status_text SinkFault) → GainsFront old new shown
front_stays rose old mid new shown front gains =
    let nothing : take gains.upto (status_text SinkFault) ≡ [] = ap (λ (l : List ℕ). take gains.upto l) sink_line ∙ take_all gains.upto [] (omega arith) in
    record { upto = front.upto; within = front.within; is = gains.is ∙ ap (λ (l : List ℕ). mid ++ l) nothing ∙ append-nil mid ∙ front.is }
