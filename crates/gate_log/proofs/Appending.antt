-- What the two writes of an `append` leave.
use Rattle.std.proofs.Common.{◌≡◌, inl, inr, ℕ, ◌+◌, ◌-◌, min, List, [], ◌∷◌, ◌++◌, length, get_or, take, drop, replicate, refl, sym, ◌∙◌, ap, arith, append_assoc, length-append, take-append-drop}
use Rattle.std.proofs.lemmas.List.{take_at, drop_at, drop_more, take_all, drop_all, append-nil}
use Rattle.std.proofs.lemmas.Bool.{cases_eq}
use Rattle.std.specs.List.{AllByRecursion}
use Rattle.crawl_traits.specs.Images.{Written, TornWrite}
use Rattle.gate_log.specs.Blocks.{blocks, framed, IsBody, EndsAt}
use Rattle.gate_log.specs.Rest.{CountsOneMore}

pub all_push : (bodies : List (List ℕ)) (body : List ℕ) → AllByRecursion IsBody bodies → IsBody body → AllByRecursion IsBody (bodies ++ body ∷ [])
all_push [] body all one = (one, tt)
all_push (b ∷ bodies) body all one = (all.0, all_push bodies body all.1 one)

pub blocks-push : (bodies : List (List ℕ)) (body rest : List ℕ) → blocks (bodies ++ body ∷ []) ++ rest ≡ blocks bodies ++ 43 ∷ (framed body ++ rest)
blocks-push [] body rest = ap (λ (l : List ℕ). (43 ∷ l) ++ rest) (append-nil (framed body))
blocks-push (b ∷ bodies) body rest =
    append_assoc (43 ∷ framed b) (blocks (bodies ++ body ∷ [])) rest
    ∙ ap (λ (l : List ℕ). (43 ∷ framed b) ++ l) (blocks-push bodies body rest)
    ∙ sym (append_assoc (43 ∷ framed b) (blocks bodies) (43 ∷ (framed body ++ rest)))

-- a write at the end of a file
pub written_at_end : (at : ℕ) (bytes file c : List ℕ) → length file ≡ at → Written at bytes file c → c ≡ file ++ bytes
written_at_end at bytes file c end written =
    written
    ∙ ap (λ (l : List ℕ). l ++ replicate (at - length file) 0 ++ bytes ++ drop (at + length bytes) file) (take_all at file (omega (arith, end)))
    ∙ ap (λ (n : ℕ). file ++ replicate n 0 ++ bytes ++ drop (at + length bytes) file) (let none : at - length file ≡ 0 = omega (arith, end) in none)
    ∙ ap (λ (l : List ℕ). l ++ bytes ++ drop (at + length bytes) file) (append-nil file)
    ∙ ap (λ (l : List ℕ). file ++ bytes ++ l) (drop_all (at + length bytes) file (omega (arith, end)))
    ∙ append-nil (file ++ bytes)

-- a torn write at the end of a file leaves what was there
pub torn_at_end : (at n : ℕ) (file c : List ℕ) → length file ≡ at → TornWrite at n file c → c ≡ file ++ drop at c
torn_at_end at n file c end torn =
    let front : take at c ≡ file = ap (λ (k : ℕ). take k c) (let is : at ≡ min at (length file) = omega (arith, end) in is) ∙ torn.before ∙ take_all at file (omega (arith, end)) in
    sym (take-append-drop at c) ∙ ap (λ (l : List ℕ). l ++ drop at c) front

-- a write of one byte within a file
pub written_over : (front back : List ℕ) (old new at : ℕ) (c : List ℕ) → length front ≡ at → Written at (new ∷ []) (front ++ old ∷ back) c → c ≡ front ++ new ∷ back
written_over front back old new at c end written =
    let whole = front ++ old ∷ back in
    let long : length whole ≡ at + 1 + length back = omega (arith, end, length-append front (old ∷ back)) in
    let after : drop (at + 1) whole ≡ back =
    ap (λ (l : List ℕ). drop (at + 1) l) (sym (append_assoc front (old ∷ []) back)) ∙ drop_at (front ++ old ∷ []) back (at + 1) (omega (arith, end, length-append front (old ∷ []))) in
    written
    ∙ ap (λ (l : List ℕ). l ++ replicate (at - length whole) 0 ++ (new ∷ []) ++ drop (at + 1) whole) (take_at front (old ∷ back) at end)
    ∙ ap (λ (n : ℕ). front ++ replicate n 0 ++ (new ∷ []) ++ drop (at + 1) whole) (let none : at - length whole ≡ 0 = omega (arith, long) in none)
    ∙ ap (λ (l : List ℕ). l ++ (new ∷ []) ++ drop (at + 1) whole) (append-nil front)
    ∙ ap (λ (l : List ℕ). front ++ (new ∷ []) ++ l) after
    ∙ append_assoc front (new ∷ []) back

-- a torn write of one byte within a file leaves some byte there
pub torn_over : (front back : List ℕ) (old at : ℕ) (c : List ℕ) → length front ≡ at → TornWrite at 1 (front ++ old ∷ back) c → c ≡ front ++ get_or c at 0 ∷ back
torn_over front back old at c end torn =
    let whole = front ++ old ∷ back in
    let long : length whole ≡ at + 1 + length back = omega (arith, end, length-append front (old ∷ back)) in
    let after : drop (at + 1) c ≡ back =
    torn.after ∙ ap (λ (l : List ℕ). drop (at + 1) l) (sym (append_assoc front (old ∷ []) back)) ∙ drop_at (front ++ old ∷ []) back (at + 1) (omega (arith, end, length-append front (old ∷ []))) in
    let before : take at c ≡ front =
    ap (λ (k : ℕ). take k c) (let is : at ≡ min at (length whole) = omega (arith, long) in is) ∙ torn.before ∙ take_at front (old ∷ back) at end in
    sym (take-append-drop at c) ∙ ap (λ (l : List ℕ). l ++ drop at c) before
    ∙ ap (λ (l : List ℕ). front ++ l) (drop_more c at 0 (omega (arith, torn.no_shorter, long)) ∙ ap (λ (l : List ℕ). get_or c at 0 ∷ l) after)

module _ (bodies : List (List ℕ)) (body file : List ℕ) (ends : EndsAt bodies file) where
  pub length-at_rest : length file ≡ length (blocks bodies) + 1
  length-at_rest = ap length ends.spelled ∙ length-append (blocks bodies) (ends.gate ∷ [])

  -- the closed gate stands in each outcome of the first write
  pub torn_behind : (n : ℕ) (c : List ℕ) → TornWrite (length (blocks bodies) + 1) n file c → CountsOneMore bodies body file c
  torn_behind n c torn =
      let rest = drop (length (blocks bodies) + 1) c in
      inl (inl (record {
        gate = ends.gate;
        behind = rest;
        all = ends.all;
        closed = ends.closed;
        spelled = torn_at_end _ n file c length-at_rest torn ∙ ap (λ (l : List ℕ). l ++ rest) ends.spelled ∙ append_assoc (blocks bodies) (ends.gate ∷ []) rest;
      }))

  module _ (one : IsBody body) where
    abbrev pub staged : List ℕ
    staged = blocks bodies ++ ends.gate ∷ (framed body ++ 45 ∷ [])

    pub written_behind : (c : List ℕ) → Written (length (blocks bodies) + 1) (framed body ++ 45 ∷ []) file c → c ≡ staged
    written_behind c written =
        written_at_end _ _ file c length-at_rest written ∙ ap (λ (l : List ℕ). l ++ (framed body ++ 45 ∷ [])) ends.spelled ∙ append_assoc (blocks bodies) (ends.gate ∷ []) (framed body ++ 45 ∷ [])

    pub opened : (gate : ℕ) (c : List ℕ) → c ≡ blocks bodies ++ gate ∷ (framed body ++ 45 ∷ []) → gate ≡ 43 → EndsAt (bodies ++ body ∷ []) c
    opened gate c is open_gate = record {
      gate = 45;
      all = all_push bodies body ends.all one;
      closed = λ e. absurd (cc (e));
      spelled = is ∙ ap (λ (g : ℕ). blocks bodies ++ g ∷ (framed body ++ 45 ∷ [])) open_gate ∙ sym (blocks-push bodies body (45 ∷ []));
    }

    -- the new block stands whole in each outcome of the second write
    pub torn_gate : (c : List ℕ) → TornWrite (length (blocks bodies)) 1 staged c → CountsOneMore bodies body file c
    torn_gate c torn =
        let gate = get_or c (length (blocks bodies)) 0 in
        let is : c ≡ blocks bodies ++ gate ∷ (framed body ++ 45 ∷ []) = torn_over (blocks bodies) (framed body ++ 45 ∷ []) ends.gate _ c refl torn in
        elim (cases_eq gate 43) [
          | inl open_gate ↦
              let e = opened gate c is open_gate in
              inr (inl (record { gate = e.gate; behind = []; all = e.all; closed = e.closed; spelled = e.spelled }))
          | inr shut ↦ inl (inl (record { gate = gate; behind = framed body ++ 45 ∷ []; all = ends.all; closed = shut; spelled = is }))
        ]

    pub written_gate : (c : List ℕ) → Written (length (blocks bodies)) (43 ∷ []) staged c → EndsAt (bodies ++ body ∷ []) c
    written_gate c written = opened 43 c (written_over (blocks bodies) (framed body ++ 45 ∷ []) ends.gate 43 _ c refl written) refl

    pub written_gate_is : (c : List ℕ) → Written (length (blocks bodies)) (43 ∷ []) staged c → c ≡ blocks (bodies ++ body ∷ []) ++ 45 ∷ []
    written_gate_is c written = written_over (blocks bodies) (framed body ++ 45 ∷ []) ends.gate 43 _ c refl written ∙ sym (blocks-push bodies body (45 ∷ []))
