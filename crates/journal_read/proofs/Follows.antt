-- Lines whose tag is read, behind those of events.
use Rattle.std.proofs.Common.{◌≡◌, ℕ, List, [], ◌∷◌, ◌++◌, length, drop, Result, Ok, Err, refl, sym, ap, ◌∙◌, arith, append-nil, length-append}
use Rattle.std.specs.Prelude.{flat_map}
use Rattle.std.specs.List.{join_with_byte}
use Rattle.crawl_kinds.specs.declared.event.Event.{Event}
use Rattle.journal_read.specs.declared.fault.Misread.{Misread}
use Rattle.journal_read.specs.declared.fault.Misread.TheVariants.{Bad, NoMemory}
use Rattle.journal_read.specs.declared.line.Line.{Line}
use Rattle.journal_read.specs.Joining.{Continues, Follows, Joins}
use Rattle.journal_read.specs.Lines.{IsLineOf, IsTagged, lines_of, rest_of, tag_of}
use Rattle.journal_read.specs.Reading.{Takes, cells}
use Rattle.journal_read.proofs.Same.{at}
use Rattle.journal_read.proofs.Spelled.{line_of_same}
use Rattle.journal_read.proofs.Tagged.{as_many, line_read, parts_of}

-- where no line of the tag is read, none stands there
pub follows_none : (tag : List ℕ) (mid new : List (List ℕ)) (old events : List Event) (fault : Misread) → Takes rest_of (IsTagged tag) mid new (Err fault) → Follows tag mid old events (Err fault)
follows_none tag mid new old events Bad h = λ l tagged e others f. h l [] tagged (e ∙ sym (append-nil (rest_of l)))
follows_none tag mid new old events NoMemory h = tt

-- where fields are left, no line stands there
pub follows_more : (tag : List ℕ) (mid new : List (List ℕ)) (old events : List Event) (m : Line) → IsTagged tag m → mid ≡ rest_of m ++ new → (new ≡ [] → ⊥) → Follows tag mid old events (Err Bad)
follows_more tag mid [] old events m tagged e more = absurd (more refl)
follows_more tag mid (n ∷ new) old events m tagged e more =
    λ l is f others g.
    let many = as_many m l (sym tagged.1 ∙ is.1) in
    omega (arith, many, ap length (sym e ∙ f), length-append (rest_of m) (n ∷ new))

line_of : (tag : List ℕ) (mid : List (List ℕ)) (l : Line) → IsTagged tag l → mid ≡ rest_of l → IsLineOf (join_with_byte 32 (tag ∷ mid)) l
line_of tag mid l tagged e = (tagged.0, ap (λ (t : List ℕ). join_with_byte 32 (t ∷ mid)) tagged.1 ∙ ap (λ (t : List (List ℕ)). join_with_byte 32 (tag_of l ∷ t)) e)

pub follows_joined : (tag : List ℕ) (mid new : List (List ℕ)) (old events : List Event) (l : Line) (r : Result (Unit {0}) Misread) → IsTagged tag l → mid ≡ rest_of l ++ new → new ≡ [] → Joins l old events r → Follows tag mid old events r
follows_joined tag mid new old events l (Ok done) tagged e none h = (l, tagged, e ∙ (ap (λ (t : List (List ℕ)). rest_of l ++ t) none ∙ append-nil (rest_of l)), h)
follows_joined tag mid new old events l (Err Bad) tagged e none h =
    let own : mid ≡ rest_of l = e ∙ (ap (λ (t : List (List ℕ)). rest_of l ++ t) none ∙ append-nil (rest_of l)) in
    λ m is f others g.
    h others (g ∙ ap (λ (x : Line). flat_map lines_of old ++ x ∷ []) (line_of_same (join_with_byte 32 (tag ∷ mid)) m l (line_of tag mid m is f) (line_of tag mid l tagged own)))
follows_joined tag mid new old events l (Err NoMemory) tagged e none h = tt

-- the tag in front
pub follows_text : (text tag : List ℕ) (mid : List (List ℕ)) (old events : List Event) (r : Result (Unit {0}) Misread) → cells 32 text ≡ tag ∷ mid → Follows tag mid old events r → Continues text old events r
follows_text text tag mid old events (Ok done) cut h = (h.0, line_read text tag mid [] h.0 cut h.1 (h.2 ∙ sym (append-nil (rest_of h.0))) refl, h.3)
follows_text text tag mid old events (Err Bad) cut h =
    λ l is others g.
    let both = parts_of text tag mid l cut is in
    h l (is.0, ap (at 0) both) (ap (drop 1) both) others g
follows_text text tag mid old events (Err NoMemory) cut h = tt
