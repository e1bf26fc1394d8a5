-- Numbers between marks.
use Rattle.std.proofs.Common.{◌≡◌, ℕ, ◌<◌, ◌^◌, false, eqb, List, [], ◌∷◌, ◌++◌, Some, sym, ap, ◌∙◌, arith, append_assoc}
use Rattle.std.specs.Prelude.{decimal}
use Rattle.std.proofs.lemmas.Bool.{ne_eqb}
use Rattle.std.proofs.lemmas.Str.Parse.{digit_at}
use Rattle.std.proofs.lemmas.Fmt.{digits_decimal}
use Rattle.std.proofs.lemmas.List.Elements.{All-from_get_or}
use Rattle.crawl_kinds.specs.declared.event.Fetch.{Fetch}
use Rattle.crawl_kinds.specs.declared.event.Spot.{Spot}
use Rattle.journal_spec.specs.Fields.{fetch_field, spot_field}
use Rattle.journal_valid.specs.Ends.{IsFetch}
use Rattle.journal_read.specs.Reading.{cells}
use Rattle.journal_read.specs.Ends.{IsSpot}
use Rattle.journal_read.proofs.Numbers.{own}
use Rattle.journal_read.proofs.Cells.{IsFree, one_cell, joined_cells}

-- a mark that is no digit is not in a number
pub number_free : (mark n : ℕ) → mark < 48 → n < 2 ^ 64 → IsFree mark (decimal n)
number_free mark n low small =
    All-from_get_or (λ x. eqb x mark ≡ false) (decimal n) 0
    (λ i inside. ne_eqb _ _ (λ e. let d = digit_at (decimal n) i (digits_decimal own n small) inside in omega arith))

pub number_free_above : (mark n : ℕ) → 57 < mark → n < 2 ^ 64 → IsFree mark (decimal n)
number_free_above mark n high small =
    All-from_get_or (λ x. eqb x mark ≡ false) (decimal n) 0
    (λ i inside. ne_eqb _ _ (λ e. let d = digit_at (decimal n) i (digits_decimal own n small) inside in omega arith))

pub joined_fetch : (start duration text a b : List ℕ) → text ≡ a ++ 43 ∷ b → a ≡ start → b ≡ duration → text ≡ (start ++ (43 ∷ [])) ++ duration
joined_fetch start duration text a b e f g = e ∙ (ap (λ x. x ++ 43 ∷ b) f ∙ (ap (λ y. start ++ 43 ∷ y) g ∙ sym (append_assoc start (43 ∷ []) duration)))

pub fetch_cells : (fetch : Fetch) → IsFetch fetch → cells 43 (fetch_field (Some fetch)) ≡ decimal fetch.start ∷ decimal fetch.duration ∷ []
fetch_cells fetch is =
    let start = number_free 43 fetch.start (omega arith) (omega (arith, is.start)) in
    let duration = number_free 43 fetch.duration (omega arith) (omega (arith, is.duration)) in
    ap (cells 43) (append_assoc (decimal fetch.start) (43 ∷ []) (decimal fetch.duration)) ∙ joined_cells 43 (decimal fetch.start) (decimal fetch.duration ∷ []) start (duration, tt)

pub fetch_parts : (text a b : List ℕ) (fetch : Fetch) → IsFetch fetch → text ≡ fetch_field (Some fetch) → cells 43 text ≡ a ∷ cells 43 b → (a ≡ decimal fetch.start) × (b ≡ decimal fetch.duration)
fetch_parts text a b fetch is e cut =
    let both : a ∷ cells 43 b ≡ decimal fetch.start ∷ decimal fetch.duration ∷ [] = sym cut ∙ (ap (cells 43) e ∙ fetch_cells fetch is) in
    let rest : cells 43 b ≡ decimal fetch.duration ∷ [] = cc in
    (cc, one_cell 43 b (decimal fetch.duration) rest)

pub fetch_cut : (text : List ℕ) (fetch : Fetch) → IsFetch fetch → text ≡ fetch_field (Some fetch) → cells 43 text ≡ text ∷ [] → ⊥
fetch_cut text fetch is e one =
    let both : text ∷ [] ≡ decimal fetch.start ∷ decimal fetch.duration ∷ [] = sym one ∙ (ap (cells 43) e ∙ fetch_cells fetch is) in
    cc

pub spot_cells : (spot : Spot) → IsSpot spot → cells 58 (spot_field spot) ≡ decimal spot.file ∷ decimal spot.at ∷ decimal spot.len ∷ []
spot_cells spot is =
    joined_cells 58 (decimal spot.file) (decimal spot.at ∷ decimal spot.len ∷ [])
    (number_free_above 58 spot.file (omega arith) (omega (arith, is.file)))
    (number_free_above 58 spot.at (omega arith) (omega (arith, is.at)), (number_free_above 58 spot.len (omega arith) (omega (arith, is.len)), tt))

pub spot_no_cut : (text : List ℕ) (spot : Spot) → IsSpot spot → text ≡ spot_field spot → cells 58 text ≡ text ∷ [] → ⊥
spot_no_cut text spot is e one =
    let both : text ∷ [] ≡ decimal spot.file ∷ decimal spot.at ∷ decimal spot.len ∷ [] = sym one ∙ (ap (cells 58) e ∙ spot_cells spot is) in
    cc

pub spot_one_cut : (text a r : List ℕ) (spot : Spot) → IsSpot spot → text ≡ spot_field spot → cells 58 text ≡ a ∷ cells 58 r → cells 58 r ≡ r ∷ [] → ⊥
spot_one_cut text a r spot is e cut one =
    let both : a ∷ cells 58 r ≡ decimal spot.file ∷ decimal spot.at ∷ decimal spot.len ∷ [] = sym cut ∙ (ap (cells 58) e ∙ spot_cells spot is) in
    cc

pub spot_parts : (text a r b l : List ℕ) (spot : Spot) → IsSpot spot → text ≡ spot_field spot → cells 58 text ≡ a ∷ cells 58 r → cells 58 r ≡ b ∷ cells 58 l → (a ≡ decimal spot.file) × (b ≡ decimal spot.at) × (l ≡ decimal spot.len)
spot_parts text a r b l spot is e cut next =
    let both : a ∷ cells 58 r ≡ decimal spot.file ∷ decimal spot.at ∷ decimal spot.len ∷ [] = sym cut ∙ (ap (cells 58) e ∙ spot_cells spot is) in
    let rest : cells 58 l ≡ decimal spot.len ∷ [] = cc in
    (cc, cc, one_cell 58 l (decimal spot.len) rest)
