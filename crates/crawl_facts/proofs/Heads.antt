-- A head, computed: where a block has one, status, fields and rest are read as those of that.
use Rattle.std.proofs.Common.{◌≡◌, inl, inr, ℕ, zero, suc, ◌<◌, Bool, true, false, ◌==◌, ◌||◌, List, [], ◌∷◌, ◌++◌, length, map, take, drop, refl, sym, ◌∙◌, ap, subst, arith, Option, Some, None}
use Rattle.std.specs.Prelude.{if◌then◌else◌, flat_map}
use Rattle.std.specs.List.{AllByRecursion}
use Rattle.std.specs.Str.Parse.{digits_value}
use Rattle.std.proofs.Math.Seq.{take-append_seam, drop-append_seam}
use Rattle.std.proofs.lemmas.List.{append_assoc}
use Rattle.std.proofs.lemmas.List.Elements.{recursion_from_All}
use Rattle.std.proofs.lemmas.Bool.Decides.{Decides-eqb}
use Rattle.std.proofs.lemmas.Bool.{cases_Bool}
use Rattle.httparse.specs.Grammar.{AllPass, LineEnd, crlf, lf, print_end, print_blank, print_version, Field, print_field, IsField, trim_ows, is_token_byte, is_value_byte, print_section, ResponseHead, print_reason, reason_phrase, status_code}
use Rattle.httparse.specs.Pieces.{is_newline}
use Rattle.httparse.specs.Spans.{name_and_value}
use Rattle.httparse.proofs.GrammarLemmas.{print_response-append}
use Rattle.httparse.proofs.PieceLemmas.{colon_ends_token, print_field-append}
use Rattle.page_spec.specs.Fields.{Pair}
use Rattle.page_spec.specs.Response.{fields_of, IsHead}

-- ---- bytes up to a mark

abbrev is_feed : ℕ → Bool
is_feed b = b == 10

abbrev is_colon : ℕ → Bool
is_colon b = b == 58

-- none of the bytes passes
abbrev Clean : (ℕ → Bool) → List ℕ → Type 0
Clean p xs = AllByRecursion (λ b. p b ≡ false) xs

-- the bytes before the first that passes
abbrev upto : (ℕ → Bool) → List ℕ → List ℕ
upto p [] = []
upto p (x ∷ xs) = if p x then [] else x ∷ upto p xs

-- those behind it
abbrev past : (ℕ → Bool) → List ℕ → List ℕ
past p [] = []
past p (x ∷ xs) = if p x then xs else past p xs

-- those from the first on that does not pass
abbrev skip : (ℕ → Bool) → List ℕ → List ℕ
skip p [] = []
skip p (x ∷ xs) = if p x then skip p xs else x ∷ xs

upto_stop : (p : ℕ → Bool) (xs : List ℕ) (y : ℕ) (ys : List ℕ) → Clean p xs → p y ≡ true → upto p (xs ++ (y ∷ ys)) ≡ xs
upto_stop p [] y ys clean stop = rw stop refl
upto_stop p (x ∷ xs) y ys clean stop = rw clean.0 (ap (λ (r : List ℕ). x ∷ r) (upto_stop p xs y ys clean.1 stop))

past_over : (p : ℕ → Bool) (xs ys : List ℕ) → Clean p xs → past p (xs ++ ys) ≡ past p ys
past_over p [] ys clean = refl
past_over p (x ∷ xs) ys clean = rw clean.0 (past_over p xs ys clean.1)

past_stop : (p : ℕ → Bool) (xs : List ℕ) (y : ℕ) (ys : List ℕ) → Clean p xs → p y ≡ true → past p (xs ++ (y ∷ ys)) ≡ ys
past_stop p xs y ys clean stop = past_over p xs (y ∷ ys) clean ∙ rw stop refl

skip_over : (p : ℕ → Bool) (xs ys : List ℕ) → AllByRecursion (λ b. p b ≡ true) xs → skip p (xs ++ ys) ≡ skip p ys
skip_over p [] ys all = refl
skip_over p (x ∷ xs) ys all = rw all.0 (skip_over p xs ys all.1)

clean_by : (p q : ℕ → Bool) → ((b : ℕ) → q b ≡ true → p b ≡ false) → (xs : List ℕ) → AllByRecursion (λ b. q b ≡ true) xs → Clean p xs
clean_by p q no_both [] all = tt
clean_by p q no_both (x ∷ xs) all = (no_both x all.0, clean_by p q no_both xs all.1)

clean_append : (p : ℕ → Bool) (xs ys : List ℕ) → Clean p xs → Clean p ys → Clean p (xs ++ ys)
clean_append p [] ys a b = b
clean_append p (x ∷ xs) ys a b = (a.0, clean_append p xs ys a.1 b)

-- a byte that passes is none that does not
not_byte : (q : ℕ → Bool) (n : ℕ) → q n ≡ false → (b : ℕ) → q b ≡ true → (b == n) ≡ false
not_byte q n fails b passes =
    elim (cases_Bool (b == n)) [
      | inl e ↦ absurd (let at : q n ≡ true = subst (λ (k : ℕ). q k ≡ true) ((Decides-eqb b n).0 e) passes in cc (at, fails))
      | inr e ↦ e
    ]

token_no_feed : (b : ℕ) → is_token_byte b ≡ true → is_feed b ≡ false
unfolding is_token_byte
token_no_feed b t = not_byte is_token_byte 10 refl b t

token_no_return : (b : ℕ) → is_token_byte b ≡ true → (b == 13) ≡ false
unfolding is_token_byte
token_no_return b t = not_byte is_token_byte 13 refl b t

token_no_colon : (b : ℕ) → is_token_byte b ≡ true → is_colon b ≡ false
token_no_colon b t = not_byte is_token_byte 58 colon_ends_token b t

value_no_feed : (b : ℕ) → is_value_byte b ≡ true → is_feed b ≡ false
value_no_feed b t = not_byte is_value_byte 10 refl b t

value_no_newline : (b : ℕ) → is_value_byte b ≡ true → is_newline b ≡ false
value_no_newline b t = both_fail (b == 13) (b == 10) (not_byte is_value_byte 13 refl b t) (not_byte is_value_byte 10 refl b t)
  where
    both_fail : (a b : Bool) → a ≡ false → b ≡ false → (a || b) ≡ false
    both_fail a b ea eb = ap (λ (t : Bool). t || b) ea ∙ eb

-- ---- fields

-- name and value of the field at the front
abbrev line_pair : List ℕ → Pair
line_pair line = (upto is_colon line, trim_ows (upto is_newline (past is_colon line)))

abbrev with_pair : Pair → List Pair × List ℕ → List Pair × List ℕ
with_pair pair more = (pair ∷ more.0, more.1)

-- fewer than n fields and the empty line behind them, and the rest
section : ℕ → List ℕ → List Pair × List ℕ
section zero bytes = ([], [])
section (suc n) [] = ([], [])
section (suc n) (x ∷ xs) =
    if x == 10 then ([], xs)
    else if x == 13 then ([], past is_feed xs)
    else with_pair (line_pair (x ∷ xs)) (section n (past is_feed (x ∷ xs)))

neither : {X : Type 0} (a b : Bool) (p q r : X) → a ≡ false → b ≡ false → (if a then p else if b then q else r) ≡ r
neither a b p q r ea eb = rw ea (rw eb refl)

-- what one field and more are read as, by its parts
one_line : (n : ℕ) (x : ℕ) (name raw : List ℕ) (end : LineEnd) (more : List ℕ)
    → AllByRecursion (λ b. is_token_byte b ≡ true) (x ∷ name) → AllByRecursion (λ b. is_value_byte b ≡ true) raw
    → section (suc n) ((x ∷ name) ++ (58 ∷ (raw ++ (print_end end ++ more)))) ≡ with_pair ((x ∷ name), trim_ows raw) (section n more)
unfolding section
one_line n x name raw end more token value =
    let tail : List ℕ = raw ++ (print_end end ++ more) in
    let line : List ℕ = (x ∷ name) ++ (58 ∷ tail) in
    let no_colon : Clean is_colon (x ∷ name) = clean_by is_colon is_token_byte token_no_colon (x ∷ name) token in
    let name_is : upto is_colon line ≡ x ∷ name = upto_stop is_colon (x ∷ name) 58 tail no_colon refl in
    let behind : past is_colon line ≡ tail = past_stop is_colon (x ∷ name) 58 tail no_colon refl in
    let raw_is : upto is_newline tail ≡ raw = upto_end raw end more value in
    let pair : line_pair line ≡ ((x ∷ name), trim_ows raw) =
    ap (λ (a : List ℕ). (a, trim_ows (upto is_newline (past is_colon line)))) name_is
    ∙ ap (λ (b : List ℕ). ((x ∷ name), trim_ows (upto is_newline b))) behind
    ∙ ap (λ (b : List ℕ). ((x ∷ name), trim_ows b)) raw_is in
    let no_feed : Clean is_feed (x ∷ name) = clean_by is_feed is_token_byte token_no_feed (x ∷ name) token in
    let rest : past is_feed line ≡ more =
    past_over is_feed (x ∷ name) (58 ∷ tail) no_feed ∙ past_end raw end more value in
    let step : with_pair (line_pair line) (section n (past is_feed line)) ≡ with_pair ((x ∷ name), trim_ows raw) (section n more) =
    ap (λ (p : Pair). with_pair p (section n (past is_feed line))) pair ∙ ap (λ (m : List ℕ). with_pair ((x ∷ name), trim_ows raw) (section n m)) rest in
    neither (x == 10) (x == 13) ([], name ++ (58 ∷ tail)) ([], past is_feed (name ++ (58 ∷ tail))) (with_pair (line_pair line) (section n (past is_feed line))) (token_no_feed x token.0) (token_no_return x token.0) ∙ step
  where
    upto_end : (raw : List ℕ) (end : LineEnd) (more : List ℕ) → AllByRecursion (λ b. is_value_byte b ≡ true) raw → upto is_newline (raw ++ (print_end end ++ more)) ≡ raw
    upto_end raw crlf more value = upto_stop is_newline raw 13 (10 ∷ more) (clean_by is_newline is_value_byte value_no_newline raw value) refl
    upto_end raw lf more value = upto_stop is_newline raw 10 more (clean_by is_newline is_value_byte value_no_newline raw value) refl

    past_end : (raw : List ℕ) (end : LineEnd) (more : List ℕ) → AllByRecursion (λ b. is_value_byte b ≡ true) raw → past is_feed (raw ++ (print_end end ++ more)) ≡ more
    past_end raw crlf more value = past_over is_feed raw (13 ∷ 10 ∷ more) (clean_by is_feed is_value_byte value_no_feed raw value)
    past_end raw lf more value = past_over is_feed raw (10 ∷ more) (clean_by is_feed is_value_byte value_no_feed raw value)

field_is : (n : ℕ) (f : Field) (more : List ℕ) → IsField f → section (suc n) (f.name ++ (58 ∷ (f.raw ++ (print_end f.end ++ more)))) ≡ with_pair (name_and_value f) (section n more)
field_is n f more is = by_name f.name is.name.0 (recursion_from_All (λ b. is_token_byte b ≡ true) f.name is.name.1)
  where
    by_name : (name : List ℕ) → 0 < length name → AllByRecursion (λ b. is_token_byte b ≡ true) name → section (suc n) (name ++ (58 ∷ (f.raw ++ (print_end f.end ++ more)))) ≡ with_pair (name, trim_ows f.raw) (section n more)
    by_name [] some token = absurd (omega (arith, some))
    by_name (x ∷ name) some token = one_line n x name f.raw f.end more token (recursion_from_All (λ b. is_value_byte b ≡ true) f.raw is.raw)

section_is : (n : ℕ) (fields : List Field) (last : LineEnd) (rest : List ℕ) → length fields < n → AllByRecursion IsField fields
    → section n (print_section fields last ++ rest) ≡ (map name_and_value fields, rest)
unfolding section
section_is zero fields last rest few all = absurd (omega (arith, few))
section_is (suc n) [] crlf rest few all = refl
section_is (suc n) [] lf rest few all = refl
section_is (suc n) (f ∷ fields) last rest few all =
    let behind : List ℕ = print_section fields last ++ rest in
    let cut : print_section (f ∷ fields) last ++ rest ≡ f.name ++ (58 ∷ (f.raw ++ (print_end f.end ++ behind))) =
    regroup (print_field f) (flat_map print_field fields) (print_end last) rest ∙ print_field-append f behind in
    ap (section (suc n)) cut ∙ field_is n f behind all.0 ∙ ap (with_pair (name_and_value f)) (section_is n fields last rest (omega (arith, few)) all.1)
  where
    regroup : (a b c r : List ℕ) → ((a ++ b) ++ c) ++ r ≡ a ++ ((b ++ c) ++ r)
    regroup a b c r = simp (append_assoc)

-- ---- the head

-- what stands behind the version
behind_version : List ℕ → List ℕ
behind_version block = drop 9 (skip is_newline block)

pub status_in : List ℕ → ℕ
status_in block = digits_value 10 (take 3 (behind_version block))

-- one more than a head may have fields
fuel : ℕ
fuel = 257

-- the fields and the rest
pub parts_in : List ℕ → List Pair × List ℕ
parts_in block = section fuel (past is_feed (drop 3 (behind_version block)))

blank_passes : (ends : List LineEnd) → AllByRecursion (λ b. is_newline b ≡ true) (print_blank ends)
blank_passes [] = tt
blank_passes (crlf ∷ ends) = (refl, (refl, blank_passes ends))
blank_passes (lf ∷ ends) = (refl, blank_passes ends)

version_is : (block : List ℕ) (h : ResponseHead) (more : List ℕ) → block ≡ print_blank h.blank ++ (print_version h.minor ++ (32 ∷ more)) → behind_version block ≡ more
unfolding behind_version
version_is block h more cut =
    ap behind_version cut ∙ ap (drop 9) (skip_over is_newline (print_blank h.blank) (print_version h.minor ++ (32 ∷ more)) (blank_passes h.blank))

reason_over : (reason : Option (List ℕ)) (end : LineEnd) (more : List ℕ) → AllPass is_value_byte (reason_phrase reason) → past is_feed (print_reason reason ++ (print_end end ++ more)) ≡ more
reason_over None crlf more all = refl
reason_over None lf more all = refl
reason_over (Some phrase) crlf more all = past_over is_feed phrase (13 ∷ 10 ∷ more) (clean_by is_feed is_value_byte value_no_feed phrase (recursion_from_All (λ b. is_value_byte b ≡ true) phrase all))
reason_over (Some phrase) lf more all = past_over is_feed phrase (10 ∷ more) (clean_by is_feed is_value_byte value_no_feed phrase (recursion_from_All (λ b. is_value_byte b ≡ true) phrase all))

-- where a block has a head, that is read
pub head_is_read : (block : List ℕ) (h : ResponseHead) (rest : List ℕ) → IsHead block h rest → (status_in block ≡ status_code h) × (parts_in block ≡ (fields_of h, rest))
unfolding status_in parts_in fuel
head_is_read block h rest is =
    let line : List ℕ = print_reason h.reason ++ (print_end h.line_end ++ (print_section h.fields h.last ++ rest)) in
    let at : behind_version block ≡ h.digits ++ line = version_is block h (h.digits ++ line) (is.reads.1 ∙ print_response-append h rest) in
    let three : length h.digits ≡ 3 = is.reads.0.digits.0 in
    let digits : take 3 (behind_version block) ≡ h.digits =
    ap (take 3) at ∙ ap (λ (n : ℕ). take n (h.digits ++ line)) (sym three) ∙ take-append_seam h.digits line in
    let behind : drop 3 (behind_version block) ≡ line =
    ap (drop 3) at ∙ ap (λ (n : ℕ). drop n (h.digits ++ line)) (sym three) ∙ drop-append_seam h.digits line in
    let lines : past is_feed (drop 3 (behind_version block)) ≡ print_section h.fields h.last ++ rest =
    ap (past is_feed) behind ∙ reason_over h.reason h.line_end (print_section h.fields h.last ++ rest) is.reads.0.reason in (
      ap (digits_value 10) digits,
      ap (section fuel) lines ∙ section_is fuel h.fields h.last rest (omega (arith, is.few)) (recursion_from_All IsField h.fields is.reads.0.fields),
    )
