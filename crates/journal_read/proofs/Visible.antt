-- Every field of an allowed line is visible.
use Rattle.std.proofs.Common.{◌≡◌, ◌⊎◌, ⊎_elim, inl, inr, subst, cond, ℕ, ℤ, pos, negsuc, suc, ◌<◌, ◌^◌, Bool, true, false, List, [], ◌∷◌, ◌++◌, Option, Some, None, refl, sym, arith}
use Rattle.std.specs.Prelude.{decimal, codes, unwrap_or, IfSome, nat_lt, if◌then◌else◌}
use Rattle.std.specs.Fmt.{signed_decimal}
use Rattle.std.specs.List.{AllByRecursion, list_all, join_with_byte}
use Rattle.std.specs.Int.{IsInRange}
use Rattle.std.specs.Ordering.{int_eq}
use Rattle.std.proofs.lemmas.Bool.{and_parts, and_from, leb-true, or_cases, false≢true}
use Rattle.std.proofs.lemmas.Bool.Decides.{nat_tests, Decides-int_eq}
use Rattle.std.proofs.lemmas.Str.Parse.{digit_at}
use Rattle.std.proofs.lemmas.Fmt.{digits_decimal}
use Rattle.std.proofs.lemmas.List.Elements.{All-from_get_or, recursion_from_All}
use Rattle.crawl_kinds.specs.Text.{is_visible, is_hop, is_text}
use Rattle.crawl_kinds.specs.declared.event.Verdict.{Verdict}
use Rattle.crawl_kinds.specs.declared.event.Verdict.TheVariants.{Allowed, Precluded, Needed, Unsupported, Unreachable}
use Rattle.crawl_kinds.specs.declared.event.Outcome.{Outcome}
use Rattle.crawl_kinds.specs.declared.event.Outcome.TheVariants.{Success, Failure, Disregard, Retry}
use Rattle.crawl_kinds.specs.declared.event.Cut.{Cut}
use Rattle.crawl_kinds.specs.declared.event.Cut.TheVariants.{Length, Disconnect}
use Rattle.crawl_kinds.specs.declared.event.Fetch.{Fetch}
use Rattle.crawl_kinds.specs.declared.event.Body.{Body}
use Rattle.crawl_kinds.specs.declared.event.Notes.{Notes}
use Rattle.crawl_kinds.specs.declared.event.End.{End}
use Rattle.crawl_kinds.specs.declared.item.Item.{Item}
use Rattle.journal_spec.specs.Fields.{path_field, item_fields, ticket_fields, verdict_field, outcome_tag, fetch_field, body_fields, cut_notes, tries_notes, cause_notes, joined_notes, notes_field, end_fields, absent}
use Rattle.journal_valid.specs.Items.{IsAddress, IsItem}
use Rattle.journal_valid.specs.Ends.{IsFetch, IsBody, IsNotes, IsEnd, is_among, is_status, link_faults, retry_codes, failure_codes, disregard_codes, outcome_of}
use Rattle.journal_valid.specs.Valid.{IsTicket}
use Rattle.journal_read.specs.declared.line.Line.{Line}
use Rattle.journal_read.specs.declared.line.Line.TheVariants.{Session, Seeds, Seed, Add, Emit, Finish}
use Rattle.journal_read.specs.Reading.{AreVisible}
use Rattle.journal_read.specs.Lines.{fields_of, IsLine, is_code}
use Rattle.journal_read.proofs.Numbers.{own}
use Rattle.journal_read.proofs.Texts.{all_from_text, all_by, weaker_all}

pub visible_append : (a b : List ℕ) → AreVisible a → AreVisible b → AreVisible (a ++ b)
visible_append [] b va vb = vb
visible_append (x ∷ xs) b va vb =
    let parts = and_parts (is_visible x) (list_all is_visible xs) va in
    and_from (is_visible x) (list_all is_visible (xs ++ b)) parts.0 (visible_append xs b parts.1 vb)

digit_visible : (b : ℕ) → IsInRange 48 57 b → is_visible b ≡ true
digit_visible b in_range = grind (arith, nat_tests)

pub visible_number : (n : ℕ) → n < 2 ^ 64 → AreVisible (decimal n)
visible_number n small =
    all_by is_visible (decimal n)
    (recursion_from_All (λ b. is_visible b ≡ true) (decimal n)
    (All-from_get_or (λ b. is_visible b ≡ true) (decimal n) 0
    (λ i inside. digit_visible _ (digit_at (decimal n) i (digits_decimal own n small) inside))))

hop_visible : (b : ℕ) → is_hop b ≡ true → is_visible b ≡ true
hop_visible b hop = grind (arith, nat_tests)

visible_path : (path : List ℕ) → is_text is_hop 250 path ≡ true → AreVisible (path_field path)
visible_path [] is = refl
visible_path (x ∷ xs) is = weaker_all is_hop is_visible (x ∷ xs) hop_visible (all_from_text is_hop 250 (x ∷ xs) is)

visible_address : (uri : List ℕ) → IsAddress uri → AreVisible uri
visible_address uri is = all_from_text is_visible 2083 uri is.visible

visible_via : (via : Option (List ℕ)) → IfSome via IsAddress → AreVisible (unwrap_or via absent)
visible_via None is = refl
visible_via (Some uri) is = visible_address uri is

pub visible_item : (item : Item) → IsItem item → AllByRecursion AreVisible (item_fields item)
visible_item item is = (visible_address item.uri is.uri, (visible_path item.path is.path, (visible_via item.via is.via, tt)))

visible_verdict : (verdict : Verdict) → AreVisible (verdict_field verdict)
visible_verdict Allowed = refl
visible_verdict Precluded = refl
visible_verdict Needed = refl
visible_verdict Unsupported = refl
visible_verdict Unreachable = refl

visible_tag : (outcome : Outcome) → AreVisible (outcome_tag outcome)
visible_tag Success = refl
visible_tag Failure = refl
visible_tag Disregard = refl
visible_tag Retry = refl

visible_code : (code : ℤ) → is_code code ≡ true → AreVisible (signed_decimal code)
visible_code (pos n) is = let h = leb-true n 999 is in visible_number n (omega arith)
visible_code (negsuc n) is = let h = leb-true n 9997 is in visible_number (suc n) (omega arith)

visible_fetch : (fetch : Option Fetch) → IfSome fetch IsFetch → AreVisible (fetch_field fetch)
visible_fetch None is = refl
visible_fetch (Some f) is =
    visible_append (decimal f.start ++ codes "+") (decimal f.duration)
    (visible_append (decimal f.start) (codes "+") (visible_number f.start (omega (arith, is.start))) refl)
    (visible_number f.duration (omega (arith, is.duration)))

visible_marked : (mark : ℕ) (a b : List ℕ) → is_visible mark ≡ true → AreVisible a → AreVisible b → AreVisible (a ++ (mark ∷ b))
visible_marked mark a b shown va vb = visible_append a (mark ∷ b) va (and_from (is_visible mark) (list_all is_visible b) shown vb)

visible_join : (mark : ℕ) (parts : List (List ℕ)) → is_visible mark ≡ true → AllByRecursion AreVisible parts → AreVisible (join_with_byte mark parts)
visible_join mark [] shown all = refl
visible_join mark (a ∷ []) shown all = all.0
visible_join mark (a ∷ b ∷ parts) shown all = visible_marked mark a (join_with_byte mark (b ∷ parts)) shown all.0 (visible_join mark (b ∷ parts) shown all.1)

visible_body : (body : Option Body) → IfSome body IsBody → AllByRecursion AreVisible (body_fields body)
visible_body None is = (refl, (refl, (refl, (refl, tt))))
visible_body (Some body) is = (
  visible_number body.size (omega (arith, is.size)),
  (
    all_from_text is_visible 100 body.media is.media,
    (
      all_from_text is_visible 37 body.digest is.digest,
      (
        visible_join 58 (decimal body.spot.file ∷ decimal body.spot.at ∷ decimal body.spot.len ∷ []) refl
            (visible_number body.spot.file (omega (arith, is.file)), (visible_number body.spot.at (omega (arith, is.at)), (visible_number body.spot.len (omega (arith, is.len)), tt))),
        tt,
      ),
    ),
  ),
)

visible_cut : (cut : Option Cut) → AllByRecursion AreVisible (cut_notes cut)
visible_cut None = tt
visible_cut (Some Length) = (refl, tt)
visible_cut (Some Disconnect) = (refl, tt)

visible_tries_by : (b : Bool) (tries : ℕ) → tries < 2 ^ 64 → AllByRecursion AreVisible (if b then [] else (codes "tries:" ++ decimal tries) ∷ [])
visible_tries_by true tries small = tt
visible_tries_by false tries small = (visible_append (codes "tries:") (decimal tries) refl (visible_number tries small), tt)

visible_cause_by : (b : Bool) (cause : ℤ) → is_code cause ≡ true → AllByRecursion AreVisible (if b then [] else (codes "cause:" ++ signed_decimal cause) ∷ [])
visible_cause_by true cause is = tt
visible_cause_by false cause is = (visible_append (codes "cause:") (signed_decimal cause) refl (visible_code cause is), tt)

pub all_append : {X : Type 0} (P : X → Type 0) (xs ys : List X) → AllByRecursion P xs → AllByRecursion P ys → AllByRecursion P (xs ++ ys)
all_append P [] ys a b = b
all_append P (x ∷ xs) ys a b = (a.0, all_append P xs ys a.1 b)

visible_joined : (notes : List (List ℕ)) → AllByRecursion AreVisible notes → AreVisible (joined_notes notes)
visible_joined [] all = refl
visible_joined (note ∷ notes) all = visible_join 44 (note ∷ notes) refl all

-- a code of a list whose codes pass
pub among : (P : ℤ → Type 0) (list : List ℤ) → AllByRecursion P list → (code : ℤ) → is_among list code ≡ true → P code
among P [] all code is = absurd (false≢true is)
among P (x ∷ xs) all code is =
    ⊎_elim
    (λ here. subst P (sym ((Decides-int_eq code x).0 here)) all.0)
    (λ more. among P xs all.1 code more)
    (or_cases (int_eq code x) (is_among xs code) is)

pub cause_code : (cause : ℤ) → is_among (pos 0 ∷ link_faults) cause ≡ true → is_code cause ≡ true
cause_code cause is = among (λ c. is_code c ≡ true) (pos 0 ∷ link_faults) (refl, (refl, (refl, (refl, tt)))) cause is

chosen : (s r f d : Bool) (o : Outcome) → cond s (Some Success) (cond r (Some Retry) (cond f (Some Failure) (cond d (Some Disregard) None))) ≡ Some o → (s ≡ true) ⊎ ((r ≡ true) ⊎ ((f ≡ true) ⊎ (d ≡ true)))
chosen true r f d o e = inl refl
chosen false true f d o e = inr (inl refl)
chosen false false true d o e = inr (inr (inl refl))
chosen false false false true o e = inr (inr (inr refl))
chosen false false false false o e = absurd (cc)

status_code : (code : ℤ) → is_status code ≡ true → is_code code ≡ true
status_code (pos n) is = is
status_code (negsuc n) is = absurd (false≢true is)

-- a code that stands on a line is in range
pub code_in : (code : ℤ) (o : Outcome) → outcome_of code ≡ Some o → is_code code ≡ true
code_in code o e =
    ⊎_elim (status_code code)
    (λ rest. ⊎_elim (among (λ c. is_code c ≡ true) retry_codes (refl, (refl, (refl, (refl, tt)))) code)
    (λ rest2. ⊎_elim (among (λ c. is_code c ≡ true) failure_codes (refl, (refl, (refl, (refl, tt)))) code)
    (among (λ c. is_code c ≡ true) disregard_codes (refl, tt) code) rest2) rest)
    (chosen (is_status code) (is_among retry_codes code) (is_among failure_codes code) (is_among disregard_codes code) o e)

pub visible_notes : (notes : Notes) → IsNotes notes → AreVisible (notes_field notes)
visible_notes notes is =
    visible_joined (cut_notes notes.cut ++ tries_notes notes.tries ++ cause_notes notes.cause)
    (all_append AreVisible (cut_notes notes.cut ++ tries_notes notes.tries) (cause_notes notes.cause)
    (all_append AreVisible (cut_notes notes.cut) (tries_notes notes.tries) (visible_cut notes.cut) (visible_tries_by (nat_lt notes.tries 2) notes.tries (omega (arith, is.tries))))
    (visible_cause_by (int_eq notes.cause (pos 0)) notes.cause (cause_code notes.cause is.cause)))

visible_ticket : (time caller ticket : ℕ) → IsTicket time caller ticket → AllByRecursion AreVisible (ticket_fields time caller ticket)
visible_ticket time caller ticket is =
    (visible_number time (omega (arith, is.in_time)), (visible_number caller (omega (arith, is.among_callers)), (visible_number ticket is.in_range, tt)))

visible_end : (end : End) → IsEnd end → AllByRecursion AreVisible (end_fields end)
visible_end end is = (
  visible_code end.code (code_in end.code end.outcome is.outcome),
  (
    visible_fetch end.fetch is.fetch,
    all_append AreVisible (body_fields end.body) (notes_field end.notes ∷ []) (visible_body end.body is.body) (visible_notes end.notes is.notes, tt),
  ),
)

pub fields_visible : (l : Line) → IsLine l → AllByRecursion AreVisible (fields_of l)
fields_visible (Session time job format) is =
    (refl, (visible_number time (omega (arith, is.0)), (all_from_text is_visible 2200 job is.1.visible, (visible_number format (omega (arith, is.1.numbered)), tt))))
fields_visible (Seeds time) is = (refl, (visible_number time (omega (arith, is)), tt))
fields_visible (Seed uri) is = (refl, (visible_address uri is, tt))
fields_visible (Add item) is = (refl, visible_item item is.named)
fields_visible (Emit time caller ticket verdict item) is = (
  refl,
  all_append AreVisible (item_fields item ++ ticket_fields time caller ticket) (verdict_field verdict ∷ [])
      (all_append AreVisible (item_fields item) (ticket_fields time caller ticket) (visible_item item is.1) (visible_ticket time caller ticket is.0))
      (visible_verdict verdict, tt),
)
fields_visible (Finish time caller ticket item end) is = (
  visible_tag end.outcome,
  all_append AreVisible (item_fields item ++ ticket_fields time caller ticket) (end_fields end)
      (all_append AreVisible (item_fields item) (ticket_fields time caller ticket) (visible_item item is.1) (visible_ticket time caller ticket is.0))
      (visible_end end is.2),
)
