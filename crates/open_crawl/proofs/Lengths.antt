-- How long the lines of sessions and of seeds are at most.
use Rattle.std.proofs.Common.{◌≡◌, ℕ, ◌+◌, ◌*◌, ◌≤◌, Bool, true, List, [], ◌∷◌, ◌++◌, length, Option, Some, None, cond, sym, ◌∙◌, ap, ⊎_elim, arith, length-append}
use Rattle.std.specs.Prelude.{codes, unwrap_or, IfSome, IsTrue, is_none, nat_lt, not, option_map, position}
use Rattle.std.specs.Fmt.{decimal}
use Rattle.std.specs.List.{AllByRecursion, flat_map}
use Rattle.std.proofs.lemmas.Bool.{cases_Bool, ltb-false}
use Rattle.std.proofs.lemmas.Fmt.{length-decimal-le}
use Rattle.crawl_kinds.specs.declared.event.TheConstants.{MAX_MS}
use Rattle.crawl_kinds.specs.declared.event.Event.TheVariants.{Session, Seeds}
use Rattle.crawl_kinds.specs.declared.item.Item.{Item}
use Rattle.crawl_kinds.specs.declared.text.TextFault.TheVariants.{TooLong, BadByte}
use Rattle.crawl_kinds.specs.Text.{is_text, is_hop}
use Rattle.journal_spec.specs.Fields.{absent, path_field}
use Rattle.journal_spec.specs.Journal.{line, seed_line, add_line, seeds_line, spelling}
use Rattle.journal_valid.specs.Items.{IsAddress, IsAdd}

-- lines of so many fields
two_fields : (t a : List ℕ) → length (line (t ∷ a ∷ [])) ≡ length t + length a + 2
two_fields t a =
    let fields : List ℕ = t ++ (32 ∷ a) in
    omega (arith, length-append t (32 ∷ a), length-append fields (10 ∷ []))

four_fields : (t a b c : List ℕ) → length (line (t ∷ a ∷ b ∷ c ∷ [])) ≡ length t + length a + length b + length c + 4
four_fields t a b c =
    let last : List ℕ = b ++ (32 ∷ c) in
    let later : List ℕ = a ++ (32 ∷ last) in
    let fields : List ℕ = t ++ (32 ∷ later) in
    omega (arith, length-append b (32 ∷ c), length-append a (32 ∷ last), length-append t (32 ∷ later), length-append fields (10 ∷ []))

time_short : (time : ℕ) → time ≤ MAX_MS → length (decimal time) ≤ 20
time_short time le = length-decimal-le 20 time (omega arith) (omega arith) (omega arith)

-- a text has at most as many bytes as its kind
text_short : (p : ℕ → Bool) (most : ℕ) (xs : List ℕ) → is_text p most xs ≡ true → length xs ≤ most
text_short p most xs is =
    ⊎_elim
    (λ long. absurd (let fault = ap (λ b. is_none (cond b (Some (TooLong (length xs))) (option_map BadByte (position (λ b. not (p b)) xs)))) (sym long) ∙ is in cc))
    (λ short. ltb-false _ _ short)
    (cases_Bool (nat_lt most (length xs)))

-- the lines of seeds and of adds
address_short : (text : List ℕ) → IsAddress text → length text ≤ 2083
address_short text is = is.serialised.reads.within

seed_short : (uri : List ℕ) → IsAddress uri → length (seed_line uri) ≤ 4500
seed_short uri is = omega (arith, two_fields (codes "Sd") uri, address_short uri is)

path_short : (path : List ℕ) → IsTrue (is_text is_hop 250 path) → length (path_field path) ≤ 250
path_short [] is = omega arith
path_short (letter ∷ letters) is = text_short is_hop 250 (letter ∷ letters) is

via_short : (via : Option (List ℕ)) → IfSome via IsAddress → length (unwrap_or via absent) ≤ 2083
via_short None is = omega arith
via_short (Some uri) is = address_short uri is

add_short : (item : Item) → IsAdd item → length (add_line item) ≤ 4500
add_short item is =
    omega (
      arith,
      four_fields (codes "F+") item.uri (path_field item.path) (unwrap_or item.via absent),
      address_short item.uri is.named.uri,
      path_short item.path is.named.path,
      via_short item.via is.named.via,
    )

-- so many lines
lines_short : {X : Type 0} (f : X → List ℕ) (P : X → Type 0) → ((x : X) → P x → length (f x) ≤ 4500) → (xs : List X) → AllByRecursion P xs → length (flat_map f xs) ≤ 4500 * length xs
lines_short f P each [] all = omega arith
lines_short f P each (x ∷ xs) all =
    let here : length (f x) ≤ 4500 = each x all.0 in
    let rest : length (flat_map f xs) ≤ 4500 * length xs = lines_short f P each xs all.1 in
    omega (arith, length-append (f x) (flat_map f xs))

-- a session, with the name of a job
pub session_short : (time : ℕ) (name : List ℕ) → time ≤ MAX_MS → length name ≤ 32 → length (spelling (Session time name 1)) ≤ 100
session_short time name le short =
    omega (arith, four_fields (codes "S+") (decimal time) name (decimal 1), time_short time le, time_short 1 (omega arith))

-- seeds, with no more adds than there are seeds
pub seeds_short : (time : ℕ) (list : List (List ℕ)) (adds : List Item) → time ≤ MAX_MS → AllByRecursion IsAddress list → AllByRecursion IsAdd adds → length list ≤ 200000 → length adds ≤ length list
    → length (spelling (Seeds time list adds)) ≤ 1900000000
seeds_short time list adds le addresses items few fewer =
    omega (
      arith,
      two_fields (codes "S*") (decimal time),
      time_short time le,
      lines_short seed_line IsAddress seed_short list addresses,
      lines_short add_line IsAdd add_short adds items,
      length-append (seeds_line time) (flat_map seed_line list),
      length-append (seeds_line time ++ flat_map seed_line list) (flat_map add_line adds),
    )
