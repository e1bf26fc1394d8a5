-- Tables and arrays of `toml`, as the definitions see them.
use Rattle.std.proofs.Common.{◌≡◌, ℕ, Bool, true, false, not, ◌||◌, ◌+◌, ◌<◌, List, [], ◌∷◌, ◌++◌, length, get_or, take, drop, map, Option, Some, None, String, Global, Less, string_bytes, nat_cmp, filter, option_map, refl, sym, ap, ◌∙◌, inl, inr}
use Rattle.std.specs.Option.{option_and_then, option_map_or}
use Rattle.std.proofs.lemmas.Bool.{cases_Bool}
use Rattle.std.proofs.lemmas.List.{take_more, drop_more, map-append, take-append-drop}
use Rattle.std.specs.Cmp.Lexicographic.{slice_cmp}
use Rattle.std.specs.List.{AllByRecursion, fold, list_any, reduce}
use Rattle.std.specs.Map.{keys_of}
use Rattle.std.specs.String.{string_cmp}
use Rattle.std.specs.List.Sorted.{IsStrictlySortedBy}
use Rattle.toml.specs.declared.value.Value.{Value}
use Rattle.toml.specs.View.{view, items_view, members_view}
use Rattle.toml.specs.Data.{Data, Members, as_array, get_member}
use Rattle.job_spec.specs.declared.setting.Setting.TheVariants as setting
use Rattle.job_spec.specs.Rules.{as_list}
use Rattle.job_spec.specs.Settings.{setting_name}
use Rattle.job_spec.specs.Unknown.{entries}
use Rattle.job_spec.specs.Values.{keys, values_of, earlier, is_one_of, least_other, all_given, first_given}

abbrev Entry : Type 0
Entry = String Global × Value

-- the names of a table are the keys of its map
pub keys_view : (es : List Entry) → keys (members_view es) ≡ map string_bytes (keys_of es)
keys_view [] = refl
keys_view (e ∷ es) = ap (λ ks. string_bytes e.0 ∷ ks) (keys_view es)

-- the values of an array are those of its list
pub values_of_view : (vs : List Value) → values_of (items_view vs) ≡ map view vs
values_of_view [] = refl
values_of_view (v ∷ vs) = ap (λ ds. view v ∷ ds) (values_of_view vs)

pub any_of_map : {X Y : Type 0} (p : Y → Bool) (f : X → Y) (xs : List X) → list_any p (map f xs) ≡ list_any (λ x. p (f x)) xs
any_of_map p f [] = refl
any_of_map p f (x ∷ xs) = ap (λ b. p (f x) || b) (any_of_map p f xs)

stays : (a b : List ℕ) → slice_cmp nat_cmp a b ≡ Less → earlier a b ≡ a
stays a b before = rw before

-- what comes later takes no name's place
later : (test : List ℕ → Bool) (first : String Global) (ks : List (String Global)) → AllByRecursion (λ k. string_cmp first k ≡ Less) ks
    → fold earlier (string_bytes first) (filter test (map string_bytes ks)) ≡ string_bytes first
later test first [] all = refl
later test first (k ∷ ks) all =
    let more = later test first ks all.1 in
    elim (cases_Bool (test (string_bytes k))) [
      | inl passes ↦ rw passes (ap (λ b. fold earlier b (filter test (map string_bytes ks))) (stays (string_bytes first) (string_bytes k) all.0) ∙ more)
      | inr fails ↦ rw fails more
    ]

-- of names in order the first that passes is the least
pub first_is_least : (test : List ℕ → Bool) (k : String Global) (ks : List (String Global)) → IsStrictlySortedBy string_cmp (k ∷ ks)
    → test (string_bytes k) ≡ true → reduce earlier (filter test (map string_bytes (k ∷ ks))) ≡ Some (string_bytes k)
unfolding IsStrictlySortedBy
first_is_least test k ks sorted passes = rw passes (ap Some (later test k ks sorted.0))

-- what is left of the names of a table, when those before are known
pub record IsLeft (known : List (List ℕ)) (table : Members) (ks : List (String Global)) : Type 0 where
  pub sorted : IsStrictlySortedBy string_cmp ks
  pub same : filter (λ name. not (is_one_of known name)) (map string_bytes ks) ≡ filter (λ name. not (is_one_of known name)) (keys table)

pub all_left : (known : List (List ℕ)) (es : List Entry) (ks : List (String Global)) → ks ≡ keys_of es → IsStrictlySortedBy string_cmp (keys_of es) → IsLeft known (members_view es) ks
all_left known es ks same sorted = record {
  sorted = rw same sorted;
  same = rw same (ap (filter (λ name. not (is_one_of known name))) (sym (keys_view es)));
}

-- the first one left is known
pub left_after : (known : List (List ℕ)) (table : Members) (ks : List (String Global)) (k : String Global) (rest : List (String Global))
    → ks ≡ k ∷ rest → is_one_of known (string_bytes k) ≡ true → IsLeft known table ks → IsLeft known table rest
unfolding IsStrictlySortedBy
left_after known table ks k rest is known_one left =
    let sorted = rw is at left.sorted in
    let same = rw (is, known_one) at left.same in
    record { sorted = sorted.1; same = same }

-- it is not, and so it is the least unknown one
pub unknown_left : (known : List (List ℕ)) (table : Members) (ks : List (String Global)) (k : String Global) (rest : List (String Global))
    → ks ≡ k ∷ rest → is_one_of known (string_bytes k) ≡ false → IsLeft known table ks → Some (string_bytes k) ≡ least_other known table
unfolding least_other
unknown_left known table ks k rest is other left =
    let unknown = λ (name : List ℕ). not (is_one_of known name) in
    let passes : unknown (string_bytes k) ≡ true = ap not other in
    sym (first_is_least unknown k rest (rw is at left.sorted) passes) ∙ ap (reduce earlier) (rw is at left.same)

-- all are known
pub none_left : (known : List (List ℕ)) (table : Members) (ks : List (String Global)) → ks ≡ [] → IsLeft known table ks → None ≡ least_other known table
unfolding least_other
none_left known table ks is left = ap (reduce earlier) (rw is at left.same)

-- the entries of an array at `rule`
pub entries_at : (m : Members) (d : Data) (vs : List Value) → Some d ≡ get_member (setting_name setting.Rule) m → Some (items_view vs) ≡ as_array d → map view vs ≡ entries m
entries_at m d vs there is = sym (values_of_view vs) ∙ ap (λ o. option_map_or values_of o []) (is ∙ ap (option_and_then as_array) there)

-- the list that an array is
pub list_read : {X : Type 0} (read : Data → Option X) (d : Data) (vs : List Value) → Some (items_view vs) ≡ as_array d → all_given (map read (map view vs)) ≡ as_list read d
list_read read d vs is = ap (λ ds. all_given (map read ds)) (sym (values_of_view vs)) ∙ ap (option_and_then (λ items. all_given (map read (values_of items)))) is

moved : {X : Type 0} (x a : X) (o : Option (List X)) → option_map (λ xs. x ∷ xs) (option_map (λ xs. xs ++ a ∷ []) o) ≡ option_map (λ xs. xs ++ a ∷ []) (option_map (λ xs. x ∷ xs) o)
moved x a None = refl
moved x a (Some xs) = refl

-- one more at the end
pub all_given_more : {X : Type 0} (xs : List (Option X)) (a : X) → all_given (xs ++ Some a ∷ []) ≡ option_map (λ given. given ++ a ∷ []) (all_given xs)
all_given_more [] a = refl
all_given_more (None ∷ xs) a = refl
all_given_more (Some x ∷ xs) a = ap (option_map (λ xs. x ∷ xs)) (all_given_more xs a) ∙ moved x a (all_given xs)

-- one is not there
pub all_given_stop : {X : Type 0} (xs ys : List (Option X)) → all_given (xs ++ None ∷ ys) ≡ None
all_given_stop [] ys = refl
all_given_stop (None ∷ xs) ys = refl
all_given_stop (Some x ∷ xs) ys = ap (option_map (λ xs. x ∷ xs)) (all_given_stop xs ys)

-- the loop has read one item more
pub read_more : {X : Type 0} (read : Data → Option X) (vs : List Value) (i : ℕ) (v : Value) (xs : List X) (x : X) → i < length vs → v ≡ get_or vs i v
    → all_given (map read (map view (take i vs))) ≡ Some xs → read (view v) ≡ Some x → all_given (map read (map view (take (i + 1) vs))) ≡ Some (xs ++ x ∷ [])
read_more read vs i v xs x within at before is =
    let parts : take (i + 1) vs ≡ take i vs ++ v ∷ [] = take_more vs i v within ∙ ap (λ w. take i vs ++ w ∷ []) (sym at) in
    rw (parts, map-append view (take i vs) (v ∷ []), map-append read (map view (take i vs)) (view v ∷ []), is, all_given_more (map read (map view (take i vs))) x, before)

-- or the item is not taken
pub read_stop : {X : Type 0} (read : Data → Option X) (vs : List Value) (i : ℕ) (v : Value) → i < length vs → v ≡ get_or vs i v
    → read (view v) ≡ None → None ≡ all_given (map read (map view vs))
read_stop read vs i v within at is =
    let parts : vs ≡ take i vs ++ v ∷ drop (i + 1) vs = sym (take-append-drop i vs) ∙ ap (λ rest. take i vs ++ rest) (drop_more vs i v within ∙ ap (λ w. w ∷ drop (i + 1) vs) (sym at)) in
    let mapped : map read (map view vs) ≡ map read (map view (take i vs)) ++ read (view v) ∷ map read (map view (drop (i + 1) vs)) =
    ap (λ ws. map read (map view ws)) parts ∙ rw (map-append view (take i vs) (v ∷ drop (i + 1) vs), map-append read (map view (take i vs)) (view v ∷ map view (drop (i + 1) vs))) in
    sym (ap all_given mapped ∙ rw is (all_given_stop (map read (map view (take i vs))) (map read (map view (drop (i + 1) vs)))))

-- the first that a list gives, of what is left of it
pub given_at : {X : Type 0} (f : Data → Option X) (vs : List Value) (i : ℕ) (v : Value) → i < length vs → v ≡ get_or vs i v
    → first_given (map f (map view (drop i vs))) ≡ first_given (f (view v) ∷ map f (map view (drop (i + 1) vs)))
given_at f vs i v within at =
    ap (λ ws. first_given (map f (map view ws))) (drop_more vs i v within ∙ ap (λ w. w ∷ drop (i + 1) vs) (sym at))
