-- How a pattern lies on a path, octet by octet, and after a run.
use Rattle.std.proofs.Common.{◌≡◌, ◌≢◌, ◌↔◌, ℕ, suc, ◌+◌, ◌*◌, ◌-◌, ◌<◌, ◌≤◌, Bool, true, false, not, cond, ◌&&◌, ◌==◌, List, [], ◌∷◌, ◌++◌, length, get_or, take, drop, refl, append_assoc, sym, ◌∙◌, ap, arith, length-drop, length-append, length-take, take-append-drop}
use Rattle.std.proofs.lemmas.Bool.Decides.{nat_tests}
use Rattle.std.proofs.lemmas.List.{drop_more, drop_all, drop-append-le}
use Rattle.std.specs.List.{position_or_len}
use Rattle.robots_spec.specs.Lines.{is_star}
use Rattle.robots_spec.specs.Patterns.{LiesOn, AfterRun, FollowedBy, is_dollar}
use Rattle.robots_rules.specs.Matching.{IsStarAt}

-- the first i octets of the pattern are on the path, as they are on any path on which the pattern lies
pub record IsSoFar (pattern path : List ℕ) (i : ℕ) : Type 0 where
  pub within : i ≤ length path
  pub enough : LiesOn (drop i pattern) (drop i path) → LiesOn pattern path
  pub needed : (other : List ℕ) → LiesOn pattern other → (i ≤ length other) × LiesOn (drop i pattern) (drop i other)

pub so_far-start : (pattern path : List ℕ) → IsSoFar pattern path 0
so_far-start pattern path = record { within = omega arith; enough = λ h. h; needed = λ other h. (omega arith, h) }

-- the pattern from i on, where its octet there is known
from_octet : (pattern : List ℕ) (i b : ℕ) → i < length pattern → get_or pattern i 0 ≡ b → drop i pattern ≡ b ∷ drop (i + 1) pattern
from_octet pattern i b h e = drop_more pattern i 0 h ∙ ap (λ c. c ∷ drop (i + 1) pattern) e

pub so_far-star : (pattern path : List ℕ) (i : ℕ) → IsSoFar pattern path i → i < length pattern → get_or pattern i 0 ≡ 42 → IsStarAt pattern path i
so_far-star pattern path i so_far h e =
    let here = from_octet pattern i 42 h e in
    record {
      in_pattern = h;
      in_path = so_far.within;
      enough = λ after. so_far.enough (rw here after);
      needed = λ other lies. let parts = so_far.needed other lies in (parts.0, rw here at parts.1);
    }

-- a last `$`
pub so_far-end : (pattern path : List ℕ) (i : ℕ) → IsSoFar pattern path i → i + 1 ≡ length pattern → get_or pattern i 0 ≡ 36 → length path ≤ i → LiesOn pattern path
so_far-end pattern path i so_far last e ends =
    let here = from_octet pattern i 36 (omega arith) e ∙ ap (λ rest. 36 ∷ rest) (drop_all (i + 1) pattern (omega arith)) in
    so_far.enough (rw here (drop_all i path ends))

pub so_far-no_end : (pattern path : List ℕ) (i : ℕ) → IsSoFar pattern path i → i + 1 ≡ length pattern → get_or pattern i 0 ≡ 36 → i < length path → ¬ LiesOn pattern path
so_far-no_end pattern path i so_far last e more lies =
    let here = from_octet pattern i 36 (omega arith) e ∙ ap (λ rest. 36 ∷ rest) (drop_all (i + 1) pattern (omega arith)) in
    let none : drop i path ≡ [] = rw here at (so_far.needed path lies).1 in
    absurd (omega (arith, ap length none, length-drop i path))

-- an octet that is no `*` and no last `$` stands for itself
octet_lies : (b : ℕ) (pattern path : List ℕ) → is_star b ≡ false → (is_dollar b && length pattern == 0) ≡ false → LiesOn (b ∷ pattern) path → FollowedBy b (LiesOn pattern) path
octet_lies b pattern path star dollar lies = rw dollar at (rw star at lies)

lies_octet : (b : ℕ) (pattern path : List ℕ) → is_star b ≡ false → (is_dollar b && length pattern == 0) ≡ false → FollowedBy b (LiesOn pattern) path → LiesOn (b ∷ pattern) path
lies_octet b pattern path star dollar lies = rw (star, dollar) lies

-- the octet at i stands for itself
pub record IsPlainAt (pattern : List ℕ) (i b : ℕ) : Type 0 where
  pub in_pattern : i < length pattern
  pub is : get_or pattern i 0 ≡ b
  pub no_star : is_star b ≡ false
  pub no_end : (is_dollar b && length (drop (i + 1) pattern) == 0) ≡ false

not_star : (b : ℕ) → b ≢ 42 → is_star b ≡ false
not_star b other = grind (arith, nat_tests)

not_end : (b n : ℕ) → (b ≡ 36 → n ≡ 0 → ⊥) → (is_dollar b && n == 0) ≡ false
not_end b n other = grind (arith, nat_tests)

pub plain : (pattern : List ℕ) (i : ℕ) → i < length pattern → get_or pattern i 0 ≢ 42 → (get_or pattern i 0 ≡ 36 → i + 1 ≡ length pattern → ⊥) → IsPlainAt pattern i (get_or pattern i 0)
plain pattern i h star end =
    record {
      in_pattern = h;
      is = refl;
      no_star = not_star (get_or pattern i 0) star;
      no_end = not_end (get_or pattern i 0) (length (drop (i + 1) pattern)) (λ e short. end e (omega (arith, length-drop (i + 1) pattern)));
    }

followed : (pattern other : List ℕ) (i b : ℕ) → IsPlainAt pattern i b → LiesOn (drop i pattern) (drop i other) → FollowedBy b (LiesOn (drop (i + 1) pattern)) (drop i other)
followed pattern other i b plain lies = octet_lies b _ _ plain.no_star plain.no_end (rw (from_octet pattern i b plain.in_pattern plain.is) at lies)

pub so_far-short : (pattern path : List ℕ) (i b : ℕ) → IsSoFar pattern path i → IsPlainAt pattern i b → length path ≤ i → ¬ LiesOn pattern path
so_far-short pattern path i b so_far plain ends lies =
    let found = followed pattern path i b plain (so_far.needed path lies).1 in
    absurd (omega (arith, ap length found.1, length-drop i path))

head_of : (path rest : List ℕ) (i b : ℕ) → i < length path → drop i path ≡ b ∷ rest → get_or path i 0 ≡ b
head_of path rest i b h e = let both : get_or path i 0 ∷ drop (i + 1) path ≡ b ∷ rest = sym (drop_more path i 0 h) ∙ e in cc both

tail_of : (path rest : List ℕ) (i b : ℕ) → i < length path → drop i path ≡ b ∷ rest → drop (i + 1) path ≡ rest
tail_of path rest i b h e = let both : get_or path i 0 ∷ drop (i + 1) path ≡ b ∷ rest = sym (drop_more path i 0 h) ∙ e in cc both

in_range : (path rest : List ℕ) (i b : ℕ) → drop i path ≡ b ∷ rest → i < length path
in_range path rest i b e = omega (arith, ap length e, length-drop i path)

pub so_far-differs : (pattern path : List ℕ) (i b : ℕ) → IsSoFar pattern path i → IsPlainAt pattern i b → i < length path → get_or path i 0 ≢ b → ¬ LiesOn pattern path
so_far-differs pattern path i b so_far plain h other lies =
    let found = followed pattern path i b plain (so_far.needed path lies).1 in
    other (head_of path found.0 i b h found.1)

pub so_far-more : (pattern path : List ℕ) (i b : ℕ) → IsSoFar pattern path i → IsPlainAt pattern i b → i < length path → get_or path i 0 ≡ b → IsSoFar pattern path (i + 1)
so_far-more pattern path i b so_far plain h same =
    record {
      within = omega arith;
      enough = λ lies. so_far.enough (rw (from_octet pattern i b plain.in_pattern plain.is) (lies_octet b _ _ plain.no_star plain.no_end (drop (i + 1) path, from_octet path i b h same, lies)));
      needed = λ other lies.
          let found = followed pattern other i b plain (so_far.needed other lies).1 in
          let there = in_range other found.0 i b found.1 in
          (omega arith, rw (tail_of other found.0 i b there found.1) found.2);
    }

pub so_far-all : (pattern path : List ℕ) (i : ℕ) → IsSoFar pattern path i → length pattern ≤ i → LiesOn pattern path
so_far-all pattern path i so_far ends = so_far.enough (rw (drop_all i pattern ends) tt)

-- ---- after a run

pub run-lies : (pattern path : List ℕ) → LiesOn pattern path → AfterRun (LiesOn pattern) path
run-lies pattern path lies = ([], path, refl, lies)

-- what stands behind n octets, where n octets stand behind the run
behind : (path run rest run' rest' : List ℕ) (n : ℕ) → path ≡ run ++ rest → n ≤ length rest → drop n rest ≡ run' ++ rest' → drop n path ≡ (drop n (run ++ take n rest) ++ run') ++ rest'
behind path run rest run' rest' n e h e' =
    let split : run ++ rest ≡ (run ++ take n rest) ++ drop n rest = ap (λ xs. run ++ xs) (sym (take-append-drop n rest)) ∙ sym (append_assoc run (take n rest) (drop n rest)) in
    let long : n ≤ length (run ++ take n rest) = omega (arith, length-append run (take n rest), length-take n rest) in
    ap (λ xs. drop n xs) (e ∙ split) ∙ drop-append-le n (run ++ take n rest) (drop n rest) long ∙ ap (λ xs. drop n (run ++ take n rest) ++ xs) e' ∙ sym (append_assoc (drop n (run ++ take n rest)) run' rest')

pub run-star : (pattern path : List ℕ) (n : ℕ) → IsStarAt pattern path n → AfterRun (LiesOn (drop (n + 1) pattern)) (drop n path) ↔ AfterRun (LiesOn pattern) path
run-star pattern path n star = (
  λ h. run-lies pattern path (star.enough h),
  λ h.
      let found = star.needed h.1 h.3 in
      (drop n (h.0 ++ take n h.1) ++ found.1.0, found.1.1, behind path h.0 h.1 found.1.0 found.1.1 n h.2 found.0 found.1.2, found.1.3),
)

-- the run has an octet, where the pattern does not lie on the path itself
longer : (pattern path run rest : List ℕ) → ¬ LiesOn pattern path → path ≡ run ++ rest → LiesOn pattern rest → AfterRun (LiesOn pattern) (drop 1 path)
longer pattern path [] rest never e lies = absurd (never (rw e lies))
longer pattern path (b ∷ run) rest never e lies = (run, rest, ap (λ xs. drop 1 xs) e, lies)

one_more : (pattern path : List ℕ) → 0 < length path → AfterRun (LiesOn pattern) (drop 1 path) → AfterRun (LiesOn pattern) path
one_more pattern [] h after = absurd (omega arith)
one_more pattern (b ∷ path) h after = (b ∷ after.0, after.1, ap (λ xs. b ∷ xs) after.2, after.3)

pub run-differs : (pattern path : List ℕ) → ¬ LiesOn pattern path → 0 < length path → AfterRun (LiesOn pattern) (drop 1 path) ↔ AfterRun (LiesOn pattern) path
run-differs pattern path never h = (λ after. one_more pattern path h after, λ after. longer pattern path after.0 after.1 never after.2 after.3)

no_run : (pattern path run rest : List ℕ) → ¬ LiesOn pattern path → length path ≡ 0 → path ≡ run ++ rest → ¬ LiesOn pattern rest
no_run pattern path [] rest never h e lies = never (rw e lies)
no_run pattern path (b ∷ run) rest never h e lies = absurd (omega (arith, ap length e))

pub run-none : (pattern path : List ℕ) → ¬ LiesOn pattern path → length path ≡ 0 → ¬ AfterRun (LiesOn pattern) path
run-none pattern path never h after = no_run pattern path after.0 after.1 never h after.2 after.3

-- ---- steps

pub cost-star : (now next p r n most : ℕ) → next ≤ now + (n + 1) → n < p → n ≤ r → now + (p + 1) * (r + 1) ≤ most → next + (p - (n + 1) + 1) * (r - n + 1) ≤ most
cost-star now next p r n most step in_pattern in_path bound =
    let a = p - (n + 1) in
    let b = r - n in
    let p-is : p ≡ n + 1 + a = omega arith in
    let r-is : r ≡ n + b = omega arith in
    let bound' : now + (n + 1 + a + 1) * (n + b + 1) ≤ most = rw (p-is, r-is) at bound in
    omega arith

-- after the octets up to a `*`, and after one place more, the same is asked as before
pub same-star : (pattern path next left : List ℕ) (n : ℕ) (P : Type 0) → IsStarAt pattern path n → next ≡ drop (n + 1) pattern → left ≡ drop n path → (AfterRun (LiesOn pattern) path ↔ P) → AfterRun (LiesOn next) left ↔ P
same-star pattern path next left n P star next-is left-is same =
    let step = run-star pattern path n star in
    (λ h. same.0 (step.0 (rw (next-is, left-is) at h)), λ p. rw (next-is, left-is) (step.1 (same.1 p)))

pub same-differs : (pattern path left place : List ℕ) (P : Type 0) → ¬ LiesOn pattern path → 0 < length path → left ≡ drop 1 path → (AfterRun (LiesOn pattern) place ↔ AfterRun (LiesOn pattern) left) → (AfterRun (LiesOn pattern) path ↔ P) → AfterRun (LiesOn pattern) place ↔ P
same-differs pattern path left place P never some left-is places same =
    let step = run-differs pattern path never some in
    (λ h. same.0 (step.0 (rw left-is at (places.0 h))), λ p. places.1 (rw left-is (step.1 (same.1 p))))

pub cost-next : (now compared next p r left place most : ℕ) → compared ≤ now + p → left + 1 ≡ r → next + place ≤ compared + left → place ≤ left → now + (p + 1) * (r + 1) ≤ most → next + (p + 1) * (place + 1) ≤ most
cost-next now compared next p r left place most step one passed shorter bound =
    let more = left - place in
    let r-is : r ≡ place + more + 1 = omega arith in
    let bound' : now + (p + 1) * (place + more + 1 + 1) ≤ most = rw r-is at bound in
    omega arith

-- ---- the next place

skip-here : (pattern : List ℕ) (b c : ℕ) (path : List ℕ) → (c == b) ≡ true → AfterRun (LiesOn pattern) (drop (position_or_len (λ d. d == b) (c ∷ path)) (c ∷ path)) ↔ AfterRun (LiesOn pattern) (c ∷ path)
skip-here pattern b c path e =
    let none : position_or_len (λ d. d == b) (c ∷ path) ≡ 0 = ap (λ t. cond (not t) (1 + position_or_len (λ d. d == b) path) 0) e in
    let same : drop (position_or_len (λ d. d == b) (c ∷ path)) (c ∷ path) ≡ c ∷ path = ap (λ n. drop n (c ∷ path)) none in
    (λ h. rw same at h, λ h. rw same h)

drop-one-more : (n c : ℕ) (path : List ℕ) → drop (1 + n) (c ∷ path) ≡ drop n path
drop-one-more n c path = let e : 1 + n ≡ suc n = omega arith in rw e refl

skip-there : (pattern : List ℕ) (b c : ℕ) (path : List ℕ) → IsPlainAt pattern 0 b → (c == b) ≡ false → AfterRun (LiesOn pattern) (drop (position_or_len (λ d. d == b) path) path) ↔ AfterRun (LiesOn pattern) path → AfterRun (LiesOn pattern) (drop (position_or_len (λ d. d == b) (c ∷ path)) (c ∷ path)) ↔ AfterRun (LiesOn pattern) (c ∷ path)
skip-there pattern b c path plain-b e rest =
    let one : position_or_len (λ d. d == b) (c ∷ path) ≡ 1 + position_or_len (λ d. d == b) path = ap (λ t. cond (not t) (1 + position_or_len (λ d. d == b) path) 0) e in
    let same : drop (position_or_len (λ d. d == b) (c ∷ path)) (c ∷ path) ≡ drop (position_or_len (λ d. d == b) path) path = ap (λ n. drop n (c ∷ path)) one ∙ drop-one-more _ c path in
    let other : c ≢ b = grind (arith, nat_tests) in
    let step = run-differs pattern (c ∷ path) (so_far-differs pattern (c ∷ path) 0 b (so_far-start pattern (c ∷ path)) plain-b (omega arith) other) (omega arith) in
    (λ h. step.0 (rest.0 (rw same at h)), λ h. rw same (rest.1 (step.1 h)))

by_octet : (pattern : List ℕ) (b c : ℕ) (path : List ℕ) → IsPlainAt pattern 0 b → (t : Bool) → (c == b) ≡ t → AfterRun (LiesOn pattern) (drop (position_or_len (λ d. d == b) path) path) ↔ AfterRun (LiesOn pattern) path → AfterRun (LiesOn pattern) (drop (position_or_len (λ d. d == b) (c ∷ path)) (c ∷ path)) ↔ AfterRun (LiesOn pattern) (c ∷ path)
by_octet pattern b c path plain-b true e rest = skip-here pattern b c path e
by_octet pattern b c path plain-b false e rest = skip-there pattern b c path plain-b e rest

-- where the pattern begins with an octet that stands for itself, it lies only where that octet stands
skip-octet : (pattern : List ℕ) (b : ℕ) → IsPlainAt pattern 0 b → (path : List ℕ) → AfterRun (LiesOn pattern) (drop (position_or_len (λ c. c == b) path) path) ↔ AfterRun (LiesOn pattern) path
skip-octet pattern b plain-b [] = (λ h. h, λ h. h)
skip-octet pattern b plain-b (c ∷ path) = by_octet pattern b c path plain-b (c == b) refl (skip-octet pattern b plain-b path)

pub next-place : (pattern path : List ℕ) → 2 ≤ length pattern → get_or pattern 0 0 ≢ 42 → AfterRun (LiesOn pattern) (drop (position_or_len (λ c. c == get_or pattern 0 0) path) path) ↔ AfterRun (LiesOn pattern) path
next-place pattern path h star = skip-octet pattern (get_or pattern 0 0) (plain pattern 0 (omega arith) star (λ _ e. omega arith)) path
