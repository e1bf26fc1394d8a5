-- A limit is met by what is kept of a count exactly where the count meets it.
use Rattle.std.proofs.Common.{◌≡◌, ℕ, ◌-◌, ◌<◌, ◌^◌, Bool, true, false, not, ◌==◌, refl, ◌∙◌, ap, ap₂, Some, nat_le, arith}
use Rattle.std.specs.Prelude.{◌/◌, ◌&&◌, ◌||◌, unwrap_or, filter_map, if◌then◌else◌}
use Rattle.std.proofs.lemmas.Bool.Decides.{Decides-eqb}
use Rattle.std.proofs.lemmas.Bool.{le-leb, lt-leb, leb-true, leb-false}
use Rattle.crawl_kinds.specs.Event.{session_of}
use Rattle.crawl_kinds.specs.declared.settings.Settings.{Settings}
use Rattle.crawl_history.specs.Counts.{is_met, is_limit_met, pages, bytes_in}
use Rattle.crawl_history.specs.History.{History, first_time}
use Rattle.crawl_history.specs.Scans.{first_of}
use Rattle.frontier_memo.specs.Memory.{Remembers}
use Rattle.frontier_memo.specs.Sums.{saturated, first_session}
use Rattle.frontier_memo.specs.declared.memo.Memo.{Memo}

met_saturated : (limit count n : ℕ) → limit < 2 ^ 64 → count ≡ saturated n → nat_le limit count ≡ nat_le limit n
met_saturated limit count n fits is = by_test (nat_le limit n) refl
  where
    by_test : (b : Bool) → nat_le limit n ≡ b → nat_le limit count ≡ b
    by_test true h = let low = leb-true limit n h in le-leb limit count (omega (arith, low))
    by_test false h = let high = leb-false limit n h in lt-leb limit count (omega (arith, high))

-- where there is a limit
pub is_met_saturated : (limit count n : ℕ) → (limit ≡ 0 → ⊥) → limit < 2 ^ 64 → count ≡ saturated n → nat_le limit count ≡ is_met limit n
is_met_saturated limit count n some fits is = by_test (limit == 0) refl
  where
    by_test : (b : Bool) → (limit == 0) ≡ b → nat_le limit count ≡ (not b && nat_le limit n)
    by_test true h = absurd (some ((Decides-eqb limit 0).0 h))
    by_test false h = met_saturated limit count n fits is

first_same : (h : History) → unwrap_or (first_session h) 0 ≡ first_time h
first_same h = by_test (h.base.events == 0)
  where
    by_test : (b : Bool) → unwrap_or (if b then first_of (filter_map session_of h.events) else Some h.base.first) 0 ≡ (if b then unwrap_or (first_of (filter_map session_of h.events)) 0 else h.base.first)
    by_test true = refl
    by_test false = refl

whole : (n : ℕ) → n < 2 ^ 64 → n ≡ saturated n
whole n fits = omega arith

fewer : (t first : ℕ) → t < 2 ^ 64 → (t - first) / 1000 < 2 ^ 64
fewer t first fits = omega arith

-- of pages, bytes and seconds
pub limit_met :
    (s : Settings) (h : History) (memo : Memo) (t seconds : ℕ) (pages_met bytes_met seconds_met : Bool) → Remembers h memo → t < 2 ^ 64
    → ((n : ℕ) → memo.counts.pages ≡ saturated n → pages_met ≡ is_met s.max_pages n)
    → ((n : ℕ) → memo.counts.bytes ≡ saturated n → bytes_met ≡ is_met s.max_bytes n)
    → ((n : ℕ) → seconds ≡ saturated n → seconds_met ≡ is_met s.max_seconds n)
    → seconds ≡ (t - unwrap_or memo.first 0) / 1000 → (pages_met || bytes_met || seconds_met) ≡ is_limit_met s h t
limit_met s h memo t seconds pages_met bytes_met seconds_met is fits of_pages of_bytes of_seconds at =
    ap₂ (λ b c. b || c || seconds_met) (of_pages (pages h) is.counts.pages) (of_bytes (bytes_in h) is.counts.bytes)
    ∙ ap (λ b. is_met s.max_pages (pages h) || is_met s.max_bytes (bytes_in h) || b)
    (of_seconds ((t - first_time h) / 1000) (same ∙ whole ((t - first_time h) / 1000) (fewer t (first_time h) fits)))
  where
    same : seconds ≡ (t - first_time h) / 1000
    same = at ∙ ap (λ o. (t - unwrap_or o 0) / 1000) is.first ∙ ap (λ n. (t - n) / 1000) (first_same h)
