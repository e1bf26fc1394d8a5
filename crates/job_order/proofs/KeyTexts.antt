-- Settings whose texts are keys: short texts of visible bytes.
use Rattle.std.proofs.Common.{◌≡◌, ℕ, ◌+◌, ◌%◌, ◌^◌, suc, ◌<◌, ◌≤◌, Bool, true, false, not, ◌&&◌, ltb, eqb, List, [], ◌∷◌, length, take, drop, refl, ap, ◌∙◌, inl, inr, one-add, add-one, length-take, length-drop, arith}
use Rattle.std.specs.Prelude.{bytes_eq, decimal, nat_le}
use Rattle.std.specs.List.{list_all, position_or_len, before_first, after_first}
use Rattle.std.specs.Str.Parse.{digits_value}
use Rattle.std.proofs.lemmas.Bool.{cases_Bool, and_parts, and_from, leb-true, eqb-true}
use Rattle.std.proofs.lemmas.Bool.Decides.{nat_tests}
use Rattle.std.proofs.lemmas.Fmt.{decimal_by_steps, length-decimal-le}
use Rattle.std.proofs.lemmas.List.Folds.{list_all-append}
use Rattle.std.proofs.lemmas.Slice.Eq.{bytes_eq-Decides}
use Rattle.crawl_kinds.specs.Text.{is_text, is_visible}
use Rattle.job_spec.specs.Texts.{is_word, is_name, is_name_byte, is_agent, is_agent_byte, is_host, is_host_byte, is_port, is_proxy}

abbrev AreVisible : List ℕ → Type 0
AreVisible text = list_all is_visible text ≡ true

all_visible : (text : List ℕ) → AreVisible text → position_or_len (λ b. not (is_visible b)) text ≡ length text
all_visible [] all = refl
all_visible (b ∷ text) all =
    let parts = and_parts (is_visible b) (list_all is_visible text) all in
    rw (parts.0) (omega (arith, all_visible text parts.1))

weaker : (p : ℕ → Bool) (text : List ℕ) → ((b : ℕ) → p b ≡ true → is_visible b ≡ true) → list_all p text ≡ true → AreVisible text
weaker p [] to all = refl
weaker p (b ∷ bs) to all =
    let parts = and_parts (p b) (list_all p bs) all in
    and_from (is_visible b) (list_all is_visible bs) (to b parts.0) (weaker p bs to parts.1)

-- a short text of visible bytes is a key
visible_is_key : (text : List ℕ) → length text ≤ 2200 → AreVisible text → is_text is_visible 2200 text ≡ true
visible_is_key text short all =
    let fits : ltb 2200 (length text) ≡ false = grind (arith, nat_tests) in
    let end : ltb (length text) (length text) ≡ false = grind (arith, nat_tests) in
    rw (fits, all_visible text all, end)

-- a word has no more bytes than it may, and all pass
word_parts : (most : ℕ) (test : ℕ → Bool) (text : List ℕ) → is_word most test text ≡ true → (length text ≤ most) × (list_all test text ≡ true)
word_parts most test text is =
    let parts = and_parts (nat_le 1 (length text) && nat_le (length text) most) (list_all test text) is in
    let bounds = and_parts (nat_le 1 (length text)) (nat_le (length text) most) parts.0 in
    (leb-true _ _ bounds.1, parts.1)

name_byte : (b : ℕ) → is_name_byte b ≡ true → is_visible b ≡ true
name_byte b is = grind (arith, nat_tests)

agent_byte : (b : ℕ) → is_agent_byte b ≡ true → is_visible b ≡ true
agent_byte b is = grind (arith, nat_tests)

host_byte : (b : ℕ) → is_host_byte b ≡ true → is_visible b ≡ true
host_byte b is = grind (arith, nat_tests)

pub name_is_key : (text : List ℕ) → is_name text ≡ true → is_text is_visible 2200 text ≡ true
unfolding is_name
name_is_key text is = let parts = word_parts 32 is_name_byte text is in visible_is_key text (omega (arith, parts.0)) (weaker is_name_byte text name_byte parts.1)

pub agent_is_key : (text : List ℕ) → is_agent text ≡ true → is_text is_visible 2200 text ≡ true
unfolding is_agent
agent_is_key text is = let parts = word_parts 64 is_agent_byte text is in visible_is_key text (omega (arith, parts.0)) (weaker is_agent_byte text agent_byte parts.1)

digit_visible : (d : ℕ) → d < 10 → AreVisible ((48 + d) ∷ [])
digit_visible d low = let is : is_visible (48 + d) ≡ true = grind (arith, nat_tests) in rw is

decimal_visible : (n : ℕ) → n < 2 ^ 64 → AreVisible (decimal n)
decimal_visible n fits =
    decimal_by_steps (λ m ds. AreVisible ds) digit_visible
    (λ m ds more before. list_all-append is_visible ds ((48 + m % 10) ∷ []) ∙ rw (before, digit_visible (m % 10) (omega arith)))
    n fits

port_parts : (text : List ℕ) → is_port text ≡ true → (length text ≤ 5) × AreVisible text
port_parts text is =
    let value = digits_value 10 text in
    let parts = and_parts (nat_le 1 value && nat_le value 65535) (bytes_eq text (decimal value)) is in
    let bounds = and_parts (nat_le 1 value) (nat_le value 65535) parts.0 in
    let most : value ≤ 65535 = leb-true _ _ bounds.1 in
    let same : text ≡ decimal value = (bytes_eq-Decides text (decimal value)).0 parts.1 in
    (omega (arith, length-decimal-le 5 value (omega arith) (omega arith) (omega arith), ap length same), ap (list_all is_visible) same ∙ decimal_visible value (omega arith))

-- what stands before and behind a colon, with the colon
around : (text : List ℕ) → AreVisible (before_first (λ b. eqb b 58) text) → AreVisible (after_first (λ b. eqb b 58) text) → AreVisible text
around [] before after = refl
around (b ∷ text) before after =
    elim (cases_Bool (eqb b 58)) [
      | inl colon ↦
          let here : is_visible b ≡ true = let e = eqb-true b 58 colon in grind (arith, nat_tests) in
          let rest : AreVisible text = rw colon at after in
          and_from (is_visible b) (list_all is_visible text) here rest
      | inr other ↦
          let k = position_or_len (λ b. eqb b 58) text in
          let front : AreVisible (b ∷ take k text) = rw (other, one-add) at before in
          let back : AreVisible (drop (suc k) text) = rw (other, one-add, add-one) at after in
          let parts = and_parts (is_visible b) (list_all is_visible (take k text)) front in
          and_from (is_visible b) (list_all is_visible text) parts.0 (around text parts.1 (rw add-one back))
    ]

pub proxy_is_key : (text : List ℕ) → is_proxy text ≡ true → is_text is_visible 2200 text ≡ true
unfolding is_proxy
proxy_is_key text is =
    let colon = λ (b : ℕ). eqb b 58 in
    let parts = and_parts (is_host (before_first colon text)) (is_port (after_first colon text)) is in
    let host = word_parts 255 is_host_byte (before_first colon text) parts.0 in
    let port = port_parts (after_first colon text) parts.1 in
    let front = length-take (position_or_len colon text) text in
    let back = length-drop (position_or_len colon text + 1) text in
    visible_is_key text (omega (arith, host.0, port.0, front, back)) (around text (weaker is_host_byte (before_first colon text) host_byte host.1) port.1)
