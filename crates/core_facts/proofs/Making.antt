-- The items that a history makes of addresses are valid.
use Rattle.std.proofs.Common.{◌≡◌, ℕ, suc, ◌+◌, ◌-◌, ◌<◌, ◌≤◌, Bool, true, false, ◌&&◌, ◌==◌, List, [], ◌∷◌, ◌++◌, length, drop, codes, refl, sym, ◌∙◌, ap, ap₂, subst, arith, Option, Some, None, All, ltb-true, length-append}
use Rattle.std.specs.Prelude.{IfSome, nat_lt, nat_eq, is_none, decimal, slice_index, if◌then◌else◌}
use Rattle.std.specs.List.{ends_with}
use Rattle.std.specs.Option.{option_or}
use Rattle.std.specs.Cmp.Lexicographic.{pointwise}
use Rattle.std.specs.Int.{IsInRange}
use Rattle.std.proofs.lemmas.Bool.{and_parts}
use Rattle.std.proofs.lemmas.Bool.Decides.{nat_tests}
use Rattle.std.proofs.lemmas.Fmt.{decimal_digit, length-decimal-le}
use Rattle.std.proofs.lemmas.List.Elements.{All-append, All-weaker}
use Rattle.url.proofs.HostRoundTrip.{All-decimal}
use Rattle.url.specs.Parts.{serialize}
use Rattle.crawl_kinds.specs.Address.{IsUri}
use Rattle.crawl_kinds.specs.Text.{is_text, text_fault, is_visible, is_hop}
use Rattle.crawl_kinds.specs.Event.{Finishing}
use Rattle.crawl_kinds.specs.declared.item.Item.{Item}
use Rattle.crawl_kinds.specs.declared.settings.Settings.{Settings}
use Rattle.crawl_history.specs.Adds as adds
use Rattle.crawl_history.specs.Adds.{item_of, rank_by_letter, robots_item, robots_path, redirect_path}
use Rattle.crawl_history.specs.Facts.{Facts, Archive}
use Rattle.crawl_history.specs.Outcomes.{begins_with_robots, is_prerequisite}
use Rattle.crawl_history.specs.Robots.{redirect_count, redirect_of, most_redirects}
use Rattle.crawl_history.specs.Scans.{last_of}
use Rattle.crawl_history.specs.Scope.{most_letters}
use Rattle.scope_spec.specs.Decision.{ScopeRules}
use Rattle.uri_spec.specs.Key as keys
use Rattle.uri_spec.specs.Key.{robots_key}
use Rattle.uri_spec.specs.Surt.{class_of, class_text, of_parsed, robots_text, with_robots_path}
use Rattle.uri_form.proofs.AddressLaws.{class_is}
use Rattle.uri_form.proofs.Authority.{length-class_of, All-class_of}
use Rattle.uri_form.proofs.Fits.{fits, All-literal}
use Rattle.uri_form.proofs.KeyBounds.{key_fits}
use Rattle.uri_form.proofs.RobotsLaws.{robots_reads}
use Rattle.uri_form.proofs.UriLaws.{web_kind}
use Rattle.uri_form.proofs.Visible.{V, visible_text}
use Rattle.journal_valid.specs.Items as items
use Rattle.journal_valid.specs.Items.{IsAddress, IsItem, IsAdd, key_of, key_by, robots_redirects}
use Rattle.core_facts.specs.CoreFacts.{Pages, facts_with}
use Rattle.core_facts.specs.ValidEvent.{is_item, is_add}
use Rattle.core_facts.proofs.Hops.{text_tells, text_from, all-append, redirects-few, redirects-hop, robots_path-text, robots_path-redirects, redirect_path-text, redirect_path-redirects}
use Rattle.core_facts.proofs.Validity.{Tested, item_tells, redirects}

-- ---- addresses and their robots files

pub address : (text : List ℕ) → IsUri text → IsAddress text
address text is =
    record {
      serialised = is;
      visible =
          ap is_none
          (subst (λ t. text_fault is_visible 2083 t ≡ None) is.reads.written
          (fits is_visible 2083 (serialize is.url) (omega (arith, ap length is.reads.written, is.reads.within)) (visible_text is.url is.reads.valid (web_kind is.url.scheme is.reads.web))));
    }

robots_address : (text : List ℕ) → IsUri text → IsUri (robots_text text)
robots_address text is =
    subst IsUri (sym (ap (of_parsed (λ url. serialize (with_robots_path url))) is.reads.parsed))
    (record { url = with_robots_path is.url; reads = robots_reads text is.url is.reads })

-- ---- ranks

-- whether this is the last letter
ends_by : ℕ → Option ℕ → Bool
ends_by letter None = false
ends_by letter (Some last) = last == letter

one_test : (a b : ℕ) → (nat_eq a b && true) ≡ (b == a)
one_test a b = grind (arith, nat_tests)

ends : (letter : ℕ) (path : List ℕ) → ends_with nat_eq path (letter ∷ []) ≡ ends_by letter (last_of (λ l. Some l) path)
unfolding ends_by
ends letter [] = refl
ends letter (x ∷ []) = one_test letter x
ends letter (x ∷ y ∷ ys) =
    ap (λ n. pointwise nat_eq (letter ∷ []) (drop n (x ∷ y ∷ ys))) (shift (length ys))
    ∙ ends letter (y ∷ ys)
    ∙ by_last (last_of (λ l. Some l) ys)
  where
    shift : (n : ℕ) → suc (suc n) - 1 ≡ suc (suc n - 1)
    shift n = omega arith

    by_last : (o : Option ℕ) → ends_by letter (option_or o (Some y)) ≡ ends_by letter (option_or (option_or o (Some y)) (Some x))
    by_last None = refl
    by_last (Some l) = refl

pub rank : (key path : List ℕ) → items.rank_of key path ≡ adds.rank_of key path
unfolding ends_by
rank key path =
    ap₂ (λ r e. if begins_with_robots key then 0 else (if r then 1 else (if e then 2 else 3))) (ends items.redirect_letter path) (ends 69 path)
    ∙ by_last (begins_with_robots key) (last_of (λ l. Some l) path)
  where
    by_last :
        (robots : Bool) (o : Option ℕ)
        → (if robots then 0 else (if ends_by items.redirect_letter o then 1 else (if ends_by 69 o then 2 else 3))) ≡ (if robots then 0 else rank_by_letter o)
    by_last true o = refl
    by_last false None = refl
    by_last false (Some l) = refl

-- ---- keys

digits : (n : ℕ) → n ≤ 250 → All V (decimal n)
digits n low = All-weaker (IsInRange 48 57) V (λ b d. grind (arith, nat_tests)) (decimal n) (All-decimal n (omega arith))

robots_key-fits : (j : ℕ) (class : List ℕ) → j ≤ 250 → length class ≤ 2079 → All V class → text_fault is_visible 2200 (robots_key j class) ≡ None
robots_key-fits j class low short all =
    fits is_visible 2200 (robots_key j class)
    (omega (arith, length-append (decimal j) (codes ":" ++ class), length-decimal-le 3 j (omega arith) (omega arith) (omega arith)))
    (All-literal is_visible (codes "robots") (decimal j ++ (codes ":" ++ class)) refl
    (All-append V (decimal j) (codes ":" ++ class) (digits j low) (All-literal is_visible (codes ":") class refl all)))

key-fits : (uri : List ℕ) → IsUri uri → (o : Option ℕ) → IfSome o (λ j. j ≤ 250) → is_text is_visible 2200 (key_by o uri) ≡ true
key-fits uri is None low =
    ap is_none (ap (λ p. text_fault is_visible 2200 (of_parsed keys.key_of p)) is.reads.parsed ∙ key_fits uri is.url is.reads)
key-fits uri is (Some j) low =
    ap is_none
    (ap (λ class. text_fault is_visible 2200 (robots_key j class)) (class_is uri is)
    ∙ robots_key-fits j (class_of is.url) low (omega (arith, length-class_of is.url, is.reads.head)) (All-class_of is.url is.reads.valid))

-- ---- what is made

if_weaker : {X : Type 0} (P Q : X → Type 0) → ((x : X) → P x → Q x) → (o : Option X) → IfSome o P → IfSome o Q
if_weaker P Q more None h = tt
if_weaker P Q more (Some x) h = more x h

module _ (settings : Settings) (scopes : List ScopeRules) (pages : Pages) where
  abbrev facts : Facts
  facts = facts_with settings scopes pages

  pub item_made : (uri path : List ℕ) (via : Option (List ℕ)) → IsUri uri → is_text is_hop 250 path ≡ true → IfSome via IsUri → IsItem (item_of facts uri path via)
  item_made uri path via is hops from =
      record {
        uri = address uri is;
        path = hops;
        via = if_weaker IsUri IsAddress address via from;
        key = refl;
        key_fits =
            key-fits uri is (robots_redirects path)
            (if_weaker (λ j. j ≤ length path) (λ j. j ≤ 250) (λ j low. few j low (text_tells is_hop 250 path hops).few) (robots_redirects path) (redirects-few path));
        class = refl;
        rank = sym (rank (key_of uri path) path);
      }
    where
      few : (j : ℕ) → j ≤ length path → length path ≤ 250 → j ≤ 250
      few j low short = omega arith

  pub seed_made : (uri : List ℕ) → IsUri uri → IsAdd (item_of facts uri [] None)
  seed_made uri is = record { named = item_made uri [] None is refl tt; redirects = tt }

  -- a page is on no path to a robots file
  no_robots : (o : Option ℕ) (uri : List ℕ) → begins_with_robots (key_by o uri) ≡ false → o ≡ None
  no_robots None uri other = refl
  no_robots (Some j) uri other = cc other

  pub link_made :
      (page : Item) (letter : ℕ) (uri : List ℕ) → is_item page ≡ true → IsUri page.uri → is_prerequisite page ≡ false
      → IsUri uri → is_hop letter ≡ true → length (page.path ++ letter ∷ []) ≤ most_letters
      → IsAdd (item_of facts uri (page.path ++ letter ∷ []) (Some page.uri))
  link_made page letter uri tested named other is hop short =
      let tells = item_tells page tested in
      record {
        named =
            item_made uri (page.path ++ letter ∷ []) (Some page.uri) is
            (text_from is_hop 250 (page.path ++ letter ∷ [])
            (record { few = short; all = all-append (λ b. is_hop b ≡ true) page.path (letter ∷ []) (text_tells is_hop 250 page.path tells.path).all (hop, tt) })) named;
        redirects = redirects-hop page.path letter (no_robots (robots_redirects page.path) page.uri (ap begins_with_robots (sym tells.key) ∙ other));
      }

  pub robots_made : (c : Finishing) → is_item c.item ≡ true → IsUri c.item.uri → IsAdd (robots_item facts c)
  robots_made c tested named =
      record {
        named =
            item_made (robots_text c.item.uri) (robots_path c.item.path) (Some c.item.uri) (robots_address c.item.uri named)
            (robots_path-text c.item.path (item_tells c.item tested).path) named;
        redirects = robots_path-redirects c.item.path;
      }

  -- the digit in the key of a robots file
  count-is : (item : Item) (j : ℕ) → item.key ≡ key_of item.uri item.path → robots_redirects item.path ≡ Some j → j ≤ 5 → redirect_count item ≡ j
  count-is item j key is low =
      ap (λ k. slice_index k 6 - 48)
      (key ∙ ap (λ o. key_by o item.uri) is ∙ ap (λ d. codes "robots" ++ (d ++ (codes ":" ++ class_text item.uri))) (decimal_digit j (omega arith)))
      ∙ minus j
    where
      minus : (j : ℕ) → (48 + j) - 48 ≡ j
      minus j = omega arith

  pub redirect_made :
      (a : Archive) (c : Finishing) (uri : List ℕ) → is_add c.item ≡ true → IsUri c.item.uri → redirect_of facts a c ≡ Some uri → IsUri uri
      → IsAdd (item_of facts uri (redirect_path c.item.path) (Some c.item.uri))
  redirect_made a c uri tested named follows is =
      record {
        named =
            item_made uri (redirect_path c.item.path) (Some c.item.uri) is
            (redirect_path-text c.item.path tells.path) named;
        redirects = redirect_path-redirects c.item.path (by_count (robots_redirects c.item.path) refl ((redirects (robots_redirects c.item.path)).0 (and_parts (is_item c.item) _ tested).1));
      }
    where
      tells : Tested c.item
      tells = item_tells c.item (and_parts (is_item c.item) _ tested).0

      open_test : (b : Bool) (o : Option (List ℕ)) → (if b then o else None) ≡ Some uri → b ≡ true
      open_test true o e = refl
      open_test false o e = cc e

      left : redirect_count c.item < most_redirects
      left = ltb-true (redirect_count c.item) most_redirects (open_test (nat_lt (redirect_count c.item) most_redirects) _ follows)

      by_count : (o : Option ℕ) → robots_redirects c.item.path ≡ o → IfSome o (λ j. j ≤ 5) → IfSome o (λ j. j + 1 ≤ 5)
      by_count None e low = tt
      by_count (Some j) e low = let count = count-is c.item j tells.key e low in omega (arith, count, left)
