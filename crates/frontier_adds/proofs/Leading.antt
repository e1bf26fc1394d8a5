-- Where links lead: to addresses, over hops. So what an end adds can be spelled.
use Rattle.std.proofs.Common.{◌≡◌, ℕ, Bool, true, false, ◌||◌, ◌==◌, List, [], ◌∷◌, map, refl, sym, ◌∙◌, ap, subst, Option, Some, None}
use Rattle.std.specs.Prelude.{All, find, nat_lt, bytes_eq, IsTrue, option_map, if◌then◌else◌}
use Rattle.std.specs.BTreeMap.{BTreeMap}
use Rattle.std.specs.List.{list_all, AllByRecursion}
use Rattle.std.proofs.lemmas.List.Elements.{All-map, All-weaker, All-contains, All-head, All-tail}
use Rattle.crawl_kinds.specs.Address.{IsUri}
use Rattle.crawl_kinds.specs.Text.{is_hop}
use Rattle.crawl_kinds.specs.declared.item.Item.{Item}
use Rattle.crawl_kinds.specs.declared.settings.Settings.{Settings}
use Rattle.crawl_kinds.specs.declared.event.End.{End}
use Rattle.crawl_kinds.specs.declared.event.Verdict.{Verdict}
use Rattle.crawl_kinds.specs.Event.{Finishing}
use Rattle.crawl_history.specs.Adds.{new_items, seed_candidates}
use Rattle.crawl_history.specs.Codes.{redirect_letter}
use Rattle.crawl_history.specs.Facts.{Archive, Facts, Link}
use Rattle.crawl_history.specs.History.{History}
use Rattle.crawl_history.specs.Robots.{page_links, redirect_count, redirect_in, most_redirects}
use Rattle.scope_spec.specs.Decision.{ScopeRules}
use Rattle.uri_spec.specs.Surt.{class_text}
use Rattle.core_facts.specs.CoreFacts.{Pages, facts_with}
use Rattle.core_facts.specs.ValidEvent.{is_add}
use Rattle.core_facts.specs.Validity.{ItemsAreValid, LeadsOn, ValidIsComputed}
use Rattle.extract_spec.specs.declared.found.Found.{Found}
use Rattle.extract_spec.specs.Joining.{IsLink, is_link_letter}
use Rattle.frontier_adds.specs.Candidates.{found_in, found_redirect, link_of}
use Rattle.frontier_adds.specs.KeptAdds.{kept_adds}
use Rattle.frontier_adds.specs.Shown.{KeepsPlaces, ShowsLinks}
use Rattle.frontier_adds.proofs.Adding.{adds_same}
use Rattle.frontier_memo.proofs.Lists.{find-map}
use Rattle.frontier_memo.specs.declared.known.Known.{Known}
use Rattle.journal_valid.specs.Items.{IsAdd}

or_left : (a b : Bool) → a ≡ true → (a || b) ≡ true
or_left true b h = refl
or_left false b h = cc

-- the letters of links are hops
hop : (letter : ℕ) → is_link_letter letter ≡ true → is_hop letter ≡ true
hop letter is = or_left (is_link_letter letter) (letter == 80) is

-- a link leads to an address over a hop
abbrev Leads : Link → Type 0
Leads l = IsUri l.uri × IsTrue (is_hop l.letter)

link_leads : (found : Found) → IsLink found → Leads (link_of found)
link_leads found is = (is.address, hop found.letter is.letter)

found_link : (p : Found → Bool) (links : List Found) → All IsLink links → (found : Found) → find p links ≡ Some found → IsLink found
found_link p [] all found is = cc
found_link p (x ∷ links) all found is = by_test (p x) is (found_link p links (All-tail IsLink x links all) found)
  where
    by_test : (b : Bool) → (if b then Some x else find p links) ≡ Some found → (find p links ≡ Some found → IsLink found) → IsLink found
    by_test true is later = let same : x ≡ found = cc in subst IsLink same (All-head IsLink x links all)
    by_test false is later = later is

redirect_leads : (item : Item) (links : List Found) → All IsLink links → (uri : List ℕ) → found_redirect item links ≡ Some uri → IsUri uri
redirect_leads item links all uri is = by_left (nat_lt (redirect_count item) most_redirects) is
  where
    by_class : (found : Found) (b : Bool) → IsLink found → (if b then Some found.uri else None) ≡ Some uri → IsUri uri
    by_class found true link is = let same : found.uri ≡ uri = cc in subst IsUri same link.address
    by_class found false link is = cc

    by_found : (o : Option Found) → find (λ l. l.letter == redirect_letter) links ≡ o → found_in item.class o ≡ Some uri → IsUri uri
    by_found None at is = cc
    by_found (Some found) at is = by_class found (bytes_eq (class_text found.uri) item.class) (found_link (λ l. l.letter == redirect_letter) links all found at) is

    by_left : (b : Bool) → (if b then found_in item.class (find (λ l. l.letter == redirect_letter) links) else None) ≡ Some uri → IsUri uri
    by_left true is = by_found (find (λ l. l.letter == redirect_letter) links) refl is
    by_left false is = cc

leads_on : (f : Facts) (a : Archive) (c : Finishing) (links : List Found) → All IsLink links → ShowsLinks f a c links → LeadsOn f a c
leads_on f a c links all shown = record {
  links = λ came page l among.
      All-contains Leads (page_links f a c) l (subst (All Leads) (shown.page came page) (All-map Leads link_of links (All-weaker IsLink (λ found. Leads (link_of found)) link_leads links all))) among;
  redirect = λ came robots status uri is. redirect_leads c.item links all uri (shown.robots came robots status ∙ is);
}

-- pages that show these links whatever is asked of them
abbrev pages_of : List Found → Pages
pages_of links = record { payload = λ block. []; links = λ uri block. map link_of links; fits = λ uri block end. true; next_spot = λ edge c block. record { file = 0; at = 0; len = 0 } }

-- without a block anywhere
abbrev no_blocks : Archive
no_blocks spot = []

module _ (s : Settings) (scope : ScopeRules) (links : List Found) where
  abbrev shown_facts : Facts
  shown_facts = facts_with s (scope ∷ []) (pages_of links)

  same_redirect : (class : List ℕ) (o : Option Found) → found_in class o ≡ redirect_in shown_facts class (option_map link_of o)
  same_redirect class None = refl
  same_redirect class (Some found) = refl

  shown_there : (c : Finishing) → ShowsLinks shown_facts no_blocks c links
  shown_there c = record {
    page = λ came page. refl;
    robots = λ came robots status.
        ap (λ (o : Option (List ℕ)). if nat_lt (redirect_count c.item) most_redirects then o else None)
        (same_redirect c.item.class (find (λ l. l.letter == redirect_letter) links)
        ∙ ap (redirect_in shown_facts c.item.class) (sym (find-map link_of (λ l. l.letter == redirect_letter) links)));
  }

-- what an end adds can be spelled where its item can
pub adds_spelled :
    (made : ItemsAreValid) (s : Settings) (scope : ScopeRules) (h : History) (places : BTreeMap (List ℕ) Known) (keeps : KeepsPlaces h places) (links : List Found)
    (verdict : Verdict) (item : Item) (end : End) (adds : List Item) → All IsLink links → IsUri item.uri → adds ≡ kept_adds places scope item end links verdict
    → is_add item ≡ true → AllByRecursion IsAdd adds
adds_spelled made s scope h places keeps links verdict item end adds all address is spelled =
    let c : Finishing = record { time = 0; caller = 0; ticket = 0; item = item; end = end; adds = [] } in
    let shown = shown_there s scope links c in
    subst (AllByRecursion IsAdd) (sym (is ∙ adds_same s scope (pages_of links) h places keeps no_blocks c links shown item end verdict refl refl))
    ((made.made s (scope ∷ []) (pages_of links)).finish no_blocks h c verdict spelled address (leads_on (shown_facts s scope links) no_blocks c links all shown))

by_recursion : {X : Type 0} (P : X → Type 0) (xs : List X) → All P xs → AllByRecursion P xs
by_recursion P [] all = tt
by_recursion P (x ∷ xs) all = (All-head P x xs all, by_recursion P xs (All-tail P x xs all))

-- what seeds add can be spelled
pub seeds_spelled :
    (made : ItemsAreValid) (computed : ValidIsComputed) (s : Settings) (scope : ScopeRules) (pages : Pages) (h : History) (list : List (List ℕ))
    (adds : List Item) → All IsUri list → adds ≡ new_items (facts_with s (scope ∷ []) pages) h (seed_candidates (facts_with s (scope ∷ []) pages) list)
    → list_all is_add adds ≡ true
seeds_spelled made computed s scope pages h list adds all is =
    ap (list_all is_add) is
    ∙ computed.adds (new_items (facts_with s (scope ∷ []) pages) h (seed_candidates (facts_with s (scope ∷ []) pages) list))
    ((made.made s (scope ∷ []) pages).seeds h list (by_recursion IsUri list all))
