-- Which events and items are valid: what the journal's relations name, what is computed, and what a crawl makes.
--     ValidIsComputed      what is valid is computed as valid
--     LeadsOn f a c      what came leads to addresses
--     MakesValid f      the items that a history with these facts makes are valid
use Rattle.std.specs.Prelude.{◌≡◌, ◌↔◌, ℕ, ◌≤◌, true, false, List, [], ◌∷◌, ◌++◌, length, Contains, Option, Some, None, IfSome, IsTrue, Ok}
use Rattle.std.specs.List.{list_all, AllByRecursion}
use Rattle.url.specs.Parser.{parse_url}
use Rattle.crawl_kinds.specs.Address.{IsUri}
use Rattle.crawl_kinds.specs.Text.{is_text, is_hop}
use Rattle.crawl_kinds.specs.Event.{Finishing}
use Rattle.crawl_kinds.specs.declared.event.End.{End}
use Rattle.crawl_kinds.specs.declared.event.Event.{Event}
use Rattle.crawl_kinds.specs.declared.event.Outcome.TheVariants.{Success}
use Rattle.crawl_kinds.specs.declared.event.Verdict.{Verdict}
use Rattle.crawl_kinds.specs.declared.item.Item.{Item}
use Rattle.crawl_kinds.specs.declared.settings.Settings.{Settings}
use Rattle.crawl_history.specs.Adds as adds
use Rattle.crawl_history.specs.Adds.{item_of, seed_candidates, new_items, finish_adds, robots_item, redirect_path}
use Rattle.crawl_history.specs.Facts.{Facts, Archive, Link}
use Rattle.crawl_history.specs.History.{History}
use Rattle.crawl_history.specs.Outcomes.{is_prerequisite}
use Rattle.crawl_history.specs.Robots.{page_links, redirect_of, status_class}
use Rattle.crawl_history.specs.Scope.{most_letters}
use Rattle.scope_spec.specs.Decision.{ScopeRules}
use Rattle.uri_form.specs.Fault.{address_in}
use Rattle.journal_valid.specs.Items as items
use Rattle.journal_valid.specs.Items.{IsAddress, IsItem, IsAdd}
use Rattle.journal_valid.specs.Ends.{IsEnd}
use Rattle.journal_valid.specs.Valid.{IsEvent}
use Rattle.core_facts.specs.CoreFacts.{Pages, facts_with}
use Rattle.core_facts.specs.ValidEvent.{is_uri, is_address, is_item, is_add, is_end, is_event}

pub record ValidIsComputed : Type 0 where
  pub uri : (text : List ℕ) → IsUri text → IsTrue (is_uri text)
  pub address : (text : List ℕ) → IsAddress text → IsTrue (is_address text)
  pub item : (item : Item) → IsItem item → IsTrue (is_item item)
  pub add : (item : Item) → IsAdd item → IsTrue (is_add item)
  pub adds : (items : List Item) → AllByRecursion IsAdd items → IsTrue (list_all is_add items)
  pub event : (e : Event) → IsEvent e → IsTrue (is_event e)
  -- ends are valid just where they are computed as valid
  pub ends : (end : End) → IsTrue (is_end end) ↔ IsEnd end
  -- and so are events, as far as every computed address is one
  pub back : ((text : List ℕ) → IsTrue (is_uri text) → IsUri text) → (e : Event) → IsTrue (is_event e) → IsEvent e
  -- a computed address is read as itself
  pub reads : (text : List ℕ) → IsTrue (is_uri text) → address_in text (parse_url None text) ≡ Ok text

-- what came leads to addresses: a page by its links, over hops, and a robots file by its redirect
pub record LeadsOn (f : Facts) (a : Archive) (c : Finishing) : Type 0 where
  pub links :
      c.end.outcome ≡ Success → is_prerequisite c.item ≡ false
      → (l : Link) → Contains (page_links f a c) l → IsUri l.uri × IsTrue (is_hop l.letter)
  pub redirect :
      c.end.outcome ≡ Success → is_prerequisite c.item ≡ true → status_class c ≡ 3
      → (uri : List ℕ) → redirect_of f a c ≡ Some uri → IsUri uri

pub record MakesValid (f : Facts) : Type 0 where
  -- an item of an address, found on a path of hops
  pub item :
      (uri path : List ℕ) (via : Option (List ℕ)) → IsUri uri → IsTrue (is_text is_hop 250 path) → IfSome via IsUri
      → IsItem (item_of f uri path via)
  -- that of a seed
  pub seed : (uri : List ℕ) → IsUri uri → IsAdd (item_of f uri [] None)
  -- that of a link of a page, where its path is not too long
  pub link :
      (page : Item) (letter : ℕ) (uri : List ℕ) → IsTrue (is_item page) → IsUri page.uri → is_prerequisite page ≡ false
      → IsUri uri → IsTrue (is_hop letter) → length (page.path ++ letter ∷ []) ≤ most_letters
      → IsAdd (item_of f uri (page.path ++ letter ∷ []) (Some page.uri))
  -- that of the robots file of an item, and that of what such a file redirects to
  pub robots : (c : Finishing) → IsTrue (is_item c.item) → IsUri c.item.uri → IsAdd (robots_item f c)
  pub redirect :
      (a : Archive) (c : Finishing) (uri : List ℕ) → IsTrue (is_add c.item) → IsUri c.item.uri
      → redirect_of f a c ≡ Some uri → IsUri uri → IsAdd (item_of f uri (redirect_path c.item.path) (Some c.item.uri))
  -- so all that seeds add, and all that a finish adds
  pub seeds : (h : History) (uris : List (List ℕ)) → AllByRecursion IsUri uris → AllByRecursion IsAdd (new_items f h (seed_candidates f uris))
  pub finish :
      (a : Archive) (h : History) (c : Finishing) (verdict : Verdict) → IsTrue (is_add c.item) → IsUri c.item.uri → LeadsOn f a c
      → AllByRecursion IsAdd (finish_adds f a h c verdict)

pub record ItemsAreValid : Type 0 where
  -- an address is of visible bytes
  pub address : (text : List ℕ) → IsUri text → IsAddress text
  -- the journal and the history rank alike
  pub rank : (key path : List ℕ) → items.rank_of key path ≡ adds.rank_of key path
  -- whatever the job and its pages are
  pub made : (settings : Settings) (scopes : List ScopeRules) (pages : Pages) → MakesValid (facts_with settings scopes pages)
