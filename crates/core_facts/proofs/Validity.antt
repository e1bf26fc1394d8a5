-- What the journal's relations name is computed as valid.
use Rattle.std.proofs.Common.{◌≡◌, ℕ, ◌≤◌, ◌^◌, Bool, true, false, ◌&&◌, ◌==◌, List, [], ◌∷◌, length, refl, sym, ◌∙◌, ap, arith, Option, Some, None, Ok, Err}
use Rattle.std.specs.Prelude.{IsTrue, IfSome, nat_le, nat_lt, is_none, bytes_eq}
use Rattle.std.specs.Bool.{Decides}
use Rattle.std.specs.List.{list_all, AllByRecursion}
use Rattle.std.proofs.lemmas.Bool.{and_parts, and_from, le-leb, leb-true}
use Rattle.std.proofs.lemmas.Bool.Decides.{nat_tests, Decides-and, Decides-eqb, Decides-like, Decides-ltb}
use Rattle.std.proofs.lemmas.Slice.Eq.{bytes_eq-Decides}
use Rattle.url.specs.declared.slicing.Position.TheVariants.{BeforePath}
use Rattle.url.specs.Parts.{Parts, serialize, offset}
use Rattle.url.specs.Parser.{Parsed, parse_url}
use Rattle.crawl_kinds.specs.Address.{IsUri, is_web, most_head, most_uri, without_fragment}
use Rattle.crawl_kinds.specs.Text.{is_text, is_visible, is_hop}
use Rattle.crawl_kinds.specs.declared.event.TheConstants.{MAX_MS}
use Rattle.crawl_kinds.specs.declared.event.Body.{Body}
use Rattle.crawl_kinds.specs.declared.event.End.{End}
use Rattle.crawl_kinds.specs.declared.event.Fetch.{Fetch}
use Rattle.crawl_kinds.specs.declared.event.Notes.{Notes}
use Rattle.crawl_kinds.specs.declared.event.Outcome.{Outcome}
use Rattle.crawl_kinds.specs.declared.event.Outcome.TheVariants.{Success, Failure, Disregard, Retry}
use Rattle.crawl_kinds.specs.declared.event.Event.{Event}
use Rattle.crawl_kinds.specs.declared.event.Event.TheVariants.{Session, Seeds, Emit, Finish}
use Rattle.crawl_kinds.specs.declared.item.Item.{Item}
use Rattle.uri_spec.specs.Surt.{class_text}
use Rattle.uri_form.specs.Fault.{address_in, most_text}
use Rattle.journal_valid.specs.Items.{IsAddress, IsItem, IsAdd, key_of, rank_of, robots_redirects}
use Rattle.journal_valid.specs.Ends.{IsEnd, IsFetch, IsBody, IsNotes, outcome_of}
use Rattle.journal_valid.specs.Valid.{IsEvent, IsSession, IsTicket}
use Rattle.core_facts.specs.ValidEvent.{is_none_or, is_same, is_written, is_parsed, is_uri, is_address, is_item, is_add, is_fetch, is_body, is_noted, same_outcome, is_outcome, is_end, is_opening, is_ticket, is_event}

-- ---- tests and what they tell

itself : (b : Bool) → Decides b (b ≡ true)
itself b = (λ h. h, λ h. h)

le : (a b : ℕ) → Decides (nat_le a b) (a ≤ b)
le a b = (leb-true a b, le-leb a b)

both : {P Q : Type 0} {a b : Bool} → Decides a P → Decides b Q → Decides (a && b) (P × Q)
both {a = a} {b = b} p q = Decides-and a b p q

-- nothing, or something of this kind
if_some : {X : Type 0} (p : X → Bool) (P : X → Type 0) → ((x : X) → Decides (p x) (P x)) → (o : Option X) → Decides (is_none_or p o) (IfSome o P)
if_some p P each None = (λ h. tt, λ h. refl)
if_some p P each (Some x) = each x

same : (a b : Bool) → Decides (is_same a b) (a ≡ b)
same true b = (λ h. sym h, λ h. sym h)
same false true = (λ h. cc h, λ h. cc h)
same false false = (λ h. refl, λ h. refl)

all_to : {X : Type 0} (p : X → Bool) (P : X → Type 0) → ((x : X) → P x → p x ≡ true) → (xs : List X) → AllByRecursion P xs → list_all p xs ≡ true
all_to p P each [] all = refl
all_to p P each (x ∷ xs) all = and_from (p x) (list_all p xs) (each x all.0) (all_to p P each xs all.1)

all_back : {X : Type 0} (p : X → Bool) (P : X → Type 0) → ((x : X) → p x ≡ true → P x) → (xs : List X) → list_all p xs ≡ true → AllByRecursion P xs
all_back p P each [] all = tt
all_back p P each (x ∷ xs) all = let parts = and_parts (p x) (list_all p xs) all in (each x parts.0, all_back p P each xs parts.1)

-- ---- ends

one_outcome : (x y : Outcome) → Decides (same_outcome x y) (x ≡ y)
one_outcome Success Success = (λ h. refl, λ h. refl)
one_outcome Success Failure = (λ h. cc h, λ h. cc h)
one_outcome Success Disregard = (λ h. cc h, λ h. cc h)
one_outcome Success Retry = (λ h. cc h, λ h. cc h)
one_outcome Failure Success = (λ h. cc h, λ h. cc h)
one_outcome Failure Failure = (λ h. refl, λ h. refl)
one_outcome Failure Disregard = (λ h. cc h, λ h. cc h)
one_outcome Failure Retry = (λ h. cc h, λ h. cc h)
one_outcome Disregard Success = (λ h. cc h, λ h. cc h)
one_outcome Disregard Failure = (λ h. cc h, λ h. cc h)
one_outcome Disregard Disregard = (λ h. refl, λ h. refl)
one_outcome Disregard Retry = (λ h. cc h, λ h. cc h)
one_outcome Retry Success = (λ h. cc h, λ h. cc h)
one_outcome Retry Failure = (λ h. cc h, λ h. cc h)
one_outcome Retry Disregard = (λ h. cc h, λ h. cc h)
one_outcome Retry Retry = (λ h. refl, λ h. refl)

outcome : (o : Option Outcome) (x : Outcome) → Decides (is_outcome o x) (o ≡ Some x)
outcome None x = (λ h. cc h, λ h. cc h)
outcome (Some y) x = Decides-like (same_outcome y x) (λ e. ap Some e) (λ e. cc e) (one_outcome y x)

fetch : (x : Fetch) → Decides (is_fetch x) (IsFetch x)
fetch x = Decides-like (is_fetch x) (λ p. record { start = p.0; duration = p.1 }) (λ r. (r.start, r.duration)) (both (le x.start MAX_MS) (le x.duration MAX_MS))

body : (x : Body) → Decides (is_body x) (IsBody x)
body x =
    Decides-like (is_body x)
    (λ p. record { size = p.0.0.0.0.0.0.0; media = p.0.0.0.0.0.0.1; typed = p.0.0.0.0.0.1; digest = p.0.0.0.0.1; digested = p.0.0.0.1; file = p.0.0.1; at = p.0.1; len = p.1 })
    (λ r. (((((((r.size, r.media), r.typed), r.digest), r.digested), r.file), r.at), r.len))
    (both (both (both (both (both (both (both (le x.size 8388608) (itself _)) (itself _)) (itself _)) (itself _)) (Decides-ltb x.spot.file (2 ^ 32))) (le x.spot.at 4294967295)) (le x.spot.len 4294967295))

notes : (x : Notes) → Decides (is_noted x) (IsNotes x)
notes x =
    Decides-like (is_noted x) (λ p. record { first = p.0.0; tries = p.0.1; cause = p.1 }) (λ r. ((r.first, r.tries), r.cause))
    (both (both (le 1 x.tries) (Decides-ltb x.tries (2 ^ 32))) (itself _))

pub ends : (end : End) → Decides (is_end end) (IsEnd end)
ends end =
    Decides-like (is_end end)
    (λ p. record { outcome = p.0.0.0.0.0.0; fetched = p.0.0.0.0.0.1; fetch = p.0.0.0.0.1; recorded = p.0.0.0.1; body = p.0.0.1; notes = p.0.1; caused = p.1 })
    (λ r. ((((((r.outcome, r.fetched), r.fetch), r.recorded), r.body), r.notes), r.caused))
    (both (both (both (both (both (both (outcome (outcome_of end.code) end.outcome) (same _ _)) (if_some is_fetch IsFetch fetch end.fetch)) (same _ _)) (if_some is_body IsBody body end.body)) (notes end.notes)) (same _ _))

-- ---- addresses

pub uri_to : (text : List ℕ) → IsUri text → is_uri text ≡ true
uri_to text is =
    and_from (nat_le (length text) most_uri) (is_parsed (is_written text) (parse_url None text)) (le-leb (length text) most_uri is.reads.within)
    (ap (is_parsed (is_written text)) is.reads.parsed ∙ written)
  where
    written : is_written text is.url ≡ true
    written =
        and_from _ (nat_le (offset is.url BeforePath) most_head)
        (and_from _ (bytes_eq (serialize is.url) text) (and_from (is_web is.url) (is_none is.url.fragment) is.reads.web (ap is_none is.reads.fragment))
        ((bytes_eq-Decides (serialize is.url) text).1 is.reads.written))
        (le-leb (offset is.url BeforePath) most_head is.reads.head)

pub address_to : (text : List ℕ) → IsAddress text → is_address text ≡ true
address_to text is = and_from (is_uri text) (is_text is_visible 2083 text) (uri_to text is.serialised) is.visible

none_is : {X : Type 0} (o : Option X) → is_none o ≡ true → o ≡ None
none_is None h = refl
none_is (Some x) h = cc h

-- what is computed as an address is read as itself
pub uri_reads : (text : List ℕ) → is_uri text ≡ true → address_in text (parse_url None text) ≡ Ok text
uri_reads text is = let parts = and_parts (nat_le (length text) most_uri) _ is in by_parsed (leb-true (length text) most_uri parts.0) (parse_url None text) parts.1
  where
    by_parsed : length text ≤ most_uri → (p : Parsed Parts) → is_parsed (is_written text) p ≡ true → address_in text p ≡ Ok text
    by_parsed short (Err fault) h = cc h
    by_parsed short (Ok url) h =
        let last = and_parts _ (nat_le (offset url BeforePath) most_head) h in
        let third = and_parts _ (bytes_eq (serialize url) text) last.0 in
        let first = and_parts (is_web url) (is_none url.fragment) third.0 in
        let none = none_is url.fragment first.1 in
        let whole : serialize (without_fragment url) ≡ text =
        (λ i. serialize (record url { fragment = sym none i })) ∙ (bytes_eq-Decides (serialize url) text).0 third.1 in
        let low = leb-true (offset url BeforePath) most_head last.1 in
        let few : nat_lt most_text (length text) ≡ false = grind (arith, nat_tests) in
        let within : nat_lt most_uri (length (serialize (without_fragment url))) ≡ false = grind (arith, nat_tests, ap length whole) in
        let head : nat_lt most_head (offset url BeforePath) ≡ false = grind (arith, nat_tests) in
        let web : is_web url ≡ true = first.0 in
        rw (few, within, head, web) (ap Ok whole)

-- ---- items

via_to : (via : Option (List ℕ)) → IfSome via IsAddress → is_none_or is_address via ≡ true
via_to None is = refl
via_to (Some text) is = address_to text is

pub item_to : (item : Item) → IsItem item → is_item item ≡ true
item_to item is =
    and_from _ (item.rank == rank_of item.key item.path)
    (and_from _ (bytes_eq item.class (class_text item.uri))
    (and_from _ (is_text is_visible 2200 item.key)
    (and_from _ (bytes_eq item.key (key_of item.uri item.path))
    (and_from _ (is_none_or is_address item.via)
    (and_from (is_address item.uri) (is_text is_hop 250 item.path) (address_to item.uri is.uri) is.path) (via_to item.via is.via))
    ((bytes_eq-Decides item.key (key_of item.uri item.path)).1 is.key)) is.key_fits)
    ((bytes_eq-Decides item.class (class_text item.uri)).1 is.class)) ((Decides-eqb item.rank (rank_of item.key item.path)).1 is.rank)

-- what the test of an item tells
pub record Tested (item : Item) : Type 0 where
  pub uri : is_address item.uri ≡ true
  pub path : is_text is_hop 250 item.path ≡ true
  pub via : is_none_or is_address item.via ≡ true
  pub key : item.key ≡ key_of item.uri item.path
  pub key_fits : is_text is_visible 2200 item.key ≡ true
  pub class : item.class ≡ class_text item.uri
  pub rank : item.rank ≡ rank_of item.key item.path

pub item_tells : (item : Item) → is_item item ≡ true → Tested item
item_tells item is =
    let p =
    (both (both (both (both (both (both (itself (is_address item.uri)) (itself (is_text is_hop 250 item.path))) (itself (is_none_or is_address item.via))) (bytes_eq-Decides item.key (key_of item.uri item.path))) (itself (is_text is_visible 2200 item.key))) (bytes_eq-Decides item.class (class_text item.uri))) (Decides-eqb item.rank (rank_of item.key item.path))).0 is in
    record { uri = p.0.0.0.0.0.0; path = p.0.0.0.0.0.1; via = p.0.0.0.0.1; key = p.0.0.0.1; key_fits = p.0.0.1; class = p.0.1; rank = p.1 }

pub redirects : (o : Option ℕ) → Decides (is_none_or (λ j. nat_le j 5) o) (IfSome o (λ j. j ≤ 5))
redirects o = if_some (λ j. nat_le j 5) (λ j. j ≤ 5) (λ j. le j 5) o

pub add_to : (item : Item) → IsAdd item → is_add item ≡ true
add_to item is = and_from (is_item item) _ (item_to item is.named) ((redirects (robots_redirects item.path)).1 is.redirects)

pub adds_to : (items : List Item) → AllByRecursion IsAdd items → list_all is_add items ≡ true
adds_to items all = all_to is_add IsAdd add_to items all

-- ---- events

session : (time : ℕ) (job : List ℕ) (format : ℕ) → Decides (nat_le time MAX_MS && is_opening job format) ((time ≤ MAX_MS) × IsSession job format)
session time job format =
    both (le time MAX_MS)
    (Decides-like (is_opening job format) (λ p. record { named = p.0.0; visible = p.0.1; numbered = p.1 }) (λ r. ((r.named, r.visible), r.numbered))
    (both (both (le 1 (length job)) (itself _)) (Decides-ltb format (2 ^ 32))))

ticket : (time caller number : ℕ) → Decides (is_ticket time caller number) (IsTicket time caller number)
ticket time caller number =
    Decides-like (is_ticket time caller number) (λ p. record { in_time = p.0.0; among_callers = p.0.1; in_range = p.1 }) (λ r. ((r.in_time, r.among_callers), r.in_range))
    (both (both (le time MAX_MS) (le caller 31)) (Decides-ltb number (2 ^ 64)))

pub event_to : (e : Event) → IsEvent e → is_event e ≡ true
event_to (Session time job format) is = (session time job format).1 is
event_to (Seeds time list adds) is =
    and_from _ (list_all is_add adds) (and_from (nat_le time MAX_MS) (list_all is_address list) (le-leb time MAX_MS is.0) (all_to is_address IsAddress address_to list is.1))
    (adds_to adds is.2)
event_to (Emit time caller number verdict item) is = and_from (is_ticket time caller number) (is_item item) ((ticket time caller number).1 is.0) (item_to item is.1)
event_to (Finish time caller number item end adds) is =
    and_from _ (list_all is_add adds)
    (and_from _ (is_end end) (and_from (is_ticket time caller number) (is_item item) ((ticket time caller number).1 is.0) (item_to item is.1)) ((ends end).1 is.2))
    (adds_to adds is.3)

-- ---- back, where what is computed as an address is one

module _ (uris : (text : List ℕ) → IsTrue (is_uri text) → IsUri text) where
  address_back : (text : List ℕ) → is_address text ≡ true → IsAddress text
  address_back text is = let parts = and_parts (is_uri text) (is_text is_visible 2083 text) is in record { serialised = uris text parts.0; visible = parts.1 }

  item_back : (item : Item) → is_item item ≡ true → IsItem item
  item_back item is =
      let tells = item_tells item is in
      record {
        uri = address_back item.uri tells.uri;
        path = tells.path;
        via = via_back item.via tells.via;
        key = tells.key;
        key_fits = tells.key_fits;
        class = tells.class;
        rank = tells.rank;
      }
    where
      via_back : (via : Option (List ℕ)) → is_none_or is_address via ≡ true → IfSome via IsAddress
      via_back None is = tt
      via_back (Some text) is = address_back text is

  add_back : (item : Item) → is_add item ≡ true → IsAdd item
  add_back item is = let parts = and_parts (is_item item) _ is in record { named = item_back item parts.0; redirects = (redirects (robots_redirects item.path)).0 parts.1 }

  pub event_back : (e : Event) → IsTrue (is_event e) → IsEvent e
  event_back (Session time job format) is = (session time job format).0 is
  event_back (Seeds time list adds) is =
      let last = and_parts _ (list_all is_add adds) is in
      let first = and_parts (nat_le time MAX_MS) (list_all is_address list) last.0 in
      (leb-true time MAX_MS first.0, all_back is_address IsAddress address_back list first.1, all_back is_add IsAdd add_back adds last.1)
  event_back (Emit time caller number verdict item) is =
      let parts = and_parts (is_ticket time caller number) (is_item item) is in
      ((ticket time caller number).0 parts.0, item_back item parts.1)
  event_back (Finish time caller number item end adds) is =
      let last = and_parts _ (list_all is_add adds) is in
      let third = and_parts _ (is_end end) last.0 in
      let first = and_parts (is_ticket time caller number) (is_item item) third.0 in
      ((ticket time caller number).0 first.0, item_back item first.1, (ends end).0 third.1, all_back is_add IsAdd add_back adds last.1)
