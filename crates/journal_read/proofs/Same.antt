-- Fields determine what they name: items, tickets, fetches, places, bodies and notes.
use Rattle.std.proofs.Common.{◌≡◌, ℕ, ◌<◌, ◌^◌, true, List, [], ◌∷◌, ◌++◌, get_or, Option, Some, None, refl, sym, ap, subst, ◌∙◌, arith}
use Rattle.std.specs.Prelude.{decimal, codes, unwrap_or, IfSome, is_ok}
use Rattle.std.specs.List.{list_all}
use Rattle.std.proofs.lemmas.Bool.{false≢true, both_ways, and_parts}
use Rattle.std.proofs.lemmas.Fmt.{decimal_injective}
use Rattle.url.proofs.OnLiterals.{url_on_literals}
use Rattle.uri_spec.specs.Surt.{class_text}
use Rattle.crawl_kinds.specs.Text.{is_hop, is_text}
use Rattle.crawl_kinds.specs.declared.event.Fetch.{Fetch}
use Rattle.crawl_kinds.specs.declared.event.Spot.{Spot}
use Rattle.crawl_kinds.specs.declared.event.Body.{Body}
use Rattle.crawl_kinds.specs.declared.item.Item.{Item}
use Rattle.journal_spec.specs.Fields.{path_field, fetch_field, spot_field, body_fields, absent}
use Rattle.journal_valid.specs.Items.{IsAddress, IsItem, key_of, rank_of}
use Rattle.journal_valid.specs.Ends.{IsFetch, IsBody}
use Rattle.journal_read.specs.Reading.{cells}
use Rattle.journal_read.specs.Ends.{IsSpot}
use Rattle.journal_read.proofs.Texts.{all_from_text}
use Rattle.journal_read.proofs.Codes.{no_minus}
use Rattle.journal_read.proofs.Fetches.{fetch_cells, spot_cells}

-- the field at a place
abbrev pub at : ℕ → List (List ℕ) → List ℕ
at i fields = get_or fields i []

pub field_at : (i : ℕ) (a b : List (List ℕ)) → a ≡ b → at i a ≡ at i b
field_at i a b e = ap (at i) e

item_from : (x y : Item) → x.key ≡ y.key → x.uri ≡ y.uri → x.class ≡ y.class → x.path ≡ y.path → x.via ≡ y.via → x.rank ≡ y.rank → x ≡ y
item_from x y k u c p v r = λ i. record { key = k i; uri = u i; class = c i; path = p i; via = v i; rank = r i }

-- `-` is no address
pub no_dash : IsAddress (codes "-") → ⊥
unfolding url_on_literals
no_dash is = false≢true (ap is_ok is.serialised.reads.parsed)

no_hop : (x : ℕ) (xs : List ℕ) → is_text is_hop 250 (x ∷ xs) ≡ true → 45 ∷ [] ≡ x ∷ xs → ⊥
no_hop x xs is e =
    let parts = and_parts (is_hop x) (list_all is_hop xs) (all_from_text is_hop 250 (x ∷ xs) is) in
    let first : x ≡ 45 = sym (ap (λ (t : List ℕ). get_or t 0 0) e) in
    both_ways (is_hop x) (ap is_hop first) parts.0

pub path_same : (p q : List ℕ) → is_text is_hop 250 p ≡ true → is_text is_hop 250 q ≡ true → path_field p ≡ path_field q → p ≡ q
path_same [] [] hp hq e = refl
path_same [] (y ∷ ys) hp hq e = absurd (no_hop y ys hq e)
path_same (x ∷ xs) [] hp hq e = absurd (no_hop x xs hp (sym e))
path_same (x ∷ xs) (y ∷ ys) hp hq e = e

pub via_same : (v w : Option (List ℕ)) → IfSome v IsAddress → IfSome w IsAddress → unwrap_or v absent ≡ unwrap_or w absent → v ≡ w
via_same None None iv iw e = refl
via_same None (Some u) iv iw e = absurd (no_dash (subst IsAddress (sym e) iw))
via_same (Some u) None iv iw e = absurd (no_dash (subst IsAddress e iv))
via_same (Some u) (Some w) iv iw e = ap Some e

-- items with one address, path and via are one
pub same_item : (x y : Item) → IsItem x → IsItem y → x.uri ≡ y.uri → x.path ≡ y.path → x.via ≡ y.via → x ≡ y
same_item x y ix iy uri path via =
    let key : x.key ≡ y.key = ix.key ∙ (ap (λ (u : List ℕ). key_of u x.path) uri ∙ (ap (λ (p : List ℕ). key_of y.uri p) path ∙ sym iy.key)) in
    let class : x.class ≡ y.class = ix.class ∙ (ap class_text uri ∙ sym iy.class) in
    let rank : x.rank ≡ y.rank = ix.rank ∙ (ap (λ (k : List ℕ). rank_of k x.path) key ∙ (ap (λ (p : List ℕ). rank_of y.key p) path ∙ sym iy.rank)) in
    item_from x y key uri class path via rank

pub item_same : (x y : Item) → IsItem x → IsItem y → x.uri ≡ y.uri → path_field x.path ≡ path_field y.path → unwrap_or x.via absent ≡ unwrap_or y.via absent → x ≡ y
item_same x y ix iy uri path via =
    same_item x y ix iy uri (path_same x.path y.path ix.path iy.path path) (via_same x.via y.via ix.via iy.via via)

pub fetch_same : (f g : Option Fetch) → IfSome f IsFetch → IfSome g IsFetch → fetch_field f ≡ fetch_field g → f ≡ g
fetch_same None None hf hg e = refl
fetch_same None (Some g) hf hg e =
    let both : (45 ∷ []) ∷ [] ≡ decimal g.start ∷ decimal g.duration ∷ [] = ap (cells 43) e ∙ fetch_cells g hg in
    absurd (cc)
fetch_same (Some f) None hf hg e =
    let both : (45 ∷ []) ∷ [] ≡ decimal f.start ∷ decimal f.duration ∷ [] = ap (cells 43) (sym e) ∙ fetch_cells f hf in
    absurd (cc)
fetch_same (Some f) (Some g) hf hg e =
    let both : decimal f.start ∷ decimal f.duration ∷ [] ≡ decimal g.start ∷ decimal g.duration ∷ [] = sym (fetch_cells f hf) ∙ (ap (cells 43) e ∙ fetch_cells g hg) in
    let start : decimal f.start ≡ decimal g.start = cc in
    let duration : decimal f.duration ≡ decimal g.duration = cc in
    let s = decimal_injective f.start g.start (omega (arith, hf.start)) (omega (arith, hg.start)) start in
    let d = decimal_injective f.duration g.duration (omega (arith, hf.duration)) (omega (arith, hg.duration)) duration in
    let whole : f ≡ g = λ i. record { start = s i; duration = d i } in
    ap Some whole

pub spot_same : (x y : Spot) → IsSpot x → IsSpot y → spot_field x ≡ spot_field y → x ≡ y
spot_same x y hx hy e =
    let both : decimal x.file ∷ decimal x.at ∷ decimal x.len ∷ [] ≡ decimal y.file ∷ decimal y.at ∷ decimal y.len ∷ [] = sym (spot_cells x hx) ∙ (ap (cells 58) e ∙ spot_cells y hy) in
    let file : decimal x.file ≡ decimal y.file = cc in
    let at_ : decimal x.at ≡ decimal y.at = cc in
    let len : decimal x.len ≡ decimal y.len = cc in
    let f = decimal_injective x.file y.file (omega (arith, hx.file)) (omega (arith, hy.file)) file in
    let a = decimal_injective x.at y.at (omega (arith, hx.at)) (omega (arith, hy.at)) at_ in
    let l = decimal_injective x.len y.len (omega (arith, hx.len)) (omega (arith, hy.len)) len in
    λ i. record { file = f i; at = a i; len = l i }

pub spot_of_body : (body : Body) → IsBody body → IsSpot body.spot
spot_of_body body is = record { file = omega (arith, is.file); at = is.at; len = is.len }

pub no_dash_number : (n : ℕ) → n < 2 ^ 64 → 45 ∷ [] ≡ decimal n → ⊥
no_dash_number n small e = no_minus n small (ap (λ (t : List ℕ). get_or t 0 0) (sym e))

-- the fields of what was recorded, and one field more
pub body_same : (b c : Option Body) (n m : List ℕ) → IfSome b IsBody → IfSome c IsBody → body_fields b ++ n ∷ [] ≡ body_fields c ++ m ∷ [] → (b ≡ c) × (n ≡ m)
body_same None None n m hb hc e = (refl, field_at 4 (body_fields None ++ n ∷ []) (body_fields None ++ m ∷ []) e)
body_same None (Some c) n m hb hc e = absurd (no_dash_number c.size (omega (arith, hc.size)) (ap (at 0) e))
body_same (Some b) None n m hb hc e = absurd (no_dash_number b.size (omega (arith, hb.size)) (ap (at 0) (sym e)))
body_same (Some b) (Some c) n m hb hc e =
    let size = decimal_injective b.size c.size (omega (arith, hb.size)) (omega (arith, hc.size)) (ap (at 0) e) in
    let media : b.media ≡ c.media = ap (at 1) e in
    let digest : b.digest ≡ c.digest = ap (at 2) e in
    let spot = spot_same b.spot c.spot (spot_of_body b hb) (spot_of_body c hc) (ap (at 3) e) in
    let whole : b ≡ c = λ i. record { size = size i; media = media i; digest = digest i; spot = spot i } in
    (ap Some whole, ap (at 4) e)
