-- What is read of some fields is what these fields are those of.
use Rattle.std.proofs.Common.{◌≡◌, ℕ, List, ◌∷◌, ◌++◌, Option, Some, None, Result, Ok, Err, refl, sym, ap, subst, ◌∙◌}
use Rattle.std.specs.Prelude.{IfSome, IsTrue, unwrap_or}
use Rattle.crawl_kinds.specs.Text.{is_text, is_hop}
use Rattle.crawl_kinds.specs.declared.item.Item.{Item}
use Rattle.journal_spec.specs.Fields.{absent, item_fields, path_field}
use Rattle.uri_spec.specs.Key.{key_text, robots_key}
use Rattle.uri_spec.specs.Surt.{class_text}
use Rattle.uri_form.specs.declared.named.Named.{Named}
use Rattle.uri_form.specs.Named.{IsNamed}
use Rattle.journal_valid.specs.Items.{IsAddress, IsItem, key_by}
use Rattle.journal_read.specs.declared.fault.Misread.{Misread}
use Rattle.journal_read.specs.declared.fault.Misread.TheVariants.{Bad, NoMemory}
use Rattle.journal_read.specs.Items.{IsItemOf, key_from}
use Rattle.journal_read.specs.Reading.{Reads, Takes}
use Rattle.journal_read.proofs.Same.{at, path_same, via_same}

pub item_taken : (old new : List (List ℕ)) (r : Result Item Misread) (u p v uri path : List ℕ) (via : Option (List ℕ)) → old ≡ u ∷ p ∷ v ∷ new → uri ≡ u → IsAddress u → p ≡ path_field path → IsTrue (is_text is_hop 250 path) → v ≡ unwrap_or via absent → IfSome via IsAddress → Reads (IsItemOf uri path via) r → Takes item_fields IsItem old new r
item_taken old new (Ok item) u p v uri path via e eu iu ep ip ev iv h =
    let a : u ≡ item.uri = sym (h.of_uri ∙ eu) in
    let b : p ≡ path_field item.path = ep ∙ ap path_field (sym h.of_path) in
    let d : v ≡ unwrap_or item.via absent = ev ∙ ap (λ (w : Option (List ℕ)). unwrap_or w absent) (sym h.of_via) in
    (h.valid, cc)
item_taken old new (Err Bad) u p v uri path via e eu iu ep ip ev iv h =
    λ x rest is f.
    let both : u ∷ p ∷ v ∷ new ≡ item_fields x ++ rest = sym e ∙ f in
    h x (record {
      valid = is;
      of_uri = sym (eu ∙ ap (at 0) both);
      of_path = path_same x.path path is.path ip (sym (ap (at 1) both) ∙ ep);
      of_via = via_same x.via via is.via iv (sym (ap (at 2) both) ∙ ev);
    })
item_taken old new (Err NoMemory) u p v uri path via e eu iu ep ip ev iv h = tt

-- the key by what is known of the address
pub key_found : (o : Option ℕ) (key class uri : List ℕ) → key ≡ key_text uri → class ≡ class_text uri → key_from o key class ≡ key_by o uri
key_found None key class uri ek ec = ek
key_found (Some redirects) key class uri ek ec = ap (robots_key redirects) ec

-- where the address is not read, no item's fields stand there
pub item_no_uri : (old l new : List (List ℕ)) (u : List ℕ) (fault : Misread) → old ≡ u ∷ l → Reads (λ (n : Named). IsNamed u n × IsAddress u) (Err fault) → Takes item_fields IsItem old new (Err fault)
item_no_uri old l new u Bad e h =
    λ x rest is f.
    let own : x.uri ≡ u = sym (ap (at 0) (sym e ∙ f)) in
    let address : IsAddress u = subst IsAddress own is.uri in
    h (record { uri = u; key = key_text u; class = class_text u }) (record { address = address.serialised; uri = refl; key = refl; class = refl }, address)
item_no_uri old l new u NoMemory e h = tt
