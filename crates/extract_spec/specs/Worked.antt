-- Worked examples of the definitions.
use Rattle.std.specs.Prelude.{◌≡◌, ℕ, List, [], ◌∷◌, ◌++◌, map, codes, Some, None}
use Rattle.page_spec.specs.Fields.{Pair}
use Rattle.extract_spec.specs.declared.source.Source.TheVariants.{Page, StyleSheet, Script, Nothing}
use Rattle.extract_spec.specs.Source.{source_of}
use Rattle.extract_spec.specs.Joining.{cleaned, found_by, joined}
use Rattle.extract_spec.specs.Links.{links_of}

-- the fields of a head with a type, and with an encoding too
abbrev typed : List ℕ → List Pair
typed media = (codes "Content-Type", media) ∷ []

abbrev encoded : List ℕ → List Pair
encoded coding = (codes "content-encoding", coding) ∷ typed (codes "text/html")

abbrev moved : List ℕ → List Pair
moved target = (codes "Location", target) ∷ []

abbrev here : List ℕ
here = codes "http://a.test/d/p"

-- a page with a comment and a base, and one with a style sheet and a script
abbrev page : List ℕ
page = codes "<!-- <a href=/no> --><base href='/d/'><a href=x>1</a><a href='y?a=1&amp;b=2'>2</a><A HREF='x'>3</A><img src=i.png><"

abbrev part_page : List ℕ
part_page = codes "<style>p{background:url('c.png')}</style><script>var s='/s1';</script>"

pub record AreWorked : Type 0 where
  pub html : source_of (typed (codes "Text/HTML; charset=x")) ≡ Page
  pub xhtml : source_of (typed (codes "application/xhtml+xml")) ≡ Page
  pub css : source_of (typed (codes "text/css")) ≡ StyleSheet
  pub script : source_of (typed (codes "application/x-javascript")) ≡ Script
  pub image : source_of (typed (codes "image/png")) ≡ Nothing
  pub untyped : source_of [] ≡ Nothing
  pub gzip : source_of (encoded (codes "gzip")) ≡ Nothing
  pub identity : source_of (encoded (codes "Identity")) ≡ Page
  pub both : source_of (encoded (codes "identity, gzip")) ≡ Nothing
  pub empty : source_of (encoded (codes " ,")) ≡ Page
  pub clean : cleaned (9 ∷ 32 ∷ 120 ∷ 255 ∷ 12 ∷ []) ≡ 120 ∷ 0xEF ∷ 0xBF ∷ 0xBD ∷ []
  pub relative : joined here (codes "../x?y#z") ≡ Some (codes "http://a.test/x?y")
  pub mail : joined here (codes "mailto:x") ≡ None
  pub bad : joined here (codes "http://") ≡ None
  pub redirected : links_of here 301 (moved (codes "/r")) [] ≡ found_by 82 (codes "http://a.test/r") ∷ []
  pub refused : links_of here 302 (moved (codes "http://")) [] ≡ []
  pub not_moved : links_of here 200 (moved (codes "/r")) [] ≡ []
  pub styled : links_of here 200 (typed (codes "text/css")) (codes "url(b)") ≡ found_by 69 (codes "http://a.test/d/b") ∷ []
  pub based : links_of here 200 (typed (codes "text/html")) (codes "<a href=x><base href=/>") ≡ found_by 76 (codes "http://a.test/x") ∷ []
  pub redirected_by_base : links_of here 301 (moved (codes "r") ++ typed (codes "text/html")) (codes "<base href=/>") ≡ found_by 82 (codes "http://a.test/r") ∷ []
  pub first_page : links_of (codes "http://a.test/p") 200 (typed (codes "text/html")) page
      ≡ map (found_by 76) (codes "http://a.test/d/x" ∷ codes "http://a.test/d/y?a=1&b=2" ∷ codes "http://a.test/d/x" ∷ []) ++ found_by 69 (codes "http://a.test/d/i.png") ∷ []
  pub second_page : links_of (codes "http://a.test/q") 200 (typed (codes "text/html")) part_page
      ≡ found_by 69 (codes "http://a.test/c.png") ∷ found_by 88 (codes "http://a.test/s1") ∷ []
