-- Worked examples of the definitions.
use Rattle.std.specs.Prelude.{◌≡◌, ℕ, List, [], ◌∷◌, ◌++◌, map, codes, Some}
use Rattle.link_spec.specs.Words.{reference}
use Rattle.link_spec.specs.Entities.{decoded}
use Rattle.link_spec.specs.Elements.{html_base, html_refs}
use Rattle.link_spec.specs.Css.{css_refs}
use Rattle.link_spec.specs.Scripts.{string_refs}

-- `"`
abbrev pub quote : List ℕ
quote = 34 ∷ []

-- a page with a comment and a base, and one with a style sheet and a script
abbrev pub page : List ℕ
page = codes "<!-- <a href=/no> --><base href='/d/'><a href=x>1</a><a href='y?a=1&amp;b=2'>2</a><A HREF='x'>3</A><img src=i.png><"

abbrev pub part_page : List ℕ
part_page = codes "<style>p{background:url('c.png')}</style><script>var s='</scripts>';</script>"

pub record AreWorked : Type 0 where
  pub base : html_base page ≡ Some (codes "/d/")
  pub refs : html_refs page ≡ map (reference 76) (codes "x" ∷ codes "y?a=1&b=2" ∷ codes "x" ∷ []) ++ reference 69 (codes "i.png") ∷ []
  pub parts : html_refs part_page ≡ reference 67 (codes "p{background:url('c.png')}") ∷ reference 83 (codes "var s='</scripts>';") ∷ []
  pub by_rel : html_refs (codes "<link href=a rel='x ICON'><link rel=next href=b href=c><?a href=d?></a href=e>") ≡ reference 69 (codes "a") ∷ reference 76 (codes "b") ∷ []
  pub srcset : html_refs (codes "<img srcset=' a 1x, b,,c' src=d") ≡ map (reference 69) (codes "a" ∷ codes "b" ∷ codes "c" ∷ codes "d" ∷ [])
  pub refresh : html_refs (codes "<meta http-equiv=Refresh content=3;URL='e'><meta content='url=f'>") ≡ reference 76 (codes "e") ∷ []
  pub entities : decoded (codes "&amp;amp;&#65;&#x3c;&#x110000;&#55296;&#;&lt") ≡ codes "&amp;A<&#x110000;&#55296;&#;&lt"
  pub style : html_refs (codes "<p style='a&#39;b'/x='>'a=1>") ≡ reference 67 (codes "a'b") ∷ []
  pub css : css_refs (codes "p{background:url('c.png')}") ≡ reference 69 (codes "c.png") ∷ []
  pub css_many : css_refs (codes "@IMPORT 'a';x{b:URL( d/e.png )}@import url(f);@import g;url(h)") ≡ map (reference 69) (codes "a" ∷ codes "d/e.png " ∷ codes "f" ∷ codes "h" ∷ [])
  pub css_open : css_refs (codes "@importurl( 'a)url(b)") ≡ reference 69 (codes "a)url(b)") ∷ []
  pub css_end : css_refs (codes "url(") ≡ reference 69 [] ∷ []
  pub strings : string_refs (codes "var s='/s1';t='//x';u='/';v='http:/y';w='https://y/' + '/z") ≡ map (reference 88) (codes "/s1" ∷ codes "https://y/" ∷ [])
  pub strings_mixed : string_refs (quote ++ codes "/a" ++ codes "'" ++ codes "/b" ++ codes "'" ++ codes "/c") ≡ reference 88 (codes "/b") ∷ []
