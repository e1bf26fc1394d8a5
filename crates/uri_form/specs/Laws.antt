-- What the laws of addresses say.
use Rattle.std.specs.Prelude.{◌≡◌, ◌⊎◌, ℕ, List, ◌++◌, codes}
use Rattle.uri_spec.specs.Surt.{class_text, surt_text}

-- the class is an authority, with the mark of https or without, and the SURT form has that authority between its brackets
pub record BeginsWithAuthority (text : List ℕ) : Type 0 where
  pub authority : List ℕ
  pub rest : List ℕ
  pub class : (class_text text ≡ authority) ⊎ (class_text text ≡ authority ++ codes "#https")
  pub surt : surt_text text ≡ codes "http://(" ++ (authority ++ (codes ")" ++ rest))
