-- What holds of texts that are cut by these rules.
use Rattle.std.specs.Prelude.{◌≡◌, ◌↔◌, ℕ, List}
use Rattle.link_spec.specs.Cut.{Piece, IsCut, pieces, passing}
use Rattle.link_spec.specs.Segments.{Segment, segment_at}
use Rattle.link_spec.specs.Css.{css_use}
use Rattle.link_spec.specs.Scripts.{string_use}

-- each text is cut in exactly one way
pub record EachIsCutOnce : Type 0 where
  pub html : (text : List ℕ) (ps : List (Piece Segment)) → (IsCut segment_at text ps) ↔ (ps ≡ pieces segment_at text)
  pub css : (text : List ℕ) (ps : List (Piece (List (List ℕ)))) → (IsCut (passing css_use) text ps) ↔ (ps ≡ pieces (passing css_use) text)
  pub strings : (text : List ℕ) (ps : List (Piece (List (List ℕ)))) → (IsCut (passing string_use) text ps) ↔ (ps ≡ pieces (passing string_use) text)
