-- References of style sheets: `url(` with or without quotes (CSS Values and Units §4.5), and `@import` with a quoted text
-- (CSS Cascading and Inheritance §2).
--     css_refs text      the references, in order of place
use Rattle.std.specs.Prelude.{ℕ, Bool, ◌==◌, if◌then◌else◌, List, drop, map, codes, Option, Some, None, unwrap_or, option_map}
use Rattle.std.specs.List.{prefix_len}
use Rattle.link_spec.specs.Cut.{Piece, moved, sought}
use Rattle.link_spec.specs.Words.{is_blank, begins, closed_by, quoted, reference}
use Rattle.link_spec.specs.declared.reference.Ref.{Ref}

-- `)`
abbrev pub is_paren : ℕ → Bool
is_paren b = b == 41

-- in quotes, or else up to `)`
abbrev pub quoted_or_bare : List ℕ → Piece (List ℕ)
quoted_or_bare text = unwrap_or (quoted text) (closed_by is_paren text)

-- what stands behind `url(` and blanks
abbrev pub url_value : List ℕ → Piece (List ℕ)
url_value text = moved (prefix_len is_blank text) (quoted_or_bare (drop (prefix_len is_blank text) text))

-- what stands behind `@import` and blanks, where it is in quotes
abbrev pub import_value : List ℕ → Option (Piece (List ℕ))
import_value text = option_map (moved (prefix_len is_blank text)) (quoted (drop (prefix_len is_blank text) text))

-- the use of an address at the front of a text. It unfolds only where a proof asks for it.
unfoldable pub css_use : List ℕ → Option (Piece (List ℕ))
css_use text =
    if begins (codes "url(") text
    then Some (moved 4 (url_value (drop 4 text)))
    else if begins (codes "@import") text
    then option_map (moved 7) (import_value (drop 7 text))
    else None

-- the references of a style sheet have the letter E, for what is embedded
abbrev pub css_refs : List ℕ → List Ref
css_refs text = map (reference 69) (sought css_use text)
