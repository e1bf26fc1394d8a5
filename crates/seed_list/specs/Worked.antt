-- Worked examples of the definitions.
use Rattle.std.specs.Prelude.{◌≡◌, ℕ, true, false, List, [], ◌∷◌, ◌++◌, codes, count_by, Some, None}
use Rattle.seed_list.specs.Lines.{line_feed, lines, is_passed, is_prefix_line, is_seed_line}
use Rattle.seed_list.specs.Seeds.{is_refused, prefix_of, prefixes_of, seeds_of}

-- two lines, the first ended by CR and LF
abbrev two : List ℕ
two = 9 ∷ codes " a.test " ++ 13 ∷ line_feed ∷ codes "#b"

pub record AreWorked : Type 0 where
  pub ends : lines two ≡ codes "a.test" ∷ codes "#b" ∷ []
  pub empty : lines [] ≡ [] ∷ []
  pub last : lines (codes "a" ++ line_feed ∷ []) ≡ codes "a" ∷ [] ∷ []
  pub inside : lines (codes "a b") ≡ codes "a b" ∷ []
  pub count : count_by is_seed_line (lines two) ≡ 1
  pub comment : is_passed (codes "#b") ≡ true
  pub nothing : is_passed [] ≡ true
  pub mark : is_prefix_line (codes "+") ≡ true
  pub seed : is_seed_line (codes "a+#") ≡ true
  pub bare : seeds_of two ≡ codes "http://a.test/" ∷ []
  pub prefix : prefixes_of two ≡ codes "http://(test,a," ∷ []
  pub stated : prefix_of (codes "+http://(org,archive,") ≡ Some (codes "http://(org,archive,")
  pub made : prefix_of (codes "+archive.org") ≡ Some (codes "http://(org,archive,")
  pub spaced : is_refused (codes "+http://(a b") ≡ true
  pub none : prefix_of (codes "#a.test") ≡ None
  pub scheme : is_refused (codes "ftp://a.test/") ≡ true
  pub marked : is_refused (codes "+http://") ≡ true
  pub passed : is_refused (codes "#http://") ≡ false
