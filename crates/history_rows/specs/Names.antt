-- Names of a small world of two hosts: classes, keys and robots files.
use Rattle.std.specs.Prelude.{ℕ, ◌+◌, Bool, ◌==◌, List, ◌∷◌, ◌++◌, codes, count_by, bytes_eq, if◌then◌else◌}
use Rattle.std.specs.List.{list_any, starts_with, ends_with}
use Rattle.crawl_history.specs.Codes.{prerequisite_letter, redirect_letter}

-- whether two bytes are the same
abbrev pub same : ℕ → ℕ → Bool
same a b = a == b

-- the digit of a number below ten
abbrev pub digit : ℕ → ℕ
digit n = 48 + n

-- the classes of the two hosts
abbrev pub class_a : List ℕ
class_a = codes "test,a,"

-- the second
abbrev pub class_b : List ℕ
class_b = codes "test,b,"

-- the class of an address
abbrev pub class : List ℕ → List ℕ
class uri = if starts_with same uri (codes "http://a.test/") then class_a else class_b

-- `robots0:` and the class
abbrev pub robots_key : ℕ → List ℕ → List ℕ
robots_key j name = codes "robots" ++ digit j ∷ codes ":" ++ name

-- the key of an address that was found on a path
abbrev pub key : List ℕ → List ℕ → List ℕ
key uri path =
    if list_any (same prerequisite_letter) path
    then robots_key (count_by (same redirect_letter) path) (class uri)
    else if ends_with same uri (codes "/robots.txt")
    then robots_key 0 (class uri)
    else uri

-- the robots file of an address
abbrev pub robots_file : List ℕ → List ℕ
robots_file uri = if bytes_eq (class uri) class_a then codes "http://a.test/robots.txt" else codes "http://b.test/robots.txt"
