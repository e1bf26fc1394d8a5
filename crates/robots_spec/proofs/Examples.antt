-- The definitions, computed on examples.
use Rattle.std.proofs.Common.{◌≡◌, ℕ, true, false, List, [], ◌∷◌, ◌++◌, refl, Some, None}
use Rattle.std.specs.Prelude.{codes}
use Rattle.percent_encoding.proofs.OnLiterals.{percent_encoding_on_literals}
use Rattle.robots_spec.specs.declared.Rule.{Rule}
use Rattle.robots_spec.specs.Lines.{lines_of}
use Rattle.robots_spec.specs.Groups.{agent_rules}
use Rattle.robots_spec.specs.Patterns.{normal, LiesOn, robots_path_of}

-- triples of unreserved octets are the octets; others have upper-case digits
triples : normal (codes "/%7ea%2f%zz%4") ≡ codes "/~a%2F%zz%4"
unfolding percent_encoding_on_literals
triples = refl

-- an octet past ASCII is a triple
past_ascii : normal (47 ∷ 0xC3 ∷ 0xA9 ∷ []) ≡ codes "/%C3%A9"
unfolding percent_encoding_on_literals
past_ascii = refl

-- CR, LF and CRLF end lines
ends : lines_of (0xEF ∷ 0xBB ∷ 0xBF ∷ 97 ∷ 13 ∷ 10 ∷ 98 ∷ 13 ∷ 99 ∷ 10 ∷ []) ≡ codes "a" ∷ [] ∷ codes "b" ∷ codes "c" ∷ [] ∷ []
ends = refl

abbrev line_end : List ℕ
line_end = 10 ∷ []

-- groups of one agent are one; those of `*` do not count beside them
grouped : agent_rules (codes "User-agent: sampler # me" ++ line_end ++ codes "Disallow: /a" ++ line_end ++ codes "Crawl-delay: 2.5" ++ line_end ++ codes "User-agent: *" ++ line_end ++ codes "Disallow: /" ++ line_end ++ codes "User-agent:SAMPLER/2" ++ line_end ++ codes " ALLOW : /q ") (codes "sampler")
    ≡ record { rules = record { allows = false; pattern = codes "/a" } ∷ record { allows = true; pattern = codes "/q" } ∷ []; delay = Some 2 }
unfolding percent_encoding_on_literals agent_rules
grouped = refl

-- a delay between two agent lines is of their one group, and rules before any agent line are of none
between : agent_rules (codes "Disallow: /x" ++ line_end ++ codes "Crawl-delay: 1" ++ line_end ++ codes "User-agent: a" ++ line_end ++ codes "Crawl-delay: 7" ++ line_end ++ codes "User-agent: *" ++ line_end ++ codes "Disallow: /y") (codes "b")
    ≡ record { rules = record { allows = false; pattern = codes "/y" } ∷ []; delay = Some 7 }
unfolding percent_encoding_on_literals agent_rules
between = refl

path : robots_path_of (codes "http://user:x@a.test:80/b?c=/%41") ≡ codes "/b?c=/A"
unfolding percent_encoding_on_literals
path = refl

-- a whole file
abbrev file : List ℕ
file = codes "User-agent: sampler"
    ++ line_end ++ codes "Disallow: /a"
    ++ line_end ++ codes "Allow: /a/b"
    ++ line_end ++ codes "Crawl-delay: 2.5"
    ++ line_end ++ []
    ++ line_end ++ codes "User-agent: *"
    ++ line_end ++ codes "Disallow: /"
    ++ line_end ++ []
    ++ line_end ++ codes "User-agent: SAMPLER"
    ++ line_end ++ codes "Disallow: /x*y$"
    ++ line_end ++ codes "Allow: /q"
    ++ line_end ++ codes "Disallow: /q"
    ++ line_end ++ codes "Disallow:"

abbrev allow : List ℕ → Rule
allow p = record { allows = true; pattern = p }

abbrev disallow : List ℕ → Rule
disallow p = record { allows = false; pattern = p }

for_sampler : agent_rules file (codes "sampler")
    ≡ record {
      rules = disallow (codes "/a") ∷ allow (codes "/a/b") ∷ disallow (codes "/x*y$") ∷ allow (codes "/q") ∷ disallow (codes "/q") ∷ disallow [] ∷ [];
      delay = Some 2;
    }
unfolding percent_encoding_on_literals agent_rules
for_sampler = refl

for_other : agent_rules file (codes "other") ≡ record { rules = disallow (codes "/") ∷ []; delay = None }
unfolding percent_encoding_on_literals agent_rules
for_other = refl

-- `/x*y$` lies on `/x1y`
starred : LiesOn (codes "/x*y$") (codes "/x1y")
starred = (_, refl, (_, refl, (codes "1", _, refl, (_, refl, refl))))
