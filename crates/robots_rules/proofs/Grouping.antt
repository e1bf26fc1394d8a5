-- The groups of lines, as one line after another comes.
use Rattle.std.proofs.Common.{◌≡◌, ℕ, suc, ◌+◌, Bool, true, false, cond, not, List, [], ◌∷◌, ◌++◌, take, refl, sym, ◌∙◌, ap, append_assoc, Option, Some, None, arith}
use Rattle.std.specs.List.{before_first, position_or_len, cons_option}
use Rattle.robots_spec.specs.declared.Rule.{Rule}
use Rattle.robots_spec.specs.declared.Field.TheVariants.{UserAgent, Allow, Disallow, CrawlDelay, Other}
use Rattle.robots_spec.specs.Lines.{Line, agent_named, seconds_of}
use Rattle.robots_spec.specs.Groups.{Group, is_agent, rules_in, delays_in, closed, joined, begun, naming, groups_of, has_none}
use Rattle.robots_spec.specs.Patterns.{normal}

-- the lines up to the next agent line
abbrev pub here : List Line → List Line
here lines = before_first is_agent lines

-- the groups from an open one on: one that has agents alone, or one that has a rule
abbrev pub from_open : Bool → Group → List Line → List Group
from_open true g lines = begun g (here lines) (groups_of lines)
from_open false g lines = closed g (here lines) ∷ groups_of lines

take-one-more : {X : Type 0} (n : ℕ) (x : X) (xs : List X) → take (1 + n) (x ∷ xs) ≡ x ∷ take n xs
take-one-more n x xs = let e : 1 + n ≡ suc n = omega arith in rw e refl

-- a line that names no agent stands before the next agent line
here-more : (x : Line) (lines : List Line) → is_agent x ≡ false → here (x ∷ lines) ≡ x ∷ here lines
here-more x lines e = ap (λ t. take (cond (not t) (1 + position_or_len is_agent lines) 0) (x ∷ lines)) e ∙ take-one-more (position_or_len is_agent lines) x lines

-- so what is open goes on with that line
open-more : (heading : Bool) (g : Group) (x : Line) (lines : List Line) → is_agent x ≡ false → from_open heading g (x ∷ lines) ≡ cond heading (begun g (x ∷ here lines) (groups_of lines)) (closed g (x ∷ here lines) ∷ groups_of lines)
open-more true g x lines e = ap (λ t. begun g (here (x ∷ lines)) (cond t (begun (naming (agent_named x.value)) (here lines) (groups_of lines)) (groups_of lines))) e ∙ ap (λ hs. begun g hs (groups_of lines)) (here-more x lines e)
open-more false g x lines e = ap (λ t. closed g (here (x ∷ lines)) ∷ cond t (begun (naming (agent_named x.value)) (here lines) (groups_of lines)) (groups_of lines)) e ∙ ap (λ hs. closed g hs ∷ groups_of lines) (here-more x lines e)

pub same_group : (agents : List (List ℕ)) {r r' : List Rule} {d d' : List ℕ} → r ≡ r' → d ≡ d' → (let g : Group = record { agents = agents; rules = r; delays = d } in let h : Group = record { agents = agents; rules = r'; delays = d' } in g ≡ h)
same_group agents p q = λ i. record { agents = agents; rules = p i; delays = q i }

-- a group with a rule, or with delays, more
abbrev pub with_rule : Rule → Group → Group
with_rule r g = record { agents = g.agents; rules = g.rules ++ r ∷ []; delays = g.delays }

abbrev pub with_delays : List ℕ → Group → Group
with_delays ds g = record { agents = g.agents; rules = g.rules; delays = g.delays ++ ds }

abbrev pub listed : Option ℕ → List ℕ
listed None = []
listed (Some n) = n ∷ []

cons-listed : (o : Option ℕ) (ds : List ℕ) → cons_option o ds ≡ listed o ++ ds
cons-listed None ds = refl
cons-listed (Some n) ds = refl

abbrev line : Rattle.robots_spec.specs.declared.Field.Field → List ℕ → Line
line f v = record { field = f; value = v }

-- ---- a rule line closes the head of a group

closed-allow : (g : Group) (v : List ℕ) (lines : List Line) → closed g (line Allow v ∷ lines) ≡ closed (with_rule (record { allows = true; pattern = normal v }) g) lines
closed-allow g v lines = same_group g.agents (sym (append_assoc g.rules (record { allows = true; pattern = normal v } ∷ []) (rules_in lines))) refl

closed-disallow : (g : Group) (v : List ℕ) (lines : List Line) → closed g (line Disallow v ∷ lines) ≡ closed (with_rule (record { allows = false; pattern = normal v }) g) lines
closed-disallow g v lines = same_group g.agents (sym (append_assoc g.rules (record { allows = false; pattern = normal v } ∷ []) (rules_in lines))) refl

-- a group that has a rule takes no other in
begun-ruled : (g : Group) (lines : List Line) (later : List Group) (r : Rule) (rest : List Rule) → rules_in lines ≡ r ∷ rest → begun g lines later ≡ closed g lines ∷ later
begun-ruled g lines [] r rest e = refl
begun-ruled g lines (h ∷ later) r rest e = ap (λ rs. cond (has_none rs) (joined (closed g lines) h ∷ later) (closed g lines ∷ h ∷ later)) e

pub open-allow : (heading : Bool) (g : Group) (v : List ℕ) (lines : List Line) → from_open heading g (line Allow v ∷ lines) ≡ from_open false (with_rule (record { allows = true; pattern = normal v }) g) lines
open-allow true g v lines = open-more true g (line Allow v) lines refl ∙ begun-ruled g (line Allow v ∷ here lines) (groups_of lines) _ _ refl ∙ ap (λ h. h ∷ groups_of lines) (closed-allow g v (here lines))
open-allow false g v lines = open-more false g (line Allow v) lines refl ∙ ap (λ h. h ∷ groups_of lines) (closed-allow g v (here lines))

pub open-disallow : (heading : Bool) (g : Group) (v : List ℕ) (lines : List Line) → from_open heading g (line Disallow v ∷ lines) ≡ from_open false (with_rule (record { allows = false; pattern = normal v }) g) lines
open-disallow true g v lines = open-more true g (line Disallow v) lines refl ∙ begun-ruled g (line Disallow v ∷ here lines) (groups_of lines) _ _ refl ∙ ap (λ h. h ∷ groups_of lines) (closed-disallow g v (here lines))
open-disallow false g v lines = open-more false g (line Disallow v) lines refl ∙ ap (λ h. h ∷ groups_of lines) (closed-disallow g v (here lines))

-- ---- a delay line changes no more than the delays

closed-delay : (g : Group) (v : List ℕ) (lines : List Line) → closed g (line CrawlDelay v ∷ lines) ≡ closed (with_delays (listed (seconds_of v)) g) lines
closed-delay g v lines = same_group g.agents refl (ap (λ ds. g.delays ++ ds) (cons-listed (seconds_of v) (delays_in lines)) ∙ sym (append_assoc g.delays (listed (seconds_of v)) (delays_in lines)))

-- the head of a group is seen by its rules and by what it is closed to
begun-same : (g g' : Group) (lines lines' : List Line) (later : List Group) → rules_in lines ≡ rules_in lines' → closed g lines ≡ closed g' lines' → begun g lines later ≡ begun g' lines' later
begun-same g g' lines lines' [] e e' = ap (λ h. h ∷ []) e'
begun-same g g' lines lines' (h ∷ later) e e' = λ i. cond (has_none (e i)) (joined (e' i) h ∷ later) (e' i ∷ h ∷ later)

pub open-delay : (heading : Bool) (g : Group) (v : List ℕ) (lines : List Line) → from_open heading g (line CrawlDelay v ∷ lines) ≡ from_open heading (with_delays (listed (seconds_of v)) g) lines
open-delay true g v lines = open-more true g (line CrawlDelay v) lines refl ∙ begun-same g (with_delays (listed (seconds_of v)) g) (line CrawlDelay v ∷ here lines) (here lines) (groups_of lines) refl (closed-delay g v (here lines))
open-delay false g v lines = open-more false g (line CrawlDelay v) lines refl ∙ ap (λ h. h ∷ groups_of lines) (closed-delay g v (here lines))

pub open-other : (heading : Bool) (g : Group) (v : List ℕ) (lines : List Line) → from_open heading g (line Other v ∷ lines) ≡ from_open heading g lines
open-other true g v lines = open-more true g (line Other v) lines refl ∙ begun-same g g (line Other v ∷ here lines) (here lines) (groups_of lines) refl refl
open-other false g v lines = open-more false g (line Other v) lines refl

-- ---- an agent line joins a group that has agents alone, and begins one after a rule

same_groups : {a a' : List (List ℕ)} {r r' : List Rule} {d d' : List ℕ} → a ≡ a' → r ≡ r' → d ≡ d' → (let g : Group = record { agents = a; rules = r; delays = d } in let h : Group = record { agents = a'; rules = r'; delays = d' } in g ≡ h)
same_groups o p q = λ i. record { agents = o i; rules = p i; delays = q i }

-- joining is associative
join-join : (g : Group) (a : List ℕ) (lines : List Line) (h : Group) → joined (closed g []) (joined (closed (naming a) lines) h) ≡ joined (closed (joined g (naming a)) lines) h
join-join g a lines h =
    same_groups
    (sym (append_assoc g.agents (a ∷ []) h.agents))
    (sym (append_assoc (g.rules ++ []) (rules_in lines) h.rules))
    (sym (append_assoc (g.delays ++ []) (delays_in lines) h.delays))

by_rules : (t : Bool) (g : Group) (a : List ℕ) (lines : List Line) (h : Group) (later : List Group) → begun g [] (cond t (joined (closed (naming a) lines) h ∷ later) (closed (naming a) lines ∷ h ∷ later)) ≡ cond t (joined (closed (joined g (naming a)) lines) h ∷ later) (closed (joined g (naming a)) lines ∷ h ∷ later)
by_rules true g a lines h later = ap (λ k. k ∷ later) (join-join g a lines h)
by_rules false g a lines h later = refl

begun-begun : (g : Group) (a : List ℕ) (lines : List Line) (later : List Group) → begun g [] (begun (naming a) lines later) ≡ begun (joined g (naming a)) lines later
begun-begun g a lines [] = refl
begun-begun g a lines (h ∷ later) = by_rules (has_none (rules_in lines)) g a lines h later

pub open-agent : (g : Group) (v : List ℕ) (lines : List Line) → from_open true g (line UserAgent v ∷ lines) ≡ from_open true (joined g (naming (agent_named v))) lines
open-agent g v lines = begun-begun g (agent_named v) (here lines) (groups_of lines)

pub new-agent : (g : Group) (v : List ℕ) (lines : List Line) → from_open false g (line UserAgent v ∷ lines) ≡ closed g [] ∷ from_open true (naming (agent_named v)) lines
new-agent g v lines = refl
