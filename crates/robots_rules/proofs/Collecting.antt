-- What the reader holds for the groups so far, and that it comes to what the groups say.
use Rattle.std.proofs.Common.{◌≡◌, ℕ, Bool, true, false, ◌||◌, cond, List, [], ◌∷◌, ◌++◌, map, refl, sym, ◌∙◌, ap, append_assoc, append-nil, Option, Some, None}
use Rattle.std.specs.Prelude.{slice_get}
use Rattle.std.proofs.Math.Bool.{or_assoc}
use Rattle.std.proofs.lemmas.List.Folds.{list_any-append}
use Rattle.std.specs.List.{filter, flat_map, list_any}
use Rattle.robots_spec.specs.declared.Rule.{Rule}
use Rattle.robots_spec.specs.declared.Field.{Field}
use Rattle.robots_spec.specs.declared.Field.TheVariants.{UserAgent, Allow, Disallow, CrawlDelay, Other}
use Rattle.robots_spec.specs.Lines.{Line, lines_of, line_of, all_agents, agent_named, same_name, seconds_of}
use Rattle.robots_spec.specs.Groups.{Group, closed, joined, naming, names, groups_of, said_by, agent_rules, AgentRules}
use Rattle.robots_spec.specs.Patterns.{normal}
use Rattle.robots_rules.specs.declared.collector.Collector.{Collector}
use Rattle.robots_rules.specs.Reading.{begun, or_else, settled, ruled, delayed, after_by, after, after_all, read_by, robots_of}
use Rattle.robots_rules.proofs.Grouping.{from_open, with_rule, with_delays, listed, open-allow, open-disallow, open-delay, open-other, open-agent}

-- ---- lists

or_false : (a : Bool) → a || false ≡ a
or_false true = refl
or_false false = refl

-- what the chosen groups give, in order
abbrev gathered : {X : Type 0} → (Group → Bool) → (Group → List X) → List Group → List X
gathered p f gs = flat_map f (filter p gs)

-- what one group gives
abbrev given : {X : Type 0} → (Group → Bool) → (Group → List X) → Group → List X
given p f g = cond (p g) (f g) []

gathered-by : {X : Type 0} (b : Bool) (f : Group → List X) (g : Group) (rest : List Group) → flat_map f (cond b (g ∷ rest) rest) ≡ cond b (f g) [] ++ flat_map f rest
gathered-by true f g rest = refl
gathered-by false f g rest = refl

gathered-append : {X : Type 0} (p : Group → Bool) (f : Group → List X) (gs hs : List Group) → gathered p f (gs ++ hs) ≡ gathered p f gs ++ gathered p f hs
gathered-append p f [] hs = refl
gathered-append p f (g ∷ gs) hs =
    gathered-by (p g) f g (filter p (gs ++ hs))
    ∙ ap (λ xs. given p f g ++ xs) (gathered-append p f gs hs)
    ∙ sym (append_assoc (given p f g) (gathered p f gs) (gathered p f hs))
    ∙ ap (λ xs. xs ++ gathered p f hs) (sym (gathered-by (p g) f g (filter p gs)))

gathered-push : {X : Type 0} (p : Group → Bool) (f : Group → List X) (gs : List Group) (g : Group) → gathered p f (gs ++ g ∷ []) ≡ gathered p f gs ++ given p f g
gathered-push p f gs g = gathered-append p f gs (g ∷ []) ∙ ap (λ xs. gathered p f gs ++ xs) (gathered-by (p g) f g [] ∙ append-nil (given p f g))

first-append : (xs ys : List ℕ) → slice_get (xs ++ ys) 0 ≡ or_else (slice_get xs 0) (slice_get ys 0)
first-append [] ys = refl
first-append (x ∷ xs) ys = refl

or_else-none : (o : Option ℕ) → or_else o None ≡ o
or_else-none None = refl
or_else-none (Some n) = refl

-- ---- the state

abbrev rules_so_far : List ℕ → List Group → List Rule
rules_so_far agent gs = gathered (names agent) (λ g. g.rules) gs

abbrev delays_so_far : List ℕ → List Group → List ℕ
delays_so_far agent gs = gathered (names agent) (λ g. g.delays) gs

-- the state stands for the closed groups and the open one
pub record StandsFor (agent : List ℕ) (c : Collector) (done : List Group) (g : Group) : Type 0 where
  pub found : c.found ≡ (list_any (names agent) done || names agent g)
  pub rules : c.rules ≡ rules_so_far agent done ++ cond (names agent g) g.rules []
  pub delay : c.delay ≡ slice_get (delays_so_far agent done) 0
  pub member : c.member ≡ names agent g
  pub pending : c.open_delay ≡ slice_get g.delays 0
  pub headed : c.heading ≡ true → g.rules ≡ []

-- after a line the state stands for some groups, with which the lines left make the same groups as before
abbrev Next : List ℕ → Collector → List Group → List Line → Type 0
Next agent c groups lines = (done : List Group) × (g : Group) × StandsFor agent c done g × (groups ≡ done ++ from_open c.heading g lines)

abbrev state : Bool → List Rule → Option ℕ → Bool → Bool → Option ℕ → Collector
state found rules delay member heading pending = record { found = found; rules = rules; delay = delay; member = member; heading = heading; open_delay = pending }

abbrev line : Field → List ℕ → Line
line f v = record { field = f; value = v }

-- the groups of a line more, where the open group takes it in
onto : (done : List Group) (groups next : List Group) → groups ≡ next → done ++ groups ≡ done ++ next
onto done groups next e = ap (λ gs. done ++ gs) e

none_of : {X : Type 0} (b : Bool) (xs : List X) → xs ≡ [] → cond b xs [] ≡ []
none_of true xs e = e
none_of false xs e = refl

joined-names : (agent a : List ℕ) (g : Group) → names agent (joined g (naming a)) ≡ names agent g || same_name agent a
joined-names agent a g = list_any-append (same_name agent) g.agents (a ∷ []) ∙ ap (λ b. names agent g || b) (or_false (same_name agent a))

-- an agent line in the head of a group
step-joined : (agent v : List ℕ) (lines : List Line) (found : Bool) (rules : List Rule) (delay : Option ℕ) (member : Bool) (pending : Option ℕ) (done : List Group) (g : Group) → StandsFor agent (state found rules delay member true pending) done g → Next agent (after_by agent (state found rules delay member true pending) UserAgent v) (done ++ from_open true g (line UserAgent v ∷ lines)) lines
step-joined agent v lines found rules delay member pending done g s =
    let a = agent_named v in
    let new = joined g (naming a) in (
      done,
      new,
      record {
        found = ap (λ b. b || same_name agent a) s.found ∙ or_assoc (list_any (names agent) done) (names agent g) (same_name agent a) ∙ ap (λ b. list_any (names agent) done || b) (sym (joined-names agent a g));
        rules = s.rules ∙ ap (λ xs. rules_so_far agent done ++ xs) (none_of (names agent g) g.rules (s.headed refl) ∙ sym (none_of (names agent new) new.rules (append-nil g.rules ∙ s.headed refl)));
        delay = s.delay;
        member = ap (λ b. b || same_name agent a) s.member ∙ sym (joined-names agent a g);
        pending = s.pending ∙ ap (λ ds. slice_get ds 0) (sym (append-nil g.delays));
        headed = λ _. append-nil g.rules ∙ s.headed refl;
      },
      onto done _ _ (open-agent g v lines),
    )

given-first : (b : Bool) (ds : List ℕ) → slice_get (cond b ds []) 0 ≡ cond b (slice_get ds 0) None
given-first true ds = refl
given-first false ds = refl

-- the first delay, with the open group closed
settled-is : (agent : List ℕ) (c : Collector) (done : List Group) (g : Group) → StandsFor agent c done g → settled c ≡ slice_get (delays_so_far agent (done ++ closed g [] ∷ [])) 0
settled-is agent c done g s =
    let last : List ℕ = cond (names agent g) (g.delays ++ []) [] in
    ap (λ o. or_else o (cond c.member c.open_delay None)) s.delay
    ∙ ap (λ o. or_else (slice_get (delays_so_far agent done) 0) o) (ap (λ b. cond b c.open_delay None) s.member ∙ ap (λ o. cond (names agent g) o None) (s.pending ∙ ap (λ ds. slice_get ds 0) (sym (append-nil g.delays))) ∙ sym (given-first (names agent g) (g.delays ++ [])))
    ∙ sym (ap (λ ds. slice_get ds 0) (gathered-push (names agent) (λ h. h.delays) done (closed g [])) ∙ first-append (delays_so_far agent done) last)

found-is : (agent : List ℕ) (c : Collector) (done : List Group) (g : Group) → StandsFor agent c done g → c.found ≡ list_any (names agent) (done ++ closed g [] ∷ [])
found-is agent c done g s = s.found ∙ ap (λ b. list_any (names agent) done || b) (sym (or_false (names agent g))) ∙ sym (list_any-append (names agent) done (closed g [] ∷ []))

rules-is : (agent : List ℕ) (c : Collector) (done : List Group) (g : Group) → StandsFor agent c done g → c.rules ≡ rules_so_far agent (done ++ closed g [] ∷ [])
rules-is agent c done g s = s.rules ∙ ap (λ rs. rules_so_far agent done ++ cond (names agent g) rs []) (sym (append-nil g.rules)) ∙ sym (gathered-push (names agent) (λ h. h.rules) done (closed g []))

-- an agent line after a rule
step-opened : (agent v : List ℕ) (lines : List Line) (found : Bool) (rules : List Rule) (delay : Option ℕ) (member : Bool) (pending : Option ℕ) (done : List Group) (g : Group) → StandsFor agent (state found rules delay member false pending) done g → Next agent (after_by agent (state found rules delay member false pending) UserAgent v) (done ++ from_open false g (line UserAgent v ∷ lines)) lines
step-opened agent v lines found rules delay member pending done g s =
    let a = agent_named v in
    let c = state found rules delay member false pending in
    let new = done ++ closed g [] ∷ [] in (
      new,
      naming a,
      record {
        found = ap (λ b. b || same_name agent a) (found-is agent c done g s) ∙ ap (λ b. list_any (names agent) new || b) (sym (or_false (same_name agent a)));
        rules = rules-is agent c done g s ∙ sym (append-nil (rules_so_far agent new)) ∙ ap (λ xs. rules_so_far agent new ++ xs) (sym (none_of (names agent (naming a)) [] refl));
        delay = settled-is agent c done g s;
        member = sym (or_false (same_name agent a));
        pending = refl;
        headed = λ _. refl;
      },
      sym (append_assoc done (closed g [] ∷ []) (from_open true (naming a) lines)),
    )

rule-push : (b : Bool) (base rs : List Rule) (r : Rule) → cond b ((base ++ cond b rs []) ++ r ∷ []) (base ++ cond b rs []) ≡ base ++ cond b (rs ++ r ∷ []) []
rule-push true base rs r = append_assoc base rs (r ∷ [])
rule-push false base rs r = refl

-- a rule line
stands-ruled : (agent : List ℕ) (allows : Bool) (v : List ℕ) (c : Collector) (done : List Group) (g : Group) → StandsFor agent c done g → StandsFor agent (ruled allows v c) done (with_rule (record { allows = allows; pattern = normal v }) g)
stands-ruled agent allows v c done g s =
    let r : Rule = record { allows = allows; pattern = normal v } in
    record {
      found = s.found;
      rules = ap (λ b. cond b (c.rules ++ r ∷ []) c.rules) s.member ∙ ap (λ rs. cond (names agent g) (rs ++ r ∷ []) rs) s.rules ∙ rule-push (names agent g) (rules_so_far agent done) g.rules r;
      delay = s.delay;
      member = s.member;
      pending = s.pending;
      headed = λ h. absurd (cc h);
    }

listed-first : (o : Option ℕ) → slice_get (listed o) 0 ≡ o
listed-first None = refl
listed-first (Some n) = refl

stands-delayed : (agent : List ℕ) (o : Option ℕ) (c : Collector) (done : List Group) (g : Group) → StandsFor agent c done g → StandsFor agent (delayed o c) done (with_delays (listed o) g)
stands-delayed agent o c done g s =
    record {
      found = s.found;
      rules = s.rules;
      delay = s.delay;
      member = s.member;
      pending = ap (λ p. or_else p o) s.pending ∙ ap (λ p. or_else (slice_get g.delays 0) p) (sym (listed-first o)) ∙ sym (first-append g.delays (listed o));
      headed = s.headed;
    }

step-by : (agent : List ℕ) (f : Field) (v : List ℕ) (lines : List Line) (found : Bool) (rules : List Rule) (delay : Option ℕ) (member heading : Bool) (pending : Option ℕ) (done : List Group) (g : Group) → StandsFor agent (state found rules delay member heading pending) done g → Next agent (after_by agent (state found rules delay member heading pending) f v) (done ++ from_open heading g (line f v ∷ lines)) lines
step-by agent UserAgent v lines found rules delay member true pending done g s = step-joined agent v lines found rules delay member pending done g s
step-by agent UserAgent v lines found rules delay member false pending done g s = step-opened agent v lines found rules delay member pending done g s
step-by agent Allow v lines found rules delay member heading pending done g s = (done, _, stands-ruled agent true v _ done g s, onto done _ _ (open-allow heading g v lines))
step-by agent Disallow v lines found rules delay member heading pending done g s = (done, _, stands-ruled agent false v _ done g s, onto done _ _ (open-disallow heading g v lines))
step-by agent CrawlDelay v lines found rules delay member heading pending done g s = (done, _, stands-delayed agent (seconds_of v) _ done g s, onto done _ _ (open-delay heading g v lines))
step-by agent Other v lines found rules delay member heading pending done g s = (done, g, s, onto done _ _ (open-other heading g v lines))

step : (agent : List ℕ) (x : Line) (lines : List Line) (c : Collector) (done : List Group) (g : Group) → StandsFor agent c done g → Next agent (after agent c x) (done ++ from_open c.heading g (x ∷ lines)) lines
step agent x lines c done g s = step-by agent x.field x.value lines c.found c.rules c.delay c.member c.heading c.open_delay done g s

-- ---- all lines

-- what a state says, and what groups say
pub record Says (agent : List ℕ) (c : Collector) (groups : List Group) : Type 0 where
  pub found : c.found ≡ list_any (names agent) groups
  pub all : robots_of c ≡ said_by (filter (names agent) groups)

closed-nil : (heading : Bool) (g : Group) → from_open heading g [] ≡ closed g [] ∷ []
closed-nil true g = refl
closed-nil false g = refl

says-end : (agent : List ℕ) (c : Collector) (done : List Group) (g : Group) → StandsFor agent c done g → Says agent c (done ++ closed g [] ∷ [])
says-end agent c done g s =
    let r : AgentRules → List Rule = λ a. a.rules in
    record {
      found = found-is agent c done g s;
      all = λ i. record { rules = rules-is agent c done g s i; delay = settled-is agent c done g s i };
    }

pub says-all : (agent : List ℕ) (raw : List (List ℕ)) (c : Collector) (done : List Group) (g : Group) → StandsFor agent c done g → Says agent (after_all agent c raw) (done ++ from_open c.heading g (map line_of raw))
says-all agent [] c done g s = rw (closed-nil c.heading g) (says-end agent c done g s)
says-all agent (bytes ∷ raw) c done g s =
    let next = step agent (line_of bytes) (map line_of raw) c done g s in
    rw next.3 (says-all agent raw (after agent c (line_of bytes)) next.0 next.1 next.2)

-- before any agent line stands a group of no agent
nothing-so-far : (agent : List ℕ) → StandsFor agent begun [] (record { agents = []; rules = []; delays = [] })
nothing-so-far agent = record { found = refl; rules = refl; delay = refl; member = refl; pending = refl; headed = λ h. refl }

pub says-read : (agent : List ℕ) (raw : List (List ℕ)) → Says agent (after_all agent begun raw) (groups_of (map line_of raw))
says-read agent raw =
    let says = says-all agent raw begun [] (record { agents = []; rules = []; delays = [] }) (nothing-so-far agent) in
    record { found = says.found; all = says.all }

-- where a group names the agent, its groups count; else those that name all
pub read-named : (text agent : List ℕ) → (read_by agent text).found ≡ true → robots_of (read_by agent text) ≡ agent_rules text agent
unfolding agent_rules
read-named text agent e =
    let groups = groups_of (map line_of (lines_of text)) in
    let says = says-read agent (lines_of text) in
    says.all ∙ ap (λ t. said_by (cond t (filter (names agent) groups) (filter (names all_agents) groups))) (sym e ∙ says.found)

pub read-all : (text agent : List ℕ) → (read_by agent text).found ≡ false → robots_of (read_by all_agents text) ≡ agent_rules text agent
unfolding agent_rules
read-all text agent e =
    let groups = groups_of (map line_of (lines_of text)) in
    let says = says-read agent (lines_of text) in
    (says-read all_agents (lines_of text)).all ∙ ap (λ t. said_by (cond t (filter (names agent) groups) (filter (names all_agents) groups))) (sym e ∙ says.found)
