-- The groups of a robots file (RFC 9309 §2.1, §2.2.1), and what they say of one agent.
--     groups_of lines      the groups, in order
--     agent_rules text agent      the rules that hold for the agent, and its delay
use Rattle.std.specs.Prelude.{ℕ, Bool, true, false, if◌then◌else◌, List, [], ◌∷◌, ◌++◌, map, slice_get, Option, Some, None}
use Rattle.std.specs.List.{before_first, filter, filter_map, flat_map, list_any}
use Rattle.robots_spec.specs.declared.Field.{Field}
use Rattle.robots_spec.specs.declared.Field.TheVariants.{UserAgent, Allow, Disallow, CrawlDelay, Other}
use Rattle.robots_spec.specs.declared.Rule.{Rule}
use Rattle.robots_spec.specs.Lines.{Line, lines_of, line_of, agent_named, all_agents, same_name, seconds_of}
use Rattle.robots_spec.specs.Patterns.{normal}

-- a group: the agents that it names, its rules and its delays
pub record Group : Type 0 where
  pub agents : List (List ℕ)
  pub rules : List Rule
  pub delays : List ℕ

-- whether the field is that of an agent line
abbrev pub is_user_agent : Field → Bool
is_user_agent UserAgent = true
is_user_agent Allow = false
is_user_agent Disallow = false
is_user_agent CrawlDelay = false
is_user_agent Other = false

-- whether a line names an agent
abbrev pub is_agent : Line → Bool
is_agent line = is_user_agent line.field

-- the rule of a line (§2.2.2)
abbrev pub rule_by : Field → List ℕ → Option Rule
rule_by UserAgent value = None
rule_by Allow value = Some (record { allows = true; pattern = normal value })
rule_by Disallow value = Some (record { allows = false; pattern = normal value })
rule_by CrawlDelay value = None
rule_by Other value = None

-- the delay of a line (§2.2.4: another record)
abbrev pub delay_by : Field → List ℕ → Option ℕ
delay_by UserAgent value = None
delay_by Allow value = None
delay_by Disallow value = None
delay_by CrawlDelay value = seconds_of value
delay_by Other value = None

-- the rules of these lines, in order
abbrev pub rules_in : List Line → List Rule
rules_in lines = filter_map (λ line. rule_by line.field line.value) lines

-- their delays, in order
abbrev pub delays_in : List Line → List ℕ
delays_in lines = filter_map (λ line. delay_by line.field line.value) lines

-- a group with these lines at its end
abbrev pub closed : Group → List Line → Group
closed g lines = record { agents = g.agents; rules = g.rules ++ rules_in lines; delays = g.delays ++ delays_in lines }

-- both as one group
abbrev pub joined : Group → Group → Group
joined g h = record { agents = g.agents ++ h.agents; rules = g.rules ++ h.rules; delays = g.delays ++ h.delays }

-- the list is empty
abbrev pub has_none : {X : Type 0} → List X → Bool
has_none [] = true
has_none (x ∷ xs) = false

-- a group that so far has agents alone, the lines up to the next agent line, and the groups from there on:
-- where those lines have no rule, it goes on in the next group (§2.1: one or more agent lines begin a group)
abbrev pub begun : Group → List Line → List Group → List Group
begun g lines [] = closed g lines ∷ []
begun g lines (h ∷ later) =
    if has_none (rules_in lines)
    then joined (closed g lines) h ∷ later
    else closed g lines ∷ h ∷ later

-- a group of one agent line
abbrev pub naming : List ℕ → Group
naming agent = record { agents = agent ∷ []; rules = []; delays = [] }

-- the groups: each begins with an agent line; what stands before the first belongs to none (§2.1)
abbrev pub groups_of : List Line → List Group
groups_of [] = []
groups_of (line ∷ lines) =
    if is_agent line
    then begun (naming (agent_named line.value)) (before_first is_agent lines) (groups_of lines)
    else groups_of lines

-- the group names the agent, in whatever case (§2.2.1)
abbrev pub names : List ℕ → Group → Bool
names agent g = list_any (same_name agent) g.agents

-- all groups that name the agent, or, where none does, all that name `*` (§2.2.1)
abbrev pub groups_for : List ℕ → List Group → List Group
groups_for agent groups = if list_any (names agent) groups then filter (names agent) groups else filter (names all_agents) groups

-- what a robots file says to an agent: the rules of its groups in order, and their first delay
pub record AgentRules : Type 0 where
  pub rules : List Rule
  pub delay : Option ℕ

-- what these groups say
abbrev pub said_by : List Group → AgentRules
said_by groups = record { rules = flat_map (λ g. g.rules) groups; delay = slice_get (flat_map (λ g. g.delays) groups) 0 }

-- what a text says to an agent. It unfolds only where a proof asks for it.
unfoldable pub agent_rules : List ℕ → List ℕ → AgentRules
agent_rules text agent = said_by (groups_for agent (groups_of (map line_of (lines_of text))))
