-- What is out: each emit has a ticket, and is out until the finish of that ticket or the next session.
--     emits_out h, class_emits_out h class      the emits that are out, and those of a class
--     is_out h class      whether an emit of the class is out
--     emit_out h ticket      the emit of this ticket, where it is out
use Rattle.std.specs.Prelude.{ℕ, Bool, not, ◌==◌, List, filter, find, Option}
use Rattle.std.specs.List.{list_any}
use Rattle.crawl_kinds.specs.Event.{Emission, Finishing}
use Rattle.crawl_history.specs.History.{History, session_emits, session_finishes}
use Rattle.crawl_history.specs.Queues.{in_class}

-- whether one of these finishes has the ticket of the emit
abbrev pub is_ended : List Finishing → Emission → Bool
is_ended ends m = list_any (λ c. c.ticket == m.ticket) ends

-- the emits of this session without a finish
abbrev pub emits_out : History → List Emission
emits_out h = filter (λ m. not (is_ended (session_finishes h) m)) (session_emits h)

-- those of the class
abbrev pub class_emits_out : History → List ℕ → List Emission
class_emits_out h class = filter (λ m. in_class class m.item) (emits_out h)

-- whether an item of the class is out
abbrev pub is_out : History → List ℕ → Bool
is_out h class = list_any (λ m. in_class class m.item) (emits_out h)

-- the emit of this ticket that is out
abbrev pub emit_out : History → ℕ → Option Emission
emit_out h ticket = find (λ m. m.ticket == ticket) (emits_out h)
