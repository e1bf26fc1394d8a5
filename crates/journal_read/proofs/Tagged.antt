-- What stands behind a tag is that of one kind of line.
use Rattle.std.proofs.Common.{◌≡◌, ◌≢◌, ℕ, ◌≤◌, eqb, cond, List, [], ◌∷◌, ◌++◌, length, get_or, drop, Option, Some, None, Err, refl, sym, ap, subst, ◌∙◌, arith, append-nil}
use Rattle.std.specs.Prelude.{codes, decimal, IfSome}
use Rattle.std.specs.List.{join_with_byte}
use Rattle.std.proofs.lemmas.List.Splits.{join_with_byte-slice_split}
use Rattle.crawl_kinds.specs.declared.event.Outcome.{Outcome}
use Rattle.crawl_kinds.specs.declared.event.Outcome.TheVariants.{Success, Failure, Disregard, Retry}
use Rattle.crawl_kinds.specs.declared.event.Body.{Body}
use Rattle.crawl_kinds.specs.declared.item.Item.{Item}
use Rattle.journal_spec.specs.Fields.{body_fields, end_fields, item_fields, notes_field, outcome_tag, ticket_fields, verdict_field}
use Rattle.journal_valid.specs.Ends.{IsEnd}
use Rattle.journal_valid.specs.Items.{IsAdd, IsAddress, IsItem, robots_redirects}
use Rattle.journal_valid.specs.Valid.{IsSession, IsTicket}
use Rattle.crawl_kinds.specs.declared.event.TheConstants.{MAX_MS}
use Rattle.journal_read.specs.declared.fault.Misread.{Misread}
use Rattle.journal_read.specs.declared.fault.Misread.TheVariants.{Bad, NoMemory}
use Rattle.journal_read.specs.declared.fields.Ticket.{Ticket}
use Rattle.journal_read.specs.declared.line.Line.{Line}
use Rattle.journal_read.specs.declared.line.Line.TheVariants.{Session, Seeds, Seed, Add, Emit, Finish}
use Rattle.journal_read.specs.declared.read_line.Opening.{Opening}
use Rattle.journal_read.specs.declared.read_line.Emission.{Emission}
use Rattle.journal_read.specs.declared.read_line.Finishing.{Finishing}
use Rattle.journal_read.specs.Lines.{IsLineOf, IsTagged, fields_of, rest_of, tag_of}
use Rattle.journal_read.specs.Reading.{Takes, cells}
use Rattle.journal_read.proofs.Same.{at, item_same}
use Rattle.journal_read.proofs.LineLaws.{line_cells}

-- where the fields of what is meant begin with those of another value, it is not read where that is not read
pub takes_less : {X Y : Type 0} (f : X → List (List ℕ)) (is : X → Type 0) (g : Y → List (List ℕ)) (js : Y → Type 0) (early old new new' : List (List ℕ)) (fault : Misread) → ((y : Y) (rest : List (List ℕ)) → js y → early ≡ g y ++ rest → (x : X) × (more : List (List ℕ)) × is x × (old ≡ f x ++ more)) → Takes f is old new (Err fault) → Takes g js early new' (Err fault)
takes_less f is g js early old new new' Bad to h = λ y rest j e. let t = to y rest j e in h t.0 t.1 t.2 t.3
takes_less f is g js early old new new' NoMemory to h = tt

abbrev first : List ℕ → ℕ
first tag = get_or tag 0 0

abbrev second : List ℕ → ℕ
second tag = get_or tag 1 0

ending : (o : Outcome) → (first (outcome_tag o) ≡ 70) × (100 ≤ second (outcome_tag o)) × (second (outcome_tag o) ≡ 101 → ⊥)
ending Success = (refl, omega arith, λ e. omega (arith, e))
ending Failure = (refl, omega arith, λ e. omega (arith, e))
ending Disregard = (refl, omega arith, λ e. omega (arith, e))
ending Retry = (refl, omega arith, λ e. omega (arith, e))

-- tags that differ in a byte
apart : {P : Type 0} (a b : List ℕ) → (first a ≢ first b) → a ≡ b → P
apart a b differ e = absurd (differ (ap first e))

apart_behind : {P : Type 0} (a b : List ℕ) → (second a ≢ second b) → a ≡ b → P
apart_behind a b differ e = absurd (differ (ap second e))

-- the outcome that a tag's second byte tells
outcome_at : ℕ → Outcome
outcome_at n = cond (eqb n 115) Success (cond (eqb n 102) Failure (cond (eqb n 100) Disregard Retry))

outcome_back : (o : Outcome) → outcome_at (second (outcome_tag o)) ≡ o
unfolding outcome_at
outcome_back Success = refl
outcome_back Failure = refl
outcome_back Disregard = refl
outcome_back Retry = refl

outcome_same : (o p : Outcome) → outcome_tag o ≡ outcome_tag p → o ≡ p
outcome_same o p e = sym (outcome_back o) ∙ (ap (λ (t : List ℕ). outcome_at (second t)) e ∙ outcome_back p)

abbrev opening_fields : Opening → List (List ℕ)
opening_fields o = decimal o.time ∷ o.job ∷ decimal o.format ∷ []

abbrev IsOpening : Opening → Type 0
IsOpening o = (o.time ≤ MAX_MS) × IsSession o.job o.format

session_to : (old : List (List ℕ)) (l : Line) (rest : List (List ℕ)) → IsTagged (codes "S+") l → old ≡ rest_of l ++ rest → (x : Opening) × (more : List (List ℕ)) × IsOpening x × (old ≡ opening_fields x ++ more)
session_to old (Session time job format) rest is e = (record { time = time; job = job; format = format }, rest, is.0, e)
session_to old (Seeds time) rest is e = apart_behind (codes "S+") (codes "S*") (λ n. omega (arith, n)) is.1
session_to old (Seed uri) rest is e = apart_behind (codes "S+") (codes "Sd") (λ n. omega (arith, n)) is.1
session_to old (Add item) rest is e = apart (codes "S+") (codes "F+") (λ n. omega (arith, n)) is.1
session_to old (Emit time caller ticket verdict item) rest is e = apart (codes "S+") (codes "Fe") (λ n. omega (arith, n)) is.1
session_to old (Finish time caller ticket item end) rest is e = apart (codes "S+") (outcome_tag end.outcome) (λ n. omega (arith, n, (ending end.outcome).0)) is.1

pub session_out : (old new : List (List ℕ)) (fault : Misread) → Takes opening_fields IsOpening old new (Err fault) → Takes rest_of (IsTagged (codes "S+")) old new (Err fault)
session_out old new fault h = takes_less opening_fields IsOpening rest_of (IsTagged (codes "S+")) old old new new fault (session_to old) h

seed_to : (old : List (List ℕ)) (l : Line) (rest : List (List ℕ)) → IsTagged (codes "Sd") l → old ≡ rest_of l ++ rest → (x : List ℕ) × (more : List (List ℕ)) × IsAddress x × (old ≡ (x ∷ []) ++ more)
seed_to old (Session time job format) rest is e = apart_behind (codes "Sd") (codes "S+") (λ n. omega (arith, n)) is.1
seed_to old (Seeds time) rest is e = apart_behind (codes "Sd") (codes "S*") (λ n. omega (arith, n)) is.1
seed_to old (Seed uri) rest is e = (uri, rest, is.0, e)
seed_to old (Add item) rest is e = apart (codes "Sd") (codes "F+") (λ n. omega (arith, n)) is.1
seed_to old (Emit time caller ticket verdict item) rest is e = apart (codes "Sd") (codes "Fe") (λ n. omega (arith, n)) is.1
seed_to old (Finish time caller ticket item end) rest is e = apart (codes "Sd") (outcome_tag end.outcome) (λ n. omega (arith, n, (ending end.outcome).0)) is.1

pub seed_out : (old new : List (List ℕ)) (fault : Misread) → Takes (λ (uri : List ℕ). uri ∷ []) IsAddress old new (Err fault) → Takes rest_of (IsTagged (codes "Sd")) old new (Err fault)
seed_out old new fault h = takes_less (λ (uri : List ℕ). uri ∷ []) IsAddress rest_of (IsTagged (codes "Sd")) old old new new fault (seed_to old) h

add_to : (old : List (List ℕ)) (l : Line) (rest : List (List ℕ)) → IsTagged (codes "F+") l → old ≡ rest_of l ++ rest → (x : Item) × (more : List (List ℕ)) × IsAdd x × (old ≡ item_fields x ++ more)
add_to old (Session time job format) rest is e = apart (codes "F+") (codes "S+") (λ n. omega (arith, n)) is.1
add_to old (Seeds time) rest is e = apart (codes "F+") (codes "S*") (λ n. omega (arith, n)) is.1
add_to old (Seed uri) rest is e = apart (codes "F+") (codes "Sd") (λ n. omega (arith, n)) is.1
add_to old (Add item) rest is e = (item, rest, is.0, e)
add_to old (Emit time caller ticket verdict item) rest is e = apart_behind (codes "F+") (codes "Fe") (λ n. omega (arith, n)) is.1
add_to old (Finish time caller ticket item end) rest is e = apart_behind (codes "F+") (outcome_tag end.outcome) (λ n. omega (arith, n, (ending end.outcome).1)) is.1

pub add_out : (old new : List (List ℕ)) (fault : Misread) → Takes item_fields IsAdd old new (Err fault) → Takes rest_of (IsTagged (codes "F+")) old new (Err fault)
add_out old new fault h = takes_less item_fields IsAdd rest_of (IsTagged (codes "F+")) old old new new fault (add_to old) h

abbrev emission_fields : Emission → List (List ℕ)
emission_fields e = item_fields e.item ++ ticket_fields e.ticket.time e.ticket.caller e.ticket.ticket ++ verdict_field e.verdict ∷ []

abbrev IsEmission : Emission → Type 0
IsEmission e = IsTicket e.ticket.time e.ticket.caller e.ticket.ticket × IsItem e.item

emit_to : (old : List (List ℕ)) (l : Line) (rest : List (List ℕ)) → IsTagged (codes "Fe") l → old ≡ rest_of l ++ rest → (x : Emission) × (more : List (List ℕ)) × IsEmission x × (old ≡ emission_fields x ++ more)
emit_to old (Session time job format) rest is e = apart (codes "Fe") (codes "S+") (λ n. omega (arith, n)) is.1
emit_to old (Seeds time) rest is e = apart (codes "Fe") (codes "S*") (λ n. omega (arith, n)) is.1
emit_to old (Seed uri) rest is e = apart (codes "Fe") (codes "Sd") (λ n. omega (arith, n)) is.1
emit_to old (Add item) rest is e = apart_behind (codes "Fe") (codes "F+") (λ n. omega (arith, n)) is.1
emit_to old (Emit time caller ticket verdict item) rest is e =
    (record { item = item; ticket = record { time = time; caller = caller; ticket = ticket }; verdict = verdict }, rest, is.0, e)
emit_to old (Finish time caller ticket item end) rest is e = absurd ((ending end.outcome).2 (sym (ap second is.1)))

pub emit_out : (old new : List (List ℕ)) (fault : Misread) → Takes emission_fields IsEmission old new (Err fault) → Takes rest_of (IsTagged (codes "Fe")) old new (Err fault)
emit_out old new fault h = takes_less emission_fields IsEmission rest_of (IsTagged (codes "Fe")) old old new new fault (emit_to old) h

abbrev finishing_fields : Finishing → List (List ℕ)
finishing_fields f = item_fields f.item ++ ticket_fields f.ticket.time f.ticket.caller f.ticket.ticket ++ end_fields f.end

abbrev IsFinishing : Outcome → Finishing → Type 0
IsFinishing outcome f = IsTicket f.ticket.time f.ticket.caller f.ticket.ticket × IsItem f.item × IsEnd f.end × (f.end.outcome ≡ outcome)

finish_to : (outcome : Outcome) (old : List (List ℕ)) (l : Line) (rest : List (List ℕ)) → IsTagged (outcome_tag outcome) l → old ≡ rest_of l ++ rest → (x : Finishing) × (more : List (List ℕ)) × IsFinishing outcome x × (old ≡ finishing_fields x ++ more)
finish_to o old (Session time job format) rest is e = apart (outcome_tag o) (codes "S+") (λ n. omega (arith, n, (ending o).0)) is.1
finish_to o old (Seeds time) rest is e = apart (outcome_tag o) (codes "S*") (λ n. omega (arith, n, (ending o).0)) is.1
finish_to o old (Seed uri) rest is e = apart (outcome_tag o) (codes "Sd") (λ n. omega (arith, n, (ending o).0)) is.1
finish_to o old (Add item) rest is e = apart_behind (outcome_tag o) (codes "F+") (λ n. omega (arith, n, (ending o).1)) is.1
finish_to o old (Emit time caller ticket verdict item) rest is e = absurd ((ending o).2 (ap second is.1))
finish_to o old (Finish time caller ticket item end) rest is e =
    (record { item = item; ticket = record { time = time; caller = caller; ticket = ticket }; end = end }, rest, (is.0.0, is.0.1, is.0.2, outcome_same end.outcome o (sym is.1)), e)

pub finish_out : (outcome : Outcome) (old new : List (List ℕ)) (fault : Misread) → Takes finishing_fields (IsFinishing outcome) old new (Err fault) → Takes rest_of (IsTagged (outcome_tag outcome)) old new (Err fault)
finish_out o old new fault h = takes_less finishing_fields (IsFinishing o) rest_of (IsTagged (outcome_tag o)) old old new new fault (finish_to o old) h

-- an item that may not be added, in the place of one that may
pub no_add : (old new : List (List ℕ)) (item : Item) (n : ℕ) → IsItem item → old ≡ item_fields item ++ new → Some n ≡ robots_redirects item.path → 6 ≤ n → (x : Item) (rest : List (List ℕ)) → IsAdd x → old ≡ item_fields x ++ rest → ⊥
no_add old new item n is e some above x rest add f =
    let both : item_fields item ++ new ≡ item_fields x ++ rest = sym e ∙ f in
    let one = item_same item x is add.named (ap (at 0) both) (ap (at 1) both) (ap (at 2) both) in
    let count : robots_redirects x.path ≡ Some n = sym (some ∙ ap (λ (i : Item). robots_redirects i.path) one) in
    let few : n ≤ 5 = subst (λ (o : Option ℕ). IfSome o (λ (j : ℕ). j ≤ 5)) count add.redirects in
    omega arith

pub emission_no_item : (old new new' : List (List ℕ)) (fault : Misread) → Takes item_fields IsItem old new (Err fault) → Takes emission_fields IsEmission old new' (Err fault)
emission_no_item old new new' fault h =
    takes_less item_fields IsItem emission_fields IsEmission old old new new' fault (λ y rest is e. (y.item, ticket_fields y.ticket.time y.ticket.caller y.ticket.ticket ++ verdict_field y.verdict ∷ rest, is.1, e)) h

abbrev ticket_of : Ticket → List (List ℕ)
ticket_of t = ticket_fields t.time t.caller t.ticket

abbrev IsTicketOf : Ticket → Type 0
IsTicketOf t = IsTicket t.time t.caller t.ticket

pub emission_no_ticket : (old mid new new' : List (List ℕ)) (item : Item) (fault : Misread) → old ≡ item_fields item ++ mid → Takes ticket_of IsTicketOf mid new (Err fault) → Takes emission_fields IsEmission old new' (Err fault)
emission_no_ticket old mid new new' item fault a h =
    takes_less ticket_of IsTicketOf emission_fields IsEmission old mid new new' fault (λ y rest is e. (y.ticket, verdict_field y.verdict ∷ rest, is.0, ap (drop 3) (sym a ∙ e))) h

pub finishing_no_item : (o : Outcome) (old new new' : List (List ℕ)) (fault : Misread) → Takes item_fields IsItem old new (Err fault) → Takes finishing_fields (IsFinishing o) old new' (Err fault)
finishing_no_item o old new new' fault h =
    takes_less item_fields IsItem finishing_fields (IsFinishing o) old old new new' fault (λ y rest is e. (y.item, ticket_fields y.ticket.time y.ticket.caller y.ticket.ticket ++ (end_fields y.end ++ rest), is.1, e)) h

pub finishing_no_ticket : (o : Outcome) (old mid new new' : List (List ℕ)) (item : Item) (fault : Misread) → old ≡ item_fields item ++ mid → Takes ticket_of IsTicketOf mid new (Err fault) → Takes finishing_fields (IsFinishing o) old new' (Err fault)
finishing_no_ticket o old mid new new' item fault a h =
    takes_less ticket_of IsTicketOf finishing_fields (IsFinishing o) old mid new new' fault (λ y rest is e. (y.ticket, end_fields y.end ++ rest, is.0, ap (drop 3) (sym a ∙ e))) h

pub finishing_no_end : (o : Outcome) (old mid last new new' : List (List ℕ)) (item : Item) (t : Ticket) (fault : Misread) → old ≡ item_fields item ++ mid → mid ≡ ticket_of t ++ last → Takes end_fields (λ end. IsEnd end × (end.outcome ≡ o)) last new (Err fault) → Takes finishing_fields (IsFinishing o) old new' (Err fault)
finishing_no_end o old mid last new new' item t fault a b h =
    takes_less end_fields (λ end. IsEnd end × (end.outcome ≡ o)) finishing_fields (IsFinishing o) old last new new' fault
    (λ y rest is e. (y.end, rest, (is.2, is.3), ap (drop 3) (sym b ∙ ap (drop 3) (sym a ∙ e)))) h

-- how many fields stand behind a tag
count : ℕ → ℕ → ℕ
count a b = cond (eqb a 83) (cond (eqb b 43) 3 1) (cond (eqb b 43) 3 (cond (eqb b 101) 7 13))

four : (b : Option Body) (n : List ℕ) → length (body_fields b ++ n ∷ []) ≡ 5
four None n = refl
four (Some b) n = refl

count_end : (o : Outcome) → count (first (outcome_tag o)) (second (outcome_tag o)) ≡ 13
unfolding count
count_end Success = refl
count_end Failure = refl
count_end Disregard = refl
count_end Retry = refl

counted : (l : Line) → length (rest_of l) ≡ count (first (tag_of l)) (second (tag_of l))
unfolding count
counted (Session time job format) = refl
counted (Seeds time) = refl
counted (Seed uri) = refl
counted (Add item) = refl
counted (Emit time caller ticket verdict item) = refl
counted (Finish time caller ticket item end) =
    let f = four end.body (notes_field end.notes) in
    let k = count_end end.outcome in
    omega (arith, f, k)

-- lines with one tag have as many fields
pub as_many : (l m : Line) → tag_of l ≡ tag_of m → length (rest_of l) ≡ length (rest_of m)
as_many l m e = counted l ∙ (ap (λ (t : List ℕ). count (first t) (second t)) e ∙ sym (counted m))

-- the parts of a text that is a line
pub parts_of : (text tag : List ℕ) (mid : List (List ℕ)) (l : Line) → cells 32 text ≡ tag ∷ mid → IsLineOf text l → tag ∷ mid ≡ fields_of l
parts_of text tag mid l cut is = sym cut ∙ (ap (cells 32) is.1 ∙ line_cells l is.0)

pub line_read : (text tag : List ℕ) (mid new : List (List ℕ)) (l : Line) → cells 32 text ≡ tag ∷ mid → IsTagged tag l → mid ≡ rest_of l ++ new → new ≡ [] → IsLineOf text l
line_read text tag mid new l cut tagged e none =
    let mids : mid ≡ rest_of l = e ∙ (ap (λ (t : List (List ℕ)). rest_of l ++ t) none ∙ append-nil (rest_of l)) in
    let all : cells 32 text ≡ fields_of l = cut ∙ (ap (λ (t : List ℕ). t ∷ mid) tagged.1 ∙ ap (λ (t : List (List ℕ)). tag_of l ∷ t) mids) in
    (tagged.0, sym (join_with_byte-slice_split 32 text) ∙ ap (join_with_byte 32) all)
