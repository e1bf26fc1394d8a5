-- What is kept after each kind of event says what the history says.
use Rattle.std.proofs.Common.{◌≡◌, ℕ, ◌+◌, ◌≤◌, max, Bool, true, false, ◌==◌, List, [], ◌∷◌, ◌++◌, length, refl, sym, ◌∙◌, ap, subst, Option, Some, None, add-zero, arith}
use Rattle.std.specs.Prelude.{find, option_map, filter_map, IfSome, Result, Ok, Err, OnErr, if◌then◌else◌}
use Rattle.std.specs.List.{list_any, cons_option, AllByRecursion}
use Rattle.std.specs.Option.{option_or}
use Rattle.std.proofs.lemmas.Bool.Decides.{Decides-eqb}
use Rattle.std.proofs.lemmas.List.Elements.{filter_map-append}
use Rattle.crawl_kinds.specs.declared.event.Event.{Event}
use Rattle.crawl_kinds.specs.declared.event.Event.TheVariants.{Session, Seeds, Emit, Finish}
use Rattle.crawl_kinds.specs.declared.event.End.{End}
use Rattle.crawl_kinds.specs.declared.item.Item.{Item}
use Rattle.crawl_kinds.specs.Event.{adds_of, time_of, session_of, Emission}
use Rattle.crawl_history.specs.Scans.{last_of, first_of}
use Rattle.crawl_history.specs.History.{History, with_event, ticket_count, last_time}
use Rattle.crawl_history.specs.Places.{place_of, has_key, is_waiting}
use Rattle.crawl_history.specs.Queues.{Add, all_adds, ordinal_count}
use Rattle.crawl_history.specs.Tickets.{emits_out, emit_out}
use Rattle.history_steps.proofs.Placing.{ordinal_count-with_event}
use Rattle.history_steps.proofs.Sessions.{ticket_count-with_event, last_time-with_event}
use Rattle.frontier_memo.specs.declared.known.Known.{Known}
use Rattle.frontier_memo.specs.declared.known.Known.TheVariants as known
use Rattle.frontier_memo.specs.declared.memo.Memo.{Memo}
use Rattle.frontier_memo.specs.declared.session.Out.{Out}
use Rattle.frontier_memo.specs.Fits.{item_at, last_added, AddsFit, EmitFits, FinishFits, Fits}
use Rattle.frontier_memo.specs.Keeping.{known_at, place_by, waiting_by, waits_by, add_at, after_adds, after_finish, are_free}
use Rattle.frontier_memo.specs.Memory.{last_add, Tells, emission, RemembersSession, RemembersCounts, Remembers}
use Rattle.frontier_memo.specs.Sums.{first_session}
use Rattle.frontier_memo.specs.Taking.{MayEmit, MayFinish, Takes, item_under}
use Rattle.frontier_memo.proofs.CountSteps.{uncounted}
use Rattle.frontier_memo.proofs.Lists.{find-map, any-map, found}
use Rattle.frontier_memo.proofs.Outs.{outs_after}
use Rattle.frontier_memo.proofs.SessionSteps.{seeded}
use Rattle.frontier_memo.proofs.Telling.{IsSettled, told, unfinished, finished, adds_fit, adds_unfit, waits_by-place}

-- an event that adds nothing adds nothing that waits
no_adds : (h : History) (e : Event) → adds_of e ≡ [] → AddsFit h e
no_adds h e none [] later item split = cc
no_adds h e none (x ∷ earlier) later item split = cc

-- the times
timed : (h : History) (e : Event) (old new time : ℕ) → old ≡ last_time h → new ≡ max old time → time_of e ≡ time → new ≡ last_time (with_event h e)
timed h e old new time is later at =
    later ∙ ap (λ t. max t time) is ∙ ap (λ t. max (last_time h) t) (sym at) ∙ sym (last_time-with_event h e)

-- the first of all, with one more
first_of-append : {X : Type 0} (xs ys : List X) → first_of (xs ++ ys) ≡ option_or (first_of xs) (first_of ys)
first_of-append [] ys = refl
first_of-append (x ∷ xs) ys = refl

first_session-with_event : (h : History) (e : Event) → first_session (with_event h e) ≡ option_or (first_session h) (session_of e)
first_session-with_event h e = by_base (h.base.events == 0)
  where
    only : {X : Type 0} (o : Option X) → first_of (cons_option o []) ≡ o
    only None = refl
    only (Some x) = refl

    by_base :
        (b : Bool) → (if b then first_of (filter_map session_of (h.events ++ e ∷ [])) else Some h.base.first)
        ≡ option_or (if b then first_of (filter_map session_of h.events) else Some h.base.first) (session_of e)
    by_base false = refl
    by_base true =
        ap first_of (filter_map-append session_of h.events (e ∷ []))
        ∙ first_of-append (filter_map session_of h.events) (filter_map session_of (e ∷ []))
        ∙ ap (option_or (first_of (filter_map session_of h.events))) (only (session_of e))

option_or-none : {X : Type 0} (o : Option X) → option_or o None ≡ o
option_or-none None = refl
option_or-none (Some x) = refl

-- an event that is no session leaves the first one
first_still : (h : History) (e : Event) (first : Option ℕ) → session_of e ≡ None → first ≡ first_session h → first ≡ first_session (with_event h e)
first_still h e first none is =
    is ∙ sym (option_or-none (first_session h)) ∙ ap (option_or (first_session h)) (sym none) ∙ sym (first_session-with_event h e)

-- where each key is kept as before, all is remembered as before
kept_still :
    (h : History) (old new : Memo) → Remembers h old → ((key : List ℕ) → known_at new.places key ≡ known_at old.places key)
    → new.ordinals ≡ old.ordinals → new.tickets ≡ old.tickets → new.time ≡ old.time → new.first ≡ old.first
    → RemembersSession h new.session → RemembersCounts h new.counts → Remembers h new
kept_still h old new is same ordinals tickets time first session counts =
    record {
      places = λ key. subst (Tells h key) (sym (same key)) (is.places key);
      ordinals = ordinals ∙ is.ordinals;
      tickets = tickets ∙ is.tickets;
      time = time ∙ is.time;
      first = first ∙ is.first;
      session = session;
      counts = counts;
      outs = is.outs;
    }

-- also after an error
pub kept_on_err :
    {X E : Type 0} (r : Result X E) (old new : Memo) → ((key : List ℕ) → known_at new.places key ≡ known_at old.places key)
    → new.ordinals ≡ old.ordinals → new.tickets ≡ old.tickets → new.time ≡ old.time → new.first ≡ old.first
    → ((h : History) → RemembersSession h old.session → RemembersSession h new.session)
    → ((h : History) → RemembersCounts h old.counts → RemembersCounts h new.counts)
    → OnErr r ((h : History) → Remembers h old → Remembers h new)
kept_on_err (Ok x) old new same ordinals tickets time first session counts = tt
kept_on_err (Err e) old new same ordinals tickets time first session counts =
    λ h is. kept_still h old new is same ordinals tickets time first (session h is.session) (counts h is.counts)

-- ---- a session

pub session_taken :
    (h : History) (old new : Memo) (time : ℕ) (job : List ℕ) (format : ℕ) → Remembers h old
    → new.places ≡ old.places → new.ordinals ≡ old.ordinals → new.tickets ≡ old.tickets → new.time ≡ max old.time time → new.first ≡ option_or old.first (Some time)
    → RemembersSession (with_event h (Session time job format)) new.session → new.counts ≡ old.counts
    → Takes h (Session time job format) new true
session_taken h old new time job format is places ordinals tickets later first session counts =
    let e : Event = Session time job format in
    let stands : Fits h e = record { kind = tt; adds = no_adds h e refl } in (
      stands,
      record {
        places = λ key. subst (λ m. Tells (with_event h e) key (known_at m key)) (sym places) (told h e key _ (unfinished h e key _ refl (is.places key)));
        ordinals = ordinals ∙ is.ordinals ∙ sym (ordinal_count-with_event h e ∙ add-zero (ordinal_count h));
        tickets = tickets ∙ is.tickets ∙ sym (ticket_count-with_event h e ∙ add-zero (ticket_count h));
        time = timed h e old.time new.time time is.time later refl;
        first = first ∙ ap (λ o. option_or o (Some time)) is.first ∙ sym (first_session-with_event h e);
        session = session;
        counts = subst (RemembersCounts (with_event h e)) (sym counts) (uncounted h e old.counts refl is.counts);
        outs = outs_after h e stands is.outs;
      },
    )

-- ---- seeds

module _ (h : History) (old : Memo) (time : ℕ) (list : List (List ℕ)) (adds : List Item) (is : Remembers h old) where
  abbrev seeds : Event
  seeds = Seeds time list adds

  seeds_settled : (key : List ℕ) → IsSettled h seeds key (known_at old.places key)
  seeds_settled key = unfinished h seeds key _ refl (is.places key)

  -- all adds were free
  pub seeds_taken :
      (new : Memo) → are_free (λ key. waits_by (known_at old.places key)) [] adds ≡ true
      → ((key : List ℕ) → known_at new.places key ≡ after_adds old.ordinals adds key (known_at old.places key))
      → new.ordinals ≡ old.ordinals + length adds → new.tickets ≡ old.tickets → new.time ≡ max old.time time
      → new.first ≡ old.first → new.session ≡ old.session → new.counts ≡ old.counts
      → Takes h (Seeds time list adds) new true
  seeds_taken new free added ordinals tickets later first session counts =
      let stands : Fits h seeds = record { kind = tt; adds = adds_fit h seeds (known_at old.places) seeds_settled free } in (
        stands,
        record {
          places = λ key. subst (Tells (with_event h seeds) key)
              (sym (added key ∙ ap (λ n. after_adds n adds key (known_at old.places key)) is.ordinals))
              (told h seeds key (known_at old.places key) (seeds_settled key));
          ordinals = ordinals ∙ ap (λ n. n + length adds) is.ordinals ∙ sym (ordinal_count-with_event h seeds);
          tickets = tickets ∙ is.tickets ∙ sym (ticket_count-with_event h seeds ∙ add-zero (ticket_count h));
          time = timed h seeds old.time new.time time is.time later refl;
          first = first_still h seeds new.first refl (first ∙ is.first);
          session = subst (RemembersSession (with_event h seeds)) (sym session) (seeded h old.session time list adds is.session);
          counts = subst (RemembersCounts (with_event h seeds)) (sym counts) (uncounted h seeds old.counts refl is.counts);
          outs = outs_after h seeds stands is.outs;
        },
      )

  -- one was not
  pub seeds_refused : (new : Memo) → are_free (λ key. waits_by (known_at old.places key)) [] adds ≡ false → Takes h (Seeds time list adds) new false
  seeds_refused new free = λ fits. adds_unfit h seeds (known_at old.places) seeds_settled free fits.adds

-- ---- an emit

-- the item of the last add
last_added-last_add : (h : History) (key : List ℕ) → last_added h key ≡ option_map (λ a. a.item) (last_add h key)
last_added-last_add h key = by_adds (all_adds h)
  where
    mapped : (o p : Option Add) → option_or (option_map (λ a. a.item) o) (option_map (λ a. a.item) p) ≡ option_map (λ a. a.item) (option_or o p)
    mapped None p = refl
    mapped (Some x) p = refl

    by_key : (b : Bool) (a : Add) → (if b then Some a.item else None) ≡ option_map (λ a. a.item) (if b then Some a else None)
    by_key true a = refl
    by_key false a = refl

    by_adds : (adds : List Add) → last_of (λ a. item_at key a.item) adds ≡ option_map (λ a. a.item) (last_of (add_at key) adds)
    by_adds [] = refl
    by_adds (a ∷ adds) =
        ap (λ o. option_or o (item_at key a.item)) (by_adds adds)
        ∙ ap (option_or (option_map (λ a. a.item) (last_of (add_at key) adds))) (by_key (has_key key a.item) a)
        ∙ mapped (last_of (add_at key) adds) (add_at key a)

-- the item of what waits is the one with which the key was last added
pub item_kept : (h : History) (key : List ℕ) (kept : Option Known) → Tells h key kept → IfSome (waiting_by kept) (λ w. last_added h key ≡ Some w.item)
item_kept h key None tells = tt
item_kept h key (Some (known.Done code)) tells = tt
item_kept h key (Some (known.Waits w)) tells = last_added-last_add h key ∙ ap (option_map (λ a. a.item)) tells.waiting.add

-- what is kept of a key that waits, and was last added with this item
kept_item :
    (h : History) (key : List ℕ) (item : Item) (kept : Option Known) → Tells h key kept → is_waiting (place_of h key) ≡ true → last_added h key ≡ Some item
    → option_map (λ w. w.item) (waiting_by kept) ≡ Some item
kept_item h key item None tells waits added = let said : is_waiting (place_by None) ≡ true = ap is_waiting tells.place ∙ waits in cc
kept_item h key item (Some (known.Done code)) tells waits added =
    let said : is_waiting (place_by (Some (known.Done code))) ≡ true = ap is_waiting tells.place ∙ waits in cc
kept_item h key item (Some (known.Waits w)) tells waits added = sym (item_kept h key (Some (known.Waits w)) tells) ∙ added

-- and the other way round
waits_with :
    (h : History) (key : List ℕ) (item : Item) (kept : Option Known) → Tells h key kept → option_map (λ w. w.item) (waiting_by kept) ≡ Some item
    → (is_waiting (place_of h key) ≡ true) × (last_added h key ≡ Some item)
waits_with h key item None tells is = cc
waits_with h key item (Some (known.Done code)) tells is = cc
waits_with h key item (Some (known.Waits w)) tells is = (ap is_waiting (sym tells.place), item_kept h key (Some (known.Waits w)) tells ∙ is)

-- by what is kept, an emit may stand just where it may by the history
pub emit_may : (h : History) (memo : Memo) (ticket : ℕ) (item : Item) → Remembers h memo → MayEmit memo ticket item → EmitFits h ticket item
emit_may h memo ticket item is may =
    let waits = waits_with h item.key item (known_at memo.places item.key) (is.places item.key) may.waits in
    record {
      next = may.next ∙ ap (λ n. n + 1) is.tickets;
      waits = waits.0;
      added = waits.1;
      idle = ap (list_any (λ m. has_key item.key m.item)) (sym is.session.out) ∙ any-map emission (λ m. has_key item.key m.item) memo.session.out.items ∙ may.idle;
    }

pub may_emit : (h : History) (memo : Memo) (ticket : ℕ) (item : Item) → Remembers h memo → EmitFits h ticket item → MayEmit memo ticket item
may_emit h memo ticket item is fits =
    record {
      next = fits.next ∙ ap (λ n. n + 1) (sym is.tickets);
      waits = kept_item h item.key item (known_at memo.places item.key) (is.places item.key) fits.waits fits.added;
      idle = sym (any-map emission (λ m. has_key item.key m.item) memo.session.out.items) ∙ ap (list_any (λ m. has_key item.key m.item)) is.session.out ∙ fits.idle;
    }

pub emit_taken :
    (h : History) (old new : Memo) (one : Out) → Remembers h old → MayEmit old one.ticket one.item
    → new.places ≡ old.places → new.ordinals ≡ old.ordinals → new.tickets ≡ one.ticket → new.time ≡ max old.time one.time → new.first ≡ old.first
    → (RemembersSession h old.session → one.ticket ≡ ticket_count h + 1 → RemembersSession (with_event h (Emit one.time one.caller one.ticket one.verdict one.item)) new.session)
    → new.counts ≡ old.counts
    → Takes h (Emit one.time one.caller one.ticket one.verdict one.item) new true
emit_taken h old new one is may places ordinals tickets later first session counts =
    let e : Event = Emit one.time one.caller one.ticket one.verdict one.item in
    let may = emit_may h old one.ticket one.item is may in
    let stands : Fits h e = record { kind = may; adds = no_adds h e refl } in (
      stands,
      record {
        places = λ key. subst (λ m. Tells (with_event h e) key (known_at m key)) (sym places) (told h e key _ (unfinished h e key _ refl (is.places key)));
        ordinals = ordinals ∙ is.ordinals ∙ sym (ordinal_count-with_event h e ∙ add-zero (ordinal_count h));
        tickets = tickets ∙ may.next ∙ sym (ticket_count-with_event h e);
        time = timed h e old.time new.time one.time is.time later refl;
        first = first_still h e new.first refl (first ∙ is.first);
        session = session is.session may.next;
        counts = subst (RemembersCounts (with_event h e)) (sym counts) (uncounted h e old.counts refl is.counts);
        outs = outs_after h e stands is.outs;
      },
    )

-- ---- a finish

-- by what is kept, the item of a ticket that is out
item_out : (h : History) (memo : Memo) (ticket : ℕ) → Remembers h memo → option_map (λ m. m.item) (emit_out h ticket) ≡ item_under ticket memo.session.out.items
unfolding item_under
item_out h memo ticket is =
    ap (λ ms. option_map (λ m. m.item) (find (λ m. m.ticket == ticket) ms)) (sym is.session.out)
    ∙ ap (option_map (λ m. m.item)) (find-map emission (λ m. m.ticket == ticket) memo.session.out.items)
    ∙ by_found (find (λ o. o.ticket == ticket) memo.session.out.items)
  where
    by_found : (o : Option Out) → option_map (λ m. m.item) (option_map emission o) ≡ option_map (λ o. o.item) o
    by_found None = refl
    by_found (Some out) = refl

pub finish_may : (h : History) (memo : Memo) (ticket : ℕ) (item : Item) → Remembers h memo → MayFinish memo ticket item → FinishFits h ticket item
finish_may h memo ticket item is may =
    let tells : Tells h item.key (known_at memo.places item.key) = is.places item.key in
    record {
      out = item_out h memo ticket is ∙ may.out;
      waits = ap is_waiting (sym tells.place) ∙ waits_by-place (known_at memo.places item.key) ∙ may.waits;
    }

pub may_finish : (h : History) (memo : Memo) (ticket : ℕ) (item : Item) → Remembers h memo → FinishFits h ticket item → MayFinish memo ticket item
may_finish h memo ticket item is fits =
    let tells : Tells h item.key (known_at memo.places item.key) = is.places item.key in
    record {
      out = sym (item_out h memo ticket is) ∙ fits.out;
      waits = sym (waits_by-place (known_at memo.places item.key)) ∙ ap is_waiting tells.place ∙ fits.waits;
    }

-- a ticket that is out was given
out_given : (h : History) (ticket : ℕ) (item : Item) → AllByRecursion (λ m. m.ticket ≤ ticket_count h) (emits_out h) → option_map (λ m. m.item) (emit_out h ticket) ≡ Some item → ticket ≤ ticket_count h
out_given h ticket item given out = by_found (emit_out h ticket) refl out
  where
    by_found : (o : Option Emission) → emit_out h ticket ≡ o → option_map (λ m. m.item) o ≡ Some item → ticket ≤ ticket_count h
    by_found None is out = cc
    by_found (Some m) is out =
        let pair = found (λ m. m.ticket ≤ ticket_count h) (λ m. m.ticket == ticket) (emits_out h) m given is in
        let same : m.ticket ≡ ticket = (Decides-eqb m.ticket ticket).0 pair.1 in omega (arith, pair.0, same)

module _ (h : History) (old : Memo) (time caller ticket : ℕ) (item : Item) (end : End) (adds : List Item) (is : Remembers h old) (may : MayFinish old ticket item) where
  abbrev finish : Event
  finish = Finish time caller ticket item end adds

  may_end : FinishFits h ticket item
  may_end = finish_may h old ticket item is may

  finish_settled : (key : List ℕ) → IsSettled h finish key (after_finish item end key (known_at old.places key))
  finish_settled key =
      let both = finished h item end key (known_at old.places key) may_end.waits (is.places key) in
      record { place = both.0; waiting = both.1 }

  -- all adds were free
  pub finish_taken :
      (new : Memo) → are_free (λ key. waits_by (after_finish item end key (known_at old.places key))) [] adds ≡ true
      → ((key : List ℕ) → known_at new.places key ≡ after_adds old.ordinals adds key (after_finish item end key (known_at old.places key)))
      → new.ordinals ≡ old.ordinals + length adds → new.tickets ≡ old.tickets → new.time ≡ max old.time time → new.first ≡ old.first
      → (ticket ≤ ticket_count h → RemembersSession (with_event h (Finish time caller ticket item end adds)) new.session)
      → RemembersCounts (with_event h (Finish time caller ticket item end adds)) new.counts
      → Takes h (Finish time caller ticket item end adds) new true
  finish_taken new free added ordinals tickets later first session counts =
      let stands : Fits h finish = record { kind = may_end; adds = adds_fit h finish (λ key. after_finish item end key (known_at old.places key)) finish_settled free } in (
        stands,
        record {
          places = λ key. subst (Tells (with_event h finish) key)
              (sym (added key ∙ ap (λ n. after_adds n adds key (after_finish item end key (known_at old.places key))) is.ordinals))
              (told h finish key (after_finish item end key (known_at old.places key)) (finish_settled key));
          ordinals = ordinals ∙ ap (λ n. n + length adds) is.ordinals ∙ sym (ordinal_count-with_event h finish);
          tickets = tickets ∙ is.tickets ∙ sym (ticket_count-with_event h finish ∙ add-zero (ticket_count h));
          time = timed h finish old.time new.time time is.time later refl;
          first = first_still h finish new.first refl (first ∙ is.first);
          session = session (out_given h ticket item is.session.given may_end.out);
          counts = counts;
          outs = outs_after h finish stands is.outs;
        },
      )

  -- one was not
  pub finish_refused : (new : Memo) → are_free (λ key. waits_by (after_finish item end key (known_at old.places key))) [] adds ≡ false → Takes h (Finish time caller ticket item end adds) new false
  finish_refused new free = λ other. adds_unfit h finish (λ key. after_finish item end key (known_at old.places key)) finish_settled free other.adds
