-- Each step of the lock keeps its rule, and what the rule shows.
use Rattle.std.proofs.Common.{◌≡◌, ℕ, zero, suc, ◌+◌, ◌%◌, ◌^◌, ◌<◌, ◌≤◌, eqb, List, [], ◌∷◌, ◌++◌, map, get_or, set, sym, refl, ap, ◌∙◌, subst, arith, eq-eqb, ne_eqb}
use Rattle.std.proofs.Math.Nat.{mod-add-mod, mod-eq_of_lt}
use mathlib.Core.Logic.{dite}
use mathlib.Core.Option.{Option, none, some, some-injective, some-ne-none}
use mathlib.Core.List.{map-append}
use native.Mathlib.Decide.{ℕ_discrete}
use lib.ListN.{get_elem?}
use lib.Seq.{map-set}
use prog.Atomic.{either}
use Rattle.atomic_table.specs.Table.{State, Seen, Act, keeps, takes, gives, homes_after, carried_after, Valid, Allows, Splits, Joins, rest, opening}
use Rattle.atomic_table.proofs.Lists.{at_longer, at_map, set_again, set_else}
use Rattle.turn_lock.specs.declared.Doing.{Doing}
use Rattle.turn_lock.specs.declared.Stage.{Stage}
use Rattle.turn_lock.specs.declared.Stage.TheVariants.{Idle, Waiting, Holding}
use Rattle.turn_lock.specs.Turn.{client, HasTurn, HasTicket, doing, idle, Stands, NoneHasTurn, SomeHasTurn, InTurn}
use Rattle.turn_lock.specs.Plays.{Known, HasBy, Draws, Looks, Counts, Serves, Learns, Knows}
use Rattle.turn_lock.specs.Duties.{Advances, Forks, Merges, Tells, Shows, Few, Alone, Ends}
use Rattle.turn_lock.proofs.Few.{few_out, ticket_is}
use Rattle.turn_lock.proofs.Lines.{set_there, one_at, only, stay, stay_more, none_before, same_clients, line_stay, one_ticket, stands_may, holder, stands_draw, stands_count, stands_serve}

abbrev ticket_of : {S : Type 0} → Stage S → ℕ
ticket_of (Waiting t) = t
ticket_of (Holding t x) = t
ticket_of Idle = 0

abbrev noted : {S : Type 0} → S → Stage S → S
noted d (Holding t x) = x
noted d _ = d

module _ {S V : Type 0} where
  -- a pass has the turn by one ticket, with one value noted and one in the slot
  has_by_one : (me : Known S V) (t t' : ℕ) (x x' y y' : S) → HasBy t me x y → HasBy t' me x' y' → (t ≡ t') × (x ≡ x') × (y ≡ y')
  has_by_one me t t' x x' y y' h k = (ap ticket_of (sym h.0 ∙ k.0), ap (noted x) (sym h.0 ∙ k.0), ap (λ (l : List (ℕ × S)). (get_or l 0 (0, y)).1) (sym h.1 ∙ k.1))

  -- what a step on the word i shows, at the words ws
  abbrev Goes : (State S (Doing S V) → Type 0) → List (Option S) → List (Doing S V) → ℕ → ℕ → Known S V → (ℕ → ℕ) → (ℕ → Known S V → Type 0) → List ℕ → Type 0
  Goes rule homes views i id me f then ws =
      (w : Doing S V) × (a : Act S) × Valid homes me.1 a
      × rule record { words = set ws i (f (get_or ws i 0)); homes = homes_after homes me.1 a; views = set views id w }
      × then (get_or ws i 0) (w, carried_after me.1 a)

  module _ (count : S → ℕ) (may : V → Type 0) (holds : S → List V → Type 0) where
    abbrev Rule : State S (Doing S V) → Type 0
    Rule = InTurn count may holds

    -- the seat of a view that has the turn
    holds_by : (s : State S (Doing S V)) (r : Rule s) (j : ℕ) (d : Doing S V) → get_elem? s.views j ≡ some d → HasTurn d.stage → (r.who r.serving ≡ j) × may d.client
    holds_by s r j d e has = holder may r.ticket r.serving r.who r.now j d.client d.stage has (r.each j d e)

    -- where the ticket that is served is that of a seat without the turn, none has the turn
    none_has : (s : State S (Doing S V)) (r : Rule s) (id : ℕ) (me : Doing S V) → get_elem? s.views id ≡ some me → r.who r.serving ≡ id → ¬ HasTurn me.stage → NoneHasTurn s.views
    none_has s r id me at mine free j d e has =
        free (subst (λ (z : Doing S V). HasTurn z.stage) (sym (one_at s.views id j me d at e (sym (holds_by s r j d e has).0 ∙ mine))) has)

    -- the slot is out after a step of a seat that takes no turn, if some view has the turn
    out_stay : (s : State S (Doing S V)) (r : Rule s) (id : ℕ) (w : Doing S V) → ¬ HasTurn w.stage → SomeHasTurn (set s.views id w) → s.homes ≡ none ∷ []
    out_stay s r id w free some_has = stay (λ j d. HasTurn d.stage → s.homes ≡ none ∷ []) s.views id w (λ has. absurd (free has)) (λ j d _ e has. r.out (j, d, e, has))
        some_has.0 some_has.1 some_has.2 some_has.3

    unmoved : (s : State S (Doing S V)) (r : Rule s) (id : ℕ) (v : Doing S V) (ws : List ℕ) → get_elem? s.views id ≡ some v → ws ≡ s.words → Rule record { words = ws; homes = s.homes; views = set s.views id v }
    unmoved s r id v ws at e = subst (λ (z : List ℕ × List (Doing S V)). Rule record { words = z.0; homes = s.homes; views = z.1 }) (λ i. (sym e i, sym (set_again s.views id v at) i)) r

    -- at most 32 tickets are out
    bounded : (name : V → ℕ) → Few holds may name → (s : State S (Doing S V)) (r : Rule s) → r.ticket ≤ r.serving + 32
    bounded name few s r = let f = few r.now (map client s.views) r.kept in
        let caller : ℕ → ℕ = λ t. named (get_elem? s.views (r.who t)) in
        let able : (t : ℕ) (d : Doing S V) → get_elem? s.views (r.who t) ≡ some d → HasTicket t d.stage → may d.client = λ t d e has.
        stands_may may r.ticket r.serving r.who r.now (r.who t) t d.client d.stage has (r.each (r.who t) d e) in
        few_out 32 r.serving r.ticket caller r.order
        (λ t low high. let l = r.line t low high in subst (λ o. named o < 32) (sym l.1) (f.0 (r.who t) l.0.client (at_map client s.views (r.who t) l.0 l.1) (able t l.0 l.1 l.2)))
        (λ t u lt ht lu hu e. let a = r.line t lt ht in let b = r.line u lu hu in
        let same : r.who t ≡ r.who u = f.1 (r.who t) (r.who u) a.0.client b.0.client (at_map client s.views (r.who t) a.0 a.1) (at_map client s.views (r.who u) b.0 b.1)
        (able t a.0 a.1 a.2) (able u b.0 b.1 b.2) (ap named (sym a.1) ∙ e ∙ ap named b.1) in
        one_ticket t u a.0.stage a.2 (subst (λ (x : Doing S V). HasTicket u x.stage) (one_at s.views (r.who u) (r.who t) b.0 a.0 b.1 a.1 same) b.2))
      where
        named : Option (Doing S V) → ℕ
        named (some d) = name d.client
        named none = 0

    pub draws : (slots id : ℕ) (me : Known S V) → me.0.stage ≡ Idle → may me.0.client → Allows Rule slots id me 1 (λ n. (n + 1) % 2 ^ 64) (Draws me)
    draws slots id me is_idle able s r long at small = let T : ℕ = r.ticket in let c : ℕ = count r.now % 2 ^ 64 in let w : Doing S V = doing (Waiting T) me.0.client in let order : r.serving ≤ T = r.order in
        let next : ℕ → ℕ = λ k. either (eqb k T) id (r.who k) in
        subst (Goes Rule s.homes s.views 1 id me (λ n. (n + 1) % 2 ^ 64) (Draws me)) (sym r.words) (
          w,
          keeps,
          tt,
          record {
            ticket = T + 1;
            serving = r.serving;
            who = next;
            now = r.now;
            words = ap (λ n. c ∷ n ∷ r.serving % 2 ^ 64 ∷ []) (mod-add-mod T (2 ^ 64) 1);
            order = omega arith;
            line = λ t low high. dite (ℕ_discrete t T)
                (λ here. (w, ap (get_elem? (set s.views id w)) (ap (λ b. either b id (r.who t)) (eq-eqb t T here)) ∙ set_there s.views id w me.0 at, sym here))
                (λ before. let l = r.line t low (omega arith) in
                let e = line_stay s.views id me.0 w t at (λ has. absurd (subst (HasTicket t) is_idle has)) (r.who t) l.0 l.1 l.2 in
                (e.0, ap (get_elem? (set s.views id w)) (ap (λ b. either b id (r.who t)) (ne_eqb t T before)) ∙ e.1, e.2));
            each = stay (λ j d. Stands (T + 1) r.serving next r.now may j d.client d.stage) s.views id w
                (order, omega arith, ap (λ b. either b id (r.who T)) (eq-eqb T T refl), able)
                (λ j d _ e. stands_draw may T r.serving id r.who r.now j d.client d.stage (r.each j d e));
            out = out_stay s r id w (λ has. has);
            home = λ after. r.home (none_before s.views id me.0 w at (λ has. subst HasTurn is_idle has) after);
            kept = same_clients holds r.now s.views id me.0 w at refl r.kept;
          },
          (T, refl, refl),
        )

    pub looks : (name : V → ℕ) → Few holds may name → (slots id : ℕ) (me : Known S V) (t : ℕ) → me.0.stage ≡ Waiting t → me.1 ≡ [] → Allows Rule slots id me 2 (λ n. n) (Looks me)
    looks name few slots id me t waits light s r long at small = let v : ℕ = r.serving in let c : ℕ = count r.now % 2 ^ 64 in
        let known : Stands r.ticket v r.who r.now may id me.0.client (Waiting t) = subst (Stands r.ticket v r.who r.now may id me.0.client) waits (r.each id me.0 at) in
        subst (Goes Rule s.homes s.views 2 id me (λ n. n) (Looks me)) (sym r.words) (dite (ℕ_discrete (v % 2 ^ 64) (t % 2 ^ 64))
        (λ found. let hit : v ≡ t = ticket_is v r.ticket t (bounded name few s r) known.0 known.1 found in let w : Doing S V = doing (Holding t r.now) me.0.client in
        let mine : r.who v ≡ id = ap r.who hit ∙ known.2 in
        let homes : s.homes ≡ some r.now ∷ [] = r.home (none_has s r id me.0 at mine (λ has. subst HasTurn waits has)) in (
          w,
          takes 0 r.now,
          ap (λ (l : List (Option S)). get_elem? l 0) homes,
          record {
            ticket = r.ticket;
            serving = v;
            who = r.who;
            now = r.now;
            words = refl;
            order = r.order;
            line = λ u low high. let l = r.line u low high in line_stay s.views id me.0 w u at (λ has. subst (HasTicket u) waits has) (r.who u) l.0 l.1 l.2;
            each = stay (λ j d. Stands r.ticket v r.who r.now may j d.client d.stage) s.views id w (sym hit, known.1, known.2, known.3, refl) (λ j d _ e. r.each j d e);
            out = λ _. ap (λ (l : List (Option S)). set l 0 none) homes;
            home = λ after. absurd (after id w (set_there s.views id w me.0 at) tt);
            kept = same_clients holds r.now s.views id me.0 w at refl r.kept;
          },
          λ t' is. let same : t ≡ t' = ap ticket_of (sym waits ∙ is) in
              ((λ _. (r.now, λ i. (doing (Holding (same i) r.now) me.0.client, (0, r.now) ∷ light i))), λ miss. absurd (miss (found ∙ ap (λ k. k % 2 ^ 64) same))),
        ))
        (λ miss. (
          me.0,
          keeps,
          tt,
          unmoved s r id me.0 _ at (sym r.words),
          λ t' is. ((λ hit. absurd (miss (hit ∙ ap (λ k. k % 2 ^ 64) (ap ticket_of (sym is ∙ waits))))), λ _. refl),
        )))

    pub counts : (then : V → S → S → V → Type 0) (slots id : ℕ) (me : Known S V) (more t : ℕ) (x y : S) → HasBy t me x y → count y ≡ count x + more → Advances holds may id me.0.client x y then
        → Allows Rule slots id me 0 (λ n. (n + more) % 2 ^ 64) (Counts then me)
    counts then slots id me more t x y has up asked s r long at small = let v : ℕ = r.serving in
        let known : Stands r.ticket v r.who r.now may id me.0.client (Holding t x) = subst (Stands r.ticket v r.who r.now may id me.0.client) has.0 (r.each id me.0 at) in
        let mine : r.who v ≡ id = ap r.who (sym known.0) ∙ known.2 in
        let advanced = asked (map client s.views) (subst (λ z. holds z (map client s.views)) (sym known.4) r.kept) (at_map client s.views id me.0 at) in
        let w : Doing S V = doing (Holding t y) advanced.0 in
        subst (Goes Rule s.homes s.views 0 id me (λ n. (n + more) % 2 ^ 64) (Counts then me)) (sym r.words) (
          w,
          keeps,
          tt,
          record {
            ticket = r.ticket;
            serving = v;
            who = r.who;
            now = y;
            words = ap (λ n. n ∷ r.ticket % 2 ^ 64 ∷ v % 2 ^ 64 ∷ []) (mod-add-mod (count r.now) (2 ^ 64) more ∙ ap (λ n. n % 2 ^ 64) (ap (λ z. count z + more) (sym known.4) ∙ sym up));
            order = r.order;
            line = λ u low high. let l = r.line u low high in line_stay s.views id me.0 w u at (λ p. subst (HasTicket u) has.0 p) (r.who u) l.0 l.1 l.2;
            each = stay (λ j d. Stands r.ticket v r.who y may j d.client d.stage) s.views id w (known.0, known.1, known.2, advanced.2, refl)
                (λ j d other e. stands_count may r.ticket v r.who r.now y id j d.client d.stage mine other (r.each j d e));
            out = λ _. r.out (id, me.0, at, subst HasTurn (sym has.0) tt);
            home = λ after. absurd (after id w (set_there s.views id w me.0 at) tt);
            kept = subst (holds y) (sym (map-set client s.views id w)) advanced.1;
          },
          λ t' x' y' has'. let e = has_by_one me t t' x x' y y' has has' in
              subst (λ (z : ℕ × S × S). HasBy z.0 (w, me.1) z.2 z.2 × then me.0.client z.1 z.2 advanced.0) (λ i. (e.0 i, e.1 i, e.2 i)) ((refl, has.1), advanced.3),
        )

    pub serves : (slots id : ℕ) (me : Known S V) (t : ℕ) (x : S) → slots ≡ 1 → HasBy t me x x → Allows Rule slots id me 2 (λ n. (n + 1) % 2 ^ 64) (Serves me)
    serves slots id me t x one has s r long at small = let v : ℕ = r.serving in let c : ℕ = count r.now % 2 ^ 64 in let w : Doing S V = idle me.0.client in
        let known : Stands r.ticket v r.who r.now may id me.0.client (Holding t x) = subst (Stands r.ticket v r.who r.now may id me.0.client) has.0 (r.each id me.0 at) in
        let mine : r.who v ≡ id = ap r.who (sym known.0) ∙ known.2 in
        let ahead : t < r.ticket = known.1 in let same : t ≡ v = known.0 in
        let back : homes_after s.homes me.1 gives ≡ some r.now ∷ [] = ap (λ (l : List (ℕ × S)). homes_after s.homes l gives) has.1 ∙ only s.homes (some x) (long ∙ one) ∙ ap (λ z. some z ∷ []) known.4 in
        subst (Goes Rule s.homes s.views 2 id me (λ n. (n + 1) % 2 ^ 64) (Serves me)) (sym r.words) (
          w,
          gives,
          tt,
          record {
            ticket = r.ticket;
            serving = v + 1;
            who = r.who;
            now = r.now;
            words = ap (λ n. c ∷ r.ticket % 2 ^ 64 ∷ n ∷ []) (mod-add-mod v (2 ^ 64) 1);
            order = omega arith;
            line = λ u low high. let l = r.line u (omega arith) high in
                (l.0, set_else s.views id (r.who u) w (λ is. let late : t ≡ u = subst (HasTicket u) (ap (λ (z : Doing S V). z.stage) (sym (one_at s.views id (r.who u) me.0 l.0 at l.1 is)) ∙ has.0) l.2 in omega arith) ∙ l.1, l.2);
            each = stay (λ j d. Stands r.ticket (v + 1) r.who r.now may j d.client d.stage) s.views id w tt
                (λ j d other e. stands_serve may r.ticket v r.who r.now id j d.client d.stage mine other (r.each j d e));
            out = λ some_has. absurd (stay (λ j d. ¬ HasTurn d.stage) s.views id w (λ h. h) (λ j d other e h. other (sym (holds_by s r j d e h).0 ∙ mine)) some_has.0 some_has.1 some_has.2 some_has.3);
            home = λ _. back;
            kept = same_clients holds r.now s.views id me.0 w at refl r.kept;
          },
          ((refl, ap rest has.1), refl),
        )

    pub learns : (fact : V → Type 0) (slots id : ℕ) (me : Known S V) → Tells holds id me.0.client fact → Allows Rule slots id me 0 (λ n. n) (Learns fact me)
    learns fact slots id me told s r long at small = subst (Goes Rule s.homes s.views 0 id me (λ n. n) (Learns fact me)) (sym r.words)
        (me.0, keeps, tt, unmoved s r id me.0 _ at (sym r.words), (refl, told r.now (map client s.views) r.kept (at_map client s.views id me.0 at)))

    pub knows : (told : V → S → Type 0) (slots id : ℕ) (me : Known S V) → Shows holds id me.0.client told → Allows Rule slots id me 0 (λ n. n) (Knows told me)
    knows told slots id me shown s r long at small = let now = shown r.now (map client s.views) r.kept (at_map client s.views id me.0 at) in
        subst (Goes Rule s.homes s.views 0 id me (λ n. n) (Knows told me)) (sym r.words) (
          me.0,
          keeps,
          tt,
          unmoved s r id me.0 _ at (sym r.words),
          (
            refl,
            λ t x y has. let known : Stands r.ticket r.serving r.who r.now may id me.0.client (Holding t x) = subst (Stands r.ticket r.serving r.who r.now may id me.0.client) has.0 (r.each id me.0 at) in
                subst (told me.0.client) (sym known.4) now,
          ),
        )

    pub opens : (x : S) (n : ℕ) (v : V) (xs : List S) → n < 18446744073709551616 → n ≡ count x → xs ≡ x ∷ [] → holds x (v ∷ []) → Rule (opening (n ∷ 0 ∷ 0 ∷ []) xs (idle v))
    opens x n v xs fits is one begins = record {
      ticket = 0;
      serving = 0;
      who = λ _. 0;
      now = x;
      words = ap (λ k. k ∷ 0 ∷ 0 ∷ []) (sym (mod-eq_of_lt fits) ∙ ap (λ k. k % 2 ^ 64) is);
      order = omega arith;
      line = λ t low high. absurd (omega arith);
      each = λ j d e. subst (λ (z : Doing S V). Stands 0 0 (λ _. 0) x may j z.client z.stage) (first j d e) tt;
      out = λ some_has. absurd (subst (λ (z : Doing S V). HasTurn z.stage) (sym (first some_has.0 some_has.1 some_has.2)) some_has.3);
      home = λ _. ap (map some) one;
      kept = begins;
    }
      where
        first : (j : ℕ) (d : Doing S V) → get_elem? (idle v ∷ []) j ≡ some d → idle v ≡ d
        first zero d e = some-injective (idle v) d e
        first (suc j) d e = absurd (some-ne-none d (sym e))

    pub splits : (id : ℕ) (d : Doing S V) (left right : V) → d.stage ≡ Idle → Forks holds id d.client left right → Splits Rule id d (doing d.stage left) (idle right)
    splits id d left right free asked s r at = let w : Doing S V = doing d.stage left in record {
      ticket = r.ticket;
      serving = r.serving;
      who = r.who;
      now = r.now;
      words = r.words;
      order = r.order;
      line = λ u low high. let l = r.line u low high in let e = line_stay s.views id d w u at (λ p. p) (r.who u) l.0 l.1 l.2 in (e.0, at_longer (set s.views id w) (idle right ∷ []) (r.who u) e.0 e.1, e.2);
      each = stay_more (λ j z. Stands r.ticket r.serving r.who r.now may j z.client z.stage) s.views id w (idle right) (subst (Stands r.ticket r.serving r.who r.now may id left) (sym free) tt) (λ _. tt) (λ j x _. r.each j x);
      out = λ h. stay_more (λ j z. HasTurn z.stage → s.homes ≡ none ∷ []) s.views id w (idle right) (λ has. absurd (subst HasTurn free has)) (λ _ has. absurd has) (λ j x _ e has. r.out (j, x, e, has)) h.0 h.1 h.2 h.3;
      home = λ after. r.home (none_before s.views id d w at (λ has. subst HasTurn free has) (λ j e p. after j e (at_longer (set s.views id w) (idle right ∷ []) j e p)));
      kept = subst (holds r.now) (sym (map-append client (set s.views id w) (idle right ∷ []) ∙ ap (λ l. l ++ right ∷ []) (map-set client s.views id w)))
          (asked r.now (map client s.views) r.kept (at_map client s.views id d at));
    }

    pub joins : (id : ℕ) (d : Doing S V) (other : ℕ) (e : Doing S V) (both spent : V) → d.stage ≡ Idle → e.stage ≡ Idle → Merges holds id d.client other e.client both spent → Joins Rule id d other e (doing d.stage both) (idle spent)
    joins id d other e both spent free light asked s r at apart there = let w : Doing S V = doing d.stage both in let vs : List (Doing S V) = set s.views id w in let same = map-set client s.views id w in record {
      ticket = r.ticket;
      serving = r.serving;
      who = r.who;
      now = r.now;
      words = r.words;
      order = r.order;
      line = λ u low high. let l = r.line u low high in let a = line_stay s.views id d w u at (λ p. p) (r.who u) l.0 l.1 l.2 in
          line_stay vs other e (idle spent) u there (λ p. absurd (subst (HasTicket u) light p)) (r.who u) a.0 a.1 a.2;
      each = stay K vs other (idle spent) tt (λ j x _. stay K s.views id w (subst (Stands r.ticket r.serving r.who r.now may id both) (sym free) tt) (λ i y _. r.each i y) j x);
      out = λ h. stay Out vs other (idle spent) (λ has. absurd has) (λ j x _. stay Out s.views id w (λ has. absurd (subst HasTurn free has)) (λ i y _ p has. r.out (i, y, p, has)) j x) h.0 h.1 h.2 h.3;
      home = λ after. r.home (none_before s.views id d w at (λ has. subst HasTurn free has) (none_before vs other e (idle spent) there (λ has. subst HasTurn light has) after));
      kept = subst (holds r.now) (sym (map-set client vs other (idle spent) ∙ ap (λ l. set l other spent) same))
          (asked r.now (map client s.views) r.kept (at_map client s.views id d at) apart (subst (λ l. get_elem? l other ≡ some e.client) same (at_map client vs other e there)));
    }
      where
        K : ℕ → Doing S V → Type 0
        K j z = Stands r.ticket r.serving r.who r.now may j z.client z.stage

        Out : ℕ → Doing S V → Type 0
        Out j z = HasTurn z.stage → s.homes ≡ none ∷ []

    -- where no other may draw, and this one is idle, the value is home, and the caller's rule holds of it
    pub rests : (id : ℕ) (me : Doing S V) → me.stage ≡ Idle → Alone holds may id me.client → (s : State S (Doing S V)) → Seen Rule id me s → (x : S) × (s.homes ≡ some x ∷ []) × Ends holds id me.client x
    rests id me free alone s seen = let r = seen.0 in let mine = at_map client s.views id me seen.1 in (
      r.now,
      r.home (λ j d e has.
          let same : j ≡ id = alone r.now (map client s.views) r.kept mine j d.client (at_map client s.views j d e) (holds_by s r j d e has).1 in
          subst HasTurn (ap (λ (z : Doing S V). z.stage) (sym (one_at s.views id j me d seen.1 e same)) ∙ free) has),
      (map client s.views, r.kept, mine),
    )
