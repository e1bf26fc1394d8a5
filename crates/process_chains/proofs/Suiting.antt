-- An ending suits its work, whatever the facts of the job are.
use Rattle.std.proofs.Common.{◌≡◌, inl, inr, ℕ, ◌<◌, Bool, true, false, ◌&&◌, ◌||◌, nat_lt, nat_le, List, length, Some, None, ◌∷◌, ◌++◌, drop, refl, sym, ap, subst, arith, length-append, lt-ltb, le-leb, ltb-false}
use Rattle.std.specs.Prelude.{if◌then◌else◌}
use Rattle.std.proofs.lemmas.Bool.{cases_Bool}
use Rattle.crawl_kinds.specs.declared.event.Body.{Body}
use Rattle.crawl_kinds.specs.declared.event.Fetch.{Fetch}
use Rattle.crawl_kinds.specs.declared.event.Outcome.TheVariants.{Failure, Retry}
use Rattle.crawl_kinds.specs.declared.event.Verdict.{Verdict}
use Rattle.crawl_kinds.specs.declared.event.Verdict.TheVariants.{Allowed, Precluded, Needed, Unsupported, Unreachable}
use Rattle.crawl_kinds.specs.declared.item.Item.{Item}
use Rattle.crawl_traits.specs.declared.link.LinkFault.{LinkFault}
use Rattle.crawl_traits.specs.declared.link.LinkFault.TheVariants.{Refused, Lost, TimedOut}
use Rattle.crawl_history.specs.Codes.{no_cause, too_many_tries}
use Rattle.crawl_history.specs.Ends.{Suits}
use Rattle.crawl_history.specs.Facts.{Facts, Archive}
use Rattle.httparse.specs.Grammar.{ResponseHead, print_blank, print_response, print_version}
use Rattle.http_message.specs.declared.front.Reply.{Reply}
use Rattle.process_chains.specs.Done.{IsReply}
use Rattle.process_chains.specs.Endings.{answered, code_of, end_with, ending, faulty, headless, unfetched}
use Rattle.process_chains.specs.declared.ending.Ending.{Ending}

behind_is_long : (a b : List ℕ) (x : ℕ) → 0 < length (a ++ (x ∷ b))
behind_is_long a b x = omega (arith, length-append a (x ∷ b))

longer : (a b : List ℕ) → 0 < length a → 0 < length (a ++ b)
longer a b long = omega (arith, length-append a b, long)

head_is_long : (h : ResponseHead) → 0 < length (print_response h)
unfolding print_response
head_is_long h = longer _ _ (longer _ _ (longer _ _ (behind_is_long (print_blank h.blank ++ print_version h.minor) h.digits 32)))

-- a response has bytes
pub whole_is_long : (limit : ℕ) (reply : Reply) → IsReply limit reply → 0 < length reply.block
whole_is_long limit reply is =
    let rest : List ℕ = drop reply.head_len reply.block in
    let split : length reply.block ≡ length (print_response is.h ++ rest) = ap (λ (l : List ℕ). length l) is.whole.head.reads.1 in
    omega (arith, split, length-append (print_response is.h) rest, head_is_long is.h)

-- under a verdict that allows no fetch
pub unfetched_suits : (f : Facts) (a : Archive) (tries : ℕ) (item : Item) (verdict : Verdict) (one : Ending) → unfetched verdict tries ≡ Some one → Suits f a tries item (end_with one None) verdict
unfetched_suits f a tries item Allowed one e = absurd (cc (e))
unfetched_suits f a tries item Precluded one e = cc (e)
unfetched_suits f a tries item Needed one e = cc (e)
unfetched_suits f a tries item Unsupported one e = cc (e)
unfetched_suits f a tries item Unreachable one e = cc (e)

-- after a whole response
pub answered_suits : (f : Facts) (a : Archive) (tries status : ℕ) (item : Item) (span : Fetch) (block : List ℕ) (body : Body)
    → 0 < length block → a body.spot ≡ block → f.fits item.uri block (end_with (answered status span tries) (Some body)) ≡ true
    → Suits f a tries item (end_with (answered status span tries) (Some body)) Allowed
answered_suits f a tries status item span block body long at fits =
    let some : nat_lt 0 (length block) ≡ true = lt-ltb 0 (length block) long in
    (rw at (rw some (rw fits refl)), refl, refl)

-- after a fault of the link with tries left
retry_suits : (f : Facts) (a : Archive) (tries : ℕ) (item : Item) (fault : LinkFault) (span : Fetch) → nat_lt tries f.settings.max_tries ≡ true
    → Suits f a tries item (end_with (ending Retry (code_of fault) (Some span) tries no_cause) None) Allowed
retry_suits f a tries item Refused span less = (subst (λ (b : Bool). ((b && true && true) && true) ≡ true) (sym less) refl, refl, refl)
retry_suits f a tries item Lost span less = (subst (λ (b : Bool). ((b && true && true) && true) ≡ true) (sym less) refl, refl, refl)
retry_suits f a tries item TimedOut span less = (subst (λ (b : Bool). ((b && true && true) && true) ≡ true) (sym less) refl, refl, refl)

-- and after the last one
last_suits : (f : Facts) (a : Archive) (tries : ℕ) (item : Item) (fault : LinkFault) (span : Fetch) → nat_le f.settings.max_tries tries ≡ true
    → Suits f a tries item (end_with (ending Failure too_many_tries (Some span) tries (code_of fault)) None) Allowed
last_suits f a tries item Refused span last = (subst (λ (b : Bool). ((b || false) && true) ≡ true) (sym last) refl, refl, refl)
last_suits f a tries item Lost span last = (subst (λ (b : Bool). ((b || false) && true) ≡ true) (sym last) refl, refl, refl)
last_suits f a tries item TimedOut span last = (subst (λ (b : Bool). ((b || false) && true) ≡ true) (sym last) refl, refl, refl)

-- after a fault of the link
pub faulty_suits : (f : Facts) (a : Archive) (tries : ℕ) (item : Item) (fault : LinkFault) (span : Fetch)
    → Suits f a tries item (end_with (faulty fault span tries f.settings.max_tries) None) Allowed
faulty_suits f a tries item fault span =
    let again : Ending = ending Retry (code_of fault) (Some span) tries no_cause in
    let out : Ending = ending Failure too_many_tries (Some span) tries (code_of fault) in
    let P : Bool → Type 0 = λ b. Suits f a tries item (end_with (if b then again else out) None) Allowed in
    elim (cases_Bool (nat_lt tries f.settings.max_tries)) [
      | inl less ↦ subst P (sym less) (retry_suits f a tries item fault span less)
      | inr last ↦ subst P (sym last) (last_suits f a tries item fault span (le-leb f.settings.max_tries tries (ltb-false tries f.settings.max_tries last)))
    ]

-- where no whole response came
pub headless_suits : (f : Facts) (a : Archive) (tries : ℕ) (item : Item) (span : Fetch) → Suits f a tries item (end_with (headless span tries) None) Allowed
headless_suits f a tries item span = (refl, refl, refl)
