-- Where a response came, there was a fetch.
use Rattle.std.proofs.Common.{◌≡◌, ℤ, pos, negsuc, ◌≤◌, true, false, Option, Some, None, refl, sym, ◌∙◌, ap, subst, arith}
use Rattle.std.specs.Prelude.{codes, is_some, IfSome}
use Rattle.std.proofs.lemmas.Bool.{false≢true}
use Rattle.crawl_kinds.specs.declared.event.Body.{Body}
use Rattle.crawl_kinds.specs.declared.event.Fetch.{Fetch}
use Rattle.http_message.specs.declared.front.Reply.{Reply}
use Rattle.journal_valid.specs.Ends.{IsBody, IsEnd, IsFetch, is_fetched, is_status}
use Rattle.process_chains.specs.Done.{Done, IsDone}
use Rattle.process_chains.specs.Endings.{end_with}

-- some body that a line of the journal can name
some_body : Body
some_body = record { size = 0; media = codes "unknown"; digest = codes "sha1:AAAAAAAAAAAAAAAAAAAAAAAAAAAAAAAA"; spot = record { file = 0; at = 0; len = 0 } }

some_valid : IsBody some_body
unfolding some_body
some_valid = record {
  size = omega arith;
  media = refl;
  typed = refl;
  digest = refl;
  digested = refl;
  file = omega arith;
  at = omega arith;
  len = omega arith;
}

-- a status comes of a fetch
status_fetched : (code : ℤ) → is_status code ≡ true → is_fetched code ≡ true
status_fetched (pos n) is = refl
status_fetched (negsuc n) is = absurd (false≢true is)

present : (fetch : Option Fetch) → is_some fetch ≡ true → IfSome fetch IsFetch → (span : Fetch) × (fetch ≡ Some span) × IsFetch span
present None some each = absurd (false≢true some)
present (Some span) some each = (span, refl, each)

-- the end of a response has a status, whatever body is recorded
pub fetch_of : (d : Done) → IsDone d → 1 ≤ d.work.tries → (reply : Reply) → d.reply ≡ Some reply → (span : Fetch) × (d.ending.fetch ≡ Some span) × IsFetch span
fetch_of d is tries reply came =
    let end : IsEnd (end_with d.ending (Some some_body)) = is.valid tries (Some some_body) (sym (ap is_some came)) some_valid in
    present d.ending.fetch (end.fetched ∙ status_fetched d.ending.code (sym end.recorded)) end.fetch

-- it is that fetch
pub fetch_is : (d : Done) → IsDone d → 1 ≤ d.work.tries → (reply : Reply) → d.reply ≡ Some reply → (span : Fetch) → d.ending.fetch ≡ Some span → IsFetch span
fetch_is d is tries reply came span said =
    let one = fetch_of d is tries reply came in
    let both : Some one.0 ≡ Some span = sym one.1 ∙ said in
    let same : one.0 ≡ span = cc in
    subst IsFetch same one.2

-- so it can't lack one
pub no_fetch : (d : Done) → IsDone d → 1 ≤ d.work.tries → (reply : Reply) → d.reply ≡ Some reply → d.ending.fetch ≡ None → ⊥
no_fetch d is tries reply came none =
    let one = fetch_of d is tries reply came in
    let clash : Some one.0 ≡ None = sym one.1 ∙ none in
    cc
