-- Worked examples of the definitions.
use Rattle.std.specs.Prelude.{◌≡◌, true, false, codes, pos, negsuc, Some, None}
use Rattle.crawl_kinds.specs.declared.event.Outcome.TheVariants.{Success, Failure, Disregard, Retry}
use Rattle.journal_valid.specs.Items.{robots_redirects, key_of, rank_of}
use Rattle.journal_valid.specs.Ends.{outcome_of, is_fetched, is_type, is_digest}

pub record AreWorked : Type 0 where
  pub page : key_of (codes "http://www.a.test/A") (codes "LL") ≡ codes "http://a.test/a"
  pub robots : key_of (codes "https://a.test/robots.txt") (codes "LP") ≡ codes "robots0:test,a,#https"
  pub redirected : key_of (codes "http://b.test/x") (codes "LPRR") ≡ codes "robots2:test,b,"
  pub last_prerequisite : robots_redirects (codes "PRRPLRE") ≡ Some 1
  pub no_prerequisite : robots_redirects (codes "RRR") ≡ None
  pub robots_first : rank_of (codes "robots1:test,b,") (codes "PR") ≡ 0
  pub redirect : rank_of (codes "http://b.test/") (codes "LR") ≡ 1
  pub embed : rank_of (codes "http://b.test/") (codes "RE") ≡ 2
  pub seed : rank_of (codes "http://b.test/") (codes "") ≡ 3
  pub status : outcome_of (pos 999) ≡ Some Success
  pub no_status : outcome_of (pos 1000) ≡ None
  pub refused : outcome_of (negsuc 1) ≡ Some Retry
  pub last : outcome_of (negsuc 7) ≡ Some Failure
  pub forbidden : outcome_of (negsuc 9997) ≡ Some Disregard
  pub unknown_code : outcome_of (negsuc 4) ≡ None
  pub lost_fetch : is_fetched (negsuc 2) ≡ true
  pub needed_fetch : is_fetched (negsuc 49) ≡ false
  pub html : is_type (codes "text/html") ≡ true
  pub unknown_type : is_type (codes "unknown") ≡ true
  pub capitals : is_type (codes "Text/html") ≡ false
  pub half_a_type : is_type (codes "text/") ≡ false
  pub two_slashes : is_type (codes "a/b/c") ≡ false
  pub digest : is_digest (codes "sha1:3I42H3S6NNFQ2MSVX7XZKYAYSCX5QBYJ") ≡ true
  pub short_digest : is_digest (codes "sha1:3I42H3S6NNFQ2MSVX7XZKYAYSCX5QBY") ≡ false
