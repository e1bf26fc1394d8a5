-- Laws of addresses, from the definitions.
use Rattle.std.proofs.Common.{◌≡◌, ℕ, true, false, List, ◌++◌, length, None, Ok, inl, inr, sym, ap, ◌∙◌, ⊎_elim, arith, append-nil}
use Rattle.std.specs.Prelude.{nat_lt}
use Rattle.std.proofs.lemmas.Bool.{cases_Bool, cond-true, cond-false}
use Rattle.std.proofs.lemmas.Bool.Decides.{nat_tests}
use Rattle.crawl_kinds.specs.Address.{is_web, without_fragment, most_uri, most_head, IsUri}
use Rattle.url.specs.declared.slicing.Position.TheVariants.{BeforePath}
use Rattle.url.specs.Parser.{parse_url}
use Rattle.url.specs.Parts.{Parts, serialize, offset}
use Rattle.uri_spec.specs.Surt.{authority_of, class_of, class_text, is_https, of_parsed, query_text, robots_text, surt_of, surt_text, with_robots_path}
use Rattle.uri_spec.specs.Key.{key_of, key_text, robots_key}
use Rattle.uri_form.specs.Fault.{address_in, most_text}
use Rattle.uri_form.specs.Laws.{BeginsWithAuthority}
use Rattle.uri_form.proofs.RobotsLaws.{robots_reads}

module _ (text : List ℕ) (address : IsUri text) where
  url : Parts
  url = address.url

  pub class_is : class_text text ≡ class_of address.url
  class_is = ap (of_parsed class_of) address.reads.parsed

  pub surt_is : surt_text text ≡ surt_of address.url
  surt_is = ap (of_parsed surt_of) address.reads.parsed

  robots_is : robots_text text ≡ serialize (with_robots_path address.url)
  robots_is = ap (of_parsed (λ url. serialize (with_robots_path url))) address.reads.parsed

  robots_parsed : parse_url None (robots_text text) ≡ Ok (with_robots_path address.url)
  robots_parsed = ap (parse_url None) robots_is ∙ (robots_reads text address.url address.reads).parsed

  pub robots_class : class_text (robots_text text) ≡ class_text text
  robots_class = ap (of_parsed class_of) robots_parsed ∙ sym class_is

  pub robots_key_is : key_text (robots_text text) ≡ robots_key 0 (class_text text)
  robots_key_is = ap (of_parsed key_of) robots_parsed ∙ ap (robots_key 0) (sym class_is)

  whole : serialize (without_fragment address.url) ≡ text
  whole = (λ i. serialize (record address.url { fragment = sym address.reads.fragment i })) ∙ address.reads.written

  pub reads_as_itself : address_in text (parse_url None text) ≡ Ok text
  reads_as_itself =
      let reads = address.reads in
      let short : nat_lt most_text (length text) ≡ false = grind (arith, nat_tests, reads.within) in
      let within : nat_lt most_uri (length (serialize (without_fragment address.url))) ≡ false = grind (arith, nat_tests, ap length whole, reads.within) in
      let head : nat_lt most_head (offset address.url BeforePath) ≡ false = grind (arith, nat_tests, reads.head) in
      let web : is_web address.url ≡ true = reads.web in
      rw (short, reads.parsed, within, head, web) (ap Ok whole)

  pub begins_with_authority : BeginsWithAuthority text
  begins_with_authority = record {
    authority = authority_of address.url;
    rest = address.url.path ++ query_text address.url.query;
    class = ⊎_elim (λ secure. inr (class_is ∙ ap (λ m. authority_of address.url ++ m) (cond-true _ _ _ secure))) (λ plain. inl (class_is ∙ ap (λ m. authority_of address.url ++ m) (cond-false _ _ _ plain) ∙ append-nil (authority_of address.url))) (cases_Bool (is_https address.url));
    surt = surt_is;
  }
