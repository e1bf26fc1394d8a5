use Rattle.std.proofs.Common.{◌≡◌, ◌++◌, codes, rules, subst, sym, ap, ◌∙◌}
use Rattle.crawl_kinds.specs.Address.{IsUri, IsUriOf}
use Rattle.url.specs.Parts.{serialize, text_between}
use Rattle.url.specs.declared.slicing.Position.TheVariants.{BeforeScheme, BeforePath}
use Rattle.uri_spec.specs.Surt.{with_robots_path, of_parsed, robots_text}
use Rattle.uri_form.proofs.RobotsLaws.{serialize-robots, robots_reads, robots_fit}
use Rattle.uri_form.proofs.robots.robots_uri.Goals as goal

pub keep-requires : goal.keep-requires
keep-requires c =
    let url = c.in_ok-url.url in
    let reads : IsUriOf c.args.uri.now url = search rules in
    let text : c.as_str.result.now ≡ text_between url BeforeScheme BeforePath ++ codes "/robots.txt" = search rules in
    rw (text ∙ sym (serialize-robots c.args.uri.now url reads)) (robots_fit c.args.uri.now url reads)

pub returns-clause-same : goal.returns-clause-same
returns-clause-same c =
    let url = c.in_ok-url.url in
    let reads : IsUriOf c.args.uri.now url = search rules in
    let text : c.in_ok-own.own ≡ text_between url BeforeScheme BeforePath ++ codes "/robots.txt" = search rules in
    let read : robots_text c.args.uri.now ≡ serialize (with_robots_path url) = ap (of_parsed (λ url. serialize (with_robots_path url))) reads.parsed in
    text ∙ sym (serialize-robots c.args.uri.now url reads) ∙ sym read

pub returns-clause-address : goal.returns-clause-address
returns-clause-address c =
    let url = c.in_ok-url.url in
    let reads : IsUriOf c.args.uri.now url = search rules in
    let text : c.in_ok-own.own ≡ text_between url BeforeScheme BeforePath ++ codes "/robots.txt" = search rules in
    subst IsUri (sym (text ∙ sym (serialize-robots c.args.uri.now url reads))) (record { url = with_robots_path url; reads = robots_reads c.args.uri.now url reads })
