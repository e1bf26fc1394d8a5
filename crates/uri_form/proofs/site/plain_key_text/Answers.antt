use Rattle.std.proofs.Common.{◌≡◌, ◌++◌, List, ℕ, codes, rules, ap, subst, sym, ◌∙◌}
use Rattle.std.specs.Prelude.{IfOk, string_bytes}
use Rattle.std.proofs.lemmas.Bool.{false≢true}
use Rattle.std.proofs.lemmas.Slice.Eq.{bytes_eq-Decides}
use Rattle.url.specs.Input.{lowercase}
use Rattle.uri_form.proofs.Sites.{site_key, site_robots}
use Rattle.uri_form.proofs.site.plain_key_text.Goals as goal

pub returns-then-eq : goal.returns-then-eq
returns-then-eq c =
    let robots : c.args.path.now ≡ codes "/robots.txt" = (bytes_eq-Decides c.args.path.now (codes "/robots.txt")).0 (sym c.if-eq.ensures) in
    let text : string_bytes c.in_ok-format.field-0 ≡ codes "robots0:" ++ c.args.site.now.class = search rules in
    text ∙ site_robots c.args.site.now c.requires.site c.args.path.now c.requires.path c.requires.within robots

pub returns : goal.returns
returns c =
    let head = string_bytes c.args.site.now.key_head in
    let text : c.as_str.result.now ++ c.as_str-2.result.now ≡ head ++ lowercase c.args.path.now =
    ap (λ (t : List ℕ). t ++ c.as_str-2.result.now) c.as_str.ensures.value ∙ ap (λ (t : List ℕ). head ++ t) (c.as_str-2.ensures.value ∙ c.in_ok-path.ensures.ok) in
    let key = site_key c.args.site.now c.requires.site c.args.path.now c.requires.path c.requires.within (λ robots. false≢true (c.if-eq.ensures ∙ (bytes_eq-Decides c.args.path.now (codes "/robots.txt")).1 robots)) in
    subst (λ (t : List ℕ). IfOk c.joined.result (λ own. string_bytes own ≡ t)) (text ∙ key) c.joined.ensures
