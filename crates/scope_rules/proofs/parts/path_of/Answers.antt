use Rattle.std.proofs.Common.{◌≡◌, ◌∙◌, ◌+◌, ap, sym, take, drop, arith}
use Rattle.std.proofs.lemmas.List.{drop-drop}
use Rattle.std.specs.List.{before_first}
use Rattle.scope_spec.specs.UriParts.{behind_authority, behind_marks, ends_path}
use Rattle.scope_rules.proofs.parts.path_of.Goals as goal

pub returns : goal.returns
returns c =
    let uri = c.args.uri.now in
    let at = c.colon_at.result in
    let joined : drop 3 (drop at uri) ≡ drop 2 (drop (at + 1) uri) = drop-drop 3 at uri ∙ ap (λ n. drop n uri) (omega arith) ∙ sym (drop-drop 2 (at + 1) uri) in
    let hierarchy : c.from-hierarchy.result.now ≡ behind_marks uri = c.from-hierarchy.ensures ∙ ap (drop 3) c.from.ensures ∙ joined ∙ ap (λ n. drop 2 (drop (n + 1) uri)) c.colon_at.ensures in
    let path : c.from-path.result.now ≡ behind_authority (behind_marks uri) = c.from-path.ensures ∙ ap (λ n. drop n c.from-hierarchy.result.now) c.authority_len.ensures ∙ ap behind_authority hierarchy in
    ap (λ n. take n c.from-path.result.now) c.path_len.ensures ∙ ap (before_first ends_path) path
