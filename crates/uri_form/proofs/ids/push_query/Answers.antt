use Rattle.std.proofs.Common.{◌≡◌, eqb, rules, ap, ◌∙◌}
use Rattle.std.specs.Prelude.{flat_map}
use Rattle.std.specs.List.{slice_split}
use Rattle.url.specs.Input.{trim_end}
use Rattle.uri_spec.specs.SessionId.{ampersand, query_without_ids}
use Rattle.uri_form.specs.Members.{member_text}
use Rattle.uri_form.proofs.IdLaws.{joined_is}
use Rattle.uri_form.proofs.ids.push_query.Goals as goal

pub returns : goal.returns
returns c =
    let query = c.args.query.now in
    let written : c.as_str.result.now ≡ flat_map member_text (slice_split (λ b. eqb b ampersand) query) = search rules in
    let kept : c.joined.result.now ≡ query_without_ids query = joined_is query c.joined.result.now (λ e. c.joined.ensures.none (written ∙ e)) (λ rest e. c.joined.ensures.some rest (written ∙ e)) in
    let trimmed : c.without_end.result.now ≡ trim_end (λ b. eqb b ampersand) (query_without_ids query) = c.without_end.ensures ∙ ap (trim_end (λ b. eqb b ampersand)) kept in
    rw (← trimmed) c.push_nonempty.ensures
