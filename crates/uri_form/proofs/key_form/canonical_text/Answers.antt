use Rattle.std.proofs.Common.{◌≡◌, ◌++◌, string_bytes, rules, sym, ◌∙◌}
use Rattle.url.specs.declared.slicing.Position.TheVariants.{BeforeScheme, BeforeUsername, AfterHost, AfterPort}
use Rattle.url.specs.Input.{lowercase}
use Rattle.url.specs.Host.{host_text, host_map}
use Rattle.url.specs.Parts.{host_or_empty, text_between}
use Rattle.uri_spec.specs.Key.{name_without_www}
use Rattle.uri_spec.specs.SessionId.{path_without_ids}
use Rattle.uri_form.specs.Members.{whole_query}
use Rattle.uri_form.proofs.KeyLaws.{serialize-canonical}
use Rattle.uri_form.proofs.key_form.canonical_text.Goals as goal

pub returns : goal.returns
returns c =
    let url = c.args.url.now in
    let text : string_bytes c.push_tail.new.out ≡ (((text_between url BeforeScheme BeforeUsername ++ host_text (host_map name_without_www (host_or_empty url))) ++ text_between url AfterHost AfterPort) ++ path_without_ids (lowercase url.path)) ++ whole_query url.query = search rules in
    text ∙ sym (serialize-canonical url c.slice.ensures.valid c.requires.web c.requires.fragment)
