use Rattle.std.proofs.Common.{◌≡◌, ◌≤◌, length, true, arith, rules, subst, sym}
use Rattle.crawl_kinds.specs.Address.{IsUri, is_web, without_fragment, most_uri, most_head}
use Rattle.crawl_kinds.specs.Text.{is_visible}
use Rattle.url.specs.declared.slicing.Position.TheVariants.{BeforePath}
use Rattle.url.specs.Parts.{serialize, offset}
use Rattle.uri_form.proofs.Fits.{fits}
use Rattle.uri_form.proofs.UriLaws.{uri_of_web, valid_without, web_kind}
use Rattle.uri_form.proofs.Visible.{visible_text}
use Rattle.uri_form.proofs.parse.address_of.Goals as goal

pub keep-requires : goal.keep-requires
keep-requires c =
    let url = c.args.url.now in
    let within : length (serialize (without_fragment url)) ≤ most_uri = omega arith in
    let web : is_web url ≡ true = search rules in
    let spelled : c.slice-text.result.now ≡ serialize (without_fragment url) = search (rules, c.slice-text.ensures.value) in
    rw spelled (fits is_visible 2083 _ within (visible_text (without_fragment url) (valid_without url c.slice-text.ensures.valid) (web_kind url.scheme web)))

pub returns-clause-address : goal.returns-clause-address
returns-clause-address c =
    let url = c.args.url.now in
    let within : length (serialize (without_fragment url)) ≤ most_uri = omega arith in
    let head : offset url BeforePath ≤ most_head = omega arith in
    let web : is_web url ≡ true = search rules in
    let spelled : c.in_ok-keep.field-0 ≡ serialize (without_fragment url) = search (rules, c.slice-text.ensures.value, c.in_ok-keep.ensures) in
    subst IsUri (sym spelled) (uri_of_web url c.slice-text.ensures.valid web within head)
