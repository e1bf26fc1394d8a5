use Rattle.std.proofs.Common.{◌≡◌, ◌++◌, ◌≤◌, length, rules, ap, subst, sym, ◌∙◌, arith}
use Rattle.std.specs.Prelude.{string_bytes}
use Rattle.crawl_kinds.specs.Address.{IsUri}
use Rattle.uri_spec.specs.Key.{key_text}
use Rattle.uri_spec.specs.Surt.{class_text}
use Rattle.uri_form.proofs.Sites.{site_class, site_key_fits, site_reads, uri_fits, with_path}
use Rattle.uri_form.proofs.site.plain_uri.Goals as goal

pub keep-requires : goal.keep-requires
keep-requires c =
    let site = c.args.site.now in
    let path = c.args.path.now in
    let within : length (string_bytes site.head ++ path) ≤ 2083 = omega (arith, c.requires.within, ap length c.requires.text) in
    rw (c.requires.text) (uri_fits (string_bytes site.head ++ path) (with_path c.requires.site.url path) (site_reads site c.requires.site path c.requires.path within))

pub keep-requires-2 : goal.keep-requires-2
keep-requires-2 c =
    let site = c.args.site.now in
    let path = c.args.path.now in
    let within : length (string_bytes site.head ++ path) ≤ 2083 = omega (arith, c.requires.within, ap length c.requires.text) in
    let text : c.as_str.result.now ≡ key_text (string_bytes site.head ++ path) = search rules in
    rw text (site_key_fits site c.requires.site path c.requires.path within)

pub returns : goal.returns
returns c =
    let site = c.args.site.now in
    let path = c.args.path.now in
    let within : length (string_bytes site.head ++ path) ≤ 2083 = omega (arith, c.requires.within, ap length c.requires.text) in
    let back = sym c.requires.text in
    let key : c.in_ok-keep-2.field-0 ≡ key_text (string_bytes site.head ++ path) = search rules in
    let class : c.in_ok-copy.field-0 ≡ site.class = search rules in
    record {
      address = subst IsUri back (record { url = with_path c.requires.site.url path; reads = site_reads site c.requires.site path c.requires.path within });
      uri = search rules;
      key = key ∙ ap key_text back;
      class = class ∙ (site_class site c.requires.site path c.requires.path within ∙ ap class_text back);
    }
