use Rattle.std.proofs.Common.{◌≡◌, ◌<◌, List, ℕ, Option, None, Some, sym, ap, subst, ◌∙◌}
use Rattle.std.specs.Prelude.{IfSome}
use Rattle.crawl_kinds.specs.Text.{is_visible, text_fault}
use Rattle.crawl_kinds.specs.declared.item.Item.{Item}
use Rattle.crawl_history.specs.Adds.{rank_of}
use Rattle.journal_valid.specs.Items.{key_of, robots_redirects}
use Rattle.uri_spec.specs.Key.{robots_key}
use Rattle.uri_spec.specs.Surt.{class_text}
use Rattle.item_form.specs.Items.{key_from}
use Rattle.item_form.proofs.Fitting.{robots_key_fits, key_found}
use Rattle.item_form.proofs.item.item_of.Goals as goal

each : (o : Option ℕ) (P Q : ℕ → Type 0) → ((j : ℕ) → P j → Q j) → IfSome o P → IfSome o Q
each None P Q w h = tt
each (Some j) P Q w h = w j h

pub key_from-requires : goal.key_from-requires
key_from-requires c =
    each c.robots_redirects.result (λ j. j < 251) (λ j. text_fault is_visible 2200 (robots_key j c.in_ok-uri.field-0.class) ≡ None)
    (λ j few. subst (λ (class : List ℕ). text_fault is_visible 2200 (robots_key j class) ≡ None) (sym c.in_ok-uri.ensures.class) (robots_key_fits j c.args.uri.now few c.requires))
    c.robots_redirects.ensures.few

pub returns : goal.returns
returns c =
    let n = c.in_ok-uri.field-0 in
    let uri = c.args.uri.now in
    let path = c.args.path in
    let redirects : c.robots_redirects.result ≡ robots_redirects path = c.robots_redirects.ensures.same ∙ ap robots_redirects c.as_bytes.ensures.same in
    let key : c.in_ok-key.key ≡ key_of uri path =
    c.in_ok-key.ensures ∙ ap (λ (o : Option ℕ). key_from o n.key n.class) redirects
    ∙ key_found (robots_redirects path) n.key n.class uri c.in_ok-uri.ensures.key c.in_ok-uri.ensures.class in
    let item : List ℕ → List ℕ → List ℕ → ℕ → Item = λ key uri class rank. record { key = key; uri = uri; class = class; path = path; via = c.args.via; rank = rank } in
    let rank : c.rank_of-rank.result ≡ rank_of (key_of uri path) path =
    c.rank_of-rank.ensures ∙ ap (λ (k : List ℕ). rank_of k c.as_bytes-3.result.now) (c.as_bytes-2.ensures.same ∙ key)
    ∙ ap (rank_of (key_of uri path)) c.as_bytes-3.ensures.same in
    ap (λ k. item k n.uri n.class c.rank_of-rank.result) key
    ∙ ap (λ u. item (key_of uri path) u n.class c.rank_of-rank.result) c.in_ok-uri.ensures.uri
    ∙ ap (λ class. item (key_of uri path) uri class c.rank_of-rank.result) c.in_ok-uri.ensures.class
    ∙ ap (item (key_of uri path) uri (class_text uri)) rank
