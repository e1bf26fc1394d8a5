-- An item is made of its address with its names, its path and its via.
use Rattle.std.proofs.Common.{◌≡◌, List, ℕ, Option, refl, ap, ◌∙◌}
use Rattle.journal_valid.specs.Items.{key_of, rank_of, robots_redirects}
use Rattle.journal_read.specs.Items.{key_from}
use Rattle.journal_read.proofs.Taken.{key_found}
use Rattle.journal_read.proofs.item.item_of.Goals as goal

pub returns : goal.returns
returns c =
    let n = c.args.named in
    let path = c.args.path in
    let own = c.in_ok-key.key in
    let redirects : c.robots_redirects.result ≡ robots_redirects path = c.robots_redirects.ensures ∙ ap robots_redirects c.as_bytes.ensures.same in
    let key : own ≡ key_of n.uri path = c.in_ok-key.ensures.0 ∙ (ap (λ (o : Option ℕ). key_from o n.key n.class) redirects ∙ key_found (robots_redirects path) n.key n.class n.uri c.requires.named.key c.requires.named.class) in
    let rank : c.rank_of-rank.result ≡ rank_of own path =
    c.rank_of-rank.ensures ∙ (ap (λ (k : List ℕ). rank_of k c.as_bytes-3.result.now) c.as_bytes-2.ensures.same ∙ ap (rank_of own) c.as_bytes-3.ensures.same) in
    record {
      valid = record {
        uri = c.requires.uri;
        path = c.requires.path;
        via = c.requires.via;
        key = key;
        key_fits = c.in_ok-key.ensures.1;
        class = c.requires.named.class;
        rank = rank;
      };
      of_uri = refl;
      of_path = refl;
      of_via = refl;
    }
