use Rattle.std.proofs.Common.{◌≡◌, Some, ap, sym, ◌∙◌}
use Rattle.std.proofs.lemmas.Bool.{cond-false}
use Rattle.crawl_history.specs.Adds.{rank_by_letter}
use Rattle.crawl_history.specs.Scans.{last_of}
use Rattle.item_form.proofs.Letters.{last_letter}
use Rattle.item_form.proofs.item.rank_of.Goals as goal

pub returns : goal.returns
returns c =
    let letter : c.copied.result ≡ last_of (λ letter. Some letter) c.args.path.now = c.copied.ensures ∙ c.last.ensures.value ∙ last_letter c.args.path.now in
    c.rank_by_letter.ensures ∙ ap rank_by_letter letter ∙ sym (cond-false _ 0 _ (sym c.starts_with.ensures.value ∙ c.if-starts_with.false))
