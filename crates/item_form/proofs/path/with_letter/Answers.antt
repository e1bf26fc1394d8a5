use Rattle.std.proofs.Common.{◌≡◌, ◌++◌, ◌∷◌, [], List, ℕ, None, subst, sym, ◌∙◌}
use Rattle.crawl_kinds.specs.Text.{is_hop, text_fault}
use Rattle.crawl_history.specs.Adds.{last_letters}
use Rattle.item_form.proofs.Letters.{letter_fits}
use Rattle.item_form.proofs.path.with_letter.Goals as goal

pub keep-requires : goal.keep-requires
keep-requires c =
    let path = c.args.path.now in
    let text : c.as_str.result.now ≡ last_letters (path ++ c.args.letter ∷ []) =
    c.as_str.ensures.value ∙ c.in_ok-text.ensures ∙ c.kept_letters.ensures.last c.args.letter in
    subst (λ (t : List ℕ). text_fault is_hop 250 t ≡ None) (sym text) (letter_fits path c.args.letter c.kept_letters.ensures.hops c.requires)
