use Rattle.std.proofs.Common.{◌≡◌, ℕ, List, take, min, ◌∙◌, ap}
use Rattle.std.specs.List.{prefix_len}
use Rattle.std.specs.Char.{is_digit}
use Rattle.link_spec.specs.Entities.{number, numbered}
use Rattle.html_links.specs.Reading.{past_last}
use Rattle.html_links.proofs.Symbols.{numbered-cut}
use Rattle.html_links.proofs.entities.decimal.Goals as goal

pub returns-clause-found : goal.returns-clause-found
returns-clause-found c =
    let text = c.args.text.now in
    let digits = c.decimal_len-digits.result in
    let n : digits ≡ prefix_len (λ b. is_digit b 10) text = c.decimal_len-digits.ensures.count in
    let code : c.decimal_number.result ≡ min past_last (number 10 (take digits text)) = c.decimal_number.ensures ∙ ap (λ (xs : List ℕ). min past_last (number 10 xs)) c.up_to.ensures in
    c.numbered.ensures.found
    ∙ ap (λ k. numbered k digits text) code
    ∙ numbered-cut (number 10 (take digits text)) digits text
    ∙ ap (λ m. numbered (number 10 (take m text)) m text) n
