use Rattle.std.proofs.Common.{◌≡◌, true, false, take, sym, ◌∙◌, ap}
use Rattle.std.specs.List.{list_any, slice_split}
use Rattle.link_spec.specs.Words.{is_blank}
use Rattle.link_spec.specs.Values.{is_embedding_word}
use Rattle.html_links.proofs.Rels.{words-more, words-here, words-end}
use Rattle.html_links.proofs.elements.has_embedding_word.Goals as goal

pub returns-then-is_embedding_word : goal.returns-then-is_embedding_word
returns-then-is_embedding_word c =
    let passes : is_embedding_word (take c.words.len c.words.rest.now) ≡ true = sym (ap is_embedding_word c.up_to.ensures) ∙ sym c.is_embedding_word.ensures ∙ c.if-is_embedding_word.true in
    words-here c.words.rest.now c.words.len _ c.words.invariant.place c.words-test.true passes c.words.invariant.any

pub words-preserved : goal.words-preserved
words-preserved c =
    let fails : is_embedding_word (take c.words.len c.words.rest.now) ≡ false = sym (ap is_embedding_word c.up_to.ensures) ∙ sym c.is_embedding_word.ensures ∙ c.if-is_embedding_word.false in
    record {
      place = c.word_len-len-in-words.ensures.count;
      any = ap (λ t. list_any is_embedding_word (slice_split is_blank t)) c.from-rest.ensures ∙ words-more c.words.rest.now c.words.len _ c.words.invariant.place c.words-test.true fails c.words.invariant.any;
    }

pub returns : goal.returns
returns c = c.is_embedding_word-2.ensures ∙ words-end c.words.rest.now c.words.len _ c.words.invariant.place c.words-test.false c.words.invariant.any
