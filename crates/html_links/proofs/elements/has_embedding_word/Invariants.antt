use Rattle.std.proofs.Common.{◌≡◌, length}
use Rattle.std.specs.List.{list_any, slice_split, position_or_len}
use Rattle.link_spec.specs.Words.{is_blank}
use Rattle.link_spec.specs.Values.{is_embedding_word}
use Rattle.html_links.proofs.elements.has_embedding_word.Given as goal

abbrev pub invariant-words : goal.invariant-words
invariant-words l = record {
  place : l.len ≡ position_or_len is_blank l.rest;
  any : list_any is_embedding_word (slice_split is_blank l.rest) ≡ list_any is_embedding_word (slice_split is_blank l.rel);
}

abbrev pub decreases-words : goal.decreases-words
decreases-words l = length l.rest
