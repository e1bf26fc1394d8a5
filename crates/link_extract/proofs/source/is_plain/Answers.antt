use Rattle.std.proofs.Common.{rules, tests}
use Rattle.std.proofs.lemmas.Iterator.Search.{all_from_yields_List}
use Rattle.std.proofs.lemmas.Iterator.Splits.{YieldsList-from_slice_split}
use Rattle.httparse.specs.Grammar.{trim_ows}
use Rattle.extract_spec.specs.Source.{is_comma, is_plain_coding}
use Rattle.link_extract.proofs.source.is_plain.Goals as goal

pub returns : goal.returns
returns c =
    all_from_yields_List (λ part. is_plain_coding (trim_ows part)) _ _ _ c.all.ensures.ran
    (YieldsList-from_slice_split _ is_comma c.args.value.now c.split.ensures.rest c.split.ensures.done c.split.ensures.closure (λ x b q k. search (rules, tests)))
    (λ x b q k. search (rules, tests))
