use Rattle.link_spec.specs.Cut.{passing}
use Rattle.link_spec.specs.Segments.{segment_at}
use Rattle.link_spec.specs.Css.{css_use}
use Rattle.link_spec.specs.Scripts.{string_use}
use Rattle.link_spec.proofs.Cuts.{cut-once}
use Rattle.link_spec.proofs.each_text_is_cut_once.Goals as goal

pub returns : goal.returns
returns c = record { html = cut-once segment_at; css = cut-once (passing css_use); strings = cut-once (passing string_use) }
