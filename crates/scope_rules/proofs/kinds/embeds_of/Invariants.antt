use Rattle.std.proofs.Common.{◌≡◌, ◌+◌, ◌≤◌, ◌==◌, length, not, take}
use Rattle.std.specs.List.{suffix_len}
use Rattle.scope_spec.specs.Answer.{link_letter}
use Rattle.scope_rules.proofs.kinds.embeds_of.Given as goal

abbrev pub invariant-loop-start : goal.invariant-loop-start
invariant-loop-start l = record {
  within : l.start ≤ length l.path;
  counted : l.start + suffix_len (λ letter. not (letter == link_letter)) l.path ≡ length l.path + suffix_len (λ letter. not (letter == link_letter)) (take l.start l.path);
}

abbrev pub decreases-loop-start : goal.decreases-loop-start
decreases-loop-start l = l.start
