use Rattle.std.proofs.Common.{◌≡◌, ◌-◌, ◌<◌, ◌++◌, length, drop}
use Rattle.std.specs.List.{AllByRecursion}
use Rattle.gate_log.specs.Blocks.{blocks, IsBody}
use Rattle.gate_log.specs.Reading.{bodies_of, placed}
use Rattle.gate_log.proofs.blocks.read_blocks.Given as goal

-- the bytes before this gate are the blocks so far
abbrev pub invariant-loop-at : goal.invariant-loop-at
invariant-loop-at l = record {
  within : l.at < length l.bytes;
  all : AllByRecursion IsBody (bodies_of l.list);
  place : l.at ≡ length (blocks (bodies_of l.list));
  so_far : l.bytes ≡ blocks (bodies_of l.list) ++ drop l.at l.bytes;
  places : l.list ≡ placed 0 (bodies_of l.list);
}

abbrev pub decreases-loop-at : goal.decreases-loop-at
decreases-loop-at l = length l.bytes - l.at
