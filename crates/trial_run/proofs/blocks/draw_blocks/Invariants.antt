use Rattle.std.proofs.Common.{◌≡◌, ◌<◌, ◌-◌, map}
use Rattle.std.specs.List.{range_with_len}
use Rattle.trial_run.specs.Draws.{draw, loose_block, block_of}
use Rattle.trial_run.proofs.blocks.draw_blocks.Given as goal

abbrev pub invariant-loop-number : goal.invariant-loop-number
invariant-loop-number l = record {
  drawn : l.drawn ≡ draw l.seed l.number;
  below : l.drawn < 65537;
  loose : l.loose ≡ loose_block l.seed l.count;
  blocks : l.blocks.items ≡ map (block_of l.seed l.count) (range_with_len 1 (l.number - 1));
}
