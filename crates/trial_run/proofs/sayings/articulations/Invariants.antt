use Rattle.std.proofs.Common.{◌≡◌, ◌-◌, ◌++◌, map, take}
use Rattle.std.specs.Prelude.{flat_map}
use Rattle.std.specs.List.{range_with_len}
use Rattle.rcc5_core.specs.declared.Rel.TheVariants.{Equals}
use Rattle.rcc5_core.specs.RelationSet.{only}
use Rattle.trial_run.specs.Names.{single_name}
use Rattle.trial_run.specs.Made.{said_of, said_of_block}
use Rattle.trial_run.proofs.sayings.articulations.Given as goal

abbrev pub invariant-loop-block : goal.invariant-loop-block
invariant-loop-block l = l.said.items ≡ flat_map (said_of_block l.one l.other) (take l.block-index l.blocks)

abbrev pub invariant-loop-number : goal.invariant-loop-number
invariant-loop-number l =
    l.said.items ≡ flat_map (said_of_block l.one l.other) l.blocks ++ map (λ number. said_of l.one l.other (single_name number) (only Equals)) (range_with_len 1 (l.number - 1))
