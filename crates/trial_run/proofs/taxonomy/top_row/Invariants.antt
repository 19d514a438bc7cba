use Rattle.std.proofs.Common.{◌≡◌, ◌-◌, ◌∷◌, ◌++◌, map, take, codes}
use Rattle.std.specs.List.{range_with_len}
use Rattle.trial_run.specs.Names.{block_name, single_name}
use Rattle.trial_run.proofs.taxonomy.top_row.Given as goal

abbrev pub invariant-loop-block : goal.invariant-loop-block
invariant-loop-block l = map (λ name. name.items) l.row.items ≡ codes "r" ∷ map (λ block. block_name block.number) (take l.block-index l.blocks)

abbrev pub invariant-loop-number : goal.invariant-loop-number
invariant-loop-number l =
    map (λ name. name.items) l.row.items ≡ codes "r" ∷ map (λ block. block_name block.number) l.blocks ++ map single_name (range_with_len 1 (l.number - 1))
