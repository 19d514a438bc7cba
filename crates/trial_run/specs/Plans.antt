-- What the steps of making a problem keep.
use Rattle.std.specs.Prelude.{◌≡◌, ◌+◌, ◌<◌, ℕ, List, length, map, Contains}
use Rattle.std.specs.List.{range_with_len}
use Rattle.taxon_tree.specs.Trees.{Trees}
use Rattle.trial_run.specs.declared.blocks.Block.{Block}
use Rattle.trial_run.specs.Names.{block_name, left_name, right_name}

-- the blocks are counted from 1
pub record IsPlan (blocks : List Block) : Type 0 where
  pub numbers : map (λ block. block.number) blocks ≡ range_with_len 1 (length blocks)

-- two taxonomies have a concept of this name, and few concepts
pub record BothHave (one other : Trees) (name : List ℕ) : Type 0 where
  pub in_one : Contains one.names name
  pub in_other : Contains other.names name
  pub few : length one.names + length other.names < 1024

-- and the three concepts of the block with this number
pub record BothHaveBlock (one other : Trees) (number : ℕ) : Type 0 where
  pub whole : BothHave one other (block_name number)
  pub left : BothHave one other (left_name number)
  pub right : BothHave one other (right_name number)
