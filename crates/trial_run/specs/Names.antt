-- The concepts of a taxonomy that is made, and how they stand under each other.
use Rattle.std.specs.Prelude.{ℕ, ◌+◌, ◌*◌, ◌-◌, ◌&&◌, Bool, List, [], ◌∷◌, ◌++◌, length, map, flat_map, replicate, Some, None, codes, decimal, if◌then◌else◌}
use Rattle.std.specs.List.{range_with_len}
use Rattle.taxon_tree.specs.Trees.{Trees}
use Rattle.trial_run.specs.declared.blocks.Block.{Block}

-- the names of a block, of its two children, and of a concept beside the blocks
abbrev pub block_name : ℕ → List ℕ
block_name number = codes "b" ++ decimal number

abbrev pub left_name : ℕ → List ℕ
left_name number = codes "b" ++ (decimal number ++ codes "l")

abbrev pub right_name : ℕ → List ℕ
right_name number = codes "b" ++ (decimal number ++ codes "r")

abbrev pub single_name : ℕ → List ℕ
single_name number = codes "s" ++ decimal number

-- the concepts under the root
abbrev pub tops : List Block → ℕ → List (List ℕ)
tops blocks singles = map (λ block. block_name block.number) blocks ++ map single_name (range_with_len 1 singles)

-- the two children of a block in the order of its row, in a taxonomy that swaps them where it was drawn or in one that doesn't
abbrev pub kids : Bool → Block → List (List ℕ)
kids swaps block =
    if swaps && block.is_swapped then right_name block.number ∷ left_name block.number ∷ []
    else left_name block.number ∷ right_name block.number ∷ []

-- their numbers: the root and all concepts under it come first
abbrev pub kid_numbers : ℕ → Block → List ℕ
kid_numbers top_count block = let first : ℕ = top_count + 2 * block.number - 1 in first ∷ (first + 1) ∷ []

-- a taxonomy: the root with all blocks and single concepts under it, and two children under each block
abbrev pub trees : Bool → List Block → ℕ → Trees
trees swaps blocks singles = record {
  names = codes "r" ∷ tops blocks singles ++ flat_map (kids swaps) blocks;
  parents = None ∷ replicate (length blocks + singles) (Some 0) ++ flat_map (λ block. Some block.number ∷ Some block.number ∷ []) blocks;
  children = range_with_len 1 (length blocks + singles) ∷ map (kid_numbers (length blocks + singles)) blocks ++ replicate (singles + 2 * length blocks) [];
}
