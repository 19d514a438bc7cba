-- The problem that is made from a seed and a size.
use Rattle.std.specs.Prelude.{◌≡◌, ◌≤◌, ℕ, ◌+◌, ◌-◌, ◌/◌, ◌%◌, true, false, List, [], ◌∷◌, ◌++◌, length, map, flat_map, codes}
use Rattle.std.specs.List.{range_with_len}
use Rattle.rcc5_core.specs.declared.Rel.TheVariants.{Equals, Disjoint}
use Rattle.rcc5_core.specs.declared.RelSet.{RelSet}
use Rattle.rcc5_core.specs.RelationSet.{only, adding}
use Rattle.taxon_tree.specs.Trees.{Trees}
use Rattle.taxon_tree.specs.Row.{place_of}
use Rattle.world_model.specs.Problem.{Problem}
use Rattle.world_model.specs.declared.Articulation.{Articulation}
use Rattle.world_model.specs.declared.Articulation.TheVariants.{Pair}
use Rattle.world_model.specs.declared.Switches.{Switches}
use Rattle.constraint_set.specs.Build.{problem_of}
use Rattle.trial_run.specs.declared.blocks.Form.{Form}
use Rattle.trial_run.specs.declared.blocks.Form.TheVariants.{Loose, Children, WholeAndLeft, AllThree}
use Rattle.trial_run.specs.declared.blocks.Block.{Block}
use Rattle.trial_run.specs.Draws.{blocks_of}
use Rattle.trial_run.specs.Names.{block_name, left_name, right_name, single_name, trees}

-- the sizes of which problems are made
pub record IsSize (size : ℕ) : Type 0 where
  pub even : size % 2 ≡ 0
  pub least : 14 ≤ size
  pub most : size ≤ 256

-- what is said of the concepts with one name in two taxonomies
abbrev pub said_of : Trees → Trees → List ℕ → RelSet → Articulation
said_of one other name set = Pair (place_of one name) (length one.names + place_of other name) set

-- what is said of a block
abbrev pub said_by : Trees → Trees → ℕ → Form → List Articulation
said_by one other number Loose = said_of one other (block_name number) (only Equals) ∷ []
said_by one other number Children =
    said_of one other (left_name number) (only Equals) ∷ said_of one other (right_name number) (only Equals) ∷ []
said_by one other number WholeAndLeft =
    said_of one other (block_name number) (only Equals) ∷ said_of one other (left_name number) (only Equals) ∷ []
said_by one other number AllThree =
    said_of one other (left_name number) (adding (only Equals) Disjoint) ∷
    said_of one other (right_name number) (only Equals) ∷
    said_of one other (block_name number) (only Equals) ∷ []

abbrev pub said_of_block : Trees → Trees → Block → List Articulation
said_of_block one other block = said_by one other block.number block.form

-- all that is said: block by block, and then that each concept beside the blocks equals that of its name
abbrev pub articulations : Trees → Trees → List Block → ℕ → List Articulation
articulations one other blocks singles =
    flat_map (said_of_block one other) blocks ++ map (λ number. said_of one other (single_name number) (only Equals)) (range_with_len 1 singles)

-- all rules hold
abbrev pub all_on : Switches
all_on = record { nonempty = true; sibling = true; coverage = true }

-- the problem of blocks and single concepts: two taxonomies of one form, the children of some blocks swapped in the second
abbrev pub problem_from : List Block → ℕ → Problem
problem_from blocks singles =
    problem_of (codes "1" ∷ codes "2" ∷ []) (trees false blocks singles ∷ trees true blocks singles ∷ [])
    (articulations (trees false blocks singles) (trees true blocks singles) blocks singles) all_on

-- how many blocks each taxonomy of a problem of this size has, and how many concepts beside them
abbrev pub block_count : ℕ → ℕ
block_count size = (size / 2 - 1) / 3

abbrev pub single_count : ℕ → ℕ
single_count size = (size / 2 - 1) % 3

-- the problem that is made
unfoldable pub made : ℕ → ℕ → Problem
made seed size = problem_from (blocks_of seed (block_count size)) (single_count size)
