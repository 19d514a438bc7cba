-- What is drawn from a seed: for each block of a taxonomy, its form and whether its children are swapped.
use Rattle.std.specs.Prelude.{ℕ, zero, suc, ◌+◌, ◌*◌, ◌/◌, ◌%◌, ◌==◌, List, map, Bool, if◌then◌else◌}
use Rattle.std.specs.List.{range_with_len}
use Rattle.trial_run.specs.declared.blocks.Form.{Form}
use Rattle.trial_run.specs.declared.blocks.Form.TheVariants.{Loose, Children, WholeAndLeft, AllThree}
use Rattle.trial_run.specs.declared.blocks.Block.{Block}

-- the draw after another
abbrev pub next_draw : ℕ → ℕ
next_draw x = (75 * x + 74) % 65537

-- the draws of a seed, from x0 on
unfoldable pub draw : ℕ → ℕ → ℕ
draw seed zero = seed % 65537
draw seed (suc k) = next_draw (draw seed k)

-- the number of the loose block, of so many
abbrev pub loose_block : ℕ → ℕ → ℕ
loose_block seed count = 1 + draw seed 1 % count

-- the form with a number below three
abbrev pub form_by : ℕ → Form
form_by zero = Children
form_by (suc zero) = WholeAndLeft
form_by (suc (suc n)) = AllThree

-- what its draw makes of a block, by whether it is the loose one
abbrev pub form_of : Bool → ℕ → Form
form_of is_loose drawn = if is_loose then Loose else form_by (drawn / 2 % 3)

-- block T, counted from 1, by the draw x(T+1)
abbrev pub block_of : ℕ → ℕ → ℕ → Block
block_of seed count number = record {
  number = number;
  is_swapped = draw seed (number + 1) % 2 == 1;
  form = form_of (number == loose_block seed count) (draw seed (number + 1));
}

-- all blocks, of so many
abbrev pub blocks_of : ℕ → ℕ → List Block
blocks_of seed count = map (block_of seed count) (range_with_len 1 count)
