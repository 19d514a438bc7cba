-- The draws one by one, and the blocks that they give.
use Rattle.std.proofs.Common.{◌≡◌, ◌+◌, ◌%◌, ℕ, zero, suc, ◌∷◌, map, length, add-one, refl, sym, ap, ◌∙◌}
use Rattle.std.specs.List.{range_with_len}
use Rattle.std.proofs.lemmas.List.FromFn.{length-map-range_with_len}
use Rattle.trial_run.specs.Draws.{next_draw, draw, block_of, blocks_of}
use Rattle.trial_run.specs.Plans.{IsPlan}

pub draw-first : (seed : ℕ) → draw seed 1 ≡ next_draw (seed % 65537)
unfolding draw
draw-first seed = refl

pub draw-more : (seed k : ℕ) → draw seed (k + 1) ≡ next_draw (draw seed k)
unfolding draw
draw-more seed k = ap (draw seed) (add-one k)

numbers : (seed count from n : ℕ) → map (λ block. block.number) (map (block_of seed count) (range_with_len from n)) ≡ range_with_len from n
numbers seed count from zero = refl
numbers seed count from (suc n) = ap (λ list. from ∷ list) (numbers seed count (from + 1) n)

-- the blocks are counted from 1, and are as many as are asked for
pub length-blocks_of : (seed count : ℕ) → length (blocks_of seed count) ≡ count
length-blocks_of seed count = length-map-range_with_len (block_of seed count) 1 count

pub plan-blocks_of : (seed count : ℕ) → IsPlan (blocks_of seed count)
plan-blocks_of seed count = record { numbers = numbers seed count 1 count ∙ ap (range_with_len 1) (sym (length-blocks_of seed count)) }
