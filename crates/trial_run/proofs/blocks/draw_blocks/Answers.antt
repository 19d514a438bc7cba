use Rattle.std.proofs.Common.{◌≡◌, ℕ, ◌+◌, ◌%◌, ◌==◌, [], ap, sym, ◌∙◌, arith}
use Rattle.trial_run.specs.declared.blocks.Form.{Form}
use Rattle.trial_run.specs.declared.blocks.Block.{Block}
use Rattle.trial_run.specs.Draws.{next_draw, draw, loose_block, form_of, block_of}
use Rattle.trial_run.proofs.Drawn.{draw-first, draw-more}
use Rattle.trial_run.proofs.Listed.{number_more}
use Rattle.trial_run.proofs.blocks.draw_blocks.Goals as goal

-- the block of a draw, where this one is loose
abbrev drawn_block : ℕ → ℕ → ℕ → Block
drawn_block number x loose = record { number = number; is_swapped = x % 2 == 1; form = form_of (number == loose) x }

pub loop-number-init : goal.loop-number-init
loop-number-init c =
    let first : c.next_draw-drawn.result ≡ draw c.args.seed 1 =
    c.next_draw-drawn.ensures.value ∙ ap (λ (m : ℕ). next_draw (c.args.seed % m)) c.from.ensures ∙ sym (draw-first c.args.seed) in
    record {
      drawn = first;
      below = c.next_draw-drawn.ensures.below;
      loose = ap (λ (x : ℕ). 1 + x % c.args.count) first;
      blocks = c.new-blocks.ensures.items;
    }

pub loop-number-preserved : goal.loop-number-preserved
loop-number-preserved c =
    let next : c.next_draw-drawn-in-loop-number.result ≡ draw c.args.seed (c.loop-number.number + 1) =
    c.next_draw-drawn-in-loop-number.ensures.value ∙ ap next_draw c.loop-number.invariant.drawn ∙ sym (draw-more c.args.seed c.loop-number.number) in
    let number : ℕ = c.loop-number.number in
    let is : ◌≡◌ {A = Block} (record { number = number; is_swapped = c.next_draw-drawn-in-loop-number.result % 2 == 1; form = c.form_of.result }) (block_of c.args.seed c.args.count number) =
    ap (λ (form : Form). record { number = number; is_swapped = c.next_draw-drawn-in-loop-number.result % 2 == 1; form = form }) c.form_of.ensures
    ∙ ap (λ (loose : ℕ). drawn_block number c.next_draw-drawn-in-loop-number.result loose) c.loop-number.invariant.loose
    ∙ ap (λ (x : ℕ). drawn_block number x (loose_block c.args.seed c.args.count)) next in
    record {
      drawn = next;
      below = c.next_draw-drawn-in-loop-number.ensures.below;
      loose = c.loop-number.invariant.loose;
      blocks = number_more (block_of c.args.seed c.args.count) [] _ _ c.loop-number.number _ (omega arith) c.loop-number.invariant.blocks c.in_ok-push.ensures.items is;
    }
