use Rattle.std.proofs.Common.{take, ◌≡◌, ◌∷◌, ◌∙◌, Ok, ap, codes, sym, arith}
use Rattle.std.proofs.lemmas.List.{take_all}
use Rattle.taxon_tree.specs.Row.{add_row}
use Rattle.taxon_tree.specs.Trees.{Trees, no_trees}
use Rattle.trial_run.specs.Names.{tops}
use Rattle.trial_run.proofs.Grown.{grown, first_row, block_row-grown, grown-all}
use Rattle.trial_run.proofs.taxonomy.taxonomy.Goals as goal

pub loop-block-init : goal.loop-block-init
loop-block-init c =
    let from : add_row 1024 no_trees (codes "r" ∷ tops c.args.blocks.now c.args.singles) ≡ Ok c.put_top.new.forest =
    ap (λ (f : Trees). add_row 1024 f (codes "r" ∷ tops c.args.blocks.now c.args.singles)) (sym c.new-forest.ensures) ∙ c.in_ok-put_top.ensures.ok in
    let first = first_row c.args.swaps c.args.blocks.now c.args.singles c.put_top.new.forest from in
    record { grown = first.0; root = first.1; forest = c.in_ok-put_top.ensures.forest }

pub loop-block-preserved : goal.loop-block-preserved
loop-block-preserved c =
    let blocks = c.args.blocks.now in
    let next = block_row-grown c.args.swaps blocks c.args.singles c.loop-block.block-index _ c.loop-block.forest c.put_block.new.forest
    c.requires.plan c.loop-block-test.true c.loop-block.invariant.grown c.loop-block.invariant.root c.loop-block.invariant.forest c.in_ok-put_block.ensures.ok in
    record { grown = next.0; root = next.1; forest = c.in_ok-put_block.ensures.forest }

pub returns : goal.returns
returns c =
    let all : take c.loop-block.block-index c.args.blocks.now ≡ c.args.blocks.now = take_all _ _ (omega arith) in
    c.loop-block.invariant.grown ∙ ap (grown c.args.swaps c.args.blocks.now c.args.singles) all ∙ grown-all c.args.swaps c.args.blocks.now c.args.singles
