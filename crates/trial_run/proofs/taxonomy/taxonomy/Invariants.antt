use Rattle.std.proofs.Common.{◌≡◌, take}
use Rattle.taxon_tree.specs.Trees.{IsForest}
use Rattle.trial_run.proofs.Rows.{HasRoot}
use Rattle.trial_run.proofs.Grown.{grown}
use Rattle.trial_run.proofs.taxonomy.taxonomy.Given as goal

abbrev pub invariant-loop-block : goal.invariant-loop-block
invariant-loop-block l = record {
  grown : l.forest ≡ grown l.swaps l.blocks l.singles (take l.block-index l.blocks);
  root : HasRoot l.forest;
  forest : IsForest l.forest;
}
