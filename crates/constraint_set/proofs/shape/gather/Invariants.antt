use Rattle.std.proofs.Common.{◌≡◌, take}
use Rattle.std.specs.List.{AllWithin}
use Rattle.taxon_tree.specs.Trees.{IsForest}
use Rattle.constraint_set.specs.Gather.{gathered}
use Rattle.constraint_set.proofs.shape.gather.Given as goal

-- the first forests are taken in
abbrev pub invariant-loop-which : goal.invariant-loop-which
invariant-loop-which l = record {
  concepts : l.all ≡ gathered (take l.which l.forests);
  forests : AllWithin IsForest l.forests 0 l.which;
}
