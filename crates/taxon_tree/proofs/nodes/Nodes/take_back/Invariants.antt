use Rattle.std.proofs.Common.{◌≡◌, ◌<◌, All, length}
use Rattle.taxon_tree.specs.Trees.{Trees, IsForest, children_of}
use Rattle.taxon_tree.specs.Undo.{Grown}
use Rattle.taxon_tree.proofs.nodes.Nodes.take_back.Given as goal

abbrev pub invariant-loop-self : goal.invariant-loop-self
invariant-loop-self l = record {
  parent_within : l.parent < length l.self.children;
  children_within : All (λ c. c < length l.self.parents) (children_of l.self l.parent);
  grown : (start : Trees) → IsForest start → l.parent < length start.names → l.kept ≡ length (children_of start l.parent)
      → Grown start l.parent l.initial.self → Grown start l.parent l.self;
}

abbrev pub decreases-loop-self : goal.decreases-loop-self
decreases-loop-self l = length (children_of l.self l.parent)
