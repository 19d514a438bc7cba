use Rattle.std.proofs.Common.{◌≡◌, ◌<◌, length, map, drop}
use Rattle.taxon_tree.specs.Trees.{IsForest}
use Rattle.taxon_tree.specs.Row.{add_children}
use Rattle.taxon_tree.specs.Undo.{Grown}
use Rattle.taxon_tree.proofs.nodes.Nodes.put_children.Given as goal

abbrev pub invariant-loop-name : goal.invariant-loop-name
invariant-loop-name l = record {
  forest : IsForest l.self;
  parent_within : l.parent < length l.self.names;
  grown : Grown l.initial.self l.parent l.self;
  rest : add_children l.limit l.parent l.self (map (λ v. v.items) (drop l.name-index l.names)) ≡ add_children l.limit l.parent l.initial.self (map (λ v. v.items) l.names);
}
