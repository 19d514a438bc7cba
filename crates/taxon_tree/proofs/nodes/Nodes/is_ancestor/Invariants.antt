use Rattle.std.proofs.Common.{◌≡◌, ◌<◌, ◌-◌, length}
use Rattle.taxon_tree.specs.Ancestry.{is_ancestor}
use Rattle.taxon_tree.specs.AncestorSearch.{reaches}
use Rattle.taxon_tree.proofs.nodes.Nodes.is_ancestor.Given as goal

abbrev pub invariant-loop : goal.invariant-loop
invariant-loop l = record {
  within : l.here < length l.self.names;
  found : reaches (l.end - l.counter) l.self l.upper l.here ≡ is_ancestor l.self l.upper l.lower;
}
