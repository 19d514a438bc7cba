use Rattle.std.proofs.Common.{◌≡◌, drop}
use Rattle.cert_rules.specs.Trees.{same_position, table_along}
use Rattle.cert_tree.proofs.tree.Branching.is_table.Given as goal

-- what is left of both decides
abbrev pub invariant-loop-depth : goal.invariant-loop-depth
invariant-loop-depth l =
    same_position (drop l.depth (table_along l.self.levels l.family)) (drop l.depth l.path) ≡ same_position (table_along l.self.levels l.family) l.path
