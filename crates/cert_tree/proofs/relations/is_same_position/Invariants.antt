use Rattle.std.proofs.Common.{◌≡◌, drop}
use Rattle.cert_rules.specs.Trees.{same_position}
use Rattle.cert_tree.proofs.relations.is_same_position.Given as goal

-- what is left of both decides
abbrev pub invariant-loop-place : goal.invariant-loop-place
invariant-loop-place l = same_position (drop l.place l.a) (drop l.place l.b) ≡ same_position l.a l.b
