use Rattle.std.proofs.Common.{◌≡◌, ◌++◌, length, map, drop}
use Rattle.std.specs.Prelude.{filter}
use Rattle.world_model.specs.Problem.{pairs}
use Rattle.world_model.specs.Node.{pair_at}
use Rattle.cert_tree.specs.Levels.{is_level, AreDepths}
use Rattle.cert_tree.proofs.levels.Levels.new.Given as goal

-- the pairs so far with those that are still to come are the levels
abbrev pub invariant-loop-pair : goal.invariant-loop-pair
invariant-loop-pair l = record {
  counted : length l.levels.depths.items ≡ l.pair;
  depths : AreDepths l.levels.list.items l.levels.depths.items;
  list : map (pair_at l.subject) l.levels.list.items ++ filter (is_level l.subject l.all) (drop l.pair (pairs l.subject)) ≡ filter (is_level l.subject l.all) (pairs l.subject);
}
