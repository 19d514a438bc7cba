use Rattle.std.proofs.Common.{sym, subst}
use Rattle.std.specs.Prelude.{All, IsTrue}
use Rattle.world_model.specs.Alive.{meets_trees}
use Rattle.point_pool.proofs.Pooling.{trees_move}
use Rattle.point_pool.proofs.pool.Pool.moved_to.Goals as goal

pub at_start-requires-clause-trees : goal.at_start-requires-clause-trees
at_start-requires-clause-trees c =
    let s = c.in_ok-places.places in
    subst (λ q. All (λ bits. IsTrue (meets_trees q bits)) s.points) (sym c.in_ok-copy.ensures)
    (trees_move c.args.self.cursor.problem c.args.problem.now s.points c.requires.shape c.in_ok-places.ensures.trees)
