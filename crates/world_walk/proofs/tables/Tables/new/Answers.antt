use Rattle.std.proofs.Common.{sym, subst}
use Rattle.point_ladder.specs.Ladders.{IsBoundOf}
use Rattle.world_walk.specs.Tables.{tables_of, IsNewListing}
use Rattle.world_walk.proofs.HasBegun.{new_listing}
use Rattle.world_walk.proofs.tables.Tables.new.Goals as goal

pub invariant_of-result : goal.invariant_of-result
invariant_of-result c =
    let bound : IsBoundOf c.in_ok-problem.problem c.in_ok-along.along = subst (λ p. IsBoundOf p c.in_ok-along.along) (sym c.in_ok-problem.ensures) c.in_ok-along.ensures in
    (new_listing c.in_ok-problem.problem c.in_ok-along.along c.args.from.now c.in_ok-way.way bound c.in_ok-way.ensures).0

pub returns : goal.returns
returns c =
    let bound : IsBoundOf c.in_ok-problem.problem c.in_ok-along.along = subst (λ p. IsBoundOf p c.in_ok-along.along) (sym c.in_ok-problem.ensures) c.in_ok-along.ensures in
    subst (λ p. IsNewListing p c.args.from.now (tables_of c.in_ok-problem.problem c.in_ok-way.way)) c.in_ok-problem.ensures
    (new_listing c.in_ok-problem.problem c.in_ok-along.along c.args.from.now c.in_ok-way.way bound c.in_ok-way.ensures).1
