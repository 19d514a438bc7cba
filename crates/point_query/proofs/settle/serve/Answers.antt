use Rattle.std.proofs.Common.{◌+◌, subst}
use Rattle.point_encode.specs.Model.Forced.{need_at}
use Rattle.point_query.specs.Answers.{IsFound}
use Rattle.point_query.specs.Queries.{asker_with}
use Rattle.point_query.proofs.Querying.{keeps_still}
use Rattle.point_query.proofs.settle.serve.Goals as goal

pub returns-in_err-assign-clause-solver : goal.returns-in_err-assign-clause-solver
returns-in_err-assign-clause-solver c = keeps_still _ _ c.requires.solver

pub returns-in-Some-clause-solver : goal.returns-in-Some-clause-solver
returns-in-Some-clause-solver c = keeps_still _ _ c.requires.solver

pub returns-in-Some-known-clause-solver : goal.returns-in-Some-known-clause-solver
returns-in-Some-known-clause-solver c = keeps_still _ _ c.requires.solver

pub returns-in_err-draft-clause-solver : goal.returns-in_err-draft-clause-solver
returns-in_err-draft-clause-solver c = keeps_still _ _ c.requires.solver

pub add-requires-clause-kept : goal.add-requires-clause-kept
add-requires-clause-kept c = (c.draft.ensures.pool c.args.number (c.args.number + 1) c.requires.pool).kept

pub assign-requires-in-Point-clause-pool : goal.assign-requires-in-Point-clause-pool
assign-requires-in-Point-clause-pool c = c.in_ok-place-in-Point.ensures.pool c.args.number (c.args.number + 1) (c.draft.ensures.pool c.args.number (c.args.number + 1) c.requires.pool)

pub returns-in-Closed-clause-closed : goal.returns-in-Closed-clause-closed
returns-in-Closed-clause-closed c =
    let w = c.draft.new.self in (
      c.draft.ensures.pool c.args.number (c.args.number + 1) c.requires.pool,
      subst (λ f. IsFound (asker_with w.cursor.problem c.found.new.solver) w.cursor.problem w.cursor.path (need_at w.cursor.problem c.args.number) f) c.in-Closed.is c.in_ok-bits.ensures.found,
    )
