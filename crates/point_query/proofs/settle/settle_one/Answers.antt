use Rattle.std.proofs.Common.{refl, sym, ◌∙◌}
use Rattle.std.proofs.lemmas.Bool.{true≢false}
use Rattle.point_query.proofs.Querying.{keeps_still}
use Rattle.point_pool.proofs.Pooling.{but_settled}
use Rattle.point_query.proofs.settle.settle_one.Goals as goal

pub returns-then-number-count_needs-clause-solver : goal.returns-then-number-count_needs-clause-solver
returns-then-number-count_needs-clause-solver c = keeps_still _ _ c.requires.solver

pub returns-then-not-is_needed-clause-solver : goal.returns-then-not-is_needed-clause-solver
returns-then-not-is_needed-clause-solver c = keeps_still _ _ c.requires.solver

pub returns-then-not-is_needed-clause-settled : goal.returns-then-not-is_needed-clause-settled
returns-then-not-is_needed-clause-settled c =
    but_settled c.args.pool.now c.args.number c.requires.pool (λ needed. absurd (true≢false (sym needed ∙ sym c.if-not-is_needed.ensures)))

pub returns-then-is_served-clause-solver : goal.returns-then-is_served-clause-solver
returns-then-is_served-clause-solver c = keeps_still _ _ c.requires.solver

pub returns-then-is_served-clause-settled : goal.returns-then-is_served-clause-settled
returns-then-is_served-clause-settled c = but_settled c.args.pool.now c.args.number c.requires.pool (λ needed. c.if-is_served.ensures refl)
