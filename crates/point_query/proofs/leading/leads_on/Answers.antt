use Rattle.std.proofs.Common.{◌≡◌, ◌∙◌, false, length, sym, ap, subst}
use Rattle.std.specs.Prelude.{IsTrue}
use Rattle.std.proofs.lemmas.Bool.{false≢true}
use Rattle.rcc5_core.specs.RelationSet.{has}
use Rattle.world_model.specs.Node.{pair_at}
use Rattle.world_model.specs.Alive.{allowed}
use Rattle.point_query.proofs.Querying.{keeps_chain, keeps_still}
use Rattle.point_query.proofs.Following.{refused_is_dead}
use Rattle.point_query.proofs.leading.leads_on.Goals as goal

pub returns-then-not-has-clause-solver : goal.returns-then-not-has-clause-solver
returns-then-not-has-clause-solver c = keeps_still _ _ c.requires.solver

pub is_ruled_out-requires-clause-allowed : goal.is_ruled_out-requires-clause-allowed
is_ruled_out-requires-clause-allowed c = ap (λ s. has s c.args.rel) (sym c.next_set.ensures) ∙ sym c.has.ensures ∙ c.if-not-has.false

pub tried-requires-clause-allowed : goal.tried-requires-clause-allowed
tried-requires-clause-allowed c =
    subst (λ s. IsTrue (has (allowed s.problem (pair_at s.problem (length s.path))) c.args.rel)) (sym c.in_ok-dead.ensures.cursor)
    (ap (λ s. has s c.args.rel) (sym c.next_set.ensures) ∙ sym c.has.ensures ∙ c.if-not-has.false)

pub returns-then-dead-clause-alive : goal.returns-then-dead-clause-alive
returns-then-dead-clause-alive c = (λ yes. absurd (false≢true yes), λ alive. absurd (c.in_ok-dead.ensures.dead c.if-dead.true alive))

pub returns-then-not-has-clause-alive : goal.returns-then-not-has-clause-alive
returns-then-not-has-clause-alive c =
    let s = c.args.pool.now.cursor in
    let refused : has (allowed s.problem (pair_at s.problem (length s.path))) c.args.rel ≡ false = ap (λ x. has x c.args.rel) (sym c.next_set.ensures) ∙ sym c.has.ensures ∙ c.if-not-has.true in
    (λ yes. absurd (false≢true yes), λ alive. absurd (refused_is_dead s.problem s.path c.args.rel c.requires.within refused alive))

pub returns-clause-solver : goal.returns-clause-solver
returns-clause-solver c =
    keeps_chain c.law_literals_are_sets.ensures c.args.pool.now.cursor.problem c.is_ruled_out.new.pool.cursor.problem c.args.solver.now c.is_ruled_out.new.solver c.tried.new.solver
    (ap (λ s. s.problem) c.in_ok-dead.ensures.cursor) c.is_ruled_out.ensures.solver c.tried.ensures.solver
