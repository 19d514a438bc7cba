use Rattle.std.proofs.Common.{◌≡◌, ◌∙◌, ◌<◌, ◌∷◌, ◌++◌, [], take, length, get_or, true≢false, refl, sym, ap, subst, arith}
use Rattle.std.proofs.lemmas.List.{take_more}
use Rattle.rcc5_core.specs.declared.Rel.TheVariants.{Equals}
use Rattle.rcc5_core.specs.RelationSet.{has}
use Rattle.world_model.specs.Problem.{pair_count}
use Rattle.world_model.specs.Alive.{problem_at, IsAlive}
use Rattle.point_query.specs.Queries.{IsSolverOf}
use Rattle.point_query.proofs.Querying.{keeps_still, keeps_chain}
use Rattle.point_query.proofs.Choosing.{last_first, HasThose, one_in, one_out, has_none, one_of_five}
use Rattle.point_query.proofs.leading.each_tried.Goals as goal
use Rattle.point_query.proofs.leading.each_tried.Goals.{then-branch, else-branch}

pub loop-rel-init : goal.loop-rel-init
loop-rel-init c = record {
  solver = keeps_still _ _ c.requires.solver;
  pool = c.requires.pool;
  cursor = refl;
  each = λ rel. (λ h. absurd (true≢false (sym h ∙ ap (λ set. has set rel) c.none-alive.ensures ∙ has_none rel)), λ h. absurd (omega (arith, h.0.1)));
}

pub is_known_or_leads_on-requires-clause-within : goal.is_known_or_leads_on-requires-clause-within
is_known_or_leads_on-requires-clause-within c = subst (λ s. length s.path < pair_count s.problem) (sym c.loop-rel.invariant.cursor) c.requires.within

pub is_known_or_leads_on-requires-clause-alive : goal.is_known_or_leads_on-requires-clause-alive
is_known_or_leads_on-requires-clause-alive c = subst (λ s. IsAlive (problem_at s.problem s.path)) (sym c.loop-rel.invariant.cursor) c.requires.alive

pub is_known_or_leads_on-requires-clause-solver : goal.is_known_or_leads_on-requires-clause-solver
is_known_or_leads_on-requires-clause-solver c = subst (λ s. IsSolverOf s.problem c.loop-rel.solver) (sym c.loop-rel.invariant.cursor) c.loop-rel.invariant.solver.solver

pub is_known_or_leads_on-requires-clause-known : goal.is_known_or_leads_on-requires-clause-known
is_known_or_leads_on-requires-clause-known c = λ h.
    subst (λ s. IsAlive (problem_at s.problem (s.path ++ get_or last_first c.loop-rel.rel-index Equals ∷ []))) (sym c.loop-rel.invariant.cursor) (c.requires.known _ h)

pub returns-in_err-is_known_or_leads_on-clause-solver : goal.returns-in_err-is_known_or_leads_on-clause-solver
returns-in_err-is_known_or_leads_on-clause-solver c =
    keeps_chain c.law_literals_are_sets.ensures c.args.pool.now.cursor.problem c.loop-rel.pool.cursor.problem c.args.solver.now c.loop-rel.solver c.is_known_or_leads_on.new.solver
    (ap (λ s. s.problem) c.loop-rel.invariant.cursor) c.loop-rel.invariant.solver c.is_known_or_leads_on.ensures.solver

pub loop-rel-preserved : goal.loop-rel-preserved
loop-rel-preserved c =
    let p = c.args.pool.now.cursor.problem in
    let m = c.args.pool.now.cursor.path in
    let i = c.loop-rel.rel-index in
    let rel = get_or last_first i Equals in
    let more = take_more last_first i Equals c.loop-rel-test.true in
    let said = c.in_ok-is_known_or_leads_on.ensures in
    let same = c.loop-rel.invariant.cursor in
    record {
      solver = keeps_chain c.law_literals_are_sets.ensures c.args.pool.now.cursor.problem c.loop-rel.pool.cursor.problem c.args.solver.now c.loop-rel.solver c.is_known_or_leads_on.new.solver
          (ap (λ s. s.problem) same) c.loop-rel.invariant.solver c.is_known_or_leads_on.ensures.solver;
      pool = said.pool;
      cursor = said.cursor ∙ same;
      each = elim c.if-branch.branch [
        | then-branch w ↦
            let alive = subst (λ s. IsAlive (problem_at s.problem (s.path ++ rel ∷ []))) same (said.alive.0 w.if-branch.true) in
            rw (more, w.alive-is, w.with-alive.ensures) (one_in (λ q. IsAlive (problem_at p (m ++ q ∷ []))) (take i last_first) rel c.loop-rel.alive c.loop-rel.invariant.each alive)
        | else-branch w ↦
            let dead : IsAlive (problem_at p (m ++ rel ∷ [])) → ⊥ = λ alive. true≢false (sym (said.alive.1 (subst (λ s. IsAlive (problem_at s.problem (s.path ++ rel ∷ []))) (sym same) alive)) ∙ w.if-branch.false) in
            rw (more, w.alive-is) (one_out (λ q. IsAlive (problem_at p (m ++ q ∷ []))) (take i last_first) rel c.loop-rel.alive c.loop-rel.invariant.each dead)
      ];
    }

pub returns-clause-each : goal.returns-clause-each
returns-clause-each c = λ rel.
    let p = c.args.pool.now.cursor.problem in
    let m = c.args.pool.now.cursor.path in
    let all : c.loop-rel.rel-index ≡ 5 = omega arith in
    let each = subst (λ i. HasThose (λ r. IsAlive (problem_at p (m ++ r ∷ []))) (take i last_first) c.loop-rel.alive) all c.loop-rel.invariant.each in
    (λ h. ((each rel).0 h).1, λ alive. (each rel).1 (one_of_five rel, alive))
