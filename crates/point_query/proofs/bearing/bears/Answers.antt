use Rattle.std.proofs.Common.{◌≡◌, ◌∙◌, ◌∷◌, ◌++◌, [], get_or, inl, inr, refl, sym, ap, subst, arith}
use Rattle.std.specs.Prelude.{Contains}
use Rattle.std.proofs.lemmas.List.{get_or_default}
use Rattle.point_pool.proofs.Losing.{more_below}
use Rattle.point_query.specs.Closing.{IsKeptAfter}
use Rattle.point_query.proofs.Following.{child_allows}
use Rattle.point_query.proofs.Keeping.{kept_is_alive}
use Rattle.point_query.proofs.Querying.{keeps_still, keeps_chain}
use Rattle.point_query.proofs.bearing.bears.Goals as goal

pub returns-in_err-numbers-clause-solver : goal.returns-in_err-numbers-clause-solver
returns-in_err-numbers-clause-solver c = keeps_still _ _ c.requires.solver

pub loop-number-init : goal.loop-number-init
loop-number-init c = record { solver = keeps_still _ _ c.requires.solver; pool = c.requires.pool; cursor = refl; kept = λ k small. absurd (omega (arith, small)) }

pub returns-in_err-kept-clause-solver : goal.returns-in_err-kept-clause-solver
returns-in_err-kept-clause-solver c =
    keeps_chain c.law_literals_are_sets.ensures c.args.pool.now.cursor.problem c.loop-number.pool.cursor.problem c.args.solver.now c.loop-number.solver c.keeps_point.new.solver
    (ap (λ s. s.problem) c.loop-number.invariant.cursor) c.loop-number.invariant.solver c.keeps_point.ensures.solver

pub returns-then-not-kept-clause-solver : goal.returns-then-not-kept-clause-solver
returns-then-not-kept-clause-solver c =
    keeps_chain c.law_literals_are_sets.ensures c.args.pool.now.cursor.problem c.loop-number.pool.cursor.problem c.args.solver.now c.loop-number.solver c.keeps_point.new.solver
    (ap (λ s. s.problem) c.loop-number.invariant.cursor) c.loop-number.invariant.solver c.keeps_point.ensures.solver

pub loop-number-preserved : goal.loop-number-preserved
loop-number-preserved c =
    let s = c.args.pool.now.cursor in
    let items = c.deref-number-items.result.now in
    let i = c.loop-number.number-index in
    record {
      solver = keeps_chain c.law_literals_are_sets.ensures s.problem c.loop-number.pool.cursor.problem c.args.solver.now c.loop-number.solver c.keeps_point.new.solver
          (ap (λ s. s.problem) c.loop-number.invariant.cursor) c.loop-number.invariant.solver c.keeps_point.ensures.solver;
      pool = c.in_ok-kept.ensures.pool;
      cursor = c.in_ok-kept.ensures.cursor ∙ c.loop-number.invariant.cursor;
      kept = more_below (λ k. IsKeptAfter s c.args.rel (get_or items k 0)) i c.loop-number.invariant.kept
          (subst (λ t. IsKeptAfter t c.args.rel (get_or items i 0)) c.loop-number.invariant.cursor (c.in_ok-kept.ensures.kept c.if-not-kept.false));
    }

pub returns-clause-alive : goal.returns-clause-alive
returns-clause-alive c =
    let s = c.args.pool.now.cursor in
    let items = c.deref-number-items.result.now in (
      λ _. kept_is_alive s.problem (s.path ++ c.args.rel ∷ []) (child_allows s.problem s.path c.args.rel c.requires.allow c.requires.within c.requires.allowed)
          (λ number below needed. elim (c.in_ok-numbers.ensures number below needed) [
            | inl listed ↦
                let h = subst (λ ns. Contains ns number) (sym c.deref-number-items.ensures.value) listed in
                let same : get_or items h.0 0 ≡ number = get_or_default items h.0 0 number h.1 ∙ h.2 in
                subst (λ n. IsKeptAfter s c.args.rel n) same (c.loop-number.invariant.kept h.0 (omega (arith, h.1, c.loop-number-test.false))) below needed
            | inr has ↦ has
          ]),
      λ _. refl,
    )
