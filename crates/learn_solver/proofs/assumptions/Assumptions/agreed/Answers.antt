use Rattle.std.proofs.Common.{◌≡◌, ◌+◌, ◌-◌, ◌++◌, ℕ, List, length, take, drop, subst, arith}
use Rattle.learn_solver.specs.Guides.{AssumptionsState}
use Rattle.learn_solver.proofs.CommonPrefix.{alike_both}
use Rattle.learn_solver.proofs.assumptions.Assumptions.agreed.Goals as goal

pub returns-clause-same : goal.returns-clause-same
returns-clause-same c =
    let first = c.common_len-first.result in
    let more = c.common_len.result in
    subst (λ (a : AssumptionsState). take (first + more) a.lits ≡ take (first + more) (c.args.assumptions.now ++ c.args.more.now)) c.self.view_is
    (alike_both first more c.self.inside.lits.items c.args.assumptions.now c.args.more.now (omega (arith, c.common_len-first.ensures.other))
    (subst (λ (assumptions : List ℕ). take first assumptions ≡ take first c.args.assumptions.now) c.deref.ensures.value c.common_len-first.ensures.same)
    (subst (λ (assumptions : List ℕ). take more (take (length assumptions - first) (drop first assumptions)) ≡ take more c.args.more.now) c.deref-2.ensures.value c.common_len.ensures.same))
