use Rattle.std.proofs.Common.{◌≡◌, ℕ, ◌+◌, ◌-◌, take, drop, refl, subst, arith}
use Rattle.learn_solver.proofs.CommonPrefix.{alike_further}
use Rattle.learn_solver.proofs.alike.common_len.Goals as goal

pub many-preserved : goal.many-preserved
many-preserved c =
    let n = c.many.len in
    let size : (n + 64) - n ≡ 64 = omega arith in
    record {
      within = omega arith;
      same = alike_further n 64 c.args.one.now c.args.other.now c.many.invariant.same
          (subst (λ (m : ℕ). take m (drop n c.args.one.now) ≡ take m (drop n c.args.other.now)) size (c.if-are_alike.ensures refl));
    }
