use Rattle.std.proofs.Common.{sym, ap, ◌∙◌, subst, arith}
use Rattle.family_solver.specs.Kept.Keeping.{AreAssumed}
use Rattle.family_solver.proofs.kept.Denying.{assumed_more, on_true}
use Rattle.family_solver.proofs.kept.flags.assumed.Goals as goal
use Rattle.family_solver.proofs.kept.flags.assumed.Goals.{then-kept-place+in_ok-push, else-kept-place}

pub loop-place-preserved : goal.loop-place-preserved
loop-place-preserved c =
    let g = c.args.ground.now in
    let kept = c.args.kept.now in
    elim c.if-kept-place.branch [
      | then-kept-place+in_ok-push w ↦
          subst (AreAssumed g kept) (sym (ap (λ v. v.items) w.lits-is ∙ w.in_ok-push.ensures.items))
          (assumed_more g kept c.loop-place.lits.items w.flag_lit.result c.loop-place.invariant (record { place = c.loop-place.place; on = on_true kept c.loop-place.place _ (omega (arith, c.loop-place-test.true)) w.if-kept-place.true; is = w.flag_lit.ensures }))
      | else-kept-place w ↦ subst (λ v. AreAssumed g kept v.items) (sym w.lits-is) c.loop-place.invariant
    ]
