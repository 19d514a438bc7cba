use Rattle.std.proofs.Common.{◌+◌, true, false, set, subst, sym}
use Rattle.family_solver.specs.Kept.Keeping.{IsClash, IsVerdict}
use Rattle.family_solver.specs.declared.kept.solver.Verdict.TheVariants.{Met, Clash}
use Rattle.conflict_min.specs.Shrinking.{IsShrunk}
use Rattle.conflict_min.proofs.Courses.{course_dropped, course_kept, clash_kept_on}
use Rattle.conflict_min.proofs.points.ask_without.Goals as goal

pub returns-in-Clash-clause-after : goal.returns-in-Clash-clause-after
returns-in-Clash-clause-after c =
    let p = c.args.problem.now in
    let place = c.args.place in
    let kept = c.args.course.now.kept.items in
    let core = c.in-Clash.core in
    let clash : IsClash p (set kept place false) core.items =
    subst (λ flags. IsVerdict p flags (Clash core)) c.deref.ensures.value (subst (IsVerdict p c.deref.result.now) c.in-Clash.is c.in_ok-core.ensures.answer)
    in
    λ told. record { shrunk = course_dropped p place kept core.items c.args.course.now.families.items c.requires.before.shrunk c.requires.within clash; clash = clash }

pub returns-in_ok-add_family-in-Met-clause-after : goal.returns-in_ok-add_family-in-Met-clause-after
returns-in_ok-add_family-in-Met-clause-after c =
    let p = c.args.problem.now in
    let place = c.args.place in
    let kept = c.args.course.now.kept.items in
    let core = c.args.course.now.core.items in
    let families = c.args.course.now.families.items in
    let so = c.requires.before.shrunk in
    let met = subst (λ flags. IsVerdict p flags (Met c.in-Met.family)) c.deref.ensures.value (subst (IsVerdict p c.deref.result.now) c.in-Met.is c.in_ok-core.ensures.answer) in
    λ told.
    record {
      shrunk =
          subst (IsShrunk p (place + 1) (set (set kept place false) place true)) (sym c.in_ok-add_family-in-Met.ensures)
          (course_kept p place kept core families so c.requires.within c.in-Met.family met);
      clash = clash_kept_on p place kept core families so c.requires.within c.requires.before.clash;
    }
