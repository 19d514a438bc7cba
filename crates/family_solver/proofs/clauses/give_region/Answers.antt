use Rattle.std.proofs.Common.{length, sym, subst}
use Rattle.family_solver.specs.Showing.{HasPoints, IsSo}
use Rattle.family_solver.proofs.Ruling.{region_true}
use Rattle.family_solver.proofs.clauses.give_region.Goals as goal

pub give-requires-clause-so : goal.give-requires-clause-so
give-requires-clause-so c =
    let p = c.args.problem.now in
    let g = c.args.ground.now in
    let new = c.push_points.new.lits.items in
    let there = subst (λ ps. HasPoints ps (length ps) c.args.pair c.args.region new) c.deref.ensures.value c.in_ok-push_points.ensures.there in
    subst (IsSo p g) (sym c.deref-2.ensures.value) (region_true c.trial_is_right.ensures p g c.requires.ground c.args.pair c.args.region c.args.lits.items new c.in_ok-push_points.ensures.stay there c.requires.so)
