use Rattle.std.proofs.Common.{arith}
use Rattle.learn_solver.proofs.TrailPlaces.{level-most}
use Rattle.learn_solver.proofs.learner.Learner.level_of.Goals as goal

pub returns-in-Some-clause-within : goal.returns-in-Some-clause-within
returns-in-Some-clause-within c =
    let most = level-most c.args.self.now.trail c.in-Some.place c.facts.ensures c.in-Some.ensures.within.0 in
    let is = c.level_on.ensures in
    omega arith
