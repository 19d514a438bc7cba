use Rattle.std.proofs.Common.{◌≡◌, ◌∙◌, length, ap, arith}
use Rattle.std.proofs.lemmas.Bool.Decides.{nat_tests}
use Rattle.learn_solver.proofs.Idle.{few_idle}
use Rattle.learn_solver.proofs.learner.Learner.has_more_idle.Goals as goal

pub returns-else-derived-most : goal.returns-else-derived-most
returns-else-derived-most c =
    let l = c.args.self.now in
    let few = few_idle l.trail.places l.trail.records l.given in
    let counted : c.count.result ≡ length l.trail.records = c.count.ensures ∙ ap length c.arena.ensures in
    grind (arith, nat_tests)
