use Rattle.std.proofs.Common.{sym, ap, ◌∙◌}
use Rattle.family_solver.proofs.Ruling.{concept_seen}
use Rattle.family_solver.proofs.clauses.give_concept.Goals as goal

pub give_region-requires-clause-so : goal.give_region-requires-clause-so
give_region-requires-clause-so c =
    concept_seen c.args.problem.now c.args.ground.now c.new-lits.result.items c.args.concept (ap (λ s. s.nonempty) (sym c.switches.ensures) ∙ c.if-switches.true) c.requires.concept
