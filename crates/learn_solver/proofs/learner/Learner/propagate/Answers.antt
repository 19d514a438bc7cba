use Rattle.std.proofs.Common.{◌∙◌, refl, sym}
use Rattle.learn_solver.proofs.SameStates.{SameState-records}
use Rattle.learn_solver.proofs.RecordState.{AreRecords-same, AreUpTo-same, AreNoted-same}
use Rattle.learn_solver.proofs.AssumptionsInvariant.{IsGuided-propagated}
use Rattle.learn_solver.proofs.CallSequence.{GoesTo-same}
use Rattle.learn_solver.proofs.learner.Learner.propagate.Goals as goal

pub returns-clause-steps : goal.returns-clause-steps
returns-clause-steps c =
    let s = c.requires in
    let kept = c.propagate.ensures.kept in
    let l = c.args.self.now in
    record {
      sound = record {
        variables = s.variables ∙ sym kept.variables;
        analyzer = s.analyzer ∙ sym kept.variables;
        order = s.order ∙ sym kept.variables;
        records = AreRecords-same l.trail.records c.propagate.new.self.records l.given s.records kept.records;
        last = AreUpTo-same l.trail.records c.propagate.new.self.records l.last s.last kept.records;
        waiting = s.waiting;
        noted = AreNoted-same l.trail.records c.propagate.new.self.records l.given l.order s.noted kept.records;
        guided = IsGuided-propagated l.trail c.propagate.new.self l.assumptions s.guided kept;
      };
      goes = GoesTo-same _ _ kept.variables refl (SameState-records l.trail.records c.propagate.new.self.records l.given kept.records);
      variables = kept.variables;
      assumptions = refl;
    }
