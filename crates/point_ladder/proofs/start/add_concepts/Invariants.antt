use Rattle.world_model.specs.Trial.{points_by_trial}
use Rattle.point_frames.specs.Frames.{IsOwing}
use Rattle.point_ladder.specs.Ladders.{ConceptsMet}
use Rattle.point_ladder.proofs.start.add_concepts.Given as goal

abbrev pub invariant-loop-concept : goal.invariant-loop-concept
invariant-loop-concept l = IsOwing l.initial.frame.rows l.frame.rows (ConceptsMet (points_by_trial l.problem) l.concept)
