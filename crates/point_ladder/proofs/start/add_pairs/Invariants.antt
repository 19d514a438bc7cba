use Rattle.world_model.specs.Trial.{points_by_trial}
use Rattle.point_frames.specs.Frames.{IsOwing}
use Rattle.point_ladder.specs.Ladders.{PairsMet}
use Rattle.point_ladder.proofs.start.add_pairs.Given as goal

abbrev pub invariant-loop-pair : goal.invariant-loop-pair
invariant-loop-pair l = IsOwing l.initial.frame.rows l.frame.rows (PairsMet l.problem (points_by_trial l.problem) l.pair)
