use Rattle.point_frames.specs.Joined.{HasFirst}
use Rattle.point_frames.proofs.base.first_rows.Given as goal

abbrev pub invariant-loop-row : goal.invariant-loop-row
invariant-loop-row l = HasFirst l.rows l.first l.row
