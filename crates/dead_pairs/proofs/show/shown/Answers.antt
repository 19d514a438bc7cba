use Rattle.std.proofs.Common.{◌∙◌}
use Rattle.dead_pairs.proofs.show.shown.Goals as goal

pub shown_by-requires-clause-shape : goal.shown_by-requires-clause-shape
shown_by-requires-clause-shape c = c.loop-part.invariant.goes.shape ∙ c.requires.shape
