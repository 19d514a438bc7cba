use Rattle.constraint_set.proofs.shape.Shape.pair_count.Goals as goal

pub returns : goal.returns
returns c = rw (← c.self.view_is) c.pair_count.ensures
