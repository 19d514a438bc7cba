use Rattle.constraint_set.proofs.shape.Shape.pair_index.Goals as goal

pub returns-clause-at : goal.returns-clause-at
returns-clause-at c = rw (← c.self.view_is) c.pair_index.ensures.at

pub returns-clause-within : goal.returns-clause-within
returns-clause-within c = rw (← c.self.view_is) c.pair_index.ensures.within

pub returns-clause-only : goal.returns-clause-only
returns-clause-only c = rw (← c.self.view_is) c.pair_index.ensures.only
