use Rattle.part_join.proofs.SweepLemmas.{taken_at}
use Rattle.part_join.proofs.sweep.take_covering.Goals as goal

pub returns-clause-taken : goal.returns-clause-taken
returns-clause-taken c =
    taken_at c.args.left.now.items c.deref.result.now c.remove.new.self.items c.in_ok-place.place c.remove.result c.deref.ensures.value c.in_ok-place.ensures.within c.remove.ensures.value c.remove.ensures.items
