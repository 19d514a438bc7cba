use Rattle.conflict_lattice.proofs.Inserting.{put_in}
use Rattle.conflict_lattice.proofs.insert.insert.Goals as goal

pub returns-clause-ascend : goal.returns-clause-ascend
returns-clause-ascend c =
    (put_in c.args.list.now.items c.deref.result.now c.args.item c.flags.result.now c.place_for-place.result c.insert.new.self.items c.deref.ensures.value c.flags.ensures c.requires.ascend c.requires.counted c.requires.fresh
    c.place_for-place.ensures.within c.place_for-place.ensures.before c.place_for-place.ensures.behind c.in_ok-insert.ensures.items).0

pub returns-clause-has : goal.returns-clause-has
returns-clause-has c =
    (put_in c.args.list.now.items c.deref.result.now c.args.item c.flags.result.now c.place_for-place.result c.insert.new.self.items c.deref.ensures.value c.flags.ensures c.requires.ascend c.requires.counted c.requires.fresh
    c.place_for-place.ensures.within c.place_for-place.ensures.before c.place_for-place.ensures.behind c.in_ok-insert.ensures.items).1
