use Rattle.std.proofs.Common.{◌≡◌, [], length, get_or, ap, ◌∙◌}
use Rattle.std.proofs.lemmas.List.{get_or_default}
use Rattle.conflict_lattice.proofs.Seeding.{conflict_given}
use Rattle.conflict_lattice.proofs.seeds.give_conflict.Goals as goal

pub returns : goal.returns
returns c =
    let at : c.flags.result.now ≡ get_or c.args.conflicts.now c.args.place [] = c.flags.ensures ∙ c.index-conflicts-place.is ∙ get_or_default c.args.conflicts.now c.args.place c.index-conflicts-place.result [] c.requires.place in
    conflict_given c.law_literals_are_sets.ensures c.args.count c.args.conflicts.now c.args.place c.flags.result.now c.args.solver.now c.add.new.self c.deref.result.now c.in_ok-lits.lits.items c.requires.map c.in_ok-add.ensures.ok
    c.deref.ensures.value c.in_ok-lits.ensures.says at (ap length at ∙ c.requires.counted c.args.place [] c.requires.place) c.requires.place
