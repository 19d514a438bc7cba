use Rattle.std.proofs.Common.{length, subst}
use Rattle.family_solver.specs.Kept.Keeping.{IsClash}
use Rattle.conflict_lattice.specs.Rounds.{IsJudged, subsets_of}
use Rattle.conflict_lattice.proofs.Parts.{within_all}
use Rattle.conflict_lattice.proofs.Finding.{conflict_fresh, conflict_less, found_conflict, found_set, set_fresh, set_less}
use Rattle.conflict_lattice.proofs.rounds.find_from.Goals as goal

pub insert-requires-clause-fresh : goal.insert-requires-clause-fresh
insert-requires-clause-fresh c =
    let clash : IsClash c.args.problem.now c.args.seed.now c.in-Clash.core.items = subst (IsJudged c.args.problem.now c.args.seed.now) c.in-Clash.is c.in_ok-core.ensures.answer in
    conflict_fresh (subsets_of c.args.found.now) c.in_ok-conflict-in-Clash.conflict c.args.seed.now
    (within_all c.in_ok-conflict-in-Clash.conflict c.in-Clash.core.items c.args.seed.now c.in_ok-conflict-in-Clash.ensures.within clash.within) c.requires.open

pub insert-requires-in-Met-clause-fresh : goal.insert-requires-in-Met-clause-fresh
insert-requires-in-Met-clause-fresh c =
    set_fresh (subsets_of c.args.found.now) c.in_ok-set-in-Met.set c.args.seed.now c.in_ok-set-in-Met.ensures.within c.requires.open

pub returns-in_ok-insert-in-Clash-clause-found : goal.returns-in_ok-insert-in-Clash-clause-found
returns-in_ok-insert-in-Clash-clause-found c =
    found_conflict c.args.problem.now c.args.found.now.conflicts.items c.insert.new.list.items c.args.found.now.consistent.items c.in_ok-conflict-in-Clash.conflict c.requires.found c.in_ok-conflict-in-Clash.ensures.minimal
    c.in_ok-insert-in-Clash.ensures.ascend c.in_ok-insert-in-Clash.ensures.has

pub returns-in_ok-insert-in-Clash-clause-less : goal.returns-in_ok-insert-in-Clash-clause-less
returns-in_ok-insert-in-Clash-clause-less c =
    let clash : IsClash c.args.problem.now c.args.seed.now c.in-Clash.core.items = subst (IsJudged c.args.problem.now c.args.seed.now) c.in-Clash.is c.in_ok-core.ensures.answer in
    conflict_less c.args.problem.now (length c.args.problem.now.articulations) c.args.found.now.conflicts.items c.insert.new.list.items c.args.found.now.consistent.items c.in_ok-conflict-in-Clash.conflict c.args.seed.now
    c.in_ok-insert-in-Clash.ensures.has (within_all c.in_ok-conflict-in-Clash.conflict c.in-Clash.core.items c.args.seed.now c.in_ok-conflict-in-Clash.ensures.within clash.within) c.requires.flags c.requires.open

pub returns-in_ok-insert-in-Met-clause-found : goal.returns-in_ok-insert-in-Met-clause-found
returns-in_ok-insert-in-Met-clause-found c =
    found_set c.args.problem.now c.args.found.now.conflicts.items c.args.found.now.consistent.items c.insert-in-Met.new.list.items c.in_ok-set-in-Met.set c.requires.found c.in_ok-set-in-Met.ensures.maximal
    c.in_ok-insert-in-Met.ensures.ascend c.in_ok-insert-in-Met.ensures.has

pub returns-in_ok-insert-in-Met-clause-less : goal.returns-in_ok-insert-in-Met-clause-less
returns-in_ok-insert-in-Met-clause-less c =
    set_less c.args.problem.now (length c.args.problem.now.articulations) c.args.found.now.conflicts.items c.args.found.now.consistent.items c.insert-in-Met.new.list.items c.in_ok-set-in-Met.set c.args.seed.now
    c.in_ok-insert-in-Met.ensures.has c.in_ok-set-in-Met.ensures.within c.requires.flags c.requires.open
