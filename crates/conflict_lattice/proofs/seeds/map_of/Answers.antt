use Rattle.std.proofs.Common.{[], take, take_all, ap, ◌∙◌, arith}
use Rattle.conflict_lattice.specs.Rounds.{holds_none, is_open}
use Rattle.conflict_lattice.proofs.Seeding.{map_same, sets_none}
use Rattle.conflict_lattice.proofs.seeds.map_of.Goals as goal

pub loop-place-2-init : goal.loop-place-2-init
loop-place-2-init c =
    map_same c.args.count (holds_none (take c.loop-place.place c.args.conflicts.now)) (is_open (record { conflicts = c.args.conflicts.now; consistent = [] })) c.loop-place.solver
    (λ kept. ap (λ cs. holds_none cs kept) (take_all c.loop-place.place c.args.conflicts.now (omega (arith, c.loop-place-test.false))) ∙ sets_none c.args.conflicts.now kept) c.loop-place.invariant
