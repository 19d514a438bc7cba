use Rattle.std.proofs.Common.{subst, sym, length, arith, ◌-◌, ◌≡◌, ap, length-take, ◌∙◌}
use Rattle.watch_arena.specs.declared.engine.Engine.{Engine}
use Rattle.watch_arena.proofs.DroppedPlaces.{Undone, Undone-refl, Undone-last, Undoes-from, some_place}
use Rattle.watch_arena.proofs.engine.Engine.undo_to.Goals as goal

pub loop-self-init : goal.loop-self-init
loop-self-init c = Undone-refl c.args.self.now c.args.level c.requires.sound c.requires.level

pub unassign_last-requires-clause-some : goal.unassign_last-requires-clause-some
unassign_last-requires-clause-some c =
    let test = c.loop-self-test.true in let is = c.level.ensures in some_place c.loop-self.self.places.list (omega arith)

pub loop-self-preserved : goal.loop-self-preserved
loop-self-preserved c =
    let test = c.loop-self-test.true in let is = c.level.ensures in
    subst (λ (e : Engine). Undone c.args.self.now e c.args.level) (sym c.unassign_last.ensures.is) (Undone-last c.args.self.now c.loop-self.self c.args.level c.loop-self.invariant (omega arith))

pub loop-self-smaller : goal.loop-self-smaller
loop-self-smaller c =
    let test = c.loop-self-test.true in let is = c.level.ensures in
    let some = some_place c.loop-self.self.places.list (omega arith) in
    let size : length c.unassign_last.new.self.places.list ≡ length c.loop-self.self.places.list - 1 = ap (λ (e : Engine). length e.places.list) c.unassign_last.ensures.is ∙ (simp length-take (omega arith)) in
    omega arith

pub returns-clause-undoes : goal.returns-clause-undoes
returns-clause-undoes c =
    let test = c.loop-self-test.false in let is = c.level.ensures in
    Undoes-from c.args.self.now c.loop-self.self c.args.level c.loop-self.invariant (omega arith)
