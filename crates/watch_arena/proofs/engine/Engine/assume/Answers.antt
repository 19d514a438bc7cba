use Rattle.std.proofs.Common.{◌∙◌, ◌+◌, ℕ, None, subst, sym, ap, arith}
use Rattle.std.proofs.lemmas.List.Sums.{count_by-le-length}
use Rattle.watch_arena.specs.declared.engine.Engine.{Engine}
use Rattle.watch_arena.specs.Places.{is_assumed}
use Rattle.watch_arena.specs.Engines.{IsEngine, with_place}
use Rattle.watch_arena.proofs.EngineInvariant.{IsEngine-marked}
use Rattle.watch_arena.proofs.WatchVisit.{places_below}
use Rattle.watch_arena.proofs.ShortClauses.{CanAssign-assumed}
use Rattle.watch_arena.proofs.engine.Engine.assume.Goals as goal

pub overflow_add-level : goal.overflow_add-level
overflow_add-level c =
    let below = places_below c.args.self.now.marks c.args.self.now.places.list c.args.self.now.variables c.args.lit c.requires.sound.marked c.requires.range c.requires.not_true c.requires.not_false in
    let few = c.requires.sound.few in
    let most = count_by-le-length is_assumed c.args.self.now.places.list in
    let is = c.level-level.ensures in
    omega arith

pub assign-requires-clause-can : goal.assign-requires-clause-can
assign-requires-clause-can c =
    CanAssign-assumed c.args.self.now c.args.lit _ c.requires.range c.requires.not_true c.requires.not_false (ap (λ (n : ℕ). n + 1) c.level-level.ensures)

pub returns-clause-sound : goal.returns-clause-sound
returns-clause-sound c =
    subst (λ (e : Engine). IsEngine e) (sym c.assign.ensures)
    (IsEngine-marked c.args.self.now _ c.requires.sound
    (CanAssign-assumed c.args.self.now c.args.lit _ c.requires.range c.requires.not_true c.requires.not_false (ap (λ (n : ℕ). n + 1) c.level-level.ensures))
    (places_below c.args.self.now.marks c.args.self.now.places.list c.args.self.now.variables c.args.lit c.requires.sound.marked c.requires.range c.requires.not_true c.requires.not_false))

pub returns-clause-is : goal.returns-clause-is
returns-clause-is c =
    c.assign.ensures ∙ ap (λ (n : ℕ). with_place c.args.self.now (record { lit = c.args.lit; level = n + 1; reason = None })) c.level-level.ensures
