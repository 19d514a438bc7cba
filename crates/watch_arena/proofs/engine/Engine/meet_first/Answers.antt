use Rattle.std.proofs.Common.{subst, sym, refl}
use Rattle.watch_arena.specs.declared.engine.Engine.{Engine}
use Rattle.watch_arena.specs.Engines.{Advances, IsShortMet}
use Rattle.watch_arena.proofs.EngineInvariant.{lit-in_range}
use Rattle.watch_arena.proofs.WatchVisit.{Advances-refl}
use Rattle.watch_arena.proofs.ShortClauses.{IsShortMet-true, IsFalse-from_short, CanAssign-from_short, Advances-marked, IsShortMet-marked}
use Rattle.watch_arena.proofs.engine.Engine.meet_first.Goals as goal

pub is_true-requires : goal.is_true-requires
is_true-requires c = (lit-in_range c.args.self.now c.args.at 0 c.lit_at-lit.result c.requires.sound c.requires.some c.lit_at-lit.ensures).1

pub is_false-requires : goal.is_false-requires
is_false-requires c = (lit-in_range c.args.self.now c.args.at 0 c.lit_at-lit.result c.requires.sound c.requires.some c.lit_at-lit.ensures).2

pub returns-then-is_true-clause-advances : goal.returns-then-is_true-clause-advances
returns-then-is_true-clause-advances c = Advances-refl c.args.self.now c.requires.sound

pub returns-then-is_true-clause-outcome : goal.returns-then-is_true-clause-outcome
returns-then-is_true-clause-outcome c = IsShortMet-true c.args.self.now c.args.at c.lit_at-lit.result c.requires.sound c.requires.some c.lit_at-lit.ensures (c.if-is_true.ensures.0 refl)

pub returns-then-is_false-clause-advances : goal.returns-then-is_false-clause-advances
returns-then-is_false-clause-advances c = Advances-refl c.args.self.now c.requires.sound

pub returns-then-is_false-clause-outcome : goal.returns-then-is_false-clause-outcome
returns-then-is_false-clause-outcome c = IsFalse-from_short c.args.self.now c.args.at c.lit_at-lit.result c.requires.live c.requires.short c.lit_at-lit.ensures (c.if-is_false.ensures.0 refl)

pub assign-requires-clause-can : goal.assign-requires-clause-can
assign-requires-clause-can c = CanAssign-from_short c.args.self.now c.args.at c.lit_at-lit.result c.level-level.result c.requires.sound c.requires.live c.requires.short c.requires.some c.lit_at-lit.ensures c.if-is_true.ensures.1 c.if-is_false.ensures.1 c.level-level.ensures

pub returns-clause-advances : goal.returns-clause-advances
returns-clause-advances c =
    subst (λ (e : Engine). Advances c.args.self.now e) (sym c.assign.ensures) (Advances-marked c.args.self.now _ c.requires.sound (CanAssign-from_short c.args.self.now c.args.at c.lit_at-lit.result c.level-level.result c.requires.sound c.requires.live c.requires.short c.requires.some c.lit_at-lit.ensures c.if-is_true.ensures.1 c.if-is_false.ensures.1 c.level-level.ensures) refl)

pub returns-clause-outcome : goal.returns-clause-outcome
returns-clause-outcome c =
    let P : Engine → Type 0 = λ e. IsShortMet e c.args.at in
    subst P (sym c.assign.ensures) (IsShortMet-marked c.args.self.now c.args.at _ c.requires.sound (CanAssign-from_short c.args.self.now c.args.at c.lit_at-lit.result c.level-level.result c.requires.sound c.requires.live c.requires.short c.requires.some c.lit_at-lit.ensures c.if-is_true.ensures.1 c.if-is_false.ensures.1 c.level-level.ensures) c.requires.some c.lit_at-lit.ensures)
