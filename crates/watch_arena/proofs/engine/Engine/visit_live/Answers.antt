use Rattle.std.proofs.Common.{◌<◌, ℕ, length, subst, sym, refl, arith, Some}
use Rattle.lits_core.specs.Literals.{negation_of}
use Rattle.clause_arena.specs.Records.{record_at}
use Rattle.watch_arena.specs.declared.engine.Engine.{Engine}
use Rattle.watch_arena.specs.Chains.{next_of}
use Rattle.watch_arena.specs.Engines.{mark_of, HasNoFresh, Visits, IsWalking, with_place}
use Rattle.watch_arena.proofs.WatchVisit.{Visits-refl, Visits-marked, CanAssign-from_visit, IsFalse-from_slot, IsAgreed-true, IsAgreed-marked, slot_other-in_range}
use Rattle.watch_arena.proofs.MovedWatch.{IsAt-walking, IsWalking-on}
use Rattle.watch_arena.proofs.ChainWalk.{IsSlot-walking, IsWalking-same, Visit-moved}
use Rattle.watch_arena.proofs.engine.Engine.visit_live.Goals as goal

pub overflow_sub-entry : goal.overflow_sub-entry
overflow_sub-entry c =
    let small = (IsSlot-walking c.args.self.now c.args.lit c.args.prev.now c.args.entry c.requires.sound c.requires.range c.requires.walking c.requires.live).slot_is in omega arith

pub lit_at-other-requires-clause-in_range : goal.lit_at-other-requires-clause-in_range
lit_at-other-requires-clause-in_range c =
    let s = IsSlot-walking c.args.self.now c.args.lit c.args.prev.now c.args.entry c.requires.sound c.requires.range c.requires.walking c.requires.live in
    let small = s.slot_is in let two = s.two in omega arith

pub is_true-requires : goal.is_true-requires
is_true-requires c =
    let s = IsSlot-walking c.args.self.now c.args.lit c.args.prev.now c.args.entry c.requires.sound c.requires.range c.requires.walking c.requires.live in
    (slot_other-in_range c.args.self.now c.args.entry.at c.args.lit c.args.entry.slot c.lit_at-other.result c.requires.sound s c.lit_at-other.ensures).1

pub is_false-requires : goal.is_false-requires
is_false-requires c =
    let s = IsSlot-walking c.args.self.now c.args.lit c.args.prev.now c.args.entry c.requires.sound c.requires.range c.requires.walking c.requires.live in
    (slot_other-in_range c.args.self.now c.args.entry.at c.args.lit c.args.entry.slot c.lit_at-other.result c.requires.sound s c.lit_at-other.ensures).2

pub returns-then-is_true-clause-visits : goal.returns-then-is_true-clause-visits
returns-then-is_true-clause-visits c = Visits-refl c.args.self.now c.args.lit c.requires.sound

pub returns-then-is_true-clause-outcome : goal.returns-then-is_true-clause-outcome
returns-then-is_true-clause-outcome c =
    let s = IsSlot-walking c.args.self.now c.args.lit c.args.prev.now c.args.entry c.requires.sound c.requires.range c.requires.walking c.requires.live in
    IsWalking-same c.args.self.now c.args.lit c.args.prev.now c.args.entry c.requires.walking
    (IsAgreed-true c.args.self.now c.args.entry.at c.args.lit c.args.entry.slot c.requires.sound s
    (subst (λ (l : ℕ). 0 < mark_of c.args.self.now.marks l) c.lit_at-other.ensures (c.if-is_true.ensures.0 refl)))

pub returns-in-Some-clause-visits : goal.returns-in-Some-clause-visits
returns-in-Some-clause-visits c =
    let s = IsSlot-walking c.args.self.now c.args.lit c.args.prev.now c.args.entry c.requires.sound c.requires.range c.requires.walking c.requires.live in
    (Visit-moved c.args.self.now c.move_watch.new.self c.args.lit c.in-Some.k c.args.prev.now c.args.entry c.lit_at-other.result c.requires.sound c.requires.range c.requires.walking c.requires.live c.requires.lit_false c.lit_at-other.ensures c.in-Some.ensures.found c.move_watch.ensures).visits

pub returns-in-Some-clause-ahead : goal.returns-in-Some-clause-ahead
returns-in-Some-clause-ahead c =
    (Visit-moved c.args.self.now c.move_watch.new.self c.args.lit c.in-Some.k c.args.prev.now c.args.entry c.lit_at-other.result c.requires.sound c.requires.range c.requires.walking c.requires.live c.requires.lit_false c.lit_at-other.ensures c.in-Some.ensures.found c.move_watch.ensures).ahead

pub returns-in-Some-clause-outcome : goal.returns-in-Some-clause-outcome
returns-in-Some-clause-outcome c =
    (Visit-moved c.args.self.now c.move_watch.new.self c.args.lit c.in-Some.k c.args.prev.now c.args.entry c.lit_at-other.result c.requires.sound c.requires.range c.requires.walking c.requires.live c.requires.lit_false c.lit_at-other.ensures c.in-Some.ensures.found c.move_watch.ensures).walking

pub returns-then-is_false-clause-visits : goal.returns-then-is_false-clause-visits
returns-then-is_false-clause-visits c = Visits-refl c.args.self.now c.args.lit c.requires.sound

pub returns-then-is_false-clause-outcome : goal.returns-then-is_false-clause-outcome
returns-then-is_false-clause-outcome c =
    let s = IsSlot-walking c.args.self.now c.args.lit c.args.prev.now c.args.entry c.requires.sound c.requires.range c.requires.walking c.requires.live in
    IsFalse-from_slot c.args.self.now c.args.entry.at c.args.lit c.args.entry.slot s c.requires.lit_false
    (subst (λ (o : ℕ). 0 < mark_of c.args.self.now.marks (negation_of o)) c.lit_at-other.ensures (c.if-is_false.ensures.0 refl))
    (subst (λ (o : ℕ). HasNoFresh c.args.self.now c.args.entry.at o (length (record_at c.args.self.now.arena c.args.entry.at).lits)) c.lit_at-other.ensures c.in_default.ensures.none)

pub assign-requires-clause-can : goal.assign-requires-clause-can
assign-requires-clause-can c =
    let s = IsSlot-walking c.args.self.now c.args.lit c.args.prev.now c.args.entry c.requires.sound c.requires.range c.requires.walking c.requires.live in
    CanAssign-from_visit c.args.self.now c.args.entry.at c.args.lit c.args.entry.slot c.lit_at-other.result c.level-level.result c.requires.sound s c.lit_at-other.ensures c.requires.lit_false c.if-is_true.ensures.1 c.if-is_false.ensures.1 c.in_default.ensures.none c.level-level.ensures

pub returns-clause-visits : goal.returns-clause-visits
returns-clause-visits c =
    let s = IsSlot-walking c.args.self.now c.args.lit c.args.prev.now c.args.entry c.requires.sound c.requires.range c.requires.walking c.requires.live in
    subst (λ (e : Engine). Visits c.args.self.now e c.args.lit) (sym c.assign.ensures) (Visits-marked c.args.self.now _ c.args.lit c.requires.sound (CanAssign-from_visit c.args.self.now c.args.entry.at c.args.lit c.args.entry.slot c.lit_at-other.result c.level-level.result c.requires.sound s c.lit_at-other.ensures c.requires.lit_false c.if-is_true.ensures.1 c.if-is_false.ensures.1 c.in_default.ensures.none c.level-level.ensures) refl)

pub returns-clause-outcome : goal.returns-clause-outcome
returns-clause-outcome c =
    let s = IsSlot-walking c.args.self.now c.args.lit c.args.prev.now c.args.entry c.requires.sound c.requires.range c.requires.walking c.requires.live in
    let can = CanAssign-from_visit c.args.self.now c.args.entry.at c.args.lit c.args.entry.slot c.lit_at-other.result c.level-level.result c.requires.sound s c.lit_at-other.ensures c.requires.lit_false c.if-is_true.ensures.1 c.if-is_false.ensures.1 c.in_default.ensures.none c.level-level.ensures in
    subst (λ (e : Engine). IsWalking e c.args.lit (Some c.args.entry) (next_of c.args.self.now.arena c.args.entry)) (sym c.assign.ensures)
    (IsWalking-on c.args.self.now (with_place c.args.self.now (record { lit = c.lit_at-other.result; level = c.level-level.result; reason = Some c.args.entry.at })) c.args.lit c.args.prev.now c.args.entry (IsAt-walking c.args.self.now c.args.lit c.args.prev.now c.args.entry c.requires.walking) refl refl
    (Visits-marked c.args.self.now _ c.args.lit c.requires.sound can refl).agreed
    (IsAgreed-marked c.args.self.now c.args.entry.at c.args.lit c.args.entry.slot _ c.requires.sound s can c.lit_at-other.ensures))
