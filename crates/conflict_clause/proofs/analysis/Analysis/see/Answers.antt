use Rattle.std.proofs.Common.{◌≡◌, refl, arith, false}
use Rattle.lits_core.specs.Literals.{variable_of}
use Rattle.conflict_clause.specs.Search.{is_seen}
use Rattle.conflict_clause.proofs.SeenLits.{IsLooking-kept, IsLooking-lowered, IsSeenList-same, Sees-refl, Sees-kept, Sees-lowered, is_seen-marked, false_unseen}
use Rattle.conflict_clause.proofs.analysis.Analysis.see.Goals as goal

pub returns-then-get-clause-sees : goal.returns-then-get-clause-sees
returns-then-get-clause-sees c = Sees-refl c.args.trail.now c.args.level c.args.self.now

pub false_place-place-requires-clause-off : goal.false_place-place-requires-clause-off
false_place-place-requires-clause-off c =
    let unseen : is_seen c.args.self.now (variable_of c.args.lit) ≡ false = cc (c.if-get.ensures, c.variable-variable.ensures.value) in
    false_unseen c.args.trail.now.places c.args.self.now c.args.lit c.requires.off unseen

pub returns-in_err-enter-clause-seen_list : goal.returns-in_err-enter-clause-seen_list
returns-in_err-enter-clause-seen_list c = IsSeenList-same c.enter.new.self _ _ c.args.trail.now.variables c.enter.ensures.seen_list refl refl c.requires.looking.seen_list.size

pub returns-in_err-push-clause-seen_list : goal.returns-in_err-push-clause-seen_list
returns-in_err-push-clause-seen_list c = IsSeenList-same c.enter.new.self _ _ c.args.trail.now.variables c.enter.ensures.seen_list refl refl c.requires.looking.seen_list.size

pub returns-in_ok-push-clause-seen_list : goal.returns-in_ok-push-clause-seen_list
returns-in_ok-push-clause-seen_list c = IsSeenList-same c.enter.new.self _ _ c.args.trail.now.variables c.enter.ensures.seen_list refl refl c.requires.looking.seen_list.size

pub returns-in_ok-push-clause-looking : goal.returns-in_ok-push-clause-looking
returns-in_ok-push-clause-looking c =
    IsLooking-kept c.args.trail.now c.args.level c.args.self.now _ c.args.lit c.false_place-place.result c.facts.ensures c.requires.looking
    (IsSeenList-same c.enter.new.self _ _ c.args.trail.now.variables c.enter.ensures.seen_list refl refl c.requires.looking.seen_list.size)
    (cc (c.in_ok-enter.ensures.marks, c.variable-variable.ensures.value)) (cc (c.in_ok-push.ensures.items, c.enter.ensures.lits)) c.enter.ensures.lowest
    c.false_place-place.ensures.within c.false_place-place.ensures.is

pub returns-in_ok-push-clause-sees : goal.returns-in_ok-push-clause-sees
returns-in_ok-push-clause-sees c =
    let size = c.requires.looking.seen_list.size in
    let range = c.requires.range in
    let low = c.if-level_on-level.true in
    let is = c.level_on.ensures in
    let unseen : is_seen c.args.self.now (variable_of c.args.lit) ≡ false = cc (c.if-get.ensures, c.variable-variable.ensures.value) in
    Sees-kept c.args.trail.now c.args.level c.args.self.now _ c.args.lit c.false_place-place.result c.facts.ensures
    (cc (c.in_ok-enter.ensures.marks, c.variable-variable.ensures.value)) (omega arith) (cc (c.in_ok-push.ensures.items, c.enter.ensures.lits)) c.enter.ensures.lowest
    (false_unseen c.args.trail.now.places c.args.self.now c.args.lit c.requires.off unseen) c.false_place-place.ensures.within c.false_place-place.ensures.is (omega arith)

pub returns-in_ok-push-clause-seen : goal.returns-in_ok-push-clause-seen
returns-in_ok-push-clause-seen c =
    let size = c.requires.looking.seen_list.size in
    let range = c.requires.range in
    is_seen-marked c.args.self.now c.enter.new.self (variable_of c.args.lit) (cc (c.in_ok-enter.ensures.marks, c.variable-variable.ensures.value)) (omega arith)

pub returns-else-level_on-level-clause-seen_list : goal.returns-else-level_on-level-clause-seen_list
returns-else-level_on-level-clause-seen_list c = IsSeenList-same c.enter.new.self _ _ c.args.trail.now.variables c.enter.ensures.seen_list refl refl c.requires.looking.seen_list.size

pub returns-else-level_on-level-clause-looking : goal.returns-else-level_on-level-clause-looking
returns-else-level_on-level-clause-looking c =
    let high = c.if-level_on-level.false in
    let is = c.level_on.ensures in
    IsLooking-lowered c.args.trail.now c.args.level c.args.self.now _ c.args.lit c.false_place-place.result c.facts.ensures c.requires.looking
    (IsSeenList-same c.enter.new.self _ _ c.args.trail.now.variables c.enter.ensures.seen_list refl refl c.requires.looking.seen_list.size)
    (cc (c.in_ok-enter.ensures.marks, c.variable-variable.ensures.value)) c.enter.ensures.lits (cc (c.min-self.ensures, c.enter.ensures.lowest))
    c.false_place-place.ensures.within c.false_place-place.ensures.is (omega arith)

pub returns-else-level_on-level-clause-sees : goal.returns-else-level_on-level-clause-sees
returns-else-level_on-level-clause-sees c =
    let size = c.requires.looking.seen_list.size in
    let range = c.requires.range in
    Sees-lowered c.args.trail.now c.args.level c.args.self.now _ c.args.lit c.false_place-place.result
    (cc (c.in_ok-enter.ensures.marks, c.variable-variable.ensures.value)) (omega arith) c.enter.ensures.lits (cc (c.min-self.ensures, c.enter.ensures.lowest))

pub returns-else-level_on-level-clause-seen : goal.returns-else-level_on-level-clause-seen
returns-else-level_on-level-clause-seen c =
    let size = c.requires.looking.seen_list.size in
    let range = c.requires.range in
    is_seen-marked c.args.self.now c.enter.new.self (variable_of c.args.lit) (cc (c.in_ok-enter.ensures.marks, c.variable-variable.ensures.value)) (omega arith)
