use Rattle.std.proofs.Common.{◌≡◌, ◌≢◌, ◌∙◌, ◌<◌, ◌≤◌, List, length, None, Some, sym, ap, arith}
use Rattle.std.proofs.lemmas.Bool.{eqb-true, eqb-false, not-true, not-false}
use Rattle.clause_arena.specs.Records.{Record, record_at}
use Rattle.learn_solver.proofs.HintChain.{from-held, from-first, from-same, from-other, from-end}
use Rattle.learn_solver.proofs.learner.Learner.hint_of.Goals.{then-not-has+in-None, then-not-has+in-Some+else-ne, else-not-has}
use Rattle.learn_solver.proofs.learner.Learner.hint_of.Goals as goal

pub returns-then-ne : goal.returns-then-ne
returns-then-ne c =
    let count : length (record_at c.arena.result.now c.args.at).lits ≡ length (record_at c.args.self.now.trail.records c.args.at).lits =
    ap (λ (records : List Record). length (record_at records c.args.at).lits) c.arena.ensures in
    let end = c.len_of-place-end.ensures in
    let test = c.loop-place-test.true in
    let lt : c.loop-place.place < length (record_at c.args.self.now.trail.records c.args.at).lits = omega arith in
    let ne : c.in-Some.first ≢ c.lit_of-lit.result = eqb-false _ _ (not-true _ (sym c.ne.ensures ∙ c.if-ne.true)) in
    sym (from-other c.args.falses.now (record_at c.args.self.now.trail.records c.args.at).lits _ _ _ _ _ lt c.lit_of-lit.ensures.is (sym c.has.ensures ∙ c.if-not-has.true) ne c.in-Some.is c.loop-place.invariant)

pub loop-place-preserved : goal.loop-place-preserved
loop-place-preserved c =
    let count : length (record_at c.arena.result.now c.args.at).lits ≡ length (record_at c.args.self.now.trail.records c.args.at).lits =
    ap (λ (records : List Record). length (record_at records c.args.at).lits) c.arena.ensures in
    let end = c.len_of-place-end.ensures in
    let test = c.loop-place-test.true in
    let lt : c.loop-place.place < length (record_at c.args.self.now.trail.records c.args.at).lits = omega arith in
    elim c.if-not-has.branch [
      | then-not-has+in-None w ↦ from-first _ _ _ _ _ _ _ lt c.lit_of-lit.ensures.is (sym c.has.ensures ∙ w.if-not-has.true) w.in-None.is w.open-is c.loop-place.invariant
      | then-not-has+in-Some+else-ne w ↦
          let same : w.in-Some.first ≡ c.lit_of-lit.result = eqb-true _ _ (not-false _ (sym w.ne.ensures ∙ w.if-ne.false)) in
          from-same _ _ _ _ _ _ _ _ lt c.lit_of-lit.ensures.is (sym c.has.ensures ∙ w.if-not-has.true) same w.in-Some.is w.open-is c.loop-place.invariant
      | else-not-has w ↦ from-held _ _ _ _ _ _ _ lt c.lit_of-lit.ensures.is (sym c.has.ensures ∙ w.if-not-has.false) w.open-is c.loop-place.invariant
    ]

pub returns-in-None-open : goal.returns-in-None-open
returns-in-None-open c =
    let count : length (record_at c.arena.result.now c.args.at).lits ≡ length (record_at c.args.self.now.trail.records c.args.at).lits =
    ap (λ (records : List Record). length (record_at records c.args.at).lits) c.arena.ensures in
    let end = c.len_of-place-end.ensures in
    let test = c.loop-place-test.false in
    let le : length (record_at c.args.self.now.trail.records c.args.at).lits ≤ c.loop-place.place = omega arith in
    sym (from-end c.args.falses.now (record_at c.args.self.now.trail.records c.args.at).lits _ _ None _ le c.in-None-open.is c.loop-place.invariant)

pub returns-in-Some-open : goal.returns-in-Some-open
returns-in-Some-open c =
    let count : length (record_at c.arena.result.now c.args.at).lits ≡ length (record_at c.args.self.now.trail.records c.args.at).lits =
    ap (λ (records : List Record). length (record_at records c.args.at).lits) c.arena.ensures in
    let end = c.len_of-place-end.ensures in
    let test = c.loop-place-test.false in
    let le : length (record_at c.args.self.now.trail.records c.args.at).lits ≤ c.loop-place.place = omega arith in
    sym (from-end c.args.falses.now (record_at c.args.self.now.trail.records c.args.at).lits _ _ (Some c.in-Some-open.lit) _ le c.in-Some-open.is c.loop-place.invariant)
