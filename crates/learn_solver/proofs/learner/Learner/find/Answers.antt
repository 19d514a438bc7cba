use Rattle.std.proofs.Common.{◌≡◌, ◌∙◌, ◌<◌, ℕ, List, length, Option, Some, None, sym, ap, subst, arith}
use Rattle.std.specs.Prelude.{MatchOption}
use Rattle.lits_core.specs.Derivation.{live_clause}
use Rattle.clause_arena.specs.Records.{Record, record_at}
use Rattle.learn_solver.specs.States.{state_of}
use Rattle.learn_solver.proofs.RecordState.{live-at, none-from}
use Rattle.learn_solver.proofs.RemainingRecords.{nth-some, nth-within, nth-none}
use Rattle.learn_solver.proofs.learner.Learner.find.Goals as goal

pub returns-in_err-at-clause-clause : goal.returns-in_err-at-clause-clause
returns-in_err-at-clause-clause c =
    let l = c.args.self.now in
    let P : Option ℕ → Type 0 = λ o. MatchOption o (live_clause (state_of l.trail.records l.given) c.args.id ≡ None) (λ at. at < length l.trail.records × live_clause (state_of l.trail.records l.given) c.args.id ≡ Some (record_at l.trail.records at).lits) in
    let size = ap length c.arena.ensures in
    let here : P None = none-from l.trail.records l.given c.args.id c.first_from.result c.requires.records c.first_from.ensures.before c.first_from.ensures.from
    (λ lt. absurd (nth-none c.first_from.result (length c.arena.result.now) c.nth.result c.nth.ensures c.in_err-at.was (omega arith))) in
    subst P (sym c.from_residual.ensures) here

pub returns-then-id_of-id-clause-clause : goal.returns-then-id_of-id-clause-clause
returns-then-id_of-id-clause-clause c =
    let l = c.args.self.now in
    let size = ap length c.arena.ensures in
    let is = nth-some c.first_from.result (length c.arena.result.now) c.in_ok-at.at c.nth.result c.nth.ensures c.in_ok-at.was in
    let lt = nth-within c.first_from.result (length c.arena.result.now) c.in_ok-at.at c.nth.result c.nth.ensures c.in_ok-at.was in
    let within : c.in_ok-at.at < length l.trail.records = omega arith in
    let id : (record_at l.trail.records c.in_ok-at.at).id ≡ c.args.id = ap (λ (rs : List Record). (record_at rs c.in_ok-at.at).id) (sym c.arena-2.ensures) ∙ sym c.id_of.ensures ∙ c.if-id_of-id.true in
    (within, subst (λ (i : ℕ). live_clause (state_of l.trail.records l.given) i ≡ Some (record_at l.trail.records c.in_ok-at.at).lits) id (live-at l.trail.records l.given c.in_ok-at.at c.requires.records within))

pub returns-else-id_of-id-clause-clause : goal.returns-else-id_of-id-clause-clause
returns-else-id_of-id-clause-clause c =
    let l = c.args.self.now in
    let is = nth-some c.first_from.result (length c.arena.result.now) c.in_ok-at.at c.nth.result c.nth.ensures c.in_ok-at.was in
    let id : c.id_of.result ≡ (record_at l.trail.records c.first_from.result).id = c.id_of.ensures ∙ ap (λ (rs : List Record). (record_at rs c.in_ok-at.at).id) c.arena-2.ensures ∙ ap (λ (n : ℕ). (record_at l.trail.records n).id) is in
    none-from l.trail.records l.given c.args.id c.first_from.result c.requires.records c.first_from.ensures.before c.first_from.ensures.from (λ lt e. c.if-id_of-id.false (id ∙ e))
