use Rattle.std.proofs.Common.{◌≡◌, ◌∙◌, List, length, ap, sym, arith}
use Rattle.lits_core.specs.Literals.{variable_of}
use Rattle.clause_arena.specs.Records.{Record, record_at}
use Rattle.learn_solver.proofs.Reasons.{reason-told, not_reason}
use Rattle.learn_solver.proofs.learner.Learner.is_reason.Goals as goal

pub returns-then-is_reason_of : goal.returns-then-is_reason_of
returns-then-is_reason_of c =
    sym (reason-told c.args.self.now.trail.places (variable_of c.lit_of.result) c.args.at (sym c.is_reason_of.ensures ∙ c.if-is_reason_of.true))

pub returns : goal.returns
returns c =
    let all = c.loop-place-test.false in
    let count = c.len_of-place-end.ensures in
    let same : length (record_at c.arena.result.now c.args.at).lits ≡ length (record_at c.args.self.now.trail.records c.args.at).lits =
    ap (λ (records : List Record). length (record_at records c.args.at).lits) c.arena.ensures in
    sym (not_reason c.args.self.now.trail c.args.at c.facts.ensures (λ k lt. c.loop-place.invariant k (omega arith)))
