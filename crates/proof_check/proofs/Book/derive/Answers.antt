use Rattle.std.proofs.Common.{◌≡◌, None, sym, ◌∙◌}
use Rattle.lits_core.specs.declared.Line.TheVariants.{Derive}
use Rattle.lits_core.specs.Derivation.{line_fault, next_state, hints_fault}
use Rattle.proof_check.proofs.BookLemmas.{sound-next, fault-new}
use Rattle.proof_check.proofs.Book.derive.Goals as goal

pub invariant_of-self-2 : goal.invariant_of-self-2
invariant_of-self-2 c =
    let same : c.self.inside.clauses ≡ c.self-2.inside.clauses = c.self.view_is ∙ sym c.check.ensures.unchanged ∙ sym c.self-2.view_is in
    let free = sym c.is_some.ensures ∙ c.if-is_some.false in
    let fault = fault-new c.self.inside.clauses c.args.id c.args.lits.now c.args.hints.now c.find.result c.find.ensures free in
    let none : hints_fault c.self.inside.clauses c.args.hints.now c.args.lits.now ≡ None = rw c.self.view_is c.in_ok-check.ensures.fault in
    let valid : line_fault c.self-2.inside.clauses (Derive c.args.id c.args.lits.now c.args.hints.now) ≡ None = rw (← same) (fault ∙ none) in
    let next : c.push.new.self ≡ next_state c.self-2.inside.clauses (Derive c.args.id c.args.lits.now c.args.hints.now) = rw (← c.in_ok-clause.ensures) c.in_ok-push.ensures.ok in
    (sound-next c.self-2.inside.clauses c.push.new.self (Derive c.args.id c.args.lits.now c.args.hints.now) c.self-2.invariant.0 valid next, c.self-2.invariant.1)
