use Rattle.std.proofs.Common.{◌≡◌, ◌∙◌, ℕ, List, get_or, sym, ap, subst}
use Rattle.lits_core.specs.Literals.{variable_of, negation_of}
use Rattle.lits_core.proofs.LiteralLemmas.{variable_of-negation, negation-other}
use Rattle.watch_arena.proofs.WatchedPair.{index_of}
use Rattle.learn_solver.specs.Solving.{AreConsistent}
use Rattle.measure.specs.Solving.{AreByPlace}
use Rattle.measure.proofs.solving.solve_by.Goals as goal

-- a literal and its negation would stand at one place
consistent : (count : ℕ) (lits : List ℕ) → AreByPlace count lits → AreConsistent lits
consistent count lits e lit has other =
    let a = index_of lits lit has in
    let b = index_of lits (negation_of lit) other in
    let here : variable_of lit ≡ a.0 = subst (λ x. variable_of x ≡ a.0) a.2 (e.each a.0 a.1) in
    let there : variable_of (negation_of lit) ≡ b.0 = subst (λ x. variable_of x ≡ b.0) b.2 (e.each b.0 b.1) in
    let same : b.0 ≡ a.0 = sym there ∙ variable_of-negation lit ∙ here in
    negation-other lit (sym b.2 ∙ ap (λ k. get_or lits k 0) same ∙ a.2)

pub asked-requires-clause-consistent : goal.asked-requires-clause-consistent
asked-requires-clause-consistent c =
    subst (λ lits. AreConsistent lits) (sym c.deref.ensures.value) (consistent c.args.splits c.in_ok-lits.lits.items c.in_ok-lits.ensures)
