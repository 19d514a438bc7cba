use Rattle.std.proofs.Common.{◌≡◌, ◌∙◌, ◌<◌, ℕ, zero, suc, false, List, [], ◌∷◌, length, get_or, sym, ap, arith}
use Rattle.std.specs.Prelude.{not}
use Rattle.std.proofs.lemmas.Bool.{true≢false}
use Rattle.watch_arena.proofs.WatchedPair.{index_of}
use Rattle.lits_core.specs.Literals.{is_negative, negation_of}
use Rattle.lits_core.proofs.LiteralLemmas.{is_negative-negation}
use Rattle.learn_solver.specs.Solving.{AreConsistent}
use Rattle.solver_checks.proofs.solver_and_book.solve.Goals as goal

-- literals that are all positive are consistent
all-positive : (lits : List ℕ) → ((k : ℕ) → k < length lits → is_negative (get_or lits k 0) ≡ false) → AreConsistent lits
all-positive lits positive lit has other =
    let a = index_of lits lit has in
    let b = index_of lits (negation_of lit) other in
    let off = ap is_negative (sym a.2) ∙ positive a.0 a.1 in
    let also = ap is_negative (sym b.2) ∙ positive b.0 b.1 in
    true≢false (sym (ap not off) ∙ sym (is_negative-negation lit) ∙ also)

three : (a b c : ℕ) → is_negative a ≡ false → is_negative b ≡ false → is_negative c ≡ false → (k : ℕ) → k < 3 → is_negative (get_or (a ∷ b ∷ c ∷ []) k 0) ≡ false
three a b c p q r zero lt = p
three a b c p q r (suc zero) lt = q
three a b c p q r (suc (suc zero)) lt = r
three a b c p q r (suc (suc (suc k))) lt = absurd (omega arith)

pub solve-requires-clause-consistent : goal.solve-requires-clause-consistent
solve-requires-clause-consistent c =
    all-positive (c.variable.result ∷ c.variable-2.result ∷ c.variable-3.result ∷ []) (three c.variable.result c.variable-2.result c.variable-3.result c.variable.ensures.positive c.variable-2.ensures.positive c.variable-3.ensures.positive)
