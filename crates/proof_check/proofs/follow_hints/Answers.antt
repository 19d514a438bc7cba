use Rattle.std.proofs.Common.{◌∷◌, sym, ap, ◌∙◌, arith}
use Rattle.std.specs.Option.{option_copied}
use Rattle.lits_core.specs.Derivation.{SameLits}
use Rattle.lits_core.specs.Literals.{negation_of}
use Rattle.proof_check.proofs.HintLemmas.{implied-next}
use Rattle.proof_check.proofs.follow_hints.Goals as goal

pub loop-hint-preserved : goal.loop-hint-preserved
loop-hint-preserved c =
    let same : SameLits c.hold.new.self (negation_of c.in-Implies.lit ∷ c.loop-hint.held) = rw (← c.negate.ensures) c.in_ok-hold-in-Implies.ensures in
    implied-next c.args.clauses.now c.args.hints.now c.loop-hint.hint-index c.loop-hint.held c.hold.new.self c.find.result c.in-Some.lits.now c.in-Implies.lit (omega arith) c.find.ensures (ap option_copied c.in-Some.is) (sym c.hint_of.ensures ∙ c.in-Implies.is) same
    ∙ c.loop-hint.invariant
