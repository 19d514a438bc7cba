use Rattle.lits_core.specs.declared.Line.TheVariants.{Forget}
use Rattle.proof_check.proofs.BookLemmas.{sound-after}
use Rattle.proof_check.proofs.Book.forget.Goals as goal

pub invariant_of-self : goal.invariant_of-self
invariant_of-self c =
    (sound-after c.self.inside.clauses c.forget.new.self (Forget c.args.ids.now) c.forget.result c.self.invariant.0 c.forget.ensures.fault c.forget.ensures.ok c.forget.ensures.err, c.self.invariant.1)
