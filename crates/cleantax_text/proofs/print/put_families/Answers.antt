use Rattle.cleantax_text.specs.Pieces.{family}
use Rattle.cleantax_text.proofs.PieceLemmas.{pieces_put}
use Rattle.cleantax_text.proofs.print.put_families.Goals as goal

pub loop-concept-preserved : goal.loop-concept-preserved
loop-concept-preserved c = pieces_put (family c.args.problem.now c.args.which) _ _ _ c.loop-concept.concept c.loop-concept.invariant c.in_ok-put_family.ensures
