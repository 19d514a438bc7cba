use Rattle.cleantax_text.specs.Pieces.{heading}
use Rattle.cleantax_text.proofs.PieceLemmas.{pieces_put}
use Rattle.cleantax_text.proofs.print.put_headings.Goals as goal

pub loop-concept-preserved : goal.loop-concept-preserved
loop-concept-preserved c = pieces_put (heading c.args.problem.now c.args.which) _ _ _ c.loop-concept.concept c.loop-concept.invariant c.in_ok-put_heading.ensures
