use Rattle.cleantax_text.specs.Pieces.{line_of}
use Rattle.cleantax_text.proofs.PieceLemmas.{line_put}
use Rattle.cleantax_text.proofs.print.put_lines.Goals as goal

pub loop-index-preserved : goal.loop-index-preserved
loop-index-preserved c = line_put (line_of c.args.problem.now) _ _ _ c.args.problem.now.articulations c.loop-index.index _ c.articulation.ensures.value c.loop-index.invariant c.in_ok-put_line.ensures
