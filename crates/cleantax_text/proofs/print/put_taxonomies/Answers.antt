use Rattle.cleantax_text.specs.Canonical.{taxonomy_text}
use Rattle.cleantax_text.proofs.PieceLemmas.{pieces_put}
use Rattle.cleantax_text.proofs.print.put_taxonomies.Goals as goal

pub loop-which-preserved : goal.loop-which-preserved
loop-which-preserved c = pieces_put (taxonomy_text c.args.problem.now) _ _ _ c.loop-which.which c.loop-which.invariant c.in_ok-put_taxonomy.ensures
