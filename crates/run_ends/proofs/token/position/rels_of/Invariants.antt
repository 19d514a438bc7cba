use Rattle.std.proofs.Common.{◌≡◌, length}
use Rattle.run_ends.specs.Token.Token.{rels_of}
use Rattle.run_ends.proofs.token.PositionLemmas.{onto_rels}
use Rattle.run_ends.proofs.token.position.rels_of.Given as goal

abbrev pub invariant-loop-rest : goal.invariant-loop-rest
invariant-loop-rest l = rels_of l.fn.letters ≡ onto_rels l.position (rels_of l.rest)

abbrev pub decreases-loop-rest : goal.decreases-loop-rest
decreases-loop-rest l = length l.rest
