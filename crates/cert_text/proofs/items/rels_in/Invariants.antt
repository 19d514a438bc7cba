use Rattle.std.proofs.Common.{◌≡◌, length}
use Rattle.rcc5_core.specs.Relation.{with_letter}
use Rattle.cert_text.specs.Lines.{each_in}
use Rattle.cert_text.proofs.EachLemmas.{onto}
use Rattle.cert_text.proofs.items.rels_in.Given as goal

abbrev pub invariant-loop-rest : goal.invariant-loop-rest
invariant-loop-rest l = each_in with_letter l.fn.letters ≡ onto l.position (each_in with_letter l.rest)

abbrev pub decreases-loop-rest : goal.decreases-loop-rest
decreases-loop-rest l = length l.rest
