use Rattle.std.proofs.Common.{◌≡◌, ◌++◌}
use Rattle.cleantax_text.specs.Pieces.{families}
use Rattle.cleantax_text.proofs.print.put_families.Given as goal

abbrev pub invariant-loop-concept : goal.invariant-loop-concept
invariant-loop-concept l = l.out.items ≡ l.initial.out.items ++ families l.problem l.which l.concept
