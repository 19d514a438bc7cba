use Rattle.std.proofs.Common.{◌≡◌, ◌++◌}
use Rattle.cleantax_text.specs.Pieces.{headings}
use Rattle.cleantax_text.proofs.print.put_headings.Given as goal

abbrev pub invariant-loop-concept : goal.invariant-loop-concept
invariant-loop-concept l = l.out.items ≡ l.initial.out.items ++ headings l.problem l.which l.concept
