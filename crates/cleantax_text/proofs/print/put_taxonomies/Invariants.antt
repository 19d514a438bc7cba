use Rattle.std.proofs.Common.{◌≡◌, ◌++◌}
use Rattle.cleantax_text.specs.Pieces.{taxonomies_text}
use Rattle.cleantax_text.proofs.print.put_taxonomies.Given as goal

abbrev pub invariant-loop-which : goal.invariant-loop-which
invariant-loop-which l = l.out.items ≡ l.initial.out.items ++ taxonomies_text l.problem l.which
