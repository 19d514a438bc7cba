use Rattle.std.proofs.Common.{◌≡◌, ◌++◌, take}
use Rattle.std.specs.Prelude.{flat_map}
use Rattle.cleantax_text.specs.Pieces.{line_of}
use Rattle.cleantax_text.proofs.print.put_lines.Given as goal

abbrev pub invariant-loop-index : goal.invariant-loop-index
invariant-loop-index l = l.out.items ≡ l.initial.out.items ++ flat_map (line_of l.problem) (take l.index l.problem.articulations)
