use Rattle.std.proofs.Common.{◌≡◌, ◌++◌}
use Rattle.claims_run.specs.Answering.{numbered_lines}
use Rattle.claims_run.proofs.KeptLemmas.{lines_at}
use Rattle.claims_run.proofs.kept_lines.put_kept.Given as goal

-- the text, and the lines that are left, are all lines
abbrev pub invariant-loop-index : goal.invariant-loop-index
invariant-loop-index l = l.text.items ++ lines_at l.problem l.kept l.index ≡ l.fn.text.items ++ numbered_lines l.problem 1 l.problem.articulations l.kept
