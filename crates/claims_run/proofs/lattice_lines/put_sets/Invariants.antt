use Rattle.std.proofs.Common.{◌≡◌, ◌++◌, drop, flat_map}
use Rattle.claims_run.specs.Answering.{set_line, sets_text}
use Rattle.claims_run.proofs.lattice_lines.put_sets.Given as goal

-- the text, and the lines that are left, are all lines
abbrev pub invariant-loop-set : goal.invariant-loop-set
invariant-loop-set l = l.text.items ++ flat_map set_line (drop l.set-index l.sets) ≡ l.fn.text.items ++ sets_text l.name l.sets
