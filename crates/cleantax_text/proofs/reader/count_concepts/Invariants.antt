use Rattle.std.proofs.Common.{◌≡◌, take}
use Rattle.std.specs.Prelude.{sum_by}
use Rattle.constraint_set.specs.Build.{size_of}
use Rattle.cleantax_text.proofs.reader.count_concepts.Given as goal

abbrev pub invariant-loop-forest : goal.invariant-loop-forest
invariant-loop-forest l = l.count ≡ sum_by size_of (take l.forest-index l.forests)
