use Rattle.std.proofs.Common.{◌≡◌, ◌++◌, map, take}
use Rattle.rcc5_core.specs.Relation.{letter_of}
use Rattle.proof_text.proofs.spelling.put_letters.Given as goal

abbrev pub invariant-loop-rel : goal.invariant-loop-rel
invariant-loop-rel l = l.out.items ≡ l.fn.out.items ++ map letter_of (take l.rel-index l.rels)
