use Rattle.std.proofs.Common.{◌≡◌, ◌++◌, map, take}
use Rattle.cleantax_text.specs.Canonical.{spaced, word_of}
use Rattle.cleantax_text.proofs.print.put_words.Given as goal

abbrev pub invariant-loop-rel : goal.invariant-loop-rel
invariant-loop-rel l = l.out.items ≡ l.initial.out.items ++ spaced (map word_of (take l.rel-index l.rels))
