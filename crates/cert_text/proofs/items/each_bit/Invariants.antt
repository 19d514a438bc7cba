use Rattle.std.proofs.Common.{◌≡◌, length}
use Rattle.cert_text.specs.Lines.{each_in, bit_with}
use Rattle.cert_text.proofs.EachLemmas.{onto}
use Rattle.cert_text.proofs.items.each_bit.Given as goal

abbrev pub invariant-loop-rest : goal.invariant-loop-rest
invariant-loop-rest l = each_in bit_with l.fn.bytes ≡ onto l.bits.items (each_in bit_with l.rest)

abbrev pub decreases-loop-rest : goal.decreases-loop-rest
decreases-loop-rest l = length l.rest
