use Rattle.std.proofs.Common.{◌≡◌, ◌++◌, map, take}
use Rattle.cert_text.specs.Lines.{bit_byte}
use Rattle.cert_text.proofs.pieces.put_each_bit.Given as goal

abbrev pub invariant-loop-bit : goal.invariant-loop-bit
invariant-loop-bit l = l.out.items ≡ l.fn.out.items ++ map bit_byte (take l.bit-index l.bits)
