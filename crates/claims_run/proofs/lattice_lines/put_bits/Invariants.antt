use Rattle.std.proofs.Common.{◌≡◌, ◌++◌, drop, map}
use Rattle.cert_text.specs.Lines.{bit_byte}
use Rattle.claims_run.proofs.lattice_lines.put_bits.Given as goal

-- the text, and the flags that are left, are all
abbrev pub invariant-loop-index : goal.invariant-loop-index
invariant-loop-index l = l.text.items ++ map bit_byte (drop l.index l.set) ≡ l.fn.text.items ++ map bit_byte l.set
