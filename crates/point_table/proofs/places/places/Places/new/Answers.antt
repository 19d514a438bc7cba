use Rattle.std.proofs.Common.{◌∙◌, true≢false, sym, ap, arith}
use Rattle.bit_rows.specs.Rows.{has_bit}
use Rattle.point_table.proofs.places.Bits.{no_words}
use Rattle.point_table.proofs.places.places.Places.new.Goals as goal

pub invariant_of-result : goal.invariant_of-result
invariant_of-result c = record {
  told = λ n k small none. absurd (omega (arith, none, c.new.ensures.items));
  below = λ k live. absurd (true≢false (sym live ∙ ap (λ ws. has_bit ws k) c.new-2.ensures ∙ no_words k));
  room = omega (arith, c.new.ensures.items);
}
