use Rattle.std.proofs.Common.{◌≡◌, ℕ, sym, ap, ◌∙◌}
use Rattle.bit_rows.specs.Rows.{has_bit, bit_in}
use Rattle.point_table.proofs.Building.{same_size, size_after, joined_implied}
use Rattle.point_table.proofs.build.spread_implied.Goals as goal

pub loop-row-init : goal.loop-row-init
loop-row-init c = record { size = same_size c.args.implied.now; rules = λ p are. are }

pub loop-row-preserved : goal.loop-row-preserved
loop-row-preserved c = record {
  size = size_after c.args.implied.now c.loop-row.implied c.join_if.new.rows c.loop-row.invariant.size c.join_if.ensures.size;
  rules = λ p are.
      let own : (k : ℕ) → has_bit c.deref.result.now k ≡ bit_in c.args.implied.now c.args.concept k =
      λ k. ap (λ ws. has_bit ws k) (c.deref.ensures.value ∙ c.in_ok-own.ensures.items) ∙ c.row.ensures.bits k in
      joined_implied p c.loop-row.implied c.join_if.new.rows c.has_bit-has.result c.loop-row.row c.args.concept c.deref.result.now (c.loop-row.invariant.rules p are) c.join_if.ensures.bits
      (c.has_bit-has.ensures ∙ c.row-in-loop-row.ensures.bits c.args.concept) (λ k has. are c.args.concept k (sym (own k) ∙ has));
}
