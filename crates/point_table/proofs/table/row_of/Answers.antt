use Rattle.std.proofs.Common.{◌*◌, ◌+◌, ◌≤◌, ◌∷◌, [], ◌∙◌, ℕ, Bool, length, ap, sym, arith, false, inl, inr}
use Rattle.std.proofs.lemmas.Bool.{cases_lt}
use Rattle.std.proofs.lemmas.List.{get_or_past, length-append}
use Rattle.world_model.specs.Alive.{bit_of, point_at}
use Rattle.bit_rows.specs.Rows.{has_bit}
use Rattle.bit_rows.proofs.WordBits.{has_push, has_past}
use Rattle.point_table.proofs.table.row_of.Goals as goal

pub loop-i-preserved : goal.loop-i-preserved
loop-i-preserved c =
    let test : ℕ → Bool = λ k. bit_of (point_at c.args.points.now k) c.args.concept in
    let before = c.loop-i.invariant in
    let items = c.in_ok-push.ensures.items in
    record {
      counted = ap length items ∙ length-append c.loop-i.row.items (c.word_of.result ∷ []) ∙ ap (λ n. n + 1) before.counted;
      bits = λ k small. ap (λ ws. has_bit ws k) items ∙ has_push c.loop-i.row.items c.word_of.result c.loop-i.i test before.counted before.bits c.word_of.ensures k small;
    }

pub returns-clause-bits : goal.returns-clause-bits
returns-clause-bits c = λ k.
    let points = c.args.points.now in
    let before = c.loop-i.invariant in
    let counted = before.counted in
    elim (cases_lt k (64 * c.loop-i.i)) [
      | inl small ↦ before.bits k small
      | inr past ↦
          let long : length points ≤ k = omega (arith, c.loop-i-test.false, past) in
          has_past c.loop-i.row.items c.loop-i.i k (omega arith) past ∙ sym (ap (λ bits. bit_of bits c.args.concept) (get_or_past points k [] long) ∙ get_or_past [] c.args.concept false (omega arith))
    ]
