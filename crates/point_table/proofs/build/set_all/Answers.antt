use Rattle.std.proofs.Common.{◌≡◌, ◌||◌, ◌∙◌, get_or, ap, refl, arith, inl, inr}
use Rattle.std.specs.Prelude.{◌==◌}
use Rattle.std.proofs.Math.Bool.{or-true}
use Rattle.std.proofs.lemmas.Bool.{cases_lt, eq-eqb}
use Rattle.std.proofs.lemmas.List.{get_or_default}
use Rattle.bit_rows.specs.Rows.{bit_in}
use Rattle.point_table.proofs.Building.{same_size, put_size}
use Rattle.point_table.proofs.build.set_all.Goals as goal

pub loop-part-init : goal.loop-part-init
loop-part-init c = record { size = same_size c.args.rows.now; others = λ r k h. refl; there = λ i h. absurd (omega arith) }

pub loop-part-preserved : goal.loop-part-preserved
loop-part-preserved c =
    let row = c.args.row in
    let old = c.loop-part.rows in
    let before = c.loop-part.invariant in
    let put = c.set.ensures in
    let part = get_or c.args.parts.now c.loop-part.part-index 0 in
    record {
      size = put_size c.args.rows.now old c.set.new.self row (λ k. bit_in old row k || (k == part)) before.size put;
      others = λ r k apart. put.others r k apart ∙ before.others r k apart;
      there = λ i small. put.there (get_or c.args.parts.now i 0) ∙ elim (cases_lt i c.loop-part.part-index) [
        | inl earlier ↦ ap (λ b. b || (get_or c.args.parts.now i 0 == part)) (before.there i earlier)
        | inr last ↦
            let same : i ≡ c.loop-part.part-index = omega arith in
            ap (λ b. bit_in old row (get_or c.args.parts.now i 0) || b) (eq-eqb (get_or c.args.parts.now i 0) part (ap (λ n. get_or c.args.parts.now n 0) same)) ∙ or-true (bit_in old row (get_or c.args.parts.now i 0))
      ];
    }

pub returns-clause-there : goal.returns-clause-there
returns-clause-there c = λ k d small. ap (bit_in c.loop-part.rows c.args.row) (get_or_default c.args.parts.now k d 0 small) ∙ c.loop-part.invariant.there k (omega arith)
