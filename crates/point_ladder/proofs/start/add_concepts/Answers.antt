use Rattle.std.proofs.Common.{ℕ, Bool, ◌+◌, ◌&&◌, refl, arith}
use Rattle.world_model.specs.Trial.{points_by_trial}
use Rattle.bit_rows.specs.Rows.{has_bit, in_cells, SomePlace}
use Rattle.point_ladder.specs.Ladders.{bits_at, ConceptsMet}
use Rattle.point_frames.proofs.Needs.{owing_as, owing_more}
use Rattle.point_ladder.proofs.FirstFrame.{below_more, side_bits, concept_owed}
use Rattle.point_ladder.proofs.start.add_concepts.Goals as goal

pub loop-concept-preserved : goal.loop-concept-preserved
loop-concept-preserved c =
    let p = c.args.problem.now in
    let points = points_by_trial p in
    let n = c.loop-concept.concept in
    let row = has_bit c.row-row.result.now in
    let test : ℕ → Bool = λ k. row k && row k && in_cells c.all.result (row k) (row k) in
    let pushed : (ℕ → Bool) → Type 0 = λ some. SomePlace (λ k. test k && some k) in
    let more = owing_more c.args.frame.now.rows c.loop-concept.frame.rows c.add_need.new.self.rows (ConceptsMet points n) pushed c.loop-concept.invariant c.in_ok-add_need.ensures.owing in
    let counted = c.requires.rows.counted in
    let shows = side_bits p c.args.rows.now row n n c.requires.rows (omega (arith, counted, c.loop-concept-test.true, c.count-concept-end.ensures)) refl c.row-row.ensures.bits in
    owing_as c.args.frame.now.rows c.add_need.new.self.rows (λ some. ConceptsMet points n some × pushed some) (ConceptsMet points (n + 1)) more
    (λ some within.
    let both = below_more (λ c. SomePlace (λ k. some k && bits_at points c k)) n in
    let owed = concept_owed row (bits_at points n) some c.all.result c.all.ensures shows in
    (λ h. both.0 (h.0, owed.0 h.1), λ h. let parts = both.1 h in (parts.0, owed.1 parts.1)))
