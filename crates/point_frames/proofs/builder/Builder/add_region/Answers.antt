use Rattle.std.proofs.Common.{true, ◌&&◌, ◌≡◌, ◌∙◌, sym}
use Rattle.bit_rows.specs.Rows.{has_bit, in_cells, SomePlace}
use Rattle.world_model.specs.Alive.{lies_by}
use Rattle.point_frames.specs.Frames.{is_occupied}
use Rattle.point_frames.proofs.Frames.{not_met}
use Rattle.point_frames.proofs.Needs.{owing_as, owing_same, region_owed}
use Rattle.point_frames.proofs.builder.Builder.add_region.Goals as goal

pub returns-in_ok-add_need : goal.returns-in_ok-add_need
returns-in_ok-add_need c =
    let l = has_bit c.args.sides.now.left.now in
    let r = has_bit c.args.sides.now.right.now in
    let mask = has_bit c.args.places.now in
    let region = c.args.region in
    record {
      owing = owing_as c.args.self.now.rows c.add_need.new.self.rows (λ some. SomePlace (λ k. (mask k && mask k && in_cells c.region_cell.result (l k) (r k)) && some k))
          (λ some. is_occupied c.args.words region ≡ true → SomePlace (λ k. some k && lies_by region (l k) (r k))) c.in_ok-add_need.ensures.owing
          (λ some within.
          let both = region_owed mask l r c.region_cell.result region some c.region_cell.ensures (λ k h. c.requires.places k (within k h)) in
          (λ p occupied. both.0 p, λ q. both.1 (q (sym c.is_occupied.ensures ∙ c.if-is_occupied.true))));
    }

pub returns-else-is_occupied : goal.returns-else-is_occupied
returns-else-is_occupied c =
    let l = has_bit c.args.sides.now.left.now in
    let r = has_bit c.args.sides.now.right.now in
    let region = c.args.region in
    record {
      owing = owing_as c.args.self.now.rows c.args.self.now.rows (λ _. Unit {0}) (λ some. is_occupied c.args.words region ≡ true → SomePlace (λ k. some k && lies_by region (l k) (r k)))
          (owing_same c.args.self.now.rows c.requires.laid.1)
          (λ some within. (λ p occupied. absurd (not_met c.is_occupied.result c.if-is_occupied.false (c.is_occupied.ensures ∙ occupied)), λ q. tt));
    }
