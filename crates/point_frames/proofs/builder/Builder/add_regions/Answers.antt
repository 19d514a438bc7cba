use Rattle.std.proofs.Common.{ℕ, Bool, true, ◌&&◌, ◌≡◌}
use Rattle.rcc5_core.specs.declared.Region.{Region}
use Rattle.rcc5_core.specs.declared.Region.TheVariants.{LeftOnly, Both, RightOnly}
use Rattle.bit_rows.specs.Rows.{has_bit, SomePlace}
use Rattle.world_model.specs.Alive.{lies_by}
use Rattle.point_frames.specs.Frames.{is_occupied, AreRegionsMet}
use Rattle.point_frames.proofs.Frames.{met_by_three}
use Rattle.point_frames.proofs.Needs.{owing_as, owing_more}
use Rattle.point_frames.proofs.builder.Builder.add_regions.Goals as goal

pub returns : goal.returns
returns c =
    let l = has_bit c.args.sides.now.left.now in
    let r = has_bit c.args.sides.now.right.now in
    let words = c.args.words in
    let start = c.args.self.now.rows in
    let end = c.add_region-3.new.self.rows in
    let owed : Region → (ℕ → Bool) → Type 0 = λ region some. is_occupied words region ≡ true → SomePlace (λ k. some k && lies_by region (l k) (r k)) in
    let two = owing_more start c.add_region.new.self.rows c.add_region-2.new.self.rows (owed LeftOnly) (owed Both) c.in_ok-add_region.ensures.owing c.in_ok-add_region-2.ensures.owing in
    let three = owing_more start c.add_region-2.new.self.rows end (λ some. owed LeftOnly some × owed Both some) (owed RightOnly) two c.in_ok-add_region-3.ensures.owing in
    record {
      owing = owing_as start end (λ some. (owed LeftOnly some × owed Both some) × owed RightOnly some) (AreRegionsMet words l r) three
          (λ some within. (λ h. met_by_three words l r some h.0.0 h.0.1 h.1, λ h. ((h LeftOnly, h Both), h RightOnly)));
    }
