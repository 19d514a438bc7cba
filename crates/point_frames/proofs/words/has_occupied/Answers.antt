use Rattle.std.proofs.Common.{◌≡◌, true}
use Rattle.std.proofs.lemmas.Bool.{false≢true}
use Rattle.rcc5_core.specs.declared.Region.TheVariants.{LeftOnly, Both, RightOnly}
use Rattle.point_frames.specs.Frames.{is_occupied, cell_of}
use Rattle.point_frames.proofs.Frames.{three_regions, not_met}
use Rattle.point_frames.proofs.words.has_occupied.Goals as goal

pub returns-then-not-has_if_occupied : goal.returns-then-not-has_if_occupied
returns-then-not-has_if_occupied c = (λ h. absurd (false≢true h), λ all. absurd (not_met c.has_if_occupied.result c.if-not-has_if_occupied.true (c.has_if_occupied.ensures.1 (all LeftOnly))))

pub returns-then-not-has_if_occupied-2 : goal.returns-then-not-has_if_occupied-2
returns-then-not-has_if_occupied-2 c = (λ h. absurd (false≢true h), λ all. absurd (not_met c.has_if_occupied-2.result c.if-not-has_if_occupied-2.true (c.has_if_occupied-2.ensures.1 (all Both))))

pub returns : goal.returns
returns c = (
  λ h. three_regions (λ region. is_occupied c.args.words region ≡ true → cell_of c.args.cells region ≡ true) (c.has_if_occupied.ensures.0 c.if-not-has_if_occupied.false) (c.has_if_occupied-2.ensures.0 c.if-not-has_if_occupied-2.false) (c.has_if_occupied-3.ensures.0 h),
  λ all. c.has_if_occupied-3.ensures.1 (all RightOnly),
)
