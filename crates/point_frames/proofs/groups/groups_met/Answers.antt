use Rattle.std.proofs.Common.{◌≡◌, ◌∙◌, ℕ, get_or, inl, inr, refl, sym, subst, arith}
use Rattle.std.specs.Prelude.{All}
use Rattle.std.proofs.lemmas.List.{get_or_default}
use Rattle.point_frames.specs.declared.groups.Group.{Group}
use Rattle.point_frames.specs.Groups.{IsGroup, IsOpenMet}
use Rattle.std.proofs.lemmas.Bool.{false≢true, cases_lt}
use Rattle.bit_rows.specs.Rows.{has_bit}
use Rattle.point_frames.proofs.Frames.{not_met}
use Rattle.point_frames.proofs.Grouped.{groups_are_met, group_is_met, group_wider}
use Rattle.point_frames.proofs.groups.groups_met.Goals as goal

pub group_met-requires : goal.group_met-requires
group_met-requires c =
    let is = c.requires in
    group_wider c.args.rows.now c.args.count c.args.rows.now.count c.group-item.result is.within
    (subst (IsGroup c.args.rows.now c.args.count) (sym c.group-item.is) (is.are c.loop-group.group-index c.group-item.result c.loop-group-test.true))

pub returns-then-not-group_met : goal.returns-then-not-group_met
returns-then-not-group_met c = (
  λ h. absurd (false≢true h),
  λ all.
      let is = c.requires in
      let group = subst (IsGroup c.args.rows.now c.args.count) (sym c.group-item.is) (is.are c.loop-group.group-index c.group-item.result c.loop-group-test.true) in
      absurd (not_met c.group_met.result c.if-not-group_met.true (c.group_met.ensures.1
      (group_is_met c.args.rows.now (has_bit c.args.left.now) (has_bit c.args.sides.now.left.now) (has_bit c.args.sides.now.right.now) c.args.cells c.group-item.result c.args.count group all))),
)

pub loop-group-preserved : goal.loop-group-preserved
loop-group-preserved c = λ k d small. elim (cases_lt k c.loop-group.group-index) [
  | inl before ↦ c.loop-group.invariant k d before
  | inr here ↦
      let met = λ (group : Group). All (IsOpenMet c.args.rows.now (has_bit c.args.left.now) (has_bit c.args.sides.now.left.now) (has_bit c.args.sides.now.right.now) c.args.cells) group.rows.items in
      let groups = c.args.groups.now in
      let at = c.loop-group.group-index in
      let same : at ≡ k = omega (arith, small, here) in
      subst (λ (q : ℕ). met (get_or groups q d)) same
      (subst met (c.group-item.is ∙ get_or_default groups at c.group-item.result d c.loop-group-test.true) (c.group_met.ensures.0 c.if-not-group_met.false))
]

pub returns : goal.returns
returns c = (
  λ h. groups_are_met c.args.rows.now (has_bit c.args.left.now) (has_bit c.args.sides.now.left.now) (has_bit c.args.sides.now.right.now) c.args.cells c.args.groups.now c.args.count c.requires (λ k d small. c.loop-group.invariant k d (omega (arith, small, c.loop-group-test.false))),
  λ all. refl,
)
