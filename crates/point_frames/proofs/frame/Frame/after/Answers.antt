use Rattle.std.proofs.Common.{◌≡◌, ◌≤◌, ap, subst, arith}
use Rattle.bit_rows.specs.Rows.{BitRows, has_bit}
use Rattle.point_frames.specs.declared.base.Base.{Base}
use Rattle.point_frames.specs.Frames.{IsNarrowed}
use Rattle.point_frames.specs.Joined.{joined, HasFirst}
use Rattle.point_frames.proofs.Joined.{if_ok, joined_copy, narrowed_first}
use Rattle.point_frames.proofs.frame.Frame.after.Goals as goal

pub first_rows-requires : goal.first_rows-requires
first_rows-requires c = record { some = c.self.invariant.laid.0; count = omega (arith, c.count.ensures) }

pub returns : goal.returns
returns c =
    let s = c.self.inside in
    let is = c.self.invariant in
    let base = s.base.value.rows in
    let copy = c.in_ok-own.own in
    let first : HasFirst s.own copy s.own.count = subst (λ n. HasFirst s.own copy n) c.count.ensures c.in_ok-own.ensures in
    let l = has_bit c.args.sides.now.left.now in
    let r = has_bit c.args.sides.now.right.now in
    let shared : joined copy c.in_ok-base.base.value.rows ≡ joined copy base = ap (λ (b : Base). joined copy b.rows) c.in_ok-base.ensures.cases in
    let two : 2 ≤ s.own.count = is.laid.1 in
    if_ok _ _ c.narrow.result c.narrow.ensures (λ next narrowed.
    subst (λ (v : BitRows). IsNarrowed v next l r c.args.words) c.self.view_is
    (narrowed_first (joined s.own base) (joined copy base) next l r c.args.words (omega (arith, two)) (joined_copy s.own copy base is.width first)
    (subst (λ (v : BitRows). IsNarrowed v next l r c.args.words) shared narrowed)))
