use Rattle.std.proofs.Common.{◌∙◌, ℕ, List, [], ◌∷◌, ◌++◌, take, get_or, Vec, Global, sym, subst}
use Rattle.std.proofs.lemmas.List.{take_more, take_all}
use Rattle.point_frames.specs.Groups.{AreSplit}
use Rattle.point_frames.proofs.Grouped.{split_none, split_yes, split_no}
use Rattle.point_frames.proofs.groups.split.Goals.{then-has_bit+in_ok-push, else-has_bit+in_ok-push-2}
use Rattle.point_frames.proofs.groups.split.Goals as goal

pub loop-row-init : goal.loop-row-init
loop-row-init c =
    let rows = c.args.rows.now in
    let place = c.args.place in
    subst (λ (yes : List ℕ). AreSplit rows [] place yes c.new-without.result.items) (sym c.new-with.ensures.items)
    (subst (λ (no : List ℕ). AreSplit rows [] place [] no) (sym c.new-without.ensures.items) (split_none rows place))

pub loop-row-preserved : goal.loop-row-preserved
loop-row-preserved c =
    let rows = c.args.rows.now in
    let place = c.args.place in
    let i = c.loop-row.row-index in
    let before = take i c.args.list.now in
    let r = get_or c.args.list.now i 0 in
    let so = c.loop-row.invariant in
    subst (λ (list : List ℕ). AreSplit rows list place c.if-has_bit.with.items c.if-has_bit.without.items) (sym (take_more c.args.list.now i 0 c.loop-row-test.true))
    (elim c.if-has_bit.branch [
      | then-has_bit+in_ok-push w ↦
          subst (λ (v : Vec ℕ Global). AreSplit rows (before ++ r ∷ []) place v.items c.if-has_bit.without.items) (sym w.with-is)
          (subst (λ (v : Vec ℕ Global). AreSplit rows (before ++ r ∷ []) place w.push.new.self.items v.items) (sym w.without-is)
          (subst (λ (list : List ℕ). AreSplit rows (before ++ r ∷ []) place list c.loop-row.without.items) (sym w.in_ok-push.ensures.items)
          (split_yes rows before c.loop-row.with.items c.loop-row.without.items place r so (sym (c.row.ensures.bits place) ∙ sym c.has_bit.ensures ∙ w.if-has_bit.true))))
      | else-has_bit+in_ok-push-2 w ↦
          subst (λ (v : Vec ℕ Global). AreSplit rows (before ++ r ∷ []) place v.items c.if-has_bit.without.items) (sym w.with-is)
          (subst (λ (v : Vec ℕ Global). AreSplit rows (before ++ r ∷ []) place c.loop-row.with.items v.items) (sym w.without-is)
          (subst (λ (list : List ℕ). AreSplit rows (before ++ r ∷ []) place c.loop-row.with.items list) (sym w.in_ok-push-2.ensures.items)
          (split_no rows before c.loop-row.with.items c.loop-row.without.items place r so (sym (c.row.ensures.bits place) ∙ sym c.has_bit.ensures ∙ w.if-has_bit.false))))
    ])

pub returns : goal.returns
returns c = subst (λ (list : List ℕ). AreSplit c.args.rows.now list c.args.place c.loop-row.with.items c.loop-row.without.items) (take_all c.loop-row.row-index c.args.list.now c.loop-row-test.false) c.loop-row.invariant
