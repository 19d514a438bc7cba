use Rattle.std.proofs.Common.{◌≡◌, ◌+◌, ◌-◌, ◌<◌, ◌++◌, ◌∷◌, [], length, set, refl, sym, subst, arith}
use Rattle.world_model.specs.Problem.{pair_count}
use Rattle.world_model.specs.Node.{pair_at}
use Rattle.world_model.specs.Alive.{problem_at, IsAlive}
use Rattle.bit_rows.specs.Rows.{has_bit}
use Rattle.point_ladder.specs.declared.ladder.Ladder.TheInside.{Inside}
use Rattle.point_ladder.specs.Stretches.{IsLadder}
use Rattle.point_ladder.proofs.Narrower.{IsNext}
use Rattle.point_ladder.specs.Ladders.{ShowsPair}
use Rattle.point_ladder.proofs.Keeps.{IsFrameAt, problem_of, points_of, path_of, some_stretch, frame_of, holds_of, frame_pushed, path_long, next_by_alive, keeps_more, risen_same, risen_new}
use Rattle.point_ladder.proofs.ladder.Ladder.push.Goals as goal
use Rattle.point_ladder.proofs.ladder.Ladder.push.Goals.{then-not-is_same+in_ok-frame+in_ok-push, else-not-is_same}

pub overflow_sub-last : goal.overflow_sub-last
overflow_sub-last c =
    let s = c.self.inside in
    let some = some_stretch s c.self.invariant (subst (λ v. IsAlive (problem_at v.problem v.path)) (sym c.self.view_is) c.requires.alive) in
    omega (arith, some, c.len-last.ensures, s.stretches.ok)

pub index-requires : goal.index-requires
index-requires c =
    let s = c.self.inside in
    let some = some_stretch s c.self.invariant (subst (λ v. IsAlive (problem_at v.problem v.path)) (sym c.self.view_is) c.requires.alive) in
    omega (arith, some, c.len-last.ensures, s.stretches.ok)

pub invariant_of-self-2 : goal.invariant_of-self-2
invariant_of-self-2 c =
    let s = c.self.inside in
    let x = c.if-not-is_same.self-inside in
    let rel = c.args.rel in
    let q = problem_of s in
    let m = path_of s in
    let at = path_long s c.self.invariant in
    let alive = subst (λ v. IsAlive (problem_at v.problem v.path)) (sym c.self.view_is) c.requires.alive in
    let short = subst (λ v. length v.path < pair_count v.problem) (sym c.self.view_is) c.requires.short in
    let lives = subst (λ v. IsAlive (problem_at v.problem (v.path ++ rel ∷ []))) (sym c.self.view_is) (c.leads_to.ensures.0 c.if-not-leads_to.false) in
    let next : IsNext q m rel = next_by_alive q m rel short lives in
    let some = some_stretch s c.self.invariant alive in
    let end : c.len-last.result - 1 + 1 ≡ length s.stretches.items = omega (arith, some, c.len-last.ensures, s.stretches.ok) in
    let frame = frame_of s (c.len-last.result - 1) c.index.result.now c.self.invariant alive end c.index.ensures in
    let l = has_bit c.sides_of-sides.result.left.now in
    let r = has_bit c.sides_of-sides.result.right.now in
    let shows : ShowsPair (pair_at q (length m)) (points_of s) l r = subst (λ k. ShowsPair (pair_at s.problem k) (points_of s) l r) (sym at) c.sides_of-sides.ensures in
    let here : IsFrameAt q m (points_of s) c.index.result.now.frame l r = record { holds = holds_of s c.self.invariant alive; alive = alive; frame = frame; shows = shows } in
    elim c.if-not-is_same.branch [
      | then-not-is_same+in_ok-frame+in_ok-push w ↦
          subst (λ (x : Inside). IsLadder x.problem (problem_of x) x.sets.items x.rows (set x.line.items s.len rel) (s.len + 1) x.nexts.items x.stretches.items x.alive) (sym w.self-inside-is)
          (keeps_more s rel (set s.line.items s.len rel) w.push.new.self.items c.self.invariant next lives refl
          (risen_new s rel (set s.line.items s.len rel) (record { from = s.len + 1; frame = w.in_ok-frame.frame }) w.push.new.self.items c.self.invariant next alive refl refl w.in_ok-push.ensures.items
          (frame_pushed q m rel w.row-then-not-is_same.result (points_of s) c.index.result.now.frame w.in_ok-frame.frame l r w.row-then-not-is_same.ensures next here w.in_ok-frame.ensures)))
      | else-not-is_same w ↦
          subst (λ (x : Inside). IsLadder x.problem (problem_of x) x.sets.items x.rows (set x.line.items s.len rel) (s.len + 1) x.nexts.items x.stretches.items x.alive) (sym w.self-inside-is)
          (keeps_more s rel (set s.line.items s.len rel) s.stretches.items c.self.invariant next lives refl
          (risen_same s rel (set s.line.items s.len rel) (c.len-last.result - 1) c.index.result.now c.self.invariant next alive refl end c.index.ensures
          (frame_pushed q m rel c.row.result (points_of s) c.index.result.now.frame c.index.result.now.frame l r c.row.ensures next here (c.is_same.ensures w.if-not-is_same.false))))
    ]
