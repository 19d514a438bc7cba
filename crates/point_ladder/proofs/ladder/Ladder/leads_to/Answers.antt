use Rattle.std.proofs.Common.{◌-◌, ◌<◌, ◌↔◌, ◌++◌, ◌∷◌, [], length, sym, ◌∙◌, subst, arith}
use Rattle.std.specs.Prelude.{IsTrue}
use Rattle.std.proofs.lemmas.Bool.{false≢true}
use Rattle.world_model.specs.Problem.{pair_count}
use Rattle.world_model.specs.Node.{pair_at}
use Rattle.world_model.specs.Alive.{problem_at, IsAlive}
use Rattle.bit_rows.specs.Rows.{has_bit}
use Rattle.point_ladder.proofs.Narrower.{IsNext}
use Rattle.point_ladder.specs.Ladders.{ShowsPair}
use Rattle.point_ladder.proofs.Keeps.{problem_of, points_of, path_of, some_stretch, frame_of, holds_of, frame_lives, leads_by_frame, path_long, next_of_sets, dead_by_sets}
use Rattle.point_ladder.proofs.ladder.Ladder.leads_to.Goals as goal

pub returns-then-not-has : goal.returns-then-not-has
returns-then-not-has c =
    let s = c.self.inside in
    let at = path_long s c.self.invariant in
    let short = subst (λ v. length v.path < pair_count v.problem) (sym c.self.view_is) c.requires.short in (
      λ h. absurd (false≢true h),
      λ a. absurd (dead_by_sets (problem_of s) (path_of s) c.args.rel s.sets.items s.len c.index.result.now (record { sets_are = c.self.invariant.sets_are; long = at; short = omega (arith, at, short); read = c.index.ensures }) (sym c.has.ensures ∙ c.if-not-has.true)
          (subst (λ v. IsAlive (problem_at v.problem (v.path ++ c.args.rel ∷ []))) (sym c.self.view_is) a)),
    )

pub overflow_sub-last : goal.overflow_sub-last
overflow_sub-last c =
    let s = c.self.inside in
    let some = some_stretch s c.self.invariant (subst (λ v. IsAlive (problem_at v.problem v.path)) (sym c.self.view_is) c.requires.alive) in
    omega (arith, some, c.len-last.ensures, s.stretches.ok)

pub index-requires-2 : goal.index-requires-2
index-requires-2 c =
    let s = c.self.inside in
    let some = some_stretch s c.self.invariant (subst (λ v. IsAlive (problem_at v.problem v.path)) (sym c.self.view_is) c.requires.alive) in
    omega (arith, some, c.len-last.ensures, s.stretches.ok)

pub leads_on-requires : goal.leads_on-requires
leads_on-requires c =
    let s = c.self.inside in
    let alive = subst (λ v. IsAlive (problem_at v.problem v.path)) (sym c.self.view_is) c.requires.alive in
    let some = some_stretch s c.self.invariant alive in
    let frame = frame_of s (c.len-last.result - 1) c.index-2.result.now c.self.invariant alive (omega (arith, some, c.len-last.ensures, s.stretches.ok)) c.index-2.ensures in
    frame_lives (problem_of s) (path_of s) (points_of s) c.index-2.result.now.frame (holds_of s c.self.invariant alive) alive frame

pub returns : goal.returns
returns c =
    let s = c.self.inside in
    let at = path_long s c.self.invariant in
    let short = subst (λ v. length v.path < pair_count v.problem) (sym c.self.view_is) c.requires.short in
    let alive = subst (λ v. IsAlive (problem_at v.problem v.path)) (sym c.self.view_is) c.requires.alive in
    let some = some_stretch s c.self.invariant alive in
    let frame = frame_of s (c.len-last.result - 1) c.index-2.result.now c.self.invariant alive (omega (arith, some, c.len-last.ensures, s.stretches.ok)) c.index-2.ensures in
    let next : IsNext (problem_of s) (path_of s) c.args.rel =
    next_of_sets (problem_of s) (path_of s) c.args.rel s.sets.items s.len c.index.result.now (record { sets_are = c.self.invariant.sets_are; long = at; short = omega (arith, at, short); read = c.index.ensures }) (sym c.has.ensures ∙ c.if-not-has.false) in
    let l = has_bit c.sides_of-sides.result.left.now in
    let r = has_bit c.sides_of-sides.result.right.now in
    let shows : ShowsPair (pair_at (problem_of s) (length (path_of s))) (points_of s) l r = subst (λ k. ShowsPair (pair_at s.problem k) (points_of s) l r) (sym at) c.sides_of-sides.ensures in
    let both = leads_by_frame (problem_of s) (path_of s) c.args.rel c.row.result (points_of s) c.index-2.result.now.frame l r c.row.ensures next (record { holds = holds_of s c.self.invariant alive; alive = alive; frame = frame; shows = shows }) in
    subst (λ v. IsTrue c.leads_on.result ↔ IsAlive (problem_at v.problem (v.path ++ c.args.rel ∷ []))) c.self.view_is ((λ h. both.0 (c.leads_on.ensures.0 h), λ a. c.leads_on.ensures.1 (both.1 a)))
