use Rattle.std.proofs.Common.{◌-◌, ◌<◌, ◌↔◌, ◌++◌, ◌∷◌, [], length, sym, subst, arith}
use Rattle.std.specs.Prelude.{IsTrue}
use Rattle.rcc5_core.specs.declared.Rel.{Rel}
use Rattle.rcc5_core.specs.RelationSet.{has}
use Rattle.world_model.specs.Problem.{pair_count}
use Rattle.world_model.specs.Node.{pair_at}
use Rattle.world_model.specs.Alive.{problem_at, IsAlive}
use Rattle.bit_rows.specs.Rows.{has_bit}
use Rattle.point_ladder.specs.Ladders.{ShowsPair}
use Rattle.point_ladder.proofs.Keeps.{problem_of, points_of, path_of, some_stretch, frame_of, holds_of, frame_lives, path_long, alive_in_frame}
use Rattle.point_ladder.proofs.ladder.Ladder.leads_on.Goals as goal

pub overflow_sub-last : goal.overflow_sub-last
overflow_sub-last c =
    let s = c.self.inside in
    let some = some_stretch s c.self.invariant (subst (λ v. IsAlive (problem_at v.problem v.path)) (sym c.self.view_is) c.requires.alive) in
    omega (arith, some, c.len-last.ensures, s.stretches.ok)

pub index-requires : goal.index-requires
index-requires c =
    let s = c.self.inside in
    let some = some_stretch s c.self.invariant (subst (λ v. IsAlive (problem_at v.problem v.path)) (sym c.self.view_is) c.requires.alive) in
    omega (arith, some, c.len-last.ensures, s.stretches.ok)

pub bound-requires : goal.bound-requires
bound-requires c =
    let s = c.self.inside in
    let alive = subst (λ v. IsAlive (problem_at v.problem v.path)) (sym c.self.view_is) c.requires.alive in
    let some = some_stretch s c.self.invariant alive in
    let frame = frame_of s (c.len-last.result - 1) c.index.result.now c.self.invariant alive (omega (arith, some, c.len-last.ensures, s.stretches.ok)) c.index.ensures in
    frame_lives (problem_of s) (path_of s) (points_of s) c.index.result.now.frame (holds_of s c.self.invariant alive) alive frame

pub returns : goal.returns
returns c =
    let s = c.self.inside in
    let at = path_long s c.self.invariant in
    let short = subst (λ v. length v.path < pair_count v.problem) (sym c.self.view_is) c.requires.short in
    let alive = subst (λ v. IsAlive (problem_at v.problem v.path)) (sym c.self.view_is) c.requires.alive in
    let some = some_stretch s c.self.invariant alive in
    let frame = frame_of s (c.len-last.result - 1) c.index.result.now c.self.invariant alive (omega (arith, some, c.len-last.ensures, s.stretches.ok)) c.index.ensures in
    let l = has_bit c.sides_of-sides.result.left.now in
    let r = has_bit c.sides_of-sides.result.right.now in
    let shows : ShowsPair (pair_at (problem_of s) (length (path_of s))) (points_of s) l r = subst (λ k. ShowsPair (pair_at s.problem k) (points_of s) l r) (sym at) c.sides_of-sides.ensures in
    subst (λ v. (rel : Rel) → IsTrue (has c.bound.result rel) ↔ IsAlive (problem_at v.problem (v.path ++ rel ∷ []))) c.self.view_is (λ rel.
    let both = alive_in_frame (problem_of s) (path_of s) rel s.sets.items s.len c.index-2.result.now (points_of s) c.index.result.now.frame l r
    (record { sets_are = c.self.invariant.sets_are; long = at; short = omega (arith, at, short); read = c.index-2.ensures }) (record { holds = holds_of s c.self.invariant alive; alive = alive; frame = frame; shows = shows }) in
    (λ h. both.0 ((c.bound.ensures rel).0 h), λ a. (c.bound.ensures rel).1 (both.1 a)))
