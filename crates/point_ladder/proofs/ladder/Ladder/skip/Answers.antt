use Rattle.std.proofs.Common.{◌<◌, [], length, take, refl, sym, subst, arith, append-nil}
use Rattle.world_model.specs.Alive.{problem_at, IsAlive}
use Rattle.point_ladder.specs.Ladders.{IsAlong}
use Rattle.point_ladder.proofs.Keeps.{problem_of, path_of, path_long, keeps_along, goes_here}
use Rattle.point_ladder.proofs.ladder.Ladder.skip.Goals as goal

pub invariant_of-self : goal.invariant_of-self
invariant_of-self c =
    let s = c.self.inside in
    let alive = subst (λ v. IsAlive (problem_at v.problem v.path)) (sym c.self.view_is) c.requires.alive in
    let small : s.len < length s.nexts.items = omega (arith, c.len.ensures, s.nexts.ok) in
    keeps_along s c.index.result.now c.index.result.now c.self.invariant alive small c.index.ensures

pub returns-then-self-len : goal.returns-then-self-len
returns-then-self-len c =
    let s = c.self.inside in
    let alive = subst (λ v. IsAlive (problem_at v.problem v.path)) (sym c.self.view_is) c.requires.alive in
    let small : s.len < length s.nexts.items = omega (arith, c.len.ensures, s.nexts.ok) in
    subst (λ v. IsAlong v (record { problem = problem_of s; path = take c.index.result.now s.line.items })) c.self.view_is
    (goes_here s c.index.result.now c.index.result.now c.self.invariant alive small c.index.ensures)

pub returns-else-self-len : goal.returns-else-self-len
returns-else-self-len c =
    let s = c.self.inside in
    let at = path_long s c.self.invariant in
    let alive = subst (λ v. IsAlive (problem_at v.problem v.path)) (sym c.self.view_is) c.requires.alive in
    subst (λ v. IsAlong v v) c.self.view_is
    (record {
      problem = refl;
      rest = [];
      goes = sym (append-nil (path_of s));
      short = omega (arith, at, c.self.invariant.short);
      alive = alive;
      only = λ more world. (more, refl);
    })
