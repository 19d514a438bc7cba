use Rattle.std.proofs.Common.{◌≡◌, ◌<◌, ◌≤◌, true, [], length, take, Ok, Err, sym, ap, ◌∙◌, subst}
use Rattle.std.specs.Prelude.{Result, Bool, IfOk}
use Rattle.std.proofs.lemmas.List.{take-take}
use Rattle.world_model.specs.Alive.{problem_at, IsAlive}
use Rattle.point_ladder.specs.Stretches.{stretch_at, IsInForce}
use Rattle.point_ladder.specs.Ladders.{BeginsNone}
use Rattle.point_ladder.specs.Barren.{IsStand}
use Rattle.point_ladder.proofs.Narrower.{narrowings_of}
use Rattle.point_ladder.proofs.Keeps.{alive_start, problem_of, path_long, some_stretch}
use Rattle.point_ladder.proofs.Barren.{stand_here, stand_lives, begins_none}
use Rattle.point_ladder.proofs.ladder.Ladder.lies_none.Goals as goal

pub in_force-place-requires-clause-some : goal.in_force-place-requires-clause-some
in_force-place-requires-clause-some c =
    let s = c.self.inside in
    let alive = subst (λ v. IsAlive (problem_at v.problem v.path)) (sym c.self.view_is) c.requires.alive in
    subst (λ xs. 0 < length xs) (sym c.deref.ensures.value) (some_stretch s c.self.invariant alive)

pub in_force-place-requires-clause-first : goal.in_force-place-requires-clause-first
in_force-place-requires-clause-first c =
    let s = c.self.inside in
    let alive = subst (λ v. IsAlive (problem_at v.problem v.path)) (sym c.self.view_is) c.requires.alive in
    let start = alive_start s c.self.invariant alive in
    subst (λ xs. (stretch_at xs 0).from ≡ 0) (sym c.deref.ensures.value) (c.self.invariant.has_frames start).first

pub is_barren-requires-clause-alive : goal.is_barren-requires-clause-alive
is_barren-requires-clause-alive c =
    let s = c.self.inside in
    let alive = subst (λ v. IsAlive (problem_at v.problem v.path)) (sym c.self.view_is) c.requires.alive in
    let upto : c.args.len ≤ s.len = subst (λ n. c.args.len ≤ n) (ap (λ v. length v.path) (sym c.self.view_is) ∙ path_long s c.self.invariant) c.requires.within in
    let force = subst (λ xs. IsInForce xs c.args.len c.in_force-place.result) c.deref.ensures.value c.in_force-place.ensures in
    stand_lives s.problem s.sets.items c.args.len [] c.index.result.now.frame _ (stand_here s c.args.len c.in_force-place.result c.index.result.now c.self.invariant alive upto force c.index.ensures)

pub returns : goal.returns
returns c =
    let s = c.self.inside in
    let alive = subst (λ v. IsAlive (problem_at v.problem v.path)) (sym c.self.view_is) c.requires.alive in
    let upto : c.args.len ≤ s.len = subst (λ n. c.args.len ≤ n) (ap (λ v. length v.path) (sym c.self.view_is) ∙ path_long s c.self.invariant) c.requires.within in
    let force = subst (λ xs. IsInForce xs c.args.len c.in_force-place.result) c.deref.ensures.value c.in_force-place.ensures in
    let stand = stand_here s c.args.len c.in_force-place.result c.index.result.now c.self.invariant alive upto force c.index.ensures in
    if_ok c.is_barren.result c.is_barren.ensures (λ none.
    subst (λ v. BeginsNone v.problem (take c.args.len v.path)) c.self.view_is
    (subst (BeginsNone (problem_of s)) (sym (take-take c.args.len s.len s.line.items upto)) (begins_none (problem_of s) (take c.args.len s.line.items) (none _ (subst (λ sets. IsStand s.problem sets c.args.len [] c.index.result.now.frame (narrowings_of (problem_of s) (take c.args.len s.line.items))) (sym c.deref-2.ensures.value) stand)))))
  where
    if_ok : {E : Type 0} {P Q : Type 0} (result : Result Bool E) → IfOk result (λ none. none ≡ true → P) → (P → Q) → IfOk result (λ none. none ≡ true → Q)
    if_ok (Ok x) h f = λ e. f (h e)
    if_ok (Err e) h f = h
