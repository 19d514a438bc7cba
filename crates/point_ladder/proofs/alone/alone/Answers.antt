use Rattle.std.proofs.Common.{◌≡◌, true, sym, subst}
use Rattle.bit_rows.specs.Rows.{has_bit}
use Rattle.world_model.specs.Trial.{points_by_trial}
use Rattle.world_model.specs.Alive.{IsAlive}
use Rattle.point_ladder.specs.Bounds.{bound_to}
use Rattle.point_ladder.proofs.Served.{alive_here}
use Rattle.point_ladder.proofs.AliveAlone.{none_alone, some_alone, unbound}
use Rattle.point_ladder.proofs.alone.alone.Goals as goal

pub returns-then-not-bounds : goal.returns-then-not-bounds
returns-then-not-bounds c =
    let p = c.args.problem.now in
    let b = c.args.bounds.now in
    none_alone p c.args.pair c.none.result c.requires.within c.none.ensures
    (λ alive. let lives = c.requires.bounds.lives.1 (subst IsAlive (sym (unbound p b c.requires.none)) alive) in let dead = c.if-not-bounds.true in cc)

pub bound-requires : goal.bound-requires
bound-requires c =
    let p = c.args.problem.now in
    let b = c.args.bounds.now in
    let is = c.if-not-bounds.false in
    let lives : b.alive ≡ true = cc in
    let alive = c.requires.bounds.lives.0 lives in
    (alive_here (bound_to p b.sets.items b.count) (points_by_trial p) b.frame alive.allow (c.requires.bounds.holds lives) (c.requires.bounds.frame lives)).1 alive

pub returns : goal.returns
returns c =
    let b = c.args.bounds.now in
    let is = c.if-not-bounds.false in
    let lives : b.alive ≡ true = cc in
    some_alone c.args.problem.now b c.args.pair (has_bit c.sides_of-sides.result.left.now) (has_bit c.sides_of-sides.result.right.now) c.index.result.now c.bound.result c.requires.none
    (record {
      bounds = c.requires.bounds;
      alive = lives;
      within = c.requires.within;
      shows = c.sides_of-sides.ensures;
      read = c.index.ensures;
      has_alive = c.bound.ensures;
    })
