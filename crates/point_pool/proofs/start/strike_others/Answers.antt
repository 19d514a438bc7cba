use Rattle.std.proofs.Common.{◌≡◌, ◌∙◌, ◌<◌, [], true, length, inl, inr, sym, ap, subst, arith}
use Rattle.std.specs.Prelude.{IsTrue}
use Rattle.std.specs.List.{list_all}
use Rattle.std.proofs.lemmas.Bool.{cases_eq}
use Rattle.bit_rows.specs.Rows.{has_bit}
use Rattle.world_model.specs.Node.{pair_at}
use Rattle.world_model.specs.Points.{forced_at}
use Rattle.world_model.specs.Problem.{kept_sums, pair_count}
use Rattle.world_model.specs.Alive.{meets_trees, point_at, point_sums}
use Rattle.point_pool.specs.Pools.{AllAvoid}
use Rattle.point_pool.proofs.Starting.{all_stay, fewer_chain, start_point}
use Rattle.point_pool.proofs.start.strike_others.Goals as goal

pub loop-pair-preserved : goal.loop-pair-preserved
loop-pair-preserved c =
    let p = c.args.cursor.now.problem in
    let now = c.loop-pair.places in
    let new = c.strike_pair.new.places in
    let said = c.strike_pair.ensures in
    record {
      fewer = fewer_chain c.args.places.now now new c.loop-pair.invariant.fewer said.fewer;
      avoid = λ k small. elim (cases_eq k c.loop-pair.pair) [
        | inl same ↦ subst (λ i. AllAvoid new (pair_at p i) (forced_at p i)) (sym same) said.avoid
        | inr apart ↦ all_stay now new (pair_at p k) (forced_at p k) said.fewer (c.loop-pair.invariant.avoid k (omega arith))
      ];
    }

pub loop-place-init : goal.loop-place-init
loop-place-init c =
    let counted = c.pair_count-pair-end.ensures ∙ ap pair_count c.problem.ensures in
    record {
      fewer = c.loop-pair.invariant.fewer;
      avoid = λ k small. c.loop-pair.invariant.avoid k (omega (arith, counted, small));
      sums = λ k small. absurd (omega (arith, small));
    }

pub loop-place-preserved : goal.loop-place-preserved
loop-place-preserved c =
    let p = c.args.cursor.now.problem in
    let now = c.loop-place.places in
    let new = c.strike_unless_sums_hold.new.places in
    let said = c.strike_unless_sums_hold.ensures in
    record {
      fewer = fewer_chain c.args.places.now now new c.loop-place.invariant.fewer said.fewer;
      avoid = λ k small. all_stay now new (pair_at p k) (forced_at p k) said.fewer (c.loop-place.invariant.avoid k small);
      sums = λ k small on. elim (cases_eq k c.loop-place.place) [
        | inl same ↦
            subst (λ q. IsTrue (list_all (point_sums (point_at new.points k)) (kept_sums q))) c.problem-in-loop-place.ensures
            (subst (λ i. IsTrue (list_all (point_sums (point_at new.points i)) (kept_sums c.problem-in-loop-place.result.now))) (sym same) (said.sums (subst (λ i. has_bit new.live i ≡ true) same on)))
        | inr apart ↦
            subst (λ ps. IsTrue (list_all (point_sums (point_at ps k)) (kept_sums p))) (sym said.fewer.points) (c.loop-place.invariant.sums k (omega arith) (said.fewer.live k on))
      ];
    }

pub returns-clause-live : goal.returns-clause-live
returns-clause-live c = λ place on.
    let p = c.args.cursor.now.problem in
    let s = c.loop-place.places in
    let there = c.facts.ensures.live place on in
    let points = c.loop-place.invariant.fewer.points in
    let trees : IsTrue (meets_trees p (point_at s.points place)) = subst (λ ps. IsTrue (meets_trees p (point_at ps place))) (sym points) (c.requires.trees place [] (subst (λ ps. place < length ps) points there)) in
    start_point p (point_at s.points place) trees (c.loop-place.invariant.sums place (omega (arith, there, c.loop-place-test.false, c.len-place-end.ensures, ap length points, ap length c.loop-pair.invariant.fewer.points)) on) (λ k small. c.loop-place.invariant.avoid k small place on)
