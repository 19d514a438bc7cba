use Rattle.std.proofs.Common.{refl, subst, sym, get_or, arith}
use Rattle.std.proofs.lemmas.List.{get_or_default}
use Rattle.point_encode.specs.declared.need.Need.{Need}
use Rattle.point_encode.specs.declared.need.Need.TheVariants.{Region}
use Rattle.point_encode.specs.Needs.{need_seen}
use Rattle.world_model.specs.Alive.{problem_at}
use Rattle.point_query.specs.Queries.{ArePoints, asker_with}
use Rattle.search_checks.specs.Asker.Seeking.{IsPlaced}
use Rattle.point_query.proofs.Querying.{keeps_still, keeps_chain}
use Rattle.search_checks.proofs.asker.Seeking.{none_served, served_more, stopped_at}
use Rattle.search_checks.proofs.asker.each_need.points_for_all.Goals as goal

pub loop-need-init : goal.loop-need-init
loop-need-init c =
    let p = c.args.problem.now in
    record {
      solver = keeps_still _ _ c.requires.solver;
      points = subst (λ ps. ArePoints (problem_at p c.args.prefix.now) ps) (sym c.new-found.ensures.items) (λ k d h. absurd (omega arith));
      served = none_served p c.args.prefix.now c.new-found.result.items c.new-places.result.items c.new-places.ensures.items;
    }

pub place_of-requires-clause-solver : goal.place_of-requires-clause-solver
place_of-requires-clause-solver c = c.loop-need.invariant.solver.solver

pub returns-in_err-place-clause-solver : goal.returns-in_err-place-clause-solver
returns-in_err-place-clause-solver c =
    keeps_chain c.law_literals_are_sets.ensures c.args.problem.now c.args.problem.now c.args.solver.now c.loop-need.solver c.place_of.new.solver refl c.loop-need.invariant.solver c.place_of.ensures.solver

pub returns-in_err-push-in-At-clause-solver : goal.returns-in_err-push-in-At-clause-solver
returns-in_err-push-in-At-clause-solver c =
    keeps_chain c.law_literals_are_sets.ensures c.args.problem.now c.args.problem.now c.args.solver.now c.loop-need.solver c.place_of.new.solver refl c.loop-need.invariant.solver c.place_of.ensures.solver

pub returns-in-Closed-clause-solver : goal.returns-in-Closed-clause-solver
returns-in-Closed-clause-solver c =
    keeps_chain c.law_literals_are_sets.ensures c.args.problem.now c.args.problem.now c.args.solver.now c.loop-need.solver c.place_of.new.solver refl c.loop-need.invariant.solver c.place_of.ensures.solver

pub returns-in-Closed-clause-sought : goal.returns-in-Closed-clause-sought
returns-in-Closed-clause-sought c =
    let p = c.args.problem.now in
    let m = c.args.prefix.now in
    let list = c.args.wanted.now in
    let i = c.loop-need.need-index in
    let need : Need = get_or list i (Region 0 0) in
    let asker = asker_with p c.place_of.new.solver in
    let placed = subst (λ x. IsPlaced asker p m c.place_of.new.found.items (need_seen p need) x) c.in-Closed.is c.in_ok-place.ensures.placed in
    stopped_at asker p m list i need c.loop-need.found.items c.loop-need.places.items c.in-Closed.id c.loop-need-test.true
    (get_or_default list i (Region 0 0) need c.loop-need-test.true) (c.requires.range i (Region 0 0) c.loop-need-test.true) c.loop-need.invariant.served placed

pub loop-need-preserved : goal.loop-need-preserved
loop-need-preserved c =
    let p = c.args.problem.now in
    let m = c.args.prefix.now in
    let list = c.args.wanted.now in
    let i = c.loop-need.need-index in
    let need : Need = get_or list i (Region 0 0) in
    let asker = asker_with p c.place_of.new.solver in
    let placed = subst (λ x. IsPlaced asker p m c.place_of.new.found.items (need_seen p need) x) c.in-At.is c.in_ok-place.ensures.placed in
    record {
      solver = keeps_chain c.law_literals_are_sets.ensures c.args.problem.now c.args.problem.now c.args.solver.now c.loop-need.solver c.place_of.new.solver refl c.loop-need.invariant.solver c.place_of.ensures.solver;
      points = c.place_of.ensures.points;
      served = rw c.in_ok-push-in-At.ensures.items
          (served_more p m list i need c.loop-need.found.items c.place_of.new.found.items c.loop-need.places.items c.in-At.place c.loop-need-test.true
          (get_or_default list i (Region 0 0) need c.loop-need-test.true) c.loop-need.invariant.served c.place_of.ensures.points c.place_of.ensures.grown placed);
    }
