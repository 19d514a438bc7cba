use Rattle.std.proofs.Common.{◌≡◌, [], sym, subst, rules}
use Rattle.world_search.specs.Searching.{Passes}
use Rattle.world_search.specs.Walking.{place, IsPlacedBy, at_by}
use Rattle.world_search.specs.declared.walk.Stage.TheVariants.{Start}
use Rattle.world_search.proofs.Passing.{passes_first}
use Rattle.world_search.proofs.UnderWay.{placed_on_way, placed_first}
use Rattle.world_search.proofs.first.begin.Goals as goal

pub find-requires-clause-way : goal.find-requires-clause-way
find-requires-clause-way g c =
    let start : c.args.walk.now.stage ≡ Start = search rules in
    subst (IsPlacedBy c.args.problem.now c.args.span.now.from c.args.span.now.to c.args.walk.now) start c.requires.walk.placed

pub returns-in_err-find-clause-walk : goal.returns-in_err-find-clause-walk
returns-in_err-find-clause-walk g c =
    let p = c.args.problem.now in
    record {
      placed = placed_on_way p c.args.span.now.from c.args.span.now.to c.find.new.walk c.in_err-find.ensures.err;
      knows = c.find.ensures.knows;
      guide = c.find.ensures.guide;
    }

pub returns-in_ok-find-clause-walk : goal.returns-in_ok-find-clause-walk
returns-in_ok-find-clause-walk g c =
    let p = c.args.problem.now in
    let new = c.find.new.walk in
    record {
      placed = placed_first p c.args.span.now.from c.args.span.now.to new new.stage c.in_ok-find.ensures.ok;
      knows = c.find.ensures.knows;
      guide = c.find.ensures.guide;
    }

pub returns-in_ok-find-clause-passed : goal.returns-in_ok-find-clause-passed
returns-in_ok-find-clause-passed g c =
    let p = c.args.problem.now in
    let from = c.args.span.now.from in
    let to = c.args.span.now.to in
    let new = c.find.new.walk in
    let start : c.args.walk.now.stage ≡ Start = search rules in
    subst (λ stage. Passes p (at_by from to (place c.args.walk.now) stage) (at_by from to (place new) new.stage) [] []) (sym start)
    (passes_first p from to (place new) new.stage c.in_ok-find.ensures.ok)
