use Rattle.std.proofs.Common.{◌≡◌, Some, sym, subst}
use Rattle.cert_rules.specs.Listings.{listing_next}
use Rattle.world_search.specs.Logging.{IsInnerOrDead}
use Rattle.world_search.specs.Walking.{place, expected}
use Rattle.world_model.proofs.Nodes.{node_within}
use Rattle.world_search.proofs.Telling.{open_inner, inner_branches, next_standing, keeps_ends}
use Rattle.world_search.proofs.walk.move_on.Goals as goal

pub tell-requires-clause-within : goal.tell-requires-clause-within
tell-requires-clause-within g c = node_within c.args.problem.now c.args.walk.now.path c.requires.node

pub tell-requires-clause-so : goal.tell-requires-clause-so
tell-requires-clause-so g c =
    subst (IsInnerOrDead c.args.problem.now c.args.walk.now.path) (sym c.is_some.ensures) (open_inner c.args.problem.now c.args.walk.now.path c.args.set c.requires.found)

pub returns-in_err-tell-clause-keeps : goal.returns-in_err-tell-clause-keeps
returns-in_err-tell-clause-keeps g c = λ from from_there.
    keeps_ends c.args.problem.now from (g.L.TreeLog.lines c.args.log.now) (g.L.TreeLog.lines c.tell.new.log) c.args.asker.now c.tell.new.asker
    (expected c.args.walk.now) (Some c.args.walk.now.path) (Some c.args.walk.now.path) (expected c.args.walk.now) c.requires.at c.requires.at (c.in_err-tell.ensures.keeps from)

pub returns-clause-keeps : goal.returns-clause-keeps
returns-clause-keeps g c = λ from from_there.
    let p = c.args.problem.now in
    let m = c.args.walk.now.path in
    let b = c.is_some.result in
    let new = c.go_on.new.walk in
    let so : IsInnerOrDead p m b = subst (IsInnerOrDead p m) (sym c.is_some.ensures) (open_inner p m c.args.set c.requires.found) in
    let next : listing_next p from b m ≡ expected new = next_standing p from m (place new) new.stage b c.requires.node from_there (inner_branches p m b so) c.go_on.ensures.on in
    keeps_ends p from (g.L.TreeLog.lines c.args.log.now) (g.L.TreeLog.lines c.tell.new.log) c.args.asker.now c.tell.new.asker
    (expected c.args.walk.now) (Some m) (listing_next p from b m) (expected new) c.requires.at (sym next) (c.in_ok-tell.ensures.keeps from)
