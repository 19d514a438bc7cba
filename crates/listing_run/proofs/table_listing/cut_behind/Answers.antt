use Rattle.std.proofs.Common.{sym, ◌∙◌, subst, arith}
use Rattle.std.specs.Prelude.{IfOk, IfNone}
use Rattle.std.proofs.lemmas.List.{take_all}
use Rattle.world_model.specs.Node.{IsNode}
use Rattle.world_search.specs.Walking.{IsBehind, HasNoNode}
use Rattle.world_search.proofs.Passing.{world_is_node}
use Rattle.listing_run.proofs.table_listing.cut_behind.Goals as goal

pub node_behind-requires : goal.node_behind-requires
node_behind-requires c =
    let whole = c.loop-rel.invariant ∙ take_all c.loop-rel.rel-index c.args.table.now (omega (arith, c.loop-rel-test.false)) in
    subst (IsNode c.args.problem.now) (sym whole) (world_is_node c.args.problem.now c.args.table.now c.requires)

pub returns-clause-none : goal.returns-clause-none
returns-clause-none c =
    let whole = c.loop-rel.invariant ∙ take_all c.loop-rel.rel-index c.args.table.now (omega (arith, c.loop-rel-test.false)) in
    subst (λ world. IfOk c.node_behind.result (λ found. IfNone found (HasNoNode c.args.problem.now (IsBehind world)))) whole c.node_behind.ensures.none
