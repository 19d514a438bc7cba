use Rattle.std.proofs.Common.{◌<◌, Some, sym, ap, ◌∙◌, subst, arith}
use Rattle.std.specs.Prelude.{slice_get}
use Rattle.world_model.specs.Problem.{concept_count}
use Rattle.cert_tree.proofs.TreeLemmas.{depth_within, level_within, level_pair}
use Rattle.cert_tree.proofs.tree.Branching.pair_of.Goals as goal

pub pair_at-requires : goal.pair_at-requires
pair_at-requires c =
    level_within c.self.inside.subject c.self.inside.levels.list.items c.self.inside.levels.depths.items c.args.depth c.index.result.now c.self.invariant
    (depth_within c.self.inside.subject c.self.inside.levels.list.items c.self.inside.from c.args.self.now c.args.depth c.self.view_is c.requires) c.index.ensures

pub returns-clause-pair : goal.returns-clause-pair
returns-clause-pair c =
    ap (λ t. slice_get t.levels c.args.depth) (sym c.self.view_is)
    ∙ level_pair c.self.inside.subject c.self.inside.levels.list.items c.args.depth c.index.result.now
    (depth_within c.self.inside.subject c.self.inside.levels.list.items c.self.inside.from c.args.self.now c.args.depth c.self.view_is c.requires) c.index.ensures
    ∙ ap Some (sym c.pair_at.ensures.value)

pub returns-clause-left : goal.returns-clause-left
returns-clause-left c =
    let inside : c.pair_at.result.0 < concept_count c.self.inside.subject = omega (arith, c.pair_at.ensures.order, c.pair_at.ensures.within) in
    subst (λ t. c.pair_at.result.0 < concept_count t.subject) c.self.view_is inside

pub returns-clause-right : goal.returns-clause-right
returns-clause-right c = subst (λ t. c.pair_at.result.1 < concept_count t.subject) c.self.view_is c.pair_at.ensures.within
