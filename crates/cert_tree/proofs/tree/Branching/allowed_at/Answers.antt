use Rattle.std.proofs.Common.{ap, ◌∙◌}
use Rattle.world_model.specs.Alive.{allowed}
use Rattle.world_model.specs.Node.{pair_at}
use Rattle.cert_tree.specs.Levels.{narrowed_set}
use Rattle.cert_tree.proofs.tree.Branching.allowed_at.Goals as goal

pub returns : goal.returns
returns c =
    c.narrowed_to.ensures
    ∙ ap (λ set. narrowed_set set c.relation_at.result) (c.allowed.ensures ∙ ap (λ t. allowed t.subject (pair_at t.subject c.args.pair)) c.self.view_is)
    ∙ c.relation_at.ensures
