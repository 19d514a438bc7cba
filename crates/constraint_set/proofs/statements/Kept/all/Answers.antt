use Rattle.std.proofs.Common.{◌∙◌}
use Rattle.constraint_set.proofs.Saying.{true_flags}
use Rattle.constraint_set.proofs.statements.Kept.all.Goals as goal

pub returns-clause-flags : goal.returns-clause-flags
returns-clause-flags c =
    true_flags c.args.shape.now.articulations c.articulation_count.result c.in_ok-kept.kept.flags.items (c.in_ok-kept.ensures.flags ∙ c.deref.ensures.value ∙ c.in_ok-flags.ensures) c.articulation_count.ensures.count
