use Rattle.std.proofs.Common.{subst}
use Rattle.point_query.specs.Asking.{IsAsker}
use Rattle.point_query.proofs.asker.Asker.facts.Goals as goal

pub returns : goal.returns
returns c = subst (λ a. IsAsker a) c.self.view_is (record { variables = c.self.invariant.solved.variables; given = c.self.invariant.solved.given; solver = c.facts.ensures })
