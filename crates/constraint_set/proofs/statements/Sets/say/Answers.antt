use Rattle.world_model.specs.Problem.{Constraint}
use Rattle.constraint_set.proofs.Saying.{says_from_narrows}
use Rattle.constraint_set.proofs.statements.Sets.say.Goals as goal

pub returns-clause-says : goal.returns-clause-says
returns-clause-says c =
    let said : Constraint = record { left = c.args.left; right = c.args.right; set = c.args.set } in
    says_from_narrows c.args.shape.now c.args.self.now c.meet.new.self c.pair_index.result said c.pair_index.ensures.at c.pair_index.ensures.only c.in_ok-meet.ensures.narrows
