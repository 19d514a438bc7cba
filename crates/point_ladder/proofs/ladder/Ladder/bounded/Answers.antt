use Rattle.point_ladder.proofs.Bounded.{ladder_is_bound}
use Rattle.point_ladder.proofs.ladder.Ladder.bounded.Goals as goal

pub returns : goal.returns
returns c =
    ladder_is_bound c.args.problem.now c.in_ok-copy.field-0 c.in_ok-bounds.bounds c.in_ok-stand.field-0 c.in_ok-bounds.ensures c.facts.ensures.built.valid c.in_ok-copy.ensures c.in_ok-stand.ensures
