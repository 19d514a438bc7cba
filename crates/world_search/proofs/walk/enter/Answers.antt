use Rattle.std.proofs.Common.{ap, ◌∙◌}
use Rattle.rcc5_core.specs.RelationSet.{first_of}
use Rattle.world_search.proofs.Leading.{leads_within}
use Rattle.world_search.proofs.OpenChildren.{known_with}
use Rattle.world_search.proofs.walk.enter.Goals as goal

pub returns-clause-on : goal.returns-clause-on
returns-clause-on c =
    leads_within c.args.problem.now c.args.walk.now.path c.first-walk.result c.requires.alive c.requires.short (c.first-walk.ensures ∙ ap first_of c.next_set.ensures)

pub returns-clause-knows : goal.returns-clause-knows
returns-clause-knows c =
    known_with c.args.problem.now c.args.walk.now.path c.len.result c.args.set c.args.walk.now.opens c.keep.new.self c.len.ensures c.requires.knows c.requires.«open» c.keep.ensures
