use Rattle.clause_arena.proofs.Ranges.{length-lits_at}
use Rattle.clause_arena.proofs.arena.Arena.len_of.Goals as goal

pub returns : goal.returns
returns c =
    length-lits_at c.self.inside.codes.items c.self.inside.heads.items c.index.result c.index-2.result.now c.args.self.now c.args.at c.self.invariant.0 c.self.view_is c.index.ensures c.requires c.index-2.ensures
