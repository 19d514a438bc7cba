use Rattle.clause_arena.specs.Records.{forgotten}
use Rattle.clause_arena.proofs.Ranges.{records_of-changed, AreInOrder-replaced}
use Rattle.std.proofs.Common.{refl}
use Rattle.clause_arena.proofs.arena.Arena.forget.Goals as goal

pub invariant_of-self : goal.invariant_of-self
invariant_of-self c =
    AreInOrder-replaced c.self.inside.heads.items _ c.index.result c.index_mut.result.now _ c.self.invariant c.index_mut.ensures.value refl refl

pub returns : goal.returns
returns c =
    records_of-changed c.self.inside.codes.items c.self.inside.heads.items c.index.result c.index_mut.result.now _ forgotten c.args.self.now c.args.at c.self.view_is c.index.ensures c.requires c.index_mut.ensures.value refl
