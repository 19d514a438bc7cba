use Rattle.std.proofs.Common.{arith}
use Rattle.clause_arena.specs.Records.{record_at}
use Rattle.watch_arena.proofs.ShortClauses.{IsShort-few, IsShort-test}
use Rattle.watch_arena.proofs.engine.Engine.is_short.Goals as goal

pub returns-then-len_of-lt2 : goal.returns-then-len_of-lt2
returns-then-len_of-lt2 c =
    let few = c.if-len_of-lt2.true in let size = c.len_of.ensures in
    IsShort-few (record_at c.args.self.now.arena c.args.at).lits (omega arith)

pub returns : goal.returns
returns c =
    let many = c.if-len_of-lt2.false in let size = c.len_of.ensures in
    rw (c.eq.ensures, c.lit_at.ensures, c.lit_at-2.ensures)
    (IsShort-test (record_at c.args.self.now.arena c.args.at).lits (omega arith) (c.requires.sound.kinds c.args.at c.requires.live))
