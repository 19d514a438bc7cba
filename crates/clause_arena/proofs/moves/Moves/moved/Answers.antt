use Rattle.std.proofs.Common.{◌∙◌}
use Rattle.clause_arena.proofs.Pairs.{new_ref-at, entry-some, entry-none}
use Rattle.clause_arena.proofs.moves.Moves.moved.Goals as goal

pub returns-in-Some : goal.returns-in-Some
returns-in-Some c =
    entry-some c.self.inside.table.items c.deref.result.now c.index.result c.args.old c.in-Some.to.now c.in-Some.ensures.lookup.0 c.in-Some.ensures.lookup.1 c.deref.ensures.value c.index.ensures
    ∙ new_ref-at c.self.inside.table.items c.args.old c.args.self.now c.self.view_is

pub returns-in-None : goal.returns-in-None
returns-in-None c =
    entry-none c.self.inside.table.items c.deref.result.now c.index.result c.args.old c.in-None.ensures.lookup.0 c.deref.ensures.value c.index.ensures
    ∙ new_ref-at c.self.inside.table.items c.args.old c.args.self.now c.self.view_is
