use Rattle.std.proofs.Common.{take, subst}
use Rattle.point_ladder.specs.Ladders.{BeginsNone, LadderState}
use Rattle.world_walk.proofs.asked.Asked.is_barren.Goals as goal

pub returns-clause-none : goal.returns-clause-none
returns-clause-none c shown =
    subst (λ (s : LadderState). BeginsNone s.problem (take c.args.len s.path)) c.self.view_is
    (subst (λ xs. BeginsNone c.self.inside.problem (take c.args.len xs)) c.rels.ensures (c.in_ok-none.ensures.none shown))
