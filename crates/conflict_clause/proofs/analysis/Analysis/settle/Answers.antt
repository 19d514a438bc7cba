use Rattle.std.proofs.Common.{◌<◌, List, length, sym, subst}
use Rattle.clause_arena.specs.Records.{Record}
use Rattle.watch_arena.proofs.WatchedPair.{live_within}
use Rattle.conflict_clause.proofs.analysis.Analysis.settle.Goals as goal

pub id_of-requires : goal.id_of-requires
id_of-requires c =
    let r = c.facts.ensures.reasons c.args.place c.in-Some.at c.requires.within (sym c.in-Some.ensures) in
    subst (λ (rs : List Record). c.in-Some.at < length rs) (sym c.arena.ensures) (live_within c.args.trail.now.records c.in-Some.at r.live)
