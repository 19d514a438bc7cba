use Rattle.std.proofs.Common.{◌<◌, List, length, sym, subst}
use Rattle.clause_arena.specs.Records.{Record}
use Rattle.watch_arena.proofs.WatchedPair.{live_within}
use Rattle.conflict_clause.proofs.analysis.Analysis.apply.Goals as goal

pub id_of-requires : goal.id_of-requires
id_of-requires c = subst (λ (rs : List Record). c.args.at < length rs) (sym c.arena.ensures) (live_within c.args.trail.now.records c.args.at c.requires.live)

pub returns-clause-hints : goal.returns-clause-hints
returns-clause-hints c = cc (c.in_ok-push.ensures.items, c.see_all.ensures.hints, c.id_of.ensures, c.arena.ensures)

-- what is said of the variables and of the literals is said whatever the hints

pub returns-in_err-push-clause-seen_list : goal.returns-in_err-push-clause-seen_list
returns-in_err-push-clause-seen_list c = let n = c.see_all.ensures.seen_list in record { size = n.size; listed = n.listed; in_range = n.in_range }

pub returns-clause-seen_list : goal.returns-clause-seen_list
returns-clause-seen_list c = let n = c.see_all.ensures.seen_list in record { size = n.size; listed = n.listed; in_range = n.in_range }

pub returns-clause-looking : goal.returns-clause-looking
returns-clause-looking c =
    let n = c.see_all.ensures.seen_list in
    let l = c.in_ok-see_all.ensures.looking in
    record { seen_list = record { size = n.size; listed = n.listed; in_range = n.in_range }; left = l.left; at_level = l.at_level }

pub returns-clause-sees : goal.returns-clause-sees
returns-clause-sees c = let m = c.in_ok-see_all.ensures.sees in record { marks = m.marks; kept = m.kept; added = m.added; lowest = m.lowest }

pub returns-clause-seen : goal.returns-clause-seen
returns-clause-seen c = c.in_ok-see_all.ensures.seen
