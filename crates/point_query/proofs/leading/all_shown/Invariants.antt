use Rattle.point_query.specs.Queries.{AllLeadOn}
use Rattle.point_query.proofs.leading.all_shown.Given as goal

abbrev pub invariant-loop-rel : goal.invariant-loop-rel
invariant-loop-rel l = AllLeadOn l.pool.cursor.problem l.pool.cursor.path l.shown
