use Rattle.proof_check.proofs.BookLemmas.{found-follows}
use Rattle.proof_check.proofs.Book.live.Goals as goal

pub returns-clause-follows : goal.returns-clause-follows
returns-clause-follows c = rw (← c.self.view_is) (found-follows c.self.inside.clauses c.args.id c.find.result c.self.invariant.0.follow c.find.ensures)
