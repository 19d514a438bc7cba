use Rattle.std.proofs.Common.{rules, Ok}
use Rattle.run_ends.specs.Reads.{token_in}
use Rattle.run_ends.proofs.ReadLemmas.{comes_of, without}
use Rattle.run_ends.proofs.tokens.position_under.Goals as goal

pub returns-in-Ok-clause-position : goal.returns-in-Ok-clause-position
returns-in-Ok-clause-position g c =
    comes_of (g.S.Store.state c.args.store.now).held c.args.name.now c.in_ok-bytes.bytes.items c.deref.result.now (token_in c.args.problem.now) (Ok c.in-Ok.position)
    c.in_ok-bytes.ensures.front (search rules) c.in-Ok.ensures.position

pub returns-clause-ended : goal.returns-clause-ended
returns-clause-ended g c =
    without (g.S.Store.state c.args.store.now)
    (g.S.Store.state c.bytes_under.new.store)
    c.args.name.now c.in_ok-bytes.bytes.items c.deref.result.now (token_in c.args.problem.now) c.in-Err.status
    c.in_ok-bytes.ensures.front (search rules) c.in_ok-bytes.ensures.quiet c.in-Err.ensures.ended
