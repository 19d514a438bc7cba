use Rattle.std.proofs.Common.{Ok}
use Rattle.run_ends.specs.Reads.{problem_in}
use Rattle.run_ends.proofs.ReadLemmas.{comes_of, without}
use Rattle.run_ends.proofs.texts.problem_under.Goals as goal

pub returns-in-Ok-clause-problem : goal.returns-in-Ok-clause-problem
returns-in-Ok-clause-problem g c =
    comes_of (g.S.Store.state c.args.store.now).held c.args.name.now c.in_ok-bytes.bytes.items c.deref.result.now (problem_in c.args.switches) (Ok c.in-Ok.problem)
    c.in_ok-bytes.ensures.front c.deref.ensures.value c.in-Ok.ensures.problem

pub returns-clause-ended : goal.returns-clause-ended
returns-clause-ended g c =
    without (g.S.Store.state c.args.store.now)
    (g.S.Store.state c.bytes_under.new.store) c.args.name.now c.in_ok-bytes.bytes.items c.deref.result.now (problem_in c.args.switches) _
    c.in_ok-bytes.ensures.front c.deref.ensures.value c.in_ok-bytes.ensures.quiet c.in-Err.ensures.ended
