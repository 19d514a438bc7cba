use Rattle.std.proofs.Common.{rules}
use Rattle.listing_run.proofs.parts.EndLemmas.{parts_unread, parts_unfound, parts_done, parts_refused, parts_starved}
use Rattle.listing_run.proofs.parts.running.run_parts.Goals as goal

pub returns-in-Err : goal.returns-in-Err
returns-in-Err g c =
    parts_unread c.args.args.now c.text.result.now c.in-Err.status c.put_end.result (g.S.Store.state c.args.store.now) (g.S.Store.state c.problem_under.new.store)
    (g.W.Sink.state c.args.out.now) (g.W.Sink.state c.put_end.new.out) c.text.ensures c.in-Err.ensures.ended c.in-Err.ensures.kept c.put_end.ensures.put

pub returns-in-Err-beginnings_of : goal.returns-in-Err-beginnings_of
returns-in-Err-beginnings_of g c =
    parts_unfound c.args.args.now c.put_end-in-Err-beginnings_of.result (g.S.Store.state c.args.store.now) (g.S.Store.state c.problem_under.new.store)
    (g.W.Sink.state c.args.out.now) (g.W.Sink.state c.put_end-in-Err-beginnings_of.new.out) c.in-Ok.ensures.quiet c.in-Ok.ensures.kept c.put_end-in-Err-beginnings_of.ensures.put

pub returns-in-Ok-put_parts : goal.returns-in-Ok-put_parts
returns-in-Ok-put_parts g c =
    parts_done c.args.args.now c.text.result.now c.in-Ok.problem c.deref.result.now c.in-Ok-put_parts.status
    (g.S.Store.state c.args.store.now) (g.S.Store.state c.problem_under.new.store) (g.S.Store.state c.put_parts.new.store)
    (g.W.Sink.state c.args.out.now) (g.W.Sink.state c.put_parts.new.out)
    (record { is = c.text.ensures; problem = c.in-Ok.ensures.problem; begin = search rules }) c.in-Ok.ensures.kept c.in-Ok.ensures.quiet c.in-Ok-put_parts.ensures

pub returns-in-Err-Failed : goal.returns-in-Err-Failed
returns-in-Err-Failed g c =
    parts_refused c.args.args.now c.text.result.now c.in-Ok.problem c.deref.result.now
    (g.S.Store.state c.args.store.now) (g.S.Store.state c.problem_under.new.store) (g.S.Store.state c.put_parts.new.store)
    (g.W.Sink.state c.args.out.now) (g.W.Sink.state c.put_parts.new.out)
    (record { is = c.text.ensures; problem = c.in-Ok.ensures.problem; begin = search rules }) c.in-Ok.ensures.kept c.in-Ok.ensures.quiet (search rules)

pub returns : goal.returns
returns g c =
    parts_starved c.args.args.now c.text.result.now c.in-Ok.problem c.deref.result.now c.put_end-in-Err-NoMemory.result
    (g.S.Store.state c.args.store.now) (g.S.Store.state c.problem_under.new.store) (g.S.Store.state c.put_parts.new.store)
    (g.W.Sink.state c.args.out.now) (g.W.Sink.state c.put_parts.new.out) (g.W.Sink.state c.put_end-in-Err-NoMemory.new.out)
    (record { is = c.text.ensures; problem = c.in-Ok.ensures.problem; begin = search rules }) c.in-Ok.ensures.kept c.in-Ok.ensures.quiet (search rules)
    c.put_end-in-Err-NoMemory.ensures.put
