use Rattle.std.proofs.Common.{rules, Ok}
use Rattle.run_ends.proofs.ReadLemmas.{one_state}
use Rattle.run_ends.proofs.EndLemmas.{run_early, run_done, run_refused, run_starved}
use Rattle.listing_run.specs.Part.Answering.{part_names, IsPartAnswer}
use Rattle.listing_run.proofs.part.EndLemmas.{part_carried}
use Rattle.listing_run.proofs.part.running.run_part.Goals as goal

pub returns-in-Err : goal.returns-in-Err
returns-in-Err g c =
    let args = c.args.args.now in
    run_early (part_names args) (IsPartAnswer args) c.in-Err.status c.put_end.result
    (g.S.Store.state c.args.store.now) (g.S.Store.state c.plan_of.new.store)
    (g.W.Sink.state c.args.out.now) (g.W.Sink.state c.put_end.new.out)
    c.in-Err.ensures.ended c.in-Err.ensures.kept c.put_end.ensures.put

pub returns-in-Ok-put_part : goal.returns-in-Ok-put_part
returns-in-Ok-put_part g c =
    let args = c.args.args.now in
    let one = g.S.Store.state c.args.store.now in
    let mid = g.S.Store.state c.plan_of.new.store in
    let other = g.S.Store.state c.put_part.new.store in
    let old = g.W.Sink.state c.args.out.now in
    let new = g.W.Sink.state c.put_part.new.out in
    run_done (part_names args) (IsPartAnswer args) c.in-Ok-put_part.status one other old new
    (part_carried args c.text.result.now c.in-Ok.plan (Ok c.in-Ok-put_part.status) one mid other old new c.text.ensures
    (one_state one mid c.in-Ok.ensures.kept c.in-Ok.ensures.quiet) c.in-Ok.ensures.plan c.in-Ok-put_part.ensures)

pub returns-in-Err-Failed : goal.returns-in-Err-Failed
returns-in-Err-Failed g c =
    let args = c.args.args.now in
    let one = g.S.Store.state c.args.store.now in
    let mid = g.S.Store.state c.plan_of.new.store in
    let other = g.S.Store.state c.put_part.new.store in
    let old = g.W.Sink.state c.args.out.now in
    let new = g.W.Sink.state c.put_part.new.out in
    run_refused (part_names args) (IsPartAnswer args) one other old new
    (part_carried args c.text.result.now c.in-Ok.plan _ one mid other old new c.text.ensures
    (one_state one mid c.in-Ok.ensures.kept c.in-Ok.ensures.quiet) c.in-Ok.ensures.plan (search rules))

pub returns : goal.returns
returns g c =
    let args = c.args.args.now in
    let one = g.S.Store.state c.args.store.now in
    let mid = g.S.Store.state c.plan_of.new.store in
    let other = g.S.Store.state c.put_part.new.store in
    let old = g.W.Sink.state c.args.out.now in
    let between = g.W.Sink.state c.put_part.new.out in
    let new = g.W.Sink.state c.put_end-in-Err-NoMemory.new.out in
    run_starved (part_names args) (IsPartAnswer args) c.put_end-in-Err-NoMemory.result one other old between new
    (part_carried args c.text.result.now c.in-Ok.plan _ one mid other old between c.text.ensures
    (one_state one mid c.in-Ok.ensures.kept c.in-Ok.ensures.quiet) c.in-Ok.ensures.plan (search rules))
    c.put_end-in-Err-NoMemory.ensures.put
