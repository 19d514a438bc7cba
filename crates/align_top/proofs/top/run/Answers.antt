use Rattle.std.proofs.Common.{rules, map, string_bytes}
use Rattle.report_run.specs.Reporting.{watched}
use Rattle.align_top.proofs.RunLemmas.{asked_by, refused_by, words_starved}
use Rattle.align_top.proofs.top.run.Goals as goal

pub returns-in-Err-Usage : goal.returns-in-Err-Usage
returns-in-Err-Usage g c =
    refused_by (λ z. (goal.WorldWatcher-dyn g (z.vtable, z.value)).name z.value) (λ z. (goal.WorldWatcher-dyn g (z.vtable, z.value)).text z.value) c.args.watchers.items (map string_bytes c.args.words.now) c.in-Err-Usage.kind c.put_end.result
    (g.S.Store.state c.args.store.now)
    (g.W.Sink.state c.args.out.now) (g.W.Sink.state c.put_end.new.out)
    (search rules) c.put_end.ensures.put

pub returns-in-Ok : goal.returns-in-Ok
returns-in-Ok g c =
    asked_by (λ z. (goal.WorldWatcher-dyn g (z.vtable, z.value)).name z.value) (λ z. (goal.WorldWatcher-dyn g (z.vtable, z.value)).text z.value) c.args.watchers.items (map string_bytes c.args.words.now) c.in-Ok.request c.run_request.result
    (g.S.Store.state c.args.store.now) (g.S.Store.state c.run_request.new.store)
    (g.W.Sink.state c.args.out.now) (g.W.Sink.state c.run_request.new.out)
    (search rules) c.run_request.ensures

pub returns : goal.returns
returns g c =
    words_starved (watched (λ z. (goal.WorldWatcher-dyn g (z.vtable, z.value)).name z.value) (λ z. (goal.WorldWatcher-dyn g (z.vtable, z.value)).text z.value) c.args.watchers.items) (map string_bytes c.args.words.now) c.put_end-in-Err-NoMemory.result
    (g.S.Store.state c.args.store.now)
    (g.W.Sink.state c.args.out.now) (g.W.Sink.state c.put_end-in-Err-NoMemory.new.out) c.put_end-in-Err-NoMemory.ensures.put
