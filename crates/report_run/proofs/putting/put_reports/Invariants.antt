use Rattle.std.proofs.Common.{◌≡◌}
use Rattle.report_run.proofs.PutLemmas.{AreReportsPut}
use Rattle.report_run.proofs.putting.put_reports.Given as goal

abbrev pub invariant-loop-place : goal.invariant-loop-place
invariant-loop-place g l = record {
  put :
      AreReportsPut l.watchers (λ z. (goal.WorldWatcher-dyn g (z.vtable, z.value)).name z.value) (λ z. (goal.WorldWatcher-dyn g (z.vtable, z.value)).text z.value)
      l.problem l.place (g.W.Sink.state l.initial.out).bytes (g.W.Sink.state l.out).bytes;
  faults : (g.W.Sink.state l.out).faults ≡ (g.W.Sink.state l.initial.out).faults;
}
