use Rattle.std.proofs.Common.{ℕ, List, map, Ok, refl, sym, subst}
use Rattle.run_ends.specs.Runs.{IsRunOf}
use Rattle.command_line.specs.Requests.{IsMade}
use Rattle.report_run.specs.Reporting.{watched, AreKinds, report_names, IsReportAnswer}
use Rattle.align_top.specs.Output.{IsRunFor}
use Rattle.align_top.proofs.KindLemmas.{kinds_by}
use Rattle.align_top.proofs.top.run_reporting.Goals as goal

pub run_report-requires : goal.run_report-requires
run_report-requires g c =
    subst (λ (kinds : List (List ℕ)). AreKinds (watched (λ z. (goal.WorldWatcher-dyn g (z.vtable, z.value)).name z.value) (λ z. (goal.WorldWatcher-dyn g (z.vtable, z.value)).text z.value) c.args.watchers.items) kinds) (sym c.list.ensures)
    (kinds_by (λ z. (goal.WorldWatcher-dyn g (z.vtable, z.value)).name z.value) (λ z. (goal.WorldWatcher-dyn g (z.vtable, z.value)).text z.value) c.args.watchers.items c.in-Report.args.kinds
    (subst (λ r. IsMade (map (λ z. (goal.WorldWatcher-dyn g (z.vtable, z.value)).name z.value) c.args.watchers.items) r) c.in-Report.is c.requires.made))

pub returns : goal.returns
returns g c =
    subst (λ r. IsRunFor (watched (λ z. (goal.WorldWatcher-dyn g (z.vtable, z.value)).name z.value) (λ z. (goal.WorldWatcher-dyn g (z.vtable, z.value)).text z.value) c.args.watchers.items) (Ok r) c.run_report.result
    (g.S.Store.state c.args.store.now) (g.S.Store.state c.run_report.new.store)
    (g.W.Sink.state c.args.out.now) (g.W.Sink.state c.run_report.new.out)) (sym c.in-Report.is)
    (record {
      names = _;
      named = refl;
      run =
          subst (λ (input : List ℕ). IsRunOf (report_names input) (IsReportAnswer input c.in-Report.args.kinds c.in-Report.args.switches (watched (λ z. (goal.WorldWatcher-dyn g (z.vtable, z.value)).name z.value) (λ z. (goal.WorldWatcher-dyn g (z.vtable, z.value)).text z.value) c.args.watchers.items)) c.run_report.result
          (g.S.Store.state c.args.store.now) (g.S.Store.state c.run_report.new.store)
          (g.W.Sink.state c.args.out.now) (g.W.Sink.state c.run_report.new.out)) c.text.ensures
          (subst (λ (kinds : List (List ℕ)). IsRunOf (report_names c.text.result.now) (IsReportAnswer c.text.result.now kinds c.in-Report.args.switches (watched (λ z. (goal.WorldWatcher-dyn g (z.vtable, z.value)).name z.value) (λ z. (goal.WorldWatcher-dyn g (z.vtable, z.value)).text z.value) c.args.watchers.items)) c.run_report.result
          (g.S.Store.state c.args.store.now) (g.S.Store.state c.run_report.new.store)
          (g.W.Sink.state c.args.out.now) (g.W.Sink.state c.run_report.new.out)) c.list.ensures c.run_report.ensures);
    })
