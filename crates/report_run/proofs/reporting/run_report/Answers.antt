use Rattle.std.proofs.Common.{rules, Ok}
use Rattle.run_ends.proofs.EndLemmas.{run_early, run_done, run_refused, run_starved}
use Rattle.report_run.specs.Reporting.{IsReportAnswer, report_names}
use Rattle.report_run.proofs.ReportLemmas.{without_problem, names_utf8, carried}
use Rattle.report_run.proofs.reporting.run_report.Goals as goal

pub returns-in-Err : goal.returns-in-Err
returns-in-Err g c =
    run_early (report_names c.args.input.now) (IsReportAnswer c.args.input.now c.args.kinds.now c.args.switches _) c.in-Err.status c.put_end.result
    (g.S.Store.state c.args.store.now)
    (g.S.Store.state c.problem_under.new.store)
    (g.W.Sink.state c.args.out.now) (g.W.Sink.state c.put_end.new.out)
    (without_problem c.args.input.now c.args.kinds.now c.args.switches _ c.in-Err.status
    (g.S.Store.state c.args.store.now)
    (g.S.Store.state c.problem_under.new.store)
    c.in-Err.ensures.ended) c.in-Err.ensures.kept c.put_end.ensures.put

pub report-requires-clause-utf8 : goal.report-requires-clause-utf8
report-requires-clause-utf8 g c = names_utf8 (g.S.Store.state c.args.store.now).held c.args.input.now c.args.switches c.in-Ok.problem c.read_names_are_utf8.ensures c.in-Ok.ensures.problem

pub returns-in-Ok-report : goal.returns-in-Ok-report
returns-in-Ok-report g c =
    run_done (report_names c.args.input.now) (IsReportAnswer c.args.input.now c.args.kinds.now c.args.switches _) c.in-Ok-report.status
    (g.S.Store.state c.args.store.now)
    (g.S.Store.state c.problem_under.new.store)
    (g.W.Sink.state c.args.out.now) (g.W.Sink.state c.report.new.out)
    (carried c.args.input.now c.args.kinds.now c.args.switches _ c.in-Ok.problem (Ok c.in-Ok-report.status)
    (g.S.Store.state c.args.store.now)
    (g.S.Store.state c.problem_under.new.store)
    (g.W.Sink.state c.args.out.now) (g.W.Sink.state c.report.new.out)
    c.facts.ensures.built.valid c.in-Ok.ensures.problem c.in-Ok.ensures.kept c.in-Ok.ensures.quiet c.in-Ok-report.ensures.status c.in-Ok-report.ensures.put)

pub returns-in-Err-Failed : goal.returns-in-Err-Failed
returns-in-Err-Failed g c =
    run_refused (report_names c.args.input.now) (IsReportAnswer c.args.input.now c.args.kinds.now c.args.switches _)
    (g.S.Store.state c.args.store.now)
    (g.S.Store.state c.problem_under.new.store)
    (g.W.Sink.state c.args.out.now) (g.W.Sink.state c.report.new.out)
    (carried c.args.input.now c.args.kinds.now c.args.switches _ c.in-Ok.problem _
    (g.S.Store.state c.args.store.now)
    (g.S.Store.state c.problem_under.new.store)
    (g.W.Sink.state c.args.out.now) (g.W.Sink.state c.report.new.out)
    c.facts.ensures.built.valid c.in-Ok.ensures.problem c.in-Ok.ensures.kept c.in-Ok.ensures.quiet (search rules) (search rules))

pub returns : goal.returns
returns g c =
    run_starved (report_names c.args.input.now) (IsReportAnswer c.args.input.now c.args.kinds.now c.args.switches _) c.put_end-in-Err-NoMemory.result
    (g.S.Store.state c.args.store.now)
    (g.S.Store.state c.problem_under.new.store)
    (g.W.Sink.state c.args.out.now) (g.W.Sink.state c.report.new.out) (g.W.Sink.state c.put_end-in-Err-NoMemory.new.out)
    (carried c.args.input.now c.args.kinds.now c.args.switches _ c.in-Ok.problem _
    (g.S.Store.state c.args.store.now)
    (g.S.Store.state c.problem_under.new.store)
    (g.W.Sink.state c.args.out.now) (g.W.Sink.state c.report.new.out)
    c.facts.ensures.built.valid c.in-Ok.ensures.problem c.in-Ok.ensures.kept c.in-Ok.ensures.quiet (search rules) (search rules))
    c.put_end-in-Err-NoMemory.ensures.put
