use Rattle.std.proofs.Common.{ℕ, List, sym, subst}
use Rattle.trial_run.specs.Trials.{IsSummary}
use Rattle.trial_run.proofs.EndLemmas.{trial_refused, trial_early}
use Rattle.trial_run.proofs.running.run_trial.Goals as goal

pub returns-in-Err : goal.returns-in-Err
returns-in-Err g c = λ store.
    trial_early c.args.seed c.args.size c.put_end.result store (g.W.Sink.state c.args.out.now)
    (g.W.Sink.state c.put_end.new.out) c.put_end.ensures.put

pub returns-in-Err-Failed : goal.returns-in-Err-Failed
returns-in-Err-Failed g c = λ store.
    let is : IsSummary c.args.seed c.args.size c.deref.result.now = subst (λ (text : List ℕ). IsSummary c.args.seed c.args.size text) (sym c.deref.ensures.value) c.in-Ok.ensures in
    trial_refused c.args.seed c.args.size c.deref.result.now is store (g.W.Sink.state c.args.out.now)
    (g.W.Sink.state c.put_summary.new.out) c.in-Err-Failed.ensures.err (rw c.in-Err-Failed.field-0-is at c.in-Err-Failed.ensures.cause)
