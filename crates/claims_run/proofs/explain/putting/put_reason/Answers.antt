use Rattle.std.proofs.Common.{◌∙◌}
use Rattle.claims_run.proofs.explain.PutLemmas.{reason_put}
use Rattle.claims_run.proofs.explain.putting.put_reason.Goals as goal

pub returns : goal.returns
returns g c =
    reason_put c.args.problem.now c.args.kept.now c.deref.result.now c.put_lines.result (g.W.Sink.state c.args.out.now) (g.W.Sink.state c.put_lines.new.out) (c.deref.ensures.value ∙ c.in_ok-text.ensures) c.put_lines.ensures
