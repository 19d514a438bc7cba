use Rattle.trial_run.proofs.LineLemmas.{lines_put}
use Rattle.trial_run.proofs.running.put_summary.Goals as goal

pub returns : goal.returns
returns g c =
    lines_put c.args.seed c.args.size c.args.text.now c.put_lines.result (g.W.Sink.state c.args.out.now)
    (g.W.Sink.state c.put_lines.new.out) c.requires c.put_lines.ensures
