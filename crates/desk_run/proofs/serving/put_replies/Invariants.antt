use Rattle.std.proofs.Common.{◌≡◌}
use Rattle.desk_run.proofs.TalkLemmas.{AreServedTo}
use Rattle.desk_run.proofs.serving.put_replies.Given as goal

abbrev pub invariant-requests : goal.invariant-requests
invariant-requests g l = record {
  served : AreServedTo l.initial.desk.problem l.requests l.request-index l.desk (g.W.Sink.state l.initial.out).bytes (g.W.Sink.state l.out).bytes;
  faults : (g.W.Sink.state l.out).faults ≡ (g.W.Sink.state l.initial.out).faults;
}
