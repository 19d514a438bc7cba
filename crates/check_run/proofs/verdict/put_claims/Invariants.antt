use Rattle.std.proofs.Common.{◌≡◌, take, flat_map}
use Rattle.outer_store.specs.Bytes.{added}
use Rattle.check_run.specs.Checking.{claim_line}
use Rattle.check_run.proofs.verdict.put_claims.Given as goal

abbrev pub invariant-claims : goal.invariant-claims
invariant-claims g l = record {
  put : (g.W.Sink.state l.out).bytes ≡ added (g.W.Sink.state l.initial.out).bytes (flat_map claim_line (take l.claim-index l.claims));
  faults : (g.W.Sink.state l.out).faults ≡ (g.W.Sink.state l.initial.out).faults;
}
