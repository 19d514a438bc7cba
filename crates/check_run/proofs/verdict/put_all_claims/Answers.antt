use Rattle.std.proofs.Common.{rules, flat_map, length}
use Rattle.check_run.specs.Checking.{claim_line, accepted_line}
use Rattle.run_ends.proofs.PieceLemmas.{piece_after, part_of_more}
use Rattle.check_run.proofs.verdict.put_all_claims.Goals as goal

pub returns-in_err-put_claims : goal.returns-in_err-put_claims
returns-in_err-put_claims g c = record {
  ok = search rules;
  err =
      part_of_more c.from_residual.result (g.W.Sink.state c.args.out.now).bytes (g.W.Sink.state c.put_claims.new.out).bytes (flat_map claim_line c.args.claims.now)
      (accepted_line (length c.args.claims.now)) c.in_err-put_claims.ensures.err;
  cause = search rules;
  later = search rules;
}

pub returns : goal.returns
returns g c =
    piece_after c.put_accepted.result (flat_map claim_line c.args.claims.now) (accepted_line (length c.args.claims.now))
    (g.W.Sink.state c.args.out.now)
    (g.W.Sink.state c.put_claims.new.out)
    (g.W.Sink.state c.put_accepted.new.out)
    c.in_ok-put_claims.ensures.ok c.in_ok-put_claims.ensures.cause (search rules)
