use Rattle.std.proofs.Common.{rules, ℕ, List, arith, ap, subst, ◌∙◌}
use Rattle.outer_store.specs.Bytes.{GrownInPart, added}
use Rattle.check_run.specs.Checking.{claim_line}
use Rattle.run_ends.proofs.PieceLemmas.{line_put, line_refused, line_starved, lines_put}
use Rattle.check_run.proofs.verdict.put_claims.Goals as goal

pub returns-in_err-line : goal.returns-in_err-line
returns-in_err-line g c = record {
  ok = search rules;
  err = line_starved c.from_residual.result claim_line c.args.claims.now c.claims.claim-index (g.W.Sink.state c.args.out.now).bytes (g.W.Sink.state c.claims.out).bytes c.claims.invariant.put;
  cause = search rules;
  later = search rules;
}

pub returns-in_err-put : goal.returns-in_err-put
returns-in_err-put g c = record {
  ok = search rules;
  err =
      line_refused c.from_residual-in_err-put.result claim_line c.args.claims.now c.claims.claim-index c.claim-item.result (g.W.Sink.state c.args.out.now).bytes (g.W.Sink.state c.claims.out).bytes (g.W.Sink.state c.put.new.self).bytes
      (omega arith) c.claim-item.is c.claims.invariant.put
      (subst (GrownInPart (g.W.Sink.state c.claims.out).bytes (g.W.Sink.state c.put.new.self).bytes) (c.deref.ensures.value ∙ c.in_ok-line.ensures) c.in_err-put.ensures.err);
  cause = search rules;
  later = search rules;
}

pub claims-preserved : goal.claims-preserved
claims-preserved g c = record {
  put =
      line_put claim_line c.args.claims.now c.claims.claim-index c.claim-item.result (g.W.Sink.state c.args.out.now).bytes (g.W.Sink.state c.claims.out).bytes (g.W.Sink.state c.put.new.self).bytes
      (omega arith) c.claim-item.is c.claims.invariant.put
      (c.in_ok-put.ensures.ok ∙ ap (λ (bytes : List ℕ). added (g.W.Sink.state c.claims.out).bytes bytes) (c.deref.ensures.value ∙ c.in_ok-line.ensures));
  faults = search rules;
}

pub returns : goal.returns
returns g c = record {
  ok = lines_put claim_line c.args.claims.now c.claims.claim-index (g.W.Sink.state c.args.out.now).bytes (g.W.Sink.state c.claims.out).bytes (omega arith) c.claims.invariant.put;
  err = search rules;
  cause = search rules;
  later = search rules;
}
