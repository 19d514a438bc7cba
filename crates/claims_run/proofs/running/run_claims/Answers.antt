use Rattle.std.proofs.Common.{ℕ, List, subst}
use Rattle.run_ends.specs.Runs.{IsRunOf}
use Rattle.claims_run.specs.Answering.{claims_names, IsClaimsAnswer}
use Rattle.claims_run.proofs.running.run_claims.Goals as goal

pub returns : goal.returns
returns g c =
    subst (λ (input : List ℕ). IsRunOf (claims_names input c.args.args.now.cert) (IsClaimsAnswer c.args.asked input c.args.args.now.cert c.args.args.now.switches) c.run_under.result
    (g.S.Store.state c.args.store.now) (g.S.Store.state c.run_under.new.store)
    (g.W.Sink.state c.args.out.now) (g.W.Sink.state c.run_under.new.out)) c.text.ensures c.run_under.ensures
