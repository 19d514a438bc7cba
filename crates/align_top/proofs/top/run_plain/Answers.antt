use Rattle.std.proofs.Common.{ℕ, List, Ok, refl, sym, subst}
use Rattle.command_line.specs.Requests.{IsMade}
use Rattle.check_run.specs.Checking.{check_names, IsCheckAnswer}
use Rattle.run_ends.specs.Runs.{IsRunOf}
use Rattle.align_top.specs.Output.{IsRunFor}
use Rattle.align_top.proofs.RunLemmas.{sized}
use Rattle.align_top.proofs.top.run_plain.Goals as goal

pub run_listing-requires : goal.run_listing-requires
run_listing-requires g c = subst (IsMade c.requires.known) c.in-Align.is c.requires.made

pub run_parts-requires : goal.run_parts-requires
run_parts-requires g c = subst (IsMade c.requires.known) c.in-Parts.is c.requires.made

pub run_part-requires : goal.run_part-requires
run_part-requires g c = subst (IsMade c.requires.known) c.in-Part.is c.requires.made

pub run_trial-requires : goal.run_trial-requires
run_trial-requires g c = sized c.in-Trial.args (subst (IsMade c.requires.known) c.in-Trial.is c.requires.made)

pub returns-in-Align : goal.returns-in-Align
returns-in-Align g c = λ watchers.
    subst (λ r. IsRunFor watchers (Ok r) c.run_listing.result
    (g.S.Store.state c.args.store.now) (g.S.Store.state c.run_listing.new.store)
    (g.W.Sink.state c.args.out.now) (g.W.Sink.state c.run_listing.new.out)) (sym c.in-Align.is)
    (record { names = _; named = refl; run = c.run_listing.ensures })

pub returns-in-Check : goal.returns-in-Check
returns-in-Check g c = λ watchers.
    subst (λ r. IsRunFor watchers (Ok r) c.run_check.result
    (g.S.Store.state c.args.store.now) (g.S.Store.state c.run_check.new.store)
    (g.W.Sink.state c.args.out.now) (g.W.Sink.state c.run_check.new.out)) (sym c.in-Check.is)
    (record {
      names = _;
      named = refl;
      run =
          subst (λ (input : List ℕ). IsRunOf (check_names input c.in-Check.args.cert) (IsCheckAnswer input c.in-Check.args.cert c.in-Check.args.switches) c.run_check.result
          (g.S.Store.state c.args.store.now) (g.S.Store.state c.run_check.new.store)
          (g.W.Sink.state c.args.out.now) (g.W.Sink.state c.run_check.new.out)) c.text.ensures
          (subst (λ (cert : List ℕ). IsRunOf (check_names c.text.result.now cert) (IsCheckAnswer c.text.result.now cert c.in-Check.args.switches) c.run_check.result
          (g.S.Store.state c.args.store.now) (g.S.Store.state c.run_check.new.store)
          (g.W.Sink.state c.args.out.now) (g.W.Sink.state c.run_check.new.out)) c.text-in-Check.ensures c.run_check.ensures);
    })

pub returns-in-Mir : goal.returns-in-Mir
returns-in-Mir g c = λ watchers.
    subst (λ r. IsRunFor watchers (Ok r) c.run_claims.result
    (g.S.Store.state c.args.store.now) (g.S.Store.state c.run_claims.new.store)
    (g.W.Sink.state c.args.out.now) (g.W.Sink.state c.run_claims.new.out)) (sym c.in-Mir.is)
    (record { names = _; named = refl; run = c.run_claims.ensures })

pub returns-in-Conflict : goal.returns-in-Conflict
returns-in-Conflict g c = λ watchers.
    subst (λ r. IsRunFor watchers (Ok r) c.run_claims-in-Conflict.result
    (g.S.Store.state c.args.store.now) (g.S.Store.state c.run_claims-in-Conflict.new.store)
    (g.W.Sink.state c.args.out.now) (g.W.Sink.state c.run_claims-in-Conflict.new.out)) (sym c.in-Conflict.is)
    (record { names = _; named = refl; run = c.run_claims-in-Conflict.ensures })

pub returns-in-Lattice : goal.returns-in-Lattice
returns-in-Lattice g c = λ watchers.
    subst (λ r. IsRunFor watchers (Ok r) c.run_claims-in-Lattice.result
    (g.S.Store.state c.args.store.now) (g.S.Store.state c.run_claims-in-Lattice.new.store)
    (g.W.Sink.state c.args.out.now) (g.W.Sink.state c.run_claims-in-Lattice.new.out)) (sym c.in-Lattice.is)
    (record { names = _; named = refl; run = c.run_claims-in-Lattice.ensures })

pub returns-in-Explain : goal.returns-in-Explain
returns-in-Explain g c = λ watchers.
    subst (λ r. IsRunFor watchers (Ok r) c.run_explain.result
    (g.S.Store.state c.args.store.now) (g.S.Store.state c.run_explain.new.store)
    (g.W.Sink.state c.args.out.now) (g.W.Sink.state c.run_explain.new.out)) (sym c.in-Explain.is)
    (record { names = _; named = refl; run = c.run_explain.ensures })

pub returns-in-Part : goal.returns-in-Part
returns-in-Part g c = λ watchers.
    subst (λ r. IsRunFor watchers (Ok r) c.run_part.result
    (g.S.Store.state c.args.store.now) (g.S.Store.state c.run_part.new.store)
    (g.W.Sink.state c.args.out.now) (g.W.Sink.state c.run_part.new.out)) (sym c.in-Part.is)
    (record { names = _; named = refl; run = c.run_part.ensures })

pub returns-in-Join : goal.returns-in-Join
returns-in-Join g c = λ watchers.
    subst (λ r. IsRunFor watchers (Ok r) c.run_join.result
    (g.S.Store.state c.args.store.now) (g.S.Store.state c.run_join.new.store)
    (g.W.Sink.state c.args.out.now) (g.W.Sink.state c.run_join.new.out)) (sym c.in-Join.is)
    (record { names = _; named = refl; run = c.run_join.ensures })

pub returns-in-Parts : goal.returns-in-Parts
returns-in-Parts g c = λ watchers.
    subst (λ r. IsRunFor watchers (Ok r) c.run_parts.result
    (g.S.Store.state c.args.store.now) (g.S.Store.state c.run_parts.new.store)
    (g.W.Sink.state c.args.out.now) (g.W.Sink.state c.run_parts.new.out)) (sym c.in-Parts.is)
    (record { names = c.run_parts.ensures.names; named = c.run_parts.ensures.named; run = c.run_parts.ensures.run })

pub returns-in-Trial : goal.returns-in-Trial
returns-in-Trial g c = λ watchers.
    subst (λ r. IsRunFor watchers (Ok r) c.run_trial.result
    (g.S.Store.state c.args.store.now) (g.S.Store.state c.args.store.now)
    (g.W.Sink.state c.args.out.now) (g.W.Sink.state c.run_trial.new.out)) (sym c.in-Trial.is)
    (record { names = _; named = refl; run = c.run_trial.ensures (g.S.Store.state c.args.store.now) })
