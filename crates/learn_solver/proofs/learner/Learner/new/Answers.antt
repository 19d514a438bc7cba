use Rattle.std.proofs.Common.{◌≡◌, ◌∙◌, ℕ, false, List, [], map, length, refl, sym, ap, subst, arith}
use Rattle.std.specs.List.{All}
use Rattle.std.proofs.Math.ListN.{length-replicate}
use Rattle.lits_core.specs.declared.Line.{Line}
use Rattle.lits_core.specs.Derivation.{first_state}
use Rattle.watch_arena.specs.Trails.{TrailState}
use Rattle.learn_solver.specs.Solving.{SolverState, FromOne}
use Rattle.learn_solver.specs.States.{state_of, idle_of}
use Rattle.learn_solver.specs.Guides.{AssumptionsState}
use Rattle.learn_solver.specs.Learners.{AreRecords}
use Rattle.learn_solver.proofs.AssumptionsInvariant.{IsGuided-none}
use Rattle.learn_solver.proofs.learner.Learner.new.Goals as goal

-- nothing is wrong with no records
none-sound : AreRecords [] 0
unfolding state_of
none-sound = record {
  enough = omega arith;
  live = λ at lt. absurd (omega arith);
  numbered = λ at lt. absurd (omega arith);
  ascending = λ a b lt within. absurd (omega arith);
  from_one = λ at lt. absurd (omega arith);
  follow = λ bits h. refl;
}

-- a trail with no clauses is seen as the first state
first-seen : (t : TrailState) (variables : ℕ) (lines : List Line) → t ≡ record { records = []; places = []; variables = variables; level = 0; spare = 0 } → lines ≡ [] → ◌≡◌ {A = SolverState} (record { variables = t.variables; state = state_of t.records 0; waiting = lines; idle = idle_of t.places t.records 0; assigned = map (λ p. p.lit) t.places }) (record { variables = variables; state = first_state []; waiting = []; idle = []; assigned = [] })
unfolding state_of idle_of
first-seen t variables lines e h = rw (e, h) refl

pub returns-clause-sound : goal.returns-clause-sound
returns-clause-sound c =
    let e = c.in_ok-new.ensures in
    record {
      variables = ap (λ (t : TrailState). t.variables) (sym e);
      analyzer = c.in_ok-new-2.ensures ∙ ap (λ (t : TrailState). t.variables) (sym e);
      order = ap length c.in_ok-new-3.ensures ∙ length-replicate c.args.variables false ∙ ap (λ (t : TrailState). t.variables) (sym e);
      records = subst (λ (t : TrailState). AreRecords t.records 0) (sym e) none-sound;
      last = λ at lt. absurd (let size = ap (λ (t : TrailState). length t.records) e in omega arith);
      waiting = subst (All FromOne) (sym c.new-4.ensures.items) (λ k d lt. absurd (omega arith));
      noted = λ at lit lt. absurd (omega arith);
      guided = IsGuided-none _ (ap (λ (t : TrailState). t.level) e) (ap (λ (a : AssumptionsState). a.guided) c.new-5.ensures) (ap (λ (a : AssumptionsState). a.holding) c.new-5.ensures) (ap (λ (a : AssumptionsState). a.holding_before) c.new-5.ensures);
    }

pub returns-clause-empty : goal.returns-clause-empty
returns-clause-empty c = first-seen c.in_ok-new.field-0 c.args.variables c.new-4.result.items c.in_ok-new.ensures c.new-4.ensures.items
