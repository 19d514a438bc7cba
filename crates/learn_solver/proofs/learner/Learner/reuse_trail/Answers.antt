use Rattle.std.proofs.Common.{◌≡◌, ◌∙◌, ℕ, List, get_or, ap, sym, subst, arith, length, true}
use Rattle.watch_arena.specs.Places.{is_true}
use Rattle.watch_arena.specs.Trails.{IsTrail, places_up_to}
use Rattle.learn_solver.specs.declared.learner.Learner.{Learner}
use Rattle.learn_solver.specs.Guides.{AssumptionsState, IsMarked, IsGuided, IsNext, by_trail, lowered, assumption_at}
use Rattle.learn_solver.specs.Learners.{guide_of, backtracked, Backtracks, Reuses}
use Rattle.learn_solver.proofs.AssumptionsInvariant.{IsMarked-holding, IsGuided-stopped}
use Rattle.learn_solver.proofs.learner.Learner.reuse_trail.Goals as goal

-- the trail went back
dropped : (old mid new : Learner) (level : ℕ) → IsTrail old.trail → mid ≡ record old { assumptions = mid.assumptions } → mid.assumptions.lits ≡ old.assumptions.lits → IsMarked (guide_of mid) → level ≡ mid.assumptions.guided → Backtracks mid new level → Reuses old new
dropped old mid new level f h lits marked all back =
    let e : new ≡ record old { trail = backtracked old.trail level; assumptions = lowered mid.assumptions level } = back ∙ ap (λ (l : Learner). record l { trail = backtracked l.trail level; assumptions = lowered mid.assumptions level }) h in
    let facts : IsTrail mid.trail = subst IsTrail (sym (ap (λ (l : Learner). l.trail) h)) f in
    record {
      same = e ∙ sym (ap (λ (l : Learner). record old { trail = record old.trail { places = l.trail.places; level = l.trail.level }; assumptions = l.assumptions }) e);
      lits = ap (λ (l : Learner). l.assumptions.lits) back ∙ lits;
      guided = subst (λ (l : Learner). IsGuided (guide_of l)) (sym back)
          (subst (λ (n : ℕ). IsGuided (by_trail (backtracked mid.trail n) (lowered mid.assumptions n))) (sym all) (IsGuided-stopped mid.trail mid.assumptions facts marked));
    }

-- the next assumption is one also after it was followed
still-next : (old new : AssumptionsState) (lit : ℕ) → IsNext old lit → new.lits ≡ old.lits → new.holding ≡ old.holding → IsNext new lit
still-next old new lit next lits holding = record {
  within = let size = ap length lits in let within = next.within in omega arith;
  at = next.at ∙ ap (λ (n : ℕ). get_or old.lits n 0) (sym holding) ∙ ap (λ (xs : List ℕ). get_or xs new.holding 0) (sym lits);
}

pub returns-then-not-follows : goal.returns-then-not-follows
returns-then-not-follows c =
    let h = c.follows.ensures.same ∙ ap (λ (l : Learner). record l { assumptions = c.follows.new.self.assumptions }) c.loop-lit.invariant.same in
    dropped c.args.self.now c.follows.new.self c.cancel_until.new.self c.guided-level.result c.facts.ensures h (c.follows.ensures.lits ∙ c.loop-lit.invariant.lits) c.follows.ensures.marked c.guided-level.ensures c.cancel_until.ensures

pub hold_next-requires : goal.hold_next-requires
hold_next-requires c = (still-next c.loop-lit.self.assumptions c.follows.new.self.assumptions c.in-Some.lit c.in-Some.ensures c.follows.ensures.lits c.follows.ensures.holding).within

pub loop-lit-preserved : goal.loop-lit-preserved
loop-lit-preserved c =
    let next = still-next c.loop-lit.self.assumptions c.follows.new.self.assumptions c.in-Some.lit c.in-Some.ensures c.follows.ensures.lits c.follows.ensures.holding in
    let on : is_true (places_up_to c.follows.new.self.trail.places c.follows.new.self.assumptions.guided) (assumption_at c.follows.new.self.assumptions c.follows.new.self.assumptions.holding) ≡ true =
    ap (is_true (places_up_to c.follows.new.self.trail.places c.follows.new.self.assumptions.guided)) (sym next.at) ∙ c.follows.ensures.followed c.if-not-follows.false in
    record {
      same = ap (λ (l : Learner). record l { assumptions = c.hold_next.new.self }) c.follows.ensures.same ∙ ap (λ (l : Learner). record l { assumptions = c.hold_next.new.self }) c.loop-lit.invariant.same;
      lits = ap (λ (a : AssumptionsState). a.lits) c.hold_next.ensures ∙ c.follows.ensures.lits ∙ c.loop-lit.invariant.lits;
      marked = subst (λ (a : AssumptionsState). IsMarked (by_trail c.follows.new.self.trail a)) (sym c.hold_next.ensures) (IsMarked-holding (guide_of c.follows.new.self) c.follows.ensures.marked next.within on);
    }

pub returns : goal.returns
returns c =
    let h = c.loop-lit.invariant.same in
    let past = c.in_default.ensures in
    let few = c.loop-lit.invariant.marked.few in
    record {
      same = h ∙ sym (ap (λ (l : Learner). record c.args.self.now { trail = record c.args.self.now.trail { places = l.trail.places; level = l.trail.level }; assumptions = c.loop-lit.self.assumptions }) h);
      lits = c.loop-lit.invariant.lits;
      guided = record { marked = c.loop-lit.invariant.marked; free = λ lt. omega arith };
    }
