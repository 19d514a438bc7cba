-- Steps of the search, one after another.
use Rattle.std.proofs.Common.{◌≡◌, ◌∙◌, ℕ, zero, suc, ◌+◌, ◌<◌, ◌≤◌, List, [], ◌∷◌, ◌++◌, length, get_or, None, refl, sym, ap, subst, arith}
use Rattle.std.specs.List.{All}
use Rattle.std.proofs.lemmas.List.Elements.{Contains-get_or, All-append}
use Rattle.lits_core.specs.Derivation.{State, SameState, live_clause, line_fault, hints_fault, next_state, DerivedFollow}
use Rattle.lits_core.specs.declared.Line.{Line}
use Rattle.lits_core.specs.declared.Line.TheVariants.{Derive}
use Rattle.lits_core.proofs.LiteralSets.{same-self}
use Rattle.lits_core.proofs.DerivationLemmas.{DerivedFollow-next}
use Rattle.clause_arena.specs.Records.{Record, new_record}
use Rattle.watch_arena.specs.Trails.{TrailState, IsTrail, Adds}
use Rattle.conflict_clause.specs.Taught.{IsTaught}
use Rattle.learn_solver.specs.declared.learner.Learner.{Learner}
use Rattle.learn_solver.specs.Solving.{FromOne, GoesTo}
use Rattle.learn_solver.specs.Guides.{Guide, IsGuided}
use Rattle.learn_solver.specs.States.{state_of}
use Rattle.learn_solver.specs.Learners.{solver_state, guide_of, IsLearner, AreRecords, Steps, Backtracks}
use Rattle.learn_solver.proofs.SameStates.{SameState-records}
use Rattle.learn_solver.proofs.RecordState.{AreRecords-same, AreUpTo-same, AreUpTo-more, AreNoted-same, AreRecords-pushed, AreNoted-pushed, HoldsRecords-state, fresh-free, state-pushed, live-within}
use Rattle.learn_solver.proofs.CallSequence.{GoesTo-same, GoesTo-trans}
use Rattle.learn_solver.proofs.AssumptionsInvariant.{IsGuided-back}

pub Steps-trans : (one two three : Learner) → Steps one two → Steps two three → Steps one three
Steps-trans one two three h k = record {
  sound = k.sound;
  goes = GoesTo-trans (solver_state one) (solver_state two) (solver_state three) h.goes k.goes;
  variables = k.variables ∙ h.variables;
  assumptions = k.assumptions ∙ h.assumptions;
}

-- clauses, variables and lines stay
pub record Keeps (old new : Learner) : Type 0 where
  pub records : new.trail.records ≡ old.trail.records
  pub trail_variables : new.trail.variables ≡ old.trail.variables
  pub variables : new.variables ≡ old.variables
  pub analyzer : new.analyzer ≡ old.analyzer
  pub order : new.order ≡ old.order
  pub given : new.given ≡ old.given
  pub last : new.last ≡ old.last
  pub waiting : new.waiting.items ≡ old.waiting.items

same_state : (records other : List Record) (given more : ℕ) → other ≡ records → more ≡ given → SameState (state_of records given) (state_of other more)
same_state records other given more e h =
    subst (λ (rs : List Record). SameState (state_of records given) (state_of rs more)) (sym e)
    (subst (λ (n : ℕ). SameState (state_of records given) (state_of records n)) (sym h) (same-self (state_of records given)))

pub IsLearner-moved : (old new : Learner) → IsLearner old → Keeps old new → IsGuided (guide_of new) → IsLearner new
IsLearner-moved old new s k g = record {
  variables = k.variables ∙ s.variables ∙ sym k.trail_variables;
  analyzer = k.analyzer ∙ s.analyzer ∙ sym k.trail_variables;
  order = ap length k.order ∙ s.order ∙ sym k.trail_variables;
  records = rw (k.records, k.given) s.records;
  last = rw (k.records, k.last) s.last;
  waiting = subst (All FromOne) (sym k.waiting) s.waiting;
  noted = rw (k.records, k.given, k.order) s.noted;
  guided = g;
}

pub IsLearner-kept : (old new : Learner) → IsLearner old → Keeps old new → guide_of new ≡ guide_of old → IsLearner new
IsLearner-kept old new s k e = IsLearner-moved old new s k (subst IsGuided (sym e) s.guided)

pub GoesTo-kept : (old new : Learner) → Keeps old new → GoesTo (solver_state old) (solver_state new)
GoesTo-kept old new k = GoesTo-same (solver_state old) (solver_state new) k.trail_variables k.waiting (same_state old.trail.records new.trail.records old.given new.given k.records k.given)

pub Steps-moved : (old new : Learner) → IsLearner old → Keeps old new → new.assumptions.lits ≡ old.assumptions.lits → IsGuided (guide_of new) → Steps old new
Steps-moved old new s k assumptions g = record {
  sound = IsLearner-moved old new s k g;
  goes = GoesTo-kept old new k;
  variables = k.trail_variables;
  assumptions = assumptions;
}

pub Steps-kept : (old new : Learner) → IsLearner old → Keeps old new → guide_of new ≡ guide_of old → Steps old new
Steps-kept old new s k e = Steps-moved old new s k (ap (λ (g : Guide). g.assumptions.lits) e) (subst IsGuided (sym e) s.guided)

pub Steps-refl : (l : Learner) → IsLearner l → Steps l l
Steps-refl l s = Steps-kept l l s (record { records = refl; trail_variables = refl; variables = refl; analyzer = refl; order = refl; given = refl; last = refl; waiting = refl }) refl

-- a clause that live clauses give may be derived
no_fault : (state : State) (id : ℕ) (lits hints : List ℕ) → live_clause state id ≡ None → hints_fault state hints lits ≡ None → line_fault state (Derive id lits hints) ≡ None
no_fault state id lits hints free shown = rw free shown

-- the ids in its line are at least 1
line-from_one : (t : TrailState) (given id : ℕ) (lits hints : List ℕ) → AreRecords t.records given → IsTaught t lits hints → 1 ≤ id → FromOne (Derive id lits hints)
line-from_one t given id lits hints r taught pos = (
  pos,
  λ k d lt.
      let live = taught.of_live (get_or hints k d) (Contains-get_or hints k d lt) in
      let least = r.from_one live.at (live-within t.records live.at live.live) in
      let is = live.named in omega arith,
)

-- what holds of a line holds of the list of it alone
one_line : (line : Line) (k : ℕ) (d : Line) → FromOne line → k < length (line ∷ []) → FromOne (get_or (line ∷ []) k d)
one_line line zero d h lt = h
one_line line (suc k) d h lt = absurd (omega arith)

-- one derived clause more, with its line
pub Steps-noted : (old new : Learner) (id : ℕ) (lits hints : List ℕ) → IsLearner old → IsTaught old.trail lits hints → id ≡ old.last + 1 → new.last ≡ id → Adds old.trail new.trail lits id → new.variables ≡ old.variables → new.analyzer ≡ old.analyzer → new.order ≡ old.order → new.given ≡ old.given → new.waiting.items ≡ old.waiting.items ++ Derive id lits hints ∷ [] → guide_of new ≡ guide_of old → Steps old new
Steps-noted old new id lits hints s taught fresh last adds variables analyzer order given waiting guide =
    let records : List Record = old.trail.records in
    let enough = s.records.enough in
    let state : State = state_of old.trail.records old.given in
    let line : Line = Derive id lits hints in
    let shown = taught.shown (state_of old.trail.records old.given) (HoldsRecords-state old.trail.records old.given s.records) in
    let fault = no_fault (state_of old.trail.records old.given) id lits hints (fresh-free old.trail.records old.given old.last id s.records s.last (omega arith)) shown in
    let pushed : state_of (old.trail.records ++ new_record id lits ∷ []) old.given ≡ next_state (state_of old.trail.records old.given) (Derive id lits hints) = state-pushed old.trail.records old.given id lits hints enough in
    let follow : DerivedFollow (state_of (old.trail.records ++ new_record id lits ∷ []) old.given) =
    subst (λ (st : State). DerivedFollow st) (sym pushed) (DerivedFollow-next (state_of old.trail.records old.given) (Derive id lits hints) s.records.follow fault) in
    let one : FromOne (Derive id lits hints) = line-from_one old.trail old.given id lits hints s.records taught (omega arith) in
    let mid = AreRecords-pushed old.trail.records old.given old.last id lits s.records s.last (omega arith) follow in
    let after : SameState (next_state (state_of old.trail.records old.given) (Derive id lits hints)) (state_of new.trail.records old.given) =
    subst (λ (st : State). SameState st (state_of new.trail.records old.given)) pushed (SameState-records (old.trail.records ++ new_record id lits ∷ []) new.trail.records old.given adds.records) in
    record {
      sound = record {
        variables = variables ∙ s.variables ∙ sym adds.variables;
        analyzer = analyzer ∙ s.analyzer ∙ sym adds.variables;
        order = ap length order ∙ s.order ∙ sym adds.variables;
        records = rw given (AreRecords-same (old.trail.records ++ new_record id lits ∷ []) new.trail.records old.given mid adds.records);
        last = AreUpTo-same (old.trail.records ++ new_record id lits ∷ []) new.trail.records new.last (AreUpTo-more old.trail.records old.last new.last id lits s.last (omega arith) (omega arith)) adds.records;
        waiting = subst (All FromOne) (sym waiting) (All-append FromOne old.waiting.items (Derive id lits hints ∷ []) s.waiting (λ k d lt. one_line (Derive id lits hints) k d one lt));
        noted = rw (given, order) (AreNoted-same (old.trail.records ++ new_record id lits ∷ []) new.trail.records old.given old.order (AreNoted-pushed old.trail.records (new_record id lits) old.given old.order enough s.noted) adds.records);
        guided = subst IsGuided (sym guide) s.guided;
      };
      goes = record {
        variables = adds.variables;
        added = Derive id lits hints ∷ [];
        waits = waiting;
        leads = record {
          valid = rw fault refl;
          after = subst (λ (n : ℕ). SameState (next_state (state_of old.trail.records old.given) (Derive id lits hints)) (state_of new.trail.records n)) (sym given) after;
        };
        from_one = λ k d lt. one_line (Derive id lits hints) k d one lt;
      };
      variables = adds.variables;
      assumptions = ap (λ (g : Guide). g.assumptions.lits) guide;
    }

-- the trail goes back to a level
pub Steps-back : (old new : Learner) (level : ℕ) → IsLearner old → IsTrail old.trail → level ≤ old.trail.level → Backtracks old new level → Steps old new
Steps-back old new level s f le e = Steps-moved old new s (record {
  records = ap (λ (l : Learner). l.trail.records) e;
  trail_variables = ap (λ (l : Learner). l.trail.variables) e;
  variables = ap (λ (l : Learner). l.variables) e;
  analyzer = ap (λ (l : Learner). l.analyzer) e;
  order = ap (λ (l : Learner). l.order) e;
  given = ap (λ (l : Learner). l.given) e;
  last = ap (λ (l : Learner). l.last) e;
  waiting = ap (λ (l : Learner). l.waiting.items) e;
})
    (ap (λ (l : Learner). l.assumptions.lits) e)
    (subst IsGuided (sym (ap guide_of e)) (IsGuided-back old.trail old.assumptions level f le s.guided))

-- only the trail changes, and of it only places and level
pub Steps-trail : (old : Learner) (t : TrailState) → IsLearner old → t.records ≡ old.trail.records → t.variables ≡ old.trail.variables → IsGuided (guide_of (record old { trail = t })) → Steps old (record old { trail = t })
Steps-trail old t s records variables g = Steps-moved old (record old { trail = t }) s (record { records = records; trail_variables = variables; variables = refl; analyzer = refl; order = refl; given = refl; last = refl; waiting = refl }) refl g

-- only what is known of the assumptions changes
pub Steps-holding : (old new : Learner) → IsLearner old → new ≡ record old { assumptions = record old.assumptions { holding = new.assumptions.holding } } → IsGuided (guide_of new) → Steps old new
Steps-holding old new s e g = Steps-moved old new s (record {
  records = ap (λ (l : Learner). l.trail.records) e;
  trail_variables = ap (λ (l : Learner). l.trail.variables) e;
  variables = ap (λ (l : Learner). l.variables) e;
  analyzer = ap (λ (l : Learner). l.analyzer) e;
  order = ap (λ (l : Learner). l.order) e;
  given = ap (λ (l : Learner). l.given) e;
  last = ap (λ (l : Learner). l.last) e;
  waiting = ap (λ (l : Learner). l.waiting.items) e;
}) (ap (λ (l : Learner). l.assumptions.lits) e) g
