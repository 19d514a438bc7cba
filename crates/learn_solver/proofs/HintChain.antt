-- What a hint's clause does, literal by literal, and what hints come to one after the other.
use Rattle.std.proofs.Common.{◌≡◌, ◌≢◌, ◌∙◌, ℕ, ◌+◌, ◌<◌, ◌≤◌, Bool, true, false, ◌||◌, eqb, List, [], ◌∷◌, ◌++◌, map, length, get_or, take, drop, Option, Some, None, inl, inr, refl, sym, ap, subst, arith}
use Rattle.std.specs.Prelude.{MatchOption}
use Rattle.std.proofs.Math.Bool.{or_comm, or-false}
use Rattle.std.proofs.lemmas.Bool.{cases_lt, eq-eqb, ne_eqb}
use Rattle.std.proofs.lemmas.List.{at_drop_more, drop_all, take_more, take-append-drop, append-nil, append_assoc, get_or-take, length-take-le}
use Rattle.std.proofs.lemmas.List.Folds.{list_any-append}
use Rattle.lits_core.specs.Literals.{negation_of}
use Rattle.lits_core.specs.Derivation.{State, live_clause, has_lit, open_lits, hint_of, hint_fault, named_fault, hints_fault, SameLits}
use Rattle.lits_core.specs.declared.Hint.{Hint}
use Rattle.lits_core.specs.declared.Hint.TheVariants.{Falsified, Implies, NotUnit}
use Rattle.lits_core.specs.declared.Line.{Line}
use Rattle.lits_core.specs.declared.Line.TheVariants.{Derive}
use Rattle.lits_core.specs.declared.LineFault.{LineFault}
use Rattle.lits_core.specs.declared.LineFault.TheVariants.{UnknownHint, HintNotUnit, NoConflict}
use Rattle.lits_core.proofs.LiteralSets.{same-open, same-hint, same-hints, same-self}
use Rattle.clause_arena.specs.Records.{Record, record_at, new_record}
use Rattle.watch_arena.specs.Trails.{TrailState, AreInRange, Adds}
use Rattle.watch_arena.proofs.WatchedPair.{index_of, record_at-new}
use Rattle.conflict_clause.specs.Taught.{HoldsRecords, IsLiveId, IsTaught}
use Rattle.learn_solver.specs.declared.learner.Learner.{Learner}
use Rattle.learn_solver.specs.Solving.{SolverState}
use Rattle.learn_solver.specs.Hints.{Suffice, AddsLine}
use Rattle.learn_solver.specs.States.{state_of, idle_of}
use Rattle.learn_solver.specs.Learners.{solver_state, IsLearner, AreRecords, IsStored}
use Rattle.learn_solver.proofs.SameStates.{SameLits-permuted}
use Rattle.learn_solver.proofs.RecordState.{live-at, HoldsRecords-state, fresh-free}

-- what the further literals of a clause come to, after the first open one so far
abbrev pub hint_after : Option ℕ → List ℕ → Hint
hint_after None lits = hint_of lits
hint_after (Some first) lits = hint_of (first ∷ lits)

abbrev pub hint_from : List ℕ → Option ℕ → List ℕ → Hint
hint_from falses first lits = hint_after first (open_lits falses lits)

-- a literal that is held false counts for nothing
held-next : (falses : List ℕ) (first : Option ℕ) (l : ℕ) (ls : List ℕ) → has_lit falses l ≡ true → hint_from falses first (l ∷ ls) ≡ hint_from falses first ls
held-next falses first l ls h = rw h refl

-- the first open literal
first-next : (falses : List ℕ) (l : ℕ) (ls : List ℕ) → has_lit falses l ≡ false → hint_from falses None (l ∷ ls) ≡ hint_from falses (Some l) ls
first-next falses l ls h = rw h refl

-- the first open literal again, and another one
same-next : (falses : List ℕ) (l : ℕ) (ls : List ℕ) → has_lit falses l ≡ false → hint_from falses (Some l) (l ∷ ls) ≡ hint_from falses (Some l) ls
same-next falses l ls h = rw (h, eq-eqb l l refl) refl

other-next : (falses : List ℕ) (first l : ℕ) (ls : List ℕ) → has_lit falses l ≡ false → l ≢ first → hint_from falses (Some first) (l ∷ ls) ≡ NotUnit
other-next falses first l ls h ne = rw (h, ne_eqb l first ne) refl

-- what is read at a place of a clause, where the first open literal so far was one and is then another
pub from-held : (falses lits : List ℕ) (place lit : ℕ) (was now : Option ℕ) (whole : Hint) → place < length lits → lit ≡ get_or lits place 0 → has_lit falses lit ≡ true → now ≡ was → hint_from falses was (drop place lits) ≡ whole → hint_from falses now (drop (place + 1) lits) ≡ whole
from-held falses lits place lit was now whole lt is h after comes =
    ap (λ (first : Option ℕ). hint_from falses first (drop (place + 1) lits)) after
    ∙ sym (at_drop_more (hint_from falses was) lits place 0 lt ∙ held-next falses was (get_or lits place 0) (drop (place + 1) lits) (ap (has_lit falses) (sym is) ∙ h))
    ∙ comes

pub from-first : (falses lits : List ℕ) (place lit : ℕ) (was now : Option ℕ) (whole : Hint) → place < length lits → lit ≡ get_or lits place 0 → has_lit falses lit ≡ false → was ≡ None → now ≡ Some lit → hint_from falses was (drop place lits) ≡ whole → hint_from falses now (drop (place + 1) lits) ≡ whole
from-first falses lits place lit was now whole lt is h before after comes =
    ap (λ (first : Option ℕ). hint_from falses first (drop (place + 1) lits)) (after ∙ ap Some is)
    ∙ sym (at_drop_more (hint_from falses None) lits place 0 lt ∙ first-next falses (get_or lits place 0) (drop (place + 1) lits) (ap (has_lit falses) (sym is) ∙ h))
    ∙ ap (λ (first : Option ℕ). hint_from falses first (drop place lits)) (sym before)
    ∙ comes

pub from-same : (falses lits : List ℕ) (place lit first : ℕ) (was now : Option ℕ) (whole : Hint) → place < length lits → lit ≡ get_or lits place 0 → has_lit falses lit ≡ false → first ≡ lit → was ≡ Some first → now ≡ Some first → hint_from falses was (drop place lits) ≡ whole → hint_from falses now (drop (place + 1) lits) ≡ whole
from-same falses lits place lit first was now whole lt is h same before after comes =
    let there : first ≡ get_or lits place 0 = same ∙ is in
    ap (λ (o : Option ℕ). hint_from falses o (drop (place + 1) lits)) (after ∙ ap Some there)
    ∙ sym (at_drop_more (hint_from falses (Some (get_or lits place 0))) lits place 0 lt ∙ same-next falses (get_or lits place 0) (drop (place + 1) lits) (ap (has_lit falses) (sym is) ∙ h))
    ∙ ap (λ (o : Option ℕ). hint_from falses o (drop place lits)) (sym (before ∙ ap Some there))
    ∙ comes

pub from-other : (falses lits : List ℕ) (place lit first : ℕ) (was : Option ℕ) (whole : Hint) → place < length lits → lit ≡ get_or lits place 0 → has_lit falses lit ≡ false → first ≢ lit → was ≡ Some first → hint_from falses was (drop place lits) ≡ whole → whole ≡ NotUnit
from-other falses lits place lit first was whole lt is h ne before comes =
    sym comes
    ∙ ap (λ (o : Option ℕ). hint_from falses o (drop place lits)) before
    ∙ at_drop_more (hint_from falses (Some first)) lits place 0 lt
    ∙ other-next falses first (get_or lits place 0) (drop (place + 1) lits) (ap (has_lit falses) (sym is) ∙ h) (λ e. ne (sym (is ∙ e)))

-- at the end of a clause nothing is left
pub from-end : (falses lits : List ℕ) (place : ℕ) (was first : Option ℕ) (whole : Hint) → length lits ≤ place → was ≡ first → hint_from falses was (drop place lits) ≡ whole → whole ≡ hint_after first []
from-end falses lits place was first whole le before comes =
    sym comes ∙ ap (λ (o : Option ℕ). hint_from falses o (drop place lits)) before ∙ ap (hint_from falses first) (drop_all place lits le)

-- a hint that names a clause with the same literals
same-named : (named : Option (List ℕ)) (lits falses : List ℕ) (further : ℕ → Option LineFault) → MatchOption named ⊥ (λ c. SameLits c lits) → named_fault named falses further ≡ hint_fault (hint_of (open_lits falses lits)) further
same-named None lits falses further same = absurd same
same-named (Some c) lits falses further same =
    same-hint (open_lits falses c) (open_lits falses lits) further further (same-open falses falses c lits (λ lit. refl) same) (λ lit. refl)

-- a literal more at the end is one more at the front
same-pushed : (lits : List ℕ) (lit : ℕ) → SameLits (lit ∷ lits) (lits ++ lit ∷ [])
same-pushed lits lit other =
    or_comm (eqb lit other) (has_lit lits other)
    ∙ ap (λ (b : Bool). has_lit lits other || b) (sym (or-false (eqb lit other)))
    ∙ sym (list_any-append (λ l. eqb l other) lits (lit ∷ []))

-- the first hints name live records, and what all come to is what the others do with more literals held false
pub record HasCome (records : List Record) (lits hints falses : List ℕ) (place : ℕ) : Type 0 where
  pub left : (state : State) → HoldsRecords state records → (rest : List ℕ) → hints_fault state (take place hints ++ rest) lits ≡ hints_fault state rest falses
  pub early : (state : State) → HoldsRecords state records → (k : ℕ) → k ≤ place → hints_fault state (take k hints) lits ≢ None
  pub named : (k : ℕ) → k < place → IsLiveId records (get_or hints k 0)

-- a hint names a live record, whose clause does this
pub record Does (records : List Record) (hints falses : List ℕ) (place at : ℕ) (hint : Hint) : Type 0 where
  pub within : place < length hints
  pub live : (record_at records at).live ≡ true
  pub named : (record_at records at).id ≡ get_or hints place 0
  pub told : hint_of (open_lits falses (record_at records at).lits) ≡ hint

pub Does-found : (records : List Record) (given : ℕ) (hints slice falses : List ℕ) (place at : ℕ) (was hint : Hint) → AreRecords records given → place < length hints → at < length records → (record_at records at).id ≡ get_or hints place 0 → slice ≡ falses → was ≡ hint_of (open_lits slice (record_at records at).lits) → was ≡ hint → Does records hints falses place at hint
Does-found records given hints slice falses place at was hint r lt within named same told is = record {
  within = lt;
  live = r.live at within;
  named = named;
  told = ap (λ (fs : List ℕ). hint_of (open_lits fs (record_at records at).lits)) (sym same) ∙ sym told ∙ is;
}

-- one hint further
one-on : (records : List Record) (lits hints falses : List ℕ) (place at : ℕ) (hint : Hint) → HasCome records lits hints falses place → Does records hints falses place at hint → (state : State) → HoldsRecords state records → (rest : List ℕ) → hints_fault state (take (place + 1) hints ++ rest) lits ≡ hint_fault hint (λ lit. hints_fault state rest (negation_of lit ∷ falses))
one-on records lits hints falses place at hint come does state holds rest =
    let further : ℕ → Option LineFault = λ lit. hints_fault state rest (negation_of lit ∷ falses) in
    ap (λ (hs : List ℕ). hints_fault state (hs ++ rest) lits) (take_more hints place 0 does.within)
    ∙ ap (λ (hs : List ℕ). hints_fault state hs lits) (append_assoc (take place hints) (get_or hints place 0 ∷ []) rest)
    ∙ come.left state holds (get_or hints place 0 ∷ rest)
    ∙ ap (λ (id : ℕ). hints_fault state (id ∷ rest) falses) (sym does.named)
    ∙ same-named (live_clause state (record_at records at).id) (record_at records at).lits falses further (holds.each at does.live)
    ∙ ap (λ (h : Hint). hint_fault h further) does.told

-- no hints show nothing
none-left : (state : State) (falses : List ℕ) → hints_fault state [] falses ≢ None
none-left state falses e = let clash : Some NoConflict ≡ None = e in cc

-- so hints that leave literals held false have not shown the clause yet
not-yet : (records : List Record) (lits hints falses : List ℕ) (place : ℕ) → ((state : State) → HoldsRecords state records → (rest : List ℕ) → hints_fault state (take place hints ++ rest) lits ≡ hints_fault state rest falses) → (state : State) → HoldsRecords state records → (k : ℕ) → place ≡ k → hints_fault state (take k hints) lits ≢ None
not-yet records lits hints falses place left state holds k same e =
    none-left state falses (sym (left state holds []) ∙ ap (λ (hs : List ℕ). hints_fault state hs lits) (append-nil (take place hints)) ∙ ap (λ (j : ℕ). hints_fault state (take j hints) lits) same ∙ e)

-- at the start
pub HasCome-start : (records : List Record) (lits hints falses : List ℕ) → falses ≡ lits → HasCome records lits hints falses 0
HasCome-start records lits hints falses same = record {
  left = λ state holds rest. ap (hints_fault state rest) (sym same);
  early = λ state holds k le. (let first : 0 ≡ k = omega arith in not-yet records lits hints falses 0 (λ st h rest. ap (hints_fault st rest) (sym same)) state holds k first);
  named = λ k lt. absurd (omega arith);
}

-- with one hint more, all of them name live records
named-next : (records : List Record) (hints falses : List ℕ) (place at k : ℕ) (hint : Hint) → ((j : ℕ) → j < place → IsLiveId records (get_or hints j 0)) → Does records hints falses place at hint → k < place + 1 → IsLiveId records (get_or hints k 0)
named-next records hints falses place at k hint named does lt =
    elim (cases_lt k place) [
      | inl early ↦ named k early
      | inr late ↦
          let same : place ≡ k = omega arith in
          record { at = at; live = does.live; named = does.named ∙ ap (λ (j : ℕ). get_or hints j 0) same }
    ]

-- after a hint whose clause implies a literal
left-next : (records : List Record) (lits hints falses next : List ℕ) (place at lit : ℕ) → HasCome records lits hints falses place → Does records hints falses place at (Implies lit) → next ≡ falses ++ negation_of lit ∷ [] → (state : State) → HoldsRecords state records → (rest : List ℕ) → hints_fault state (take (place + 1) hints ++ rest) lits ≡ hints_fault state rest next
left-next records lits hints falses next place at lit come does pushed state holds rest =
    one-on records lits hints falses place at (Implies lit) come does state holds rest
    ∙ same-hints state state rest (negation_of lit ∷ falses) (falses ++ negation_of lit ∷ []) (same-self state) (same-pushed falses (negation_of lit))
    ∙ ap (hints_fault state rest) (sym pushed)

pub HasCome-next : (records : List Record) (lits hints falses next : List ℕ) (place at lit : ℕ) → HasCome records lits hints falses place → Does records hints falses place at (Implies lit) → next ≡ falses ++ negation_of lit ∷ [] → HasCome records lits hints next (place + 1)
HasCome-next records lits hints falses next place at lit come does pushed = record {
  left = left-next records lits hints falses next place at lit come does pushed;
  early = λ state holds k le.
      elim (cases_lt k (place + 1)) [
        | inl before ↦ come.early state holds k (omega arith)
        | inr late ↦ (let last : place + 1 ≡ k = omega arith in not-yet records lits hints next (place + 1) (left-next records lits hints falses next place at lit come does pushed) state holds k last)
      ];
  named = λ k lt. named-next records hints falses place at k (Implies lit) come.named does lt;
}

-- the hints up to one whose clause is false show the clause
pub IsTaught-come : (t : TrailState) (lits hints falses : List ℕ) (place at : ℕ) → HasCome t.records lits hints falses place → Does t.records hints falses place at Falsified → AreInRange lits t.variables → IsTaught t lits (take (place + 1) hints)
IsTaught-come t lits hints falses place at come does range = record {
  shown = λ state holds.
      ap (λ (hs : List ℕ). hints_fault state hs lits) (sym (append-nil (take (place + 1) hints)))
      ∙ one-on t.records lits hints falses place at Falsified come does state holds [];
  of_live = λ hint has.
      let index = index_of (take (place + 1) hints) hint has in
      let size : length (take (place + 1) hints) ≡ place + 1 = (let within = does.within in length-take-le (place + 1) hints (omega arith)) in
      let below = index.1 in
      let lt : index.0 < place + 1 = omega arith in
      subst (IsLiveId t.records) (sym (get_or-take (place + 1) hints index.0 0 lt) ∙ index.2) (named-next t.records hints falses place at index.0 Falsified come.named does lt);
  in_range = range;
}

-- and no fewer show it
pub Suffice-come : (records : List Record) (given : ℕ) (lits hints falses : List ℕ) (place at : ℕ) → AreRecords records given → HasCome records lits hints falses place → Does records hints falses place at Falsified → Suffice (state_of records given) lits hints (place + 1)
Suffice-come records given lits hints falses place at r come does = record {
  within = (let within = does.within in omega arith);
  shown =
      ap (λ (hs : List ℕ). hints_fault (state_of records given) hs lits) (sym (append-nil (take (place + 1) hints)))
      ∙ one-on records lits hints falses place at Falsified come does (state_of records given) (HoldsRecords-state records given r) [];
  fewest = λ k lt. come.early (state_of records given) (HoldsRecords-state records given r) k (omega arith);
}

-- and have no fault, whatever comes after them
pub no-fault : (records : List Record) (given : ℕ) (lits hints falses : List ℕ) (place at : ℕ) → AreRecords records given → HasCome records lits hints falses place → Does records hints falses place at Falsified → hints_fault (state_of records given) hints lits ≡ None
no-fault records given lits hints falses place at r come does =
    ap (λ (hs : List ℕ). hints_fault (state_of records given) hs lits) (sym (take-append-drop (place + 1) hints))
    ∙ one-on records lits hints falses place at Falsified come does (state_of records given) (HoldsRecords-state records given r) (drop (place + 1) hints)

-- hints of which one names no clause have a fault
pub unknown-fault : (records : List Record) (given : ℕ) (lits hints falses : List ℕ) (place : ℕ) → AreRecords records given → HasCome records lits hints falses place → place < length hints → live_clause (state_of records given) (get_or hints place 0) ≡ None → hints_fault (state_of records given) hints lits ≢ None
unknown-fault records given lits hints falses place r come lt none e =
    let fault : hints_fault (state_of records given) hints lits ≡ Some UnknownHint =
    ap (λ (hs : List ℕ). hints_fault (state_of records given) hs lits) (sym (take-append-drop place hints))
    ∙ come.left (state_of records given) (HoldsRecords-state records given r) (drop place hints)
    ∙ at_drop_more (λ (hs : List ℕ). hints_fault (state_of records given) hs falses) hints place 0 lt
    ∙ ap (λ (o : Option (List ℕ)). named_fault o falses (λ lit. hints_fault (state_of records given) (drop (place + 1) hints) (negation_of lit ∷ falses))) none in
    let clash : Some UnknownHint ≡ None = sym fault ∙ e in
    cc

-- so have those of which one names a clause with two open literals
pub not_unit-fault : (records : List Record) (given : ℕ) (lits hints falses : List ℕ) (place at : ℕ) → AreRecords records given → HasCome records lits hints falses place → Does records hints falses place at NotUnit → hints_fault (state_of records given) hints lits ≢ None
not_unit-fault records given lits hints falses place at r come does e =
    let fault : hints_fault (state_of records given) hints lits ≡ Some HintNotUnit =
    ap (λ (hs : List ℕ). hints_fault (state_of records given) hs lits) (sym (take-append-drop (place + 1) hints))
    ∙ one-on records lits hints falses place at NotUnit come does (state_of records given) (HoldsRecords-state records given r) (drop (place + 1) hints) in
    let clash : Some HintNotUnit ≡ None = sym fault ∙ e in
    cc

-- and those that end before a clause is false
pub end-fault : (records : List Record) (given : ℕ) (lits hints falses : List ℕ) (place : ℕ) → AreRecords records given → HasCome records lits hints falses place → length hints ≤ place → hints_fault (state_of records given) hints lits ≢ None
end-fault records given lits hints falses place r come le e =
    let fault : hints_fault (state_of records given) hints lits ≡ Some NoConflict =
    ap (λ (hs : List ℕ). hints_fault (state_of records given) hs lits) (sym (take-append-drop place hints))
    ∙ come.left (state_of records given) (HoldsRecords-state records given r) (drop place hints)
    ∙ ap (λ (hs : List ℕ). hints_fault (state_of records given) hs falses) (drop_all place hints le) in
    let clash : Some NoConflict ≡ None = sym fault ∙ e in
    cc

-- a clause that was stored is the live one of its id
pub live-stored : (l : Learner) (lits clause : List ℕ) (at id : ℕ) → IsLearner l → IsStored l.trail clause at → clause ≡ lits → id ≡ (record_at l.trail.records at).id → MatchOption (live_clause (solver_state l).state id) ⊥ (SameLits lits)
live-stored l lits clause at id s stored same is =
    let found : live_clause (state_of l.trail.records l.given) id ≡ Some (record_at l.trail.records at).lits =
    ap (live_clause (state_of l.trail.records l.given)) is ∙ live-at l.trail.records l.given at s.records stored.within in
    let P : Option (List ℕ) → Type 0 = λ o. MatchOption o ⊥ (SameLits lits) in
    let here : P (Some (record_at l.trail.records at).lits) = subst (λ (c : List ℕ). SameLits c (record_at l.trail.records at).lits) same (SameLits-permuted clause (record_at l.trail.records at).lits stored.lits_are) in
    subst P (sym found) here

-- the public part by the parts that it is made of
solver_state_by : TrailState → ℕ → List Line → SolverState
solver_state_by t given waiting = record {
  variables = t.variables;
  state = state_of t.records given;
  waiting = waiting;
  idle = idle_of t.places t.records given;
  assigned = map (λ p. p.lit) t.places;
}

-- it stays where these stay
pub solver_state-held : (old new : Learner) → new.trail ≡ old.trail → new.given ≡ old.given → new.waiting.items ≡ old.waiting.items → solver_state new ≡ solver_state old
unfolding solver_state_by
solver_state-held old new trail given waiting =
    ap (λ (t : TrailState). solver_state_by t new.given new.waiting.items) trail
    ∙ ap (λ (n : ℕ). solver_state_by old.trail n new.waiting.items) given
    ∙ ap (solver_state_by old.trail old.given) waiting

-- the line of one derived clause more
pub AddsLine-noted : (old new : Learner) (lits hints : List ℕ) (at id : ℕ) → IsLearner old → Adds old.trail new.trail lits id → at ≡ length old.trail.records → id ≡ old.last + 1 → new.waiting.items ≡ old.waiting.items ++ Derive id lits hints ∷ [] → AddsLine (solver_state old) (solver_state new) lits hints (record_at new.trail.records at).id
AddsLine-noted old new lits hints at id s adds first fresh waiting =
    let there : record_at (old.trail.records ++ new_record id lits ∷ []) at ≡ new_record id lits =
    ap (record_at (old.trail.records ++ new_record id lits ∷ [])) first ∙ record_at-new old.trail.records (new_record id lits) in
    let same : id ≡ (record_at new.trail.records at).id = ap (λ (r : Record). r.id) (sym there) ∙ sym (adds.records.each at).id in
    record {
      fresh = fresh-free old.trail.records old.given old.last (record_at new.trail.records at).id s.records s.last (omega (arith, same));
      waits = waiting ∙ ap (λ (i : ℕ). old.waiting.items ++ Derive i lits hints ∷ []) same;
    }
