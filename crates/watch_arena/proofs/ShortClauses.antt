-- What comes of the visit of a short clause.
use Rattle.std.proofs.Common.{◌≡◌, ◌∙◌, ◌⊎◌, ℕ, ◌+◌, ◌*◌, ◌<◌, ◌≤◌, Bool, true, false, List, length, get_or, set, Option, Some, None, refl, sym, ap, subst, arith, inl, inr, add-zero, get_or-set_same}
use Rattle.std.specs.Bool.{MatchBool}
use Rattle.std.specs.List.{Contains}
use Rattle.std.specs.Prelude.{nat_eq, MatchOption}
use Rattle.std.proofs.lemmas.Grind.{common_steps}
use borrow.Author.Tests.{eqb-true}
use Rattle.lits_core.specs.Literals.{negation_of}
use Rattle.clause_arena.specs.Records.{record_at}
use Rattle.watch_arena.specs.declared.places.Place.{Place}
use Rattle.watch_arena.specs.declared.engine.Engine.{Engine}
use Rattle.watch_arena.specs.Places.{level_of, is_assumed}
use Rattle.watch_arena.specs.Engines.{mark_of, TrueBelow, IsReasonBelow, IsWatched, IsShort, IsShortMet, CanAssign, IsEngine, IsFalse, IsDone, Advances, with_place}
use Rattle.watch_arena.proofs.WatchedPair.{contains_at, index_of}
use Rattle.watch_arena.proofs.EngineInvariant.{IsEngine-marked, IsEngine-first_advanced, lit-in_range}
use Rattle.watch_arena.proofs.WatchVisit.{TrueBelow-all, Visits-marked, Advances-visits, HasRoom-from_can, mark_within, level_of-push, not_positive}

-- a clause of fewer than two literals
pub IsShort-few : (lits : List ℕ) → length lits < 2 → IsShort lits
IsShort-few lits few k lt = let z : k ≡ 0 = omega arith in ap (λ (n : ℕ). get_or lits n 0) z

-- whether the first two are one tells it
pub IsShort-test : (lits : List ℕ) → 2 ≤ length lits → IsShort lits ⊎ IsWatched lits (get_or lits 0 0) (get_or lits 1 0) → MatchBool (nat_eq (get_or lits 0 0) (get_or lits 1 0)) (IsShort lits) (IsShort lits → ⊥)
IsShort-test lits two kind =
    let go : (b : Bool) → nat_eq (get_or lits 0 0) (get_or lits 1 0) ≡ b → MatchBool b (IsShort lits) (IsShort lits → ⊥) = λ b. elim b as (λ b. nat_eq (get_or lits 0 0) (get_or lits 1 0) ≡ b → MatchBool b (IsShort lits) (IsShort lits → ⊥)) [
      | true ↦ λ on. elim kind [ inl short ↦ short | inr w ↦ absurd (w.differ (eqb-true (get_or lits 0 0) (get_or lits 1 0) on)) ]
      | false ↦ λ off. λ short.
          let same : get_or lits 0 0 ≡ get_or lits 1 0 = sym (short 1 two) in
          absurd (let on : nat_eq (get_or lits 0 0) (get_or lits 1 0) ≡ true = grind (arith, common_steps) in let clash : true ≡ false = sym on ∙ off in cc)
    ] in
    go (nat_eq (get_or lits 0 0) (get_or lits 1 0)) refl

-- each literal of a short clause is the first
pub short_lit : (lits : List ℕ) (m : ℕ) → IsShort lits → Contains lits m → get_or lits 0 0 ≡ m
short_lit lits m short c = let entry = index_of lits m c in sym (short entry.0 entry.1) ∙ entry.2

-- a short clause whose literal is true
pub IsShortMet-true : (e : Engine) (at lit : ℕ) → IsEngine e → 0 < length (record_at e.arena at).lits → lit ≡ get_or (record_at e.arena at).lits 0 0 → 0 < mark_of e.marks lit → IsShortMet e at
IsShortMet-true e at lit s some is pos live short =
    (some, subst (λ (l : ℕ). TrueBelow e.marks (length e.places.list) l) is (TrueBelow-all e lit s pos))

-- a short clause whose literal is false
pub IsFalse-from_short : (e : Engine) (at lit : ℕ) → (record_at e.arena at).live ≡ true → IsShort (record_at e.arena at).lits → lit ≡ get_or (record_at e.arena at).lits 0 0 → 0 < mark_of e.marks (negation_of lit) → IsFalse e at
IsFalse-from_short e at lit live short is pos = record {
  live = live;
  all_false = λ m c.
      let P : ℕ → Type 0 = λ l. 0 < mark_of e.marks (negation_of l) in
      subst P (is ∙ short_lit (record_at e.arena at).lits m short c) pos;
}

-- a clause with no literal is false
pub IsFalse-from_empty : (e : Engine) (at : ℕ) → (record_at e.arena at).live ≡ true → length (record_at e.arena at).lits ≡ 0 → IsFalse e at
IsFalse-from_empty e at live none = record {
  live = live;
  all_false = λ m c. let lt = c.1 in absurd (omega arith);
}

-- the literal of a short clause may become true
pub CanAssign-from_short : (e : Engine) (at lit level : ℕ) → IsEngine e → (record_at e.arena at).live ≡ true → IsShort (record_at e.arena at).lits → 0 < length (record_at e.arena at).lits → lit ≡ get_or (record_at e.arena at).lits 0 0 → (0 < mark_of e.marks lit → false ≡ true) → (0 < mark_of e.marks (negation_of lit) → false ≡ true) → level ≡ level_of e.places.list → CanAssign e (record { lit = lit; level = level; reason = Some at })
CanAssign-from_short e at lit level s live short some is not_true not_false at_level = record {
  range = (lit-in_range e at 0 lit s some is).0;
  not_true = not_positive (mark_of e.marks lit) not_true;
  not_false = not_positive (mark_of e.marks (negation_of lit)) not_false;
  level = at_level ∙ sym (level_of-push e.places.list (record { lit = lit; level = level; reason = Some at }) ∙ add-zero (level_of e.places.list));
  reason = λ b same.
      let is_at : at ≡ b = (let inj : ◌≡◌ {A = Option ℕ} (Some at) (Some b) = same in cc) in
      subst (λ (r : ℕ). IsReasonBelow (record_at e.arena r) e.marks (length e.places.list) lit) is_at (record {
        live = live;
        has = contains_at (record_at e.arena at).lits 0 lit some (sym is);
        others = λ m c ne. absurd (ne (sym (is ∙ short_lit (record_at e.arena at).lits m short c)));
      });
}

-- one more implied place
pub Advances-marked : (e : Engine) (p : Place) → IsEngine e → CanAssign e p → is_assumed p ≡ false → Advances e (with_place e p)
Advances-marked e p s m implied = Advances-visits e (with_place e p) 0 (Visits-marked e p 0 s m implied)

-- the literal is true then
pub mark-marked : (e : Engine) (p : Place) → IsEngine e → CanAssign e p → 0 < mark_of (set e.marks p.lit (length e.places.list + 1)) p.lit
mark-marked e p s m =
    let here : mark_of (set e.marks p.lit (length e.places.list + 1)) p.lit ≡ length e.places.list + 1 = get_or-set_same e.marks p.lit (length e.places.list + 1) 0 (mark_within e p.lit s m.range) in omega arith

pub IsShortMet-marked : (e : Engine) (at : ℕ) (p : Place) → IsEngine e → CanAssign e p → 0 < length (record_at e.arena at).lits → p.lit ≡ get_or (record_at e.arena at).lits 0 0 → IsShortMet (with_place e p) at
IsShortMet-marked e at p s m some is =
    IsShortMet-true (with_place e p) at p.lit (IsEngine-marked e p s m (HasRoom-from_can e p s m).below) some is (mark-marked e p s m)

-- a literal may be assumed
pub CanAssign-assumed : (e : Engine) (lit level : ℕ) → lit < 2 * e.variables → mark_of e.marks lit ≡ 0 → mark_of e.marks (negation_of lit) ≡ 0 → level ≡ level_of e.places.list + 1 → CanAssign e (record { lit = lit; level = level; reason = None })
CanAssign-assumed e lit level range not_true not_false is = record {
  range = range;
  not_true = not_true;
  not_false = not_false;
  level = is ∙ sym (level_of-push e.places.list (record { lit = lit; level = level; reason = None }));
  reason = λ at none. absurd (let clash : ◌≡◌ {A = Option ℕ} None (Some at) = none in cc);
}

-- a short clause was met
pub IsEngine-met : (old new : Engine) (at : ℕ) → Advances old new → old.first < length old.shorts → at ≡ get_or old.shorts old.first 0 → IsShortMet new at → IsEngine (record new { first = new.first + 1 })
IsEngine-met old new at a below is met =
    let same : new.shorts ≡ old.shorts = a.implies.shorts in
    let size = ap length same in
    let first = a.first in
    let entry : at ≡ get_or new.shorts new.first 0 = is ∙ ap (λ (xs : List ℕ). get_or xs old.first 0) (sym same) ∙ ap (λ (n : ℕ). get_or new.shorts n 0) (sym first) in
    IsEngine-first_advanced new a.sound (omega arith) (subst (λ (r : ℕ). IsShortMet new r) entry met)

-- all short clauses were met, and the places to the end
pub IsDone-from : (mid new : Engine) → Advances mid new → mid.first ≡ length mid.shorts → new.queue_head ≡ length new.places.list → IsDone new
IsDone-from mid new a first queue_head =
    let size = ap length a.implies.shorts in
    let same = a.first in
    record { queue_head = queue_head; first = omega arith }

-- what came of it, whatever it is
pub outcome_done : {H D : Type 0} (F : ℕ → Type 0) (o : Option ℕ) → (H → D) → MatchOption o H F → MatchOption o D F
outcome_done F None done p = done p
outcome_done F (Some at) done p = p
