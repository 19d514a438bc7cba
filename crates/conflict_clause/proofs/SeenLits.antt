-- What meeting literals keeps.
use Rattle.std.proofs.Common.{◌≡◌, ◌≢◌, ◌∙◌, ◌⊎◌, ℕ, ◌<◌, ◌≤◌, Bool, true, false, true≢false, List, [], ◌∷◌, ◌++◌, length, get_or, set, min, Some, sym, ap, subst, arith, inl, inr}
use Rattle.std.specs.List.{All, Contains}
use Rattle.std.proofs.lemmas.Bool.{cases_Bool, cases_eq, cases_lt}
use Rattle.std.proofs.lemmas.List.{get_or-set_other, get_or-set_same}
use Rattle.std.proofs.lemmas.List.Elements.{Contains-append_left, Contains-push, Contains-push_cases}
use Rattle.lits_core.specs.Literals.{negation_of, variable_of}
use Rattle.lits_core.proofs.LiteralLemmas.{variable_of-negation, negation-negation}
use Rattle.clause_arena.specs.Records.{Record, record_at}
use Rattle.watch_arena.specs.declared.places.Place.{Place}
use Rattle.watch_arena.specs.Places.{place_at, is_false}
use Rattle.watch_arena.specs.Trails.{TrailState, IsTrail}
use Rattle.conflict_clause.specs.declared.analysis.Analysis.{Analysis}
use Rattle.conflict_clause.specs.Search.{IsSeenList, IsClear, IsLooking, IsLower, Sees, is_seen}
use Rattle.conflict_clause.proofs.AtPlaces.{place-once, false_below, false_from, level_in-place}

-- the marks and the list of the seen variables stay
pub IsSeenList-same : (old new : Analysis) (a b : ℕ) → IsSeenList old a → new.marks ≡ old.marks → new.seen.items ≡ old.seen.items → a ≡ b → IsSeenList new b
IsSeenList-same old new a b n marks seen same = record {
  size = ap length marks ∙ n.size ∙ same;
  listed = λ v m. subst (λ (xs : List ℕ). Contains xs v) (sym seen) (n.listed v (ap (λ (bs : List Bool). get_or bs v false) (sym marks) ∙ m));
  in_range = subst (λ (k : ℕ). All (λ (v : ℕ). v < k) new.seen.items) same (subst (λ (xs : List ℕ). All (λ (v : ℕ). v < a) xs) (sym seen) n.in_range);
}

-- where one variable more was seen, a place of another one was seen before
other_seen : (marks : List Bool) (v w : ℕ) → w ≢ v → get_or (set marks v true) w false ≡ true → get_or marks w false ≡ true
other_seen marks v w ne h = sym (get_or-set_other marks v w true false ne) ∙ h

-- a variable that was marked is seen, and those that were seen before are so still
pub is_seen-marked : (old new : Analysis) (v : ℕ) → new.marks ≡ set old.marks v true → v < length old.marks → is_seen new v ≡ true
is_seen-marked old new v is lt = ap (λ (bs : List Bool). get_or bs v false) is ∙ get_or-set_same old.marks v true false lt

still_seen : (old new : Analysis) (v w : ℕ) → new.marks ≡ set old.marks v true → v < length old.marks → is_seen old w ≡ true → is_seen new w ≡ true
still_seen old new v w is lt seen = elim (cases_eq w v) [
  | inl same ↦ subst (λ (u : ℕ). is_seen new u ≡ true) (sym same) (is_seen-marked old new v is lt)
  | inr other ↦ ap (λ (bs : List Bool). get_or bs w false) is ∙ get_or-set_other old.marks v w true false other ∙ seen
]

-- a literal that is seen or false, and was not seen, is false
pub false_unseen : (places : List Place) (n : Analysis) (lit : ℕ) → (is_seen n (variable_of lit) ≡ true) ⊎ (is_false places lit ≡ true) → is_seen n (variable_of lit) ≡ false → is_false places lit ≡ true
false_unseen places n lit either unseen = elim either [
  | inl seen ↦ absurd (true≢false (sym seen ∙ unseen))
  | inr off ↦ off
]

-- a literal was seen and is kept
pub IsLooking-kept : (t : TrailState) (level : ℕ) (old new : Analysis) (lit q : ℕ) → IsTrail t → IsLooking t level old → IsSeenList new t.variables → new.marks ≡ set old.marks (variable_of lit) true → new.lits.items ≡ old.lits.items ++ lit ∷ [] → new.lowest ≡ old.lowest → q < length t.places → (place_at t.places q).lit ≡ negation_of lit → IsLooking t level new
IsLooking-kept t level old new lit q trail l seen_list marks lits lowest lt is = record {
  seen_list = seen_list;
  left = λ p within m. elim (cases_eq (variable_of (place_at t.places p).lit) (variable_of lit)) [
    | inl same ↦
        let here : p ≡ q = place-once t p q trail within lt (same ∙ sym (ap variable_of is ∙ variable_of-negation lit)) in
        let back : lit ≡ negation_of (place_at t.places p).lit = sym (ap (λ (n : ℕ). negation_of (place_at t.places n).lit) here ∙ ap negation_of is ∙ negation-negation lit) in
        inl (subst (λ (x : ℕ). Contains new.lits.items x) back (subst (λ (xs : List ℕ). Contains xs lit) (sym lits) (Contains-push old.lits.items lit)))
    | inr other ↦
        elim (l.left p within (other_seen old.marks (variable_of lit) (variable_of (place_at t.places p).lit) other (subst (λ (b : List Bool). get_or b (variable_of (place_at t.places p).lit) false ≡ true) marks m))) [
          | inl has ↦ inl (subst (λ (xs : List ℕ). Contains xs (negation_of (place_at t.places p).lit)) (sym lits) (Contains-append_left old.lits.items (lit ∷ []) (negation_of (place_at t.places p).lit) has))
          | inr late ↦ inr (omega arith)
        ]
  ];
  at_level = λ within. subst (λ (n : ℕ). level ≤ (place_at t.places n).level) (sym lowest) (l.at_level (omega arith));
}

-- a literal was seen, and its place is to be looked at
pub IsLooking-lowered : (t : TrailState) (level : ℕ) (old new : Analysis) (lit q : ℕ) → IsTrail t → IsLooking t level old → IsSeenList new t.variables → new.marks ≡ set old.marks (variable_of lit) true → new.lits.items ≡ old.lits.items → new.lowest ≡ min old.lowest q → q < length t.places → (place_at t.places q).lit ≡ negation_of lit → level ≤ (place_at t.places q).level → IsLooking t level new
IsLooking-lowered t level old new lit q trail l seen_list marks lits lowest lt is high = record {
  seen_list = seen_list;
  left = λ p within m. elim (cases_eq (variable_of (place_at t.places p).lit) (variable_of lit)) [
    | inl same ↦
        let here : p ≡ q = place-once t p q trail within lt (same ∙ sym (ap variable_of is ∙ variable_of-negation lit)) in
        inr (omega arith)
    | inr other ↦
        elim (l.left p within (other_seen old.marks (variable_of lit) (variable_of (place_at t.places p).lit) other (subst (λ (b : List Bool). get_or b (variable_of (place_at t.places p).lit) false ≡ true) marks m))) [
          | inl has ↦ inl (subst (λ (xs : List ℕ). Contains xs (negation_of (place_at t.places p).lit)) (sym lits) has)
          | inr late ↦ inr (omega arith)
        ]
  ];
  at_level = λ within. elim (cases_lt old.lowest q) [
    | inl before ↦
        let now : new.lowest ≡ old.lowest = omega arith in
        subst (λ (n : ℕ). level ≤ (place_at t.places n).level) (sym now) (l.at_level (omega arith))
    | inr after ↦
        let now : new.lowest ≡ q = omega arith in
        subst (λ (n : ℕ). level ≤ (place_at t.places n).level) (sym now) high
  ];
}

-- a literal of a lower level was seen and is kept
pub Sees-kept : (t : TrailState) (level : ℕ) (old new : Analysis) (lit q : ℕ) → IsTrail t → new.marks ≡ set old.marks (variable_of lit) true → variable_of lit < length old.marks → new.lits.items ≡ old.lits.items ++ lit ∷ [] → new.lowest ≡ old.lowest → is_false t.places lit ≡ true → q < length t.places → (place_at t.places q).lit ≡ negation_of lit → (place_at t.places q).level < level → Sees t level old new
Sees-kept t level old new lit q trail marks lt lits lowest off within is low = record {
  marks = λ w seen. still_seen old new (variable_of lit) w marks lt seen;
  kept = λ other c. subst (λ (xs : List ℕ). Contains xs other) (sym lits) (Contains-append_left old.lits.items (lit ∷ []) other c);
  added = λ other c. elim (Contains-push_cases old.lits.items lit other (subst (λ (xs : List ℕ). Contains xs other) lits c)) [
    | inl before ↦ inl before
    | inr same ↦ inr (let at = level_in-place t q lit trail within is in subst (λ (x : ℕ). IsLower t level x) same (record { off = off; below = omega arith }))
  ];
  lowest = omega arith;
}

-- a literal was seen, and its place is to be looked at
pub Sees-lowered : (t : TrailState) (level : ℕ) (old new : Analysis) (lit q : ℕ) → new.marks ≡ set old.marks (variable_of lit) true → variable_of lit < length old.marks → new.lits.items ≡ old.lits.items → new.lowest ≡ min old.lowest q → Sees t level old new
Sees-lowered t level old new lit q marks lt lits lowest = record {
  marks = λ w seen. still_seen old new (variable_of lit) w marks lt seen;
  kept = λ other c. subst (λ (xs : List ℕ). Contains xs other) (sym lits) c;
  added = λ other c. inl (subst (λ (xs : List ℕ). Contains xs other) lits c);
  lowest = omega arith;
}

-- meeting goes on
pub Sees-refl : (t : TrailState) (level : ℕ) (n : Analysis) → Sees t level n n
Sees-refl t level n = record { marks = λ v m. m; kept = λ lit c. c; added = λ lit c. inl c; lowest = omega arith }

pub Sees-trans : (t : TrailState) (level : ℕ) (a b c : Analysis) → Sees t level a b → Sees t level b c → Sees t level a c
Sees-trans t level a b c f g = let low = f.lowest in let lower = g.lowest in record {
  marks = λ v m. g.marks v (f.marks v m);
  kept = λ lit h. g.kept lit (f.kept lit h);
  added = λ lit h. elim (g.added lit h) [
    | inl old ↦ f.added lit old
    | inr below ↦ inr below
  ];
  lowest = omega arith;
}

-- after the listed variables are marked as not seen, none is seen
pub IsClear-unmarked : (old new : Analysis) (variables : ℕ) → IsSeenList old variables → length new.marks ≡ length old.marks → new.seen.items ≡ old.seen.items → ((v : ℕ) → is_seen new v ≡ true → is_seen old v ≡ true) → ((v : ℕ) → Contains old.seen.items v → is_seen new v ≡ false) → IsClear new variables
IsClear-unmarked old new variables n size seen only none = record {
  size = size ∙ n.size;
  none = λ v. elim (cases_Bool (is_seen new v)) [
    | inl on ↦ none v (n.listed v (only v on))
    | inr off ↦ off
  ];
  in_range = subst (λ (xs : List ℕ). All (λ (v : ℕ). v < variables) xs) (sym seen) n.in_range;
}

-- the literals of a reason whose own literal was seen are seen or false
pub reason-off : (t : TrailState) (p at lit : ℕ) (n : Analysis) → IsTrail t → p < length t.places → (place_at t.places p).reason ≡ Some at → is_seen n (variable_of (place_at t.places p).lit) ≡ true → Contains (record_at t.records at).lits lit → (is_seen n (variable_of lit) ≡ true) ⊎ (is_false t.places lit ≡ true)
reason-off t p at lit n trail lt reason seen has =
    elim (cases_eq lit (place_at t.places p).lit) [
      | inl is ↦ inl (subst (λ (x : ℕ). is_seen n (variable_of x) ≡ true) (sym is) seen)
      | inr ne ↦
          let off = false_below t.places p lit (omega arith) ((trail.reasons p at lt reason).others lit has ne) in
          let below = off.1 in
          inr (false_from t.places off.0 lit (omega arith) off.2)
    ]

-- the literal that was read, by the records
pub literal : (lit code : ℕ) (arena records : List Record) (at k : ℕ) → lit ≡ code → code ≡ get_or (record_at arena at).lits k 0 → arena ≡ records → lit ≡ get_or (record_at records at).lits k 0
literal lit code arena records at k e f g = e ∙ f ∙ ap (λ (rs : List Record). get_or (record_at rs at).lits k 0) g
