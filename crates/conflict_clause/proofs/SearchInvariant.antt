-- What looking at a place keeps.
use Rattle.std.proofs.Common.{◌≡◌, ◌∙◌, ℕ, ◌+◌, ◌<◌, ◌≤◌, Bool, true, false, List, [], ◌∷◌, ◌++◌, length, get_or, reverse, Some, None, refl, sym, ap, subst, arith, inl, inr}
use Rattle.std.specs.List.{Contains}
use Rattle.std.proofs.lemmas.Bool.{cases_eq, true≢false}
use Rattle.std.proofs.lemmas.List.{reverse-append}
use Rattle.std.proofs.lemmas.List.Elements.{Contains-append_left, Contains-push, Contains-push_cases}
use Rattle.lits_core.specs.Literals.{negation_of, variable_of}
use Rattle.lits_core.specs.Derivation.{has_lit, hints_fault}
use Rattle.lits_core.proofs.LiteralLemmas.{variable_of-negation, negation-negation}
use Rattle.clause_arena.specs.Records.{Record, record_at}
use Rattle.watch_arena.specs.Places.{place_at}
use Rattle.watch_arena.specs.Trails.{TrailState, IsTrail}
use Rattle.conflict_clause.specs.declared.analysis.Analysis.{Analysis}
use Rattle.conflict_clause.specs.Taught.{IsLiveId}
use Rattle.conflict_clause.specs.Search.{IsLooking, Sees, Covers, IsSearch, Finds, is_seen}
use Rattle.conflict_clause.proofs.AtPlaces.{false_below}
use Rattle.conflict_clause.proofs.SeenLits.{IsSeenList-same}
use Rattle.conflict_clause.proofs.UnitHint.{has_lit-first, has_lit-rest, hints-unit}

-- one hint more, last one first
pub reverse_push : (hints : List ℕ) (hint : ℕ) → reverse (hints ++ hint ∷ []) ≡ hint ∷ reverse hints
reverse_push hints hint = reverse-append hints (hint ∷ [])

-- the ids of live records, and one more
pub of_live_push : (records : List Record) (hints : List ℕ) (at : ℕ) → (record_at records at).live ≡ true → ((hint : ℕ) → Contains hints hint → IsLiveId records hint) → (hint : ℕ) → Contains (hints ++ (record_at records at).id ∷ []) hint → IsLiveId records hint
of_live_push records hints at live old hint c =
    elim (Contains-push_cases hints (record_at records at).id hint c) [
      | inl before ↦ old hint before
      | inr new ↦ record { at = at; live = live; named = new }
    ]

-- a literal that is false by a place below p, and was seen, is held false by what covers the places below p
pub covered : (t : TrailState) (p m : ℕ) (n : Analysis) (lits : List ℕ) → Covers t p n lits → is_seen n (variable_of m) ≡ true → (q : ℕ) × (q < p) × ((place_at t.places q).lit ≡ negation_of m) → has_lit lits m ≡ true
covered t p m n lits covers seen at =
    let same : variable_of m ≡ variable_of (place_at t.places at.0).lit = sym (ap variable_of at.2 ∙ variable_of-negation m) in
    subst (λ (x : ℕ). has_lit lits x ≡ true) (ap negation_of at.2 ∙ negation-negation m)
    (covers.below at.0 at.1 (subst (λ (v : ℕ). is_seen n v ≡ true) same seen))

-- what covers the places below p covers one more, once the negation of its literal is held false too
covers-more : (t : TrailState) (level p : ℕ) (old new : Analysis) (lits : List ℕ) → Sees t level old new → Covers t p new lits → Covers t (p + 1) old (negation_of (place_at t.places p).lit ∷ lits)
covers-more t level p old new lits sees covers = record {
  kept = λ lit c. has_lit-rest _ lits lit (covers.kept lit (sees.kept lit c));
  below = λ q lt seen. elim (cases_eq q p) [
    | inl here ↦ subst (λ (n : ℕ). has_lit (negation_of (place_at t.places p).lit ∷ lits) (negation_of (place_at t.places n).lit) ≡ true) (sym here) (has_lit-first _ lits)
    | inr other ↦ has_lit-rest _ lits _ (covers.below q (omega arith) (sees.marks _ seen))
  ];
}

-- the place has a reason, whose literals were seen
pub IsSearch-resolved : (t : TrailState) (level p at : ℕ) (old new : Analysis) → IsTrail t → IsSearch t level (p + 1) old → (place_at t.places p).reason ≡ Some at → Sees t level old new → IsLooking t level new → ((lit : ℕ) → Contains (record_at t.records at).lits lit → is_seen new (variable_of lit) ≡ true) → new.hints.items ≡ old.hints.items ++ (record_at t.records at).id ∷ [] → IsSearch t level p new
IsSearch-resolved t level p at old new trail s reason sees looking seen hints =
    let within = s.within in
    let r = trail.reasons p at (omega arith) reason in
    record {
      looking = looking;
      within = omega arith;
      shown = λ state lits holds covers.
          let shown : hints_fault state ((record_at t.records at).id ∷ reverse old.hints.items) lits ≡ None = hints-unit state t.records at (place_at t.places p).lit (reverse old.hints.items) lits holds r.live
          (λ m c. elim (cases_eq m (place_at t.places p).lit) [
            | inl is ↦ inl is
            | inr ne ↦ inr (covered t p m new lits covers (seen m c) (false_below t.places p m (omega arith) (r.others m c ne)))
          ])
          (s.shown state (negation_of (place_at t.places p).lit ∷ lits) holds (covers-more t level p old new lits sees covers)) in
          subst (λ (hs : List ℕ). hints_fault state hs lits ≡ None) (sym (ap reverse hints ∙ reverse_push old.hints.items (record_at t.records at).id)) shown;
      of_live = subst (λ (hs : List ℕ). (hint : ℕ) → Contains hs hint → IsLiveId t.records hint) (sym hints) (of_live_push t.records old.hints.items at r.live s.of_live);
    }

-- the place was not seen
pub IsSearch-passed : (t : TrailState) (level p : ℕ) (n : Analysis) → IsSearch t level (p + 1) n → is_seen n (variable_of (place_at t.places p).lit) ≡ false → IsSearch t level p n
IsSearch-passed t level p n s off =
    let within = s.within in
    record {
      looking = s.looking;
      within = omega arith;
      shown = λ state lits holds covers. s.shown state lits holds (record {
        kept = covers.kept;
        below = λ q lt seen. elim (cases_eq q p) [
          | inl here ↦ absurd (true≢false (sym seen ∙ ap (λ (x : ℕ). is_seen n (variable_of (place_at t.places x).lit)) here ∙ off))
          | inr other ↦ covers.below q (omega arith) seen
        ];
      });
      of_live = s.of_live;
    }

-- the place was assumed, and the negation of its literal is kept
pub IsSearch-kept : (t : TrailState) (level p : ℕ) (old new : Analysis) → IsSearch t level (p + 1) old → new.marks ≡ old.marks → new.seen.items ≡ old.seen.items → new.hints.items ≡ old.hints.items → new.lowest ≡ old.lowest → new.lits.items ≡ old.lits.items ++ negation_of (place_at t.places p).lit ∷ [] → IsSearch t level p new
IsSearch-kept t level p old new s marks seen hints lowest lits =
    let within = s.within in
    let same : (v : ℕ) → is_seen new v ≡ is_seen old v = λ v. ap (λ (b : List Bool). get_or b v false) marks in
    let has : (lit : ℕ) → Contains old.lits.items lit → Contains new.lits.items lit = λ lit c. subst (λ (xs : List ℕ). Contains xs lit) (sym lits) (Contains-append_left old.lits.items (negation_of (place_at t.places p).lit ∷ []) lit c) in
    let own : Contains new.lits.items (negation_of (place_at t.places p).lit) = subst (λ (xs : List ℕ). Contains xs (negation_of (place_at t.places p).lit)) (sym lits) (Contains-push old.lits.items (negation_of (place_at t.places p).lit)) in
    record {
      looking = record {
        seen_list = IsSeenList-same old new t.variables t.variables s.looking.seen_list marks seen refl;
        left = λ q lt m. elim (s.looking.left q lt (sym (same _) ∙ m)) [
          | inl c ↦ inl (has _ c)
          | inr late ↦ inr (omega arith)
        ];
        at_level = λ lt. subst (λ (n : ℕ). level ≤ (place_at t.places n).level) (sym lowest) (s.looking.at_level (omega arith));
      };
      within = omega arith;
      shown = λ state falses holds covers.
          subst (λ (hs : List ℕ). hints_fault state (reverse hs) falses ≡ None) (sym hints)
          (s.shown state falses holds (record {
            kept = λ lit c. covers.kept lit (has lit c);
            below = λ q lt m. elim (cases_eq q p) [
              | inl here ↦ subst (λ (n : ℕ). has_lit falses (negation_of (place_at t.places n).lit) ≡ true) (sym here) (covers.kept _ own)
              | inr other ↦ covers.below q (omega arith) (same _ ∙ m)
            ];
          }));
      of_live = subst (λ (hs : List ℕ). (hint : ℕ) → Contains hs hint → IsLiveId t.records hint) (sym hints) s.of_live;
    }

-- what was found so far, and one place more
pub Finds-refl : (t : TrailState) (level p : ℕ) (n : Analysis) → Finds t level p n n
Finds-refl t level p n = record { added = λ lit c. inl c; lowest = omega arith }

pub Finds-more : (t : TrailState) (level p q : ℕ) (a b c : Analysis) → q ≤ p → Finds t level p a b → Finds t level q b c → Finds t level q a c
Finds-more t level p q a b c le f g = let low = f.lowest in let lower = g.lowest in record {
  added = λ lit h. elim (g.added lit h) [
    | inl old ↦ elim (f.added lit old) [
      | inl first ↦ inl first
      | inr later ↦ inr (elim later [
        | inl below ↦ inl below
        | inr at ↦ inr (let high = at.from_p in record { place = at.place; from_p = omega arith; within = at.within; assumed = at.assumed; is = at.is })
      ])
    ]
    | inr new ↦ inr new
  ];
  lowest = omega arith;
}

-- an assumed place whose literal's negation was kept
pub Finds-kept : (t : TrailState) (level p : ℕ) (old new : Analysis) → p < length t.places → (place_at t.places p).reason ≡ None → new.lowest ≡ old.lowest → new.lits.items ≡ old.lits.items ++ negation_of (place_at t.places p).lit ∷ [] → Finds t level p old new
Finds-kept t level p old new lt assumed lowest lits = record {
  added = λ lit h. elim (Contains-push_cases old.lits.items (negation_of (place_at t.places p).lit) lit (subst (λ (xs : List ℕ). Contains xs lit) lits h)) [
    | inl before ↦ inl before
    | inr new ↦ inr (inr (record { place = p; from_p = omega arith; within = lt; assumed = assumed; is = sym new }))
  ];
  lowest = omega arith;
}

-- what meeting literals finds
pub Finds-seen : (t : TrailState) (level p : ℕ) (old new : Analysis) → Sees t level old new → Finds t level p old new
Finds-seen t level p old new sees = record {
  added = λ lit c. elim (sees.added lit c) [
    | inl before ↦ inl before
    | inr lower ↦ inr (inl lower)
  ];
  lowest = sees.lowest;
}
