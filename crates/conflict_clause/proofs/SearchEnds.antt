-- Where a search begins, and what it has shown at its end.
use Rattle.std.proofs.Common.{◌≡◌, ◌∙◌, ◌⊎◌, ℕ, ◌+◌, ◌<◌, ◌≤◌, true, List, [], ◌∷◌, length, get_or, reverse, Option, Some, None, refl, sym, ap, subst, arith, inl, inr}
use Rattle.std.specs.Prelude.{MatchOption, slice_get}
use Rattle.std.specs.List.{Contains}
use Rattle.std.proofs.lemmas.Bool.{cases_eq}
use Rattle.std.proofs.lemmas.List.{reverse-reverse}
use Rattle.std.proofs.lemmas.List.Elements.{Contains-append_left, Contains-append_right, Contains-append_cases, Contains-push, Contains-push_cases}
use Rattle.std.proofs.lemmas.List.Sorted.{IsPermutation-reverse, IsPermutation-sym, Contains-permutation}
use Rattle.lits_core.specs.Literals.{negation_of, variable_of}
use Rattle.lits_core.specs.Derivation.{has_lit, hints_fault}
use Rattle.lits_core.proofs.LiteralLemmas.{variable_of-negation, negation-negation}
use Rattle.clause_arena.specs.Records.{record_at}
use Rattle.watch_arena.specs.Places.{place_at, is_false, is_false_clause}
use Rattle.watch_arena.specs.Trails.{TrailState, IsTrail, IsConflict, AreInRange}
use Rattle.watch_arena.proofs.ByIndex.{and_from, list_all_from}
use Rattle.watch_arena.proofs.WatchedPair.{contains_at}
use Rattle.conflict_clause.specs.declared.analysis.Analysis.{Analysis}
use Rattle.conflict_clause.specs.Taught.{IsLiveId, IsTaught, IsLearnt, IsClosing, level_in}
use Rattle.conflict_clause.specs.Search.{IsLooking, IsLower, Sees, Covers, IsSearch, IsAssumedFrom, Finds, IsReached, IsArranged, is_seen}
use Rattle.conflict_clause.proofs.AtPlaces.{false_at, false_below, false_from, each_false, level_in-place, false_in_range, level-later, level-most, is_decided-at}
use Rattle.conflict_clause.proofs.UnitHint.{has_lit-Contains, has_lit-first, has_lit-rest, hints-false}
use Rattle.conflict_clause.proofs.SearchInvariant.{covered, of_live_push}

-- no literal is among none
pub none_in : (lits : List ℕ) (lit : ℕ) → lits ≡ [] → Contains lits lit → ⊥
none_in lits lit e c = let has : Contains {X = ℕ} [] lit = subst (λ (xs : List ℕ). Contains xs lit) e c in let lt = has.1 in absurd (omega arith)

-- what a list with a first element has
pub in_first : (first : ℕ) (lits : List ℕ) → Contains (first ∷ lits) first
in_first first lits = Contains-append_left (first ∷ []) lits first (Contains-push [] first)

pub in_rest : (first : ℕ) (lits : List ℕ) (lit : ℕ) → Contains lits lit → Contains (first ∷ lits) lit
in_rest first lits lit c = Contains-append_right (first ∷ []) lits lit c

pub in_cases : (first : ℕ) (lits : List ℕ) (lit : ℕ) → Contains (first ∷ lits) lit → (first ≡ lit) ⊎ Contains lits lit
in_cases first lits lit c = elim (Contains-append_cases (first ∷ []) lits lit c) [
  | inl one ↦ elim (Contains-push_cases [] first lit one) [
    | inl none ↦ absurd (none_in [] lit refl none)
    | inr same ↦ inl same
  ]
  | inr other ↦ inr other
]

-- the first literals seen are of lower levels
pub lower-first : (t : TrailState) (level : ℕ) (old new : Analysis) → Sees t level old new → old.lits.items ≡ [] → (lit : ℕ) → Contains new.lits.items lit → IsLower t level lit
lower-first t level old new sees empty lit c =
    elim (sees.added lit c) [
      | inl before ↦ absurd (none_in old.lits.items lit empty before)
      | inr lower ↦ lower
    ]

-- a false clause whose literals were seen
pub IsSearch-started : (t : TrailState) (level at : ℕ) (n : Analysis) → IsTrail t → IsConflict t at → IsLooking t level n → ((lit : ℕ) → Contains (record_at t.records at).lits lit → is_seen n (variable_of lit) ≡ true) → n.hints.items ≡ (record_at t.records at).id ∷ [] → IsSearch t level (length t.places) n
IsSearch-started t level at n trail conflict looking seen hints = record {
  looking = looking;
  within = omega arith;
  shown = λ state lits holds covers.
      subst (λ (hs : List ℕ). hints_fault state (reverse hs) lits ≡ None) (sym hints)
      (hints-false state t.records at [] lits holds conflict.live (λ m c.
      covered t (length t.places) m n lits covers (seen m c) (false_at t.places m (each_false t.places (record_at t.records at).lits m conflict.all_false c))));
  of_live = subst (λ (hs : List ℕ). (hint : ℕ) → Contains hs hint → IsLiveId t.records hint) (sym hints) (of_live_push t.records [] at conflict.live (λ hint c. absurd (none_in [] hint refl c)));
}

-- a literal that was seen at this level or above it has a place to be looked at
pub lowest-within : (t : TrailState) (level lit : ℕ) (n : Analysis) → IsTrail t → IsLooking t level n → ((m : ℕ) → Contains n.lits.items m → IsLower t level m) → is_false t.places lit ≡ true → is_seen n (variable_of lit) ≡ true → level ≤ level_in t.places lit → n.lowest < length t.places
lowest-within t level lit n trail looking lower off seen high =
    let at = false_at t.places lit off in
    let within = at.1 in
    let here : is_seen n (variable_of (place_at t.places at.0).lit) ≡ true = subst (λ (v : ℕ). is_seen n v ≡ true) (sym (ap variable_of at.2 ∙ variable_of-negation lit)) seen in
    elim (looking.left at.0 at.1 here) [
      | inl kept ↦
          let own : Contains n.lits.items lit = subst (λ (x : ℕ). Contains n.lits.items x) (ap negation_of at.2 ∙ negation-negation lit) kept in
          let below = (lower lit own).below in
          absurd (omega arith)
      | inr late ↦ omega arith
    ]

-- the reason of a place whose literal is kept, once the other literals were seen
pub IsSearch-below : (t : TrailState) (p at : ℕ) (n : Analysis) → IsTrail t → p < length t.places → (place_at t.places p).reason ≡ Some at → IsLooking t 0 n → ((lit : ℕ) → Contains (record_at t.records at).lits lit → is_seen n (variable_of lit) ≡ true) → Contains n.lits.items (place_at t.places p).lit → n.hints.items ≡ (record_at t.records at).id ∷ [] → IsSearch t 0 p n
IsSearch-below t p at n trail lt reason looking seen own hints =
    let r = trail.reasons p at lt reason in
    record {
      looking = looking;
      within = omega arith;
      shown = λ state lits holds covers.
          subst (λ (hs : List ℕ). hints_fault state (reverse hs) lits ≡ None) (sym hints)
          (hints-false state t.records at [] lits holds r.live (λ m c. elim (cases_eq m (place_at t.places p).lit) [
            | inl is ↦ subst (λ (x : ℕ). has_lit lits x ≡ true) (sym is) (covers.kept (place_at t.places p).lit own)
            | inr ne ↦ covered t p m n lits covers (seen m c) (false_below t.places p m (omega arith) (r.others m c ne))
          ]));
      of_live = subst (λ (hs : List ℕ). (hint : ℕ) → Contains hs hint → IsLiveId t.records hint) (sym hints) (of_live_push t.records [] at r.live (λ hint c. absurd (none_in [] hint refl c)));
    }

-- what has a literal in reverse has it
reversed : (hints : List ℕ) (hint : ℕ) → Contains (reverse hints) hint → Contains hints hint
reversed hints hint c = subst (λ (hs : List ℕ). Contains hs hint) (reverse-reverse hints) (Contains-permutation (reverse hints) (reverse (reverse hints)) hint (IsPermutation-reverse (reverse hints)) c)

-- a clause that covers what is below is taught
IsTaught-covers : (t : TrailState) (level p : ℕ) (n : Analysis) (lits hints : List ℕ) → IsSearch t level p n → Covers t p n lits → AreInRange lits t.variables → hints ≡ reverse n.hints.items → IsTaught t lits hints
IsTaught-covers t level p n lits hints s covers range is = record {
  shown = λ state holds. subst (λ (hs : List ℕ). hints_fault state hs lits ≡ None) (sym is) (s.shown state lits holds covers);
  of_live = λ hint c. s.of_live hint (reversed n.hints.items hint (subst (λ (hs : List ℕ). Contains hs hint) is c));
  in_range = range;
}

-- the variable of a literal that is false by an assumed place
assumed-in_range : (t : TrailState) (p lit : ℕ) → IsTrail t → IsAssumedFrom t p lit → variable_of lit < t.variables
assumed-in_range t p lit trail a =
    subst (λ (v : ℕ). v < t.variables) (sym (ap variable_of a.is ∙ variable_of-negation (place_at t.places a.place).lit)) (trail.places_in_range a.place a.within)

-- where no place is left to look at, the kept literals are the clause
pub IsClosing-ended : (t : TrailState) (stands : Option ℕ) (p : ℕ) (start n : Analysis) (lits hints : List ℕ) → IsTrail t → p ≤ n.lowest → IsSearch t 0 p n → Finds t 0 p start n → ((lit : ℕ) → Contains start.lits.items lit → (stands ≡ Some lit) × (variable_of lit < t.variables)) → lits ≡ n.lits.items → hints ≡ reverse n.hints.items → IsClosing t stands lits hints
IsClosing-ended t stands p start n lits hints trail low s f first are hints_are =
    let kept : (lit : ℕ) → Contains lits lit → Contains n.lits.items lit = λ lit c. subst (λ (xs : List ℕ). Contains xs lit) are c in
    let has : (lit : ℕ) → Contains n.lits.items lit → has_lit lits lit ≡ true = λ lit c. has_lit-Contains lits lit (subst (λ (xs : List ℕ). Contains xs lit) (sym are) c) in
    let within = s.within in
    record {
      taught = IsTaught-covers t 0 p n lits hints s (record {
        kept = has;
        below = λ q lt seen. elim (s.looking.left q (omega arith) seen) [
          | inl c ↦ has _ c
          | inr late ↦ absurd (omega arith)
        ];
      }) (λ lit c. elim (f.added lit (kept lit c)) [
        | inl before ↦ (first lit before).1
        | inr found ↦ elim found [
          | inl lower ↦ false_in_range t lit trail lower.off
          | inr assumed ↦ assumed-in_range t p lit trail assumed
        ]
      ]) hints_are;
      closed = λ lit c. elim (f.added lit (kept lit c)) [
        | inl before ↦ inl (first lit before).0
        | inr found ↦ elim found [
          | inl lower ↦ let none = lower.below in absurd (omega arith)
          | inr a ↦ inr (is_decided-at t.places a.place (negation_of lit) a.within a.assumed (sym (ap negation_of a.is ∙ negation-negation (place_at t.places a.place).lit)))
        ]
      ];
    }

-- the literals kept on the way to the lowest place of the level are of lower levels
all-lower : (t : TrailState) (level : ℕ) (start n : Analysis) → IsTrail t → level ≡ t.level → n.lowest < length t.places → IsLooking t level n → Finds t level (n.lowest + 1) start n → ((lit : ℕ) → Contains start.lits.items lit → IsLower t level lit) → (lit : ℕ) → Contains n.lits.items lit → IsLower t level lit
all-lower t level start n trail is lt looking f lower lit c =
    elim (f.added lit c) [
      | inl before ↦ lower lit before
      | inr found ↦ elim found [
        | inl new ↦ new
        | inr a ↦
            let after = a.from_p in
            let high = looking.at_level lt in
            let later = level-later t n.lowest a.place trail (omega arith) a.within a.assumed in
            let most = level-most t a.place trail a.within in
            absurd (omega arith)
      ]
    ]

-- all literals are false where each is
all_false-each : (t : TrailState) (lits : List ℕ) → ((lit : ℕ) → Contains lits lit → is_false t.places lit ≡ true) → is_false_clause t.places lits ≡ true
all_false-each t lits each = list_all_from (is_false t.places) lits 0 (λ k lt. each (get_or lits k 0) (contains_at lits k (get_or lits k 0) lt refl))

-- the highest level of the others is below the top
below-top : (t : TrailState) (others : List ℕ) (back top : ℕ) → MatchOption (slice_get others 0) (back ≡ 0) (λ lit. level_in t.places lit ≡ back) → 0 < top → ((lit : ℕ) → Contains others lit → level_in t.places lit < top) → back < top
below-top t [] back top second some each = omega arith
below-top t (lit ∷ others) back top second some each = let first = each lit (contains_at (lit ∷ others) 0 lit (omega arith) refl) in omega arith

-- where only the lowest place is left to look at, it is the point
pub IsReached-descended : (t : TrailState) (level : ℕ) (start n : Analysis) → IsTrail t → level ≡ t.level → n.lowest < length t.places → IsSearch t level (n.lowest + 1) n → Finds t level (n.lowest + 1) start n → ((lit : ℕ) → Contains start.lits.items lit → IsLower t level lit) → IsReached t n
IsReached-descended t level start n trail is lt s f lower =
    let high = s.looking.at_level lt in
    let most = level-most t n.lowest trail lt in
    record {
      within = lt;
      at_the_level = (omega arith);
      lower = λ lit c. subst (λ (k : ℕ). IsLower t k lit) is (all-lower t level start n trail is lt s.looking f lower lit c);
      shown = λ state falses holds has. s.shown state falses holds (record {
        kept = λ lit c. has lit (in_rest (negation_of (place_at t.places n.lowest).lit) n.lits.items lit c);
        below = λ q below seen. elim (s.looking.left q (omega arith) seen) [
          | inl c ↦ has _ (in_rest (negation_of (place_at t.places n.lowest).lit) n.lits.items _ c)
          | inr late ↦
              let here : q ≡ n.lowest = omega arith in
              subst (λ (k : ℕ). has_lit falses (negation_of (place_at t.places k).lit) ≡ true) (sym here) (has _ (in_first (negation_of (place_at t.places n.lowest).lit) n.lits.items))
        ];
      });
      of_live = s.of_live;
    }

-- the negation of the point's literal and the kept literals are the clause
pub IsLearnt-ended : (t : TrailState) (n : Analysis) (lits hints : List ℕ) (back : ℕ) → IsTrail t → 0 < t.level → IsReached t n → IsArranged t (negation_of (place_at t.places n.lowest).lit) n.lits.items lits back → hints ≡ reverse n.hints.items → IsLearnt t lits hints back
IsLearnt-ended t n lits hints back trail some reached a hints_are =
    let lt = reached.within in
    let is_point : (place_at t.places n.lowest).lit ≡ negation_of (negation_of (place_at t.places n.lowest).lit) = sym (negation-negation (place_at t.places n.lowest).lit) in
    let kept : (lit : ℕ) → Contains a.others lit → IsLower t t.level lit = λ lit c.
    reached.lower lit (Contains-permutation a.others n.lits.items lit (IsPermutation-sym n.lits.items a.others a.permuted) c) in
    let has : (lit : ℕ) → Contains (negation_of (place_at t.places n.lowest).lit ∷ n.lits.items) lit → has_lit lits lit ≡ true = λ lit c.
    subst (λ (xs : List ℕ). has_lit xs lit ≡ true) (sym a.split)
    (elim (in_cases (negation_of (place_at t.places n.lowest).lit) n.lits.items lit c) [
      | inl first ↦ subst (λ (x : ℕ). has_lit (negation_of (place_at t.places n.lowest).lit ∷ a.others) x ≡ true) first (has_lit-first (negation_of (place_at t.places n.lowest).lit) a.others)
      | inr other ↦ has_lit-rest (negation_of (place_at t.places n.lowest).lit) a.others lit (has_lit-Contains a.others lit (Contains-permutation n.lits.items a.others lit a.permuted other))
    ]) in
    let off_first : is_false t.places (negation_of (place_at t.places n.lowest).lit) ≡ true = false_from t.places n.lowest (negation_of (place_at t.places n.lowest).lit) lt is_point in
    let off : is_false_clause t.places lits ≡ true = subst (λ (xs : List ℕ). is_false_clause t.places xs ≡ true) (sym a.split)
    (and_from (is_false t.places (negation_of (place_at t.places n.lowest).lit)) (is_false_clause t.places a.others) off_first (all_false-each t a.others (λ lit c. (kept lit c).off))) in
    record {
      taught = record {
        shown = λ state holds. subst (λ (hs : List ℕ). hints_fault state hs lits ≡ None) (sym hints_are) (reached.shown state lits holds has);
        of_live = λ hint c. reached.of_live hint (reversed n.hints.items hint (subst (λ (hs : List ℕ). Contains hs hint) hints_are c));
        in_range = λ lit c. false_in_range t lit trail (each_false t.places lits lit off c);
      };
      all_false = off;
      first = negation_of (place_at t.places n.lowest).lit;
      others = a.others;
      split = a.split;
      at_the_level = level_in-place t n.lowest (negation_of (place_at t.places n.lowest).lit) trail lt is_point ∙ reached.at_the_level;
      up_to = a.up_to;
      below = below-top t a.others back t.level a.second some (λ lit c. (kept lit c).below);
    }

-- the literal behind the first one, in literals that are the arranged ones
pub second-arranged : (t : TrailState) (first : ℕ) (old new lits : List ℕ) (back : ℕ) → IsArranged t first old new back → lits ≡ new → MatchOption (slice_get lits 1) (back ≡ 0) (λ (lit : ℕ). level_in t.places lit ≡ back)
second-arranged t first old new lits back arranged same = subst (λ (xs : List ℕ). MatchOption (slice_get xs 1) (back ≡ 0) (λ (lit : ℕ). level_in t.places lit ≡ back)) (sym (same ∙ arranged.split)) arranged.second
