-- What is so while kept literals are let go, from the highest place down.
use Rattle.std.proofs.Common.{◌≡◌, ◌∙◌, ◌⊎◌, ℕ, ◌<◌, ◌≤◌, true, false, List, [], ◌∷◌, ◌++◌, length, get_or, reverse, None, refl, sym, ap, subst, arith, inl, inr}
use Rattle.std.specs.List.{Contains}
use Rattle.std.specs.List.Sorted.{IsPermutation, IsNonDecreasing}
use Rattle.std.proofs.lemmas.Bool.{cases_eq, cases_lt}
use Rattle.std.proofs.lemmas.List.{length-append, get_or_append_left, get_or_push}
use Rattle.std.proofs.lemmas.List.Elements.{Contains-append_left, Contains-push, Contains-push_cases}
use Rattle.std.proofs.lemmas.List.Sorted.{IsPermutation-sym, Contains-permutation}
use Rattle.lits_core.specs.Literals.{negation_of, variable_of}
use Rattle.lits_core.specs.Derivation.{State, has_lit, hints_fault}
use Rattle.lits_core.proofs.LiteralLemmas.{variable_of-negation, negation-negation}
use Rattle.clause_arena.specs.Records.{record_at}
use Rattle.watch_arena.specs.Places.{place_at}
use Rattle.watch_arena.specs.Trails.{TrailState, IsTrail}
use Rattle.watch_arena.proofs.WatchedPair.{index_of}
use Rattle.conflict_clause.specs.declared.analysis.Analysis.{Analysis}
use Rattle.conflict_clause.specs.Taught.{HoldsRecords, IsLiveId}
use Rattle.conflict_clause.specs.Search.{IsReached, KeepsBelow, ArePlacesOf, Goes, Stays, is_seen}
use Rattle.conflict_clause.proofs.AtPlaces.{false_below, place-once, level_in-place, level-rises}
use Rattle.conflict_clause.proofs.UnitHint.{has_lit-first, has_lit-rest, hints-unit}
use Rattle.conflict_clause.proofs.SearchInvariant.{of_live_push, reverse_push}
use Rattle.conflict_clause.proofs.SearchEnds.{none_in, in_first, in_rest, in_cases}

-- one literal more, and its place
pub ArePlacesOf-push : (t : TrailState) (lits places : List ℕ) (lit q : ℕ) → ArePlacesOf t lits places → q < length t.places → (place_at t.places q).lit ≡ negation_of lit → ArePlacesOf t (lits ++ lit ∷ []) (places ++ q ∷ [])
ArePlacesOf-push t lits places lit q are lt is =
    let own : lit ≡ negation_of (place_at t.places q).lit = sym (ap negation_of is ∙ negation-negation lit) in
    record {
      within = λ r c. elim (Contains-push_cases places q r c) [
        | inl before ↦ are.within r before
        | inr same ↦ subst (λ (n : ℕ). n < length t.places) same lt
      ];
      of = λ r c. elim (Contains-push_cases places q r c) [
        | inl before ↦ Contains-append_left lits (lit ∷ []) _ (are.of r before)
        | inr same ↦ subst (λ (n : ℕ). Contains (lits ++ lit ∷ []) (negation_of (place_at t.places n).lit)) same (subst (λ (x : ℕ). Contains (lits ++ lit ∷ []) x) own (Contains-push lits lit))
      ];
      each = λ m c. elim (Contains-push_cases lits lit m c) [
        | inl before ↦
            let found = are.each m before in
            (found.0, Contains-append_left places (q ∷ []) found.0 found.1, found.2)
        | inr same ↦ (q, Contains-push places q, is ∙ ap negation_of same)
      ];
    }

-- the order of the places does not matter
pub ArePlacesOf-permutation : (t : TrailState) (lits places others : List ℕ) → ArePlacesOf t lits places → IsPermutation places others → ArePlacesOf t lits others
ArePlacesOf-permutation t lits places others are moved =
    let back : (q : ℕ) → Contains others q → Contains places q = λ q c. Contains-permutation others places q (IsPermutation-sym places others moved) c in
    record {
      within = λ q c. are.within q (back q c);
      of = λ q c. are.of q (back q c);
      each = λ lit c. let found = are.each lit c in (found.0, Contains-permutation places others found.0 moved found.1, found.2);
    }

-- the places of some literals that are still to be looked at, in order: with each there is each lower one
pub record AreLeft (t : TrailState) (lits left : List ℕ) : Type 0 where
  pub sorted : IsNonDecreasing left
  pub within : (q : ℕ) → Contains left q → q < length t.places
  pub of : (q : ℕ) → Contains left q → Contains lits (negation_of (place_at t.places q).lit)
  pub lower : (q r : ℕ) → q < length t.places → Contains lits (negation_of (place_at t.places q).lit) → Contains left r → q < r → Contains left q

-- what was kept so far and the places that are left, of literals that were all kept: with the point they are a clause that the hints show
pub record IsShortened (t : TrailState) (old n : Analysis) (left : List ℕ) : Type 0 where
  pub among : (lit : ℕ) → Contains n.lits.items lit → Contains old.lits.items lit
  pub shown : (state : State) (falses : List ℕ) → HoldsRecords state t.records → has_lit falses (negation_of (place_at t.places old.lowest).lit) ≡ true → ((lit : ℕ) → Contains n.lits.items lit → has_lit falses lit ≡ true) → ((q : ℕ) → Contains left q → has_lit falses (negation_of (place_at t.places q).lit) ≡ true) → hints_fault state (reverse n.hints.items) falses ≡ None
  pub of_live : (hint : ℕ) → Contains n.hints.items hint → IsLiveId t.records hint

-- at the start all places are left
pub AreLeft-start : (t : TrailState) (lits left : List ℕ) → IsTrail t → ArePlacesOf t lits left → IsNonDecreasing left → AreLeft t lits left
AreLeft-start t lits left trail are sorted = record {
  sorted = sorted;
  within = are.within;
  of = are.of;
  lower = λ q r lt has there below.
      let found = are.each (negation_of (place_at t.places q).lit) has in
      let same : found.0 ≡ q = place-once t found.0 q trail (are.within found.0 found.1) lt (ap variable_of (found.2 ∙ negation-negation (place_at t.places q).lit)) in
      subst (λ (n : ℕ). Contains left n) same found.1;
}

-- the highest place is the last one
last-highest : (left : List ℕ) (place r : ℕ) → IsNonDecreasing (left ++ place ∷ []) → Contains left r → r ≤ place
last-highest left place r sorted c =
    let entry = index_of left r c in
    let below = entry.1 in
    let size = length-append left (place ∷ []) in
    let rises = sorted entry.0 (length left) 0 (omega arith) (omega arith) in
    let low = get_or_append_left left (place ∷ []) 0 entry.0 entry.1 ∙ entry.2 in
    let high = get_or_push left place 0 (length left) refl in
    omega arith

-- the highest place was looked at
pub AreLeft-popped : (t : TrailState) (lits before left : List ℕ) (place : ℕ) → AreLeft t lits before → before ≡ left ++ place ∷ [] → AreLeft t lits left
AreLeft-popped t lits before left place a is =
    let sorted : IsNonDecreasing (left ++ place ∷ []) = subst (λ (xs : List ℕ). IsNonDecreasing xs) is a.sorted in
    let stays : (q : ℕ) → Contains left q → Contains before q = λ q c. subst (λ (xs : List ℕ). Contains xs q) (sym is) (Contains-append_left left (place ∷ []) q c) in
    record {
      sorted = λ i j d le lt.
          let size = length-append left (place ∷ []) in
          let rises = sorted i j d le (omega arith) in
          let low = get_or_append_left left (place ∷ []) d i (omega arith) in
          let high = get_or_append_left left (place ∷ []) d j lt in
          omega arith;
      within = λ q c. a.within q (stays q c);
      of = λ q c. a.of q (stays q c);
      lower = λ q r lt has there below.
          let most = last-highest left place r sorted there in
          elim (Contains-push_cases left place q (subst (λ (xs : List ℕ). Contains xs q) is (a.lower q r lt has (stays r there) below))) [
            | inl rest ↦ rest
            | inr same ↦ absurd (omega arith)
          ];
    }

-- at the start nothing is kept yet
pub IsShortened-start : (t : TrailState) (old n : Analysis) (left : List ℕ) → IsReached t old → ArePlacesOf t old.lits.items left → n.lits.items ≡ [] → n.hints.items ≡ old.hints.items → IsShortened t old n left
IsShortened-start t old n left reached are lits hints = record {
  among = λ lit c. absurd (none_in n.lits.items lit lits c);
  shown = λ state falses holds point kept rest.
      subst (λ (hs : List ℕ). hints_fault state (reverse hs) falses ≡ None) (sym hints)
      (reached.shown state falses holds (λ lit c. elim (in_cases (negation_of (place_at t.places old.lowest).lit) old.lits.items lit c) [
        | inl first ↦ subst (λ (x : ℕ). has_lit falses x ≡ true) first point
        | inr other ↦
            let found = are.each lit other in
            subst (λ (x : ℕ). has_lit falses x ≡ true) (ap negation_of found.2 ∙ negation-negation lit) (rest found.0 found.1)
      ]));
  of_live = subst (λ (hs : List ℕ). (hint : ℕ) → Contains hs hint → IsLiveId t.records hint) (sym hints) reached.of_live;
}

-- the place of a kept literal is below the point
below-point : (t : TrailState) (n : Analysis) (q : ℕ) → IsTrail t → IsReached t n → q < length t.places → Contains n.lits.items (negation_of (place_at t.places q).lit) → q < n.lowest
below-point t n q trail reached lt has =
    let low = (reached.lower (negation_of (place_at t.places q).lit) has).below in
    let is = level_in-place t q (negation_of (place_at t.places q).lit) trail lt (sym (negation-negation (place_at t.places q).lit)) in
    let point = reached.at_the_level in
    elim (cases_lt q n.lowest) [
      | inl before ↦ before
      | inr after ↦ let rises = level-rises t n.lowest q trail after lt in absurd (omega arith)
    ]

-- the literals of the reason of the highest place that is left are among those of the places below it
reason-left : (t : TrailState) (old : Analysis) (left : List ℕ) (place m : ℕ) → IsTrail t → IsReached t old → KeepsBelow t old → AreLeft t old.lits.items (left ++ place ∷ []) → is_seen old (variable_of m) ≡ true → (q : ℕ) × (q < place) × ((place_at t.places q).lit ≡ negation_of m) → (q : ℕ) × Contains left q × (m ≡ negation_of (place_at t.places q).lit)
reason-left t old left place m trail reached keeps a seen at =
    let below = at.1 in
    let here : Contains (left ++ place ∷ []) place = Contains-push left place in
    let within = a.within place here in
    let high = below-point t old place trail reached within (a.of place here) in
    let mine : is_seen old (variable_of (place_at t.places at.0).lit) ≡ true = subst (λ (v : ℕ). is_seen old v ≡ true) (sym (ap variable_of at.2 ∙ variable_of-negation m)) seen in
    let kept = keeps at.0 (omega arith) mine in
    let there : Contains left at.0 = elim (Contains-push_cases left place at.0 (a.lower at.0 place (omega arith) kept here at.1)) [
      | inl rest ↦ rest
      | inr same ↦ absurd (omega arith)
    ] in
    (at.0, there, sym (ap negation_of at.2 ∙ negation-negation m))

-- the negation of a place's literal, held false before others, and those of the places that are left
left_false : (t : TrailState) (left falses : List ℕ) (place : ℕ) → ((q : ℕ) → Contains left q → has_lit falses (negation_of (place_at t.places q).lit) ≡ true) → (q : ℕ) → Contains (left ++ place ∷ []) q → has_lit (negation_of (place_at t.places place).lit ∷ falses) (negation_of (place_at t.places q).lit) ≡ true
left_false t left falses place rest q c =
    elim (Contains-push_cases left place q c) [
      | inl before ↦ has_lit-rest (negation_of (place_at t.places place).lit) falses _ (rest q before)
      | inr same ↦ subst (λ (n : ℕ). has_lit (negation_of (place_at t.places place).lit ∷ falses) (negation_of (place_at t.places n).lit) ≡ true) same (has_lit-first (negation_of (place_at t.places place).lit) falses)
    ]

-- the literal of the highest place that is left goes
IsShortened-goes : (t : TrailState) (old before after : Analysis) (left : List ℕ) (place : ℕ) → IsTrail t → IsReached t old → KeepsBelow t old → before.marks ≡ old.marks → AreLeft t old.lits.items (left ++ place ∷ []) → IsShortened t old before (left ++ place ∷ []) → Goes t place before after → IsShortened t old after left
IsShortened-goes t old before after left place trail reached keeps marks a s g =
    let within = a.within place (Contains-push left place) in
    let r = trail.reasons place g.at within g.reason in
    record {
      among = λ lit c. s.among lit (subst (λ (xs : List ℕ). Contains xs lit) g.lits c);
      shown = λ state falses holds point kept rest.
          let shown : hints_fault state ((record_at t.records g.at).id ∷ reverse before.hints.items) falses ≡ None = hints-unit state t.records g.at (place_at t.places place).lit (reverse before.hints.items) falses holds r.live
          (λ m c. elim (cases_eq m (place_at t.places place).lit) [
            | inl is ↦ inl is
            | inr ne ↦
                let seen : is_seen old (variable_of m) ≡ true = ap (λ bs. get_or bs (variable_of m) false) (sym marks) ∙ g.seen m c in
                let q = reason-left t old left place m trail reached keeps a seen (false_below t.places place m (omega arith) (r.others m c ne)) in
                inr (subst (λ (x : ℕ). has_lit falses x ≡ true) (sym q.2) (rest q.0 q.1))
          ])
          (s.shown state (negation_of (place_at t.places place).lit ∷ falses) holds (has_lit-rest _ falses _ point)
          (λ lit c. has_lit-rest _ falses lit (kept lit (subst (λ (xs : List ℕ). Contains xs lit) (sym g.lits) c))) (left_false t left falses place rest)) in
          subst (λ (hs : List ℕ). hints_fault state hs falses ≡ None) (sym (ap reverse g.hints ∙ reverse_push before.hints.items (record_at t.records g.at).id)) shown;
      of_live = subst (λ (hs : List ℕ). (hint : ℕ) → Contains hs hint → IsLiveId t.records hint) (sym g.hints) (of_live_push t.records before.hints.items g.at r.live s.of_live);
    }

-- it stays
IsShortened-stays : (t : TrailState) (old before after : Analysis) (left : List ℕ) (place : ℕ) → AreLeft t old.lits.items (left ++ place ∷ []) → IsShortened t old before (left ++ place ∷ []) → Stays t place before after → IsShortened t old after left
IsShortened-stays t old before after left place a s stays =
    let has : (lit : ℕ) → Contains before.lits.items lit → Contains after.lits.items lit = λ lit c. subst (λ (xs : List ℕ). Contains xs lit) (sym stays.lits) (Contains-append_left before.lits.items (negation_of (place_at t.places place).lit ∷ []) lit c) in
    let own : Contains after.lits.items (negation_of (place_at t.places place).lit) = subst (λ (xs : List ℕ). Contains xs (negation_of (place_at t.places place).lit)) (sym stays.lits) (Contains-push before.lits.items (negation_of (place_at t.places place).lit)) in
    record {
      among = λ lit c. elim (Contains-push_cases before.lits.items (negation_of (place_at t.places place).lit) lit (subst (λ (xs : List ℕ). Contains xs lit) stays.lits c)) [
        | inl old_one ↦ s.among lit old_one
        | inr same ↦ subst (λ (x : ℕ). Contains old.lits.items x) same (a.of place (Contains-push left place))
      ];
      shown = λ state falses holds point kept rest.
          subst (λ (hs : List ℕ). hints_fault state (reverse hs) falses ≡ None) (sym stays.hints)
          (s.shown state falses holds point (λ lit c. kept lit (has lit c)) (λ q c. elim (Contains-push_cases left place q c) [
            | inl before_it ↦ rest q before_it
            | inr same ↦ subst (λ (n : ℕ). has_lit falses (negation_of (place_at t.places n).lit) ≡ true) same (kept _ own)
          ]));
      of_live = subst (λ (hs : List ℕ). (hint : ℕ) → Contains hs hint → IsLiveId t.records hint) (sym stays.hints) s.of_live;
    }

-- a place was looked at, whatever came of it
pub IsShortened-settled : (t : TrailState) (old before after : Analysis) (left : List ℕ) (place : ℕ) → IsTrail t → IsReached t old → KeepsBelow t old → before.marks ≡ old.marks → AreLeft t old.lits.items (left ++ place ∷ []) → IsShortened t old before (left ++ place ∷ []) → Goes t place before after ⊎ Stays t place before after → IsShortened t old after left
IsShortened-settled t old before after left place trail reached keeps marks a s either =
    elim either [
      | inl goes ↦ IsShortened-goes t old before after left place trail reached keeps marks a s goes
      | inr stays ↦ IsShortened-stays t old before after left place a s stays
    ]

-- at the end no place is left
pub IsReached-shortened : (t : TrailState) (old n : Analysis) (left : List ℕ) → IsReached t old → IsShortened t old n left → length left ≡ 0 → n.lowest ≡ old.lowest → IsReached t n
IsReached-shortened t old n left reached s none lowest =
    record {
      within = subst (λ (k : ℕ). k < length t.places) (sym lowest) reached.within;
      at_the_level = ap (λ (k : ℕ). (place_at t.places k).level) lowest ∙ reached.at_the_level;
      lower = λ lit c. reached.lower lit (s.among lit c);
      shown = λ state falses holds has.
          s.shown state falses holds
          (has (negation_of (place_at t.places old.lowest).lit) (subst (λ (k : ℕ). Contains (negation_of (place_at t.places n.lowest).lit ∷ n.lits.items) (negation_of (place_at t.places k).lit)) lowest (in_first (negation_of (place_at t.places n.lowest).lit) n.lits.items)))
          (λ lit c. has lit (in_rest (negation_of (place_at t.places n.lowest).lit) n.lits.items lit c))
          (λ q c. let lt = c.1 in absurd (omega arith));
      of_live = s.of_live;
    }
