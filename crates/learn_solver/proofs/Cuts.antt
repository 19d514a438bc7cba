-- Going back, and what stays known of the assumptions.
use Rattle.std.proofs.Common.{◌≡◌, ◌∙◌, ℕ, ◌+◌, ◌-◌, ◌<◌, ◌≤◌, Bool, true, false, List, [], ◌∷◌, length, take, None, refl, sym, ap, arith, inl, inr, length-take}
use Rattle.std.specs.Prelude.{nat_le}
use Rattle.std.proofs.lemmas.List.{take_all}
use Rattle.std.proofs.lemmas.List.Sums.{count_by_more_no}
use Rattle.std.proofs.lemmas.Bool.{cases_Bool, cases_eq, cases_lt}
use Rattle.std.proofs.lemmas.Bool.Decides.{nat_tests}
use Rattle.lits_core.specs.Literals.{variable_of, negation_of}
use Rattle.lits_core.proofs.LiteralLemmas.{variable_of-negation}
use Rattle.watch_arena.specs.declared.places.Place.{Place}
use Rattle.watch_arena.specs.Places.{place_at, no_place, is_true, is_false, place_of, is_assumed, level_of}
use Rattle.watch_arena.specs.Trails.{TrailState, IsTrail, places_up_to}
use Rattle.conflict_clause.specs.Taught.{level_in}
use Rattle.learn_solver.proofs.TrailPlaces.{true-index, place-take, true-take, true-within, place_of-none, level-at, level-most, IsLevelEnd, cut-at}

-- a literal true by places up to a level is so up to a higher one
pub up_to-within : (t : TrailState) (low high lit : ℕ) → IsTrail t → low ≤ high → is_true (places_up_to t.places low) lit ≡ true → is_true (places_up_to t.places high) lit ≡ true
up_to-within t low high lit f le h =
    let a = cut-at t low f in
    let b = cut-at t high f in
    let found = true-index (take a.0 t.places) lit (ap (λ (ps : List Place). is_true ps lit) (sym a.1.same) ∙ h) in
    let size : length (take a.0 t.places) ≡ _ = length-take a.0 t.places in
    let below = found.1 in
    let within = a.1.within in
    let level = a.1.up_to found.0 (omega arith) in
    let early : found.0 < b.0 = elim (cases_lt found.0 b.0) [
      | inl lt ↦ lt
      | inr ge ↦ let past = b.1.past found.0 ge (omega arith) in absurd (omega arith)
    ] in
    ap (λ (ps : List Place). is_true ps lit) b.1.same
    ∙ true-within t.places b.0 found.0 lit early (omega arith) (ap (λ (p : Place). p.lit) (sym (place-take t.places a.0 found.0 (omega arith))) ∙ found.2)

-- all places are up to the level
pub up_to-all : (t : TrailState) (level : ℕ) → IsTrail t → t.level ≤ level → places_up_to t.places level ≡ t.places
up_to-all t level f le =
    let a = cut-at t level f in
    let within = a.1.within in
    let whole : length t.places ≤ a.0 = elim (cases_lt a.0 (length t.places)) [
      | inl lt ↦ let past = a.1.past a.0 (omega arith) lt in let most = level-most t a.0 f lt in absurd (omega arith)
      | inr ge ↦ ge
    ] in
    a.1.same ∙ take_all a.0 t.places whole

-- a literal true at a place of a level is true up to it
pub true-up_to : (t : TrailState) (p lit level : ℕ) → IsTrail t → p < length t.places → (place_at t.places p).lit ≡ lit → (place_at t.places p).level ≤ level → is_true (places_up_to t.places level) lit ≡ true
true-up_to t p lit level f lt is le =
    let a = cut-at t level f in
    let early : p < a.0 = elim (cases_lt p a.0) [
      | inl below ↦ below
      | inr ge ↦ let past = a.1.past p ge lt in absurd (omega arith)
    ] in
    ap (λ (ps : List Place). is_true ps lit) a.1.same ∙ true-within t.places a.0 p lit early lt is

-- what is true up to a level is true
pub up_to-true : (t : TrailState) (level lit : ℕ) → IsTrail t → is_true (places_up_to t.places level) lit ≡ true → is_true t.places lit ≡ true
up_to-true t level lit f h =
    let a = cut-at t level f in
    true-take t.places a.0 lit (ap (λ (ps : List Place). is_true ps lit) (sym a.1.same) ∙ h)

-- a cut of a cut
pub up_to-twice : (t : TrailState) (low high : ℕ) → IsTrail t → low ≤ high → places_up_to (places_up_to t.places high) low ≡ places_up_to t.places low
up_to-twice t low high f le = go t.places where
  go : (places : List Place) → places_up_to (places_up_to places high) low ≡ places_up_to places low
  go [] = refl
  go (p ∷ places) =
      elim (cases_lt high p.level) [
        | inl past ↦
            let a : nat_le p.level high ≡ false = grind (arith, nat_tests) in
            let b : nat_le p.level low ≡ false = grind (arith, nat_tests) in
            rw (a, b) (go places)
        | inr here ↦
            let a : nat_le p.level high ≡ true = grind (arith, nat_tests) in
            elim (cases_Bool (nat_le p.level low)) [
              | inl on ↦ rw (a, on) (ap (λ (ps : List Place). p ∷ ps) (go places))
              | inr off ↦ rw (a, off) (go places)
            ]
      ]

-- where the places come past a level, the first one past it is assumed
pub assumed-past : (t : TrailState) (level n : ℕ) → IsTrail t → IsLevelEnd t.places level n → level < t.level → (n < length t.places) × (is_assumed (place_at t.places n) ≡ true)
assumed-past t level n f cut lt =
    let within = cut.within in
    let all = f.level in
    let upto : level_of (take n t.places) ≤ level = elim (cases_eq n 0) [
      | inl none ↦ let e : level_of (take n t.places) ≡ 0 = ap (λ (k : ℕ). level_of (take k t.places)) none in omega arith
      | inr some ↦
          let last = f.levels (n - 1) (omega arith) in
          let back : n - 1 + 1 ≡ n = omega arith in
          let e : level_of (take (n - 1 + 1) t.places) ≡ level_of (take n t.places) = ap (λ (k : ℕ). level_of (take k t.places)) back in
          let low = cut.up_to (n - 1) (omega arith) in
          omega arith
    ] in
    let more : n < length t.places = elim (cases_lt n (length t.places)) [
      | inl below ↦ below
      | inr ge ↦
          let e : level_of (take n t.places) ≡ level_of t.places = ap level_of (take_all n t.places ge) in
          absurd (omega arith)
    ] in
    let P : Bool → Type 0 = λ b. is_assumed (place_at t.places n) ≡ b → is_assumed (place_at t.places n) ≡ true in
    let go : (b : Bool) → P b = λ b. elim b as P [
      | true ↦ λ on. on
      | false ↦ λ off.
          let here = f.levels n more in
          let e = count_by_more_no is_assumed t.places n no_place more off in
          let past = cut.past n (omega arith) more in
          let same : level_of (take (n + 1) t.places) ≡ level_of (take n t.places) = e in
          absurd (omega arith)
    ] in
    (more, go (is_assumed (place_at t.places n)) refl)

-- a literal above a level is unassigned where the trail went back to it
pub unassigned-back : (t : TrailState) (level lit : ℕ) → IsTrail t → level < level_in t.places lit → place_of (places_up_to t.places level) (variable_of lit) ≡ None
unassigned-back t level lit f above =
    let a = cut-at t level f in
    let within = a.1.within in
    let size : length (take a.0 t.places) ≡ _ = length-take a.0 t.places in
    ap (λ (ps : List Place). place_of ps (variable_of lit)) a.1.same
    ∙ place_of-none (take a.0 t.places) (variable_of lit) (λ p lt e.
    let there : variable_of (place_at t.places p).lit ≡ variable_of lit = ap (λ (q : Place). variable_of q.lit) (sym (place-take t.places a.0 p (omega arith))) ∙ e in
    let is = level-at t p lit f (omega arith) there in
    let low = a.1.up_to p (omega arith) in
    absurd (omega arith))

-- a false literal of a level at most the one that the trail went back to stays false
pub false-back : (t : TrailState) (level lit : ℕ) → IsTrail t → is_false t.places lit ≡ true → level_in t.places lit ≤ level → is_false (places_up_to t.places level) lit ≡ true
false-back t level lit f h le =
    let found = true-index t.places (negation_of lit) h in
    let one : variable_of (place_at t.places found.0).lit ≡ variable_of lit = ap variable_of found.2 ∙ variable_of-negation lit in
    let is = level-at t found.0 lit f found.1 one in
    true-up_to t found.0 (negation_of lit) level f found.1 found.2 (omega arith)
