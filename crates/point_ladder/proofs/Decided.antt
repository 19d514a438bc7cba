-- Pairs that allow just the relation of a line: the path along them allows what it did.
use Rattle.std.proofs.Common.{◌≡◌, ℕ, ◌+◌, ◌<◌, ◌≤◌, true, false, not, List, ◌++◌, length, get_or, set, take, drop, take-append-drop, inl, inr, refl, sym, ap, ◌∙◌, subst, arith, append_assoc}
use Rattle.std.proofs.lemmas.Bool.{cases_Bool, cases_lt, cases_eq, both_ways, not-true, false≢true}
use Rattle.std.proofs.lemmas.List.{get_or-take, length-take-le, take-take, ext_get_or, get_or-set_other}
use Rattle.rcc5_core.specs.declared.Rel.{Rel}
use Rattle.rcc5_core.specs.declared.Rel.TheVariants.{Equals, Includes, IncludedIn, Overlaps, Disjoint}
use Rattle.rcc5_core.specs.declared.RelSet.{RelSet}
use Rattle.rcc5_core.specs.RelationSet.{has, both_of, only, every_rel, is_empty_set}
use Rattle.world_model.specs.Problem.{Problem, pairs, pair_count}
use Rattle.world_model.specs.Family.{IsPossibleWorld}
use Rattle.world_model.specs.Node.{pair_at}
use Rattle.world_model.specs.Alive.{allowed, problem_at, IsAlive}
use Rattle.world_model.proofs.Members.{In-get_or, all_at, place_of, IsPlaced}
use Rattle.world_model.proofs.PointOnce.{narrowed_inside, narrowed_beyond}
use Rattle.world_model.proofs.PointPositions.{has-only, world_is_full, world_is_alive}
use Rattle.point_table.specs.Points.{AreAllowed}
use Rattle.world_model.specs.Listing.{rel_at}
use Rattle.point_ladder.specs.Stretches.{AreNexts}
use Rattle.point_ladder.specs.Ladders.{IsAlong}
use Rattle.world_model.proofs.Narrowed.{both_only, none_common}
use Rattle.point_ladder.proofs.Narrower.{narrowings_of}
use Rattle.point_ladder.proofs.AllowsSame.{AllowsSame, alive_same}

-- pairs from one on and before another allow just the relation of the line
abbrev pub AreDecided : Problem → List Rel → ℕ → ℕ → Type 0
AreDecided q line from to = (i : ℕ) → from ≤ i → i < to → allowed q (pair_at q i) ≡ only (rel_at line i)

-- so what pairs allow stays the same along them
pub along_same : (q : Problem) (line : List Rel) (len more : ℕ) → len ≤ more → more ≤ length line → AreDecided q line len more →
    AllowsSame q (narrowings_of q (take len line)) (narrowings_of q (take more line))
along_same q line len more longer fits decided pair i = by (place_of i)
  where
    size : (n : ℕ) → n ≤ more → length (take n line) ≡ n
    size n small = length-take-le n line (omega (arith, small, fits))

    inside : (n k : ℕ) → n ≤ more → k < n → k < pair_count q → allowed (problem_at q (take n line)) (pair_at q k) ≡ both_of (allowed q (pair_at q k)) (only (rel_at line k))
    inside n k small front within =
        narrowed_inside q (take n line) k (omega (arith, front, size n small)) within ∙ ap (λ r. both_of (allowed q (pair_at q k)) (only r)) (get_or-take n line k Equals front)

    beyond : (n k : ℕ) → n ≤ more → n ≤ k → k < pair_count q → allowed (problem_at q (take n line)) (pair_at q k) ≡ allowed q (pair_at q k)
    beyond n k small past within = narrowed_beyond q (take n line) k (omega (arith, past, size n small)) within

    at : (k : ℕ) → k < pair_count q → allowed (problem_at q (take more line)) (pair_at q k) ≡ allowed (problem_at q (take len line)) (pair_at q k)
    at k within = elim (cases_lt k len) [
      | inl front ↦ inside more k (omega arith) (omega (arith, front, longer)) within ∙ sym (inside len k longer front within)
      | inr past ↦ elim (cases_lt k more) [
        | inl there ↦
            let is = decided k past there in
            inside more k (omega arith) there within ∙ ap (λ s. both_of s (only (rel_at line k))) is ∙ both_only (only (rel_at line k)) (rel_at line k) (has-only (rel_at line k)) ∙
            sym is ∙ sym (beyond len k longer past within)
        | inr after ↦ beyond more k (omega arith) after within ∙ sym (beyond len k longer past within)
      ]
    ]

    by : IsPlaced pair (pairs q) → allowed (problem_at q (take more line)) pair ≡ allowed (problem_at q (take len line)) pair
    by placed = subst (λ p. allowed (problem_at q (take more line)) p ≡ allowed (problem_at q (take len line)) p) (placed.is (0, 0)) (at placed.place placed.within)

pub only_is : (a b : Rel) → has (only a) b ≡ true → b ≡ a
only_is Equals Equals h = refl
only_is Includes Includes h = refl
only_is IncludedIn IncludedIn h = refl
only_is Overlaps Overlaps h = refl
only_is Disjoint Disjoint h = refl
only_is a b h = absurd (false≢true h)

-- two relations of which sets of one each have something in common
common_is : (a b : Rel) → is_empty_set (both_of (only a) (only b)) ≡ false → b ≡ a
common_is a b some = elim (cases_Bool (has (only a) b)) [
  | inl there ↦ only_is a b there
  | inr out ↦ absurd (both_ways (is_empty_set (both_of (only a) (only b))) some (none_common (only a) b out))
]

-- a world that begins as the line goes on as it does along such pairs
pub world_goes : (q : Problem) (line t : List Rel) (len more : ℕ) → len ≤ more → more ≤ length line → length line ≡ pair_count q → AreDecided q line len more → IsPossibleWorld q t → take len t ≡ take len line →
    take more t ≡ take more line
world_goes q line t len more longer fits lined decided w begins =
    ext_get_or Equals (take more t) (take more line) (size_t ∙ sym size_line) (λ i small. get_or-take more t i Equals (omega (arith, small, size_t)) ∙ at i (omega (arith, small, size_t)) ∙ sym (get_or-take more line i Equals (omega (arith, small, size_t))))
  where
    full : length t ≡ pair_count q
    full = world_is_full q t w

    size_t : length (take more t) ≡ more
    size_t = length-take-le more t (omega (arith, fits, lined, full))

    size_line : length (take more line) ≡ more
    size_line = length-take-le more line fits

    lives : IsAlive (problem_at q t)
    lives = world_is_alive q t w

    at : (i : ℕ) → i < more → get_or t i Equals ≡ get_or line i Equals
    at i small = elim (cases_lt i len) [
      | inl front ↦ sym (get_or-take len t i Equals front) ∙ ap (λ m. get_or m i Equals) begins ∙ get_or-take len line i Equals front
      | inr past ↦
          let within : i < pair_count q = omega (arith, small, fits, lined) in
          let set : allowed (problem_at q t) (pair_at q i) ≡ both_of (only (rel_at line i)) (only (get_or t i Equals)) =
          narrowed_inside q t i (omega (arith, within, full)) within ∙ ap (λ s. both_of s (only (get_or t i Equals))) (decided i past small) in
          common_is (rel_at line i) (get_or t i Equals)
          (ap is_empty_set (sym set) ∙ not-true (is_empty_set (allowed (problem_at q t) (pair_at q i))) (all_at (λ pair. not (is_empty_set (allowed (problem_at q t) pair))) lives.allow (In-get_or (pairs q) i (0, 0) within)))
    ]

-- going along them
pub goes_along : (q : Problem) (line : List Rel) (len more : ℕ) → len ≤ more → more ≤ length line → length line ≡ pair_count q → AreDecided q line len more → IsAlive (problem_at q (take len line)) →
    IsAlong (record { problem = q; path = take len line }) (record { problem = q; path = take more line })
goes_along q line len more longer fits lined decided alive = record {
  problem = refl;
  rest = rest;
  goes = whole;
  short = omega (arith, length-take-le more line fits, fits, lined);
  alive = alive_same q (narrowings_of q (take len line)) (narrowings_of q (take more line)) (along_same q line len more longer fits decided) alive;
  only = λ m w. (drop more (take len line ++ m), goes_on m w);
}
  where
    rest : List Rel
    rest = drop len (take more line)

    size : length (take len line) ≡ len
    size = length-take-le len line (omega (arith, longer, fits))

    whole : take more line ≡ take len line ++ rest
    whole = sym (take-append-drop len (take more line)) ∙ ap (λ m. m ++ drop len (take more line)) (take-take len more line longer)

    goes_on : (m : List Rel) → IsPossibleWorld q (take len line ++ m) → m ≡ rest ++ drop more (take len line ++ m)
    goes_on m w =
        let t = take len line ++ m in
        let begins : take len t ≡ take len line = ap (λ n. take n t) (sym size) ∙ Rattle.std.proofs.Math.Seq.take-append_seam (take len line) m in
        let same : t ≡ take len line ++ (rest ++ drop more t) =
        sym (take-append-drop more t) ∙ ap (λ x. x ++ drop more t) (world_goes q line t len more longer fits lined decided w begins ∙ whole) ∙ append_assoc (take len line) rest (drop more t) in
        sym (Rattle.std.proofs.Math.Seq.drop-append_seam (take len line) m) ∙ ap (drop (length (take len line))) same ∙ Rattle.std.proofs.Math.Seq.drop-append_seam (take len line) (rest ++ drop more t)

-- pairs up to the one that is named for a pair
pub decided_by : (q : Problem) (sets : List RelSet) (line : List Rel) (nexts : List ℕ) (k next d : ℕ) → AreAllowed q sets → AreNexts sets line nexts → k < length nexts → next ≡ get_or nexts k d → AreDecided q line k next
decided_by q sets line nexts k next d are n small read i low high =
    let counted = are.counted in
    let at : next ≡ get_or nexts k 0 = read ∙ Rattle.std.proofs.lemmas.List.get_or_default nexts k d 0 small in
    let on = n.onward k small in
    sym (are.each i every_rel (omega (arith, counted, on.1, high, at))) ∙ n.decided k i small low (omega (arith, high, at))

-- a relation that the next pair allows takes no pair's relation from the line
pub nexts_set : (q : Problem) (sets : List RelSet) (line : List Rel) (nexts : List ℕ) (k : ℕ) (rel : Rel) → AreAllowed q sets → AreNexts sets line nexts → k < pair_count q → has (allowed q (pair_at q k)) rel ≡ true → k < length line →
    AreNexts sets (set line k rel) nexts
nexts_set q sets line nexts k rel are n within allows small = record {
  counted = n.counted;
  onward = n.onward;
  decided = λ j i there low high. elim (cases_eq i k) [
    | inl here ↦
        let is : get_or sets k every_rel ≡ only (rel_at line k) = subst (λ x. get_or sets x every_rel ≡ only (rel_at line x)) here (n.decided j i there low high) in
        let same : rel ≡ rel_at line k = only_is (rel_at line k) rel (ap (λ s. has s rel) (sym is ∙ are.each k every_rel within) ∙ allows) in
        subst (λ x. get_or sets x every_rel ≡ only (rel_at (set line k rel) x)) (sym here) (is ∙ ap only (sym same ∙ sym (Rattle.std.proofs.lemmas.List.get_or-set_same line k rel Equals small)))
    | inr apart ↦ n.decided j i there low high ∙ ap only (sym (get_or-set_other line k i rel Equals apart))
  ];
}

-- so many sets have their next one, and those after them up to a number are just the line's relation
pub record AreWaiting (sets : List RelSet) (line : List Rel) (nexts : List ℕ) (count : ℕ) : Type 0 where
  pub few : length nexts ≤ count
  pub onward : (k : ℕ) → k < length nexts → (k ≤ get_or nexts k 0) × (get_or nexts k 0 < length nexts)
  pub decided : (k i : ℕ) → k < length nexts → k ≤ i → i < get_or nexts k 0 → get_or sets i every_rel ≡ only (rel_at line i)
  pub waiting : (i : ℕ) → length nexts ≤ i → i < count → get_or sets i every_rel ≡ only (rel_at line i)

-- one more waits
pub waits_more : (sets : List RelSet) (line : List Rel) (nexts : List ℕ) (count : ℕ) → AreWaiting sets line nexts count → get_or sets count every_rel ≡ only (rel_at line count) → AreWaiting sets line nexts (count + 1)
waits_more sets line nexts count w is = record {
  few = let few = w.few in omega (arith, few);
  onward = w.onward;
  decided = w.decided;
  waiting = λ i low high. elim (cases_lt i count) [
    | inl before ↦ w.waiting i low before
    | inr here ↦ let same : count ≡ i = omega (arith, high, here) in subst (λ k. get_or sets k every_rel ≡ only (rel_at line k)) same is
  ];
}

-- the numbers of those that wait are filled in
pub record AreFilled (old new : List ℕ) (len next : ℕ) : Type 0 where
  pub long : length new ≡ len
  pub before : (k : ℕ) → k < length old → get_or new k 0 ≡ get_or old k 0
  pub filled : (k : ℕ) → length old ≤ k → k < len → get_or new k 0 ≡ next

pub none_waits : (sets : List RelSet) (line : List Rel) (old new : List ℕ) (count : ℕ) → AreWaiting sets line old count → AreFilled old new (count + 1) count → AreWaiting sets line new (count + 1)
none_waits sets line old new count w f = record {
  few = let long = f.long in omega (arith, long);
  onward = λ k small. elim (cases_lt k (length old)) [
    | inl before ↦
        let on = w.onward k before in
        let few = w.few in
        let low : k ≤ get_or new k 0 = let at = f.before k before in omega (arith, at, on.0) in
        let high : get_or new k 0 < length new = let at = f.before k before in let long = f.long in omega (arith, at, on.1, few, long) in
        (low, high)
    | inr past ↦
        let low : k ≤ get_or new k 0 = let long = f.long in let at = f.filled k past (omega (arith, small, long)) in omega (arith, at, small, long) in
        let high : get_or new k 0 < length new = let long = f.long in let at = f.filled k past (omega (arith, small, long)) in omega (arith, at, long) in
        (low, high)
  ];
  decided = λ k i small low high. elim (cases_lt k (length old)) [
    | inl before ↦ w.decided k i before low (let at = f.before k before in omega (arith, high, at))
    | inr past ↦ w.waiting i (omega (arith, past, low)) (let long = f.long in let at = f.filled k past (omega (arith, small, long)) in omega (arith, high, at))
  ];
  waiting = λ i low high. let long = f.long in absurd (omega (arith, low, high, long));
}

pub nexts_end : (sets : List RelSet) (line : List Rel) (old new : List ℕ) → AreWaiting sets line old (length sets) → AreFilled old new (length sets) (length sets) → AreNexts sets line new
nexts_end sets line old new w f = record {
  counted = f.long;
  onward = λ k small. elim (cases_lt k (length old)) [
    | inl before ↦
        let on = w.onward k before in
        let few = w.few in
        let low : k ≤ get_or new k 0 = let at = f.before k before in omega (arith, at, on.0) in
        let high : get_or new k 0 ≤ length sets = let at = f.before k before in omega (arith, at, on.1, few) in
        (low, high)
    | inr past ↦
        let low : k ≤ get_or new k 0 = let long = f.long in let at = f.filled k past (omega (arith, small, long)) in omega (arith, at, small, long) in
        let high : get_or new k 0 ≤ length sets = let long = f.long in let at = f.filled k past (omega (arith, small, long)) in omega (arith, at) in
        (low, high)
  ];
  decided = λ k i small low high. elim (cases_lt k (length old)) [
    | inl before ↦ w.decided k i before low (let at = f.before k before in omega (arith, high, at))
    | inr past ↦ w.waiting i (omega (arith, past, low)) (let long = f.long in let at = f.filled k past (omega (arith, small, long)) in omega (arith, high, at))
  ];
}
