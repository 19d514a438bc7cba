-- What a find adds, and what is known where nothing is open.
use Rattle.std.proofs.Common.{◌≡◌, ℕ, zero, suc, ◌<◌, ◌≤◌, Bool, true, false, ◌&&◌, not, cond, List, [], ◌∷◌, length, get_or, map, ◌⊎◌, inl, inr, refl, sym, ap, ◌∙◌, subst, arith}
use Rattle.std.specs.Prelude.{All, Contains, IsTrue, filter}
use Rattle.std.specs.List.{list_any}
use Rattle.std.proofs.lemmas.Bool.{false≢true}
use Rattle.world_model.specs.Problem.{Problem}
use Rattle.world_model.specs.Questions.{HasFlags}
use Rattle.world_model.specs.Trial.{bit_lists}
use Rattle.world_model.proofs.Members.{In, here, there, any_at, any_from, contains_from_in, in_from_contains, place_of, In-get_or}
use Rattle.world_model.proofs.TrialPoints.{in_bit_lists}
use Rattle.family_solver.specs.Kept.Keeping.{IsWithin}
use Rattle.family_solver.proofs.kept.Fewer.{consistent_fewer}
use Rattle.conflict_lattice.specs.Lattice.{IsLattice, IsMaximalConsistent, IsMinimalConflict, Subsets, ascend}
use Rattle.conflict_lattice.specs.Rounds.{IsFoundSoFar, holds_one, is_open, is_part, unexplored}
use Rattle.conflict_lattice.proofs.Inserting.{Adds}
use Rattle.conflict_lattice.proofs.Parts.{part_cases, part_within, within_part}

-- the two parts of what is opened
pub open_parts : (s : Subsets) (flags : List Bool) → is_open s flags ≡ true → (holds_one s.conflicts flags ≡ false) × (list_any (is_part flags) s.consistent ≡ false)
open_parts s flags opened = both (holds_one s.conflicts flags) (list_any (is_part flags) s.consistent) opened
  where
    both : (a b : Bool) → (not a && not b) ≡ true → (a ≡ false) × (b ≡ false)
    both false false h = (refl, refl)
    both false true h = absurd (false≢true h)
    both true b h = absurd (false≢true h)

open_whole : (a b : Bool) → a ≡ false → b ≡ false → (not a && not b) ≡ true
open_whole false false e f = refl
open_whole true b e f = absurd (false≢true (sym e))
open_whole false true e f = absurd (false≢true (sym f))

-- what is not open holds a conflict, or lies in a set
pub not_open : (s : Subsets) (flags : List Bool) → is_open s flags ≡ false → (holds_one s.conflicts flags ≡ true) ⊎ (list_any (is_part flags) s.consistent ≡ true)
not_open s flags closed = either (holds_one s.conflicts flags) (list_any (is_part flags) s.consistent) closed
  where
    either : (a b : Bool) → (not a && not b) ≡ false → (a ≡ true) ⊎ (b ≡ true)
    either true b h = inl refl
    either false true h = inr refl
    either false false h = absurd (false≢true (sym h))

-- fewer pass a test that is stricter, and one item fails
less_or_same : {X : Type 0} (new old : X → Bool) (xs : List X) → ((x : X) → new x ≡ true → old x ≡ true) → length (filter new xs) ≤ length (filter old xs)
less_or_same new old [] strict = omega arith
less_or_same new old (x ∷ xs) strict = by (new x) refl (old x) refl (less_or_same new old xs strict)
  where
    by : (a : Bool) → new x ≡ a → (b : Bool) → old x ≡ b → length (filter new xs) ≤ length (filter old xs) → length (filter new (x ∷ xs)) ≤ length (filter old (x ∷ xs))
    by true e true f rest = let m = ap (λ a. length (cond a (x ∷ filter new xs) (filter new xs))) e in let n = ap (λ b. length (cond b (x ∷ filter old xs) (filter old xs))) f in omega (arith, m, n, rest)
    by true e false f rest = absurd (false≢true (sym f ∙ strict x e))
    by false e true f rest = let m = ap (λ a. length (cond a (x ∷ filter new xs) (filter new xs))) e in let n = ap (λ b. length (cond b (x ∷ filter old xs) (filter old xs))) f in omega (arith, m, n, rest)
    by false e false f rest = let m = ap (λ a. length (cond a (x ∷ filter new xs) (filter new xs))) e in let n = ap (λ b. length (cond b (x ∷ filter old xs) (filter old xs))) f in omega (arith, m, n, rest)

pub filter_less : {X : Type 0} (new old : X → Bool) (xs : List X) (y : X) → ((x : X) → new x ≡ true → old x ≡ true) → In y xs → old y ≡ true → new y ≡ false → length (filter new xs) < length (filter old xs)
filter_less new old [] y strict i was is = elim i [ ]
filter_less new old (x ∷ xs) y strict (here e) was is =
    let m = ap (λ a. length (cond a (x ∷ filter new xs) (filter new xs))) (ap new (sym e) ∙ is) in
    let n = ap (λ b. length (cond b (x ∷ filter old xs) (filter old xs))) (ap old (sym e) ∙ was) in
    let rest = less_or_same new old xs strict in omega (arith, m, n, rest)
filter_less new old (x ∷ xs) y strict (there i) was is = by (new x) refl (old x) refl (filter_less new old xs y strict i was is)
  where
    by : (a : Bool) → new x ≡ a → (b : Bool) → old x ≡ b → length (filter new xs) < length (filter old xs) → length (filter new (x ∷ xs)) < length (filter old (x ∷ xs))
    by true e true f rest = let m = ap (λ a. length (cond a (x ∷ filter new xs) (filter new xs))) e in let n = ap (λ b. length (cond b (x ∷ filter old xs) (filter old xs))) f in omega (arith, m, n, rest)
    by true e false f rest = absurd (false≢true (sym f ∙ strict x e))
    by false e true f rest = let m = ap (λ a. length (cond a (x ∷ filter new xs) (filter new xs))) e in let n = ap (λ b. length (cond b (x ∷ filter old xs) (filter old xs))) f in omega (arith, m, n, rest)
    by false e false f rest = let m = ap (λ a. length (cond a (x ∷ filter new xs) (filter new xs))) e in let n = ap (λ b. length (cond b (x ∷ filter old xs) (filter old xs))) f in omega (arith, m, n, rest)

-- a list of which the items have a fact, with one more
pub all_more : (P : List Bool → Type 0) (old new : List (List Bool)) (item : List Bool) → All P old → P item → Adds old item new → All P new
all_more P old new item all one adds k d low = elim ((adds (get_or new k d)).0 (contains_from_in (In-get_or new k d low))) [
  | inl before ↦ let at = place_of (in_from_contains old before) in subst P (at.is d) (all at.place d at.within)
  | inr same ↦ subst P (sym same) one
]

-- what holds an old conflict holds one of the new list
more_hold : (old new : List (List Bool)) (item flags : List Bool) → Adds old item new → holds_one old flags ≡ true → holds_one new flags ≡ true
more_hold old new item flags adds holds =
    let found = any_at (λ conflict. is_part conflict flags) old holds in
    any_from (λ conflict. is_part conflict flags) (in_from_contains new ((adds found.item).1 (inl (contains_from_in found.member)))) found.passes

more_lie : (old new : List (List Bool)) (item flags : List Bool) → Adds old item new → list_any (is_part flags) old ≡ true → list_any (is_part flags) new ≡ true
more_lie old new item flags adds lies =
    let found = any_at (is_part flags) old lies in
    any_from (is_part flags) (in_from_contains new ((adds found.item).1 (inl (contains_from_in found.member)))) found.passes

false_back : (a b : Bool) → (a ≡ true → b ≡ true) → b ≡ false → a ≡ false
false_back true b up h = absurd (false≢true (sym h ∙ up refl))
false_back false b up h = refl

-- a conflict more: fewer lists are opened
pub conflict_less : (p : Problem) (n : ℕ) (old new sets : List (List Bool)) (conflict seed : List Bool) → Adds old conflict new → IsWithin conflict seed → length seed ≡ n → is_open (record { conflicts = old; consistent = sets }) seed ≡ true →
    unexplored n (record { conflicts = new; consistent = sets }) < unexplored n (record { conflicts = old; consistent = sets })
conflict_less p n old new sets conflict seed adds within counted opened =
    filter_less (is_open (record { conflicts = new; consistent = sets })) (is_open (record { conflicts = old; consistent = sets })) (bit_lists n) seed strict (in_bit_lists n seed counted) opened closed
  where
    strict : (flags : List Bool) → is_open (record { conflicts = new; consistent = sets }) flags ≡ true → is_open (record { conflicts = old; consistent = sets }) flags ≡ true
    strict flags later =
        let both = open_parts (record { conflicts = new; consistent = sets }) flags later in
        open_whole (holds_one old flags) (list_any (is_part flags) sets) (false_back (holds_one old flags) (holds_one new flags) (more_hold old new conflict flags adds) both.0) both.1

    held : holds_one new seed ≡ true
    held = any_from (λ other. is_part other seed) (in_from_contains new ((adds conflict).1 (inr refl))) (within_part conflict seed within)

    closed : is_open (record { conflicts = new; consistent = sets }) seed ≡ false
    closed = ap (λ b. not b && not (list_any (is_part seed) sets)) held

-- a set more: fewer lists are opened
pub set_less : (p : Problem) (n : ℕ) (conflicts old new : List (List Bool)) (set seed : List Bool) → Adds old set new → IsWithin seed set → length seed ≡ n → is_open (record { conflicts = conflicts; consistent = old }) seed ≡ true →
    unexplored n (record { conflicts = conflicts; consistent = new }) < unexplored n (record { conflicts = conflicts; consistent = old })
set_less p n conflicts old new set seed adds within counted opened =
    filter_less (is_open (record { conflicts = conflicts; consistent = new })) (is_open (record { conflicts = conflicts; consistent = old })) (bit_lists n) seed strict (in_bit_lists n seed counted) opened closed
  where
    strict : (flags : List Bool) → is_open (record { conflicts = conflicts; consistent = new }) flags ≡ true → is_open (record { conflicts = conflicts; consistent = old }) flags ≡ true
    strict flags later =
        let both = open_parts (record { conflicts = conflicts; consistent = new }) flags later in
        open_whole (holds_one conflicts flags) (list_any (is_part flags) old) both.0 (false_back (list_any (is_part flags) old) (list_any (is_part flags) new) (more_lie old new set flags adds) both.1)

    lies : list_any (is_part seed) new ≡ true
    lies = any_from (is_part seed) (in_from_contains new ((adds set).1 (inr refl))) (within_part seed set within)

    was : holds_one conflicts seed ≡ false
    was = (open_parts (record { conflicts = conflicts; consistent = old }) seed opened).0

    closed : is_open (record { conflicts = conflicts; consistent = new }) seed ≡ false
    closed = ap (λ b. not b && not (list_any (is_part seed) new)) was ∙ ap not lies

-- a conflict within an open list is not there yet, nor is a set around one
pub conflict_fresh : (s : Subsets) (conflict seed : List Bool) → IsWithin conflict seed → is_open s seed ≡ true → Contains s.conflicts conflict → ⊥
conflict_fresh s conflict seed within opened found =
    false≢true (sym (open_parts s seed opened).0 ∙ any_from (λ other. is_part other seed) (in_from_contains s.conflicts found) (within_part conflict seed within))

pub set_fresh : (s : Subsets) (set seed : List Bool) → IsWithin seed set → is_open s seed ≡ true → Contains s.consistent set → ⊥
set_fresh s set seed within opened found =
    false≢true (sym (open_parts s seed opened).1 ∙ any_from (is_part seed) (in_from_contains s.consistent found) (within_part seed set within))

-- the items of a list that have a fact
at_item : (P : List Bool → Type 0) (xs : List (List Bool)) (x : List Bool) → All P xs → In x xs → P x
at_item P xs x all i = let at = place_of i in subst P (at.is x) (all at.place x at.within)

-- where nothing is open the lists have all
pub whole : (p : Problem) (s : Subsets) → IsFoundSoFar p s → ((kept : List Bool) → HasFlags p kept → is_open s kept ≡ false) → IsLattice p s
whole p s so closed = record {
  conflicts_ascend = so.conflicts_ascend;
  consistent_ascend = so.consistent_ascend;
  conflicts = λ kept. (λ found. at_item (IsMinimalConflict p) s.conflicts kept so.conflicts (in_from_contains s.conflicts found), all_conflicts kept);
  consistent = λ kept. (λ found. at_item (IsMaximalConsistent p) s.consistent kept so.consistent (in_from_contains s.consistent found), all_sets kept);
}
  where
    all_conflicts : (kept : List Bool) → IsMinimalConflict p kept → Contains s.conflicts kept
    all_conflicts kept is = elim (not_open s kept (closed kept is.flags)) [
      | inl holds ↦
          let found = any_at (λ other. is_part other kept) s.conflicts holds in
          let other : IsMinimalConflict p found.item = at_item (IsMinimalConflict p) s.conflicts found.item so.conflicts found.member in
          elim (part_cases found.item kept (other.flags ∙ sym is.flags) (part_within found.item kept found.passes)) [
            | inl same ↦ subst (Contains s.conflicts) same (contains_from_in found.member)
            | inr lacks ↦ absurd (other.inconsistent (is.minimal found.item other.flags (record { within = part_within found.item kept found.passes; place = lacks.0; there = lacks.1; gone = lacks.2 })))
          ]
      | inr lies ↦
          let found = any_at (is_part kept) s.consistent lies in
          let other : IsMaximalConsistent p found.item = at_item (IsMaximalConsistent p) s.consistent found.item so.consistent found.member in
          absurd (is.inconsistent (consistent_fewer p kept found.item (part_within kept found.item found.passes) other.consistent))
    ]

    all_sets : (kept : List Bool) → IsMaximalConsistent p kept → Contains s.consistent kept
    all_sets kept is = elim (not_open s kept (closed kept is.flags)) [
      | inl holds ↦
          let found = any_at (λ other. is_part other kept) s.conflicts holds in
          let other : IsMinimalConflict p found.item = at_item (IsMinimalConflict p) s.conflicts found.item so.conflicts found.member in
          absurd (other.inconsistent (consistent_fewer p found.item kept (part_within found.item kept found.passes) is.consistent))
      | inr lies ↦
          let found = any_at (is_part kept) s.consistent lies in
          let other : IsMaximalConsistent p found.item = at_item (IsMaximalConsistent p) s.consistent found.item so.consistent found.member in
          elim (part_cases kept found.item (is.flags ∙ sym other.flags) (part_within kept found.item found.passes)) [
            | inl same ↦ subst (Contains s.consistent) (sym same) (contains_from_in found.member)
            | inr lacks ↦ absurd (is.maximal found.item other.flags (record { within = part_within kept found.item found.passes; place = lacks.0; there = lacks.1; gone = lacks.2 }) other.consistent)
          ]
    ]

-- a conflict more, and a set more, and all is as it was
pub found_conflict : (p : Problem) (old new sets : List (List Bool)) (conflict : List Bool) → IsFoundSoFar p (record { conflicts = old; consistent = sets }) → IsMinimalConflict p conflict → IsTrue (ascend new) → Adds old conflict new →
    IsFoundSoFar p (record { conflicts = new; consistent = sets })
found_conflict p old new sets conflict so is up adds = record {
  conflicts = all_more (IsMinimalConflict p) old new conflict so.conflicts is adds;
  consistent = so.consistent;
  conflicts_ascend = up;
  consistent_ascend = so.consistent_ascend;
}

pub found_set : (p : Problem) (conflicts old new : List (List Bool)) (set : List Bool) → IsFoundSoFar p (record { conflicts = conflicts; consistent = old }) → IsMaximalConsistent p set → IsTrue (ascend new) → Adds old set new →
    IsFoundSoFar p (record { conflicts = conflicts; consistent = new })
found_set p conflicts old new set so is up adds = record {
  conflicts = so.conflicts;
  consistent = all_more (IsMaximalConsistent p) old new set so.consistent is adds;
  conflicts_ascend = so.conflicts_ascend;
  consistent_ascend = up;
}

-- before anything was found
pub found_none : (p : Problem) → IsFoundSoFar p (record { conflicts = []; consistent = [] })
found_none p = record { conflicts = λ k d low. absurd (omega (arith, low)); consistent = λ k d low. absurd (omega (arith, low)); conflicts_ascend = refl; consistent_ascend = refl }
