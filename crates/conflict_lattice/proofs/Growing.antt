-- From articulations that hold together to a maximal set, place by place; and which articulations hold in a family.
use Rattle.std.proofs.Common.{◌≡◌, ℕ, zero, suc, ◌+◌, ◌<◌, ◌≤◌, Bool, true, false, ◌&&◌, List, [], ◌∷◌, length, map, set, ◌⊎◌, inl, inr, refl, sym, ap, ◌∙◌, subst, arith, length-set}
use Rattle.std.specs.Prelude.{All, Some, slice_get}
use Rattle.std.specs.List.{items_where_true, list_all}
use Rattle.std.proofs.lemmas.Bool.{and_from, cases_eq, false≢true}
use Rattle.std.proofs.lemmas.List.{length-map}
use Rattle.world_model.specs.Problem.{Problem, concepts, kept_articulations, restricted}
use Rattle.world_model.specs.Family.{Family, fits_concepts, holds}
use Rattle.world_model.specs.Questions.{HasFlags, IsConsistent}
use Rattle.world_model.specs.declared.Articulation.{Articulation}
use Rattle.world_model.proofs.Members.{any_at, place_of}
use Rattle.set_family.specs.Meeting.{IsMetBy}
use Rattle.set_family.specs.Rules.{articulation_holds, rules_at}
use Rattle.set_family.proofs.Holding.{meets_together}
use Rattle.family_solver.specs.Kept.Keeping.{IsWithin}
use Rattle.family_solver.proofs.kept.Fewer.{consistent_fewer}
use Rattle.conflict_lattice.specs.Lattice.{IsMaximalConsistent, IsMinimalConflict}
use Rattle.conflict_lattice.specs.Rounds.{IsGrown, holds_one, is_part}
use Rattle.conflict_lattice.proofs.Parts.{both_there, flag_cases, in_length, on_within, part_within, set_here, within_all, within_have, within_on}

-- the parts of a test of four
parts : (a b c d : Bool) → (a && b && c && d) ≡ true → (a ≡ true) × (b ≡ true) × (c ≡ true) × (d ≡ true)
parts true true true true h = (refl, refl, refl, refl)
parts true true true false h = absurd (false≢true h)
parts true true false d h = absurd (false≢true h)
parts true false c d h = absurd (false≢true h)
parts false b c d h = absurd (false≢true h)

two_parts : (a b : Bool) → (a && b) ≡ true → (a ≡ true) × (b ≡ true)
two_parts true true h = (refl, refl)
two_parts true false h = absurd (false≢true h)
two_parts false b h = absurd (false≢true h)

-- what is kept holds, so it is among what holds
kept_hold : (test : Articulation → Bool) (kept : List Bool) (said : List Articulation) → list_all test (items_where_true kept said) ≡ true → length kept ≡ length said → IsWithin kept (map test said)
kept_hold test [] said all n k h = absurd (cc)
kept_hold test (b ∷ kept) [] all n k h = absurd (omega arith)
kept_hold test (false ∷ kept) (a ∷ said) all n zero h = let no : Some false ≡ Some true = h in absurd (cc)
kept_hold test (false ∷ kept) (a ∷ said) all n (suc k) h = kept_hold test kept said all (omega arith) k h
kept_hold test (true ∷ kept) (a ∷ said) all n zero h = ap Some (two_parts (test a) (list_all test (items_where_true kept said)) all).0
kept_hold test (true ∷ kept) (a ∷ said) all n (suc k) h = kept_hold test kept said (two_parts (test a) (list_all test (items_where_true kept said)) all).1 (omega arith) k h

-- and what holds passes the test
one_holds : (test : Articulation → Bool) (a : Articulation) (flags : List Bool) (said : List Articulation) → list_all test (items_where_true flags said) ≡ true → (b : Bool) → test a ≡ b →
    list_all test (items_where_true (b ∷ flags) (a ∷ said)) ≡ true
one_holds test a flags said rest true is = and_from (test a) (list_all test (items_where_true flags said)) is rest
one_holds test a flags said rest false is = rest

all_hold : (test : Articulation → Bool) (said : List Articulation) → list_all test (items_where_true (map test said) said) ≡ true
all_hold test [] = refl
all_hold test (a ∷ said) = one_holds test a (map test said) said (all_hold test said) (test a) refl

four_whole : (a b c d : Bool) → a ≡ true → b ≡ true → c ≡ true → d ≡ true → (a && b && c && d) ≡ true
four_whole true true true true e f g h = refl
four_whole false b c d e f g h = absurd (false≢true e)
four_whole true false c d e f g h = absurd (false≢true f)
four_whole true true false d e f g h = absurd (false≢true g)
four_whole true true true false e f g h = absurd (false≢true h)

-- a family meets the problem with all that hold in it
pub held_met : (p : Problem) (kept : List Bool) (f : Family) → IsMetBy (restricted p kept) f → IsMetBy (restricted p (map (articulation_holds f) p.articulations)) f
held_met p kept f by =
    let q : Problem = restricted p (map (articulation_holds f) p.articulations) in
    let four = parts (fits_concepts (restricted p kept) f) (list_all (rules_at (restricted p kept) f) (concepts p)) (list_all (articulation_holds f) (kept_articulations (restricted p kept))) (list_all (holds f) p.narrowings) (meets_together (restricted p kept) f ∙ by.met) in
    record {
      sets = by.sets;
      met =
          sym (meets_together q f)
          ∙ four_whole (fits_concepts q f) (list_all (rules_at q f) (concepts q)) (list_all (articulation_holds f) (kept_articulations q)) (list_all (holds f) q.narrowings) four.0 four.1 (all_hold (articulation_holds f) p.articulations) four.3;
    }

pub held_within : (p : Problem) (kept : List Bool) (f : Family) → HasFlags p kept → IsMetBy (restricted p kept) f → IsWithin kept (map (articulation_holds f) p.articulations)
held_within p kept f flags by =
    let four = parts (fits_concepts (restricted p kept) f) (list_all (rules_at (restricted p kept) f) (concepts p)) (list_all (articulation_holds f) (kept_articulations (restricted p kept))) (list_all (holds f) p.narrowings) (meets_together (restricted p kept) f ∙ by.met) in
    kept_hold (articulation_holds f) kept p.articulations four.2 flags

-- at first
pub grown_none : (p : Problem) (kept new : List Bool) (f : Family) → new ≡ map (articulation_holds f) p.articulations → IsMetBy (restricted p kept) f → IsGrown p 0 new
grown_none p kept new f is by = record {
  flags = ap length is ∙ length-map p.articulations (articulation_holds f);
  consistent = subst (IsConsistent p) (sym is) (f, (held_met p kept f by).met);
  full = λ k low lacks. absurd (omega (arith, low));
}

pub grown_within : (p : Problem) (kept new : List Bool) (f : Family) → new ≡ map (articulation_holds f) p.articulations → HasFlags p kept → IsMetBy (restricted p kept) f → IsWithin kept new
grown_within p kept new f is flags by = subst (IsWithin kept) (sym is) (held_within p kept f flags by)

-- the places up to the next one are those before it and it
below_next : (k place : ℕ) → k < place + 1 → (k < place) ⊎ (k ≡ place)
below_next k place low = elim (cases_eq k place) [
  | inl same ↦ inr same
  | inr apart ↦ inl (omega (arith, low, apart))
]

-- what does not go with the others
pub grown_full : (p : Problem) (place : ℕ) (kept : List Bool) → IsGrown p place kept → (IsConsistent p (set kept place true) → ⊥) → IsGrown p (place + 1) kept
grown_full p place kept so clash = record {
  flags = so.flags;
  consistent = so.consistent;
  full = λ k low lacks. elim (below_next k place low) [
    | inl before ↦ so.full k before lacks
    | inr same ↦ subst (λ j. IsConsistent p (set kept j true) → ⊥) (sym same) clash
  ];
}

-- what goes with the others, with all that hold in the family that shows it
pub grown_more : (p : Problem) (place : ℕ) (kept new : List Bool) (f : Family) → IsGrown p place kept → place < length p.articulations → new ≡ map (articulation_holds f) p.articulations → IsMetBy (restricted p (set kept place true)) f →
    IsGrown p (place + 1) new
grown_more p place kept new f so low is by = record {
  flags = ap length is ∙ length-map p.articulations (articulation_holds f);
  consistent = subst (IsConsistent p) (sym is) (f, (held_met p (set kept place true) f by).met);
  full = λ k below lacks consistent. elim (below_next k place below) [
    | inl before ↦ elim (flag_cases kept k (omega (arith, before, low, so.flags))) [
      | inl there ↦ both_there kept new k within there lacks
      | inr lacked ↦ so.full k before lacked (consistent_fewer p (set kept k true) (set new k true) (within_on kept new k (in_length new k false lacks) within) consistent)
    ]
    | inr same ↦ both_there (set kept place true) new k on (ap (slice_get (set kept place true)) same ∙ set_here kept place true (omega (arith, low, so.flags))) lacks
  ];
}
  where
    on : IsWithin (set kept place true) new
    on = grown_within p (set kept place true) new f is (length-set kept place true ∙ so.flags) by

    within : IsWithin kept new
    within = within_all kept (set kept place true) new (on_within kept place) on

pub more_within : (p : Problem) (place : ℕ) (kept new : List Bool) (f : Family) → HasFlags p kept → new ≡ map (articulation_holds f) p.articulations → IsMetBy (restricted p (set kept place true)) f → IsWithin kept new
more_within p place kept new f flags is by =
    within_all kept (set kept place true) new (on_within kept place) (grown_within p (set kept place true) new f is (length-set kept place true ∙ flags) by)

-- flags that hold a conflict are in conflict
pub holds_inconsistent : (p : Problem) (conflicts : List (List Bool)) (kept : List Bool) → All (IsMinimalConflict p) conflicts → holds_one conflicts kept ≡ true → IsConsistent p kept → ⊥
holds_inconsistent p conflicts kept minimal holds consistent =
    let found = any_at (λ conflict. is_part conflict kept) conflicts holds in
    let at = place_of found.member in
    let conflict : IsMinimalConflict p found.item = subst (IsMinimalConflict p) (at.is found.item) (minimal at.place found.item at.within) in
    conflict.inconsistent (consistent_fewer p found.item kept (part_within found.item kept found.passes) consistent)

-- at the end
pub grown_maximal : (p : Problem) (kept : List Bool) (count : ℕ) → length kept ≤ count → IsGrown p count kept → IsMaximalConsistent p kept
grown_maximal p kept count all so = record {
  flags = so.flags;
  consistent = so.consistent;
  maximal = λ more flags part consistent.
      let low = in_length kept part.place false part.gone in
      so.full part.place (omega (arith, low, all)) part.gone (consistent_fewer p (set kept part.place true) more (within_have kept more part.place part.within part.there) consistent);
}
