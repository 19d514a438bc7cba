-- What follows at a pair, and what is in conflict where the pair is narrowed to the other relations.
use Rattle.std.proofs.Common.{◌≡◌, ℕ, Bool, true, false, ◌&&◌, not, List, [], ◌∷◌, inl, inr, refl, sym, ap, ◌∙◌}
use Rattle.std.specs.Prelude.{IsTrue, set}
use Rattle.std.specs.List.{list_all}
use Rattle.std.proofs.lemmas.Bool.{and_parts, and_from, cases_Bool, false≢true}
use Rattle.std.proofs.lemmas.List.Folds.{list_all-append}
use Rattle.rcc5_core.specs.declared.Rel.{Rel}
use Rattle.rcc5_core.specs.declared.Rel.TheVariants.{Equals, Includes, IncludedIn, Overlaps, Disjoint}
use Rattle.rcc5_core.specs.declared.RelSet.{RelSet}
use Rattle.rcc5_core.specs.RelationSet.{has, rels_that}
use Rattle.rcc5_core.specs.Relation.{relation_of}
use Rattle.world_model.specs.Problem.{Problem, Constraint, concepts, kept_articulations, narrowed, restricted}
use Rattle.world_model.specs.Family.{Family, fits_concepts, holds, meets, set_of}
use Rattle.world_model.specs.Questions.{IsConsistent, IsLeastConflict}
use Rattle.set_family.specs.Meeting.{IsMetBy}
use Rattle.set_family.specs.Rules.{articulation_holds, rules_at}
use Rattle.set_family.proofs.Holding.{meets_together}
use Rattle.conflict_min.specs.Conflicts.{AreLosses}
use Rattle.conflict_lattice.specs.Explaining.{AreCounters, Entails, IsCounter, IsLeastEntailing, has_there}

-- a test behind others
behind : (a b c d x : Bool) → (a && b && c && (d && (x && true))) ≡ ((a && b && c && d) && x)
behind true true true true true = refl
behind true true true true false = refl
behind true true true false x = refl
behind true true false d x = refl
behind true false c d x = refl
behind false b c d x = refl

-- a family meets a problem with a pair narrowed to a set exactly where it meets the problem and has a relation of the set there
meets_narrowed : (p : Problem) (pair : ℕ × ℕ) (rels : RelSet) (f : Family) → meets (narrowed p pair rels) f ≡ (meets p f && has_there f pair rels)
meets_narrowed p pair rels f =
    let last : Constraint = record { left = pair.0; right = pair.1; set = rels } in
    let fits = fits_concepts p f in
    let rules = list_all (rules_at p f) (concepts p) in
    let stated = list_all (articulation_holds f) (kept_articulations p) in
    sym (meets_together (narrowed p pair rels) f)
    ∙ ap (λ b. fits && rules && stated && b) (list_all-append (holds f) p.narrowings (last ∷ []))
    ∙ behind fits rules stated (list_all (holds f) p.narrowings) (has_there f pair rels)
    ∙ ap (λ b. b && has_there f pair rels) (meets_together p f)

-- the relations that pass a test
has_that : (test : Rel → Bool) (rel : Rel) → has (rels_that test) rel ≡ test rel
has_that test Equals = refl
has_that test Includes = refl
has_that test IncludedIn = refl
has_that test Overlaps = refl
has_that test Disjoint = refl

-- the relations that a set hasn't
abbrev pub others : RelSet → RelSet
others rels = rels_that (λ rel. not (has rels rel))

other_there : (f : Family) (pair : ℕ × ℕ) (rels : RelSet) → has_there f pair (others rels) ≡ not (has_there f pair rels)
other_there f pair rels = has_that (λ rel. not (has rels rel)) (relation_of (set_of f pair.0) (set_of f pair.1))

-- a family with another relation meets the narrowed problem, and one that meets it has another
counter_meets : (p : Problem) (kept : List Bool) (pair : ℕ × ℕ) (rels : RelSet) (f : Family) → IsTrue (meets (restricted p kept) f) → has_there f pair rels ≡ false →
    IsTrue (meets (restricted (narrowed p pair (others rels)) kept) f)
counter_meets p kept pair rels f met outside =
    meets_narrowed (restricted p kept) pair (others rels) f
    ∙ and_from (meets (restricted p kept) f) (has_there f pair (others rels)) met (other_there f pair rels ∙ ap not outside)

meets_counter : (p : Problem) (kept : List Bool) (pair : ℕ × ℕ) (rels : RelSet) (f : Family) → IsTrue (meets (restricted (narrowed p pair (others rels)) kept) f) →
    IsTrue (meets (restricted p kept) f) × (has_there f pair rels ≡ false)
meets_counter p kept pair rels f met =
    let both = and_parts (meets (restricted p kept) f) (has_there f pair (others rels)) (sym (meets_narrowed (restricted p kept) pair (others rels) f) ∙ met) in
    (both.0, turned (has_there f pair rels) (sym (other_there f pair rels) ∙ both.1))
  where
    turned : (b : Bool) → not b ≡ true → b ≡ false
    turned false h = refl
    turned true h = absurd (false≢true h)

-- a set follows exactly where the narrowed problem is in conflict
pub entails_from : (p : Problem) (kept : List Bool) (pair : ℕ × ℕ) (rels : RelSet) → (IsConsistent (narrowed p pair (others rels)) kept → ⊥) → Entails p kept pair rels
entails_from p kept pair rels conflict f met = elim (cases_Bool (has_there f pair rels)) [
  | inl inside ↦ inside
  | inr outside ↦ absurd (conflict (f, counter_meets p kept pair rels f met outside))
]

pub entails_conflict : (p : Problem) (kept : List Bool) (pair : ℕ × ℕ) (rels : RelSet) → Entails p kept pair rels → IsConsistent (narrowed p pair (others rels)) kept → ⊥
entails_conflict p kept pair rels entails met =
    let counter = meets_counter p kept pair rels met.0 met.1 in false≢true (sym counter.1 ∙ entails met.0 counter.0)

-- the least conflict of the narrowed problem is the least that entails
pub least_entails : (p : Problem) (kept : List Bool) (pair : ℕ × ℕ) (rels : RelSet) → IsLeastConflict (narrowed p pair (others rels)) kept → IsLeastEntailing p pair rels kept
least_entails p kept pair rels is = record {
  flags = is.flags;
  entails = entails_from p kept pair rels is.inconsistent;
  least = λ other flags entails. is.least other flags (entails_conflict p other pair rels entails);
}

-- a family that meets the narrowed problem is a counter
pub counter_of : (p : Problem) (kept : List Bool) (pair : ℕ × ℕ) (rels : RelSet) (f : Family) → IsMetBy (restricted (narrowed p pair (others rels)) kept) f → IsCounter p kept pair rels f
counter_of p kept pair rels f met =
    let counter = meets_counter p kept pair rels f met.met in
    record { met_by = record { sets = met.sets; met = counter.0 }; outside = counter.1 }

pub counters_of : (p : Problem) (kept : List Bool) (pair : ℕ × ℕ) (rels : RelSet) (families : List Family) → AreLosses (narrowed p pair (others rels)) kept families → AreCounters p kept pair rels families
counters_of p kept pair rels families losses = record {
  count = losses.count;
  each = λ m place f at got. counter_of p (set kept place false) pair rels f (losses.each m place f at got);
}
