-- The least conflict is one, and without any one of its articulations it is consistent.
use Rattle.std.proofs.Common.{◌≡◌, ℕ, zero, suc, Bool, true, false, ◌&&◌, ◌⊎◌, inl, inr, List, [], ◌∷◌, length, set, refl, sym, ◌∙◌, subst, true≢false, is_lt, Ordering, Equal, IsTrue, length-set, eq-eqb, eqb-true}
use Rattle.std.specs.Prelude.{Some, slice_get, nat_lt, ◌==◌}
use Rattle.std.specs.List.{list_all}
use Rattle.std.proofs.lemmas.Bool.{not-true}
use Rattle.std.specs.Ordering.{nat_cmp}
use Rattle.std.proofs.lemmas.Cmp.{on_total, nat_cmp_total}
use Rattle.world_model.specs.Problem.{Problem, restricted, is_problem, is_full, is_concept, is_articulation, is_about_pair}
use Rattle.world_model.specs.Questions.{IsMet, IsConsistent, IsLeastConflict, HasFlags, flag_number, flags_cmp}
use Rattle.world_model.proofs.OrderPositions.{same_level}

abbrev flag_cmp : Bool → Bool → Ordering
flag_cmp x y = nat_cmp (flag_number x) (flag_number y)

exact_flags : (x y : Bool) → flag_cmp x y ≡ Equal → x ≡ y
exact_flags true true e = refl
exact_flags false false e = refl
exact_flags x y e = cc

pub one_least : (p : Problem) (a b : List Bool) → IsLeastConflict p a → IsLeastConflict p b → a ≡ b
one_least p a b x y =
    same_level flag_cmp exact_flags (on_total flag_number nat_cmp_total) a b
    (not-true (is_lt (flags_cmp a b)) (y.least a x.flags x.inconsistent))
    (not-true (is_lt (flags_cmp b a)) (x.least b y.flags y.inconsistent))

-- without one of its flags a list is smaller
without_one : (kept : List Bool) (k : ℕ) → slice_get kept k ≡ Some true → is_lt (flags_cmp (set kept k false) kept) ≡ true
without_one [] k h = cc
without_one (true ∷ kept) zero h = refl
without_one (false ∷ kept) zero h = cc
without_one (true ∷ kept) (suc k) h = without_one kept k h
without_one (false ∷ kept) (suc k) h = without_one kept k h

-- a problem with other flags, as many, is one
pub restricted_is : (p : Problem) (kept : List Bool) → IsTrue (is_problem p) → HasFlags p kept → HasFlags p p.kept → IsTrue (is_problem (restricted p kept))
restricted_is p kept h flags had =
    subst
    (λ b. IsTrue (is_full p p.names && is_full p p.parents && is_full p p.children && list_all (λ owner. nat_lt owner (length p.taxonomies)) p.owners &&
    list_all (list_all (is_concept p)) p.children && b && list_all (is_articulation p) p.articulations && list_all (is_about_pair p) p.narrowings))
    (eq-eqb _ _ had ∙ sym (eq-eqb _ _ flags)) h

second_of : (a b c d : Bool) → (a && b && c && d) ≡ true → b ≡ true
second_of a true c d h = refl
second_of true false c d h = h
second_of false false c d h = h

-- each problem has as many flags as articulations
pub has_flags : (p : Problem) → IsTrue (is_problem p) → HasFlags p p.kept
has_flags p h =
    eqb-true (length p.kept) (length p.articulations)
    (second_of
    (is_full p p.names && is_full p p.parents && is_full p p.children && list_all (λ owner. nat_lt owner (length p.taxonomies)) p.owners &&
    list_all (list_all (is_concept p)) p.children)
    (length p.kept == length p.articulations) (list_all (is_articulation p) p.articulations) (list_all (is_about_pair p) p.narrowings) h)

-- without one of its articulations the least conflict is consistent, where that can be decided
pub tight_conflict : ((q : Problem) → IsTrue (is_problem q) → IsMet q ⊎ (IsMet q → ⊥)) →
    (p : Problem) → IsTrue (is_problem p) → (kept : List Bool) (k : ℕ) → IsLeastConflict p kept → slice_get kept k ≡ Some true → IsConsistent p (set kept k false)
tight_conflict decide p h kept k least there =
    elim (decide (restricted p fewer) (restricted_is p fewer h flags (has_flags p h))) [
      | inl met ↦ met
      | inr not_met ↦ absurd (true≢false (sym (without_one kept k there) ∙ not-true (is_lt (flags_cmp fewer kept)) (least.least fewer flags not_met)))
    ]
  where
    fewer : List Bool
    fewer = set kept k false

    flags : HasFlags p fewer
    flags = length-set kept k false ∙ least.flags
