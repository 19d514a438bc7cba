-- The test of a point, part by part.
use Rattle.std.proofs.Common.{◌≡◌, ℕ, zero, suc, ◌+◌, ◌<◌, Bool, true, false, not, ◌&&◌, ◌||◌, List, [], ◌∷◌, length, get_or, refl, sym, ap, subst, ◌∙◌, arith}
use Rattle.std.specs.Prelude.{◌==◌}
use Rattle.std.specs.List.{list_all, range_with_len}
use Rattle.std.proofs.lemmas.Bool.{and_from, and_parts, true≢false, false_from_ne_true}
use Rattle.std.proofs.lemmas.List.Folds.{list_all-append}
use Rattle.rcc5_core.specs.declared.RelSet.{RelSet}
use Rattle.rcc5_core.specs.Region.{forced_regions}
use Rattle.world_model.specs.Problem.{Problem, pairs, pair_count}
use Rattle.world_model.specs.Node.{pair_at}
use Rattle.world_model.specs.Alive.{bit_of, allowed, forced_of, forced_pairs, avoids, is_point, meets_structure}
use Rattle.world_model.proofs.Members.{all_at, all_from, from_filter, In-range, from_range}
use Rattle.constraint_set.proofs.Lists.{range_more}
use Rattle.constraint_set.proofs.PointTests.{avoids_each, forced_avoids}
use Rattle.world_model.specs.Points.{forced_at, has_empty, empty_pairs, avoids_at}

-- a test of all numbers below one more, and one that fails
pub range_all_more : (test : ℕ → Bool) (i : ℕ) → list_all test (range_with_len 0 i) ≡ true → test i ≡ true → list_all test (range_with_len 0 (i + 1)) ≡ true
range_all_more test i before now =
    ap (list_all test) (range_more i) ∙ list_all-append test (range_with_len 0 i) (i ∷ []) ∙
    and_from (list_all test (range_with_len 0 i)) (list_all test (i ∷ [])) before (and_from (test i) true now refl)

pub range_all_not : (test : ℕ → Bool) (n i : ℕ) → i < n → test i ≡ false → list_all test (range_with_len 0 n) ≡ false
range_all_not test n i small fails = false_from_ne_true (list_all test (range_with_len 0 n)) (λ all. true≢false (sym (all_at test all (In-range 0 n i (omega arith) (omega arith))) ∙ fails))

-- where the first has not the point, no two of some concepts have it with the first
pub apart_of_none : (bits : List Bool) (child : ℕ) (others : List ℕ) → bit_of bits child ≡ false → list_all (λ other. (child == other) || not (bit_of bits child && bit_of bits other)) others ≡ true
apart_of_none bits child others h =
    all_from (λ other. (child == other) || not (bit_of bits child && bit_of bits other)) others
    (λ other i. subst (λ b. ((child == other) || not (b && bit_of bits other)) ≡ true) (sym h) (passes (child == other)))
  where
    passes : (a : Bool) → (a || true) ≡ true
    passes true = refl
    passes false = refl

-- what the pairs below a number allow
pub record AreAllowedBelow (p : Problem) (sets : List RelSet) (n : ℕ) : Type 0 where
  pub counted : length sets ≡ n
  pub each : (k : ℕ) (d : RelSet) → k < n → get_or sets k d ≡ allowed p (pair_at p k)

-- and back
avoids_forced : (p : Problem) (bits : List Bool) (ps : List (ℕ × ℕ)) → list_all (avoids bits) (forced_of p ps) ≡ true → (k : ℕ) → k < length ps →
    avoids bits (get_or ps k (0, 0), forced_regions (allowed p (get_or ps k (0, 0)))) ≡ true
avoids_forced p bits [] h k small = absurd (omega arith)
avoids_forced p bits (pair ∷ rest) h zero small = (and_parts (avoids bits (pair, forced_regions (allowed p pair))) (list_all (avoids bits) (forced_of p rest)) h).0
avoids_forced p bits (pair ∷ rest) h (suc k) small =
    avoids_forced p bits rest (and_parts (avoids bits (pair, forced_regions (allowed p pair))) (list_all (avoids bits) (forced_of p rest)) h).1 k (omega arith)

-- so it is a point just where it meets the structure and avoids these pairs
pub point_by_pairs : (p : Problem) (bits : List Bool) → (meets_structure p bits && list_all (avoids_at p bits) (empty_pairs p)) ≡ is_point p bits
point_by_pairs p bits = ap (λ b. meets_structure p bits && b) (same (list_all (avoids_at p bits) (empty_pairs p)) (list_all (avoids bits) (forced_pairs p))
    (λ h. forced_avoids p bits (pairs p) (avoids_each p bits h))
    (λ h. all_from (avoids_at p bits) (empty_pairs p) (λ k i.
    let r = from_range 0 (pair_count p) (from_filter (λ pair. has_empty (forced_at p pair)) (range_with_len 0 (pair_count p)) i).0 in
    avoids_forced p bits (pairs p) h k (omega (arith, r.1)))))
  where
    same : (a b : Bool) → (a ≡ true → b ≡ true) → (b ≡ true → a ≡ true) → a ≡ b
    same true b to back = sym (to refl)
    same false true to back = back refl
    same false false to back = refl
