-- The number of a pair.
use Rattle.std.proofs.Common.{◌≡◌, ◌==◌, ◌<◌, ℕ, Bool, true, false, refl, sym, ap, ◌∙◌, arith}
use Rattle.std.proofs.lemmas.Bool.{false_from_ne_true}
use Rattle.std.proofs.lemmas.Bool.Decides.{Decides-eqb}
use Rattle.std.proofs.lemmas.List.Sums.{position_or_len_is}
use Rattle.world_model.specs.Problem.{Problem, pairs, pair_count}
use Rattle.world_model.specs.Node.{pair_at}
use Rattle.desk_run.specs.Script.Acts.{is_pair, pair_number}

pair_passes : (i j : ℕ) → is_pair i j (i, j) ≡ true
pair_passes i j = rw ((Decides-eqb i i).1 refl, (Decides-eqb j j).1 refl) refl

other_fails : (i j : ℕ) (pair : ℕ × ℕ) → is_pair i j pair ≡ true → pair ≡ (i, j)
other_fails i j pair e = by (pair.0 == i) (pair.1 == j) refl refl
  where
    by : (x y : Bool) → (pair.0 == i) ≡ x → (pair.1 == j) ≡ y → pair ≡ (i, j)
    by true true at_i at_j = ap (λ left. (left, pair.1)) ((Decides-eqb pair.0 i).0 at_i) ∙ ap (λ right. (i, right)) ((Decides-eqb pair.1 j).0 at_j)
    by true false at_i at_j = let h = rw (at_i, at_j) at e in cc
    by false y at_i at_j = let h = rw at_i at e in cc

-- the one number at which a pair stands is its number
pub only_number : (p : Problem) (i j k : ℕ) → k < pair_count p → pair_at p k ≡ (i, j) → ((m : ℕ) → m < pair_count p → pair_at p m ≡ (i, j) → m ≡ k) → k ≡ pair_number p i j
only_number p i j k within at only =
    sym (position_or_len_is (is_pair i j) (pairs p) k (0, 0) (omega arith) before (λ _. ap (is_pair i j) at ∙ pair_passes i j))
  where
    before : (m : ℕ) → m < k → is_pair i j (pair_at p m) ≡ false
    before m lt = false_from_ne_true (is_pair i j (pair_at p m)) (λ t. let same : m ≡ k = only m (omega arith) (other_fails i j (pair_at p m) t) in absurd (omega arith))

pub ruleset pair_rules = (only_number)
