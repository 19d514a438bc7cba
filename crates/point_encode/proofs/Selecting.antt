-- The selectors of a prefix, added pair by pair and sum by sum.
use Rattle.std.proofs.Common.{◌≡◌, ℕ, ◌+◌, ◌*◌, ◌<◌, ◌≤◌, Bool, false, cond, List, [], ◌∷◌, ◌++◌, length, drop, get_or, sym, ap, ◌∙◌, arith}
use Rattle.std.specs.Prelude.{slice_get, Some}
use Rattle.std.proofs.lemmas.List.{append_assoc, append-nil, at_drop_more, at_drop_all}
use Rattle.std.proofs.lemmas.Option.{get_or_from_slice_get}
use Rattle.rcc5_core.specs.declared.Rel.{Rel}
use Rattle.rcc5_core.specs.Region.{forced_regions}
use Rattle.world_model.specs.Problem.{Problem, pairs, pair_count}
use Rattle.world_model.specs.Alive.{allowed, forced_of, problem_at}
use Rattle.world_model.specs.Node.{pair_at}
use Rattle.point_encode.specs.Model.Clauses.{is_so}
use Rattle.point_encode.specs.Model.Forced.{pair_selectors, region_selectors, sum_selectors}

-- one more pair is looked at
pub pair_selected : (p : Problem) (m : List Rel) (done more all : List ℕ) (first k : ℕ) → k < pair_count p →
    more ≡ done ++ pair_selectors (first + 3 * k) (forced_regions (allowed (problem_at p m) (pair_at p k))) →
    done ++ region_selectors (first + 3 * k) (forced_of (problem_at p m) (drop k (pairs p))) ≡ all →
    more ++ region_selectors (first + 3 * (k + 1)) (forced_of (problem_at p m) (drop (k + 1) (pairs p))) ≡ all
pair_selected p m done more all first k within is left =
    let q = problem_at p m in
    let now = pair_selectors (first + 3 * k) (forced_regions (allowed q (pair_at p k))) in
    let next : first + 3 * (k + 1) ≡ first + 3 * k + 3 = omega arith in
    ap (λ n. more ++ region_selectors n (forced_of q (drop (k + 1) (pairs p)))) next
    ∙ ap (λ l. l ++ region_selectors (first + 3 * k + 3) (forced_of q (drop (k + 1) (pairs p)))) is
    ∙ append_assoc done now (region_selectors (first + 3 * k + 3) (forced_of q (drop (k + 1) (pairs p))))
    ∙ ap (λ l. done ++ l) (sym (at_drop_more (λ qs. region_selectors (first + 3 * k) (forced_of q qs)) (pairs p) k (0, 0) within))
    ∙ left

-- one more sum is looked at
pub sum_selected : (kept : List Bool) (places done more all : List ℕ) (first k : ℕ) → k < length places →
    more ≡ done ++ cond (get_or kept (get_or places k 0) false) (is_so (first + k) ∷ []) [] →
    done ++ sum_selectors kept (first + k) (drop k places) ≡ all → more ++ sum_selectors kept (first + (k + 1)) (drop (k + 1) places) ≡ all
sum_selected kept places done more all first k within is left =
    let now = cond (get_or kept (get_or places k 0) false) (is_so (first + k) ∷ []) [] in
    let next : first + (k + 1) ≡ first + k + 1 = omega arith in
    ap (λ n. more ++ sum_selectors kept n (drop (k + 1) places)) next
    ∙ ap (λ l. l ++ sum_selectors kept (first + k + 1) (drop (k + 1) places)) is
    ∙ append_assoc done now (sum_selectors kept (first + k + 1) (drop (k + 1) places))
    ∙ ap (λ l. done ++ l) (sym (at_drop_more (sum_selectors kept (first + k)) places k 0 within))
    ∙ left

-- the flag of a sum that is kept, or is not
pub flag_is : (kept : List Bool) (place at : ℕ) (b : Bool) → slice_get kept place ≡ Some b → place ≡ at → get_or kept at false ≡ b
flag_is kept place at b found same = ap (λ k. get_or kept k false) (sym same) ∙ get_or_from_slice_get kept place b false found

-- all sums were looked at
pub sums_selected : (kept : List Bool) (places done all : List ℕ) (first k : ℕ) → length places ≤ k → done ++ sum_selectors kept (first + k) (drop k places) ≡ all → done ≡ all
sums_selected kept places done all first k past left =
    sym (append-nil done) ∙ ap (λ l. done ++ l) (sym (at_drop_all (sum_selectors kept (first + k)) places k past)) ∙ left
