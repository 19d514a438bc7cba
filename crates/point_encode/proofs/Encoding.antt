-- Clauses added concept by concept, pair by pair, and sum by sum.
use Rattle.std.proofs.Common.{◌≡◌, ℕ, ◌+◌, ◌-◌, ◌*◌, ◌<◌, List, [], ◌∷◌, ◌++◌, length, map, take, drop, get_or, sym, ap, ◌∙◌, arith}
use Rattle.std.specs.Prelude.{flat_map, slice_get, Some}
use Rattle.std.specs.List.{range_with_len}
use Rattle.std.proofs.lemmas.List.{append_assoc, append-nil, at_drop_more, map-append, map_more, map_push, take_rest}
use Rattle.std.proofs.lemmas.Grind.{flat_map-append}
use Rattle.std.proofs.lemmas.Option.{get_or_from_slice_get, slice_get_within}
use Rattle.world_model.specs.Problem.{SumRule}
use Rattle.constraint_set.proofs.Lists.{range_more}
use Rattle.point_encode.specs.Model.Clauses.{apart_clause, each_two, pair_clauses, pairs_clauses, sum_clauses, sums_clauses}

-- one more number is looked at
pub one_more : {Y : Type 0} (f : ℕ → List Y) (before done more : List Y) (n : ℕ) → more ≡ done ++ f n →
    done ≡ before ++ flat_map f (range_with_len 0 n) → more ≡ before ++ flat_map f (range_with_len 0 (n + 1))
one_more f before done more n now was =
    now ∙ ap (λ l. l ++ f n) was ∙ append_assoc before (flat_map f (range_with_len 0 n)) (f n)
    ∙ ap (λ l. before ++ l) (sym (ap (flat_map f) (range_more n) ∙ flat_map-append f (range_with_len 0 n) (n ∷ []) ∙ ap (λ l. flat_map f (range_with_len 0 n) ++ l) (append-nil (f n))))

-- one more of a list is looked at
pub one_pushed : {X Y : Type 0} (f : X → Y) (xs : List X) (before done more : List Y) (i : ℕ) (d : X) → i < length xs → more ≡ done ++ f (get_or xs i d) ∷ [] →
    done ≡ before ++ map f (take i xs) → more ≡ before ++ map f (take (i + 1) xs)
one_pushed f xs before done more i d within now was =
    now ∙ ap (λ l. l ++ f (get_or xs i d) ∷ []) was ∙ append_assoc before (map f (take i xs)) (f (get_or xs i d) ∷ [])
    ∙ ap (λ l. before ++ l) (sym (map_more f xs i d within))

-- one more concept is set apart from a concept
pub one_apart : (concept : ℕ) (others : List ℕ) (before done more : List (List ℕ)) (i : ℕ) → i < length others →
    more ≡ done ++ apart_clause (concept, get_or others i 0) ∷ [] → done ≡ before ++ map apart_clause (map (λ other. (concept, other)) (take i others)) →
    more ≡ before ++ map apart_clause (map (λ other. (concept, other)) (take (i + 1) others))
one_apart concept others before done more i within now was =
    let pair : ℕ → ℕ × ℕ = λ other. (concept, other) in
    let here = pair (get_or others i 0) in
    now ∙ ap (λ l. l ++ apart_clause here ∷ []) was ∙ append_assoc before (map apart_clause (map pair (take i others))) (apart_clause here ∷ [])
    ∙ ap (λ l. before ++ l) (sym (ap (map apart_clause) (map_more pair others i 0 within) ∙ map_push apart_clause (map pair (take i others)) here))

-- one more concept is set apart from those after it
pub apart_added : (concepts : List ℕ) (done more all : List (List ℕ)) (k : ℕ) → k < length concepts →
    more ≡ done ++ map apart_clause (map (λ other. (get_or concepts k 0, other)) (take (length concepts - (k + 1)) (drop (k + 1) concepts))) →
    done ++ map apart_clause (each_two (drop k concepts)) ≡ all → more ++ map apart_clause (each_two (drop (k + 1) concepts)) ≡ all
apart_added concepts done more all k within is left =
    let now : List (ℕ × ℕ) = map (λ other. (get_or concepts k 0, other)) (drop (k + 1) concepts) in
    let rest = each_two (drop (k + 1) concepts) in
    let added : more ≡ done ++ map apart_clause now = is ∙ ap (λ l. done ++ map apart_clause (map (λ other. (get_or concepts k 0, other)) l)) (take_rest concepts (k + 1)) in
    ap (λ l. l ++ map apart_clause rest) added
    ∙ append_assoc done (map apart_clause now) (map apart_clause rest)
    ∙ ap (λ l. done ++ l) (sym (map-append apart_clause now rest))
    ∙ ap (λ l. done ++ l) (sym (at_drop_more (λ l. map apart_clause (each_two l)) concepts k 0 within))
    ∙ left

-- one more pair is looked at
pub pair_added : (pairs : List (ℕ × ℕ)) (done more all : List (List ℕ)) (first k : ℕ) → k < length pairs →
    more ≡ done ++ pair_clauses (first + 3 * k) (get_or pairs k (0, 0)) → done ++ pairs_clauses (first + 3 * k) (drop k pairs) ≡ all →
    more ++ pairs_clauses (first + 3 * (k + 1)) (drop (k + 1) pairs) ≡ all
pair_added pairs done more all first k within is left =
    let next : first + 3 * (k + 1) ≡ first + 3 * k + 3 = omega arith in
    let now = pair_clauses (first + 3 * k) (get_or pairs k (0, 0)) in
    let rest = pairs_clauses (first + 3 * k + 3) (drop (k + 1) pairs) in
    ap (λ n. more ++ pairs_clauses n (drop (k + 1) pairs)) next
    ∙ ap (λ l. l ++ rest) is
    ∙ append_assoc done now rest
    ∙ ap (λ l. done ++ l) (sym (at_drop_more (pairs_clauses (first + 3 * k)) pairs k (0, 0) within))
    ∙ left

-- one more sum is looked at
pub sum_added : (sums : List SumRule) (s : SumRule) (done more all : List (List ℕ)) (first k : ℕ) → slice_get sums k ≡ Some s →
    more ≡ done ++ sum_clauses (first + k) s → done ++ sums_clauses (first + k) (drop k sums) ≡ all → more ++ sums_clauses (first + (k + 1)) (drop (k + 1) sums) ≡ all
sum_added sums s done more all first k at is left =
    let next : first + (k + 1) ≡ first + k + 1 = omega arith in
    let rest = sums_clauses (first + k + 1) (drop (k + 1) sums) in
    ap (λ n. more ++ sums_clauses n (drop (k + 1) sums)) next
    ∙ ap (λ l. l ++ rest) is
    ∙ append_assoc done (sum_clauses (first + k) s) rest
    ∙ ap (λ x. done ++ (sum_clauses (first + k) x ++ rest)) (sym (get_or_from_slice_get sums k s s at))
    ∙ ap (λ l. done ++ l) (sym (at_drop_more (sums_clauses (first + k)) sums k s (slice_get_within sums k s at)))
    ∙ left
