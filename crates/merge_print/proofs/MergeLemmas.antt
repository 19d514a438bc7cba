-- The relation at a pair, leaders, and what is under what.
use Rattle.std.proofs.Common.{◌≡◌, ◌+◌, ◌<◌, ◌==◌, ℕ, Bool, true, false, not, ◌&&◌, List, [], ◌++◌, Some, Result, Ok, Err, IfOk, length, map, get_or, refl, sym, ap, ◌∙◌, arith}
use Rattle.std.specs.Prelude.{filter, flat_map, All, slice_get, unwrap_or, slice_index_or}
use Rattle.std.specs.List.{range_with_len, list_any, position_or_len}
use Rattle.std.proofs.lemmas.Bool.{and_parts, eqb-true, eq-eqb, false_from_ne_true}
use Rattle.std.proofs.lemmas.List.{get_or-map}
use Rattle.std.proofs.lemmas.List.Elements.{All-weaker, All-filter}
use Rattle.std.proofs.lemmas.List.Sums.{position_or_len_is}
use Rattle.std.proofs.lemmas.Option.{get_or_from_slice_get}
use Rattle.rcc5_core.specs.declared.Rel.{Rel}
use Rattle.rcc5_core.specs.declared.Rel.TheVariants.{Disjoint}
use Rattle.world_model.specs.Problem.{Problem, pairs, pair_count, concept_count}
use Rattle.world_model.specs.Node.{pair_at}
use Rattle.merge_print.specs.Merged.{is_pair, pair_relation, relation_between, are_equal, is_within, leader_of, is_below, all_above, just_above, under_of, row_has}
use Rattle.merge_print.proofs.ListLemmas.{first_found, filter_same, any_same, flat_map_same, flat_map_next, range_below, filtered_below}

-- a pair is the first one of its kind where it is the only one
pair_found : (p : Problem) (x y k : ℕ) → k < pair_count p → pair_at p k ≡ (x, y) → ((j : ℕ) → j < pair_count p → pair_at p j ≡ (x, y) → j ≡ k) → position_or_len (is_pair x y) (pairs p) ≡ k
pair_found p x y k lt at only = position_or_len_is (is_pair x y) (pairs p) k (0, 0) (omega arith) before here
  where
    before : (j : ℕ) → j < k → is_pair x y (get_or (pairs p) j (0, 0)) ≡ false
    before j less = false_from_ne_true (is_pair x y (pair_at p j))
        (λ e. let parts = and_parts ((pair_at p j).0 == x) ((pair_at p j).1 == y) e in
        let left = eqb-true (pair_at p j).0 x parts.0 in
        let right = eqb-true (pair_at p j).1 y parts.1 in
        let within : j < pair_count p = omega arith in
        let same : pair_at p j ≡ (x, y) = ap (λ a. (a, (pair_at p j).1)) left ∙ ap (λ b. (x, b)) right in
        let one = only j within same in
        omega arith)

    here : k < length (pairs p) → is_pair x y (get_or (pairs p) k (0, 0)) ≡ true
    here within = ap (is_pair x y) at ∙ ap (λ b. b && (y == y)) (eq-eqb x x refl) ∙ eq-eqb y y refl

-- what stands in the table at the number of a pair
pub pair_read : (p : Problem) (table : List Rel) (x y k : ℕ) (rel : Rel) → k < pair_count p → pair_at p k ≡ (x, y)
    → ((j : ℕ) → j < pair_count p → pair_at p j ≡ (x, y) → j ≡ k) → slice_get table k ≡ Some rel → rel ≡ pair_relation p table x y
unfolding pair_relation
pair_read p table x y k rel lt at only read =
    sym (ap (λ n. slice_index_or table n Disjoint) (pair_found p x y k lt at only) ∙ get_or_from_slice_get table k rel Disjoint read)

-- a concept equals itself
pub equals_itself : (p : Problem) (table : List Rel) (c : ℕ) → are_equal p table c c ≡ true
unfolding relation_between
equals_itself p table c = rw (eq-eqb c c refl) refl

-- the first concept that equals it
pub leader_found : (p : Problem) (table : List Rel) (c i : ℕ) → i < concept_count p → ((k : ℕ) → k < i → are_equal p table k c ≡ false) → are_equal p table i c ≡ true → i ≡ leader_of p table c
leader_found p table c i lt before at = sym (ap (λ o. unwrap_or o c) (first_found (λ d. are_equal p table d c) (concept_count p) i lt before at))

pub leads_itself : (p : Problem) (table : List Rel) (c : ℕ) → c < concept_count p → ((k : ℕ) → k < c → are_equal p table k c ≡ false) → c ≡ leader_of p table c
leads_itself p table c lt before = leader_found p table c c lt before (equals_itself p table c)

-- two orders that agree on the first n places
abbrev pub Agree : (ℕ → ℕ → Bool) → (ℕ → ℕ → Bool) → ℕ → Type 0
Agree f g n = (c q : ℕ) → c < n → q < n → f c q ≡ g c q

all_above_same : (f g : ℕ → ℕ → Bool) (n c : ℕ) → Agree f g n → c < n → all_above f n c ≡ all_above g n c
all_above_same f g n c agree lt = filter_same (f c) (g c) (range_with_len 0 n) (All-weaker (λ q. q < n) (λ q. f c q ≡ g c q) (λ q within. agree c q lt within) (range_with_len 0 n) (range_below n))

just_above_same : (f g : ℕ → ℕ → Bool) (n c : ℕ) → Agree f g n → c < n → just_above f n c ≡ just_above g n c
just_above_same f g n c agree lt =
    filter_same (λ q. not (list_any (λ m. f m q) (all_above f n c))) (λ q. not (list_any (λ m. g m q) (all_above f n c))) (all_above f n c)
    (All-weaker (λ q. q < n) (λ q. not (list_any (λ m. f m q) (all_above f n c)) ≡ not (list_any (λ m. g m q) (all_above f n c)))
    (λ q within. ap not (any_same (λ m. f m q) (λ m. g m q) (all_above f n c)
    (All-weaker (λ m. m < n) (λ m. f m q ≡ g m q) (λ m less. agree m q less within) (all_above f n c) (filtered_below (f c) n))))
    (all_above f n c) (filtered_below (f c) n))
    ∙ ap (λ above. filter (λ q. not (list_any (λ m. g m q) above)) above) (all_above_same f g n c agree lt)

-- the numbers of two classes at these places
abbrev pub numbers : ℕ → ℕ → ℕ × ℕ
numbers c q = (c + 1, q + 1)

under_same : (f g : ℕ → ℕ → Bool) (n : ℕ) → Agree f g n → under_of f n ≡ under_of g n
under_same f g n agree =
    flat_map_same (λ c. map (numbers c) (just_above f n c)) (λ c. map (numbers c) (just_above g n c)) (range_with_len 0 n)
    (All-weaker (λ c. c < n) (λ c. map (numbers c) (just_above f n c) ≡ map (numbers c) (just_above g n c))
    (λ c within. ap (map (numbers c)) (just_above_same f g n c agree within)) (range_with_len 0 n) (range_below n))

-- the rows of all leaders
abbrev pub rows_of : Problem → List Rel → List ℕ → List (List Bool)
rows_of p table heads = map (λ h. map (is_within p table h) heads) heads

rows_agree : (p : Problem) (table : List Rel) (heads : List ℕ) → Agree (row_has (rows_of p table heads)) (is_below p table heads) (length heads)
rows_agree p table heads c q c_within q_within =
    ap (λ row. slice_index_or row q false) (get_or-map (λ h. map (is_within p table h) heads) heads c 0 [] c_within)
    ∙ get_or-map (is_within p table (get_or heads c 0)) heads q 0 false q_within

pub under_by_rows : (p : Problem) (table : List Rel) (heads : List ℕ) → under_of (row_has (rows_of p table heads)) (length heads) ≡ under_of (is_below p table heads) (length heads)
under_by_rows p table heads = under_same (row_has (rows_of p table heads)) (is_below p table heads) (length heads) (rows_agree p table heads)

-- those just above are within the range
pub just_below : (f : ℕ → ℕ → Bool) (n c : ℕ) → All (λ q. q < n) (just_above f n c)
just_below f n c = All-filter (λ q. not (list_any (λ m. f m q) (all_above f n c))) (λ q. q < n) (all_above f n c) (filtered_below (f c) n)

-- what follows where a call answers Ok
pub if_ok : {V E : Type 0} (P Q : V → Type 0) (r : Result V E) → ((v : V) → P v → Q v) → IfOk r P → IfOk r Q
if_ok P Q (Ok v) f h = f v h
if_ok P Q (Err e) f h = tt

-- one class more, with those that it is under
pub under_put : (below : ℕ → ℕ → Bool) (n c : ℕ) (old new : List (ℕ × ℕ)) (above : List ℕ) → old ≡ flat_map (λ c. map (numbers c) (just_above below n c)) (range_with_len 0 c)
    → above ≡ just_above below n c → new ≡ old ++ map (numbers c) above → new ≡ flat_map (λ c. map (numbers c) (just_above below n c)) (range_with_len 0 (c + 1))
under_put below n c old new above was is more =
    more ∙ ap (λ o. o ++ map (numbers c) above) was ∙ ap (λ a. flat_map (λ c. map (numbers c) (just_above below n c)) (range_with_len 0 c) ++ map (numbers c) a) is
    ∙ sym (flat_map_next (λ c. map (numbers c) (just_above below n c)) c)
