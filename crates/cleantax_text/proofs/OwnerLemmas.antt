-- Whose a concept is, by its number.
use Rattle.std.proofs.Common.{◌≡◌, ◌+◌, ◌-◌, ◌<◌, ◌≤◌, ◌==◌, ℕ, suc, zero, Bool, true, false, not, List, [], ◌∷◌, ◌++◌, Option, None, Some, length, take, get_or, replicate, position, refl, sym, ap, subst, ◌∙◌, arith, append_assoc, add-zero}
use Rattle.std.specs.Prelude.{option_map, option_and_then, sum_by, bytes_eq, nat_lt, ◌&&◌}
use Rattle.std.specs.List.{list_all}
use Rattle.std.proofs.lemmas.Bool.{and_parts, lt-ltb, ltb-true}
use Rattle.std.proofs.lemmas.List.{append-nil, length-append, length-replicate, get_or_append_left, get_or-append-add, get_or-replicate, take_all, take_more}
use Rattle.std.proofs.lemmas.List.Sums.{sum_by-cons}
use Rattle.std.proofs.lemmas.List.Quantifiers.{position-Some}
use Rattle.taxon_tree.specs.Trees.{Trees, no_trees, number_of}
use Rattle.world_model.specs.Problem.{is_articulation, is_concept, is_cross}
use Rattle.world_model.specs.declared.Articulation.{Articulation}
use Rattle.world_model.specs.declared.Articulation.TheVariants.{Pair, Sum}
use Rattle.constraint_set.specs.Build.{size_of, owners_from}
use Rattle.cleantax_text.specs.Reading.{Reading, concepts_before, concept_number}
use Rattle.cleantax_text.specs.Kept.{of_owners}

pub owners_from-append : (which : ℕ) (fs gs : List Trees) → owners_from which (fs ++ gs) ≡ owners_from which fs ++ owners_from (which + length fs) gs
owners_from-append which [] gs = ap (λ n. owners_from n gs) (sym (add-zero which))
owners_from-append which (f ∷ fs) gs =
    let n : which + 1 + length fs ≡ which + suc (length fs) = omega arith in
    ap (λ rest. replicate (size_of f) which ++ rest) (owners_from-append (which + 1) fs gs ∙ ap (λ k. owners_from (which + 1) fs ++ owners_from k gs) n)
    ∙ sym (append_assoc (replicate (size_of f) which) (owners_from (which + 1) fs) (owners_from (which + suc (length fs)) gs))

pub length-owners_from : (which : ℕ) (fs : List Trees) → length (owners_from which fs) ≡ sum_by size_of fs
length-owners_from which [] = refl
length-owners_from which (f ∷ fs) =
    length-append (replicate (size_of f) which) (owners_from (which + 1) fs)
    ∙ ap (λ n. n + length (owners_from (which + 1) fs)) (length-replicate (size_of f) which)
    ∙ ap (λ n. size_of f + n) (length-owners_from (which + 1) fs)
    ∙ sym (sum_by-cons size_of f fs)

-- a concept of the forest with this number has this owner
pub owner_at : (which k : ℕ) (fs : List Trees) (c : ℕ) → k < length fs → c < size_of (get_or fs k no_trees)
    → get_or (owners_from which fs) (sum_by size_of (take k fs) + c) 0 ≡ which + k
owner_at which k [] c h g = absurd (omega arith)
owner_at which zero (f ∷ fs) c h g =
    let n : c < length (replicate (size_of f) which) = rw (length-replicate (size_of f) which) g in
    let at : sum_by size_of (take 0 (f ∷ fs)) + c ≡ c = omega arith in
    ap (λ i. get_or (owners_from which (f ∷ fs)) i 0) at
    ∙ get_or_append_left (replicate (size_of f) which) (owners_from (which + 1) fs) 0 c n
    ∙ get_or-replicate (size_of f) c which 0 g
    ∙ sym (add-zero which)
owner_at which (suc k) (f ∷ fs) c h g =
    let n : length (replicate (size_of f) which) ≡ size_of f = length-replicate (size_of f) which in
    let s : sum_by size_of (f ∷ take k fs) ≡ size_of f + sum_by size_of (take k fs) = sum_by-cons size_of f (take k fs) in
    let at : sum_by size_of (f ∷ take k fs) + c ≡ length (replicate (size_of f) which) + (sum_by size_of (take k fs) + c) = omega arith in
    let last : which + 1 + k ≡ which + suc k = omega arith in
    ap (λ i. get_or (owners_from which (f ∷ fs)) i 0) at
    ∙ get_or-append-add (replicate (size_of f) which) (owners_from (which + 1) fs) (sum_by size_of (take k fs) + c) 0
    ∙ owner_at (which + 1) k fs c (omega arith) g
    ∙ last

-- and its number is that of a concept
pub number_at : (k : ℕ) (fs : List Trees) (c : ℕ) → k < length fs → c < size_of (get_or fs k no_trees) → sum_by size_of (take k fs) + c < sum_by size_of fs
number_at k [] c h g = absurd (omega arith)
number_at zero (f ∷ fs) c h g =
    let s : sum_by size_of (f ∷ fs) ≡ size_of f + sum_by size_of fs = sum_by-cons size_of f fs in
    let z : sum_by size_of (take 0 (f ∷ fs)) ≡ 0 = refl in
    omega (arith, s, z, g)
number_at (suc k) (f ∷ fs) c h g =
    let s : sum_by size_of (f ∷ fs) ≡ size_of f + sum_by size_of fs = sum_by-cons size_of f fs in
    let t : sum_by size_of (f ∷ take k fs) ≡ size_of f + sum_by size_of (take k fs) = sum_by-cons size_of f (take k fs) in
    let rest = number_at k fs c (omega arith) g in
    omega (arith, s, t, rest)

-- what is known of a concept that a reference names
pub record IsFound (r : Reading) (id : List ℕ) (i : ℕ) : Type 0 where
  pub within : i < length (owners_from 0 r.forests)
  pub is_owner : position (bytes_eq id) r.ids ≡ Some (get_or (owners_from 0 r.forests) i 0)

pub number_found : (r : Reading) (reference : List ℕ × List ℕ) (i : ℕ) → length r.ids ≡ length r.forests → concept_number r reference ≡ Some i → IsFound r reference.0 i
number_found r reference i named e = by (position (bytes_eq reference.0) r.ids) refl e
  where
    inner : (which : ℕ) → position (bytes_eq reference.0) r.ids ≡ Some which → (n : Option ℕ) → number_of (get_or r.forests which no_trees) reference.1 ≡ n
        → option_map (λ c. concepts_before r which + c) n ≡ Some i → IsFound r reference.0 i
    inner which p None q h = absurd (cc)
    inner which p (Some c) q h =
        let known = position-Some (bytes_eq reference.0) r.ids which [] p in
        let inside = position-Some (bytes_eq reference.1) (get_or r.forests which no_trees).names c [] q in
        let k : which < length r.forests = omega (arith, known.0, named) in
        let is : concepts_before r which + c ≡ i = cc in
        let owner = owner_at 0 which r.forests c k inside.0 in
        let total = length-owners_from 0 r.forests in
        record {
          within = subst (λ j. j < length (owners_from 0 r.forests)) is (omega (arith, number_at which r.forests c k inside.0, total));
          is_owner = p ∙ ap Some (let z : which ≡ 0 + which = omega arith in z ∙ sym owner ∙ ap (λ j. get_or (owners_from 0 r.forests) j 0) is);
        }

    by : (o : Option ℕ) → position (bytes_eq reference.0) r.ids ≡ o
        → option_and_then (λ which. option_map (λ c. concepts_before r which + c) (number_of (get_or r.forests which no_trees) reference.1)) o ≡ Some i → IsFound r reference.0 i
    by None p h = absurd (cc)
    by (Some which) p h = inner which p (number_of (get_or r.forests which no_trees) reference.1) refl h

-- with more owners behind, an articulation is still one
and3 : (a b c : Bool) → (a && b && c) ≡ true → (a ≡ true) × (b ≡ true) × (c ≡ true)
and3 true true true e = (refl, refl, refl)
and3 true true false e = absurd (cc)
and3 true false c e = absurd (cc)
and3 false b c e = absurd (cc)

pub all3 : (a b c : Bool) → a ≡ true → b ≡ true → c ≡ true → (a && b && c) ≡ true
all3 a b c e f g = rw (e, f, g) refl

pub all2 : (a b : Bool) → a ≡ true → b ≡ true → (a && b) ≡ true
all2 a b e f = rw (e, f) refl

concept_more : (owners more : List ℕ) (c : ℕ) → is_concept (of_owners owners) c ≡ true → is_concept (of_owners (owners ++ more)) c ≡ true
concept_more owners more c h = lt-ltb c (length (owners ++ more)) (let lt = ltb-true c (length owners) h in omega (arith, lt, length-append owners more))

cross_more : (owners more : List ℕ) (l r : ℕ) → l < length owners → r < length owners → is_cross (of_owners (owners ++ more)) (l, r) ≡ is_cross (of_owners owners) (l, r)
cross_more owners more l r a b =
    ap (λ x. not (x == get_or (owners ++ more) r 0)) (get_or_append_left owners more 0 l a)
    ∙ ap (λ y. not (get_or owners l 0 == y)) (get_or_append_left owners more 0 r b)

list_all-along : {X : Type 0} (p q : X → Bool) → ((x : X) → p x ≡ true → q x ≡ true) → (xs : List X) → list_all p xs ≡ true → list_all q xs ≡ true
list_all-along p q f [] h = refl
list_all-along p q f (x ∷ xs) h =
    let parts = and_parts (p x) (list_all p xs) h in
    all2 (q x) (list_all q xs) (f x parts.0) (list_all-along p q f xs parts.1)

pub articulation_more : (owners more : List ℕ) (a : Articulation) → is_articulation (of_owners owners) a ≡ true → is_articulation (of_owners (owners ++ more)) a ≡ true
articulation_more owners more (Pair l r s) h =
    let parts = and3 (nat_lt l r) (is_concept (of_owners owners) r) (is_cross (of_owners owners) (l, r)) h in
    let below = ltb-true l r parts.0 in
    let inside = ltb-true r (length owners) parts.1 in
    all3 (nat_lt l r) (is_concept (of_owners (owners ++ more)) r) (is_cross (of_owners (owners ++ more)) (l, r))
    parts.0 (concept_more owners more r parts.1) (cross_more owners more l r (omega arith) inside ∙ parts.2)
articulation_more owners more (Sum w ps) h =
    let parts = and3 (is_concept (of_owners owners) w) (nat_lt 1 (length ps)) (list_all (λ part. is_concept (of_owners owners) part && is_cross (of_owners owners) (w, part)) ps) h in
    let inside = ltb-true w (length owners) parts.0 in
    all3 (is_concept (of_owners (owners ++ more)) w) (nat_lt 1 (length ps)) (list_all (λ part. is_concept (of_owners (owners ++ more)) part && is_cross (of_owners (owners ++ more)) (w, part)) ps)
    (concept_more owners more w parts.0) parts.1
    (list_all-along (λ part. is_concept (of_owners owners) part && is_cross (of_owners owners) (w, part)) (λ part. is_concept (of_owners (owners ++ more)) part && is_cross (of_owners (owners ++ more)) (w, part))
    (λ part g. let both = and_parts (is_concept (of_owners owners) part) (is_cross (of_owners owners) (w, part)) g in
    all2 (is_concept (of_owners (owners ++ more)) part) (is_cross (of_owners (owners ++ more)) (w, part))
    (concept_more owners more part both.0) (cross_more owners more w part inside (ltb-true part (length owners) both.0) ∙ both.1))
    ps parts.2)

pub articulations_more : (owners more : List ℕ) (xs : List Articulation) → list_all (is_articulation (of_owners owners)) xs ≡ true → list_all (is_articulation (of_owners (owners ++ more))) xs ≡ true
articulations_more owners more xs h = list_all-along (is_articulation (of_owners owners)) (is_articulation (of_owners (owners ++ more))) (articulation_more owners more) xs h

-- the last element of a list apart from the others
pub last_apart : {X : Type 0} (xs : List X) (d : X) → 0 < length xs → take (length xs - 1) xs ++ get_or xs (length xs - 1) d ∷ [] ≡ xs
last_apart xs d some =
    let n : length xs - 1 + 1 ≡ length xs = omega arith in
    sym (take_more xs (length xs - 1) d (omega arith)) ∙ ap (λ k. take k xs) n ∙ take_all (length xs) xs (omega arith)

replicate_apart : (m n x : ℕ) → replicate (m + n) x ≡ replicate m x ++ replicate n x
replicate_apart zero n x = let e : 0 + n ≡ n = omega arith in ap (λ k. replicate k x) e
replicate_apart (suc m) n x =
    let e : suc m + n ≡ suc (m + n) = omega arith in
    ap (λ k. replicate k x) e ∙ ap (λ rest. x ∷ rest) (replicate_apart m n x)

-- where the last forest grows, more owners stand behind those that were there
pub owners_grown : (first : List Trees) (f g : Trees) → size_of f ≤ size_of g
    → owners_from 0 (first ++ g ∷ []) ≡ owners_from 0 (first ++ f ∷ []) ++ replicate (size_of g - size_of f) (0 + length first)
owners_grown first f g h =
    let n : size_of g ≡ size_of f + (size_of g - size_of f) = omega arith in
    let w = 0 + length first in
    let more : replicate (size_of g) w ++ [] ≡ (replicate (size_of f) w ++ []) ++ replicate (size_of g - size_of f) w =
    append-nil (replicate (size_of g) w) ∙ ap (λ k. replicate k w) n ∙ replicate_apart (size_of f) (size_of g - size_of f) w
    ∙ ap (λ xs. xs ++ replicate (size_of g - size_of f) w) (sym (append-nil (replicate (size_of f) w))) in
    owners_from-append 0 first (g ∷ [])
    ∙ ap (λ xs. owners_from 0 first ++ xs) more
    ∙ sym (append_assoc (owners_from 0 first) (replicate (size_of f) w ++ []) (replicate (size_of g - size_of f) w))
    ∙ ap (λ xs. xs ++ replicate (size_of g - size_of f) w) (sym (owners_from-append 0 first (f ∷ [])))
