-- The needs of a problem, number by number.
use Rattle.std.proofs.Common.{◌≡◌, ℕ, zero, suc, ◌+◌, ◌-◌, ◌*◌, ◌/◌, ◌%◌, ◌<◌, ◌≤◌, Bool, true, false, cond, List, [], ◌∷◌, ◌++◌, map, length, get_or, append_assoc, refl, sym, ap, ◌∙◌, subst, arith}
use Rattle.std.specs.Prelude.{flat_map, if◌then◌else◌}
use Rattle.std.specs.List.{range_with_len}
use Rattle.std.proofs.lemmas.Bool.{lt-ltb, le-ltb}
use Rattle.std.proofs.lemmas.List.{append-nil}
use Rattle.std.proofs.lemmas.Grind.{flat_map-append}
use Rattle.rcc5_core.specs.declared.Region.{Region}
use Rattle.rcc5_core.specs.declared.Region.TheVariants.{LeftOnly, Both, RightOnly}
use Rattle.rcc5_core.specs.declared.Occupancy.TheVariants.{Occupied}
use Rattle.rcc5_core.specs.Region.{word_at, same_word, forced_regions}
use Rattle.world_model.specs.Problem.{Problem, concept_count, concepts, pairs, pair_count}
use Rattle.world_model.specs.Node.{pair_at}
use Rattle.world_model.specs.Alive.{Need, InRegion, InConcept, allowed, forced_of, needs_at, needs}
use Rattle.world_model.proofs.Members.{In, here, there, none_in, In-flat_map, from_flat_map, In-range, from_range, IsOf}
use Rattle.constraint_set.proofs.Lists.{range_split, range_more}
use Rattle.point_encode.specs.Model.Forced.{region_with, need_at, need_count}
use Rattle.world_model.specs.Points.{forced_at}
use Rattle.point_encode.specs.Numbers.{is_needed, one_need, needs_below}
use Rattle.point_pool.proofs.Prefixes.{needed_by, needed_past}

-- a region's need, if it is one
abbrev region_need : Problem → ℕ → Region → List Need
region_need q k region = cond (same_word (word_at (forced_at q k) region) Occupied) (InRegion (pair_at q k) region ∷ []) []

numbered_region : (q : Problem) (number k part : ℕ) → number / 3 ≡ k → number % 3 ≡ part → number < 3 * pair_count q → one_need q number ≡ region_need q k (region_with part)
numbered_region q number k part pair same small =
    let test : is_needed q number ≡ same_word (word_at (forced_at q k) (region_with part)) Occupied =
    needed_by q number small ∙ ap (λ i. same_word (word_at (forced_at q i) (region_with (number % 3))) Occupied) pair ∙ ap (λ i. same_word (word_at (forced_at q k) (region_with i)) Occupied) same in
    let need : need_at q number ≡ InRegion (pair_at q k) (region_with part) =
    ap (λ b. if b then InRegion (pair_at q (number / 3)) (region_with (number % 3)) else InConcept (number - 3 * pair_count q)) (lt-ltb number (3 * pair_count q) small) ∙
    ap (λ i. InRegion (pair_at q i) (region_with (number % 3))) pair ∙ ap (λ i. InRegion (pair_at q k) (region_with i)) same in
    ap (λ b. cond b (need_at q number ∷ []) []) test ∙ ap (λ n. cond (same_word (word_at (forced_at q k) (region_with part)) Occupied) (n ∷ []) []) need

numbered_concept : (q : Problem) (c : ℕ) → one_need q (3 * pair_count q + c) ≡ cond q.switches.nonempty (InConcept c ∷ []) []
numbered_concept q c =
    let number = 3 * pair_count q + c in
    let need : need_at q number ≡ InConcept c =
    ap (λ b. if b then InRegion (pair_at q (number / 3)) (region_with (number % 3)) else InConcept (number - 3 * pair_count q)) (le-ltb number (3 * pair_count q) (omega arith)) ∙
    ap InConcept (omega arith) in
    ap (λ b. cond b (need_at q number ∷ []) []) (needed_past q number (omega arith)) ∙ ap (λ n. cond q.switches.nonempty (n ∷ []) []) need

-- the needs of a pair, one after another
three_regions : (pair : ℕ × ℕ) (a b c : Bool) →
    map (InRegion pair) (cond a (LeftOnly ∷ cond b (Both ∷ cond c (RightOnly ∷ []) []) (cond c (RightOnly ∷ []) [])) (cond b (Both ∷ cond c (RightOnly ∷ []) []) (cond c (RightOnly ∷ []) []))) ≡
    cond a (InRegion pair LeftOnly ∷ []) [] ++ (cond b (InRegion pair Both ∷ []) [] ++ cond c (InRegion pair RightOnly ∷ []) [])
three_regions pair true true true = refl
three_regions pair true true false = refl
three_regions pair true false true = refl
three_regions pair true false false = refl
three_regions pair false true true = refl
three_regions pair false true false = refl
three_regions pair false false true = refl
three_regions pair false false false = refl

-- the needs of pairs from one number on
region_needs : (q : Problem) (ps : List (ℕ × ℕ)) (a : ℕ) → a + length ps ≤ pair_count q → ((k : ℕ) → k < length ps → get_or ps k (0, 0) ≡ pair_at q (a + k)) →
    flat_map needs_at (forced_of q ps) ≡ flat_map (one_need q) (range_with_len (3 * a) (3 * length ps))
region_needs q [] a fits each = refl
region_needs q (pair ∷ rest) a fits each =
    let first : pair ≡ pair_at q a = each 0 (omega arith) ∙ ap (pair_at q) (omega arith) in
    let words = forced_regions (allowed q pair) in
    let here_needs : needs_at (pair, words) ≡ region_need q a LeftOnly ++ (region_need q a Both ++ region_need q a RightOnly) =
    three_regions pair (same_word (word_at words LeftOnly) Occupied) (same_word (word_at words Both) Occupied) (same_word (word_at words RightOnly) Occupied) ∙
    ap (λ p. cond (same_word (word_at (forced_regions (allowed q p)) LeftOnly) Occupied) (InRegion p LeftOnly ∷ []) [] ++
    (cond (same_word (word_at (forced_regions (allowed q p)) Both) Occupied) (InRegion p Both ∷ []) [] ++ cond (same_word (word_at (forced_regions (allowed q p)) RightOnly) Occupied) (InRegion p RightOnly ∷ []) [])) first in
    let zero_is : one_need q (3 * a) ≡ region_need q a LeftOnly = numbered_region q (3 * a) a 0 (omega arith) (omega arith) (omega arith) in
    let one_is : one_need q (3 * a + 1) ≡ region_need q a Both = numbered_region q (3 * a + 1) a 1 (omega arith) (omega arith) (omega arith) in
    let two_is : one_need q (3 * a + 1 + 1) ≡ region_need q a RightOnly = numbered_region q (3 * a + 1 + 1) a 2 (omega arith) (omega arith) (omega arith) in
    let later = region_needs q rest (a + 1) (omega arith) (λ k h. each (suc k) (omega arith) ∙ ap (pair_at q) (omega arith)) in
    let from : 3 * (a + 1) ≡ 3 * a + 1 + 1 + 1 = omega arith in
    let count : 3 * suc (length rest) ≡ suc (suc (suc (3 * length rest))) = omega arith in
    ap (λ ns. ns ++ flat_map needs_at (forced_of q rest)) here_needs ∙
    ap (λ ns. (region_need q a LeftOnly ++ (region_need q a Both ++ region_need q a RightOnly)) ++ ns) (later ∙ ap (λ i. flat_map (one_need q) (range_with_len i (3 * length rest))) from) ∙
    regroup (region_need q a LeftOnly) (region_need q a Both) (region_need q a RightOnly) (flat_map (one_need q) (range_with_len (3 * a + 1 + 1 + 1) (3 * length rest))) ∙
    sym (ap (λ n. flat_map (one_need q) (range_with_len (3 * a) n)) count ∙
    ap (λ ns. ns ++ (one_need q (3 * a + 1) ++ (one_need q (3 * a + 1 + 1) ++ flat_map (one_need q) (range_with_len (3 * a + 1 + 1 + 1) (3 * length rest))))) zero_is ∙
    ap (λ ns. region_need q a LeftOnly ++ (ns ++ (one_need q (3 * a + 1 + 1) ++ flat_map (one_need q) (range_with_len (3 * a + 1 + 1 + 1) (3 * length rest))))) one_is ∙
    ap (λ ns. region_need q a LeftOnly ++ (region_need q a Both ++ (ns ++ flat_map (one_need q) (range_with_len (3 * a + 1 + 1 + 1) (3 * length rest))))) two_is)
  where
    regroup : (x y z t : List Need) → (x ++ (y ++ z)) ++ t ≡ x ++ (y ++ (z ++ t))
    regroup x y z t = append_assoc x (y ++ z) t ∙ ap (λ ns. x ++ ns) (append_assoc y z t)

-- the needs of concepts from one number on
concept_needs : (q : Problem) (c n : ℕ) → cond q.switches.nonempty (map InConcept (range_with_len c n)) [] ≡ flat_map (one_need q) (range_with_len (3 * pair_count q + c) n)
concept_needs q c zero = empty q.switches.nonempty
  where
    empty : (b : Bool) → cond b (map InConcept []) [] ≡ []
    empty true = refl
    empty false = refl
concept_needs q c (suc n) =
    let next : 3 * pair_count q + (c + 1) ≡ 3 * pair_count q + c + 1 = omega arith in
    split q.switches.nonempty (map InConcept (range_with_len (c + 1) n)) ∙
    ap (λ ns. cond q.switches.nonempty (InConcept c ∷ []) [] ++ ns) (concept_needs q (c + 1) n ∙ ap (λ i. flat_map (one_need q) (range_with_len i n)) next) ∙
    ap (λ ns. ns ++ flat_map (one_need q) (range_with_len (3 * pair_count q + c + 1) n)) (sym (numbered_concept q c))
  where
    split : (b : Bool) (rest : List Need) → cond b (InConcept c ∷ rest) [] ≡ cond b (InConcept c ∷ []) [] ++ cond b rest []
    split true rest = refl
    split false rest = refl

-- all needs, by number
pub needs_numbered : (q : Problem) → needs q ≡ needs_below q (need_count q)
needs_numbered q =
    let start : 3 * pair_count q + 0 ≡ 0 + 3 * pair_count q = omega arith in
    ap (λ ns. ns ++ cond q.switches.nonempty (map InConcept (concepts q)) []) (region_needs q (pairs q) 0 (omega arith) (λ k h. ap (pair_at q) (omega arith))) ∙
    ap (λ ns. flat_map (one_need q) (range_with_len 0 (3 * pair_count q)) ++ ns)
    (concept_needs q 0 (concept_count q) ∙ ap (λ i. flat_map (one_need q) (range_with_len i (concept_count q))) start) ∙
    sym (ap (flat_map (one_need q)) (range_split 0 (3 * pair_count q) (concept_count q)) ∙
    flat_map-append (one_need q) (range_with_len 0 (3 * pair_count q)) (range_with_len (0 + 3 * pair_count q) (concept_count q)))

-- one number more
pub needs_more : (q : Problem) (n : ℕ) → needs_below q (n + 1) ≡ needs_below q n ++ one_need q n
needs_more q n =
    ap (flat_map (one_need q)) (range_more n) ∙ flat_map-append (one_need q) (range_with_len 0 n) (n ∷ []) ∙ ap (λ ns. needs_below q n ++ ns) (append-nil (one_need q n))

-- those before a need, it, and those after it
pub needs_split : (q : Problem) (n : ℕ) → n < need_count q → is_needed q n ≡ true →
    needs q ≡ needs_below q n ++ need_at q n ∷ flat_map (one_need q) (range_with_len (n + 1) (need_count q - (n + 1)))
needs_split q n within needed =
    let count : need_count q ≡ n + suc (need_count q - (n + 1)) = omega arith in
    let here_one : one_need q n ≡ need_at q n ∷ [] = ap (λ b. cond b (need_at q n ∷ []) []) needed in
    let at : 0 + n ≡ n = omega arith in
    needs_numbered q ∙ ap (needs_below q) count ∙
    ap (flat_map (one_need q)) (range_split 0 n (suc (need_count q - (n + 1)))) ∙
    flat_map-append (one_need q) (range_with_len 0 n) (range_with_len (0 + n) (suc (need_count q - (n + 1)))) ∙
    ap (λ i. needs_below q n ++ flat_map (one_need q) (range_with_len i (suc (need_count q - (n + 1))))) at ∙
    ap (λ ns. needs_below q n ++ (ns ++ flat_map (one_need q) (range_with_len (n + 1) (need_count q - (n + 1))))) here_one

-- where a need stands
pub record IsNumbered (q : Problem) (need : Need) (n : ℕ) : Type 0 where
  pub number : ℕ
  pub below : number < n
  pub needed : is_needed q number ≡ true
  pub is : need ≡ need_at q number

pub from_below : (q : Problem) (n : ℕ) (need : Need) → In need (needs_below q n) → IsNumbered q need n
from_below q n need i =
    let of : IsOf (one_need q) need (range_with_len 0 n) = from_flat_map (one_need q) (range_with_len 0 n) i in
    let within = (from_range 0 n of.member).1 in
    one of.source (omega (arith, within)) (is_needed q of.source) refl of.has
  where
    one : (number : ℕ) → number < n → (b : Bool) → is_needed q number ≡ b → In need (cond b (need_at q number ∷ []) []) → IsNumbered q need n
    one number small true e (here same) = record { number = number; below = small; needed = e; is = same }
    one number small true e (there j) = absurd (none_in j)
    one number small false e j = absurd (none_in j)

-- a need is among the needs
pub need_in : (q : Problem) (number : ℕ) → number < need_count q → is_needed q number ≡ true → In (need_at q number) (needs q)
need_in q number within needed =
    subst (λ ns. In (need_at q number) ns) (sym (needs_numbered q))
    (In-flat_map (one_need q) (In-range 0 (need_count q) number (omega arith) (omega arith))
    (subst (λ ns. In (need_at q number) ns) (sym (ap (λ b. cond b (need_at q number ∷ []) []) needed)) (here refl)))
