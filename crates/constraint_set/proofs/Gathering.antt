-- The concepts of forests, forest by forest.
use Rattle.std.proofs.Common.{◌≡◌, ℕ, zero, suc, ◌+◌, ◌-◌, ◌<◌, ◌≤◌, Bool, true, false, ◌&&◌, ◌==◌, List, [], ◌∷◌, ◌++◌, map, length, take, get_or, replicate, Option, Some, inl, inr, refl, sym, ap, ◌∙◌, subst, arith, length-append}
use Rattle.std.specs.Prelude.{flat_map, filter, sum_by, nat_lt, All, slice_get}
use Rattle.std.specs.List.{list_all, range_with_len, AllWithin}
use Rattle.std.specs.Option.{option_map, option_map_or}
use Rattle.std.proofs.lemmas.Option.{slice_get_read}
use Rattle.std.proofs.lemmas.Bool.{eq-eqb, lt-ltb, and_from, and_parts, cases_lt}
use Rattle.std.proofs.lemmas.List.{take_more, get_or_read, append-nil, append_assoc, length-take-le, length-replicate, get_or-replicate, get_or_append_left, get_or-append_right, length-map}
use Rattle.std.proofs.lemmas.List.Sums.{sum_by-cons, sum_by_more_le}
use Rattle.std.proofs.lemmas.List.Concat.{flat_map-append}
use Rattle.taxon_tree.specs.Trees.{Trees, IsForest}
use Rattle.world_model.specs.declared.Articulation.{Articulation}
use Rattle.world_model.specs.declared.Switches.{Switches}
use Rattle.world_model.specs.Problem.{Problem, concept_count, is_concept, is_articulation, is_about_pair, is_problem, is_full, pairs, pair_count}
use Rattle.world_model.specs.Node.{pair_at}
use Rattle.world_model.proofs.PointPairs.{IsPair, from_pairs}
use Rattle.world_model.proofs.Members.{In, here, there, In-get_or, place_of, IsPlaced}
use Rattle.constraint_set.proofs.Lists.{range_more, filter-append}
use Rattle.constraint_set.specs.Build.{size_of, owners_from, parents_from, children_from}
use Rattle.constraint_set.specs.Gather.{Gathered, gathered, with_forest}
use Rattle.constraint_set.specs.Numbers.{AscendingOwners, with_owners}
use Rattle.constraint_set.specs.Readers.{is_sum, is_sum_at}
use Rattle.constraint_set.specs.Shape.{shape_from}
use Rattle.constraint_set.specs.Facts.{CanBuild, IsMadeOf, IsShape, is_said}

-- how many concepts forests have
abbrev pub all_of : List Trees → ℕ
all_of forests = sum_by size_of forests

pub length-owners_from : (w : ℕ) (forests : List Trees) → length (owners_from w forests) ≡ all_of forests
length-owners_from w [] = refl
length-owners_from w (f ∷ fs) =
    length-append (replicate (size_of f) w) (owners_from (w + 1) fs)
    ∙ ap (λ n. n + length (owners_from (w + 1) fs)) (length-replicate (size_of f) w)
    ∙ ap (λ n. size_of f + n) (length-owners_from (w + 1) fs)
    ∙ sym (sum_by-cons size_of f fs)

owners_push : (w : ℕ) (fs : List Trees) (f : Trees) → owners_from w (fs ++ f ∷ []) ≡ owners_from w fs ++ replicate (size_of f) (w + length fs)
owners_push w [] f = let e : w ≡ w + 0 = omega arith in append-nil (replicate (size_of f) w) ∙ ap (replicate (size_of f)) e
owners_push w (g ∷ fs) f =
    let e : w + 1 + length fs ≡ w + suc (length fs) = omega arith in
    ap (λ l. replicate (size_of g) w ++ l) (owners_push (w + 1) fs f ∙ ap (λ n. owners_from (w + 1) fs ++ replicate (size_of f) n) e)
    ∙ sym (append_assoc (replicate (size_of g) w) (owners_from (w + 1) fs) (replicate (size_of f) (w + suc (length fs))))

-- numbers of concepts, moved up
abbrev up : ℕ → List (Option ℕ) → List (Option ℕ)
up b = map (option_map (λ c. b + c))

abbrev ups : ℕ → List (List ℕ) → List (List ℕ)
ups b = map (map (λ c. b + c))

parents_push : (b : ℕ) (fs : List Trees) (f : Trees) → parents_from b (fs ++ f ∷ []) ≡ parents_from b fs ++ up (b + all_of fs) f.parents
parents_push b [] f = let e : b ≡ b + 0 = omega arith in append-nil (up b f.parents) ∙ ap (λ n. up n f.parents) e
parents_push b (g ∷ fs) f =
    let e : b + size_of g + all_of fs ≡ b + all_of (g ∷ fs) = omega (arith, sum_by-cons size_of g fs) in
    ap (λ l. up b g.parents ++ l) (parents_push (b + size_of g) fs f ∙ ap (λ n. parents_from (b + size_of g) fs ++ up n f.parents) e)
    ∙ sym (append_assoc (up b g.parents) (parents_from (b + size_of g) fs) (up (b + all_of (g ∷ fs)) f.parents))

children_push : (b : ℕ) (fs : List Trees) (f : Trees) → children_from b (fs ++ f ∷ []) ≡ children_from b fs ++ ups (b + all_of fs) f.children
children_push b [] f = let e : b ≡ b + 0 = omega arith in append-nil (ups b f.children) ∙ ap (λ n. ups n f.children) e
children_push b (g ∷ fs) f =
    let e : b + size_of g + all_of fs ≡ b + all_of (g ∷ fs) = omega (arith, sum_by-cons size_of g fs) in
    ap (λ l. ups b g.children ++ l) (children_push (b + size_of g) fs f ∙ ap (λ n. children_from (b + size_of g) fs ++ ups n f.children) e)
    ∙ sym (append_assoc (ups b g.children) (children_from (b + size_of g) fs) (ups (b + all_of (g ∷ fs)) f.children))

same_gathered : (g h : Gathered) → g.names ≡ h.names → g.owners ≡ h.owners → g.parents ≡ h.parents → g.children ≡ h.children → g ≡ h
same_gathered g h n o p c =
    let whole : record { names = g.names; owners = g.owners; parents = g.parents; children = g.children } ≡ h = rw (n, o, p, c) refl in
    whole

gathered_push : (fs : List Trees) (f : Trees) → gathered (fs ++ f ∷ []) ≡ with_forest (gathered fs) (length fs) f
gathered_push fs f =
    let z : 0 + length fs ≡ length fs = omega arith in
    let b : 0 + all_of fs ≡ length (owners_from 0 fs) = omega (arith, length-owners_from 0 fs) in
    same_gathered (gathered (fs ++ f ∷ [])) (with_forest (gathered fs) (length fs) f)
    (flat_map-append (λ (forest : Trees). forest.names) fs (f ∷ []) ∙ ap (λ l. flat_map (λ (forest : Trees). forest.names) fs ++ l) (append-nil f.names))
    (owners_push 0 fs f ∙ ap (λ n. owners_from 0 fs ++ replicate (size_of f) n) z)
    (parents_push 0 fs f ∙ ap (λ n. parents_from 0 fs ++ up n f.parents) b)
    (children_push 0 fs f ∙ ap (λ n. children_from 0 fs ++ ups n f.children) b)

-- one more forest is taken in
pub gathered_more : (fs : List Trees) (i : ℕ) (f : Trees) → i < length fs → f ≡ get_or fs i f →
    (g h : Gathered) → g ≡ gathered (take i fs) → h ≡ with_forest g i f → h ≡ gathered (take (i + 1) fs)
gathered_more fs i f within is g h was now =
    let many : length (take i fs) ≡ i = length-take-le i fs (omega arith) in
    now ∙ ap (λ g. with_forest g i f) was ∙ ap (λ n. with_forest (gathered (take i fs)) n f) (sym many) ∙ sym (gathered_push (take i fs) f)
    ∙ ap (λ x. gathered (take i fs ++ x ∷ [])) is ∙ ap gathered (sym (take_more fs i f within))

-- there is room for the next forest
pub gathered_room : (fs : List Trees) (i : ℕ) (f : Trees) → i < length fs → f ≡ get_or fs i f → all_of fs ≤ 1024 → (g : Gathered) → g ≡ gathered (take i fs) →
    length g.owners + size_of f ≤ 1024
gathered_room fs i f within is few g was =
    let now : length g.owners ≡ all_of (take i fs) = ap (λ g. length g.owners) was ∙ length-owners_from 0 (take i fs) in
    let size : size_of f ≡ size_of (get_or fs i f) = ap size_of is in
    omega (arith, now, size, sum_by_more_le size_of fs i f within, few)

-- what holds of the first forests holds of one more
pub forests_more : (fs : List Trees) (i : ℕ) (f : Trees) → i < length fs → f ≡ get_or fs i f → IsForest f → AllWithin IsForest fs 0 i → AllWithin IsForest fs 0 (i + 1)
forests_more fs i f within is holds first k d low high = elim (cases_lt k i) [
  | inl below ↦ first k d low below
  | inr not_below ↦ let same : i ≡ k = omega arith in subst IsForest (get_or_read fs i f within is d ∙ ap (λ j. get_or fs j d) same) holds
]

-- owners are from the first number on
owner_from : (w : ℕ) (fs : List Trees) (c : ℕ) → c < length (owners_from w fs) → w ≤ get_or (owners_from w fs) c 0
owner_from w [] c h = absurd (omega arith)
owner_from w (f ∷ fs) c h =
    let n = size_of f in
    let len : length (replicate n w) ≡ n = length-replicate n w in
    elim (cases_lt c n) [
      | inl first ↦ let e : get_or (replicate n w ++ owners_from (w + 1) fs) c 0 ≡ w = get_or_append_left (replicate n w) (owners_from (w + 1) fs) 0 c (omega (arith, len)) ∙ get_or-replicate n c w 0 first in
          omega (arith, e)
      | inr later ↦ let e : get_or (replicate n w ++ owners_from (w + 1) fs) c 0 ≡ get_or (owners_from (w + 1) fs) (c - n) 0 = get_or-append_right (replicate n w) (owners_from (w + 1) fs) n c 0 len later in
          let rest : c - n < length (owners_from (w + 1) fs) = omega (arith, length-append (replicate n w) (owners_from (w + 1) fs), len) in
          omega (arith, e, owner_from (w + 1) fs (c - n) rest)
    ]

-- they ascend
pub owners_ascending : (w : ℕ) (fs : List Trees) → AscendingOwners (owners_from w fs)
owners_ascending w [] c d le within = absurd (omega arith)
owners_ascending w (f ∷ fs) c d le within =
    let n = size_of f in
    let rest = owners_from (w + 1) fs in
    let len : length (replicate n w) ≡ n = length-replicate n w in
    let all : length (replicate n w ++ rest) ≡ n + length rest = length-append (replicate n w) rest ∙ ap (λ m. m + length rest) len in
    let first : (k : ℕ) → k < n → get_or (replicate n w ++ rest) k 0 ≡ w = λ k h. get_or_append_left (replicate n w) rest 0 k (omega (arith, len)) ∙ get_or-replicate n k w 0 h in
    let later : (k : ℕ) → n ≤ k → get_or (replicate n w ++ rest) k 0 ≡ get_or rest (k - n) 0 = λ k h. get_or-append_right (replicate n w) rest n k 0 len h in
    elim (cases_lt d n) [
      | inl d_first ↦ omega (arith, first c (omega arith), first d d_first)
      | inr d_later ↦ elim (cases_lt c n) [
        | inl c_first ↦ omega (arith, first c c_first, later d d_later, owner_from (w + 1) fs (d - n) (omega (arith, all)))
        | inr c_later ↦ omega (arith, later c c_later, later d d_later, owners_ascending (w + 1) fs (c - n) (d - n) (omega arith) (omega (arith, all)))
      ]
    ]

-- each taxonomy is one of those there are
list_all-append : {X : Type 0} (test : X → Bool) (xs ys : List X) → list_all test xs ≡ true → list_all test ys ≡ true → list_all test (xs ++ ys) ≡ true
list_all-append test [] ys h k = k
list_all-append test (x ∷ xs) ys h k = let parts = and_parts (test x) (list_all test xs) h in and_from (test x) (list_all test (xs ++ ys)) parts.0 (list_all-append test xs ys parts.1 k)

list_all-replicate : (test : ℕ → Bool) (n w : ℕ) → test w ≡ true → list_all test (replicate n w) ≡ true
list_all-replicate test zero w h = refl
list_all-replicate test (suc n) w h = and_from (test w) (list_all test (replicate n w)) h (list_all-replicate test n w h)

owners_below : (n w : ℕ) (fs : List Trees) → w + length fs ≤ n → list_all (λ owner. nat_lt owner n) (owners_from w fs) ≡ true
owners_below n w [] h = refl
owners_below n w (f ∷ fs) h =
    list_all-append (λ owner. nat_lt owner n) (replicate (size_of f) w) (owners_from (w + 1) fs)
    (list_all-replicate (λ owner. nat_lt owner n) (size_of f) w (lt-ltb w n (omega arith))) (owners_below n (w + 1) fs (omega arith))

-- each child is a concept
children_below : (n b : ℕ) (fs : List Trees) → All IsForest fs → b + all_of fs ≤ n → list_all (list_all (λ c. nat_lt c n)) (children_from b fs) ≡ true
children_below n b [] h room = refl
children_below n b (f ∷ fs) h room =
    list_all-append (list_all (λ c. nat_lt c n)) (ups b f.children) (children_from (b + size_of f) fs)
    (moved f.children (λ cs i. let at : IsPlaced cs f.children = place_of i in subst (All (λ c. c < length f.names)) (at.is []) ((h 0 f (omega arith)).children_within at.place)))
    (children_below n (b + size_of f) fs (λ k d within. h (suc k) d (omega arith)) (omega (arith, sum_by-cons size_of f fs)))
  where
    small : b + size_of f ≤ n
    small = omega (arith, sum_by-cons size_of f fs, room)

    one : (cs : List ℕ) → All (λ c. c < length f.names) cs → list_all (λ c. nat_lt c n) (map (λ c. b + c) cs) ≡ true
    one [] all = refl
    one (c ∷ cs) all =
        and_from (nat_lt (b + c) n) (list_all (λ c. nat_lt c n) (map (λ c. b + c) cs)) (lt-ltb (b + c) n (omega (arith, all 0 0 (omega arith), small)))
        (one cs (λ k d within. all (suc k) d (omega arith)))

    moved : (css : List (List ℕ)) → ((cs : List ℕ) → In cs css → All (λ c. c < length f.names) cs) → list_all (list_all (λ c. nat_lt c n)) (ups b css) ≡ true
    moved [] all = refl
    moved (cs ∷ css) all = and_from (list_all (λ c. nat_lt c n) (map (λ c. b + c) cs)) (list_all (list_all (λ c. nat_lt c n)) (ups b css)) (one cs (all cs (here refl))) (moved css (λ x i. all x (there i)))

-- each list has one entry a concept
pub length-names : (fs : List Trees) → length (flat_map (λ (forest : Trees). forest.names) fs) ≡ all_of fs
length-names [] = refl
length-names (f ∷ fs) = length-append f.names (flat_map (λ (forest : Trees). forest.names) fs) ∙ ap (λ n. size_of f + n) (length-names fs) ∙ sym (sum_by-cons size_of f fs)

pub length-parents : (b : ℕ) (fs : List Trees) → All IsForest fs → length (parents_from b fs) ≡ all_of fs
length-parents b [] h = refl
length-parents b (f ∷ fs) h =
    length-append (up b f.parents) (parents_from (b + size_of f) fs)
    ∙ ap (λ n. n + length (parents_from (b + size_of f) fs)) (length-map {B = Option ℕ} f.parents (option_map (λ c. b + c)) ∙ (h 0 f (omega arith)).parents_counted)
    ∙ ap (λ n. size_of f + n) (length-parents (b + size_of f) fs (λ k d within. h (suc k) d (omega arith)))
    ∙ sym (sum_by-cons size_of f fs)

pub length-children : (b : ℕ) (fs : List Trees) → All IsForest fs → length (children_from b fs) ≡ all_of fs
length-children b [] h = refl
length-children b (f ∷ fs) h =
    length-append (ups b f.children) (children_from (b + size_of f) fs)
    ∙ ap (λ n. n + length (children_from (b + size_of f) fs)) (length-map {B = List ℕ} f.children (map (λ c. b + c)) ∙ (h 0 f (omega arith)).children_counted)
    ∙ ap (λ n. size_of f + n) (length-children (b + size_of f) fs (λ k d within. h (suc k) d (omega arith)))
    ∙ sym (sum_by-cons size_of f fs)

-- the sums among the first articulations
pub sum_places_more : (arts : List Articulation) (n : ℕ) → filter (is_sum_at arts) (range_with_len 0 (n + 1)) ≡ filter (is_sum_at arts) (range_with_len 0 n) ++ filter (is_sum_at arts) (n ∷ [])
sum_places_more arts n = ap (filter (is_sum_at arts)) (range_more n) ∙ filter-append (is_sum_at arts) (range_with_len 0 n) (n ∷ [])

pub is_sum_read : (arts : List Articulation) (k : ℕ) (a : Articulation) (b : Bool) → k < length arts → a ≡ get_or arts k a → is_sum a ≡ b → is_sum_at arts k ≡ b
is_sum_read arts k a b within is e = ap (λ o. option_map_or is_sum o false) (slice_get_read arts (length arts) k a refl within is) ∙ e

-- a shape, from what the code made
pub shape_made : (ids : List (List ℕ)) (fs : List Trees) (arts : List Articulation) (switches : Switches) (g : Gathered) (sums : List ℕ) →
    CanBuild ids fs arts switches → All IsForest fs → g ≡ gathered fs → sums ≡ filter (is_sum_at arts) (range_with_len 0 (length arts)) →
    IsShape (shape_from ids g.names g.owners g.parents g.children arts switches) sums
shape_made ids fs arts switches g sums can forests is sums_are =
    subst (λ (g : Gathered). IsShape (shape_from ids g.names g.owners g.parents g.children arts switches) sums) (sym is) (record {
      made = (fs, record { can = can; forests_hold = forests; made = refl });
      names_counted = length-names fs ∙ sym (length-owners_from 0 fs);
      parents_counted = length-parents 0 fs forests ∙ sym (length-owners_from 0 fs);
      children_counted = length-children 0 fs forests ∙ sym (length-owners_from 0 fs);
      few = can.few;
      sums_are = sums_are;
    })

-- what is_problem asks, from the forests
pub valid_shape : (p : Problem) (fs : List Trees) → IsMadeOf p fs → length p.kept ≡ length p.articulations → list_all (is_about_pair p) p.narrowings ≡ true → is_problem p ≡ true
valid_shape p fs m kept narrowed =
    let owners : p.owners ≡ owners_from 0 fs = ap (λ (q : Problem). q.owners) m.made in
    let names : p.names ≡ flat_map (λ (forest : Trees). forest.names) fs = ap (λ (q : Problem). q.names) m.made in
    let parents : p.parents ≡ parents_from 0 fs = ap (λ (q : Problem). q.parents) m.made in
    let children : p.children ≡ children_from 0 fs = ap (λ (q : Problem). q.children) m.made in
    let count : length p.owners ≡ all_of fs = ap length owners ∙ length-owners_from 0 fs in
    let named : length p.taxonomies ≡ length fs = m.can.named in
    let n = is_full p p.names in
    let q = is_full p p.parents in
    let r = is_full p p.children in
    let o = list_all (λ owner. nat_lt owner (length p.taxonomies)) p.owners in
    let c = list_all (list_all (is_concept p)) p.children in
    let k = length p.kept == length p.articulations in
    let a = list_all (is_articulation p) p.articulations in
    let d = list_all (is_about_pair p) p.narrowings in
    let n_is : n ≡ true = eq-eqb (length p.names) (length p.owners) (ap length names ∙ length-names fs ∙ sym count) in
    let q_is : q ≡ true = eq-eqb (length p.parents) (length p.owners) (ap length parents ∙ length-parents 0 fs m.forests_hold ∙ sym count) in
    let r_is : r ≡ true = eq-eqb (length p.children) (length p.owners) (ap length children ∙ length-children 0 fs m.forests_hold ∙ sym count) in
    let o_is : o ≡ true = ap (list_all (λ owner. nat_lt owner (length p.taxonomies))) owners ∙ owners_below (length p.taxonomies) 0 fs (omega (arith, named)) in
    let c_is : c ≡ true = ap (list_all (list_all (is_concept p))) children ∙ children_below (length p.owners) 0 fs m.forests_hold (omega (arith, count)) in
    let k_is : k ≡ true = eq-eqb (length p.kept) (length p.articulations) kept in
    let a_is : a ≡ true = ap (λ l. list_all (is_articulation (with_owners l)) p.articulations) owners ∙ m.can.fit in
    and_from (n && q && r && o && c && k && a) d
    (and_from (n && q && r && o && c && k) a
    (and_from (n && q && r && o && c) k
    (and_from (n && q && r && o) c
    (and_from (n && q && r) o
    (and_from (n && q) r (and_from n q n_is q_is) r_is) o_is) c_is) k_is) a_is) narrowed

-- each articulation of a shape fits its concepts, and says something
all_get : {X : Type 0} (test : X → Bool) (xs : List X) (i : ℕ) (x : X) → list_all test xs ≡ true → slice_get xs i ≡ Some x → test x ≡ true
all_get test [] i x h e = absurd (cc)
all_get test (y ∷ xs) zero x h e = let same : y ≡ x = cc in ap test (sym same) ∙ (and_parts (test y) (list_all test xs) h).0
all_get test (y ∷ xs) (suc i) x h e = all_get test xs i x (and_parts (test y) (list_all test xs) h).1 e

pub fits_made : (p : Problem) (sums : List ℕ) (i : ℕ) (a : Articulation) → IsShape p sums → slice_get p.articulations i ≡ Some a → is_articulation p a ≡ true
fits_made p sums i a s at =
    let m = s.made.1 in
    let owners : p.owners ≡ owners_from 0 s.made.0 = ap (λ (q : Problem). q.owners) m.made in
    all_get (is_articulation p) p.articulations i a (ap (λ l. list_all (is_articulation (with_owners l)) p.articulations) owners ∙ m.can.fit) at

pub said_made : (p : Problem) (sums : List ℕ) (i : ℕ) (a : Articulation) → IsShape p sums → slice_get p.articulations i ≡ Some a → is_said a ≡ true
said_made p sums i a s at = all_get is_said p.articulations i a s.made.1.can.said at

-- a pair by number has its first concept below its second
pub pair_order : (p : Problem) (k : ℕ) (pair : ℕ × ℕ) → k < pair_count p → pair ≡ pair_at p k → (pair.0 < pair.1) × (pair.1 < concept_count p)
pair_order p k pair within is =
    let found : IsPair p pair = subst (IsPair p) (sym is) (from_pairs p (pair_at p k) (In-get_or (pairs p) k (0, 0) within)) in
    (found.order, found.within)
