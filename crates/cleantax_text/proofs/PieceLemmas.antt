-- A canonical text, piece by piece.
use Rattle.std.proofs.Common.{◌≡◌, ◌+◌, ◌<◌, ◌==◌, ℕ, suc, zero, Bool, true, false, List, [], ◌∷◌, ◌++◌, Some, length, map, filter, take, get_or, refl, sym, ap, ◌∙◌, arith, append_assoc}
use Rattle.std.specs.Prelude.{flat_map, if◌then◌else◌, codes, nat_lt, All, IsTrue, slice_get, slice_index_or, ◌&&◌}
use Rattle.std.specs.List.{range_with_len, list_all}
use Rattle.std.proofs.lemmas.Bool.{and_parts, ltb-true}
use Rattle.std.proofs.lemmas.List.Sums.{AllPass-from_list_all}
use Rattle.std.proofs.lemmas.List.{append-nil, take_more}
use Rattle.std.proofs.lemmas.List.Elements.{All-weaker}
use Rattle.std.proofs.lemmas.Grind.{flat_map-append}
use Rattle.std.proofs.lemmas.Option.{slice_get_within, get_or_from_slice_get}
use Rattle.world_model.specs.Problem.{Problem, owner_of, children_of, concepts, concept_count, is_concept, is_articulation, is_cross}
use Rattle.world_model.specs.declared.Articulation.{Articulation}
use Rattle.world_model.specs.declared.Articulation.TheVariants.{Pair, Sum}
use Rattle.rcc5_core.specs.declared.RelSet.{RelSet}
use Rattle.constraint_set.specs.Readers.{name_of}
use Rattle.cleantax_text.specs.Canonical.{row_text, concepts_in, parents_in, taxonomy_text}
use Rattle.cleantax_text.specs.Pieces.{family, headings, families, taxonomy_pieces}

-- a list of pieces that are left out where a test fails
flat_map_tested : (test : ℕ → Bool) (f : ℕ → List ℕ) (xs : List ℕ) → flat_map f (filter test xs) ≡ flat_map (λ x. if test x then f x else []) xs
flat_map_tested test f [] = refl
flat_map_tested test f (x ∷ xs) = by (test x) refl (flat_map_tested test f xs)
  where
    by : (b : Bool) → test x ≡ b → flat_map f (filter test xs) ≡ flat_map (λ x. if test x then f x else []) xs
        → flat_map f (filter test (x ∷ xs)) ≡ flat_map (λ x. if test x then f x else []) (x ∷ xs)
    by true e rest = rw e (ap (λ r. f x ++ r) rest)
    by false e rest = rw e rest

flat_map_along : (f g : ℕ → List ℕ) → ((x : ℕ) → f x ≡ g x) → (xs : List ℕ) → flat_map f xs ≡ flat_map g xs
flat_map_along f g e [] = refl
flat_map_along f g e (x ∷ xs) = ap (λ r. r ++ flat_map f xs) (e x) ∙ ap (λ r. g x ++ r) (flat_map_along f g e xs)

pub headings_are : (p : Problem) (which : ℕ) → flat_map (λ c. codes "(" ++ name_of p c ++ codes ")\n") (concepts_in p which) ≡ headings p which (concept_count p)
headings_are p which = flat_map_tested (λ c. owner_of p c == which) (λ c. codes "(" ++ name_of p c ++ codes ")\n") (concepts p)

pub families_are : (p : Problem) (which : ℕ) → flat_map (row_text p) (parents_in p which) ≡ families p which (concept_count p)
families_are p which =
    flat_map_tested (λ c. if length (children_of p c) == 0 then false else true) (row_text p) (concepts_in p which)
    ∙ flat_map_tested (λ c. owner_of p c == which) (λ c. if (if length (children_of p c) == 0 then false else true) then row_text p c else []) (concepts p)
    ∙ flat_map_along _ (family p which) (λ c. by c (owner_of p c == which) (length (children_of p c) == 0)) (concepts p)
  where
    by : (c : ℕ) (a b : Bool) → (if a then (if (if b then false else true) then row_text p c else []) else []) ≡ (if a then (if b then [] else row_text p c) else [])
    by c false b = refl
    by c true true = refl
    by c true false = refl

range_next : (a n : ℕ) → range_with_len a (suc n) ≡ range_with_len a n ++ (a + n) ∷ []
range_next a zero = let z : a + 0 ≡ a = omega arith in ap (λ k. k ∷ []) (sym z)
range_next a (suc n) = let e : a + 1 + n ≡ a + suc n = omega arith in ap (λ r. a ∷ r) (range_next (a + 1) n ∙ ap (λ k. range_with_len (a + 1) n ++ k ∷ []) e)

-- one piece more
pub pieces_next : (f : ℕ → List ℕ) (n : ℕ) → flat_map f (range_with_len 0 (n + 1)) ≡ flat_map f (range_with_len 0 n) ++ f n
pieces_next f n =
    let s : n + 1 ≡ suc n = omega arith in
    let z : 0 + n ≡ n = omega arith in
    ap (λ k. flat_map f (range_with_len 0 k)) s
    ∙ ap (flat_map f) (range_next 0 n ∙ ap (λ k. range_with_len 0 n ++ k ∷ []) z)
    ∙ flat_map-append f (range_with_len 0 n) (n ∷ [])
    ∙ ap (λ r. flat_map f (range_with_len 0 n) ++ r) (append-nil (f n))

pub ruleset piece_rules = (headings_are, families_are)

map-append : {X : Type 0} (f : X → List ℕ) (xs ys : List X) → map f (xs ++ ys) ≡ map f xs ++ map f ys
map-append f [] ys = refl
map-append f (x ∷ xs) ys = ap (λ r. f x ∷ r) (map-append f xs ys)

-- the loops over concepts
pub pieces_put : (f : ℕ → List ℕ) (init out new : List ℕ) (n : ℕ) → out ≡ init ++ flat_map f (range_with_len 0 n) → new ≡ out ++ f n → new ≡ init ++ flat_map f (range_with_len 0 (n + 1))
pieces_put f init out new n was more =
    more ∙ ap (λ o. o ++ f n) was ∙ append_assoc init (flat_map f (range_with_len 0 n)) (f n) ∙ ap (λ r. init ++ r) (sym (pieces_next f n))

pub taxonomy_is : (p : Problem) (which : ℕ) → taxonomy_pieces p which ≡ taxonomy_text p which
taxonomy_is p which =
    ap (λ h. codes "taxonomy " ++ slice_index_or p.taxonomies which [] ++ codes "\n" ++ h ++ families p which (concept_count p)) (sym (headings_are p which))
    ∙ ap (λ f. codes "taxonomy " ++ slice_index_or p.taxonomies which [] ++ codes "\n" ++ flat_map (λ c. codes "(" ++ name_of p c ++ codes ")\n") (concepts_in p which) ++ f) (sym (families_are p which))

-- the loop over articulations
pub line_put : (f : Articulation → List ℕ) (init out new : List ℕ) (xs : List Articulation) (k : ℕ) (x : Articulation) → slice_get xs k ≡ Some x
    → out ≡ init ++ flat_map f (take k xs) → new ≡ out ++ f x → new ≡ init ++ flat_map f (take (k + 1) xs)
line_put f init out new xs k x at was more =
    let lt : k < length xs = slice_get_within xs k x at in
    let is : get_or xs k x ≡ x = get_or_from_slice_get xs k x x at in
    more ∙ ap (λ o. o ++ f x) was ∙ append_assoc init (flat_map f (take k xs)) (f x)
    ∙ ap (λ r. init ++ r)
    (ap (λ r. flat_map f (take k xs) ++ r) (sym (append-nil (f x)))
    ∙ sym (flat_map-append f (take k xs) (x ∷ []))
    ∙ ap (flat_map f) (ap (λ y. take k xs ++ y ∷ []) (sym is) ∙ sym (take_more xs k x lt)))

-- the numbers of an articulation are in range
pub pair_left : (p : Problem) (l r : ℕ) (s : RelSet) → IsTrue (is_articulation p (Pair l r s)) → l < concept_count p
pair_left p l r s h =
    let a = and_parts _ (is_cross p (l, r)) h in
    let b = and_parts (nat_lt l r) (is_concept p r) a.0 in
    omega (arith, ltb-true l r b.0, ltb-true r (concept_count p) b.1)

pub pair_right : (p : Problem) (l r : ℕ) (s : RelSet) → IsTrue (is_articulation p (Pair l r s)) → r < concept_count p
pair_right p l r s h =
    let a = and_parts _ (is_cross p (l, r)) h in
    let b = and_parts (nat_lt l r) (is_concept p r) a.0 in
    ltb-true r (concept_count p) b.1

pub sum_whole : (p : Problem) (w : ℕ) (ps : List ℕ) → IsTrue (is_articulation p (Sum w ps)) → w < concept_count p
sum_whole p w ps h =
    let a = and_parts _ (list_all (λ part. is_concept p part && is_cross p (w, part)) ps) h in
    let b = and_parts (is_concept p w) (nat_lt 1 (length ps)) a.0 in
    ltb-true w (concept_count p) b.0

pub sum_parts : (p : Problem) (w : ℕ) (ps : List ℕ) → IsTrue (is_articulation p (Sum w ps)) → All (λ x. x < concept_count p) ps
sum_parts p w ps h =
    let a = and_parts _ (list_all (λ part. is_concept p part && is_cross p (w, part)) ps) h in
    All-weaker (λ x. (is_concept p x && is_cross p (w, x)) ≡ true) (λ x. x < concept_count p)
    (λ x e. ltb-true x (concept_count p) (and_parts (is_concept p x) (is_cross p (w, x)) e).0) ps
    (AllPass-from_list_all (λ part. is_concept p part && is_cross p (w, part)) ps a.1)

pub ruleset articulation_rules = (pair_left, pair_right, sum_whole, sum_parts)
