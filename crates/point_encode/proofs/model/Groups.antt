-- The clauses of pairs and of sums say just what their selectors mean; and so the clauses say that bits obey.
use Rattle.std.proofs.Common.{◌≡◌, ℕ, zero, suc, ◌+◌, ◌*◌, ◌<◌, Bool, true, false, not, ◌&&◌, ◌||◌, List, [], ◌∷◌, ◌++◌, map, length, get_or, Some, refl, sym, ap, ◌∙◌, subst, arith}
use Rattle.std.specs.Prelude.{nat_lt, slice_get}
use Rattle.std.specs.List.{list_all, list_any}
use Rattle.std.proofs.lemmas.Bool.{and_parts, and_from, false_from_ne_true, ltb-true, not-true, both_ways}
use Rattle.std.proofs.lemmas.Option.{slice_get_within, get_or_from_slice_get}
use Rattle.std.proofs.lemmas.List.Folds.{list_all-append}
use Rattle.rcc5_core.specs.declared.Region.{Region}
use Rattle.rcc5_core.specs.declared.Region.TheVariants.{LeftOnly, Both, RightOnly}
use Rattle.rcc5_core.specs.Region.{all_regions}
use Rattle.lits_core.specs.Literals.{lit_true, clause_true, meets_all}
use Rattle.world_model.specs.declared.Articulation.{Articulation}
use Rattle.world_model.specs.declared.Articulation.TheVariants.{Pair, Sum}
use Rattle.world_model.specs.Problem.{Problem, SumRule, concept_count, pairs, pair_count, as_sum, is_concept, is_cross, is_articulation}
use Rattle.world_model.specs.Family.{implies}
use Rattle.world_model.specs.Alive.{bit_of, lies_in, same_bool, point_sums}
use Rattle.world_model.specs.Node.{pair_at}
use Rattle.world_model.proofs.Members.{In, all_at, all_from, any_at, any_from, In-map, from_map, In-get_or, from_filter_map, IsImage, IsGiven}
use Rattle.world_model.proofs.PointSets.{implies_at, implies_from, same_bool_at, In-all_regions}
use Rattle.world_model.proofs.PointPairs.{from_pairs}
use Rattle.constraint_set.specs.Facts.{IsBuilt}
use Rattle.constraint_set.specs.Readers.{all_sums}
use Rattle.point_encode.specs.Model.Clauses.{is_so, is_not, within_clauses, apart_clauses, covered_clauses, pair_clauses, pairs_clauses, sum_clauses, sums_clauses, first_sum_selector, given_clauses}
use Rattle.point_encode.specs.Model.Forced.{region_number}
use Rattle.point_encode.specs.Model.Laws.{Obeys}
use Rattle.point_encode.proofs.model.Bits.{so_true, not_true, any_so, three_true, Agrees, front_agrees, any_same}
use Rattle.point_encode.proofs.model.Structure.{valid_parts, within_from, within_to, apart_from, apart_to, covered_from, covered_to}
use Rattle.world_model.proofs.PointRules.{same_bool_from}

-- whether the selector of a region keeps the point out of it
abbrev keeps_out : List Bool → ℕ → ℕ × ℕ → Region → Bool
keeps_out bits first pair region = implies (bit_of bits (first + region_number region)) (not (lies_in region pair bits))

-- the clauses of a pair are these three
pair_true : (bits : List Bool) (first : ℕ) (pair : ℕ × ℕ) → meets_all bits (pair_clauses first pair) ≡ list_all (keeps_out bits first pair) all_regions
pair_true bits first pair =
    let x = bit_of bits pair.0 in
    let y = bit_of bits pair.1 in
    let zero_more : first ≡ first + 0 = omega arith in
    let l : clause_true bits (is_not first ∷ is_not pair.0 ∷ is_so pair.1 ∷ []) ≡ keeps_out bits first pair LeftOnly =
    three_true bits (is_not first) (is_not pair.0) (is_so pair.1) _ _ _ (not_true bits first) (not_true bits pair.0) (so_true bits pair.1)
    ∙ ap (λ b. not (bit_of bits first) || b) (left x y) ∙ ap (λ v. not (bit_of bits v) || not (x && not y)) zero_more in
    let b : clause_true bits (is_not (first + 1) ∷ is_not pair.0 ∷ is_not pair.1 ∷ []) ≡ keeps_out bits first pair Both =
    three_true bits (is_not (first + 1)) (is_not pair.0) (is_not pair.1) _ _ _ (not_true bits (first + 1)) (not_true bits pair.0) (not_true bits pair.1)
    ∙ ap (λ b. not (bit_of bits (first + 1)) || b) (both x y) in
    let r : clause_true bits (is_not (first + 2) ∷ is_so pair.0 ∷ is_not pair.1 ∷ []) ≡ keeps_out bits first pair RightOnly =
    three_true bits (is_not (first + 2)) (is_so pair.0) (is_not pair.1) _ _ _ (not_true bits (first + 2)) (so_true bits pair.0) (not_true bits pair.1)
    ∙ ap (λ b. not (bit_of bits (first + 2)) || b) (right x y) in
    three _ _ _ _ _ _ l b r
  where
    left : (x y : Bool) → (not x || y) ≡ not (x && not y)
    left true true = refl
    left true false = refl
    left false y = refl

    both : (x y : Bool) → (not x || not y) ≡ not (x && y)
    both true y = refl
    both false y = refl

    right : (x y : Bool) → (x || not y) ≡ not (not x && y)
    right true y = refl
    right false y = refl

    three : (a b c a' b' c' : Bool) → a ≡ a' → b ≡ b' → c ≡ c' → (a && (b && (c && true))) ≡ (a' && (b' && (c' && true)))
    three a b c a' b' c' e f g = ap (λ x. x && (b && (c && true))) e ∙ ap (λ x. a' && (x && (c && true))) f ∙ ap (λ x. a' && (b' && (x && true))) g

-- the clauses of pairs, by the number of a pair
pairs_from : (bits : List Bool) (first : ℕ) (ps : List (ℕ × ℕ)) → meets_all bits (pairs_clauses first ps) ≡ true →
    (k : ℕ) → k < length ps → (region : Region) → keeps_out bits (first + 3 * k) (get_or ps k (0, 0)) region ≡ true
pairs_from bits first [] h k within region = absurd (omega arith)
pairs_from bits first (q ∷ ps) h zero within region =
    let parts = and_parts (meets_all bits (pair_clauses first q)) (meets_all bits (pairs_clauses (first + 3) ps)) (sym (list_all-append (clause_true bits) (pair_clauses first q) (pairs_clauses (first + 3) ps)) ∙ h) in
    let e : first ≡ first + 3 * 0 = omega arith in
    ap (λ n. keeps_out bits n q region) (sym e) ∙ all_at (keeps_out bits first q) (sym (pair_true bits first q) ∙ parts.0) (In-all_regions region)
pairs_from bits first (q ∷ ps) h (suc k) within region =
    let parts = and_parts (meets_all bits (pair_clauses first q)) (meets_all bits (pairs_clauses (first + 3) ps)) (sym (list_all-append (clause_true bits) (pair_clauses first q) (pairs_clauses (first + 3) ps)) ∙ h) in
    let e : first + 3 + 3 * k ≡ first + 3 * suc k = omega arith in
    ap (λ n. keeps_out bits n (get_or ps k (0, 0)) region) (sym e) ∙ pairs_from bits (first + 3) ps parts.1 k (omega arith) region

pairs_to : (bits : List Bool) (first : ℕ) (ps : List (ℕ × ℕ)) → ((k : ℕ) → k < length ps → (region : Region) → keeps_out bits (first + 3 * k) (get_or ps k (0, 0)) region ≡ true) →
    meets_all bits (pairs_clauses first ps) ≡ true
pairs_to bits first [] each = refl
pairs_to bits first (q ∷ ps) each =
    let e : first ≡ first + 3 * 0 = omega arith in
    let now : list_all (keeps_out bits first q) all_regions ≡ true =
    all_from (keeps_out bits first q) all_regions (λ region i. ap (λ n. keeps_out bits n q region) e ∙ each 0 (omega arith) region) in
    let later = pairs_to bits (first + 3) ps (λ k within region.
    let f : first + 3 + 3 * k ≡ first + 3 * suc k = omega arith in
    ap (λ n. keeps_out bits n (get_or ps k (0, 0)) region) f ∙ each (suc k) (omega arith) region) in
    list_all-append (clause_true bits) (pair_clauses first q) (pairs_clauses (first + 3) ps)
    ∙ and_from (meets_all bits (pair_clauses first q)) (meets_all bits (pairs_clauses (first + 3) ps)) (pair_true bits first q ∙ now) later

abbrev part_clause : ℕ → ℕ → ℕ → List ℕ
part_clause selector whole part = is_not selector ∷ is_not part ∷ is_so whole ∷ []

part_true : (bits : List Bool) (selector whole part : ℕ) →
    clause_true bits (part_clause selector whole part) ≡ implies (bit_of bits selector) (implies (bit_of bits part) (bit_of bits whole))
part_true bits selector whole part = three_true bits (is_not selector) (is_not part) (is_so whole) _ _ _ (not_true bits selector) (not_true bits part) (so_true bits whole)

whole_true : (bits : List Bool) (selector whole : ℕ) (parts : List ℕ) →
    clause_true bits (is_not selector ∷ is_not whole ∷ map is_so parts) ≡ implies (bit_of bits selector) (implies (bit_of bits whole) (list_any (bit_of bits) parts))
whole_true bits selector whole parts =
    ap (λ a. a || (lit_true bits (is_not whole) || list_any (lit_true bits) (map is_so parts))) (not_true bits selector)
    ∙ ap (λ b. not (bit_of bits selector) || (b || list_any (lit_true bits) (map is_so parts))) (not_true bits whole)
    ∙ ap (λ c. not (bit_of bits selector) || (not (bit_of bits whole) || c)) (any_so bits parts)

sum_from : (bits : List Bool) (selector : ℕ) (s : SumRule) → meets_all bits (sum_clauses selector s) ≡ true → bit_of bits selector ≡ true → point_sums bits s ≡ true
sum_from bits selector s h on =
    let firsts = map (part_clause selector s.whole) s.parts in
    let last = is_not selector ∷ is_not s.whole ∷ map is_so s.parts in
    let parts = and_parts (meets_all bits firsts) (clause_true bits last && true) (sym (list_all-append (clause_true bits) firsts (last ∷ [])) ∙ h) in
    same_bool_from (bit_of bits s.whole) (list_any (bit_of bits) s.parts)
    (λ w. implies_at (bit_of bits s.whole) (list_any (bit_of bits) s.parts)
    (implies_at (bit_of bits selector) (implies (bit_of bits s.whole) (list_any (bit_of bits) s.parts)) (sym (whole_true bits selector s.whole s.parts) ∙ (and_parts (clause_true bits last) true parts.1).0) on) w)
    (λ any. let found = any_at (bit_of bits) s.parts any in
    implies_at (bit_of bits found.item) (bit_of bits s.whole)
    (implies_at (bit_of bits selector) (implies (bit_of bits found.item) (bit_of bits s.whole))
    (sym (part_true bits selector s.whole found.item) ∙ all_at (clause_true bits) parts.0 (In-map (part_clause selector s.whole) found.member)) on) found.passes)

sum_to : (bits : List Bool) (selector : ℕ) (s : SumRule) → (bit_of bits selector ≡ true → point_sums bits s ≡ true) → meets_all bits (sum_clauses selector s) ≡ true
sum_to bits selector s h =
    let firsts = map (part_clause selector s.whole) s.parts in
    let last = is_not selector ∷ is_not s.whole ∷ map is_so s.parts in
    let same : bit_of bits selector ≡ true → bit_of bits s.whole ≡ list_any (bit_of bits) s.parts = λ on. same_bool_at (bit_of bits s.whole) (list_any (bit_of bits) s.parts) (h on) in
    list_all-append (clause_true bits) firsts (last ∷ [])
    ∙ and_from (meets_all bits firsts) (clause_true bits last && true)
    (all_from (clause_true bits) firsts (λ clause i.
    let image : IsImage (part_clause selector s.whole) clause s.parts = from_map (part_clause selector s.whole) s.parts i in
    ap (clause_true bits) image.is ∙ part_true bits selector s.whole image.source
    ∙ implies_from (bit_of bits selector) (implies (bit_of bits image.source) (bit_of bits s.whole)) (λ on.
    implies_from (bit_of bits image.source) (bit_of bits s.whole) (λ part. same on ∙ any_from (bit_of bits) image.member part))))
    (and_from (clause_true bits last) true
    (whole_true bits selector s.whole s.parts
    ∙ implies_from (bit_of bits selector) (implies (bit_of bits s.whole) (list_any (bit_of bits) s.parts)) (λ on.
    implies_from (bit_of bits s.whole) (list_any (bit_of bits) s.parts) (λ whole. sym (same on) ∙ whole))) refl)

-- the clauses of sums, by the number of a sum
sums_from : (bits : List Bool) (first : ℕ) (ss : List SumRule) → meets_all bits (sums_clauses first ss) ≡ true →
    (j : ℕ) (s : SumRule) → slice_get ss j ≡ Some s → bit_of bits (first + j) ≡ true → point_sums bits s ≡ true
sums_from bits first [] h j s at on = absurd (cc)
sums_from bits first (x ∷ ss) h zero s at on =
    let parts = and_parts (meets_all bits (sum_clauses first x)) (meets_all bits (sums_clauses (first + 1) ss)) (sym (list_all-append (clause_true bits) (sum_clauses first x) (sums_clauses (first + 1) ss)) ∙ h) in
    let e : first ≡ first + 0 = omega arith in
    let same : x ≡ s = cc in
    ap (point_sums bits) (sym same) ∙ sum_from bits first x parts.0 (ap (bit_of bits) e ∙ on)
sums_from bits first (x ∷ ss) h (suc j) s at on =
    let parts = and_parts (meets_all bits (sum_clauses first x)) (meets_all bits (sums_clauses (first + 1) ss)) (sym (list_all-append (clause_true bits) (sum_clauses first x) (sums_clauses (first + 1) ss)) ∙ h) in
    let e : first + 1 + j ≡ first + suc j = omega arith in
    sums_from bits (first + 1) ss parts.1 j s at (ap (bit_of bits) e ∙ on)

sums_to : (bits : List Bool) (first : ℕ) (ss : List SumRule) → ((j : ℕ) (s : SumRule) → slice_get ss j ≡ Some s → bit_of bits (first + j) ≡ true → point_sums bits s ≡ true) →
    meets_all bits (sums_clauses first ss) ≡ true
sums_to bits first [] each = refl
sums_to bits first (x ∷ ss) each =
    let e : first ≡ first + 0 = omega arith in
    let now = sum_to bits first x (λ on. each 0 x refl (ap (bit_of bits) (sym e) ∙ on)) in
    let later = sums_to bits (first + 1) ss (λ j s at on.
    let f : first + 1 + j ≡ first + suc j = omega arith in
    each (suc j) s at (ap (bit_of bits) (sym f) ∙ on)) in
    list_all-append (clause_true bits) (sum_clauses first x) (sums_clauses (first + 1) ss) ∙ and_from (meets_all bits (sum_clauses first x)) (meets_all bits (sums_clauses (first + 1) ss)) now later

-- a region has the point by the bits of the concepts alone
pub lies_same : {n : ℕ} {point bits : List Bool} → Agrees n point bits → (region : Region) (pair : ℕ × ℕ) → pair.0 < n → pair.1 < n → lies_in region pair point ≡ lies_in region pair bits
lies_same {n} {point} {bits} g LeftOnly pair h k = ap (λ a. a && not (bit_of point pair.1)) (g.same pair.0 h) ∙ ap (λ b. bit_of bits pair.0 && not b) (g.same pair.1 k)
lies_same {n} {point} {bits} g Both pair h k = ap (λ a. a && bit_of point pair.1) (g.same pair.0 h) ∙ ap (λ b. bit_of bits pair.0 && b) (g.same pair.1 k)
lies_same {n} {point} {bits} g RightOnly pair h k = ap (λ a. not a && bit_of point pair.1) (g.same pair.0 h) ∙ ap (λ b. not (bit_of bits pair.0) && b) (g.same pair.1 k)

-- the concepts of a pair
pub record InBounds (p : Problem) (pair : ℕ × ℕ) : Type 0 where
  pub left : pair.0 < concept_count p
  pub right : pair.1 < concept_count p
  pub order : pair.0 < pair.1

pub pair_in_bounds : (p : Problem) (k : ℕ) → k < pair_count p → InBounds p (pair_at p k)
pair_in_bounds p k within =
    let r = from_pairs p (pair_at p k) (In-get_or (pairs p) k (0, 0) within) in
    record { left = omega (arith, r.order, r.within); right = r.within; order = r.order }

-- a sum is of concepts
record SumInBounds (p : Problem) (s : SumRule) : Type 0 where
  whole : s.whole < concept_count p
  parts : (x : ℕ) → In x s.parts → x < concept_count p

stated_sum : (p : Problem) (a : Articulation) (s : SumRule) → is_articulation p a ≡ true → as_sum a ≡ Some s → SumInBounds p s
stated_sum p (Pair left right set) s h e = absurd (cc)
stated_sum p (Sum whole parts) s h e =
    let same : record { whole = whole; parts = parts } ≡ s = cc in
    let all = and_parts (is_concept p whole && nat_lt 1 (length parts)) (list_all (λ part. is_concept p part && is_cross p (whole, part)) parts) h in
    let made : SumInBounds p (record { whole = whole; parts = parts }) = record {
      whole = ltb-true whole (concept_count p) (and_parts (is_concept p whole) (nat_lt 1 (length parts)) all.0).0;
      parts = λ x i. ltb-true x (concept_count p) (and_parts (is_concept p x) (is_cross p (whole, x)) (all_at (λ part. is_concept p part && is_cross p (whole, part)) all.1 i)).0;
    } in
    subst (SumInBounds p) same made

sum_in_bounds : (p : Problem) → IsBuilt p → (j : ℕ) (s : SumRule) → slice_get (all_sums p) j ≡ Some s → SumInBounds p s
sum_in_bounds p built j s at =
    let there_is : In s (all_sums p) = subst (λ x. In x (all_sums p)) (get_or_from_slice_get (all_sums p) j s s at) (In-get_or (all_sums p) j s (slice_get_within (all_sums p) j s at)) in
    let given : IsGiven as_sum s p.articulations = from_filter_map as_sum p.articulations there_is in
    stated_sum p given.source s (all_at (is_articulation p) (valid_parts p built.valid).articulations given.member) given.is

sums_same : (p : Problem) {point bits : List Bool} → Agrees (concept_count p) point bits → (s : SumRule) → SumInBounds p s → point_sums point s ≡ point_sums bits s
sums_same p {point} {bits} g s b = ap (λ a. same_bool a (list_any (bit_of point) s.parts)) (g.same s.whole b.whole) ∙ ap (same_bool (bit_of bits s.whole)) (any_same g s.parts b.parts)

-- the five groups of clauses
record Groups (p : Problem) (bits : List Bool) : Type 0 where
  within : meets_all bits (within_clauses p) ≡ true
  apart : meets_all bits (apart_clauses p) ≡ true
  covered : meets_all bits (covered_clauses p) ≡ true
  paired : meets_all bits (pairs_clauses (concept_count p) (pairs p)) ≡ true
  summed : meets_all bits (sums_clauses (first_sum_selector p) (all_sums p)) ≡ true

appended : (bits : List Bool) (a b : List (List ℕ)) → meets_all bits (a ++ b) ≡ true → (meets_all bits a ≡ true) × (meets_all bits b ≡ true)
appended bits a b h = and_parts (meets_all bits a) (meets_all bits b) (sym (list_all-append (clause_true bits) a b) ∙ h)

append : (bits : List Bool) (a b : List (List ℕ)) → meets_all bits a ≡ true → meets_all bits b ≡ true → meets_all bits (a ++ b) ≡ true
append bits a b h k = list_all-append (clause_true bits) a b ∙ and_from (meets_all bits a) (meets_all bits b) h k

groups_at : (p : Problem) (bits : List Bool) → meets_all bits (given_clauses p) ≡ true → Groups p bits
groups_at p bits h =
    let w = within_clauses p in
    let a = apart_clauses p in
    let c = covered_clauses p in
    let r = pairs_clauses (concept_count p) (pairs p) in
    let s = sums_clauses (first_sum_selector p) (all_sums p) in
    let four = appended bits (w ++ a ++ c ++ r) s h in
    let three = appended bits (w ++ a ++ c) r four.0 in
    let two = appended bits (w ++ a) c three.0 in
    let one = appended bits w a two.0 in
    record { within = one.0; apart = one.1; covered = two.1; paired = three.1; summed = four.1 }

groups_from : (p : Problem) (bits : List Bool) → Groups p bits → meets_all bits (given_clauses p) ≡ true
groups_from p bits g =
    let w = within_clauses p in
    let a = apart_clauses p in
    let c = covered_clauses p in
    let r = pairs_clauses (concept_count p) (pairs p) in
    let s = sums_clauses (first_sum_selector p) (all_sums p) in
    append bits (w ++ a ++ c ++ r) s (append bits (w ++ a ++ c) r (append bits (w ++ a) c (append bits w a g.within g.apart) g.covered) g.paired) g.summed

-- bits that meet the clauses obey, and bits that obey meet the clauses
pub obey_from : (p : Problem) → IsBuilt p → (bits : List Bool) → meets_all bits (given_clauses p) ≡ true → Obeys p bits
obey_from p built bits h =
    let g = groups_at p bits h in
    let n = concept_count p in
    let f = front_agrees n bits in
    record {
      within = within_from p built f g.within;
      apart = apart_from p built f g.apart;
      covered = covered_from p built f g.covered;
      regions = λ k region within on lies.
          let b = pair_in_bounds p k within in
          both_ways (lies_in region (pair_at p k) bits)
          (not-true (lies_in region (pair_at p k) bits) (implies_at (bit_of bits (n + 3 * k + region_number region)) (not (lies_in region (pair_at p k) bits)) (pairs_from bits n (pairs p) g.paired k within region) (sym (so_true bits (n + 3 * k + region_number region)) ∙ on)))
          (sym (lies_same f region (pair_at p k) b.left b.right) ∙ lies);
      sums = λ j s at on.
          sums_same p f s (sum_in_bounds p built j s at) ∙ sums_from bits (first_sum_selector p) (all_sums p) g.summed j s at (sym (so_true bits (first_sum_selector p + j)) ∙ on);
    }

pub obey_to : (p : Problem) → IsBuilt p → (bits : List Bool) → Obeys p bits → meets_all bits (given_clauses p) ≡ true
obey_to p built bits o =
    let n = concept_count p in
    let f = front_agrees n bits in
    groups_from p bits (record {
      within = within_to p built f o.within;
      apart = apart_to p built f o.apart;
      covered = covered_to p built f o.covered;
      paired = pairs_to bits n (pairs p) (λ k within region.
          let b = pair_in_bounds p k within in
          implies_from (bit_of bits (n + 3 * k + region_number region)) (not (lies_in region (pair_at p k) bits)) (λ on.
          ap not (false_from_ne_true (lies_in region (pair_at p k) bits) (λ lies.
          o.regions k region within (so_true bits (n + 3 * k + region_number region) ∙ on) (lies_same f region (pair_at p k) b.left b.right ∙ lies)))));
      summed = sums_to bits (first_sum_selector p) (all_sums p) (λ j s at on.
          sym (sums_same p f s (sum_in_bounds p built j s at)) ∙ o.sums j s at (so_true bits (first_sum_selector p + j) ∙ on));
    })
