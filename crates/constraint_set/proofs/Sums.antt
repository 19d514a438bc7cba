-- The sums of a problem, by their places and by what they say.
use Rattle.std.proofs.Common.{◌≡◌, ℕ, zero, suc, ◌+◌, ◌<◌, ◌≤◌, true, false, cond, List, [], ◌∷◌, ◌++◌, map, length, take, get_or, Option, None, Some, refl, sym, ap, ◌∙◌, arith}
use Rattle.std.specs.Prelude.{filter, filter_map, slice_get}
use Rattle.std.specs.List.{range_with_len, cons_option}
use Rattle.std.specs.Option.{option_map_or, option_and_then}
use Rattle.std.proofs.lemmas.Option.{slice_get-get_or}
use Rattle.std.proofs.lemmas.List.{take_more, take_all, map-append, get_or-map, length-map}
use Rattle.world_model.specs.declared.Articulation.{Articulation}
use Rattle.world_model.specs.declared.Articulation.TheVariants.{Pair, Sum}
use Rattle.world_model.specs.Problem.{Problem, SumRule, as_sum}
use Rattle.world_model.proofs.Members.{In-get_or, from_filter, from_range}
use Rattle.constraint_set.specs.Readers.{is_sum, is_sum_at, sum_places, all_sums, rule_at}
use Rattle.constraint_set.proofs.Lists.{range_more, filter-append}

filter_map-append : (xs ys : List Articulation) → filter_map as_sum (xs ++ ys) ≡ filter_map as_sum xs ++ filter_map as_sum ys
filter_map-append [] ys = refl
filter_map-append (x ∷ xs) ys = more (as_sum x) (filter_map-append xs ys)
  where
    more : (o : Option SumRule) → filter_map as_sum (xs ++ ys) ≡ filter_map as_sum xs ++ filter_map as_sum ys →
        cons_option o (filter_map as_sum (xs ++ ys)) ≡ cons_option o (filter_map as_sum xs) ++ filter_map as_sum ys
    more None e = e
    more (Some s) e = ap (λ l. s ∷ l) e

-- the sums, each as one that is there
abbrev there : List SumRule → List (Option SumRule)
there = map (λ s. Some s)

-- one place
one_place : (arts : List Articulation) (n : ℕ) (a : Articulation) → slice_get arts n ≡ Some a →
    map (rule_at arts) (filter (is_sum_at arts) (n ∷ [])) ≡ there (filter_map as_sum (a ∷ []))
one_place arts n (Pair left right set) at =
    let none : is_sum_at arts n ≡ false = ap (λ o. option_map_or is_sum o false) at in
    ap (λ b. map (rule_at arts) (cond b (n ∷ []) [])) none
one_place arts n (Sum whole parts) at =
    let sum : is_sum_at arts n ≡ true = ap (λ o. option_map_or is_sum o false) at in
    ap (λ b. map (rule_at arts) (cond b (n ∷ []) [])) sum ∙ ap (λ o. option_and_then as_sum o ∷ []) at

-- what stands at the places of the sums among the first articulations
first_places : (arts : List Articulation) (n : ℕ) → n ≤ length arts → map (rule_at arts) (filter (is_sum_at arts) (range_with_len 0 n)) ≡ there (filter_map as_sum (take n arts))
first_places arts zero h = refl
first_places arts (suc n) h =
    let e : suc n ≡ n + 1 = omega arith in
    let d : Articulation = Sum 0 [] in
    let a = get_or arts n d in
    let before = filter (is_sum_at arts) (range_with_len 0 n) in
    let now = filter (is_sum_at arts) (n ∷ []) in
    ap (λ m. map (rule_at arts) (filter (is_sum_at arts) (range_with_len 0 m))) e
    ∙ ap (map (rule_at arts)) (ap (filter (is_sum_at arts)) (range_more n) ∙ filter-append (is_sum_at arts) (range_with_len 0 n) (n ∷ []))
    ∙ map-append (rule_at arts) before now
    ∙ ap (λ l. l ++ map (rule_at arts) now) (first_places arts n (omega arith))
    ∙ ap (λ l. there (filter_map as_sum (take n arts)) ++ l) (one_place arts n a (slice_get-get_or arts n d (omega arith)))
    ∙ sym (map-append (λ (s : SumRule). Some s) (filter_map as_sum (take n arts)) (filter_map as_sum (a ∷ [])))
    ∙ ap there (sym (filter_map-append (take n arts) (a ∷ [])))
    ∙ ap (λ l. there (filter_map as_sum l)) (sym (take_more arts n d (omega arith)) ∙ ap (λ m. take m arts) (sym e))

places_say : (p : Problem) → map (rule_at p.articulations) (sum_places p) ≡ there (all_sums p)
places_say p =
    let arts = p.articulations in
    first_places arts (length arts) (omega arith) ∙ ap (λ l. there (filter_map as_sum l)) (take_all (length arts) arts (omega arith))

-- as many places as sums
pub places_counted : (p : Problem) → length (sum_places p) ≡ length (all_sums p)
places_counted p =
    sym (length-map {B = Option SumRule} (sum_places p) (rule_at p.articulations)) ∙ ap length (places_say p) ∙ length-map {B = Option SumRule} (all_sums p) (λ s. Some s)

get_there : (xs : List SumRule) (k : ℕ) → get_or (there xs) k None ≡ slice_get xs k
get_there [] k = refl
get_there (x ∷ xs) zero = refl
get_there (x ∷ xs) (suc k) = get_there xs k

-- what stands at the place of a sum
pub record SumFound (p : Problem) (sum place : ℕ) : Type 0 where
  pub within : place < length p.articulations
  pub is_one : is_sum_at p.articulations place ≡ true
  pub says : slice_get (all_sums p) sum ≡ rule_at p.articulations place

pub sum_found : (p : Problem) (sum place : ℕ) → sum < length (sum_places p) → place ≡ get_or (sum_places p) sum 0 → SumFound p sum place
sum_found p sum place h is =
    let arts = p.articulations in
    let found = from_filter (is_sum_at arts) (range_with_len 0 (length arts)) (In-get_or (sum_places p) sum 0 h) in
    let r = from_range 0 (length arts) found.0 in
    record {
      within = omega (arith, is, r.1);
      is_one = ap (is_sum_at arts) is ∙ found.1;
      says = sym (get_there (all_sums p) sum) ∙ ap (λ l. get_or l sum None) (sym (places_say p)) ∙ get_or-map (rule_at arts) (sum_places p) sum 0 None h ∙ ap (rule_at arts) (sym is);
    }
