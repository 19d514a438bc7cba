-- Lines of pairs: what a further world adds to them.
use Rattle.std.proofs.Common.{◌≡◌, ◌+◌, ◌<◌, ◌≤◌, ℕ, zero, suc, Bool, true, false, cond, ◌||◌, List, [], ◌∷◌, ◌++◌, length, map, get_or, set, codes, decimal, refl, sym, ap, ◌∙◌, arith, inl, inr}
use Rattle.std.specs.List.{range_with_len}
use Rattle.std.proofs.lemmas.Bool.{cases_eq}
use Rattle.std.proofs.lemmas.List.{get_or-set_same, get_or-set_other}
use Rattle.std.proofs.lemmas.List.Elements.{All-weaker, filter_agree}
use Rattle.std.proofs.lemmas.List.Sums.{sum_by-cons}
use Rattle.rcc5_core.specs.declared.Rel.{Rel}
use Rattle.rcc5_core.specs.declared.Rel.TheVariants.{Equals, Includes, IncludedIn, Overlaps, Disjoint}
use Rattle.rcc5_core.specs.declared.RelSet.{RelSet}
use Rattle.rcc5_core.specs.Relation.{all_rels, same_rel, letter_of}
use Rattle.rcc5_core.specs.RelationSet.{has, adding}
use Rattle.world_model.specs.Problem.{Problem, cross_pairs}
use Rattle.cleantax_text.specs.Canonical.{spaced}
use Rattle.merge_print.proofs.ListLemmas.{flat_map_same, range_below}
use Rattle.world_model.specs.Saturated.{saturated}
use Rattle.world_watch.specs.Counts.{count_in, counting, counts_at}
use Rattle.world_watch.specs.declared.counts.Counts.{Counts}
use Rattle.world_watch.specs.Kinds.{pair_names, cross_at, or_dot, pair_lines, seen_line, seen_lines, tally_line, tally_lines, set_at, is_seen, times, has_at}

-- lines that agree for each pair
lines_same : (p : Problem) (f g : ℕ → List ℕ) → ((k : ℕ) → k < length (cross_pairs p) → f k ≡ g k) → pair_lines p f ≡ pair_lines p g
lines_same p f g agree =
    flat_map_same f g (range_with_len 0 (length (cross_pairs p)))
    (All-weaker (λ k. k < length (cross_pairs p)) (λ k. f k ≡ g k) (λ k lt. agree k lt) (range_with_len 0 (length (cross_pairs p))) (range_below (length (cross_pairs p))))

-- a write of what stands for one place more
pub marked_more : {X Y : Type 0} (step : X → Y → X) (none : X) (off : Y) (old now : List X) (rels : List Y) (n : ℕ) (v : X) → n < length now
    → ((k : ℕ) → k < n → get_or now k none ≡ step (get_or old k none) (get_or rels k off)) → v ≡ step (get_or old n none) (get_or rels n off)
    → (k : ℕ) → k < n + 1 → get_or (set now n v) k none ≡ step (get_or old k none) (get_or rels k off)
marked_more step none off old now rels n v within before is k lt = elim (cases_eq k n) [
  | inl same ↦ ap (λ i. get_or (set now n v) i none) same ∙ get_or-set_same now n v none within ∙ is ∙ ap (λ i. step (get_or old i none) (get_or rels i off)) (sym same)
  | inr other ↦ get_or-set_other now n k v none other ∙ before k (omega arith)
]

-- one more of what stands past the end changes nothing
pub none_more : {X : Type 0} (none : X) (xs : List X) (k : ℕ) → get_or (xs ++ none ∷ []) k none ≡ get_or xs k none
none_more none [] zero = refl
none_more none [] (suc k) = refl
none_more none (x ∷ xs) zero = refl
none_more none (x ∷ xs) (suc k) = none_more none xs k

pub others_kept : {X : Type 0} (none : X) (old now : List X) (n : ℕ) (v : X) → ((k : ℕ) → n ≤ k → get_or now k none ≡ get_or old k none)
    → (k : ℕ) → n + 1 ≤ k → get_or (set now n v) k none ≡ get_or old k none
others_kept none old now n v kept k le = let other : k ≡ n → ⊥ = λ e. omega arith in get_or-set_other now n k v none other ∙ kept k (omega arith)

-- letters of pairs
seen_same : (p : Problem) (f g : ℕ → Rel → Bool) → ((k : ℕ) → k < length (cross_pairs p) → (rel : Rel) → f k rel ≡ g k rel) → seen_lines p f ≡ seen_lines p g
seen_same p f g agree = lines_same p (λ k. seen_line p (f k) k) (λ k. seen_line p (g k) k)
    (λ k lt. ap (λ rels. pair_names p (cross_at p k) ++ codes " " ++ or_dot (map letter_of rels) ++ codes "\n") (filter_agree (f k) (g k) (agree k lt) all_rels))

or_grouped : (a b c : Bool) → ((a || b) || c) ≡ (a || (b || c))
or_grouped true b c = refl
or_grouped false b c = refl

has_added : (s : RelSet) (rel other : Rel) → has (adding s rel) other ≡ (has s other || same_rel rel other)
has_added s Equals Equals = refl
has_added s Equals Includes = refl
has_added s Equals IncludedIn = refl
has_added s Equals Overlaps = refl
has_added s Equals Disjoint = refl
has_added s Includes Equals = refl
has_added s Includes Includes = refl
has_added s Includes IncludedIn = refl
has_added s Includes Overlaps = refl
has_added s Includes Disjoint = refl
has_added s IncludedIn Equals = refl
has_added s IncludedIn Includes = refl
has_added s IncludedIn IncludedIn = refl
has_added s IncludedIn Overlaps = refl
has_added s IncludedIn Disjoint = refl
has_added s Overlaps Equals = refl
has_added s Overlaps Includes = refl
has_added s Overlaps IncludedIn = refl
has_added s Overlaps Overlaps = refl
has_added s Overlaps Disjoint = refl
has_added s Disjoint Equals = refl
has_added s Disjoint Includes = refl
has_added s Disjoint IncludedIn = refl
has_added s Disjoint Overlaps = refl
has_added s Disjoint Disjoint = refl

pub seen_more : (p : Problem) (table : List Rel) (old new : List RelSet) → ((k : ℕ) → k < length (cross_pairs p) → set_at new k ≡ adding (set_at old k) (get_or table k Disjoint))
    → (rest : List (List Rel)) → seen_lines p (λ k rel. has (set_at new k) rel || is_seen rest k rel) ≡ seen_lines p (λ k rel. has (set_at old k) rel || is_seen (table ∷ rest) k rel)
seen_more p table old new marked rest = seen_same p (λ k rel. has (set_at new k) rel || is_seen rest k rel) (λ k rel. has (set_at old k) rel || is_seen (table ∷ rest) k rel)
    (λ k lt rel. ap (λ s. has s rel || is_seen rest k rel) (marked k lt) ∙ ap (λ b. b || is_seen rest k rel) (has_added (set_at old k) (get_or table k Disjoint) rel)
    ∙ or_grouped (has (set_at old k) rel) (has_at k rel table) (is_seen rest k rel))

-- counts of pairs
map_same : {X Y : Type 0} (f g : X → Y) → ((x : X) → f x ≡ g x) → (xs : List X) → map f xs ≡ map g xs
map_same f g same [] = refl
map_same f g same (x ∷ xs) = ap (λ y. y ∷ map f xs) (same x) ∙ ap (λ ys. g x ∷ ys) (map_same f g same xs)

tally_same : (p : Problem) (f g : ℕ → Rel → ℕ) → ((k : ℕ) → k < length (cross_pairs p) → (rel : Rel) → saturated (f k rel) ≡ saturated (g k rel)) → tally_lines p f ≡ tally_lines p g
tally_same p f g agree = lines_same p (λ k. tally_line p (f k) k) (λ k. tally_line p (g k) k)
    (λ k lt. ap (λ words. pair_names p (cross_at p k) ++ spaced words ++ codes "\n") (map_same (λ rel. decimal (saturated (f k rel))) (λ rel. decimal (saturated (g k rel))) (λ rel. ap decimal (agree k lt rel)) all_rels))

-- a count that stayed at its last value already
saturated_more : (n rest : ℕ) → saturated (saturated (n + 1) + rest) ≡ saturated (n + (1 + rest))
saturated_more n rest = omega arith

saturated_same : (n rest : ℕ) → saturated (n + rest) ≡ saturated (n + (0 + rest))
saturated_same n rest = omega arith

counted_in : (c : Counts) (rel other : Rel) (rest : ℕ) → saturated (count_in (counting c rel) other + rest) ≡ saturated (count_in c other + (cond (same_rel rel other) 1 0 + rest))
counted_in c Equals Equals rest = saturated_more c.equals rest
counted_in c Equals Includes rest = saturated_same c.includes rest
counted_in c Equals IncludedIn rest = saturated_same c.included_in rest
counted_in c Equals Overlaps rest = saturated_same c.overlaps rest
counted_in c Equals Disjoint rest = saturated_same c.disjoint rest
counted_in c Includes Equals rest = saturated_same c.equals rest
counted_in c Includes Includes rest = saturated_more c.includes rest
counted_in c Includes IncludedIn rest = saturated_same c.included_in rest
counted_in c Includes Overlaps rest = saturated_same c.overlaps rest
counted_in c Includes Disjoint rest = saturated_same c.disjoint rest
counted_in c IncludedIn Equals rest = saturated_same c.equals rest
counted_in c IncludedIn Includes rest = saturated_same c.includes rest
counted_in c IncludedIn IncludedIn rest = saturated_more c.included_in rest
counted_in c IncludedIn Overlaps rest = saturated_same c.overlaps rest
counted_in c IncludedIn Disjoint rest = saturated_same c.disjoint rest
counted_in c Overlaps Equals rest = saturated_same c.equals rest
counted_in c Overlaps Includes rest = saturated_same c.includes rest
counted_in c Overlaps IncludedIn rest = saturated_same c.included_in rest
counted_in c Overlaps Overlaps rest = saturated_more c.overlaps rest
counted_in c Overlaps Disjoint rest = saturated_same c.disjoint rest
counted_in c Disjoint Equals rest = saturated_same c.equals rest
counted_in c Disjoint Includes rest = saturated_same c.includes rest
counted_in c Disjoint IncludedIn rest = saturated_same c.included_in rest
counted_in c Disjoint Overlaps rest = saturated_same c.overlaps rest
counted_in c Disjoint Disjoint rest = saturated_more c.disjoint rest

pub tally_more : (p : Problem) (table : List Rel) (old new : List Counts) → ((k : ℕ) → k < length (cross_pairs p) → counts_at new k ≡ counting (counts_at old k) (get_or table k Disjoint))
    → (rest : List (List Rel)) → tally_lines p (λ k rel. count_in (counts_at new k) rel + times rest k rel) ≡ tally_lines p (λ k rel. count_in (counts_at old k) rel + times (table ∷ rest) k rel)
tally_more p table old new marked rest = tally_same p (λ k rel. count_in (counts_at new k) rel + times rest k rel) (λ k rel. count_in (counts_at old k) rel + times (table ∷ rest) k rel)
    (λ k lt rel. ap (λ c. saturated (count_in c rel + times rest k rel)) (marked k lt) ∙ counted_in (counts_at old k) (get_or table k Disjoint) rel (times rest k rel)
    ∙ ap (λ n. saturated (count_in (counts_at old k) rel + n)) (sym (sum_by-cons (λ t. cond (has_at k rel t) 1 0) table rest)))

-- what is reported in the end, and what a new one would report
pub tally_end : (p : Problem) (counts : List Counts) → tally_lines p (λ k. count_in (counts_at counts k)) ≡ tally_lines p (λ k rel. count_in (counts_at counts k) rel + times [] k rel)
tally_end p counts = tally_same p (λ k. count_in (counts_at counts k)) (λ k rel. count_in (counts_at counts k) rel + times [] k rel) (λ k lt rel. omega arith)
