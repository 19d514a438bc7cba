-- The counts of a summary.
use Rattle.std.proofs.Common.{◌≡◌, ℕ, ◌+◌, ◌≤◌, Bool, true, false, not, cond, All, List, [], ◌∷◌, ◌++◌, None, Some, length, refl, ap, subst, ◌∙◌, arith, append_assoc, length-append}
use Rattle.std.specs.Prelude.{count_by, filter, slice_get, Result, OnOk}
use Rattle.std.specs.List.{range_with_len}
use Rattle.std.proofs.lemmas.List.Elements.{All-weaker, All-contains_itself}
use Rattle.std.proofs.lemmas.Option.{get_or_from_slice_get}
use Rattle.std.proofs.lemmas.Result.{IfOk-weaker}
use Rattle.std.proofs.lemmas.List.Sums.{sum_by-append}
use Rattle.rcc5_core.specs.declared.Rel.{Rel}
use Rattle.rcc5_core.specs.declared.Rel.TheVariants.{Equals}
use Rattle.world_model.specs.Problem.{Problem, cross_pairs, all_pairs, is_cross}
use Rattle.world_model.specs.Family.{IsPossibleWorld}
use Rattle.world_model.specs.Listing.{IsListing, rel_at}
use Rattle.world_model.proofs.PointPositions.{world_is_full}
use Rattle.world_model.proofs.OrderListings.{one_listing_law}
use Rattle.constraint_set.proofs.Lists.{range_more}
use Rattle.trial_run.specs.Made.{made}
use Rattle.world_model.specs.Saturated.{count_of}
use Rattle.trial_run.specs.Trials.{count_line, summary, IsSummary}
use Rattle.trial_run.specs.Steps.{AreFound}

-- one number more is counted, or isn't
pub count_more : (test : ℕ → Bool) (n : ℕ) → count_by test (range_with_len 0 (n + 1)) ≡ count_by test (range_with_len 0 n) + cond (test n) 1 0
count_more test n =
    let one : count_by test (n ∷ []) ≡ cond (test n) 1 0 = by (test n) in
    ap (count_by test) (range_more n) ∙ sum_by-append (λ k. cond (test k) 1 0) (range_with_len 0 n) (n ∷ []) ∙ ap (λ k. count_by test (range_with_len 0 n) + k) one
  where
    by : (b : Bool) → 0 + cond b 1 0 ≡ cond b 1 0
    by true = refl
    by false = refl

-- the relation of a world at a place
pub rel_got : (world : List Rel) (place : ℕ) (rel : Rel) → slice_get world place ≡ Some rel → rel_at world place ≡ rel
rel_got world place rel got = get_or_from_slice_get world place rel Equals got

-- three lines behind a text
pub three_counts : {T E : Type 0} (r : Result T E) (old one two new first second third : List ℕ) (a b c a' b' c' : ℕ) → one ≡ old ++ count_line first a → a ≡ a' → two ≡ one ++ count_line second b → b ≡ b'
    → OnOk r (new ≡ two ++ count_line third c) → c ≡ c' → OnOk r (new ≡ old ++ (count_line first a' ++ (count_line second b' ++ count_line third c')))
three_counts r old one two new first second third a b c a' b' c' p pa q qb last qc = IfOk-weaker r _ _ (λ done e. all e) last
  where
    all : new ≡ two ++ count_line third c → new ≡ old ++ (count_line first a' ++ (count_line second b' ++ count_line third c'))
    all e =
        e ∙ ap (λ (text : List ℕ). text ++ count_line third c) (q ∙ ap (λ (text : List ℕ). text ++ count_line second b) p)
        ∙ append_assoc (old ++ count_line first a) (count_line second b) (count_line third c) ∙ append_assoc old (count_line first a) (count_line second b ++ count_line third c)
        ∙ ap (λ (n : ℕ). old ++ (count_line first n ++ (count_line second b ++ count_line third c))) pa
        ∙ ap (λ (n : ℕ). old ++ (count_line first a' ++ (count_line second n ++ count_line third c))) qb
        ∙ ap (λ (n : ℕ). old ++ (count_line first a' ++ (count_line second b' ++ count_line third n))) qc

-- each world has a relation for each pair across taxonomies
pub all_reach : (p : Problem) (worlds : List (List Rel)) → IsListing p [] None worlds → All (λ world. length (cross_pairs p) ≤ length world) worlds
all_reach p worlds listed = All-weaker _ _ (λ world there. reach world ((listed.members world).0 there).0) worlds (All-contains_itself worlds)
  where
    reach : (world : List Rel) → IsPossibleWorld p world → length (cross_pairs p) ≤ length world
    reach world possible =
        let full = world_is_full p world possible in
        omega (arith, length-append (filter (is_cross p) (all_pairs p)) (filter (λ pair. not (is_cross p pair)) (all_pairs p)))

-- the worlds that were listed are those of the certificate
pub is_summary : (seed size found : ℕ) (p : Problem) (worlds : List (List Rel)) (text : List ℕ) → p ≡ made seed size → AreFound p None found → IsListing p [] None worlds
    → text ≡ summary seed size p found worlds → IsSummary seed size text
is_summary seed size found p worlds text p_is are listed is =
    let same : are.worlds ≡ worlds = one_listing_law.worlds p [] None are.worlds worlds are.listed listed in
    let count : found ≡ count_of worlds = are.counted ∙ ap count_of same in
    record {
      worlds = worlds;
      exactly = subst (λ (q : Problem). IsListing q [] None worlds) p_is listed;
      is = is ∙ ap (λ (n : ℕ). summary seed size p n worlds) count ∙ ap (λ (q : Problem). summary seed size q (count_of worlds) worlds) p_is;
    }
