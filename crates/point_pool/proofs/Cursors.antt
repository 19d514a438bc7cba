-- What is forced of pairs as a prefix grows and shrinks.
use Rattle.std.proofs.Common.{◌≡◌, ◌≢◌, ℕ, ◌+◌, ◌*◌, ◌/◌, ◌%◌, ◌<◌, ◌≤◌, true, false, List, [], ◌∷◌, ◌++◌, length, get_or, set, take, inl, inr, refl, sym, ap, ◌∙◌, arith, zero, suc, ◌-◌, append_assoc, append-nil}
use Rattle.std.specs.Prelude.{Option, nat_lt, if◌then◌else◌, flat_map}
use Rattle.std.proofs.lemmas.Bool.{cases_eq, cases_lt, lt-ltb, le-ltb}
use Rattle.std.proofs.lemmas.List.{get_or-set_same, get_or-set_other, get_or_append_left, get_or_push, get_or-take, length-set, length-append, length-take-le, take-append-le, take_all}
use Rattle.rcc5_core.specs.declared.Rel.{Rel}
use Rattle.rcc5_core.specs.declared.Rel.TheVariants.{Equals}
use Rattle.rcc5_core.specs.declared.Regions.{Regions}
use Rattle.rcc5_core.specs.RelationSet.{has, only}
use Rattle.rcc5_core.specs.declared.Occupancy.TheVariants.{Occupied}
use Rattle.rcc5_core.specs.Region.{forced_regions, row_of, word_at, same_word}
use Rattle.world_model.specs.Problem.{Problem, pair_count, concept_count}
use Rattle.world_model.specs.Node.{pair_at}
use Rattle.world_model.specs.Alive.{allowed, problem_at}
use Rattle.point_encode.specs.Model.Forced.{region_with, pair_selectors}
use Rattle.world_model.specs.Laws.{PositionsNarrow}
use Rattle.point_pool.specs.Cursors.{IsOpen, AreForced, IsCursor, start_selectors, kept_selectors, path_selectors}
use Rattle.world_model.specs.Points.{forced_at}
use Rattle.point_encode.specs.Numbers.{is_needed}
use Rattle.std.specs.List.{range_with_len}
use Rattle.std.proofs.lemmas.Grind.{flat_map-append}
use Rattle.constraint_set.proofs.Lists.{range_more}
use Rattle.world_model.proofs.Narrowed.{both_only, forced_only}

-- what is allowed at an open prefix
pub allowed_inside : PositionsNarrow → (p : Problem) (m : List Rel) (k : ℕ) → IsOpen p m → k < length m → allowed (problem_at p m) (pair_at p k) ≡ only (get_or m k Equals)
allowed_inside law p m k o within =
    let wide = o.within in
    law.inside p m k within (omega arith) ∙ both_only (allowed p (pair_at p k)) (get_or m k Equals) (o.each k within)

pub forced_inside : PositionsNarrow → (p : Problem) (m : List Rel) (k : ℕ) → IsOpen p m → k < length m → forced_at (problem_at p m) k ≡ row_of (get_or m k Equals)
forced_inside law p m k o within = ap forced_regions (allowed_inside law p m k o within) ∙ forced_only (get_or m k Equals)

pub forced_beyond : PositionsNarrow → (p : Problem) (m : List Rel) (k : ℕ) → length m ≤ k → k < pair_count p → forced_at (problem_at p m) k ≡ forced_at p k
forced_beyond law p m k past within = ap forced_regions (law.beyond p m k past within)

-- a prefix with one relation more, and with fewer
pub open_more : (p : Problem) (m : List Rel) (rel : Rel) → IsOpen p m → length m < pair_count p → has (allowed p (pair_at p (length m))) rel ≡ true → IsOpen p (m ++ rel ∷ [])
open_more p m rel o within h = record {
  within = omega (arith, length-append m (rel ∷ []));
  each = λ k small. elim (cases_lt k (length m)) [
    | inl before ↦ ap (has (allowed p (pair_at p k))) (get_or_append_left m (rel ∷ []) Equals k before) ∙ o.each k before
    | inr here ↦
        let same : k ≡ length m = omega (arith, length-append m (rel ∷ [])) in
        ap (λ i. has (allowed p (pair_at p i)) (get_or (m ++ rel ∷ []) i Equals)) same ∙ ap (has (allowed p (pair_at p (length m)))) (get_or_push m rel Equals (length m) refl) ∙ h
  ];
}

pub open_fewer : (p : Problem) (m : List Rel) (n : ℕ) → IsOpen p m → n ≤ length m → IsOpen p (take n m)
open_fewer p m n o fewer =
    let counted : length (take n m) ≡ n = length-take-le n m fewer in
    record {
      within = omega (arith, o.within);
      each = λ k small. ap (has (allowed p (pair_at p k))) (get_or-take n m k Equals (omega arith)) ∙ o.each k (omega arith);
    }

-- what is forced with one relation more
pub forced_more : PositionsNarrow → (p : Problem) (m : List Rel) (rel : Rel) (now : List Regions) → IsOpen p m → length m < pair_count p →
    has (allowed p (pair_at p (length m))) rel ≡ true → AreForced (problem_at p m) now → AreForced (problem_at p (m ++ rel ∷ [])) (set now (length m) (row_of rel))
forced_more law p m rel now o within h are =
    let more = m ++ rel ∷ [] in
    let longer : length more ≡ length m + 1 = length-append m (rel ∷ []) in
    let opened : IsOpen p more = open_more p m rel o within h in
    let counted = are.counted in
    record {
      counted = length-set now (length m) (row_of rel) ∙ counted;
      each = λ k d small. elim (cases_lt k (length m)) [
        | inl before ↦
            let apart : k ≢ length m = omega arith in
            get_or-set_other now (length m) k (row_of rel) d apart ∙ are.each k d small ∙ forced_inside law p m k o before ∙
            ap row_of (sym (get_or_append_left m (rel ∷ []) Equals k before)) ∙ sym (forced_inside law p more k opened (omega arith))
        | inr later ↦ elim (cases_eq k (length m)) [
          | inl same ↦
              ap (λ i. get_or (set now (length m) (row_of rel)) i d) same ∙ get_or-set_same now (length m) (row_of rel) d (omega arith) ∙
              ap row_of (sym (get_or_push m rel Equals k (sym same))) ∙ sym (forced_inside law p more k opened (omega arith))
          | inr apart ↦
              get_or-set_other now (length m) k (row_of rel) d apart ∙ are.each k d small ∙ forced_beyond law p m k later small ∙ sym (forced_beyond law p more k (omega arith) small)
        ]
      ];
    }

-- and with the last one taken off
pub forced_fewer : PositionsNarrow → (p : Problem) (m : List Rel) (n : ℕ) (start now : List Regions) (d : Regions) → IsOpen p m → length m ≡ n + 1 → AreForced p start →
    AreForced (problem_at p m) now → AreForced (problem_at p (take n m)) (set now n (get_or start n d))
forced_fewer law p m n start now d o one begin are =
    let wide = o.within in
    let fewer = take n m in
    let counted : length fewer ≡ n = length-take-le n m (omega arith) in
    let opened : IsOpen p fewer = open_fewer p m n o (omega arith) in
    let rows = are.counted in
    record {
      counted = length-set now n (get_or start n d) ∙ rows;
      each = λ k e small. elim (cases_lt k n) [
        | inl before ↦
            let apart : k ≢ n = omega arith in
            get_or-set_other now n k (get_or start n d) e apart ∙ are.each k e small ∙ forced_inside law p m k o (omega arith) ∙
            ap row_of (sym (get_or-take n m k Equals before)) ∙ sym (forced_inside law p fewer k opened (omega arith))
        | inr later ↦ elim (cases_eq k n) [
          | inl same ↦
              ap (λ i. get_or (set now n (get_or start n d)) i e) same ∙ get_or-set_same now n (get_or start n d) e (omega arith) ∙ begin.each n d (omega arith) ∙
              ap (forced_at p) (sym same) ∙ sym (forced_beyond law p fewer k (omega arith) small)
          | inr apart ↦
              get_or-set_other now n k (get_or start n d) e apart ∙ are.each k e small ∙ forced_beyond law p m k (omega arith) small ∙ sym (forced_beyond law p fewer k (omega arith) small)
        ]
      ];
    }

-- the forced regions of one pair more
pub regions_more : (p : Problem) (regions : List Regions) (more : Regions) (i : ℕ) → length regions ≡ i → ((k : ℕ) (d : Regions) → k < i → get_or regions k d ≡ forced_at p k) →
    more ≡ forced_at p i → (length (regions ++ more ∷ []) ≡ i + 1) × ((k : ℕ) (d : Regions) → k < i + 1 → get_or (regions ++ more ∷ []) k d ≡ forced_at p k)
regions_more p regions more i counted each is = (
  omega (arith, length-append regions (more ∷ [])),
  λ k d small. elim (cases_lt k i) [
    | inl before ↦ get_or_append_left regions (more ∷ []) d k (omega arith) ∙ each k d before
    | inr here ↦
        let same : k ≡ i = omega arith in
        get_or_push regions more d k (counted ∙ sym same) ∙ is ∙ ap (forced_at p) (sym same)
  ],
)

-- a list of lists with one more, and two that are alike
one_more : (f : ℕ → List ℕ) (i : ℕ) → flat_map f (range_with_len 0 (i + 1)) ≡ flat_map f (range_with_len 0 i) ++ f i
one_more f i = ap (flat_map f) (range_more i) ∙ flat_map-append f (range_with_len 0 i) (i ∷ []) ∙ ap (λ ls. flat_map f (range_with_len 0 i) ++ ls) (append-nil (f i))

alike : (f g : ℕ → List ℕ) (i : ℕ) → ((k : ℕ) → k < i → f k ≡ g k) → flat_map f (range_with_len 0 i) ≡ flat_map g (range_with_len 0 i)
alike f g zero same = refl
alike f g (suc i) same =
    let one : suc i ≡ i + 1 = omega arith in
    ap (λ n. flat_map f (range_with_len 0 n)) one ∙ one_more f i ∙ ap (λ ls. ls ++ f i) (alike f g i (λ k small. same k (omega arith))) ∙
    ap (λ ls. flat_map g (range_with_len 0 i) ++ ls) (same i (omega arith)) ∙ sym (one_more g i) ∙ ap (λ n. flat_map g (range_with_len 0 n)) (sym one)

-- the selectors of a prefix with one relation more
path_more : PositionsNarrow → (p : Problem) (m : List Rel) (rel : Rel) → IsOpen p m → length m < pair_count p → has (allowed p (pair_at p (length m))) rel ≡ true →
    path_selectors p (m ++ rel ∷ []) ≡ path_selectors p m ++ pair_selectors (concept_count p + 3 * length m) (row_of rel)
path_more law p m rel o within h =
    let more = m ++ rel ∷ [] in
    let longer : length more ≡ length m + 1 = length-append m (rel ∷ []) in
    let opened : IsOpen p more = open_more p m rel o within h in
    let old : ℕ → List ℕ = λ k. pair_selectors (concept_count p + 3 * k) (forced_at (problem_at p m) k) in
    let new : ℕ → List ℕ = λ k. pair_selectors (concept_count p + 3 * k) (forced_at (problem_at p more) k) in
    ap (λ n. flat_map new (range_with_len 0 n)) longer ∙ one_more new (length m) ∙
    ap (λ ls. ls ++ new (length m)) (alike new old (length m) (λ k small. ap (pair_selectors (concept_count p + 3 * k))
    (forced_inside law p more k opened (omega arith) ∙ ap row_of (get_or_append_left m (rel ∷ []) Equals k small) ∙ sym (forced_inside law p m k o small)))) ∙
    ap (λ r. path_selectors p m ++ pair_selectors (concept_count p + 3 * length m) r)
    (forced_inside law p more (length m) opened (omega arith) ∙ ap row_of (get_or_push m rel Equals (length m) refl))

-- a list is its front and its last element
pub front_last : (m : List Rel) (n : ℕ) (d : Rel) → length m ≡ n + 1 → m ≡ take n m ++ get_or m n d ∷ []
front_last [] n d one = absurd (omega arith)
front_last (x ∷ []) zero d one = refl
front_last (x ∷ y ∷ m) zero d one = absurd (omega arith)
front_last (x ∷ m) (suc n) d one = ap (λ ls. x ∷ ls) (front_last m n d (omega arith))

-- a list without its end
without_end : (front back : List ℕ) (n : ℕ) → n ≡ length back → take (length (front ++ back) - n) (front ++ back) ≡ front
without_end front back n is =
    let count : length (front ++ back) - n ≡ length front = omega (arith, length-append front back) in
    ap (λ k. take k (front ++ back)) count ∙ take-append-le (length front) front back (omega arith) ∙ take_all (length front) front (omega arith)

-- the selectors of a prefix without its last relation
path_fewer : PositionsNarrow → (p : Problem) (m : List Rel) (n : ℕ) → IsOpen p m → length m ≡ n + 1 →
    path_selectors p m ≡ path_selectors p (take n m) ++ pair_selectors (concept_count p + 3 * n) (row_of (get_or m n Equals))
path_fewer law p m n o one =
    let fewer = take n m in
    let counted : length fewer ≡ n = length-take-le n m (omega arith) in
    let last = get_or m n Equals in
    let wide = o.within in
    let h : has (allowed p (pair_at p (length fewer))) last ≡ true = ap (λ k. has (allowed p (pair_at p k)) last) counted ∙ o.each n (omega arith) in
    ap (path_selectors p) (front_last m n Equals one) ∙ path_more law p fewer last (open_fewer p m n o (omega arith)) (omega arith) h ∙
    ap (λ k. path_selectors p fewer ++ pair_selectors (concept_count p + 3 * k) (row_of last)) counted

three_parts : (a b c d : List ℕ) → (a ++ b ++ c) ++ d ≡ a ++ b ++ (c ++ d)
three_parts a b c d = append_assoc (a ++ b) c d

-- what is kept of a prefix, with one relation more and with the last one taken off
pub cursor_more : PositionsNarrow → (p : Problem) (m : List Rel) (at_start at_path : List Regions) (empty : Option ℕ) (lits more : List ℕ) (rel : Rel) (n : ℕ) → IsCursor p m at_start at_path empty lits →
    n ≡ length m → length m < pair_count p → has (allowed p (pair_at p (length m))) rel ≡ true → more ≡ pair_selectors (concept_count p + 3 * n) (row_of rel) →
    IsCursor p (m ++ rel ∷ []) at_start (set at_path n (row_of rel)) empty (lits ++ more)
cursor_more law p m at_start at_path empty lits more rel n is same within h selects =
    let s = start_selectors p in
    let k = kept_selectors p in
    let selected : lits ++ more ≡ s ++ k ++ path_selectors p (m ++ rel ∷ []) =
    ap (λ ls. ls ++ more) is.selected ∙ three_parts s k (path_selectors p m) more ∙
    ap (λ ls. s ++ k ++ (path_selectors p m ++ ls)) (selects ∙ ap (λ i. pair_selectors (concept_count p + 3 * i) (row_of rel)) same) ∙
    ap (λ ls. s ++ k ++ ls) (sym (path_more law p m rel is.allows within h)) in
    let forced : AreForced (problem_at p (m ++ rel ∷ [])) (set at_path n (row_of rel)) = rw same (forced_more law p m rel at_path is.allows within h is.now_forced) in
    record {
      allows = open_more p m rel is.allows within h;
      start_forced = is.start_forced;
      now_forced = forced;
      first_empty = is.first_empty;
      selected = selected;
    }

-- whether a need is one, by what is forced of its pair
pub needed_region : (p : Problem) (m : List Rel) (at_path : List Regions) (number pair : ℕ) (d : Regions) → AreForced (problem_at p m) at_path → pair ≡ number / 3 → pair < length at_path →
    same_word (word_at (get_or at_path pair d) (region_with (number % 3))) Occupied ≡ is_needed (problem_at p m) number
needed_region p m at_path number pair d are is within =
    let counted = are.counted in
    let small : nat_lt number (3 * pair_count p) ≡ true = lt-ltb number (3 * pair_count p) (omega arith) in
    ap (λ words. same_word (word_at words (region_with (number % 3))) Occupied) (are.each pair d (omega arith) ∙ ap (forced_at (problem_at p m)) is) ∙
    sym (ap (λ b. if b then same_word (word_at (forced_at (problem_at p m) (number / 3)) (region_with (number % 3))) Occupied else p.switches.nonempty) small)

pub needed_concept : (p : Problem) (m : List Rel) (at_path : List Regions) (number pair : ℕ) → AreForced (problem_at p m) at_path → pair ≡ number / 3 → length at_path ≤ pair →
    p.switches.nonempty ≡ is_needed (problem_at p m) number
needed_concept p m at_path number pair are is past =
    let counted = are.counted in
    let large : nat_lt number (3 * pair_count p) ≡ false = le-ltb number (3 * pair_count p) (omega arith) in
    sym (ap (λ b. if b then same_word (word_at (forced_at (problem_at p m) (number / 3)) (region_with (number % 3))) Occupied else p.switches.nonempty) large)

pub cursor_fewer : PositionsNarrow → (p : Problem) (m : List Rel) (at_start at_path : List Regions) (empty : Option ℕ) (lits : List ℕ) (n count : ℕ) (d : Regions) → IsCursor p m at_start at_path empty lits →
    length m ≡ n + 1 → count ≡ length (pair_selectors (concept_count p + 3 * n) (row_of (get_or m n Equals))) →
    IsCursor p (take n m) at_start (set at_path n (get_or at_start n d)) empty (take (length lits - count) lits)
cursor_fewer law p m at_start at_path empty lits n count d is one counts =
    let s = start_selectors p in
    let k = kept_selectors p in
    let last = pair_selectors (concept_count p + 3 * n) (row_of (get_or m n Equals)) in
    let whole : lits ≡ (s ++ k ++ path_selectors p (take n m)) ++ last =
    is.selected ∙ ap (λ ls. s ++ k ++ ls) (path_fewer law p m n is.allows one) ∙ sym (three_parts s k (path_selectors p (take n m)) last) in
    let selected : take (length lits - count) lits ≡ s ++ k ++ path_selectors p (take n m) =
    ap (λ ls. take (length ls - count) ls) whole ∙ without_end (s ++ k ++ path_selectors p (take n m)) last count counts in
    record {
      allows = open_fewer p m n is.allows (omega arith);
      start_forced = is.start_forced;
      now_forced = forced_fewer law p m n at_start at_path d is.allows one is.start_forced is.now_forced;
      first_empty = is.first_empty;
      selected = selected;
    }
