-- What one more relation would take from the needs.
use Rattle.std.proofs.Common.{◌≡◌, ℕ, ◌+◌, ◌*◌, ◌/◌, ◌%◌, ◌<◌, Bool, true, false, not, ◌&&◌, inl, inr, List, [], ◌∷◌, ◌++◌, length, take, get_or, refl, sym, ap, ◌∙◌, subst, arith}
use Rattle.std.specs.Prelude.{Contains, nat_lt, ◌==◌, if◌then◌else◌}
use Rattle.std.proofs.lemmas.Bool.{and_from, and_parts, cases_Bool, cases_eq, le-ltb, ne_eqb}
use Rattle.std.proofs.lemmas.List.{length-append, get_or_push, take-append-le, take_all}
use Rattle.bit_rows.specs.Rows.{SomePlace, has_bit}
use Rattle.point_encode.specs.Model.Forced.{need_at, region_with}
use Rattle.rcc5_core.specs.Region.{row_of, same_word, word_at}
use Rattle.rcc5_core.specs.RelationSet.{has}
use Rattle.rcc5_core.specs.declared.Occupancy.TheVariants.{Occupied}
use Rattle.rcc5_core.specs.declared.Region.TheVariants.{LeftOnly, Both, RightOnly}
use Rattle.rcc5_core.specs.declared.Rel.{Rel}
use Rattle.rcc5_core.specs.declared.Rel.TheVariants.{Equals}
use Rattle.point_table.specs.Places.Places.{are_as, is_at_risk, is_clear, meets, meets_clear}
use Rattle.world_model.specs.Alive.{HasPoint, allowed, is_in_need, is_point, lies_by, point_at, problem_at}
use Rattle.world_model.specs.Laws.{PositionsNarrow}
use Rattle.world_model.specs.Node.{pair_at}
use Rattle.world_model.specs.Points.{forced_at}
use Rattle.world_model.specs.Problem.{Problem, pair_count}
use Rattle.point_draft.specs.declared.drafts.Drafts.{Drafts}
use Rattle.point_pool.specs.Cursors.{CursorState, IsOpen}
use Rattle.point_pool.specs.declared.pool.Pool.{Pool}
use Rattle.point_pool.specs.Pools.{AreAtRisk, HasOwn, IsKept, IsPool, served_at}
use Rattle.point_pool.proofs.Cursors.{forced_inside, open_more}
use Rattle.point_pool.proofs.Prefixes.{needed_before, needed_by, point_more}
use Rattle.point_pool.proofs.Settling.{served_now}
use Rattle.point_pool.proofs.Showing.{is_occupied}

-- a relation more, and off again
pub off_again : (m : List Rel) (rel : Rel) → take (length m) (m ++ rel ∷ []) ≡ m
off_again m rel = take-append-le (length m) m (rel ∷ []) (omega arith) ∙ take_all (length m) m (omega arith)

pub off_cursor : (s pushed back : CursorState) (rel : Rel) (n : ℕ) → n ≡ length s.path → pushed ≡ record s { path = s.path ++ rel ∷ [] } → back ≡ record pushed { path = take n pushed.path } → back ≡ s
off_cursor s pushed back rel n counted on off =
    off ∙ ap (λ (c : CursorState). record { problem = c.problem; path = take n c.path }) on
    ∙ ap (λ (k : ℕ). record { problem = s.problem; path = take k (s.path ++ rel ∷ []) }) counted
    ∙ ap (λ (path : List Rel). record { problem = s.problem; path = path }) (off_again s.path rel)

-- a live point that is clear of what a relation empties is a point of the prefix with the relation
pub clear_stays : PositionsNarrow → (w : Pool) (rel : Rel) (place : ℕ) → IsKept w → IsOpen w.cursor.problem w.cursor.path → length w.cursor.path < pair_count w.cursor.problem →
    has (allowed w.cursor.problem (pair_at w.cursor.problem (length w.cursor.path))) rel ≡ true → has_bit w.places.live place ≡ true →
    is_clear w.places.points (pair_at w.cursor.problem (length w.cursor.path)) (row_of rel) place ≡ true →
    is_point (problem_at w.cursor.problem (w.cursor.path ++ rel ∷ [])) (point_at w.places.points place) ≡ true
clear_stays law w rel place is o within allows live clear =
    let p = w.cursor.problem in
    let m = w.cursor.path in
    point_more law p m rel (point_at w.places.points place) (open_more p m rel o within allows) (is.pooled.live place live) clear

-- a need is listed, or its witness stays
pub risk_known : PositionsNarrow → (w : Pool) (rel : Rel) (list places : List ℕ) → IsPool w → w.waiting ≡ [] → IsOpen w.cursor.problem w.cursor.path → length w.cursor.path < pair_count w.cursor.problem →
    has (allowed w.cursor.problem (pair_at w.cursor.problem (length w.cursor.path))) rel ≡ true → HasOwn list (length w.cursor.path) rel →
    ((place : ℕ) → is_at_risk w.places (pair_at w.cursor.problem (length w.cursor.path)) (row_of rel) place ≡ true → Contains places place) →
    ((place number : ℕ) → Contains places place → Contains (served_at w.serves.items place) number → Contains list number) → AreAtRisk w rel list
risk_known law w rel list places is none o within allows own at_risk listed number below needed = elim (cases_eq (number / 3) (length m)) [
  | inl here ↦
      let small : number < 3 * pair_count p = omega (arith, here, within) in
      let part = number % 3 in
      let longer : length more ≡ length m + 1 = length-append m (rel ∷ []) in
      let row : forced_at q (number / 3) ≡ row_of rel =
      ap (forced_at q) here ∙ forced_inside law p more (length m) opened (omega (arith, longer)) ∙ ap row_of (get_or_push m rel Equals (length m) refl) in
      let occupied = is_occupied (word_at (row_of rel) (region_with part)) (ap (λ r. same_word (word_at r (region_with part)) Occupied) (sym row) ∙ sym (needed_by q number small) ∙ needed) in
      let same : 3 * length m + part ≡ number = omega (arith, here) in
      inl (subst (λ n. Contains list n) same (own part (omega arith) occupied))
  | inr apart ↦
      let served = served_now w number is none below (needed_before law p m rel number opened o (λ small here. apart here) needed) in
      let place = get_or w.witness.items number 0 in
      elim (cases_Bool (is_clear w.places.points (pair_at p (length m)) (row_of rel) place)) [
        | inl clear ↦ inr (point_at w.places.points place, clear_stays law w rel place is.kept o within allows served.fit.live clear, served.fit.in_need)
        | inr lost ↦
            let risk = and_from (has_bit w.places.used place) (has_bit w.places.live place && not (is_clear w.places.points (pair_at p (length m)) (row_of rel) place)) served.used
            (and_from (has_bit w.places.live place) (not (is_clear w.places.points (pair_at p (length m)) (row_of rel) place)) served.fit.live (ap not lost)) in
            inl (listed place number (at_risk place risk) served.listed)
      ]
]
  where
    p : Problem
    p = w.cursor.problem

    m : List Rel
    m = w.cursor.path

    more : List Rel
    more = m ++ rel ∷ []

    q : Problem
    q = problem_at p more

    opened : IsOpen p more
    opened = open_more p m rel o within allows

-- a clear point in a need
pub left_there : PositionsNarrow → (w : Pool) (rel : Rel) (number : ℕ) (one other : ℕ × Bool) → IsKept w → IsOpen w.cursor.problem w.cursor.path → length w.cursor.path < pair_count w.cursor.problem →
    has (allowed w.cursor.problem (pair_at w.cursor.problem (length w.cursor.path))) rel ≡ true →
    ((place : ℕ) → are_as w.places.points one other place ≡ true → is_in_need (need_at w.cursor.problem number) (point_at w.places.points place) ≡ true) →
    SomePlace (meets_clear w.places one other (pair_at w.cursor.problem (length w.cursor.path)) (row_of rel)) →
    HasPoint (problem_at w.cursor.problem (w.cursor.path ++ rel ∷ [])) (need_at w.cursor.problem number)
left_there law w rel number one other is o within allows inside some =
    let pair = pair_at w.cursor.problem (length w.cursor.path) in
    let parts = and_parts (meets w.places one other some.place) (is_clear w.places.points pair (row_of rel) some.place) some.passes in
    let met = and_parts (has_bit w.places.live some.place) (are_as w.places.points one other some.place) parts.0 in
    (point_at w.places.points some.place, clear_stays law w rel some.place is o within allows met.0 parts.1, inside some.place met.1)

-- what is drafted at the prefix with the relation leaves the pool at its prefix
pub pool_redrafted : (w : Pool) (cursor : CursorState) (drafts : Drafts) → cursor ≡ w.cursor → IsPool w → IsPool (record w { cursor = cursor; drafts = drafts })
pool_redrafted w cursor drafts same is =
    subst (λ s. IsPool (record w { cursor = s; drafts = drafts })) (sym same)
    (record {
      kept = record { pooled = is.kept.pooled; counted = is.kept.counted; numbered = is.kept.numbered; slotted = is.kept.slotted };
      marked = is.marked;
      watched = is.watched;
    })

-- a point that is as is said of two concepts lies in their region, by its number among the three
pub sides_in : (l r : Bool) (part : ℕ) → ((if nat_lt part 2 then l else not l) && (if not (part == 0) then r else not r)) ≡ true → lies_by (region_with part) l r ≡ true
sides_in l r part h = elim (cases_eq part 0) [
  | inl zero ↦ subst (λ k. ((if nat_lt k 2 then l else not l) && (if not (k == 0) then r else not r)) ≡ true → lies_by (region_with k) l r ≡ true) (sym zero) (λ g. g) h
  | inr not_zero ↦ elim (cases_eq part 1) [
    | inl one ↦ subst (λ k. ((if nat_lt k 2 then l else not l) && (if not (k == 0) then r else not r)) ≡ true → lies_by (region_with k) l r ≡ true) (sym one) (λ g. g) h
    | inr not_one ↦
        let zero : (part == 0) ≡ false = ne_eqb part 0 not_zero in
        let one : (part == 1) ≡ false = ne_eqb part 1 not_one in
        let past : nat_lt part 2 ≡ false = le-ltb part 2 (omega (arith, not_zero, not_one)) in
        ap (λ b. lies_by (if b then LeftOnly else (if part == 1 then Both else RightOnly)) l r) zero ∙ ap (λ b. lies_by (if b then Both else RightOnly) l r) one ∙
        sym (ap (λ b. (if b then l else not l) && (if not (part == 0) then r else not r)) past ∙ ap (λ b. not l && (if not b then r else not r)) zero) ∙ h
  ]
]

-- what holds below a number, and of it, holds below the next
pub more_below : (P : ℕ → Type 0) (n : ℕ) → ((k : ℕ) → k < n → P k) → P n → (k : ℕ) → k < n + 1 → P k
more_below P n before last k small = elim (cases_eq k n) [
  | inl same ↦ subst P (sym same) last
  | inr apart ↦ before k (omega (arith, apart))
]
