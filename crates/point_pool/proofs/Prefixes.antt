-- What a prefix forces, each longer open prefix forces: so its points are points of the shorter ones, and needs stay needs.
use Rattle.std.proofs.Common.{◌≡◌, ℕ, ◌+◌, ◌*◌, ◌/◌, ◌%◌, ◌<◌, ◌≤◌, Bool, true, false, ◌&&◌, not, List, [], ◌∷◌, ◌++◌, length, get_or, take, inl, inr, sym, ap, ◌∙◌, subst, arith}
use Rattle.std.specs.Prelude.{if◌then◌else◌}
use Rattle.std.proofs.lemmas.Bool.{cases_eq, cases_lt, false≢true, false_from_ne_true, lt-ltb, le-ltb}
use Rattle.std.proofs.lemmas.List.{get_or-take, length-take-le, length-append, get_or_append_left, get_or_push}
use Rattle.rcc5_core.specs.declared.Rel.{Rel}
use Rattle.rcc5_core.specs.declared.Rel.TheVariants.{Equals}
use Rattle.rcc5_core.specs.declared.RelSet.{RelSet}
use Rattle.rcc5_core.specs.declared.Region.{Region}
use Rattle.rcc5_core.specs.declared.Occupancy.TheVariants.{Empty, Occupied}
use Rattle.rcc5_core.specs.RelationSet.{has, only}
use Rattle.rcc5_core.specs.Region.{word_at, same_word, forced_regions, row_of}
use Rattle.world_model.specs.Problem.{Problem, pairs, pair_count}
use Rattle.world_model.specs.Node.{pair_at}
use Rattle.world_model.specs.Alive.{allowed, lies_in, avoids, is_point, problem_at}
use Rattle.world_model.specs.Laws.{PositionsNarrow}
use Rattle.world_model.proofs.Members.{In, all_at, In-get_or, place_of, IsPlaced}
use Rattle.world_model.proofs.PointSets.{Forces, forces_inside, In-all_regions}
use Rattle.world_model.proofs.PointAlive.{Pointed, point_parts, point_whole}
use Rattle.point_encode.specs.Model.Forced.{region_with}
use Rattle.point_pool.specs.Cursors.{IsOpen}
use Rattle.world_model.specs.Points.{forced_at}
use Rattle.point_encode.specs.Numbers.{is_needed}
use Rattle.world_model.proofs.Narrowed.{forced_only, only_inside, only_some}
use Rattle.point_pool.proofs.Cursors.{allowed_inside, open_fewer}

-- what is forced at the front of an open prefix is forced at the prefix
pub forced_later : PositionsNarrow → (p : Problem) (m : List Rel) (n k : ℕ) (region : Region) (b : Bool) → IsOpen p m → n ≤ length m → k < pair_count p →
    Forces (allowed (problem_at p (take n m)) (pair_at p k)) region b → Forces (allowed (problem_at p m) (pair_at p k)) region b
forced_later law p m n k region b o fewer within f =
    let counted : length (take n m) ≡ n = length-take-le n m fewer in
    let front : IsOpen p (take n m) = open_fewer p m n o fewer in
    elim (cases_lt k n) [
      | inl before ↦
          let same : allowed (problem_at p (take n m)) (pair_at p k) ≡ allowed (problem_at p m) (pair_at p k) =
          allowed_inside law p (take n m) k front (omega arith) ∙ ap only (get_or-take n m k Equals before) ∙ sym (allowed_inside law p m k o (omega arith)) in
          subst (λ set. Forces set region b) same f
      | inr later ↦ elim (cases_lt k (length m)) [
        | inl inside ↦
            let short = subst (λ set. Forces set region b) (law.beyond p (take n m) k (omega arith) within) f in
            let one : Forces (only (get_or m k Equals)) region b = forces_inside (λ rel h. only_inside (allowed p (pair_at p k)) (get_or m k Equals) rel (o.each k inside) h) (only_some (get_or m k Equals)) short in
            subst (λ set. Forces set region b) (sym (allowed_inside law p m k o inside)) one
        | inr past ↦
            let same : allowed (problem_at p (take n m)) (pair_at p k) ≡ allowed (problem_at p m) (pair_at p k) =
            law.beyond p (take n m) k (omega arith) within ∙ sym (law.beyond p m k past within) in
            subst (λ set. Forces set region b) same f
      ]
    ]

-- pairs have numbers
pair_numbered : (p : Problem) (pair : ℕ × ℕ) → In pair (pairs p) → (k : ℕ) × (k < pair_count p) × (pair_at p k ≡ pair)
pair_numbered p pair i = let r : IsPlaced pair (pairs p) = place_of i in (r.place, r.within, r.is (0, 0))

-- a point of a prefix is one of each front of it
pub point_later : PositionsNarrow → (p : Problem) (m : List Rel) (n : ℕ) (bits : List Bool) → IsOpen p m → n ≤ length m → is_point (problem_at p m) bits ≡ true →
    is_point (problem_at p (take n m)) bits ≡ true
point_later law p m n bits o fewer h =
    let parts : Pointed (problem_at p m) bits = point_parts (problem_at p m) bits h in
    point_whole (problem_at p (take n m)) bits (record {
      structure = parts.structure;
      apart = λ pair region i f.
          let k = pair_numbered p pair i in
          let forced = forced_later law p m n k.0 region false o fewer k.1 (subst (λ q. Forces (allowed (problem_at p (take n m)) q) region false) (sym k.2) f) in
          parts.apart pair region i (subst (λ q. Forces (allowed (problem_at p m) q) region false) k.2 forced);
    })

-- a region that is forced empty lacks the point
not_both : (a b : Bool) → not (a && b) ≡ true → a ≡ true → b ≡ true → ⊥
not_both true true h e g = false≢true h
not_both true false h e g = false≢true g
not_both false b h e g = false≢true e

region_lacks : (set : RelSet) (pair : ℕ × ℕ) (region : Region) (bits : List Bool) → avoids bits (pair, forced_regions set) ≡ true → Forces set region false → lies_in region pair bits ≡ false
region_lacks set pair region bits h f = false_from_ne_true (lies_in region pair bits) (λ lies.
    not_both (same_word (word_at (forced_regions set) region) Empty) (lies_in region pair bits)
    (all_at (λ region. not (same_word (word_at (forced_regions set) region) Empty && lies_in region pair bits)) h (In-all_regions region)) f.same lies)

-- a point that avoids what one more relation forces empty is a point with it
pub point_more : PositionsNarrow → (p : Problem) (m : List Rel) (rel : Rel) (bits : List Bool) → IsOpen p (m ++ rel ∷ []) → is_point (problem_at p m) bits ≡ true →
    avoids bits (pair_at p (length m), row_of rel) ≡ true → is_point (problem_at p (m ++ rel ∷ [])) bits ≡ true
point_more law p m rel bits o h new =
    let more = m ++ rel ∷ [] in
    let longer : length more ≡ length m + 1 = length-append m (rel ∷ []) in
    let parts : Pointed (problem_at p m) bits = point_parts (problem_at p m) bits h in
    point_whole (problem_at p more) bits (record {
      structure = parts.structure;
      apart = λ pair region i f.
          let k = pair_numbered p pair i in
          let there : Forces (allowed (problem_at p more) (pair_at p k.0)) region false = subst (λ q. Forces (allowed (problem_at p more) q) region false) (sym k.2) f in
          let lacks : lies_in region (pair_at p k.0) bits ≡ false = elim (cases_lt k.0 (length m)) [
            | inl before ↦
                let same : allowed (problem_at p more) (pair_at p k.0) ≡ allowed (problem_at p m) (pair_at p k.0) =
                allowed_inside law p more k.0 o (omega arith) ∙ ap only (get_or_append_left m (rel ∷ []) Equals k.0 before) ∙ sym (allowed_inside law p m k.0 (open_front p m rel o) before) in
                parts.apart (pair_at p k.0) region (In-get_or (pairs p) k.0 (0, 0) k.1) (subst (λ set. Forces set region false) same there)
            | inr later ↦ elim (cases_eq k.0 (length m)) [
              | inl same ↦
                  let now : allowed (problem_at p more) (pair_at p k.0) ≡ only rel = allowed_inside law p more k.0 o (omega arith) ∙ ap only (get_or_push m rel Equals k.0 (sym same)) in
                  let avoided : avoids bits (pair_at p k.0, forced_regions (only rel)) ≡ true =
                  ap (λ i. avoids bits (pair_at p i, forced_regions (only rel))) same ∙ ap (λ words. avoids bits (pair_at p (length m), words)) (forced_only rel) ∙ new in
                  region_lacks (only rel) (pair_at p k.0) region bits avoided (subst (λ set. Forces set region false) now there)
              | inr apart ↦
                  let same : allowed (problem_at p more) (pair_at p k.0) ≡ allowed (problem_at p m) (pair_at p k.0) =
                  law.beyond p more k.0 (omega arith) k.1 ∙ sym (law.beyond p m k.0 later k.1) in
                  parts.apart (pair_at p k.0) region (In-get_or (pairs p) k.0 (0, 0) k.1) (subst (λ set. Forces set region false) same there)
            ]
          ] in
          subst (λ q. lies_in region q bits ≡ false) k.2 lacks;
    })
  where
    open_front : (p : Problem) (m : List Rel) (rel : Rel) → IsOpen p (m ++ rel ∷ []) → IsOpen p m
    open_front p m rel o = record {
      within = omega (arith, o.within, length-append m (rel ∷ []));
      each = λ k small. ap (has (allowed p (pair_at p k))) (sym (get_or_append_left m (rel ∷ []) Equals k small)) ∙ o.each k (omega (arith, length-append m (rel ∷ [])));
    }

-- whether a need is one, by whether its region is of the first pairs
pub needed_by : (q : Problem) (number : ℕ) → number < 3 * pair_count q → is_needed q number ≡ same_word (word_at (forced_at q (number / 3)) (region_with (number % 3))) Occupied
needed_by q number small =
    ap (λ b. if b then same_word (word_at (forced_at q (number / 3)) (region_with (number % 3))) Occupied else q.switches.nonempty) (lt-ltb number (3 * pair_count q) small)

pub needed_past : (q : Problem) (number : ℕ) → 3 * pair_count q ≤ number → is_needed q number ≡ q.switches.nonempty
needed_past q number large =
    ap (λ b. if b then same_word (word_at (forced_at q (number / 3)) (region_with (number % 3))) Occupied else q.switches.nonempty) (le-ltb number (3 * pair_count q) large)

-- a need at the front of an open prefix is one at the prefix
pub needed_later : PositionsNarrow → (p : Problem) (m : List Rel) (n number : ℕ) → IsOpen p m → n ≤ length m → is_needed (problem_at p (take n m)) number ≡ true →
    is_needed (problem_at p m) number ≡ true
needed_later law p m n number o fewer h = elim (cases_lt number (3 * pair_count p)) [
  | inr past ↦ needed_past (problem_at p m) number past ∙ sym (needed_past (problem_at p (take n m)) number past) ∙ h
  | inl small ↦
      let now : Forces (allowed (problem_at p (take n m)) (pair_at p (number / 3))) (region_with (number % 3)) true = record { same = sym (needed_by (problem_at p (take n m)) number small) ∙ h } in
      let later = forced_later law p m n (number / 3) (region_with (number % 3)) true o fewer (omega arith) now in
      needed_by (problem_at p m) number small ∙ later.same
]

-- the needs with one relation more: those of its pair, and others that were needs before
pub needed_before : PositionsNarrow → (p : Problem) (m : List Rel) (rel : Rel) (number : ℕ) → IsOpen p (m ++ rel ∷ []) → IsOpen p m → (number < 3 * pair_count p → number / 3 ≡ length m → ⊥) →
    is_needed (problem_at p (m ++ rel ∷ [])) number ≡ true → is_needed (problem_at p m) number ≡ true
needed_before law p m rel number o front other h = elim (cases_lt number (3 * pair_count p)) [
  | inr past ↦ needed_past (problem_at p m) number past ∙ sym (needed_past (problem_at p (m ++ rel ∷ [])) number past) ∙ h
  | inl small ↦
      let more = m ++ rel ∷ [] in
      let longer : length more ≡ length m + 1 = length-append m (rel ∷ []) in
      let k = number / 3 in
      let same : allowed (problem_at p more) (pair_at p k) ≡ allowed (problem_at p m) (pair_at p k) = elim (cases_lt k (length m)) [
        | inl before ↦ allowed_inside law p more k o (omega arith) ∙ ap only (get_or_append_left m (rel ∷ []) Equals k before) ∙ sym (allowed_inside law p m k front before)
        | inr later ↦ elim (cases_eq k (length m)) [
          | inl here ↦ absurd (other small here)
          | inr apart ↦ law.beyond p more k (omega arith) (omega arith) ∙ sym (law.beyond p m k later (omega arith))
        ]
      ] in
      needed_by (problem_at p m) number small ∙ ap (λ set. same_word (word_at (forced_regions set) (region_with (number % 3))) Occupied) (sym same) ∙ sym (needed_by (problem_at p more) number small) ∙ h
]
