-- What a pass over the articulations leaves: the least conflict.
use Rattle.std.proofs.Common.{◌≡◌, ℕ, zero, suc, ◌+◌, ◌<◌, ◌≤◌, Bool, true, false, not, List, [], ◌∷◌, ◌++◌, ◌⊎◌, inl, inr, length, get_or, take, drop, set, refl, sym, ap, ◌∙◌, subst, arith, is_lt, IsTrue, add-one, length-set, length-take-le, drop-drop, take_all, set-set}
use Rattle.std.specs.Prelude.{Some, slice_get}
use Rattle.std.proofs.lemmas.Bool.{cases_Bool}
use Rattle.std.proofs.lemmas.List.{set_split, take-set, take-set-le, get_or-set_same, drop-set-lt, length_push, length-map}
use Rattle.std.proofs.lemmas.Option.{same_Some, slice_get_read}
use Rattle.world_model.specs.Problem.{Problem, restricted}
use Rattle.world_model.specs.Family.{Family}
use Rattle.world_model.specs.Questions.{HasFlags, IsConsistent, IsLeastConflict, flags_cmp}
use Rattle.set_family.specs.Meeting.{IsMetBy}
use Rattle.conflict_min.specs.Conflicts.{all_kept, places_from, AreLosses}
use Rattle.family_solver.specs.Kept.Keeping.{IsWithin}
use Rattle.conflict_min.specs.Shrinking.{cut, without_at, IsShrunk}
use Rattle.family_solver.proofs.kept.Fewer.{consistent_fewer, met_by_fewer}
use Rattle.conflict_min.proofs.Flags.{cut_none, cut_more, cut_within, within_cut, IsBefore, is_before, set_back, places_more, places_less, places_within, place_found, item_beside}

-- before any is tried
pub shrunk_none : (p : Problem) → (IsConsistent p (all_kept p) → ⊥) → IsShrunk p 0 (all_kept p) []
shrunk_none p inconsistent = record {
  flags = length-map p.articulations (λ _. true);
  within = omega arith;
  inconsistent = inconsistent;
  others = refl;
  counted = refl;
  each = λ m place f at. absurd (cc);
}

-- the flags that are kept behind a place, and those behind the next one
others_more : (place : ℕ) (kept all : List Bool) → drop place kept ≡ drop place all → drop (place + 1) kept ≡ drop (place + 1) all
others_more place kept all same = sym (drop-drop 1 place kept) ∙ ap (drop 1) same ∙ drop-drop 1 place all

-- an item of each of two lists with one more, at one place: one of those before, or the last
last_or_before : {X Y : Type 0} (xs : List X) (ys : List Y) (x : X) (y : Y) → length ys ≡ length xs → (m : ℕ) (a : X) (b : Y) →
    slice_get (xs ++ x ∷ []) m ≡ Some a → slice_get (ys ++ y ∷ []) m ≡ Some b → ((slice_get xs m ≡ Some a) × (slice_get ys m ≡ Some b)) ⊎ ((x ≡ a) × (y ≡ b))
last_or_before [] [] x y n zero a b at of = inr (same_Some x a at, same_Some y b of)
last_or_before [] [] x y n (suc m) a b at of = absurd (cc)
last_or_before [] (w ∷ ys) x y n m a b at of = absurd (omega arith)
last_or_before (v ∷ xs) [] x y n m a b at of = absurd (omega arith)
last_or_before (v ∷ xs) (w ∷ ys) x y n zero a b at of = inl (at, of)
last_or_before (v ∷ xs) (w ∷ ys) x y n (suc m) a b at of = last_or_before xs ys x y (omega arith) m a b at of

module _ (p : Problem) (place : ℕ) (kept : List Bool) (families : List Family) (so : IsShrunk p place kept families) (low : place < length p.articulations) where
  low_kept : place < length kept
  low_kept = omega (arith, so.flags)

  -- the flags that are tried
  tried_is : set kept place false ≡ without_at p kept place
  tried_is =
      set_split kept place false low_kept
      ∙ ap (λ rest. take place kept ++ false ∷ rest) (ap (λ n. drop n kept) (sym (add-one place)) ∙ others_more place kept (all_kept p) so.others)

  pub put_back : set (set kept place false) place true ≡ kept
  put_back = set-set kept place false true ∙ set_back p.articulations kept place low so.others

  pub shrunk_dropped : (IsConsistent p (set kept place false) → ⊥) → IsShrunk p (place + 1) (set kept place false) families
  shrunk_dropped inconsistent = record {
    flags = length-set kept place false ∙ so.flags;
    within = omega (arith, length-set kept place false, low_kept);
    inconsistent = inconsistent;
    others = drop-set-lt (place + 1) kept place false (omega arith) ∙ others_more place kept (all_kept p) so.others;
    counted = so.counted ∙ ap length (sym same);
    each = λ m other f at of. subst (λ flags. IsMetBy (restricted p flags) f) (sym (before m other at)) (so.each m other f (subst (λ places. slice_get places m ≡ Some other) same at) of);
  }
    where
      same : places_from 0 (take (place + 1) (set kept place false)) ≡ places_from 0 (take place kept)
      same =
          places_less (set kept place false) place (omega (arith, length-set kept place false, low_kept)) (get_or-set_same kept place false false low_kept)
          ∙ ap (places_from 0) (take-set kept place false)

      before : (m other : ℕ) → slice_get (places_from 0 (take (place + 1) (set kept place false))) m ≡ Some other → without_at p (set kept place false) other ≡ without_at p kept other
      before m other at =
          let lower : other < 0 + length (take place kept) = places_within 0 (take place kept) m other (subst (λ places. slice_get places m ≡ Some other) same at) in
          let short : length (take place kept) ≡ place = length-take-le place kept (omega (arith, low_kept)) in
          ap (λ front. front ++ false ∷ drop (other + 1) (all_kept p)) (take-set-le other kept place false (omega (arith, lower, short)))

  pub shrunk_kept : (f : Family) → IsMetBy (restricted p (set kept place false)) f → IsShrunk p (place + 1) kept (families ++ f ∷ [])
  shrunk_kept f met = record {
    flags = so.flags;
    within = omega (arith, low_kept);
    inconsistent = so.inconsistent;
    others = others_more place kept (all_kept p) so.others;
    counted = length_push families f ∙ ap (λ n. n + 1) so.counted ∙ sym (length_push (places_from 0 (take place kept)) place) ∙ ap length (sym more);
    each = λ m other g at of. by m other g (subst (λ places. slice_get places m ≡ Some other) more at) of;
  }
    where
      more : places_from 0 (take (place + 1) kept) ≡ places_from 0 (take place kept) ++ place ∷ []
      more = places_more kept place low_kept (ap (λ flags. get_or flags place false) (sym (set_back p.articulations kept place low so.others)) ∙ get_or-set_same kept place true false low_kept)

      by : (m other : ℕ) (g : Family) → slice_get (places_from 0 (take place kept) ++ place ∷ []) m ≡ Some other → slice_get (families ++ f ∷ []) m ≡ Some g →
          IsMetBy (restricted p (without_at p kept other)) g
      by m other g at of = elim (last_or_before (places_from 0 (take place kept)) families place f so.counted m other g at of) [
        | inl old ↦ so.each m other g old.0 old.1
        | inr new ↦
            subst (λ k. IsMetBy (restricted p (without_at p kept k)) g) new.0
            (subst (λ g. IsMetBy (restricted p (without_at p kept place)) g) new.1 (subst (λ flags. IsMetBy (restricted p flags) f) tried_is met))
      ]

-- several that are dropped together could have been dropped one after the other
pub shrunk_cut : (p : Problem) (place count : ℕ) (kept : List Bool) (families : List Family) → IsShrunk p place kept families → place + count ≤ length p.articulations →
    (IsConsistent p (cut kept place count) → ⊥) → IsShrunk p (place + count) (cut kept place count) families
shrunk_cut p place zero kept families so upto inconsistent =
    subst (λ n. IsShrunk p n (cut kept place 0) families) (omega arith) (subst (λ flags. IsShrunk p place flags families) (sym (cut_none kept place)) so)
shrunk_cut p place (suc count) kept families so upto inconsistent =
    let before =
    shrunk_cut p place count kept families so (omega (arith, upto))
    (λ consistent. inconsistent (consistent_fewer p (cut kept place (suc count)) (cut kept place count) (cut_within kept place count (suc count) (omega arith)) consistent))
    in
    let one = cut_more kept place count (omega (arith, upto, so.flags)) in
    subst (λ n. IsShrunk p n (cut kept place (suc count)) families) (omega arith)
    (subst (λ flags. IsShrunk p (place + count + 1) flags families) one
    (shrunk_dropped p (place + count) (cut kept place count) families before (omega (arith, upto)) (subst (λ flags. IsConsistent p flags → ⊥) (sym one) inconsistent)))

-- where all are gone through, those that are kept are the least conflict
pub least_of : (p : Problem) (kept : List Bool) (families : List Family) → IsShrunk p (length p.articulations) kept families → IsLeastConflict p kept × AreLosses p kept families
least_of p kept families so = (
  record { flags = so.flags; inconsistent = so.inconsistent; least = least },
  record { count = counted; each = λ m place f at of. met_by_fewer p (set kept place false) (without_at p kept place) f (later place (set kept place false) (within_cut p.articulations kept place so.flags)) (each m place f at of) },
)
  where
    whole : take (length p.articulations) kept ≡ kept
    whole = take_all (length p.articulations) kept (omega (arith, so.flags))

    counted : length families ≡ length (places_from 0 kept)
    counted = so.counted ∙ ap (λ flags. length (places_from 0 flags)) whole

    each : (m place : ℕ) (f : Family) → slice_get (places_from 0 kept) m ≡ Some place → slice_get families m ≡ Some f → IsMetBy (restricted p (without_at p kept place)) f
    each m place f at of = so.each m place f (subst (λ flags. slice_get (places_from 0 flags) m ≡ Some place) (sym whole) at) of

    later : (place : ℕ) (flags : List Bool) → IsWithin flags (take place kept ++ false ∷ drop (suc place) (all_kept p)) → IsWithin flags (without_at p kept place)
    later place flags within = subst (λ n. IsWithin flags (take place kept ++ false ∷ drop n (all_kept p))) (sym (add-one place)) within

    consistent : (other : List Bool) → HasFlags p other → is_lt (flags_cmp other kept) ≡ true → IsConsistent p other
    consistent other flags less =
        let before : IsBefore p.articulations kept other = is_before p.articulations kept other so.flags flags less in
        let found = place_found 0 kept before.place before.there in
        let at : slice_get (places_from 0 kept) found.0 ≡ Some before.place = found.1 ∙ ap Some (omega arith) in
        let beside = item_beside (places_from 0 kept) families found.0 before.place counted at in
        (beside.0, (met_by_fewer p other (without_at p kept before.place) beside.0 (later before.place other before.within) (each found.0 before.place beside.0 at beside.1)).met)

    least : (other : List Bool) → HasFlags p other → (IsConsistent p other → ⊥) → IsTrue (not (is_lt (flags_cmp other kept)))
    least other flags inconsistent = elim (cases_Bool (is_lt (flags_cmp other kept))) [
      | inl less ↦ absurd (inconsistent (consistent other flags less))
      | inr at_least ↦ ap not at_least
    ]

-- a family of a conflict, and the place of its articulation: the flags and families as they are read
pub loss_at : (p : Problem) (kept flags : List Bool) (families shown : List Family) (places : List ℕ) (nth place : ℕ) (f : Family) → AreLosses p kept families → flags ≡ kept → shown ≡ families →
    places ≡ places_from 0 kept → nth < length shown → place ≡ get_or places nth place → f ≡ get_or shown nth f → (place < length flags) × IsMetBy (restricted p (set flags place false)) f
loss_at p kept flags families shown places nth place f losses same_flags same_families same_places low is of = (
  omega (arith, places_within 0 kept nth place at, ap length same_flags),
  subst (λ flags. IsMetBy (restricted p (set flags place false)) f) (sym same_flags)
      (losses.each nth place f at (subst (λ shown. slice_get shown nth ≡ Some f) same_families (slice_get_read shown (length shown) nth f refl low of))),
)
  where
    at : slice_get (places_from 0 kept) nth ≡ Some place
    at =
        subst (λ places. slice_get places nth ≡ Some place) same_places
        (slice_get_read places (length shown) nth place (ap length same_families ∙ losses.count ∙ ap length (sym same_places)) low is)
