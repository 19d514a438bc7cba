-- The numbers of concepts, one after the other, and whether one stands twice.
use Rattle.std.proofs.Common.{◌≡◌, ◌+◌, ◌<◌, suc, ◌==◌, ℕ, Bool, true, false, not, ◌||◌, List, [], ◌∷◌, ◌++◌, Option, None, Some, length, take, drop, get_or, refl, sym, ap, ◌∙◌, arith, inl, inr, append_assoc}
use Rattle.std.specs.Prelude.{option_map, option_and_then, if◌then◌else◌}
use Rattle.std.specs.List.{list_any}
use Rattle.std.proofs.lemmas.Bool.{and_parts, not-true, or_parts, or_right, eqb-true, eq-eqb, true≢false, cases_Bool, ne_eqb, eqb-false}
use Rattle.std.proofs.lemmas.List.{take_more, take-append-drop}
use Rattle.std.proofs.Math.Seq.{drop-cons}
use Rattle.constraint_set.specs.Facts.{all_different}
use Rattle.cleantax_text.specs.Reading.{Reading, concept_number, concept_numbers}
use Rattle.text_words.specs.declared.words.Reference.{Reference}
use Rattle.text_words.specs.Views.{reference_meant, references_meant}
use Rattle.cleantax_text.specs.Views.{onto_numbers}

-- a number that is new at the end
list_any_last : (p : ℕ → Bool) (xs : List ℕ) (x : ℕ) → list_any p xs ≡ false → p x ≡ false → list_any p (xs ++ x ∷ []) ≡ false
list_any_last p [] x e f = rw f refl
list_any_last p (y ∷ ys) x e f = let parts = or_parts (p y) (list_any p ys) e in rw parts.0 (list_any_last p ys x parts.1 f)

list_any_first : (p : ℕ → Bool) (xs : List ℕ) (x : ℕ) (ys : List ℕ) → p x ≡ true → list_any p (xs ++ x ∷ ys) ≡ true
list_any_first p [] x ys e = rw e refl
list_any_first p (z ∷ zs) x ys e = or_right (p z) (list_any p (zs ++ x ∷ ys)) (list_any_first p zs x ys e)

other_way : (x y : ℕ) → (x == y) ≡ false → (y == x) ≡ false
other_way x y e = ne_eqb y x (λ same. eqb-false x y e (sym same))

pub different_new : (xs : List ℕ) (x : ℕ) → all_different xs ≡ true → list_any (λ y. x == y) xs ≡ false → all_different (xs ++ x ∷ []) ≡ true
different_new [] x e f = refl
different_new (y ∷ ys) x e f =
    let parts = and_parts (not (list_any (λ z. y == z) ys)) (all_different ys) e in
    let new = or_parts (x == y) (list_any (λ z. x == z) ys) f in
    rw (list_any_last (λ z. y == z) ys x (not-true (list_any (λ z. y == z) ys) parts.0) (other_way x y new.0)) (different_new ys x parts.1 new.1)

-- a number that is there already
pub different_known : (xs : List ℕ) (x : ℕ) (ys : List ℕ) → list_any (λ y. x == y) xs ≡ true → all_different (xs ++ x ∷ ys) ≡ false
different_known [] x ys e = absurd (true≢false (sym e))
different_known (z ∷ zs) x ys e = elim (cases_Bool (x == z)) [
  | inl same ↦ rw (list_any_first (λ w. z == w) zs x ys (eq-eqb z x (sym (eqb-true x z same)))) refl
  | inr other ↦
      let later = different_known zs x ys (sym (ap (λ b. b || list_any (λ y. x == y) zs) other) ∙ e) in
      elim (cases_Bool (list_any (λ w. z == w) (zs ++ x ∷ ys))) [ inl again ↦ rw again refl | inr new ↦ rw new later ]
]

apart_at : (numbers : List ℕ) (k : ℕ) → k < length numbers → take k numbers ++ get_or numbers k 0 ∷ drop (suc k) numbers ≡ numbers
apart_at numbers k lt = ap (λ rest. take k numbers ++ rest) (sym (drop-cons numbers k 0 lt)) ∙ take-append-drop k numbers

-- the loop over numbers meets one that it has seen
pub different_found : (keys numbers : List ℕ) (k : ℕ) → keys ≡ take k numbers → k < length numbers → list_any (λ y. get_or numbers k 0 == y) keys ≡ true → false ≡ all_different numbers
different_found keys numbers k is lt e =
    sym (ap all_different (sym (apart_at numbers k lt))
    ∙ different_known (take k numbers) (get_or numbers k 0) (drop (suc k) numbers) (ap (list_any (λ y. get_or numbers k 0 == y)) (sym is) ∙ e))

-- the loop over numbers meets a new one
pub different_more : (keys new numbers : List ℕ) (k : ℕ) → keys ≡ take k numbers → all_different (take k numbers) ≡ true → k < length numbers
    → list_any (λ y. get_or numbers k 0 == y) keys ≡ false → new ≡ (if list_any (λ y. get_or numbers k 0 == y) keys then keys else keys ++ get_or numbers k 0 ∷ [])
    → record { keys : new ≡ take (k + 1) numbers; once : all_different (take (k + 1) numbers) ≡ true }
different_more keys new numbers k is once lt e now =
    let t = take_more numbers k 0 lt in
    let grown : new ≡ keys ++ get_or numbers k 0 ∷ [] = now ∙ ap (λ b. if b then keys else keys ++ get_or numbers k 0 ∷ []) e in
    record {
      keys = grown ∙ ap (λ ks. ks ++ get_or numbers k 0 ∷ []) is ∙ sym t;
      once = ap all_different t ∙ different_new (take k numbers) (get_or numbers k 0) once (ap (list_any (λ y. get_or numbers k 0 == y)) (sym is) ∙ e);
    }

-- the loop over references
references_at : (refs : List Reference) (k : ℕ) (d : Reference) → k < length refs → references_meant (drop k refs) ≡ reference_meant (get_or refs k d) ∷ references_meant (drop (k + 1) refs)
references_at refs k d lt = ap references_meant (drop-cons refs k d lt) ∙ (let n : suc k ≡ k + 1 = omega arith in ap (λ m. reference_meant (get_or refs k d) ∷ references_meant (drop m refs)) n)

onto_numbers-append : (before numbers : List ℕ) (rest : Option (List ℕ)) → onto_numbers before (onto_numbers numbers rest) ≡ onto_numbers (before ++ numbers) rest
onto_numbers-append before numbers None = refl
onto_numbers-append before numbers (Some rest) = ap Some (sym (append_assoc before numbers rest))

pub numbers_stop : (r : Reading) (numbers : List ℕ) (refs : List Reference) (k : ℕ) (d : Reference) → k < length refs → concept_number r (reference_meant (get_or refs k d)) ≡ None
    → onto_numbers numbers (concept_numbers r (references_meant (drop k refs))) ≡ None
numbers_stop r numbers refs k d lt e =
    ap (λ bs. onto_numbers numbers (concept_numbers r bs)) (references_at refs k d lt)
    ∙ ap (λ o. onto_numbers numbers (option_and_then (λ c. option_map (λ cs. c ∷ cs) (concept_numbers r (references_meant (drop (k + 1) refs)))) o)) e

pub numbers_take : (r : Reading) (numbers new : List ℕ) (refs : List Reference) (k : ℕ) (d : Reference) (c : ℕ) → k < length refs → concept_number r (reference_meant (get_or refs k d)) ≡ Some c
    → new ≡ numbers ++ c ∷ []
    → onto_numbers numbers (concept_numbers r (references_meant (drop k refs))) ≡ onto_numbers new (concept_numbers r (references_meant (drop (k + 1) refs)))
numbers_take r numbers new refs k d c lt e more =
    let rest = concept_numbers r (references_meant (drop (k + 1) refs)) in
    ap (λ bs. onto_numbers numbers (concept_numbers r bs)) (references_at refs k d lt)
    ∙ ap (λ o. onto_numbers numbers (option_and_then (λ c. option_map (λ cs. c ∷ cs) rest) o)) e
    ∙ onto_numbers-append numbers (c ∷ []) rest
    ∙ ap (λ ns. onto_numbers ns rest) (sym more)

-- what the answer of an insertion says of the keys before
pub was_known : (added known : Bool) → added ≡ not known → added ≡ false → known ≡ true
was_known added true e f = refl
was_known added false e f = absurd (cc)

pub was_new : (added known : Bool) → added ≡ not known → added ≡ true → known ≡ false
was_new added true e f = absurd (cc)
was_new added false e f = refl
