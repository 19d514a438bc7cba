-- Marks as literals are let go.
use Rattle.std.proofs.Common.{◌≡◌, ℕ, Bool, true, false, eqb, ltb, List, [], ◌∷◌, ◌++◌, refl, sym, ap, ◌∙◌, ⊎_elim, length, get_or, set, ◌<◌, get_or-set_same, get_or-set_other}
use Rattle.std.specs.Ordering.{nat_cmp}
use Rattle.std.specs.BTreeSet.{BTreeSet}
use Rattle.std.specs.BTreeMap.{is_at}
use Rattle.std.specs.List.{list_any}
use Rattle.std.proofs.Math.ListN.{length-set}
use Rattle.std.proofs.lemmas.Bool.{cases_eq, cases_lt, false≢true, lt-ltb, le-ltb, or_cases, eqb-true, cond-true, cond-false}
use Rattle.std.proofs.lemmas.List.Folds.{list_any-append}
use Rattle.lits_core.specs.Derivation.{has_lit}
use Rattle.proof_check.specs.Marks.{is_marked}

-- with an empty set, a code whose mark is taken out of the table is not marked
gone : (table : List Bool) (others : BTreeSet ℕ) (lit : ℕ) → others.keys ≡ [] → is_marked (set table lit false) others lit ≡ false
gone table others lit none = ⊎_elim
    (λ (below : lit < length table). cond-true (ltb lit (length (set table lit false))) _ _ (lt-ltb _ _ (rw length-set below)) ∙ get_or-set_same table lit false false below)
    (λ past. cond-false (ltb lit (length (set table lit false))) _ _ (le-ltb _ _ (rw length-set past)) ∙ ap (λ (ks : List ℕ). list_any (is_at (nat_cmp lit)) ks) none)
    (cases_lt lit (length table))

-- other codes keep theirs
stays : (table : List Bool) (others : BTreeSet ℕ) (lit code : ℕ) → (code ≡ lit → ⊥) → is_marked (set table lit false) others code ≡ is_marked table others code
stays table others lit code apart =
    let kept : get_or (set table lit false) code false ≡ get_or table code false = get_or-set_other table lit code false false apart in
    rw (length-set table lit false, kept) refl

-- the marked codes are listed, also once the last listed literal is let go
pub cleared : (table : List Bool) (others : BTreeSet ℕ) (lits rest : List ℕ) (lit code : ℕ) → others.keys ≡ [] → lits ≡ rest ++ lit ∷ [] → (is_marked table others code ≡ true → has_lit lits code ≡ true) → is_marked (set table lit false) others code ≡ true → has_lit rest code ≡ true
cleared table others lits rest lit code none last listed h = ⊎_elim
    (λ same. absurd (false≢true (sym (gone table others lit none) ∙ ap (is_marked (set table lit false) others) (sym same) ∙ h)))
    (λ apart. ⊎_elim (λ here. here) (λ at. absurd (apart (sym (eqb-true lit code (⊎_elim (λ one. one) (λ no. absurd (false≢true no)) (or_cases (eqb lit code) false at)))))) (or_cases (has_lit rest code) (has_lit (lit ∷ []) code)
    (sym (list_any-append (λ l. eqb l code) rest (lit ∷ [])) ∙ ap (λ (ls : List ℕ). has_lit ls code) (sym last) ∙ listed (sym (stays table others lit code apart) ∙ h))))
    (cases_eq code lit)
