-- Entries one after the other.
use Rattle.std.proofs.Common.{◌≡◌, ℕ, Bool, true, false, ◌||◌, cond, eqb, List, [], ◌∷◌, ◌++◌, Option, Some, None, refl, sym, ap, ◌∙◌, inl, inr, ⊎_elim, ◌⊎◌, take, drop, length, get_or, Bor, ◌<◌, ◌+◌}
use Rattle.std.specs.Prelude.{is_some, is_none}
use Rattle.std.proofs.lemmas.Bool.{cases_Bool, and_parts, eqb-true}
use Rattle.std.specs.Option.{option_copied}
use Rattle.std.proofs.lemmas.List.{at_drop_more, take_more}
use Rattle.std.proofs.lemmas.List.Folds.{list_any_more}
use Rattle.lits_core.specs.Derivation.{derived_clause, distinct_ids, has_lit, without_id, without_ids, forget_fault}
use Rattle.lits_core.specs.declared.LineFault.TheVariants.{UnknownHint}
use Rattle.lits_core.proofs.DistinctIds.{distinct-without}

none_of : (o : Option (List ℕ)) → is_none o ≡ true → o ≡ None
none_of None h = refl
none_of (Some clause) h = cc

-- taking one id out leaves the clauses of the others
left-other : (entries : List (ℕ × List ℕ)) (out id : ℕ) → eqb out id ≡ false → derived_clause (without_id entries out) id ≡ derived_clause entries id
left-other [] out id apart = refl
left-other (entry ∷ entries) out id apart =
    elim (cases_Bool (eqb entry.0 out)) [
      | inl same ↦ rw (same, (ap (λ (n : ℕ). eqb n id) (eqb-true entry.0 out same) ∙ apart)) refl
      | inr kept ↦ rw kept (elim (cases_Bool (eqb entry.0 id)) [
        | inl here ↦ rw here refl
        | inr later ↦ rw later (left-other entries out id apart)
      ])
    ]

-- and none with that id
pub left-same : (entries : List (ℕ × List ℕ)) (out : ℕ) → distinct_ids entries ≡ true → derived_clause (without_id entries out) out ≡ None
left-same [] out h = refl
left-same (entry ∷ entries) out h = let parts = and_parts (is_none (derived_clause entries entry.0)) (distinct_ids entries) h in
    elim (cases_Bool (eqb entry.0 out)) [
      | inl same ↦ rw same (ap (derived_clause entries) (sym (eqb-true entry.0 out same)) ∙ none_of _ parts.0)
      | inr kept ↦ rw (kept, kept) (left-same entries out parts.1)
    ]

both_none : (b : Bool) → cond {A = Option (List ℕ)} b None None ≡ None
both_none true = refl
both_none false = refl

-- what is left at an id once some are taken out
left-at : (entries : List (ℕ × List ℕ)) (ids : List ℕ) (id : ℕ) → distinct_ids entries ≡ true → derived_clause (without_ids entries ids) id ≡ cond (has_lit ids id) None (derived_clause entries id)
left-at entries [] id h = refl
left-at entries (out ∷ ids) id h =
    left-at (without_id entries out) ids id (distinct-without entries out h)
    ∙ elim (cases_Bool (eqb out id)) [
      | inl same ↦ rw same (ap (cond (has_lit ids id) None) (ap (derived_clause (without_id entries out)) (sym (eqb-true out id same)) ∙ left-same entries out h) ∙ both_none (has_lit ids id))
      | inr apart ↦ rw apart (ap (cond (has_lit ids id) None) (left-other entries out id apart))
    ]

without_ids-push : (entries : List (ℕ × List ℕ)) (ids : List ℕ) (id : ℕ) → without_ids entries (ids ++ id ∷ []) ≡ without_id (without_ids entries ids) id
without_ids-push entries [] id = refl
without_ids-push entries (out ∷ ids) id = without_ids-push (without_id entries out) ids id

pub without_ids-more : (entries : List (ℕ × List ℕ)) (ids : List ℕ) (place : ℕ) → place < length ids → without_ids entries (take (place + 1) ids) ≡ without_id (without_ids entries (take place ids)) (get_or ids place 0)
without_ids-more entries ids place h = ap (without_ids entries) (take_more ids place 0 h) ∙ without_ids-push entries (take place ids) (get_or ids place 0)

-- the fault of the ids from a place on, by whether the one there is left
at_place : (entries : List (ℕ × List ℕ)) (ids : List ℕ) (place : ℕ) → distinct_ids entries ≡ true → place < length ids → forget_fault (without_ids entries (take place ids)) (drop place ids) ≡ cond (is_some (cond (has_lit (take place ids) (get_or ids place 0)) None (derived_clause entries (get_or ids place 0)))) (forget_fault (without_ids entries (take (place + 1) ids)) (drop (place + 1) ids)) (Some UnknownHint)
at_place entries ids place h l =
    at_drop_more (forget_fault (without_ids entries (take place ids))) ids place 0 l
    ∙ ap (λ (o : Option (List ℕ)). cond (is_some o) (forget_fault (without_id (without_ids entries (take place ids)) (get_or ids place 0)) (drop (place + 1) ids)) (Some UnknownHint)) (left-at entries (take place ids) (get_or ids place 0) h)
    ∙ ap (λ (es : List (ℕ × List ℕ)). cond (is_some (cond (has_lit (take place ids) (get_or ids place 0)) None (derived_clause entries (get_or ids place 0)))) (forget_fault es (drop (place + 1) ids)) (Some UnknownHint)) (sym (without_ids-more entries ids place l))

-- an id that is left is passed over, and another is the fault
pub passes : (entries : List (ℕ × List ℕ)) (ids : List ℕ) (place id : ℕ) → distinct_ids entries ≡ true → place < length ids → id ≡ get_or ids place 0 → has_lit (take place ids) id ≡ false → is_some (derived_clause entries id) ≡ true → forget_fault (without_ids entries (take place ids)) (drop place ids) ≡ forget_fault (without_ids entries (take (place + 1) ids)) (drop (place + 1) ids)
passes entries ids place id h l e seen found =
    at_place entries ids place h l ∙ rw ((ap (has_lit (take place ids)) (sym e) ∙ seen), (ap (λ (n : ℕ). is_some (derived_clause entries n)) (sym e) ∙ found)) refl

nothing : (b : Bool) (o : Option (List ℕ)) → is_some o ≡ false → is_some (cond b None o) ≡ false
nothing true o h = refl
nothing false o h = h

pub stops : (entries : List (ℕ × List ℕ)) (ids : List ℕ) (place id : ℕ) → distinct_ids entries ≡ true → place < length ids → id ≡ get_or ids place 0 → (has_lit (take place ids) id ≡ true) ⊎ (is_some (derived_clause entries id) ≡ false) → forget_fault (without_ids entries (take place ids)) (drop place ids) ≡ Some UnknownHint
stops entries ids place id h l e why = at_place entries ids place h l ∙ ⊎_elim
    (λ seen. ap (λ (b : Bool). cond (is_some (cond b None (derived_clause entries (get_or ids place 0)))) (forget_fault (without_ids entries (take (place + 1) ids)) (drop (place + 1) ids)) (Some UnknownHint)) (ap (has_lit (take place ids)) (sym e) ∙ seen))
    (λ absent. ap (λ (b : Bool). cond b (forget_fault (without_ids entries (take (place + 1) ids)) (drop (place + 1) ids)) (Some UnknownHint))
    (nothing (has_lit (take place ids) (get_or ids place 0)) (derived_clause entries (get_or ids place 0)) (ap (λ (n : ℕ). is_some (derived_clause entries n)) (sym e) ∙ absent)))
    why

-- what is found by reference
pub found-some : (found : Option (Bor (List ℕ))) (clause : Option (List ℕ)) → option_copied found ≡ clause → is_some clause ≡ is_some found
found-some None clause e = ap is_some (sym e)
found-some (Some lits) clause e = ap is_some (sym e)

or_comm : (a b : Bool) → (a || b) ≡ (b || a)
or_comm true true = refl
or_comm true false = refl
or_comm false true = refl
or_comm false false = refl

-- the ids seen after one more
pub seen-more : (ids : List ℕ) (place q : ℕ) (seen : Bool) → place < length ids → seen ≡ has_lit (take place ids) q → (eqb (get_or ids place 0) q || seen) ≡ has_lit (take (place + 1) ids) q
seen-more ids place q seen l e =
    ap (λ (b : Bool). eqb (get_or ids place 0) q || b) e
    ∙ or_comm (eqb (get_or ids place 0) q) (has_lit (take place ids) q)
    ∙ sym (list_any_more (λ x. eqb x q) ids place 0 l)
