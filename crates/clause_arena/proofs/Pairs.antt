-- Tables of new Refs by old ones, and their pairs.
use Rattle.std.proofs.Common.{◌≡◌, ◌∙◌, ◌==◌, ltb, ℕ, zero, suc, ◌+◌, ◌<◌, List, [], ◌∷◌, ◌++◌, length, get_or, replicate, Option, Some, None, Bool, true, false, cond, refl, sym, ap, arith}
use Rattle.std.proofs.lemmas.Grind.{common_steps}
use Rattle.std.proofs.lemmas.List.{get_or_default, get_or_past}
use borrow.Author.Tests.{ltb-true, ltb-false}
use Rattle.clause_arena.specs.Movings.{Movings, pairs_from, new_ref}

-- a number below all the old ones has no pair
pub new_ref-below : (table : List (Option ℕ)) (from at : ℕ) → at < from → new_ref (pairs_from from table) at ≡ None
new_ref-below [] from at lt = refl
new_ref-below (None ∷ table) from at lt = new_ref-below table (from + 1) at (omega arith)
new_ref-below (Some to ∷ table) from at lt =
    let differs : (from == at) ≡ false = grind (arith, common_steps) in
    let rest = new_ref-below table (from + 1) at (omega arith) in
    ap (λ (b : Bool). cond b (Some to) (new_ref (pairs_from (from + 1) table) at)) differs ∙ rest

-- a pair is the entry of the table
pub new_ref-pairs_from : (table : List (Option ℕ)) (from at k : ℕ) → at ≡ from + k → new_ref (pairs_from from table) at ≡ get_or table k None
new_ref-pairs_from [] from at k is = refl
new_ref-pairs_from (None ∷ table) from at zero is = new_ref-below table (from + 1) at (omega arith)
new_ref-pairs_from (None ∷ table) from at (suc k) is = new_ref-pairs_from table (from + 1) at k (omega arith)
new_ref-pairs_from (Some to ∷ table) from at zero is =
    let same : (from == at) ≡ true = grind (arith, common_steps) in
    ap (λ (b : Bool). cond b (Some to) (new_ref (pairs_from (from + 1) table) at)) same
new_ref-pairs_from (Some to ∷ table) from at (suc k) is =
    let differs : (from == at) ≡ false = grind (arith, common_steps) in
    ap (λ (b : Bool). cond b (Some to) (new_ref (pairs_from (from + 1) table) at)) differs ∙ new_ref-pairs_from table (from + 1) at k (omega arith)

-- an empty table has no pairs
pub pairs_from-replicate : (n from : ℕ) → pairs_from from (replicate n None) ≡ []
pairs_from-replicate zero from = refl
pairs_from-replicate (suc n) from = pairs_from-replicate n (from + 1)

-- where there are no pairs, each entry is none
pub none-from_no_pairs : (table : List (Option ℕ)) (from k : ℕ) → pairs_from from table ≡ [] → get_or table k None ≡ None
none-from_no_pairs table from k none =
    sym (new_ref-pairs_from table from (from + k) k refl) ∙ ap (λ (pairs : List (ℕ × ℕ)). new_ref pairs (from + k)) none

-- the entry of a table is what its pairs tell
pub new_ref-at : (table : List (Option ℕ)) (at : ℕ) (m : Movings) → record { pairs = pairs_from 0 table; spare = length table } ≡ m → get_or table at None ≡ new_ref m.pairs at
new_ref-at table at m view =
    sym (new_ref-pairs_from table 0 at at (omega arith)) ∙ ap (λ (n : Movings). new_ref n.pairs at) view

-- an entry of a table that is read within it
pub entry-some : (table now : List (Option ℕ)) (i at : ℕ) (to : Option ℕ) → true ≡ ltb i (length now) → to ≡ get_or now i to → now ≡ table → i ≡ at → to ≡ get_or table at None
entry-some table now i at to lt is same at_is =
    is ∙ get_or_default now i to None (ltb-true i (length now) (sym lt)) ∙ ap (λ (xs : List (Option ℕ)). get_or xs i None) same ∙ ap (λ (n : ℕ). get_or table n None) at_is

-- past the end of a table there is no entry
pub entry-none : (table now : List (Option ℕ)) (i at : ℕ) → false ≡ ltb i (length now) → now ≡ table → i ≡ at → None ≡ get_or table at None
entry-none table now i at lt same at_is =
    sym (get_or_past now i None (ltb-false i (length now) (sym lt))) ∙ ap (λ (xs : List (Option ℕ)). get_or xs i None) same ∙ ap (λ (n : ℕ). get_or table n None) at_is

-- an empty entry at the end adds no pair
pub pairs_from-push : (table : List (Option ℕ)) (from : ℕ) → pairs_from from (table ++ None ∷ []) ≡ pairs_from from table
pairs_from-push [] from = refl
pairs_from-push (None ∷ table) from = pairs_from-push table (from + 1)
pairs_from-push (Some to ∷ table) from = ap (λ (pairs : List (ℕ × ℕ)). (from, to) ∷ pairs) (pairs_from-push table (from + 1))

-- a table of empty entries has no pairs
pub pairs_from-empty : (table : List (Option ℕ)) (from : ℕ) → ((k : ℕ) → k < length table → get_or table k None ≡ None) → pairs_from from table ≡ []
pairs_from-empty [] from none = refl
pairs_from-empty (None ∷ table) from none = pairs_from-empty table (from + 1) (λ k lt. none (suc k) (omega arith))
pairs_from-empty (Some to ∷ table) from none = absurd (let e : ◌≡◌ {A = Option ℕ} (Some to) None = none 0 (omega arith) in cc)
