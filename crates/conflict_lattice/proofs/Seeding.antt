-- What a solver's clauses say of what was found.
use Rattle.std.proofs.Common.{◌≡◌, ℕ, zero, suc, ◌+◌, ◌<◌, Bool, true, false, ◌&&◌, ◌||◌, not, List, [], ◌∷◌, ◌++◌, length, get_or, map, take, ◌⊎◌, inl, inr, refl, sym, ap, ◌∙◌, subst, arith}
use Rattle.std.specs.Prelude.{Contains, Some, slice_get}
use Rattle.std.specs.List.{list_any}
use Rattle.std.proofs.lemmas.Bool.{false_from_ne_true, false≢true}
use Rattle.std.proofs.lemmas.List.{length-map, take_more}
use Rattle.std.proofs.lemmas.List.Elements.{Contains-push_cases}
use Rattle.std.proofs.lemmas.Option.{get_or_from_slice_get, slice_get-get_or}
use Rattle.std.proofs.lemmas.List.Folds.{list_all-append, list_any-append}
use Rattle.lits_core.specs.Derivation.{DerivedClausesFollow, LiteralsAreSets, SameDerived}
use Rattle.lits_core.specs.Literals.{clause_true, lit_true, literal_of, variable_of}
use Rattle.lits_core.proofs.LiteralLemmas.{variable_of-literal_of}
use Rattle.watch_arena.specs.Trails.{AreInRange}
use Rattle.conflict_lattice.proofs.Parts.{part_within}
use Rattle.point_query.proofs.Querying.{same_met}
use Rattle.learn_solver.specs.Solving.{AddsGiven, GoesTo, IsModel, IsRefutation, SolverState}
use Rattle.pick_search.proofs.Deciding.{given_stays}
use Rattle.point_encode.specs.Model.Clauses.{is_not, is_so}
use Rattle.point_encode.proofs.model.Bits.{not_true, so_true}
use Rattle.conflict_lattice.specs.Lattice.{Subsets}
use Rattle.conflict_lattice.specs.Rounds.{IsMap, Says, holds_none, holds_one, is_open, is_part}

-- tests of one and two
plain : (b : Bool) → (not b && true) ≡ (not b || false)
plain true = refl
plain false = refl

with_true : (b : Bool) → (b && true) ≡ b
with_true true = refl
with_true false = refl

together : (a b c : Bool) → (a && (b && c)) ≡ ((a && b) && c)
together true b c = refl
together false b c = refl

-- the first flags of a list are a part of another, and so are they with the next one
part_next : (few more : List Bool) (k : ℕ) → k < length few → is_part (take (suc k) few) more ≡ (is_part (take k few) more && (not (get_or few k false) || get_or more k false))
part_next [] more k low = absurd (omega arith)
part_next (b ∷ few) [] zero low = plain b
part_next (b ∷ few) (c ∷ more) zero low = with_true (not b || c)
part_next (b ∷ few) [] (suc k) low =
    ap (λ t. not b && t) (part_next few [] k (omega arith)) ∙ together (not b) (is_part (take k few) []) (not (get_or few k false) || false)
part_next (b ∷ few) (c ∷ more) (suc k) low =
    ap (λ t. (not b || c) && t) (part_next few more k (omega arith)) ∙ together (not b || c) (is_part (take k few) more) (not (get_or few k false) || get_or more k false)

part_more : (few more : List Bool) (k : ℕ) → k < length few → is_part (take (k + 1) few) more ≡ (is_part (take k few) more && (not (get_or few k false) || get_or more k false))
part_more few more k low = let next : k + 1 ≡ suc k = omega arith in ap (λ n. is_part (take n few) more) next ∙ part_next few more k low

-- a flag of what is not left out
not_at : (out : List Bool) (k : ℕ) → k < length out → get_or (map not out) k false ≡ not (get_or out k false)
not_at [] k low = absurd (omega arith)
not_at (b ∷ out) zero low = refl
not_at (b ∷ out) (suc k) low = not_at out k (omega arith)

pub not_twice : (flags : List Bool) → map not (map not flags) ≡ flags
not_twice [] = refl
not_twice (true ∷ flags) = ap (λ fs. true ∷ fs) (not_twice flags)
not_twice (false ∷ flags) = ap (λ fs. false ∷ fs) (not_twice flags)

-- a clause with one literal more
one_more : (out : List Bool) (lits : List ℕ) (lit : ℕ) → clause_true out (lits ++ lit ∷ []) ≡ (clause_true out lits || (lit_true out lit || false))
one_more out lits lit = list_any-append (lit_true out) lits (lit ∷ [])

-- the clause of a conflict's first flags: something of them is left out
abbrev pub SaysConflict : List Bool → ℕ → List ℕ → Type 0
SaysConflict conflict k lits = (out : List Bool) → length out ≡ length conflict → clause_true out lits ≡ not (is_part (take k conflict) (map not out))

left_out : (p o : Bool) → (not p || (o || false)) ≡ not (p && (false || not o))
left_out true true = refl
left_out true false = refl
left_out false o = refl

no_matter : (p x : Bool) → not p ≡ not (p && (true || x))
no_matter true x = refl
no_matter false x = refl

pub conflict_there : (conflict : List Bool) (k : ℕ) (lits : List ℕ) → k < length conflict → get_or conflict k false ≡ true → SaysConflict conflict k lits → SaysConflict conflict (k + 1) (lits ++ is_so k ∷ [])
conflict_there conflict k lits low there says out n =
    let p = is_part (take k conflict) (map not out) in
    one_more out lits (is_so k)
    ∙ ap (λ b. b || (lit_true out (is_so k) || false)) (says out n)
    ∙ ap (λ b. not p || (b || false)) (so_true out k)
    ∙ left_out p (get_or out k false)
    ∙ ap (λ b. not (p && (false || b))) (sym (not_at out k (omega (arith, low, n))))
    ∙ ap (λ b. not (p && (not b || get_or (map not out) k false))) (sym there)
    ∙ ap not (sym (part_more conflict (map not out) k low))

pub conflict_lacks : (conflict : List Bool) (k : ℕ) (lits : List ℕ) → k < length conflict → get_or conflict k false ≡ false → SaysConflict conflict k lits → SaysConflict conflict (k + 1) lits
conflict_lacks conflict k lits low lacks says out n =
    let p = is_part (take k conflict) (map not out) in
    says out n
    ∙ no_matter p (get_or (map not out) k false)
    ∙ ap (λ b. not (p && (not b || get_or (map not out) k false))) (sym lacks)
    ∙ ap not (sym (part_more conflict (map not out) k low))

-- the clause of what lies outside a set among the first flags: something of it is not kept, unless all that is kept is in the set
abbrev pub SaysSet : List Bool → ℕ → List ℕ → Type 0
SaysSet set k lits = (out : List Bool) → length out ≡ length set → clause_true out lits ≡ not (is_part (take k (map not out)) set)

kept_beside : (p o : Bool) → (not p || (not o || false)) ≡ not (p && (not (not o) || false))
kept_beside true true = refl
kept_beside true false = refl
kept_beside false o = refl

no_matter_there : (p x : Bool) → not p ≡ not (p && (x || true))
no_matter_there true true = refl
no_matter_there true false = refl
no_matter_there false x = refl

pub set_lacks : (set : List Bool) (k : ℕ) (lits : List ℕ) → k < length set → get_or set k false ≡ false → SaysSet set k lits → SaysSet set (k + 1) (lits ++ is_not k ∷ [])
set_lacks set k lits low lacks says out n =
    let p = is_part (take k (map not out)) set in
    one_more out lits (is_not k)
    ∙ ap (λ b. b || (lit_true out (is_not k) || false)) (says out n)
    ∙ ap (λ b. not p || (b || false)) (not_true out k)
    ∙ kept_beside p (get_or out k false)
    ∙ ap (λ b. not (p && (not b || false))) (sym (not_at out k (omega (arith, low, n))))
    ∙ ap (λ b. not (p && (not (get_or (map not out) k false) || b))) (sym lacks)
    ∙ ap not (sym (part_more (map not out) set k (omega (arith, low, n, length-map out not))))

pub set_has : (set : List Bool) (k : ℕ) (lits : List ℕ) → k < length set → get_or set k false ≡ true → SaysSet set k lits → SaysSet set (k + 1) lits
set_has set k lits low there says out n =
    let p = is_part (take k (map not out)) set in
    says out n
    ∙ no_matter_there p (not (get_or (map not out) k false))
    ∙ ap (λ b. not (p && (not (get_or (map not out) k false) || b))) (sym there)
    ∙ ap not (sym (part_more (map not out) set k (omega (arith, low, n, length-map out not))))

-- one clause more
pub map_more : LiteralsAreSets → (n : ℕ) (fact more : List Bool → Bool) (old new : SolverState) (lits : List ℕ) → IsMap n fact old → AddsGiven old new lits → Says n lits more → IsMap n (λ kept. fact kept && more kept) new
map_more law n fact more old new lits is adds says = record {
  variables = adds.variables ∙ is.variables;
  derived = none new.state.derived (subst (λ ds. SameDerived ds new.state.derived) is.derived adds.given.same_derived);
  waiting = adds.waiting ∙ is.waiting;
  says = λ out counted.
      sym (same_met law out (old.state.given ++ lits ∷ []) new.state.given adds.given.same_given)
      ∙ list_all-append (clause_true out) old.state.given (lits ∷ [])
      ∙ ap (λ b. b && (clause_true out lits && true)) (is.says out counted)
      ∙ ap (λ b. fact (map not out) && b) (with_true (clause_true out lits) ∙ says out counted);
}
  where
    none : (entries : List (ℕ × List ℕ)) → SameDerived [] entries → entries ≡ []
    none [] e = refl
    none (entry ∷ entries) e = absurd e

pub map_same : (n : ℕ) (fact other : List Bool → Bool) (s : SolverState) → ((kept : List Bool) → fact kept ≡ other kept) → IsMap n fact s → IsMap n other s
map_same n fact other s same is = record {
  variables = is.variables;
  derived = is.derived;
  waiting = is.waiting;
  says = λ out counted. is.says out counted ∙ same (map not out);
}

-- one conflict more, and one set more
none_and : (a b : Bool) → (not a && not b) ≡ not (a || (b || false))
none_and true b = refl
none_and false true = refl
none_and false false = refl

pub conflicts_next : (conflicts : List (List Bool)) (k : ℕ) (kept : List Bool) → k < length conflicts → (holds_none (take k conflicts) kept && not (is_part (get_or conflicts k []) kept)) ≡ holds_none (take (k + 1) conflicts) kept
conflicts_next conflicts k kept low =
    let test : List Bool → Bool = λ conflict. is_part conflict kept in
    none_and (holds_one (take k conflicts) kept) (is_part (get_or conflicts k []) kept)
    ∙ ap not (sym (ap (list_any test) (take_more conflicts k [] low) ∙ list_any-append test (take k conflicts) (get_or conflicts k [] ∷ [])))

sets_and : (h a b : Bool) → ((h && not a) && not b) ≡ (h && not (a || (b || false)))
sets_and true a b = none_and a b
sets_and false a b = refl

pub sets_next : (conflicts sets : List (List Bool)) (k : ℕ) (kept : List Bool) → k < length sets →
    (is_open (record { conflicts = conflicts; consistent = take k sets }) kept && not (is_part kept (get_or sets k []))) ≡ is_open (record { conflicts = conflicts; consistent = take (k + 1) sets }) kept
sets_next conflicts sets k kept low =
    sets_and (holds_none conflicts kept) (list_any (is_part kept) (take k sets)) (is_part kept (get_or sets k []))
    ∙ ap (λ b. holds_none conflicts kept && not b) (sym (ap (list_any (is_part kept)) (take_more sets k [] low) ∙ list_any-append (is_part kept) (take k sets) (get_or sets k [] ∷ [])))

pub sets_none : (conflicts : List (List Bool)) (kept : List Bool) → holds_none conflicts kept ≡ is_open (record { conflicts = conflicts; consistent = [] }) kept
sets_none conflicts kept = sym (with_true (holds_none conflicts kept))

-- bits that meet all clauses are an open list, and where none do no list is open
pub seed_open : DerivedClausesFollow → LiteralsAreSets → (n : ℕ) (s : Subsets) (old new : SolverState) (bits : List Bool) → IsMap n (is_open s) old → GoesTo old new → IsModel new [] bits →
    (length (map not bits) ≡ n) × (is_open s (map not bits) ≡ true)
seed_open follow law n s old new bits is goes model =
    let counted : length bits ≡ n = model.counted ∙ goes.variables ∙ is.variables in
    (length-map bits not ∙ counted, sym (is.says bits counted) ∙ sym (given_stays follow law old new goes bits) ∙ model.given)

pub none_open : DerivedClausesFollow → LiteralsAreSets → (n : ℕ) (s : Subsets) (old new : SolverState) (id : ℕ) → IsMap n (is_open s) old → GoesTo old new → IsRefutation new [] id →
    (kept : List Bool) → length kept ≡ n → is_open s kept ≡ false
none_open follow law n s old new id is goes refutation kept counted = false_from_ne_true (is_open s kept) (λ opened.
    refutation.hopeless (map not kept) (given_stays follow law old new goes (map not kept) ∙ is.says (map not kept) (length-map kept not ∙ counted) ∙ ap (is_open s) (not_twice kept) ∙ opened) refl)

-- a literal more, of a variable below the number of them
pub range_more : (lits new : List ℕ) (lit count k : ℕ) (negative : Bool) → AreInRange lits count → new ≡ lits ++ lit ∷ [] → lit ≡ literal_of k negative → k < count → AreInRange new count
range_more lits new lit count k negative before step is low other there =
    elim (Contains-push_cases lits lit other (subst (λ ls. Contains ls other) step there)) [
      | inl old ↦ before other old
      | inr same ↦ omega (arith, ap variable_of (sym same ∙ is), variable_of-literal_of k negative, low)
    ]

-- one step of each clause
pub conflict_pushed : (conflict : List Bool) (k : ℕ) (lits new : List ℕ) (lit : ℕ) → k < length conflict → get_or conflict k false ≡ true → new ≡ lits ++ lit ∷ [] → lit ≡ is_so k → SaysConflict conflict k lits → SaysConflict conflict (k + 1) new
conflict_pushed conflict k lits new lit low there step is says =
    subst (SaysConflict conflict (k + 1)) (sym (step ∙ ap (λ l. lits ++ l ∷ []) is)) (conflict_there conflict k lits low there says)

pub set_pushed : (set : List Bool) (k : ℕ) (lits new : List ℕ) (lit : ℕ) → k < length set → get_or set k false ≡ false → new ≡ lits ++ lit ∷ [] → lit ≡ is_not k → SaysSet set k lits → SaysSet set (k + 1) new
set_pushed set k lits new lit low lacks step is says =
    subst (SaysSet set (k + 1)) (sym (step ∙ ap (λ l. lits ++ l ∷ []) is)) (set_lacks set k lits low lacks says)

-- what is given of the next conflict, and of the next set
pub conflict_given : LiteralsAreSets → (n : ℕ) (conflicts : List (List Bool)) (k : ℕ) (conflict : List Bool) (old new : SolverState) (seen lits : List ℕ) → IsMap n (holds_none (take k conflicts)) old → AddsGiven old new seen → seen ≡ lits →
    Says (length conflict) lits (λ kept. not (is_part conflict kept)) → conflict ≡ get_or conflicts k [] → length conflict ≡ n → k < length conflicts → IsMap n (holds_none (take (k + 1) conflicts)) new
conflict_given law n conflicts k conflict old new seen lits is adds same says at counted low =
    map_same n (λ kept. holds_none (take k conflicts) kept && not (is_part conflict kept)) (holds_none (take (k + 1) conflicts)) new
    (λ kept. ap (λ c. holds_none (take k conflicts) kept && not (is_part c kept)) at ∙ conflicts_next conflicts k kept low)
    (map_more law n (holds_none (take k conflicts)) (λ kept. not (is_part conflict kept)) old new lits is (subst (AddsGiven old new) same adds) (subst (λ m. Says m lits (λ kept. not (is_part conflict kept))) counted says))

pub set_given : LiteralsAreSets → (n : ℕ) (conflicts sets : List (List Bool)) (k : ℕ) (set : List Bool) (old new : SolverState) (seen lits : List ℕ) → IsMap n (is_open (record { conflicts = conflicts; consistent = take k sets })) old → AddsGiven old new seen →
    seen ≡ lits → Says (length set) lits (λ kept. not (is_part kept set)) → set ≡ get_or sets k [] → length set ≡ n → k < length sets → IsMap n (is_open (record { conflicts = conflicts; consistent = take (k + 1) sets })) new
set_given law n conflicts sets k set old new seen lits is adds same says at counted low =
    map_same n (λ kept. is_open (record { conflicts = conflicts; consistent = take k sets }) kept && not (is_part kept set)) (is_open (record { conflicts = conflicts; consistent = take (k + 1) sets })) new
    (λ kept. ap (λ c. is_open (record { conflicts = conflicts; consistent = take k sets }) kept && not (is_part kept c)) at ∙ sets_next conflicts sets k kept low)
    (map_more law n (is_open (record { conflicts = conflicts; consistent = take k sets })) (λ kept. not (is_part kept set)) old new lits is (subst (AddsGiven old new) same adds) (subst (λ m. Says m lits (λ kept. not (is_part kept set))) counted says))

-- a list that has a flag which another lacks is no part of it
pub no_part : (few more : List Bool) (k : ℕ) → k < length few → get_or few k false ≡ true → get_or more k false ≡ false → is_part few more ≡ false
no_part few more k low there lacks = false_from_ne_true (is_part few more) (λ part.
    false≢true (sym lacks ∙ get_or_from_slice_get more k true false (part_within few more part k (slice_get_at few k low there))))
  where
    slice_get_at : (flags : List Bool) (k : ℕ) → k < length flags → get_or flags k false ≡ true → slice_get flags k ≡ Some true
    slice_get_at flags k low there = slice_get-get_or flags k false low ∙ ap Some there

-- the first flags are a part, and the next one is no hindrance
pub part_on : (few more : List Bool) (k : ℕ) → k < length few → is_part (take k few) more ≡ true → (get_or few k false ≡ false) ⊎ (get_or more k false ≡ true) → is_part (take (k + 1) few) more ≡ true
part_on few more k low before next = part_more few more k low ∙ ap (λ b. b && (not (get_or few k false) || get_or more k false)) before ∙ step (get_or few k false) (get_or more k false) next
  where
    step : (a b : Bool) → (a ≡ false) ⊎ (b ≡ true) → (not a || b) ≡ true
    step false b next = refl
    step true true next = refl
    step true false (inl e) = absurd (false≢true (sym e))
    step true false (inr e) = absurd (false≢true e)
