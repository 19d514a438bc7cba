-- Nodes by their lines, and ids by the clauses that are live.
use Rattle.std.proofs.Common.{◌≡◌, ℕ, ◌<◌, ◌≤◌, ◌⊎◌, cond, true, false, inl, inr, List, [], ◌∷◌, length, Option, Some, None, All, refl, sym, ap, ◌∙◌, subst, arith, IsTrue}
use Rattle.std.specs.Prelude.{◌==◌, MatchOption}
use Rattle.std.specs.List.{AllByRecursion}
use Rattle.std.proofs.lemmas.Bool.{and_from, cases_lt, eq-eqb, ne_eqb}
use Rattle.std.proofs.lemmas.List.Elements.{recursion_from_All}
use Rattle.rcc5_core.specs.declared.Rel.{Rel}
use Rattle.lits_core.specs.Derivation.{State, derived_clause, live_clause}
use Rattle.cert_rules.specs.Trees.{last_of, same_last, is_node_at}
use Rattle.world_model.proofs.Relations.{itself}

pub same_itself : (last : Option Rel) → same_last last last ≡ true
same_itself None = refl
same_itself (Some rel) = itself rel

-- a node by its depth and last relation
pub named : (m : List Rel) (depth : ℕ) (last : Option Rel) → depth ≡ length m → last ≡ last_of m → IsTrue (is_node_at m depth last)
named m depth last is_depth is_last =
    and_from (depth == length m) (same_last last (last_of m)) (eq-eqb depth (length m) is_depth) (ap (same_last last) (sym is_last) ∙ same_itself last)

-- the root has no last relation
pub root_last : (m : List Rel) → length m ≡ 0 → None ≡ last_of m
root_last [] none = refl
root_last (r ∷ m) none = absurd (omega arith)

-- no clause has the id 0
pub none_derived : (entries : List (ℕ × List ℕ)) → AllByRecursion (λ entry. 1 ≤ entry.0) entries → derived_clause entries 0 ≡ None
none_derived [] h = refl
none_derived (entry ∷ entries) h =
    let other : (entry.0 == 0) ≡ false = ne_eqb entry.0 0 (λ e. let one = h.0 in omega arith) in
    ap (λ b. cond b (Some entry.1) (derived_clause entries 0)) other ∙ none_derived entries h.1

pub live_from_one : (s : State) (id : ℕ) (P : List ℕ → Type 0) → All (λ entry. 1 ≤ entry.0) s.derived → MatchOption (live_clause s id) ⊥ P → 1 ≤ id
live_from_one s id P each live = by (cases_lt 0 id)
  where
    none : id ≡ 0 → live_clause s id ≡ None
    none e = ap (live_clause s) e ∙ none_derived s.derived (recursion_from_All (λ entry. 1 ≤ entry.0) s.derived each)

    by : (0 < id) ⊎ (id ≤ 0) → 1 ≤ id
    by (inl more) = omega arith
    by (inr least) = absurd (subst (λ o. MatchOption o ⊥ P) (none (omega arith)) live)
