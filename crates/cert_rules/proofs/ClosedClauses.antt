-- Clauses that leave a need no point: that a clause is closed at a node, and the test of it.
use Rattle.std.proofs.Common.{◌≡◌, ℕ, Bool, true, List, [], ◌∷◌, ◌++◌, inl, inr, sym, ap, ◌∙◌, refl}
use Rattle.std.specs.Prelude.{◌==◌}
use Rattle.std.specs.List.{list_all}
use Rattle.std.proofs.lemmas.Bool.{true≢false, and_from, eqb-true, eq-eqb, or_left, or_right, or_cases}
use Rattle.rcc5_core.specs.declared.Rel.{Rel}
use Rattle.lits_core.specs.Literals.{negation_of}
use Rattle.lits_core.specs.Derivation.{has_lit}
use Rattle.world_model.specs.Problem.{Problem, concept_count}
use Rattle.world_model.specs.Alive.{Need, problem_at, forced_pairs}
use Rattle.world_model.proofs.Members.{In, here, there, all_at, in_from_contains, contains_from_in}
use Rattle.world_model.proofs.PointOnce.{at_empty}
use Rattle.constraint_set.specs.Readers.{sum_places}
use Rattle.point_encode.specs.Model.Clauses.{first_sum_selector}
use Rattle.point_encode.specs.Model.Forced.{need_lits, region_selectors, sum_selectors, asked_of, IsClosedAt}
use Rattle.cert_rules.specs.Trees.{is_closed}

pub has_in : (lits : List ℕ) (lit : ℕ) → In lit lits → has_lit lits lit ≡ true
has_in [] lit i = elim i [ ]
has_in (l ∷ lits) lit (here e) = or_left (l == lit) (has_lit lits lit) (eq-eqb l lit (sym e))
has_in (l ∷ lits) lit (there i) = or_right (l == lit) (has_lit lits lit) (has_in lits lit i)

pub in_has : (lits : List ℕ) (lit : ℕ) → has_lit lits lit ≡ true → In lit lits
in_has [] lit h = absurd (true≢false (sym h))
in_has (l ∷ lits) lit h = elim (or_cases (l == lit) (has_lit lits lit) h) [
  | inl now ↦ here (sym (eqb-true l lit now))
  | inr later ↦ there (in_has lits lit later)
]

-- what must be true at a node, by its own problem
pub asked_at : (p : Problem) (m : List Rel) (need : Need) → asked_of (problem_at p m) [] need ≡ asked_of p m need
asked_at p m need =
    ap (λ (q : Problem). (region_selectors (concept_count p) (forced_pairs q) ++ sum_selectors p.kept (first_sum_selector p) (sum_places p)) ++ need_lits need) (at_empty (problem_at p m))

-- a clause that is closed at a node passes the test at the problem there, and so do its literals in any order
pub all_closed : (p : Problem) (m : List Rel) (need : Need) (clause rest : List ℕ) → IsClosedAt p m need clause → ((lit : ℕ) → has_lit rest lit ≡ true → has_lit clause lit ≡ true) →
    is_closed (problem_at p m) need rest ≡ true
all_closed p m need clause [] closed inside = refl
all_closed p m need clause (lit ∷ rest) closed inside =
    let in_clause = in_has clause lit (inside lit (or_left (lit == lit) (has_lit rest lit) (eq-eqb lit lit refl))) in
    let asked = closed lit (contains_from_in in_clause) in
    and_from (has_lit (asked_of (problem_at p m) [] need) (negation_of lit)) (list_all (λ lit. has_lit (asked_of (problem_at p m) [] need) (negation_of lit)) rest)
    (ap (λ lits. has_lit lits (negation_of lit)) (asked_at p m need) ∙ has_in (asked_of p m need) (negation_of lit) (in_from_contains (asked_of p m need) asked))
    (all_closed p m need clause rest closed (λ l h. inside l (or_right (lit == l) (has_lit rest l) h)))

-- and one that passes it is closed there
pub closed_at : (p : Problem) (m : List Rel) (need : Need) (clause : List ℕ) → is_closed (problem_at p m) need clause ≡ true → IsClosedAt p m need clause
closed_at p m need clause closed lit there_is =
    let h = all_at (λ lit. has_lit (asked_of (problem_at p m) [] need) (negation_of lit)) closed (in_from_contains clause there_is) in
    contains_from_in (in_has (asked_of p m need) (negation_of lit) (ap (λ lits. has_lit lits (negation_of lit)) (sym (asked_at p m need)) ∙ h))
