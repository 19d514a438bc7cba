-- The selectors that are true, by their variables.
use Rattle.std.proofs.Common.{◌≡◌, ℕ, ◌+◌, ◌-◌, ◌*◌, ◌/◌, ◌%◌, ◌<◌, ◌≤◌, Bool, true, false, not, ◌&&◌, cond, List, [], ◌∷◌, ◌++◌, length, inl, inr, refl, sym, ap, ◌∙◌, subst, arith}
use Rattle.std.specs.Prelude.{nat_lt, ◌==◌, ◌||◌}
use Rattle.std.specs.List.{list_all}
use Rattle.std.proofs.lemmas.Bool.{true≢false, and_parts, and_from, ltb-true, ltb-false, lt-ltb, le-ltb, eqb-true, eq-eqb, not-true, not_from_false}
use Rattle.rcc5_core.specs.declared.Region.{Region}
use Rattle.rcc5_core.specs.declared.Region.TheVariants.{LeftOnly, Both, RightOnly}
use Rattle.rcc5_core.specs.declared.Occupancy.TheVariants.{Empty}
use Rattle.rcc5_core.specs.Region.{word_at, same_word, forced_regions}
use Rattle.lits_core.specs.Literals.{variable_of, is_negative, negation_of}
use Rattle.lits_core.specs.Derivation.{has_lit}
use Rattle.lits_core.proofs.LiteralLemmas.{variable_of-literal_of, is_negative-literal_of}
use Rattle.lits_core.proofs.LiteralSets.{same_tests}
use Rattle.world_model.specs.Problem.{Problem, concept_count, pair_count}
use Rattle.world_model.specs.Alive.{Need, allowed}
use Rattle.world_model.specs.Node.{pair_at}
use Rattle.world_model.proofs.Members.{In}
use Rattle.world_model.proofs.PointSets.{Forces}
use Rattle.world_model.proofs.PointOnce.{at_empty}
use Rattle.constraint_set.specs.Readers.{sum_places}
use Rattle.point_encode.specs.Model.Clauses.{is_so, first_sum_selector}
use Rattle.point_encode.specs.Model.Forced.{region_number, region_with, selectors_of, need_lits, asked_of}
use Rattle.point_encode.proofs.model.Selectors.{flag_of, from_selectors, In-region_selectors, In-sum_selectors}
use Rattle.point_encode.proofs.model.NeedLiterals.{region_again, part_below}
use Rattle.cert_rules.specs.Trees.{is_closed}
use Rattle.cert_rules.specs.Selected.{is_emptied, is_sum_kept, is_selected, is_asked, AskedByLiteral}
use Rattle.cert_rules.proofs.ClosedClauses.{has_in, in_has}

-- a part by its region, and a literal that is not negated by its variable
part_again : (part : ℕ) → part < 3 → region_number (region_with part) ≡ part
part_again part below = first (part == 0) refl
  where
    second : (b : Bool) → (part == 1) ≡ b → (part == 0) ≡ false → region_number (cond b Both RightOnly) ≡ part
    second true e other = sym (eqb-true part 1 e)
    second false e other = third (λ h. true≢false (sym (eq-eqb part 0 h) ∙ other)) (λ h. true≢false (sym (eq-eqb part 1 h) ∙ e))
      where
        third : (part ≡ 0 → ⊥) → (part ≡ 1 → ⊥) → 2 ≡ part
        third not_zero not_one = omega (arith, not_zero, not_one)

    first : (b : Bool) → (part == 0) ≡ b → region_number (cond b LeftOnly (cond (part == 1) Both RightOnly)) ≡ part
    first true e = sym (eqb-true part 0 e)
    first false e = second (part == 1) refl e

positive_is : (lit : ℕ) → is_negative lit ≡ false → is_so (variable_of lit) ≡ lit
positive_is lit h = even (λ e. true≢false (sym (eq-eqb (lit % 2) 1 e) ∙ h))
  where
    even : (lit % 2 ≡ 1 → ⊥) → 2 * (lit / 2) + 0 ≡ lit
    even not_odd = omega (arith, not_odd)

-- a variable past the concepts, and one past the regions
selects_region : (q : Problem) (v : ℕ) → concept_count q ≤ v → v < first_sum_selector q → is_selected q v ≡ is_emptied q ((v - concept_count q) / 3) ((v - concept_count q) % 3)
selects_region q v low high =
    ap (λ b. cond b false (cond (nat_lt v (first_sum_selector q)) (is_emptied q ((v - concept_count q) / 3) ((v - concept_count q) % 3)) (is_sum_kept q (v - first_sum_selector q)))) (le-ltb v (concept_count q) low) ∙
    ap (λ b. cond b (is_emptied q ((v - concept_count q) / 3) ((v - concept_count q) % 3)) (is_sum_kept q (v - first_sum_selector q))) (lt-ltb v (first_sum_selector q) high)

selects_sum : (q : Problem) (v : ℕ) → first_sum_selector q ≤ v → is_selected q v ≡ is_sum_kept q (v - first_sum_selector q)
selects_sum q v low =
    ap (λ b. cond b false (cond (nat_lt v (first_sum_selector q)) (is_emptied q ((v - concept_count q) / 3) ((v - concept_count q) % 3)) (is_sum_kept q (v - first_sum_selector q)))) (le-ltb v (concept_count q) (omega arith)) ∙
    ap (λ b. cond b (is_emptied q ((v - concept_count q) / 3) ((v - concept_count q) % 3)) (is_sum_kept q (v - first_sum_selector q))) (le-ltb v (first_sum_selector q) low)

-- a selector that is there is selected
region_is_selected : (q : Problem) (pair : ℕ) (region : Region) → pair < pair_count q → Forces (allowed q (pair_at q pair)) region false →
    is_selected q (concept_count q + 3 * pair + region_number region) ≡ true
region_is_selected q pair region within forced =
    let few = part_below region in
    let v = concept_count q + 3 * pair + region_number region in
    let quotient : (v - concept_count q) / 3 ≡ pair = omega arith in
    let remainder : (v - concept_count q) % 3 ≡ region_number region = omega arith in
    selects_region q v (omega arith) (omega arith) ∙ ap (λ k. is_emptied q k ((v - concept_count q) % 3)) quotient ∙ ap (is_emptied q pair) remainder ∙
    ap (λ r. same_word (word_at (forced_regions (allowed q (pair_at q pair))) r) Empty) (region_again region) ∙ forced.same

sum_is_selected : (q : Problem) (sum : ℕ) → sum < length (sum_places q) → flag_of q.kept (sum_places q) sum ≡ true → is_selected q (first_sum_selector q + sum) ≡ true
sum_is_selected q sum within on =
    let v = first_sum_selector q + sum in
    let place : v - first_sum_selector q ≡ sum = omega arith in
    selects_sum q v (omega arith) ∙ ap (is_sum_kept q) place ∙ and_from (nat_lt sum (length (sum_places q))) (flag_of q.kept (sum_places q) sum) (lt-ltb sum (length (sum_places q)) within) on

is_positive_selected : (q : Problem) (lit v : ℕ) → lit ≡ is_so v → is_selected q v ≡ true → (not (is_negative lit) && is_selected q (variable_of lit)) ≡ true
is_positive_selected q lit v is on =
    let sign : is_negative lit ≡ false = ap is_negative is ∙ is_negative-literal_of v false in
    let variable : variable_of lit ≡ v = ap variable_of is ∙ variable_of-literal_of v false in
    and_from (not (is_negative lit)) (is_selected q (variable_of lit)) (not_from_false (is_negative lit) sign) (ap (is_selected q) variable ∙ on)

there_is_selected : (q : Problem) (lit : ℕ) → In lit (selectors_of q []) → (not (is_negative lit) && is_selected q (variable_of lit)) ≡ true
there_is_selected q lit i = elim (from_selectors q [] lit i) [
  | inl r ↦ is_positive_selected q lit (concept_count q + 3 * r.pair + region_number r.region) r.is
      (region_is_selected q r.pair r.region r.within (subst (λ x. Forces (allowed x (pair_at q r.pair)) r.region false) (at_empty q) r.forced))
  | inr t ↦ is_positive_selected q lit (first_sum_selector q + t.sum) t.is (sum_is_selected q t.sum t.within t.on)
]

-- and one that is selected is there
selected_is_there : (q : Problem) (v : ℕ) → is_selected q v ≡ true → In (is_so v) (selectors_of q [])
selected_is_there q v h = concept (nat_lt v (concept_count q)) refl h
  where
    sum : nat_lt v (first_sum_selector q) ≡ false → is_sum_kept q (v - first_sum_selector q) ≡ true → In (is_so v) (selectors_of q [])
    sum past h =
        let parts = and_parts (nat_lt (v - first_sum_selector q) (length (sum_places q))) (flag_of q.kept (sum_places q) (v - first_sum_selector q)) h in
        let above = ltb-false v (first_sum_selector q) past in
        let same : first_sum_selector q + (v - first_sum_selector q) ≡ v = omega arith in
        subst (λ x. In (is_so x) (selectors_of q [])) same (In-sum_selectors q [] (v - first_sum_selector q) (ltb-true (v - first_sum_selector q) (length (sum_places q)) parts.0) parts.1)

    region : nat_lt v (concept_count q) ≡ false → nat_lt v (first_sum_selector q) ≡ true → is_emptied q ((v - concept_count q) / 3) ((v - concept_count q) % 3) ≡ true →
        In (is_so v) (selectors_of q [])
    region past below h =
        let low : concept_count q ≤ v = ltb-false v (concept_count q) past in
        let high : v < first_sum_selector q = ltb-true v (first_sum_selector q) below in
        let k = (v - concept_count q) / 3 in
        let part = (v - concept_count q) % 3 in
        let within : k < pair_count q = omega arith in
        let again : region_number (region_with part) ≡ part = part_again part (omega arith) in
        let same : concept_count q + 3 * k + region_number (region_with part) ≡ v = omega arith in
        let forced : Forces (allowed q (pair_at q k)) (region_with part) false = record { same = h } in
        subst (λ x. In (is_so x) (selectors_of q [])) same
        (In-region_selectors q [] k (region_with part) within (subst (λ x. Forces (allowed x (pair_at q k)) (region_with part) false) (sym (at_empty q)) forced))

    selector : (b : Bool) → nat_lt v (first_sum_selector q) ≡ b → nat_lt v (concept_count q) ≡ false →
        cond b (is_emptied q ((v - concept_count q) / 3) ((v - concept_count q) % 3)) (is_sum_kept q (v - first_sum_selector q)) ≡ true → In (is_so v) (selectors_of q [])
    selector true e past h = region past e h
    selector false e past h = sum e h

    concept : (b : Bool) → nat_lt v (concept_count q) ≡ b →
        cond b false (cond (nat_lt v (first_sum_selector q)) (is_emptied q ((v - concept_count q) / 3) ((v - concept_count q) % 3)) (is_sum_kept q (v - first_sum_selector q))) ≡ true →
        In (is_so v) (selectors_of q [])
    concept true e h = absurd (true≢false (sym h))
    concept false e h = selector (nat_lt v (first_sum_selector q)) refl e h

selectors_by_variable : (q : Problem) (lit : ℕ) → has_lit (selectors_of q []) lit ≡ (not (is_negative lit) && is_selected q (variable_of lit))
selectors_by_variable q lit =
    same_tests (has_lit (selectors_of q []) lit) (not (is_negative lit) && is_selected q (variable_of lit)) (λ h. there_is_selected q lit (in_has (selectors_of q []) lit h)) back
  where
    back : (not (is_negative lit) && is_selected q (variable_of lit)) ≡ true → has_lit (selectors_of q []) lit ≡ true
    back h =
        let parts = and_parts (not (is_negative lit)) (is_selected q (variable_of lit)) h in
        let same = positive_is lit (not-true (is_negative lit) parts.0) in
        has_in (selectors_of q []) lit (subst (λ l. In l (selectors_of q [])) same (selected_is_there q (variable_of lit) parts.1))

-- a literal is in two lists where it is in one of them
in_either : (a b : List ℕ) (lit : ℕ) → has_lit (a ++ b) lit ≡ (has_lit a lit || has_lit b lit)
in_either [] b lit = refl
in_either (l ∷ a) b lit = ap (λ x. (l == lit) || x) (in_either a b lit) ∙ regroup (l == lit) (has_lit a lit) (has_lit b lit)
  where
    regroup : (x y z : Bool) → (x || (y || z)) ≡ ((x || y) || z)
    regroup true y z = refl
    regroup false y z = refl

asked_by_literal : (q : Problem) (need : Need) (lit : ℕ) → has_lit (asked_of q [] need) lit ≡ is_asked q need lit
asked_by_literal q need lit = in_either (selectors_of q []) (need_lits need) lit ∙ ap (λ b. b || has_lit (need_lits need) lit) (selectors_by_variable q lit)

closed_by_literal : (q : Problem) (need : Need) (clause : List ℕ) → is_closed q need clause ≡ list_all (λ lit. is_asked q need (negation_of lit)) clause
closed_by_literal q need [] = refl
closed_by_literal q need (lit ∷ clause) =
    ap (λ b. b && is_closed q need clause) (asked_by_literal q need (negation_of lit)) ∙ ap (λ b. is_asked q need (negation_of lit) && b) (closed_by_literal q need clause)

pub asked_by_literal_law : AskedByLiteral
asked_by_literal_law = record { literal = asked_by_literal; clause = closed_by_literal }
