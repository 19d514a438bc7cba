-- What a line of a tree shows of its node: that no family has a table below it, or that one has the node itself as its table.
use Rattle.std.proofs.Common.{◌≡◌, ℕ, ◌+◌, ◌*◌, ◌-◌, ◌/◌, ◌%◌, ◌<◌, ◌≤◌, Bool, true, false, not, ◌&&◌, cond, List, [], ◌∷◌, ◌++◌, take, Option, Some, None, inl, inr, refl, sym, ap, ◌∙◌, subst, arith}
use Rattle.std.specs.Prelude.{nat_lt, ◌==◌, filter_map}
use Rattle.std.specs.List.{list_all}
use Rattle.std.proofs.lemmas.Bool.{true≢false, and_parts, and_from, or_cases, ltb-true, ltb-false, lt-ltb, eqb-true, not-true}
use Rattle.std.proofs.lemmas.List.Folds.{list_all-append}
use Rattle.rcc5_core.specs.declared.Rel.{Rel}
use Rattle.rcc5_core.specs.RelationSet.{has, only, is_empty_set}
use Rattle.rcc5_core.specs.Relation.{relation_of}
use Rattle.lits_core.specs.Literals.{negation_of, lit_true, clause_true, meets_all}
use Rattle.lits_core.specs.Derivation.{State, live_clause, has_lit, DerivedFollow}
use Rattle.lits_core.proofs.LiteralLemmas.{lit_true-negation}
use Rattle.lits_core.proofs.DerivationLemmas.{live-true}
use Rattle.world_model.specs.Problem.{Problem, Constraint, pairs, pair_count, concept_count, constraints, kept_articulations, as_constraint, is_problem, is_about_pair, is_concept}
use Rattle.world_model.specs.Family.{Family, set_of, holds, meets}
use Rattle.world_model.specs.Alive.{Need, InRegion, InConcept, allowed, IsAlive, narrowings_at, is_point, is_in_need}
use Rattle.world_model.specs.Listing.{Begins}
use Rattle.world_model.specs.Node.{pair_at}
use Rattle.world_model.proofs.Members.{In, here, there, all_at, all_from, In-get_or, In-left, In-right, from_append, contains_from_in}
use Rattle.world_model.proofs.PointRules.{met_parts, met_whole}
use Rattle.world_model.proofs.PointPairs.{In-concepts, from_pairs}
use Rattle.world_model.proofs.PointAlive.{IsNeed, In-needs}
use Rattle.world_model.proofs.PointPositions.{has-only}
use Rattle.world_model.proofs.PointOnce.{at_empty}
use Rattle.constraint_set.specs.Facts.{IsBuilt}
use Rattle.point_encode.specs.Model.Clauses.{given_clauses}
use Rattle.point_encode.specs.Model.Forced.{region_with, selectors_of, need_count, need_at, need_with, need_lits, asked_of}
use Rattle.point_encode.specs.Model.Laws.{Extends}
use Rattle.point_encode.proofs.model.Witness.{bits_of}
use Rattle.point_encode.proofs.model.NeedLiterals.{need_truth}
use Rattle.cert_rules.specs.declared.RejectKind.{RejectKind}
use Rattle.cert_rules.specs.Trees.{table_along, is_forced, is_closed, need_fault, clause_fault, point_fault, pair_fault}
use Rattle.cert_rules.proofs.Nexts.{begins_parts}

-- a problem with other flags and narrowings is one, as far as these fit
pub built_with : (p : Problem) (kept : List Bool) (ns : List Constraint) → IsBuilt p → is_problem (record p { kept = kept; narrowings = ns }) ≡ true →
    IsBuilt (record p { kept = kept; narrowings = ns })
built_with p kept ns b valid = record {
  valid = valid;
  made = (b.made.0, record { can = b.made.1.can; forests_hold = b.made.1.forests_hold; made = b.made.1.made });
  two = b.two;
  eight = b.eight;
  concepts = b.concepts;
  few = b.few;
  said = b.said;
  owners_ascend = b.owners_ascend;
  names_apart = b.names_apart;
  parents_within = b.parents_within;
  listed = b.listed;
  once = b.once;
  no_cycle = b.no_cycle;
}

-- narrowings of pairs are about pairs
narrowings_are_pairs : (p : Problem) (levels : List (ℕ × ℕ)) (m : List Rel) → ((pair : ℕ × ℕ) → In pair levels → In pair (pairs p)) →
    list_all (is_about_pair p) (narrowings_at levels m) ≡ true
narrowings_are_pairs p [] m each = refl
narrowings_are_pairs p (q ∷ qs) [] each = refl
narrowings_are_pairs p (q ∷ qs) (rel ∷ m) each =
    let pair = from_pairs p q (each q (here refl)) in
    and_from (nat_lt q.0 q.1 && is_concept p q.1) (list_all (is_about_pair p) (narrowings_at qs m))
    (and_from (nat_lt q.0 q.1) (is_concept p q.1) (lt-ltb q.0 q.1 pair.order) (lt-ltb q.1 (concept_count p) pair.within))
    (narrowings_are_pairs p qs m (λ r i. each r (there i)))

-- the problem at a node is one
pub built_at : (p : Problem) (levels : List (ℕ × ℕ)) (m : List Rel) → IsBuilt p → ((pair : ℕ × ℕ) → In pair levels → In pair (pairs p)) →
    IsBuilt (record p { narrowings = p.narrowings ++ narrowings_at levels m })
built_at p levels m b each =
    let parts = and_parts _ (list_all (is_about_pair p) p.narrowings) b.valid in
    built_with p p.kept (p.narrowings ++ narrowings_at levels m) b
    (and_from _ (list_all (is_about_pair p) (p.narrowings ++ narrowings_at levels m)) parts.0
    (list_all-append (is_about_pair p) p.narrowings (narrowings_at levels m) ∙
    and_from (list_all (is_about_pair p) p.narrowings) (list_all (is_about_pair p) (narrowings_at levels m)) parts.1 (narrowings_are_pairs p levels m each)))

-- a family keeps the narrowings by what its table begins with
begins_holds : (f : Family) (levels : List (ℕ × ℕ)) (m : List Rel) → Begins m (table_along levels f) → list_all (holds f) (narrowings_at levels m) ≡ true
begins_holds f [] m begins = refl
begins_holds f (q ∷ qs) [] begins = refl
begins_holds f (q ∷ qs) (rel ∷ m) begins =
    let rel_in = relation_of (set_of f q.0) (set_of f q.1) in
    let parts = begins_parts rel rel_in m (table_along qs f) begins in
    let rest = begins_holds f qs m parts.1 in
    and_from (has (only rel) rel_in) (list_all (holds f) (narrowings_at qs m)) (subst (λ r. has (only rel) r ≡ true) parts.0 (has-only rel)) rest

-- so it meets the problem at a node with which its table begins
pub met_at_node : (p : Problem) (levels : List (ℕ × ℕ)) (m : List Rel) (f : Family) → meets p f ≡ true → Begins m (table_along levels f) →
    meets (record p { narrowings = p.narrowings ++ narrowings_at levels m }) f ≡ true
met_at_node p levels m f met begins =
    let q = record p { narrowings = p.narrowings ++ narrowings_at levels m } in
    let parts = met_parts p f met in
    met_whole q f (record {
      fits = parts.fits;
      within = parts.within;
      apart = parts.apart;
      covered = parts.covered;
      nonempty = parts.nonempty;
      said = all_from (holds f) (constraints q) (λ c i. elim (from_append (filter_map as_constraint (kept_articulations p)) i) [
        | inl stated ↦ all_at (holds f) parts.said (In-left p.narrowings stated)
        | inr rest ↦ elim (from_append p.narrowings rest) [
          | inl narrowed ↦ all_at (holds f) parts.said (In-right (filter_map as_constraint (kept_articulations p)) narrowed)
          | inr added ↦ all_at (holds f) (begins_holds f levels m begins) added
        ]
      ]);
      summed = parts.summed;
    })

-- a pair that allows nothing leaves no table
pub pair_leaf : (q : Problem) (pair : ℕ) → pair_fault q pair ≡ None → IsAlive q → ⊥
pair_leaf q pair none alive = by (nat_lt pair (pair_count q) && is_empty_set (allowed q (pair_at q pair))) refl none
  where
    by : (b : Bool) → (nat_lt pair (pair_count q) && is_empty_set (allowed q (pair_at q pair))) ≡ b → cond b None (Some RejectKind.PairNotEmpty) ≡ None → ⊥
    by false e none = cc
    by true e none =
        let parts = and_parts (nat_lt pair (pair_count q)) (is_empty_set (allowed q (pair_at q pair))) e in
        let some = all_at (λ pair. not (is_empty_set (allowed q pair))) alive.allow (In-get_or (pairs q) pair (0, 0) (ltb-true pair (pair_count q) parts.0)) in
        true≢false (sym parts.1 ∙ not-true (is_empty_set (allowed q (pair_at q pair))) some)

-- what it means that a need has no point by a clause
pub record IsRefuted (q : Problem) (proof : State) (number id : ℕ) : Type 0 where
  pub need : Need
  pub named : need_with q number ≡ Some need
  pub forced : is_forced q need ≡ true
  pub clause : List ℕ
  pub live : live_clause proof id ≡ Some clause
  pub closed : is_closed q need clause ≡ true

pub point_parts : (q : Problem) (proof : State) (number id : ℕ) → point_fault q proof number id ≡ None → IsRefuted q proof number id
point_parts q proof number id none = by (need_with q number) (live_clause proof id) refl refl none
  where
    clause_by : (need : Need) (clause : List ℕ) (b : Bool) → need_with q number ≡ Some need → is_forced q need ≡ true → live_clause proof id ≡ Some clause → is_closed q need clause ≡ b →
        cond b None (Some RejectKind.LiteralNotForced) ≡ None → IsRefuted q proof number id
    clause_by need clause false n f l c none = cc
    clause_by need clause true n f l c none = record { need = need; named = n; forced = f; clause = clause; live = l; closed = c }

    forced_by : (need : Need) (c : Option (List ℕ)) (b : Bool) → need_with q number ≡ Some need → live_clause proof id ≡ c → is_forced q need ≡ b →
        cond b (clause_fault q need c) (Some RejectKind.NeedNotForced) ≡ None → IsRefuted q proof number id
    forced_by need c false n l f none = cc
    forced_by need None true n l f none = cc
    forced_by need (Some clause) true n l f none = clause_by need clause (is_closed q need clause) n f l refl none

    by : (o : Option Need) (c : Option (List ℕ)) → need_with q number ≡ o → live_clause proof id ≡ c → need_fault q o c ≡ None →
        IsRefuted q proof number id
    by None c n l none = cc
    by (Some need) c n l none = forced_by need c (is_forced q need) n l refl none

-- a need with a number that is forced is one of the needs
pub forced_is_need : (q : Problem) (number : ℕ) (need : Need) → need_with q number ≡ Some need → is_forced q need ≡ true → IsNeed q need
forced_is_need q number need named forced = there (nat_lt number (need_count q)) refl named
  where
    kind : (b : Bool) → nat_lt number (3 * pair_count q) ≡ b → number < 3 * pair_count q + concept_count q →
        cond b (InRegion (pair_at q (number / 3)) (region_with (number % 3))) (InConcept (number - 3 * pair_count q)) ≡ need → IsNeed q need
    kind false e within is =
        let above : 3 * pair_count q ≤ number = ltb-false number (3 * pair_count q) e in
        subst (IsNeed q) is (subst (λ x. is_forced q x ≡ true) (sym is) forced, In-concepts q (number - 3 * pair_count q) (omega arith))
    kind true e within is =
        let below : number < 3 * pair_count q = ltb-true number (3 * pair_count q) e in
        let inside : number / 3 < pair_count q = omega arith in
        subst (IsNeed q) is (In-get_or (pairs q) (number / 3) (0, 0) inside, record { same = subst (λ x. is_forced q x ≡ true) (sym is) forced })

    there : (b : Bool) → nat_lt number (need_count q) ≡ b → cond b (Some (need_at q number)) None ≡ Some need → IsNeed q need
    there false e n = cc
    there true e n = let is : need_at q number ≡ need = cc in kind (nat_lt number (3 * pair_count q)) refl (ltb-true number (need_count q) e) is

-- where a literal's negation is one of true literals, it is false
false_literal : (bits : List Bool) (lits : List ℕ) (lit : ℕ) → list_all (lit_true bits) lits ≡ true → has_lit lits (negation_of lit) ≡ true → lit_true bits lit ≡ false
false_literal bits lits lit all_true there_is = flipped (lit_true bits lit) (sym (lit_true-negation bits lit) ∙ held lits all_true there_is)
  where
    held : (ls : List ℕ) → list_all (lit_true bits) ls ≡ true → has_lit ls (negation_of lit) ≡ true → lit_true bits (negation_of lit) ≡ true
    held [] a h = absurd (true≢false (sym h))
    held (l ∷ ls) a h =
        let parts = and_parts (lit_true bits l) (list_all (lit_true bits) ls) a in
        elim (or_cases (l == negation_of lit) (has_lit ls (negation_of lit)) h) [
          | inl same ↦ ap (lit_true bits) (sym (eqb-true l (negation_of lit) same)) ∙ parts.0
          | inr later ↦ held ls parts.1 later
        ]

    flipped : (b : Bool) → not b ≡ true → b ≡ false
    flipped true h = absurd (true≢false (sym h))
    flipped false h = refl

-- a closed clause is false where all that is asked is true
closed_is_false : (bits : List Bool) (asked clause : List ℕ) → list_all (lit_true bits) asked ≡ true → list_all (λ lit. has_lit asked (negation_of lit)) clause ≡ true →
    clause_true bits clause ≡ true → ⊥
closed_is_false bits asked [] a c t = true≢false (sym t)
closed_is_false bits asked (lit ∷ clause) a c t =
    let parts = and_parts (has_lit asked (negation_of lit)) (list_all (λ lit. has_lit asked (negation_of lit)) clause) c in
    elim (or_cases (lit_true bits lit) (clause_true bits clause) t) [
      | inl now ↦ true≢false (sym now ∙ false_literal bits asked lit a parts.0)
      | inr later ↦ closed_is_false bits asked clause a parts.1 later
    ]

-- what makes two lists of literals true makes both together true
both_true : (bits : List Bool) (a b : List ℕ) → list_all (lit_true bits) a ≡ true → list_all (lit_true bits) b ≡ true → list_all (lit_true bits) (a ++ b) ≡ true
both_true bits a b h k = list_all-append (lit_true bits) a b ∙ and_from (list_all (lit_true bits) a) (list_all (lit_true bits) b) h k

-- a live clause that closes a forced need leaves it no point
pub point_leaf : (q : Problem) (proof : State) (number id : ℕ) → IsBuilt q → proof.given ≡ given_clauses q → DerivedFollow proof →
    point_fault q proof number id ≡ None → IsAlive q → ⊥
point_leaf q proof number id built given follow none alive =
    let r = point_parts q proof number id none in
    let point = alive.points r.need (contains_from_in (In-needs q r.need (forced_is_need q number r.need r.named r.forced))) in
    let found = bits_of q built [] point.0 (subst (λ x. is_point x point.0 ≡ true) (sym (at_empty q)) point.1) in
    let bits = found.0 in
    let e : Extends q [] point.0 bits = found.1 in
    let in_need : is_in_need r.need (take (concept_count q) bits) ≡ true = ap (is_in_need r.need) e.front ∙ point.2 in
    let lits : list_all (lit_true bits) (need_lits r.need) ≡ true = (need_truth q r.need bits (number, r.named)).1 in_need in
    let asked : list_all (lit_true bits) (asked_of q [] r.need) ≡ true = both_true bits (selectors_of q []) (need_lits r.need) e.selected lits in
    let given_true : meets_all bits proof.given ≡ true = ap (meets_all bits) given ∙ e.given in
    closed_is_false bits (asked_of q [] r.need) r.clause asked r.closed (live-true proof bits given_true (follow bits given_true) id r.clause r.live)
