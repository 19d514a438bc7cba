-- A node's problem is its parent's with one pair narrowed.
use Rattle.std.proofs.Common.{◌≡◌, ℕ, ◌<◌, true, false, ◌&&◌, cond, List, [], ◌∷◌, ◌++◌, map, length, get_or, ◌⊎◌, inl, inr, refl, sym, ap, ◌∙◌, arith, append_assoc, append-nil}
use Rattle.std.specs.Prelude.{filter, filter_map}
use Rattle.std.proofs.lemmas.Bool.{cases_Bool}
use Rattle.std.proofs.Math.Bool.{and-true}
use Rattle.std.proofs.lemmas.List.{map-append}
use Rattle.std.proofs.lemmas.List.Folds.{list_all-append}
use Rattle.rcc5_core.specs.declared.Rel.{Rel}
use Rattle.rcc5_core.specs.declared.Rel.TheVariants.{Equals, Includes, IncludedIn, Overlaps, Disjoint}
use Rattle.rcc5_core.specs.declared.RelSet.{RelSet}
use Rattle.rcc5_core.specs.RelationSet.{has, only, both_of}
use Rattle.world_model.specs.Problem.{Problem, Constraint, constraints, kept_articulations, as_constraint, narrowed}
use Rattle.world_model.specs.Alive.{is_about, meet_of, allowed, narrowings_at}
use Rattle.world_model.proofs.PointWhole.{has-both_of, has-meet_of, about_is, about_from}
use Rattle.constraint_set.proofs.Lists.{filter-append}
use Rattle.cert_rules.specs.Trees.{Branching, node_problem}
use Rattle.cert_rules.specs.NodeProblems.{level_at, ChildrenNarrow}

-- a position's narrowings with one more relation
narrowings_more : (levels : List (ℕ × ℕ)) (m : List Rel) (rel : Rel) → length m < length levels →
    narrowings_at levels (m ++ rel ∷ []) ≡ narrowings_at levels m ++ record { left = (get_or levels (length m) (0, 0)).0; right = (get_or levels (length m) (0, 0)).1; set = only rel } ∷ []
narrowings_more [] m rel short = absurd (omega arith)
narrowings_more (pair ∷ []) [] rel short = refl
narrowings_more (pair ∷ (next ∷ levels)) [] rel short = refl
narrowings_more (pair ∷ levels) (r ∷ m) rel short =
    let rest = narrowings_more levels m rel (omega arith) in λ i. record { left = pair.0; right = pair.1; set = only r } ∷ rest i

narrowings_none : (levels : List (ℕ × ℕ)) → narrowings_at levels [] ≡ []
narrowings_none [] = refl
narrowings_none (pair ∷ levels) = refl

root : (tree : Branching) → node_problem tree [] ≡ tree.subject
root tree =
    ap {B = Problem} (λ ns. record tree.subject { narrowings = ns }) (ap (λ ns. tree.subject.narrowings ++ ns) (narrowings_none tree.levels) ∙ append-nil tree.subject.narrowings)

child : (tree : Branching) (m : List Rel) (rel : Rel) → length m < length tree.levels →
    node_problem tree (m ++ rel ∷ []) ≡ narrowed (node_problem tree m) (level_at tree (length m)) (only rel)
child tree m rel short =
    ap {B = Problem} (λ ns. record tree.subject { narrowings = ns })
    (ap (λ ns. tree.subject.narrowings ++ ns) (narrowings_more tree.levels m rel short) ∙ sym (append_assoc tree.subject.narrowings (narrowings_at tree.levels m) _))

-- sets with the same relations are one
same_sets : (a b : RelSet) → ((rel : Rel) → has a rel ≡ has b rel) → a ≡ b
same_sets a b same =
    let e : a.equals ≡ b.equals = same Equals in
    let i : a.includes ≡ b.includes = same Includes in
    let n : a.included_in ≡ b.included_in = same IncludedIn in
    let o : a.overlaps ≡ b.overlaps = same Overlaps in
    let d : a.disjoint ≡ b.disjoint = same Disjoint in
    λ j. record { equals = e j; includes = i j; included_in = n j; overlaps = o j; disjoint = d j }

-- what statements say of a pair, with one more
abbrev said : ℕ × ℕ → List Constraint → RelSet
said pair cs = meet_of (map (λ c. c.set) (filter (is_about pair) cs))

meet_more : (sets : List RelSet) (set : RelSet) → meet_of (sets ++ set ∷ []) ≡ both_of (meet_of sets) set
meet_more sets set = same_sets (meet_of (sets ++ set ∷ [])) (both_of (meet_of sets) set) (λ rel.
    has-meet_of (sets ++ set ∷ []) rel ∙ list_all-append (λ set. has set rel) sets (set ∷ []) ∙ sym (ap (λ b. b && (has set rel && true)) (has-meet_of sets rel)) ∙
    ap (λ b. has (meet_of sets) rel && b) (and-true (has set rel)) ∙ sym (has-both_of (meet_of sets) set rel))

said_own : (pair : ℕ × ℕ) (cs : List Constraint) (c : Constraint) → is_about pair c ≡ true → said pair (cs ++ c ∷ []) ≡ both_of (said pair cs) c.set
said_own pair cs c about =
    ap (λ list. meet_of (map (λ c. c.set) list)) (filter-append (is_about pair) cs (c ∷ [])) ∙
    ap (λ b. meet_of (map (λ c. c.set) (filter (is_about pair) cs ++ cond b (c ∷ []) []))) about ∙
    ap meet_of (map-append (λ (x : Constraint). x.set) (filter (is_about pair) cs) (c ∷ [])) ∙ meet_more (map (λ c. c.set) (filter (is_about pair) cs)) c.set

said_other : (pair : ℕ × ℕ) (cs : List Constraint) (c : Constraint) → is_about pair c ≡ false → said pair (cs ++ c ∷ []) ≡ said pair cs
said_other pair cs c other =
    ap (λ list. meet_of (map (λ c. c.set) list)) (filter-append (is_about pair) cs (c ∷ [])) ∙
    ap (λ b. meet_of (map (λ c. c.set) (filter (is_about pair) cs ++ cond b (c ∷ []) []))) other ∙
    ap (λ list. meet_of (map (λ c. c.set) list)) (append-nil (filter (is_about pair) cs))

-- the statement that a narrowing is, at the end of the others
narrowed_says : (q : Problem) (pair : ℕ × ℕ) (set : RelSet) →
    constraints (narrowed q pair set) ≡ constraints q ++ record { left = pair.0; right = pair.1; set = set } ∷ []
narrowed_says q pair set = sym (append_assoc (filter_map as_constraint (kept_articulations q)) q.narrowings (record { left = pair.0; right = pair.1; set = set } ∷ []))

own : (q : Problem) (pair : ℕ × ℕ) (set : RelSet) → allowed (narrowed q pair set) pair ≡ both_of (allowed q pair) set
own q pair set =
    let c : Constraint = record { left = pair.0; right = pair.1; set = set } in
    ap (said pair) (narrowed_says q pair set) ∙ said_own pair (constraints q) c (about_from pair c refl refl)

others : (q : Problem) (pair other : ℕ × ℕ) (set : RelSet) → (other ≡ pair → ⊥) → allowed (narrowed q pair set) other ≡ allowed q other
others q pair other set apart =
    let c : Constraint = record { left = pair.0; right = pair.1; set = set } in
    ap (said other) (narrowed_says q pair set) ∙ said_other other (constraints q) c (elsewhere c refl refl (cases_Bool (is_about other c)))
  where
    elsewhere : (c : Constraint) → c.left ≡ pair.0 → c.right ≡ pair.1 → (is_about other c ≡ true) ⊎ (is_about other c ≡ false) → is_about other c ≡ false
    elsewhere c l r (inl about) =
        let e = about_is other c about in
        absurd (apart (ap {B = ℕ × ℕ} (λ a. (a, other.1)) (sym e.0 ∙ l) ∙ ap {B = ℕ × ℕ} (λ b. (pair.0, b)) (sym e.1 ∙ r)))
    elsewhere c l r (inr not_about) = not_about

pub children_narrow_law : ChildrenNarrow
children_narrow_law = record { root = root; child = child; own = own; others = others }
