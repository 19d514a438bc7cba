-- What a walk leaves: no table of a family that meets the problem comes before its node. At a full node each pair allows a whole set.
use Rattle.std.proofs.Common.{◌≡◌, ℕ, Bool, true, false, not, ◌||◌, List, [], ◌∷◌, ◌++◌, length, ◌⊎◌, inl, inr, Option, Some, None, refl, sym, ap, ◌∙◌, subst, arith, append_assoc, append-nil}
use Rattle.std.specs.Prelude.{filter_map}
use Rattle.std.proofs.lemmas.Bool.{true≢false, not-true, cases_Bool, ne_eqb}
use Rattle.rcc5_core.specs.declared.Rel.{Rel}
use Rattle.rcc5_core.specs.RelationSet.{only, is_empty_set}
use Rattle.rcc5_core.specs.Region.{is_whole_set}
use Rattle.world_model.specs.Problem.{Problem, Constraint, pairs, constraints, kept_articulations, as_constraint, narrowed}
use Rattle.world_model.specs.Family.{Family, holds, meets}
use Rattle.world_model.specs.Alive.{allowed, all_allow, all_whole, narrowings_at}
use Rattle.world_model.specs.Questions.{IsMet}
use Rattle.world_model.specs.Listing.{is_below}
use Rattle.world_model.proofs.Members.{In, here, there, none_in, all_at, all_from, In-left, In-right, from_append, from_filter, In-filter}
use Rattle.world_model.proofs.OrderLists.{IsExactly, Between, between_parts, between_from}
use Rattle.world_model.proofs.PointRules.{met_parts, met_whole}
use Rattle.world_model.proofs.PointWhole.{single_is_whole, allows_at, about_from}
use Rattle.constraint_set.specs.Facts.{IsBuilt}
use Rattle.point_encode.specs.Model.Clauses.{given_clauses}
use Rattle.cert_rules.specs.Trees.{node_problem, table_along, sets_of}
use Rattle.cert_rules.specs.ClaimLists.{split_pairs}
use Rattle.cert_rules.proofs.Nexts.{next_after, below_nothing}
use Rattle.cert_rules.proofs.NodeProblems.{children_narrow_law}
use Rattle.cert_rules.proofs.Sound.{IsTableOf, IsBranchingOf, past_leaf, past_branch, dead_below}
use Rattle.split_search.specs.declared.visit.Visit.TheVariants.{Past}
use Rattle.split_search.specs.Walking.{split_tree, next_node, IsVisit, IsPast}

-- whether a pair is split
abbrev is_split : Problem → ℕ × ℕ → Bool
is_split q pair = not (is_empty_set (allowed q pair) || is_whole_set (allowed q pair))

split_tree_is : (q : Problem) → IsBuilt q → IsBranchingOf (split_tree q) (given_clauses q)
split_tree_is q built = record { built = built; clauses = refl; levels = λ pair i. (from_filter (is_split q) (pairs q) i).0; room = omega arith }

-- no table of a family that meets the problem comes before a node, or there is none at all
abbrev pub NoTables : Problem → Option (List Rel) → Type 0
NoTables q at = IsExactly (Between (IsTableOf (split_tree q)) [] at) []

pub no_tables_first : (q : Problem) → NoTables q (Some [])
no_tables_first q = record {
  ascending = refl;
  sound = λ t i. absurd (none_in i);
  complete = λ t w. absurd (below_nothing t (between_parts [] (Some []) t w.1).1);
}

pub no_tables_past : (q : Problem) (m : List Rel) (next : Option (List Rel)) → IsBuilt q → IsPast q m next → NoTables q (Some m) → NoTables q next
no_tables_past q m next built past old = subst (NoTables q) past.next_is (by past.branches past.seen)
  where
    by : (branches : Bool) → IsVisit q m (Past branches) → NoTables q (next_node q branches m)
    by true room = past_branch (split_tree q) (given_clauses q) m [] (split_tree_is q built) old (ne_eqb (length m) (length (split_pairs q)) (λ same. absurd (omega (arith, room, same))))
    by false dead = past_leaf (split_tree q) (given_clauses q) m [] (split_tree_is q built) old (dead_below (split_tree q) m dead)

pub no_tables_end : (q : Problem) → NoTables q None → IsMet q → ⊥
no_tables_end q none met =
    let t = table_along (split_pairs q) met.0 in
    none_in (none.complete t ((met.0, met.1, refl), between_from [] None t (low t) refl))
  where
    low : (t : List Rel) → is_below t [] ≡ false
    low [] = refl
    low (r ∷ t) = refl

-- the next node comes after the last
pub past_after : (q : Problem) (m n : List Rel) → IsPast q m (Some n) → is_below m n ≡ true
past_after q m n past = next_after (sets_of (split_tree q)) [] past.branches m n past.next_is

-- a problem narrowed along a path
abbrev along : Problem → List (ℕ × ℕ) → List Rel → Problem
along q levels m = record q { narrowings = q.narrowings ++ narrowings_at levels m }

along_more : (q : Problem) (pair : ℕ × ℕ) (levels : List (ℕ × ℕ)) (rel : Rel) (m : List Rel) → along q (pair ∷ levels) (rel ∷ m) ≡ along (narrowed q pair (only rel)) levels m
along_more q pair levels rel m =
    ap {B = Problem} (λ ns. record q { narrowings = ns }) (sym (append_assoc q.narrowings (record { left = pair.0; right = pair.1; set = only rel } ∷ []) (narrowings_at levels m)))

no_more : (q : Problem) (pair : ℕ × ℕ) → allowed (record q { narrowings = q.narrowings ++ [] }) pair ≡ allowed q pair
no_more q pair = ap (λ ns. allowed (record q { narrowings = ns }) pair) (append-nil q.narrowings)

-- a pair off the path is not narrowed
untouched : (q : Problem) (levels : List (ℕ × ℕ)) (m : List Rel) (pair : ℕ × ℕ) → (In pair levels → ⊥) → allowed (along q levels m) pair ≡ allowed q pair
untouched q [] m pair apart = no_more q pair
untouched q (level ∷ levels) [] pair apart = no_more q pair
untouched q (level ∷ levels) (rel ∷ m) pair apart =
    ap (λ q. allowed q pair) (along_more q level levels rel m)
    ∙ untouched (narrowed q level (only rel)) levels m pair (λ i. apart (there i))
    ∙ children_narrow_law.others q level pair (only rel) (λ same. apart (here same))

-- a pair that a full path narrows, with its relation
record IsNarrowed (levels : List (ℕ × ℕ)) (m : List Rel) (pair : ℕ × ℕ) : Type 0 where
  rel : Rel
  member : In (record { left = pair.0; right = pair.1; set = only rel }) (narrowings_at levels m)

narrowed_at : (levels : List (ℕ × ℕ)) (m : List Rel) → length m ≡ length levels → (pair : ℕ × ℕ) → In pair levels → IsNarrowed levels m pair
narrowed_at [] m n pair i = elim i [ ]
narrowed_at (level ∷ levels) [] n pair i = absurd (omega arith)
narrowed_at (level ∷ levels) (rel ∷ m) n pair (here e) =
    record { rel = rel; member = here (ap {B = Constraint} (λ (pair : ℕ × ℕ). record { left = pair.0; right = pair.1; set = only rel }) e) }
narrowed_at (level ∷ levels) (rel ∷ m) n pair (there i) =
    let r = narrowed_at levels m (omega arith) pair i in record { rel = r.rel; member = there r.member }

-- at a full node each pair that allows something allows a whole set: a split one allows one relation, and another what it allowed before
pub whole_at_full : (q : Problem) (m : List Rel) → length m ≡ length (split_pairs q) → all_allow (node_problem (split_tree q) m) ≡ true → all_whole (node_problem (split_tree q) m) ≡ true
whole_at_full q m full allow = all_from (λ pair. is_whole_set (allowed (node_problem (split_tree q) m) pair)) (pairs q) (λ pair i. by pair i (cases_Bool (is_split q pair)))
  where
    some : (pair : ℕ × ℕ) → In pair (pairs q) → is_empty_set (allowed (node_problem (split_tree q) m) pair) ≡ false
    some pair i = not-true (is_empty_set (allowed (node_problem (split_tree q) m) pair)) (all_at (λ pair. not (is_empty_set (allowed (node_problem (split_tree q) m) pair))) allow i)

    by : (pair : ℕ × ℕ) → In pair (pairs q) → (is_split q pair ≡ true) ⊎ (is_split q pair ≡ false) → is_whole_set (allowed (node_problem (split_tree q) m) pair) ≡ true
    by pair i (inl split) =
        let one = narrowed_at (split_pairs q) m full pair (In-filter (is_split q) i split) in
        single_is_whole (allowed (node_problem (split_tree q) m) pair) one.rel (some pair i)
        (λ rel h. allows_at (constraints (node_problem (split_tree q) m)) pair rel (record { left = pair.0; right = pair.1; set = only one.rel }) h
        (In-right (filter_map as_constraint (kept_articulations q)) (In-right q.narrowings one.member))
        (about_from pair (record { left = pair.0; right = pair.1; set = only one.rel }) refl refl))
    by pair i (inr unsplit) =
        let same : allowed (node_problem (split_tree q) m) pair ≡ allowed q pair =
        untouched q (split_pairs q) m pair (λ j. true≢false (sym (from_filter (is_split q) (pairs q) j).1 ∙ unsplit)) in
        subst (λ set. is_whole_set set ≡ true) (sym same) (or_whole (is_empty_set (allowed q pair)) (is_whole_set (allowed q pair)) (subst (λ set. is_empty_set set ≡ false) same (some pair i)) unsplit)
      where
        or_whole : (empty whole : Bool) → empty ≡ false → not (empty || whole) ≡ false → whole ≡ true
        or_whole false true none h = refl
        or_whole false false none h = absurd (true≢false h)
        or_whole true whole none h = absurd (true≢false none)

-- what meets the problem of a node meets that of the tree
pub met_above : (q : Problem) (m : List Rel) (f : Family) → meets (node_problem (split_tree q) m) f ≡ true → meets q f ≡ true
met_above q m f met =
    let node = node_problem (split_tree q) m in
    let parts = met_parts node f met in
    met_whole q f (record {
      fits = parts.fits;
      within = parts.within;
      apart = parts.apart;
      covered = parts.covered;
      nonempty = parts.nonempty;
      said = all_from (holds f) (constraints q) (λ c i. all_at (holds f) parts.said (elim (from_append (filter_map as_constraint (kept_articulations q)) i) [
        | inl stated ↦ In-left (q.narrowings ++ narrowings_at (split_pairs q) m) stated
        | inr narrowed ↦ In-right (filter_map as_constraint (kept_articulations q)) (In-left (narrowings_at (split_pairs q) m) narrowed)
      ]));
      summed = parts.summed;
    })
