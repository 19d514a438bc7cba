-- What is written keeps up.
use Rattle.std.proofs.Common.{◌≡◌, ℕ, ◌+◌, ◌<◌, ◌≤◌, Bool, true, false, not, cond, List, [], ◌∷◌, ◌++◌, map, length, Option, Some, None, inl, inr, refl, sym, ap, ◌∙◌, subst, arith, IsTrue}
use Rattle.std.specs.Prelude.{nat_lt, ◌==◌, ◌&&◌, is_none, MatchOption}
use Rattle.std.specs.List.{list_all}
use Rattle.std.specs.Option.{option_map}
use Rattle.std.proofs.lemmas.Bool.{true≢false, cases_Bool, and_parts, and_from, not_from_false, le-ltb, lt-ltb, eqb-true, or_left, or_right, or_cases, eq-eqb}
use Rattle.rcc5_core.specs.declared.Rel.{Rel}
use Rattle.rcc5_core.specs.Relation.{same_rel}
use Rattle.rcc5_core.specs.RelationSet.{is_empty_set}
use Rattle.lits_core.specs.declared.Line.{Line}
use Rattle.lits_core.specs.Literals.{negation_of}
use Rattle.lits_core.specs.Derivation.{State, live_clause, has_lit, line_fault, next_state, state_after, is_valid_derivation, SameGiven, SameDerived, SameState, SameLine}
use Rattle.lits_core.specs.declared.Line.TheVariants.{Derive, Forget}
use Rattle.lits_core.proofs.LiteralSets.{same-line_fault, same-next_state}
use Rattle.lits_core.proofs.DerivationLemmas.{is_none-None}
use Rattle.world_model.specs.declared.Switches.{Switches}
use Rattle.world_model.specs.Problem.{Problem, pair_count, concept_count}
use Rattle.world_model.specs.Family.{Family, table_of}
use Rattle.world_model.specs.Alive.{Need, InRegion, InConcept, allowed, needs, problem_at, forced_pairs, same_bool, IsAlive}
use Rattle.world_model.specs.Node.{pair_at}
use Rattle.world_model.proofs.Members.{In, here, there, in_from_contains, contains_from_in}
use Rattle.world_model.proofs.PointAlive.{IsNeed, from_needs}
use Rattle.world_model.proofs.PointOnce.{at_empty}
use Rattle.point_encode.specs.Model.Clauses.{first_sum_selector}
use Rattle.point_encode.specs.Model.Forced.{need_with, need_lits, region_selectors, sum_selectors, asked_of, IsClosedAt}
use Rattle.constraint_set.specs.Readers.{sum_places}
use Rattle.set_family.specs.Sets.{family_from}
use Rattle.cert_text.specs.declared.line.CertLine.{CertLine}
use Rattle.cert_text.specs.declared.line.CertLine.TheVariants.{Proof, Branch, NoPoint, NoRelation, World, End}
use Rattle.cert_rules.proofs.LiveClauses.{AreAlike, alike_live}
use Rattle.cert_rules.proofs.ClosedClauses.{all_closed}
use Rattle.cert_rules.specs.declared.RejectKind.{RejectKind}
use Rattle.cert_rules.specs.Trees.{Branching, same_position, names, is_branch, is_forced, fault_or, need_fault, clause_fault, point_fault, pair_fault, family_fault, table_fault, world_fault, node_fault, tree_fault, end_fault}
use Rattle.cert_rules.specs.Listings.{Status, Going, Ended, unless, as_kind, Stand, Listed, ForTree, role_of, after_proof, after_node, take_by, step, steps, listing_tree, listing_next, start, same_switches, header_fault, listing_status}
use Rattle.cert_rules.specs.ShownNodes.{AllBranchesAlive}
use Rattle.cert_rules.specs.Writing.{KeepsUp, IsClosedNeed, IsWorldBy, IsSoAt, TellsOf, with_waiting, PutKeepsUp}
use Rattle.world_model.proofs.Relations.{itself}

-- lines, and then more
pub steps_append : (tree : Branching) (status : Status Stand Listed) (a b : List CertLine) → steps tree status (a ++ b) ≡ steps tree (steps tree status a) b
steps_append tree status [] b = refl
steps_append tree status (line ∷ a) b = steps_append tree (step tree status line) a b

pub alive_append : (tree : Branching) (status : Status Stand Listed) (a b : List CertLine) → AllBranchesAlive tree status a → AllBranchesAlive tree (steps tree status a) b →
    AllBranchesAlive tree status (a ++ b)
alive_append tree status [] b h k = k
alive_append tree status (line ∷ a) b h k = (h.0, alive_append tree (step tree status line) a b h.1 k)

-- valid derivation lines lead on
pub record Proves (tree : Branching) (n : ℕ) (s : Stand) (lines : List Line) : Type 0 where
  pub number : ℕ
  pub leads : steps tree (Going n s) (map Proof lines) ≡ Going number (record s { proof = state_after s.proof lines })
  pub alive : AllBranchesAlive tree (Going n s) (map Proof lines)

pub line_leads : (tree : Branching) (n : ℕ) (s : Stand) (line : Line) → line_fault s.proof line ≡ None → step tree (Going n s) (Proof line) ≡ Going (n + 1) (after_proof s line)
line_leads tree n s line none = ap (λ fault. unless (option_map as_kind fault) (n + 1) (Going (n + 1) (after_proof s line))) none

pub proves : (tree : Branching) (n : ℕ) (s : Stand) (lines : List Line) → is_valid_derivation s.proof lines ≡ true → Proves tree n s lines
proves tree n s [] valid = record { number = n; leads = refl; alive = tt }
proves tree n s (line ∷ lines) valid =
    let parts = and_parts (is_none (line_fault s.proof line)) (is_valid_derivation (next_state s.proof line) lines) valid in
    let on = line_leads tree n s line (is_none-None (line_fault s.proof line) parts.0) in
    let more = proves tree (n + 1) (after_proof s line) lines parts.1 in
    record {
      number = more.number;
      leads = ap (λ status. steps tree status (map Proof lines)) on ∙ more.leads;
      alive = (λ none. absurd (true≢false (sym none)), subst (λ status. AllBranchesAlive tree status (map Proof lines)) (sym on) more.alive);
    }

-- states with the same clauses, three in a row
given_trans : (a b c : List (List ℕ)) → SameGiven a b → SameGiven b c → SameGiven a c
given_trans [] [] c h k = k
given_trans [] (y ∷ b) c h k = absurd h
given_trans (x ∷ a) [] c h k = absurd h
given_trans (x ∷ a) (y ∷ b) [] h k = absurd k
given_trans (x ∷ a) (y ∷ b) (z ∷ c) h k = (λ lit. h.0 lit ∙ k.0 lit, given_trans a b c h.1 k.1)

derived_trans : (a b c : List (ℕ × List ℕ)) → SameDerived a b → SameDerived b c → SameDerived a c
derived_trans [] [] c h k = k
derived_trans [] (y ∷ b) c h k = absurd h
derived_trans (x ∷ a) [] c h k = absurd h
derived_trans (x ∷ a) (y ∷ b) [] h k = absurd k
derived_trans (x ∷ a) (y ∷ b) (z ∷ c) h k = (h.0 ∙ k.0, λ lit. h.1 lit ∙ k.1 lit, derived_trans a b c h.2 k.2)

pub same_trans : (a b c : State) → SameState a b → SameState b c → SameState a c
same_trans a b c h k = record {
  same_given = given_trans a.given b.given c.given h.same_given k.same_given;
  same_derived = derived_trans a.derived b.derived c.derived h.same_derived k.same_derived;
}

line_itself : (line : Line) → SameLine line line
line_itself (Derive id lits hints) = (refl, (λ lit. refl), refl)
line_itself (Forget ids) = refl

-- lines that are valid after one state are valid after one with the same clauses, and lead to the same
pub record GoAlike (one other : State) (lines : List Line) : Type 0 where
  pub valid : is_valid_derivation other lines ≡ true
  pub same : SameState (state_after other lines) (state_after one lines)

pub alike : (one other : State) (lines : List Line) → SameState other one → is_valid_derivation one lines ≡ true → GoAlike one other lines
alike one other [] same valid = record { valid = refl; same = same }
alike one other (line ∷ lines) same valid =
    let parts = and_parts (is_none (line_fault one line)) (is_valid_derivation (next_state one line) lines) valid in
    let next = alike (next_state one line) (next_state other line) lines (same-next_state other one line line same (line_itself line)) parts.1 in
    record {
      valid = and_from (is_none (line_fault other line)) (is_valid_derivation (next_state other line) lines)
          (ap is_none (same-line_fault other one line line same (line_itself line)) ∙ parts.0) next.valid;
      same = next.same;
    }

-- valid lines, and then more
pub valid_append : (state : State) (a b : List Line) → is_valid_derivation state a ≡ true → is_valid_derivation (state_after state a) b ≡ true → is_valid_derivation state (a ++ b) ≡ true
valid_append state [] b h k = k
valid_append state (line ∷ a) b h k =
    let parts = and_parts (is_none (line_fault state line)) (is_valid_derivation (next_state state line) a) h in
    and_from (is_none (line_fault state line)) (is_valid_derivation (next_state state line) (a ++ b)) parts.0 (valid_append (next_state state line) a b parts.1 k)

pub after_append : (state : State) (a b : List Line) → state_after state (a ++ b) ≡ state_after (state_after state a) b
after_append state [] b = refl
after_append state (line ∷ a) b = after_append (next_state state line) a b

keeps_goes : (p : Problem) (from : List Rel) (lines : List CertLine) (waiting added : List Line) (one other : State) (at : Option (List Rel)) →
    KeepsUp p from lines waiting one at → IsTrue (is_valid_derivation one added) → SameState (state_after one added) other → KeepsUp p from lines (waiting ++ added) other at
keeps_goes p from lines waiting added one other at k valid same =
    let go = alike one (state_after k.stand.proof waiting) added k.same valid in
    record {
      number = k.number;
      stand = k.stand;
      reached = k.reached;
      expects = k.expects;
      valid = valid_append k.stand.proof waiting added k.valid go.valid;
      same = subst (λ state. SameState state other) (sym (after_append k.stand.proof waiting added))
          (same_trans (state_after (state_after k.stand.proof waiting) added) (state_after one added) other go.same same);
      alive = k.alive;
    }

keeps_flushed : (p : Problem) (from : List Rel) (lines : List CertLine) (waiting : List Line) (state : State) (at : Option (List Rel)) →
    KeepsUp p from lines waiting state at → KeepsUp p from (with_waiting lines waiting) [] state at
keeps_flushed p from lines waiting state at k =
    let tree = listing_tree p from in
    let go = proves tree k.number k.stand waiting k.valid in
    record {
      number = go.number;
      stand = record k.stand { proof = state_after k.stand.proof waiting };
      reached = steps_append tree (Going 1 (start p)) lines (map Proof waiting) ∙ ap (λ status. steps tree status (map Proof waiting)) k.reached ∙ go.leads;
      expects = k.expects;
      valid = refl;
      same = k.same;
      alive = alive_append tree (Going 1 (start p)) lines (map Proof waiting) k.alive (subst (λ status. AllBranchesAlive tree status (map Proof waiting)) (sym k.reached) go.alive);
    }

-- what a line says without a fault
same_with_itself : (m : List Rel) → same_position m m ≡ true
same_with_itself [] = refl
same_with_itself (r ∷ m) = and_from (same_rel r r) (same_position m m) (itself r) (same_with_itself m)

positions_same : (a b : List Rel) → a ≡ b → same_position a b ≡ true
positions_same a b e = subst (λ b. same_position a b ≡ true) e (same_with_itself a)

needed_is_forced : (q : Problem) (need : Need) → IsNeed q need → is_forced q need ≡ true
needed_is_forced q (InRegion pair region) h = h.1.same
needed_is_forced q (InConcept c) h = h.0

-- a clause that is closed at a node is so where the same literals are found
clause_is_closed : (p : Problem) (m : List Rel) (need : Need) (found live : Option (List ℕ)) → AreAlike found live → MatchOption live ⊥ (IsClosedAt p m need) →
    clause_fault (problem_at p m) need found ≡ None
clause_is_closed p m need None None same closed = absurd closed
clause_is_closed p m need None (Some live) same closed = absurd same
clause_is_closed p m need (Some found) None same closed = absurd closed
clause_is_closed p m need (Some found) (Some live) same closed =
    ap (λ b. cond b None (Some RejectKind.LiteralNotForced)) (all_closed p m need live found closed (λ lit h. sym (same lit) ∙ h))

pub point_is_faultless : (p : Problem) (m : List Rel) (proof state : State) (number clause : ℕ) → SameState proof state → IsClosedNeed p state m number clause →
    point_fault (problem_at p m) proof number clause ≡ None
point_is_faultless p m proof state number clause same c =
    let q = problem_at p m in
    let named : need_with q number ≡ Some c.need = c.named in
    let forced = needed_is_forced q c.need (from_needs q c.need (in_from_contains (needs q) c.among)) in
    let closed = clause_is_closed p m c.need (live_clause proof clause) (live_clause state clause) (alike_live proof state clause same) c.closed in
    ap (λ need. need_fault q need (live_clause proof clause)) named ∙ ap (λ b. cond b (clause_fault q c.need (live_clause proof clause)) (Some RejectKind.NeedNotForced)) forced ∙ closed

pub pair_is_faultless : (q : Problem) (pair : ℕ) → pair < pair_count q → is_empty_set (allowed q (pair_at q pair)) ≡ true → pair_fault q pair ≡ None
pair_is_faultless q pair within empty =
    ap (λ b. cond b None (Some RejectKind.PairNotEmpty)) (and_from (nat_lt pair (pair_count q)) (is_empty_set (allowed q (pair_at q pair))) (lt-ltb pair (pair_count q) within) empty)

world_is_faultless : (p : Problem) (from m : List Rel) (f : Family) → IsWorldBy p m f → world_fault (listing_tree p from) m f ≡ None
world_is_faultless p from m f w =
    let tree = listing_tree p from in
    let made : family_from f.universe f.sets ≡ Some f = ap (λ b. cond b (Some f) None) w.sets in
    let met : family_fault p (Some f) ≡ None = ap (λ b. cond b None (Some RejectKind.FamilyDoesNotMeet)) w.met in
    let table : table_fault tree m f ≡ None = ap (λ b. cond b None (Some RejectKind.FamilyHasOtherTable)) (positions_same (table_of p f) m w.table) in
    ap (λ family. fault_or (family_fault p family) (table_fault tree m f)) made ∙ ap (λ fault. fault_or fault (table_fault tree m f)) met ∙ table

pub branch_is_faultless : (m : List Rel) (count : ℕ) → length m < count → cond (length m == count) (Some RejectKind.BranchTooDeep) None ≡ None
branch_is_faultless m count short = elim (cases_Bool (length m == count)) [
  | inl full ↦ let same = eqb-true (length m) count full in absurd (omega arith)
  | inr other ↦ ap (λ b. cond b (Some RejectKind.BranchTooDeep) None) other
]

node_is_faultless : (p : Problem) (from m : List Rel) (proof state : State) (line : CertLine) → SameState proof state → IsSoAt p state m line →
    node_fault (listing_tree p from) proof m line ≡ None
node_is_faultless p from m proof state (Branch depth last) same so = branch_is_faultless m (pair_count p) so.1
node_is_faultless p from m proof state (NoPoint depth last need clause) same so = point_is_faultless p m proof state need clause same so
node_is_faultless p from m proof state (NoRelation depth last pair) same so = pair_is_faultless (problem_at p m) pair so.0 so.1
node_is_faultless p from m proof state (World depth last family) same so = world_is_faultless p from m family so
node_is_faultless p from m proof state line same so = absurd so

-- a line that names a node is one of the tree
named_role : (m : List Rel) (line : CertLine) → names m line ≡ true → role_of line ≡ ForTree
named_role m (Proof line) named = absurd (true≢false (sym named))
named_role m (End to) named = absurd (true≢false (sym named))
named_role m line named = refl

-- a branch that is so stands at an alive node
branch_alive : (p : Problem) (state : State) (m : List Rel) (line : CertLine) → IsSoAt p state m line → IsTrue (is_branch line) → IsAlive (problem_at p m)
branch_alive p state m (Branch depth last) so is = so.0
branch_alive p state m line so is = absurd (true≢false (sym is))

node_leads : (p : Problem) (from : List Rel) (n : ℕ) (proof state : State) (m : List Rel) (worlds : List (List Rel)) (line : CertLine) → SameState proof state → TellsOf p state m line →
    step (listing_tree p from) (Going n (record { proof = proof; at = Some m; worlds = worlds })) line ≡
    Going (n + 1) (after_node (listing_tree p from) (record { proof = proof; at = Some m; worlds = worlds }) line)
node_leads p from n proof state m worlds line same tells =
    let tree = listing_tree p from in
    let s : Stand = record { proof = proof; at = Some m; worlds = worlds } in
    let none : tree_fault tree proof (Some m) line ≡ None =
    ap (λ b. cond b (node_fault tree proof m line) (Some RejectKind.MissingBranch)) tells.0 ∙ node_is_faultless p from m proof state line same tells.1 in
    ap (take_by tree n s line) (named_role m line tells.0) ∙ ap (λ fault. unless fault (n + 1) (Going (n + 1) (after_node tree s line))) none

put_by : (p : Problem) (from : List Rel) (lines : List CertLine) (state : State) (m : List Rel) (line : CertLine) (n : ℕ) (proof : State) (at : Option (List Rel)) (worlds : List (List Rel)) →
    steps (listing_tree p from) (Going 1 (start p)) lines ≡ Going n (record { proof = proof; at = at; worlds = worlds }) → at ≡ Some m → SameState proof state →
    AllBranchesAlive (listing_tree p from) (Going 1 (start p)) lines → TellsOf p state m line → KeepsUp p from (lines ++ line ∷ []) [] state (listing_next p from (is_branch line) m)
put_by p from lines state m line n proof at worlds reached expects same alive tells =
    let tree = listing_tree p from in
    let s : Stand = record { proof = proof; at = Some m; worlds = worlds } in
    let here_is : steps tree (Going 1 (start p)) lines ≡ Going n s = reached ∙ ap (λ at. Going n (record { proof = proof; at = at; worlds = worlds })) expects in
    record {
      number = n + 1;
      stand = after_node tree s line;
      reached = steps_append tree (Going 1 (start p)) lines (line ∷ []) ∙ ap (λ status. step tree status line) here_is ∙ node_leads p from n proof state m worlds line same tells;
      expects = refl;
      valid = refl;
      same = same;
      alive = alive_append tree (Going 1 (start p)) lines (line ∷ []) alive
          (subst (λ status. AllBranchesAlive tree status (line ∷ [])) (sym here_is) (branch_alive p state m line tells.1, tt));
    }

keeps_put : (p : Problem) (from : List Rel) (lines : List CertLine) (waiting : List Line) (state : State) (m : List Rel) (line : CertLine) →
    KeepsUp p from lines waiting state (Some m) → TellsOf p state m line → KeepsUp p from (with_waiting lines waiting ++ line ∷ []) [] state (listing_next p from (is_branch line) m)
keeps_put p from lines waiting state m line k tells =
    let f = keeps_flushed p from lines waiting state (Some m) k in
    put_by p from (with_waiting lines waiting) state m line f.number f.stand.proof f.stand.at f.stand.worlds f.reached f.expects f.same f.alive tells

-- the first line of a listing
bools_same : (b : Bool) → same_bool b b ≡ true
bools_same true = refl
bools_same false = refl

pub switches_same : (s : Switches) → same_switches s s ≡ true
switches_same s =
    let n = same_bool s.nonempty s.nonempty in
    let b = same_bool s.sibling s.sibling in
    and_from (n && b) (same_bool s.coverage s.coverage) (and_from n b (bools_same s.nonempty) (bools_same s.sibling)) (bools_same s.coverage)

header_is_faultless : (p : Problem) (from : List Rel) → length from ≤ pair_count p → header_fault p p.switches from ≡ None
header_is_faultless p from room =
    ap (λ b. cond b None (Some RejectKind.WrongHeader)) (and_from (same_switches p.switches p.switches) (not (nat_lt (pair_count p) (length from))) (switches_same p.switches)
    (not_from_false (nat_lt (pair_count p) (length from)) (le-ltb (pair_count p) (length from) room)))

pub end_is_faultless : (at : Option (List Rel)) → end_fault at at ≡ None
end_is_faultless None = refl
end_is_faultless (Some m) = ap (λ b. cond b None (Some RejectKind.MissingBranch)) (same_with_itself m)

keeps_ends : (p : Problem) (from : List Rel) (lines : List CertLine) (state : State) (at : Option (List Rel)) → length from ≤ pair_count p → KeepsUp p from lines [] state at →
    (worlds : List (List Rel)) × (listing_status p p.switches from (lines ++ End at ∷ []) ≡ Ended (record { to = at; worlds = worlds }))
keeps_ends p from lines state at room k = (
  k.stand.worlds,
  ap (λ fault. unless fault 1 (steps tree (Going 1 (start p)) (lines ++ End at ∷ []))) (header_is_faultless p from room)
      ∙ steps_append tree (Going 1 (start p)) lines (End at ∷ []) ∙ ap (λ status. step tree status (End at)) k.reached
      ∙ ap (λ fault. unless fault (k.number + 1) (Ended (record { to = at; worlds = k.stand.worlds }))) (ap (λ here. end_fault here at) k.expects ∙ end_is_faultless at),
)
  where
    tree : Branching
    tree = listing_tree p from

pub put_keeps_up_law : PutKeepsUp
put_keeps_up_law = record {
  begins = λ p from state same. record { number = 1; stand = start p; reached = refl; expects = refl; valid = refl; same = same; alive = tt };
  goes = keeps_goes;
  flushed = keeps_flushed;
  put = keeps_put;
  ends = keeps_ends;
}
