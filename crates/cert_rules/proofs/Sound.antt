-- What the lines of a tree leave so: the worlds found are exactly the tables between the start and the expected node.
use Rattle.std.proofs.Common.{◌≡◌, ℕ, ◌≤◌, ◌+◌, Bool, true, false, cond, List, [], ◌∷◌, ◌++◌, append-nil, map, length, Option, Some, None, inl, inr, refl, sym, ap, ◌∙◌, subst, arith, IsTrue}
use Rattle.std.specs.Prelude.{◌==◌}
use Rattle.std.specs.List.{list_all}
use Rattle.std.specs.Option.{option_map}
use Rattle.std.proofs.lemmas.Bool.{true≢false, and_parts, eq-eqb}
use Rattle.std.proofs.lemmas.List.{length-map}
use Rattle.rcc5_core.specs.declared.Rel.{Rel}
use Rattle.rcc5_core.specs.Relation.{relation_of, same_rel}
use Rattle.lits_core.specs.declared.Line.{Line}
use Rattle.lits_core.specs.declared.LineFault.{LineFault}
use Rattle.lits_core.specs.Derivation.{State, DerivedFollow, line_fault, next_state}
use Rattle.lits_core.proofs.DerivationLemmas.{DerivedFollow-next, given-state_after}
use Rattle.world_model.specs.Problem.{Problem, pairs}
use Rattle.world_model.specs.Family.{Family, set_of, meets}
use Rattle.world_model.specs.Alive.{allowed, IsAlive}
use Rattle.world_model.specs.Listing.{Begins, is_below}
use Rattle.world_model.proofs.Members.{In}
use Rattle.world_model.proofs.OrderPositions.{below_itself, below_cases}
use Rattle.world_model.proofs.OrderLists.{IsExactly, Between}
use Rattle.world_model.proofs.PointRules.{met_parts}
use Rattle.world_model.proofs.PointAlive.{related, met_is_alive}
use Rattle.constraint_set.specs.Facts.{IsBuilt}
use Rattle.point_encode.specs.Model.Clauses.{given_clauses}
use Rattle.set_family.specs.Sets.{family_from, is_set_below}
use Rattle.cert_text.specs.declared.line.CertLine.{CertLine}
use Rattle.cert_text.specs.declared.line.CertLine.TheVariants.{Branch, NoPoint, NoRelation, World}
use Rattle.cert_rules.specs.declared.RejectKind.{RejectKind}
use Rattle.cert_rules.specs.Order.{is_shown, onward}
use Rattle.cert_rules.specs.Trees.{Branching, node_problem, sets_of, table_along, same_position, names, family_fault, table_fault, world_fault, fault_or, node_fault, tree_fault, end_fault}
use Rattle.cert_rules.specs.Listings.{Status, Going, Ended, Rejected, unless, as_kind, proof_fault, Stand, Listed, Role, ForProof, ForEnd, ForTree, role_of, with_world, after_proof, after_node, take_by, step, steps}
use Rattle.cert_rules.specs.Laws.{is_leaf}
use Rattle.world_model.proofs.Relations.{one_rel}
use Rattle.cert_rules.proofs.Nexts.{Along, begins_parts, next_covers, next_after, next_shown, shown_from_order, order_from_shown}
use Rattle.cert_rules.proofs.Leaves.{built_at, met_at_node, pair_leaf, point_leaf}
use Rattle.cert_rules.proofs.Exact.{none_between, one_between}

-- a table of a tree: the relations that some family that meets the problem has along its levels
abbrev pub IsTableOf : Branching → List Rel → Type 0
IsTableOf tree t = (f : Family) × IsTrue (meets tree.subject f) × (table_along tree.levels f ≡ t)

-- a tree branches on pairs of a problem that was built and whose clauses are given, and begins within them
pub record IsBranchingOf (tree : Branching) (given : List (List ℕ)) : Type 0 where
  pub built : IsBuilt tree.subject
  pub clauses : given ≡ given_clauses tree.subject
  pub levels : (pair : ℕ × ℕ) → In pair tree.levels → In pair (pairs tree.subject)
  pub room : length tree.from ≤ length tree.levels

-- what is so where a tree stands
pub record IsSoundStand (tree : Branching) (s : Stand) : Type 0 where
  pub tree_is : IsBranchingOf tree s.proof.given
  pub follow : DerivedFollow s.proof
  pub shown : (m : List Rel) → s.at ≡ Some m → is_shown tree.from m ≡ true
  pub exact : IsExactly (Between (IsTableOf tree) tree.from s.at) s.worlds

-- a table takes its relations from the sets
pub table_follows : (q : Problem) (f : Family) → meets q f ≡ true → (levels : List (ℕ × ℕ)) → Along (map (allowed q) levels) (table_along levels f)
table_follows q f met [] = tt
table_follows q f met (pair ∷ levels) = (related q f (met_parts q f met).said pair, table_follows q f met levels)

table_along_is : (tree : Branching) (t : List Rel) → IsTableOf tree t → Along (sets_of tree) t
table_along_is tree t w = subst (Along (sets_of tree)) w.2 (table_follows tree.subject w.0 w.1 tree.levels)

pub table_length : (tree : Branching) (t : List Rel) → IsTableOf tree t → length t ≡ length tree.levels
table_length tree t w = sym (ap length w.2) ∙ length-map tree.levels (λ pair. relation_of (set_of w.0 pair.0) (set_of w.0 pair.1))

pub begins_itself : (m : List Rel) → Begins m m
begins_itself m = ([], sym (append-nil m))

pub begins_same : (m t : List Rel) → Begins m t → length m ≡ length t → m ≡ t
begins_same [] [] b long = refl
begins_same [] (s ∷ t) b long = absurd (omega arith)
begins_same (r ∷ m) [] b long = absurd (omega arith)
begins_same (r ∷ m) (s ∷ t) b long =
    let parts = begins_parts r s m t b in
    let head = parts.0 in
    let rest = begins_same m t parts.1 (omega arith) in
    λ i. head i ∷ rest i

-- where each table that begins with a node is ruled out, or a branch comes before each of them, the tables stay the same
pub past_leaf : (tree : Branching) (given : List (List ℕ)) (m : List Rel) (worlds : List (List Rel)) → IsBranchingOf tree given →
    IsExactly (Between (IsTableOf tree) tree.from (Some m)) worlds → ((t : List Rel) → IsTableOf tree t → Begins m t → ⊥) →
    IsExactly (Between (IsTableOf tree) tree.from (onward (sets_of tree) tree.from false m)) worlds
past_leaf tree given m worlds is old dead =
    none_between (IsTableOf tree) tree.from m (onward (sets_of tree) tree.from false m) worlds old (λ n e. next_after (sets_of tree) tree.from false m n e)
    (λ t w low not_below. elim (below_cases t m) [
      | inl below ↦ absurd (true≢false (sym below ∙ not_below))
      | inr (inl same) ↦ absurd (dead t w (subst (Begins m) (sym same) (begins_itself m)))
      | inr (inr above) ↦ next_covers (sets_of tree) tree.from false m t (table_along_is tree t w) (shown_from_order tree.from t low) above (λ b begins. dead t w begins)
    ])

pub past_branch : (tree : Branching) (given : List (List ℕ)) (m : List Rel) (worlds : List (List Rel)) → IsBranchingOf tree given →
    IsExactly (Between (IsTableOf tree) tree.from (Some m)) worlds → (length m == length tree.levels) ≡ false →
    IsExactly (Between (IsTableOf tree) tree.from (onward (sets_of tree) tree.from true m)) worlds
past_branch tree given m worlds is old short =
    none_between (IsTableOf tree) tree.from m (onward (sets_of tree) tree.from true m) worlds old (λ n e. next_after (sets_of tree) tree.from true m n e)
    (λ t w low not_below. elim (below_cases t m) [
      | inl below ↦ absurd (true≢false (sym below ∙ not_below))
      | inr (inl same) ↦ absurd (true≢false (sym (eq-eqb (length m) (length tree.levels) (ap length (sym same) ∙ table_length tree t w)) ∙ short))
      | inr (inr above) ↦ next_covers (sets_of tree) tree.from true m t (table_along_is tree t w) (shown_from_order tree.from t low) above (λ b begins. true≢false b)
    ])

pub past_world : (tree : Branching) (given : List (List ℕ)) (m : List Rel) (worlds : List (List Rel)) → IsBranchingOf tree given → is_shown tree.from m ≡ true →
    IsExactly (Between (IsTableOf tree) tree.from (Some m)) worlds → IsTableOf tree m →
    IsExactly (Between (IsTableOf tree) tree.from (onward (sets_of tree) tree.from false m)) (worlds ++ m ∷ [])
past_world tree given m worlds is shown old w =
    let full = table_length tree m w in
    let room = is.room in
    one_between (IsTableOf tree) tree.from m (onward (sets_of tree) tree.from false m) worlds old w (order_from_shown tree.from m shown (omega arith))
    (λ n e. next_after (sets_of tree) tree.from false m n e)
    (λ t v low above. next_covers (sets_of tree) tree.from false m t (table_along_is tree t v) (shown_from_order tree.from t low) above
    (λ b begins. let same = begins_same m t begins (full ∙ sym (table_length tree t v)) in true≢false (sym (subst (λ t. is_below m t ≡ true) (sym same) above) ∙ below_itself m)))

-- a node whose problem is dead rules out the tables that begin with it
pub dead_below : (tree : Branching) (m : List Rel) → (IsAlive (node_problem tree m) → ⊥) → (t : List Rel) → IsTableOf tree t → Begins m t → ⊥
dead_below tree m dead t w begins =
    dead (met_is_alive (node_problem tree m) (w.0, met_at_node tree.subject tree.levels m w.0 w.1 (subst (Begins m) (sym w.2) begins)))

pub same_positions : (a b : List Rel) → same_position a b ≡ true → a ≡ b
same_positions [] [] e = refl
same_positions [] (s ∷ b) e = absurd (true≢false (sym e))
same_positions (r ∷ a) [] e = absurd (true≢false (sym e))
same_positions (r ∷ a) (s ∷ b) e =
    let parts = and_parts (same_rel r s) (same_position a b) e in
    let head = one_rel r s parts.0 in
    let rest = same_positions a b parts.1 in
    λ i. head i ∷ rest i

-- a test that leaves no fault
pub passes : (b : Bool) (kind : RejectKind) → cond b None (Some kind) ≡ None → b ≡ true
passes true kind e = refl
passes false kind e = cc

pub fails : (b : Bool) (kind : RejectKind) → cond b (Some kind) None ≡ None → b ≡ false
fails true kind e = cc
fails false kind e = refl

pub both_none : (a b : Option RejectKind) → fault_or a b ≡ None → (a ≡ None) × (b ≡ None)
both_none None b e = (refl, e)
both_none (Some kind) b e = cc

-- a family that leaves no fault meets the problem
pub family_met : (q : Problem) (f : Family) → family_fault q (family_from f.universe f.sets) ≡ None → meets q f ≡ true
family_met q f e = by (list_all (is_set_below f.universe) f.sets) e
  where
    by : (b : Bool) → family_fault q (cond b (Some f) None) ≡ None → meets q f ≡ true
    by true e = passes (meets q f) RejectKind.FamilyDoesNotMeet e
    by false e = cc

pub world_is_table : (tree : Branching) (m : List Rel) (f : Family) → world_fault tree m f ≡ None → IsTableOf tree m
world_is_table tree m f e =
    let both = both_none (family_fault tree.subject (family_from f.universe f.sets)) (table_fault tree m f) e in
    (f, family_met tree.subject f both.0, same_positions (table_along tree.levels f) m (passes (same_position (table_along tree.levels f) m) RejectKind.FamilyHasOtherTable both.1))

-- at a leaf the problem is dead
pub leaf_is_dead : (tree : Branching) (proof : State) (m : List Rel) → IsBranchingOf tree proof.given → DerivedFollow proof → (line : CertLine) → is_leaf line ≡ true → node_fault tree proof m line ≡ None →
    IsAlive (node_problem tree m) → ⊥
leaf_is_dead tree proof m is follow (NoPoint depth last need clause) leaf none =
    point_leaf (node_problem tree m) proof need clause (built_at tree.subject tree.levels m is.built is.levels) is.clauses follow none
leaf_is_dead tree proof m is follow (NoRelation depth last pair) leaf none = pair_leaf (node_problem tree m) pair none
leaf_is_dead tree proof m is follow line leaf none = absurd (true≢false (sym leaf))

-- a line at the expected node
node_sound : (tree : Branching) (proof : State) (m : List Rel) (worlds : List (List Rel)) → IsSoundStand tree (record { proof = proof; at = Some m; worlds = worlds }) →
    (line : CertLine) → names m line ≡ true → node_fault tree proof m line ≡ None →
    IsExactly (Between (IsTableOf tree) tree.from (after_node tree (record { proof = proof; at = Some m; worlds = worlds }) line).at) (with_world worlds (Some m) line)
node_sound tree proof m worlds s (Branch depth last) named none =
    past_branch tree proof.given m worlds s.tree_is s.exact (fails (length m == length tree.levels) RejectKind.BranchTooDeep none)
node_sound tree proof m worlds s (NoPoint depth last need clause) named none =
    past_leaf tree proof.given m worlds s.tree_is s.exact (dead_below tree m (leaf_is_dead tree proof m s.tree_is s.follow (NoPoint depth last need clause) refl none))
node_sound tree proof m worlds s (NoRelation depth last pair) named none =
    past_leaf tree proof.given m worlds s.tree_is s.exact (dead_below tree m (leaf_is_dead tree proof m s.tree_is s.follow (NoRelation depth last pair) refl none))
node_sound tree proof m worlds s (World depth last family) named none =
    past_world tree proof.given m worlds s.tree_is (s.shown m refl) s.exact (world_is_table tree m family none)
node_sound tree proof m worlds s line named none = absurd (true≢false (sym named))

-- a line of the tree
pub tree_sound : (tree : Branching) (proof : State) (at : Option (List Rel)) (worlds : List (List Rel)) → IsSoundStand tree (record { proof = proof; at = at; worlds = worlds }) →
    (line : CertLine) → tree_fault tree proof at line ≡ None → IsSoundStand tree (after_node tree (record { proof = proof; at = at; worlds = worlds }) line)
tree_sound tree proof None worlds s line none = cc
tree_sound tree proof (Some m) worlds s line none = by (names m line) refl none
  where
    by : (b : Bool) → names m line ≡ b → cond b (node_fault tree proof m line) (Some RejectKind.MissingBranch) ≡ None →
        IsSoundStand tree (after_node tree (record { proof = proof; at = Some m; worlds = worlds }) line)
    by false e none = cc
    by true e none = record {
      tree_is = s.tree_is;
      follow = s.follow;
      shown = λ n is. next_shown (sets_of tree) tree.from _ m n (s.shown m refl) is;
      exact = node_sound tree proof m worlds s line e none;
    }

-- a derivation line without a fault
pub no_line_fault : (fault : Option LineFault) → option_map as_kind fault ≡ None → fault ≡ None
no_line_fault None e = refl
no_line_fault (Some fault) e = cc

pub proof_follows : (proof : State) (line : Line) → DerivedFollow proof → proof_fault proof line ≡ None → DerivedFollow (next_state proof line)
proof_follows proof line follow none = DerivedFollow-next proof line follow (no_line_fault (line_fault proof line) none)

pub proof_sound : (tree : Branching) (s : Stand) (line : Line) → IsSoundStand tree s → proof_fault s.proof line ≡ None → IsSoundStand tree (after_proof s line)
proof_sound tree s line is none = record {
  tree_is = record {
    built = is.tree_is.built;
    clauses = given-state_after s.proof (line ∷ []) ∙ is.tree_is.clauses;
    levels = is.tree_is.levels;
    room = is.tree_is.room;
  };
  follow = proof_follows s.proof line is.follow none;
  shown = is.shown;
  exact = is.exact;
}

-- the end is where the tree stands
pub ends_there : (at to : Option (List Rel)) → end_fault at to ≡ None → at ≡ to
ends_there None None e = refl
ends_there None (Some m) e = cc
ends_there (Some m) None e = cc
ends_there (Some m) (Some to) e = let same = same_positions m to (passes (same_position m to) RejectKind.MissingBranch e) in λ i. Some (same i)

-- what lines lead to
abbrev pub IsSoundStatus : Branching → Status Stand Listed → Type 0
IsSoundStatus tree (Going n s) = IsSoundStand tree s
IsSoundStatus tree (Ended listed) = IsExactly (Between (IsTableOf tree) tree.from listed.to) listed.worlds
IsSoundStatus tree (Rejected number kind) = Unit {0}

unless_sound : (tree : Branching) (fault : Option RejectKind) (number : ℕ) (next : Status Stand Listed) → (fault ≡ None → IsSoundStatus tree next) → IsSoundStatus tree (unless fault number next)
unless_sound tree None number next sound = sound refl
unless_sound tree (Some kind) number next sound = tt

take_sound : (tree : Branching) (n : ℕ) (s : Stand) (line : CertLine) (role : Role) → IsSoundStand tree s → IsSoundStatus tree (take_by tree n s line role)
take_sound tree n s line (ForProof proof) is = unless_sound tree (proof_fault s.proof proof) (n + 1) _ (proof_sound tree s proof is)
take_sound tree n s line (ForEnd to) is =
    unless_sound tree (end_fault s.at to) (n + 1) _ (λ none. subst (λ at. IsExactly (Between (IsTableOf tree) tree.from at) s.worlds) (ends_there s.at to none) is.exact)
take_sound tree n s line ForTree is = unless_sound tree (tree_fault tree s.proof s.at line) (n + 1) _ (tree_sound tree s.proof s.at s.worlds is line)

step_sound : (tree : Branching) (status : Status Stand Listed) (line : CertLine) → IsSoundStatus tree status → IsSoundStatus tree (step tree status line)
step_sound tree (Going n s) line is = take_sound tree n s line (role_of line) is
step_sound tree (Ended listed) line is = is
step_sound tree (Rejected number kind) line is = tt

pub steps_sound : (tree : Branching) (status : Status Stand Listed) (lines : List CertLine) → IsSoundStatus tree status → IsSoundStatus tree (steps tree status lines)
steps_sound tree status [] is = is
steps_sound tree status (line ∷ lines) is = steps_sound tree (step tree status line) lines (step_sound tree status line is)
