-- A table that an accepted listing passes and does not show leaves what is allowed, or a leaf stands at one of its prefixes.
use Rattle.std.proofs.Common.{◌≡◌, ℕ, ◌+◌, Bool, true, false, cond, List, [], ◌∷◌, ◌++◌, map, length, get_or, ◌⊎◌, Option, Some, None, inl, inr, refl, sym, ap, ◌∙◌, subst, arith}
use Rattle.std.specs.Prelude.{◌==◌}
use Rattle.std.proofs.lemmas.Bool.{true≢false, cases_Bool, eq-eqb}
use Rattle.rcc5_core.specs.declared.Rel.{Rel}
use Rattle.rcc5_core.specs.Relation.{same_rel}
use Rattle.rcc5_core.specs.RelationSet.{has}
use Rattle.lits_core.specs.Derivation.{State, next_state}
use Rattle.world_model.specs.Problem.{Problem}
use Rattle.world_model.specs.Family.{Family}
use Rattle.world_model.specs.Alive.{allowed}
use Rattle.world_model.specs.Listing.{Begins, is_below, is_before_end}
use Rattle.world_model.proofs.Members.{In, here, In-left, In-right}
use Rattle.world_model.proofs.OrderPositions.{below_itself, below_cases}
use Rattle.cert_text.specs.declared.line.CertLine.{CertLine}
use Rattle.cert_text.specs.declared.line.CertLine.TheVariants.{Branch, NoPoint, NoRelation, World}
use Rattle.cert_rules.specs.declared.RejectKind.{RejectKind}
use Rattle.cert_rules.specs.Order.{is_shown, onward}
use Rattle.cert_rules.specs.Trees.{Branching, sets_of, names, is_branch, node_fault, tree_fault, end_fault}
use Rattle.cert_rules.specs.Listings.{Status, Going, Ended, Rejected, unless, proof_fault, Stand, Listed, Role, ForProof, ForEnd, ForTree, role_of, with_world, after_proof, after_node, take_by, step, steps}
use Rattle.cert_rules.specs.Laws.{is_leaf}
use Rattle.world_model.proofs.Relations.{one_rel, itself}
use Rattle.cert_rules.proofs.Nexts.{Along, begins_onto, begins_parts, IsPassed, next_covers}
use Rattle.cert_rules.proofs.Sound.{IsTableOf, begins_itself, begins_same, fails, ends_there, world_is_table, table_length}

-- a table is along the sets, or leaves them by a relation
pub record Leaves (q : Problem) (levels : List (ℕ × ℕ)) (t : List Rel) : Type 0 where
  pub prefix : List Rel
  pub rel : Rel
  pub rest : List Rel
  pub is : t ≡ prefix ++ rel ∷ rest
  pub lacks : has (allowed q (get_or levels (length prefix) (0, 0))) rel ≡ false

pub along_or_leaves : (q : Problem) (levels : List (ℕ × ℕ)) (t : List Rel) → length t ≡ length levels → Along (map (allowed q) levels) t ⊎ Leaves q levels t
along_or_leaves q levels [] long = inl tt
along_or_leaves q [] (r ∷ t) long = absurd (omega arith)
along_or_leaves q (pair ∷ levels) (r ∷ t) long = elim (cases_Bool (has (allowed q pair) r)) [
  | inl has_it ↦ elim (along_or_leaves q levels t (omega arith)) [
    | inl along ↦ inl (has_it, along)
    | inr leaves ↦ let same = leaves.is in inr (record { prefix = r ∷ leaves.prefix; rel = leaves.rel; rest = leaves.rest; is = λ i. r ∷ same i; lacks = leaves.lacks })
  ]
  | inr lacks ↦ inr (record { prefix = []; rel = r; rest = t; is = refl; lacks = lacks })
]

-- whether a position begins with another can be told
pub begins_or_not : (m t : List Rel) → Begins m t ⊎ (Begins m t → ⊥)
begins_or_not [] t = inl (t, refl)
begins_or_not (r ∷ m) [] = inr (λ b. let is : [] ≡ r ∷ (m ++ b.0) = b.1 in absurd (omega (arith, ap length is)))
begins_or_not (r ∷ m) (s ∷ t) = elim (cases_Bool (same_rel r s)) [
  | inl same ↦ elim (begins_or_not m t) [
    | inl begins ↦ inl (begins_onto r s m t (one_rel r s same) begins)
    | inr not_begins ↦ inr (λ b. not_begins (begins_parts r s m t b).1)
  ]
  | inr other ↦ inr (λ b. true≢false (sym (subst (λ x. same_rel r x ≡ true) (begins_parts r s m t b).0 (itself r)) ∙ other))
]

-- a leaf that stands at a prefix of a table, among lines from a status on
pub record HasLeaf (tree : Branching) (status : Status Stand Listed) (lines : List CertLine) (t : List Rel) : Type 0 where
  pub before : List CertLine
  pub line : CertLine
  pub after : List CertLine
  pub split : lines ≡ before ++ line ∷ after
  pub number : ℕ
  pub stand : Stand
  pub reached : steps tree status before ≡ Going number stand
  pub prefix : List Rel
  pub begins : Begins prefix t
  pub leaf : is_leaf line ≡ true
  pub at : stand.at ≡ Some prefix
  pub faultless : tree_fault tree stand.proof (Some prefix) line ≡ None

-- one line earlier
leaf_earlier : (tree : Branching) (status : Status Stand Listed) (line : CertLine) (lines : List CertLine) (t : List Rel) →
    HasLeaf tree (step tree status line) lines t → HasLeaf tree status (line ∷ lines) t
leaf_earlier tree status line lines t leaf = let same = leaf.split in record {
  before = line ∷ leaf.before;
  line = leaf.line;
  after = leaf.after;
  split = λ i. line ∷ same i;
  number = leaf.number;
  stand = leaf.stand;
  reached = leaf.reached;
  prefix = leaf.prefix;
  begins = leaf.begins;
  leaf = leaf.leaf;
  at = leaf.at;
  faultless = leaf.faultless;
}

-- what has ended or is rejected stays so
pub ended_stays : (tree : Branching) (listed : Listed) (lines : List CertLine) → steps tree (Ended listed) lines ≡ Ended listed
ended_stays tree listed [] = refl
ended_stays tree listed (line ∷ lines) = ended_stays tree listed lines

pub rejected_stays : (tree : Branching) (number : ℕ) (kind : RejectKind) (lines : List CertLine) → steps tree (Rejected number kind) lines ≡ Rejected number kind
rejected_stays tree number kind [] = refl
rejected_stays tree number kind (line ∷ lines) = rejected_stays tree number kind lines

-- where lines lead to an end, the first has no fault
pub no_fault : (tree : Branching) (fault : Option RejectKind) (number : ℕ) (next : Status Stand Listed) (lines : List CertLine) (listed : Listed) →
    steps tree (unless fault number next) lines ≡ Ended listed → (fault ≡ None) × (steps tree next lines ≡ Ended listed)
no_fault tree None number next lines listed e = (refl, e)
no_fault tree (Some kind) number next lines listed e = let stays = rejected_stays tree number kind lines in let wrong : Rejected number kind ≡ Ended listed = sym stays ∙ e in cc

-- worlds that were found stay
world_stays : (worlds : List (List Rel)) (at : Option (List Rel)) (line : CertLine) (t : List Rel) → In t worlds → In t (with_world worlds at line)
world_stays worlds None line t i = i
world_stays worlds (Some m) (World depth last family) t i = In-left (m ∷ []) i
world_stays worlds (Some m) line t i = i

abbrev HasWorld : List Rel → Status Stand Listed → Type 0
HasWorld t (Going n s) = In t s.worlds
HasWorld t (Ended listed) = In t listed.worlds
HasWorld t (Rejected number kind) = Unit {0}

unless_has : (t : List Rel) (fault : Option RejectKind) (number : ℕ) (next : Status Stand Listed) → HasWorld t next → HasWorld t (unless fault number next)
unless_has t None number next h = h
unless_has t (Some kind) number next h = tt

take_has : (tree : Branching) (n : ℕ) (s : Stand) (line : CertLine) (t : List Rel) (role : Role) → In t s.worlds → HasWorld t (take_by tree n s line role)
take_has tree n s line t (ForProof proof) i = unless_has t (proof_fault s.proof proof) (n + 1) _ i
take_has tree n s line t (ForEnd to) i = unless_has t (end_fault s.at to) (n + 1) _ i
take_has tree n s line t ForTree i = unless_has t (tree_fault tree s.proof s.at line) (n + 1) _ (world_stays s.worlds s.at line t i)

steps_have : (tree : Branching) (status : Status Stand Listed) (lines : List CertLine) (t : List Rel) → HasWorld t status → HasWorld t (steps tree status lines)
steps_have tree status [] t h = h
steps_have tree status (line ∷ lines) t h = steps_have tree (step tree status line) lines t (one status h)
  where
    one : (status : Status Stand Listed) → HasWorld t status → HasWorld t (step tree status line)
    one (Going n s) h = take_has tree n s line t (role_of line) h
    one (Ended listed) h = h
    one (Rejected number kind) h = h

-- what is asked of a table
pub record IsAsked (tree : Branching) (t : List Rel) : Type 0 where
  pub along : Along (sets_of tree) t
  pub long : length t ≡ length tree.levels
  pub shown : is_shown tree.from t ≡ true

-- a table that is not below a node at which a line stands: below it at a leaf, the node itself as a world, or not below the next
data Behind (tree : Branching) (m t : List Rel) (line : CertLine) : Type 0 where
  at_leaf : is_leaf line ≡ true → Begins m t → Behind tree m t line
  at_world : ((worlds : List (List Rel)) → In t (with_world worlds (Some m) line)) → Behind tree m t line
  passed : IsPassed (onward (sets_of tree) tree.from (is_branch line) m) t → Behind tree m t line

behind_leaf : (tree : Branching) (m t : List Rel) (line : CertLine) → IsAsked tree t → is_below t m ≡ false → is_leaf line ≡ true → is_branch line ≡ false → Behind tree m t line
behind_leaf tree m t line asked not_below is no_branch = elim (begins_or_not m t) [
  | inl begins ↦ at_leaf is begins
  | inr not_begins ↦ elim (below_cases t m) [
    | inl below ↦ absurd (true≢false (sym below ∙ not_below))
    | inr (inl same) ↦ absurd (not_begins (subst (Begins m) (sym same) (begins_itself m)))
    | inr (inr above) ↦ passed (subst (λ b. IsPassed (onward (sets_of tree) tree.from b m) t) (sym no_branch)
        (next_covers (sets_of tree) tree.from false m t asked.along asked.shown above (λ b begins. not_begins begins)))
  ]
]

behind_line : (tree : Branching) (m t : List Rel) (line : CertLine) → IsAsked tree t → is_below t m ≡ false → names m line ≡ true →
    (is_branch line ≡ true → (length m == length tree.levels) ≡ false) → ((depth : ℕ) (last : Option Rel) (f : Family) → line ≡ World depth last f → IsTableOf tree m) →
    Behind tree m t line
behind_line tree m t (Branch depth last) asked not_below named short table = elim (below_cases t m) [
  | inl below ↦ absurd (true≢false (sym below ∙ not_below))
  | inr (inl same) ↦ absurd (true≢false (sym (eq-eqb (length m) (length tree.levels) (ap length (sym same) ∙ asked.long)) ∙ short refl))
  | inr (inr above) ↦ passed (next_covers (sets_of tree) tree.from true m t asked.along asked.shown above (λ b begins. true≢false b))
]
behind_line tree m t (NoPoint depth last need clause) asked not_below named short table = behind_leaf tree m t (NoPoint depth last need clause) asked not_below refl refl
behind_line tree m t (NoRelation depth last pair) asked not_below named short table = behind_leaf tree m t (NoRelation depth last pair) asked not_below refl refl
behind_line tree m t (World depth last f) asked not_below named short table = elim (below_cases t m) [
  | inl below ↦ absurd (true≢false (sym below ∙ not_below))
  | inr (inl same) ↦ at_world (λ worlds. In-right worlds (here same))
  | inr (inr above) ↦ passed (next_covers (sets_of tree) tree.from false m t asked.along asked.shown above (λ b begins.
      let full = table_length tree m (table depth last f refl) in
      let same = begins_same m t begins (full ∙ sym asked.long) in
      true≢false (sym (subst (λ t. is_below m t ≡ true) (sym same) above) ∙ below_itself m)))
]
behind_line tree m t line asked not_below named short table = absurd (true≢false (sym named))

-- what a line at the expected node is without a fault
pub tree_parts : (tree : Branching) (proof : State) (m : List Rel) (line : CertLine) → tree_fault tree proof (Some m) line ≡ None → (names m line ≡ true) × (node_fault tree proof m line ≡ None)
tree_parts tree proof m line none = by (names m line) refl none
  where
    by : (b : Bool) → names m line ≡ b → cond b (node_fault tree proof m line) (Some RejectKind.MissingBranch) ≡ None → (names m line ≡ true) × (node_fault tree proof m line ≡ None)
    by false e none = cc
    by true e none = (e, none)

pub branch_is_short : (tree : Branching) (proof : State) (m : List Rel) (line : CertLine) → node_fault tree proof m line ≡ None → is_branch line ≡ true → (length m == length tree.levels) ≡ false
branch_is_short tree proof m (Branch depth last) none is = fails (length m == length tree.levels) RejectKind.BranchTooDeep none
branch_is_short tree proof m line none is = absurd (true≢false (sym is))

pub world_is_its_table : (tree : Branching) (proof : State) (m : List Rel) (line : CertLine) → node_fault tree proof m line ≡ None →
    (depth : ℕ) (last : Option Rel) (f : Family) → line ≡ World depth last f → IsTableOf tree m
world_is_its_table tree proof m line none depth last f is = world_is_table tree m f (subst (λ line. node_fault tree proof m line ≡ None) is none)

-- a table that is asked of, and what comes of it
abbrev Found : Branching → Status Stand Listed → List CertLine → Listed → List Rel → Type 0
Found tree status lines listed t = In t listed.worlds ⊎ HasLeaf tree status lines t

found_earlier : (tree : Branching) (status next : Status Stand Listed) (line : CertLine) (lines : List CertLine) (listed : Listed) (t : List Rel) → step tree status line ≡ next →
    Found tree next lines listed t → Found tree status (line ∷ lines) listed t
found_earlier tree status next line lines listed t is (inl there_is) = inl there_is
found_earlier tree status next line lines listed t is (inr found) = inr (leaf_earlier tree status line lines t (subst (λ x. HasLeaf tree x lines t) (sym is) found))

pub reach : (tree : Branching) (lines : List CertLine) (n : ℕ) (proof : State) (at : Option (List Rel)) (worlds : List (List Rel)) (listed : Listed) (t : List Rel) → IsAsked tree t →
    steps tree (Going n (record { proof = proof; at = at; worlds = worlds })) lines ≡ Ended listed → is_before_end t at ≡ false → is_before_end t listed.to ≡ true →
    Found tree (Going n (record { proof = proof; at = at; worlds = worlds })) lines listed t
reach tree [] n proof at worlds listed t asked e not_yet before = cc
reach tree (line ∷ lines) n proof at worlds listed t asked e not_yet before =
    by (role_of line) refl e (λ n proof at worlds e not_yet. reach tree lines n proof at worlds listed t asked e not_yet before)
  where
    s : Stand
    s = record { proof = proof; at = at; worlds = worlds }

    here_is : (role : Role) → role_of line ≡ role → (fault : Option RejectKind) (next : Status Stand Listed) → take_by tree n s line role ≡ unless fault (n + 1) next → fault ≡ None →
        step tree (Going n s) line ≡ next
    here_is role r fault next is none = ap (take_by tree n s line) r ∙ is ∙ ap (λ f. unless f (n + 1) next) none

    tree_line : (at : Option (List Rel)) → (e : tree_fault tree proof at line ≡ None) → is_before_end t at ≡ false → role_of line ≡ ForTree →
        step tree (Going n (record { proof = proof; at = at; worlds = worlds })) line ≡ Going (n + 1) (after_node tree (record { proof = proof; at = at; worlds = worlds }) line) →
        steps tree (Going (n + 1) (after_node tree (record { proof = proof; at = at; worlds = worlds }) line)) lines ≡ Ended listed →
        ((n : ℕ) (proof : State) (at : Option (List Rel)) (worlds : List (List Rel)) → steps tree (Going n (record { proof = proof; at = at; worlds = worlds })) lines ≡ Ended listed →
        is_before_end t at ≡ false → Found tree (Going n (record { proof = proof; at = at; worlds = worlds })) lines listed t) →
        Found tree (Going n (record { proof = proof; at = at; worlds = worlds })) (line ∷ lines) listed t
    tree_line None none not_yet r is e rest = absurd (true≢false not_yet)
    tree_line (Some m) none not_yet r is e rest =
        let parts = tree_parts tree proof m line none in
        at_node (behind_line tree m t line asked not_yet parts.0 (branch_is_short tree proof m line parts.1) (world_is_its_table tree proof m line parts.1))
      where
        at_node : Behind tree m t line → Found tree (Going n (record { proof = proof; at = Some m; worlds = worlds })) (line ∷ lines) listed t
        at_node (at_leaf is_one begins) = inr (record {
          before = [];
          line = line;
          after = lines;
          split = refl;
          number = n;
          stand = record { proof = proof; at = Some m; worlds = worlds };
          reached = refl;
          prefix = m;
          begins = begins;
          leaf = is_one;
          at = refl;
          faultless = none;
        })
        at_node (at_world there_is) = inl (subst (HasWorld t) e (steps_have tree (Going (n + 1) (after_node tree (record { proof = proof; at = Some m; worlds = worlds }) line)) lines t (there_is worlds)))
        at_node (passed behind) = found_earlier tree (Going n (record { proof = proof; at = Some m; worlds = worlds })) _ line lines listed t is
            (rest (n + 1) proof (onward (sets_of tree) tree.from (is_branch line) m) (with_world worlds (Some m) line) e behind)

    by : (role : Role) → role_of line ≡ role → steps tree (take_by tree n s line role) lines ≡ Ended listed →
        ((n : ℕ) (proof : State) (at : Option (List Rel)) (worlds : List (List Rel)) → steps tree (Going n (record { proof = proof; at = at; worlds = worlds })) lines ≡ Ended listed →
        is_before_end t at ≡ false → Found tree (Going n (record { proof = proof; at = at; worlds = worlds })) lines listed t) → Found tree (Going n s) (line ∷ lines) listed t
    by (ForProof derives) r e rest =
        let parts = no_fault tree (proof_fault proof derives) (n + 1) (Going (n + 1) (after_proof s derives)) lines listed e in
        found_earlier tree (Going n s) (Going (n + 1) (after_proof s derives)) line lines listed t
        (here_is (ForProof derives) r (proof_fault proof derives) (Going (n + 1) (after_proof s derives)) refl parts.0)
        (rest (n + 1) (next_state proof derives) at worlds parts.1 not_yet)
    by (ForEnd to) r e rest =
        let parts = no_fault tree (end_fault at to) (n + 1) (Ended (record { to = to; worlds = worlds })) lines listed e in
        let last : Ended (record { to = to; worlds = worlds }) ≡ Ended listed = sym (ended_stays tree (record { to = to; worlds = worlds }) lines) ∙ parts.1 in
        let same : record { to = to; worlds = worlds } ≡ listed = cc in
        let there_is : to ≡ listed.to = ap (λ (l : Listed). l.to) same in
        absurd (true≢false (sym before ∙ ap (is_before_end t) (sym there_is) ∙ ap (is_before_end t) (sym (ends_there at to parts.0)) ∙ not_yet))
    by ForTree r e rest =
        let parts = no_fault tree (tree_fault tree proof at line) (n + 1) (Going (n + 1) (after_node tree s line)) lines listed e in
        tree_line at parts.0 not_yet r (here_is ForTree r (tree_fault tree proof at line) (Going (n + 1) (after_node tree s line)) refl parts.0) parts.1 rest
