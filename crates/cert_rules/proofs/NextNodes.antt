-- The position that comes next in a listing is the next node.
use Rattle.std.proofs.Common.{◌≡◌, ℕ, ◌<◌, ◌≤◌, Bool, true, false, not, ◌⊎◌, inl, inr, List, [], ◌∷◌, ◌++◌, map, length, get_or, Option, Some, None, refl, sym, ap, ◌∙◌, subst, arith, IsTrue, append-nil}
use Rattle.std.proofs.lemmas.Bool.{true≢false, not_from_false, not-true, or_cases, or_right, and_parts, and_from, ltb-true}
use Rattle.std.specs.Prelude.{nat_lt, ◌&&◌}
use Rattle.rcc5_core.specs.declared.Rel.{Rel}
use Rattle.rcc5_core.specs.Relation.{rank_of, same_rel}
use Rattle.rcc5_core.specs.RelationSet.{has, next_of}
use Rattle.world_model.specs.Problem.{Problem, pairs}
use Rattle.world_model.specs.Alive.{allowed, problem_at, IsAlive}
use Rattle.world_model.specs.Listing.{Begins, is_below}
use Rattle.world_model.specs.Node.{IsNode}
use Rattle.world_model.proofs.OrderPositions.{below_itself, below_cases, below_apart, below_branch}
use Rattle.cert_rules.specs.Order.{is_shown, least_from, from_below, single, or_later, onward}
use Rattle.cert_rules.specs.Listings.{listing_next}
use Rattle.cert_rules.specs.ShownNodes.{IsShownNode, IsNextNode, Branches, ExpectedIsNext}
use Rattle.world_model.proofs.Relations.{itself, one_rel, next_is_in}
use Rattle.cert_rules.proofs.Nexts.{Along, IsPassed, IsLeastFrom, least_from_is, next_covers, next_after, next_shown, shown_from_order, not_below_rest}
use Rattle.world_model.proofs.Nodes.{IsChild, node_within, child_within, child_is_node}

-- the next position is a prefix of the last one with another relation, which the pair there allows; or the last one, where it branches, with a first one
pub record Stems (q : Problem) (levels : List (ℕ × ℕ)) (branches : Bool) (m n : List Rel) : Type 0 where
  pub prefix : List Rel
  pub last : Rel
  pub is : n ≡ prefix ++ last ∷ []
  pub within : length prefix < length levels
  pub allows : has (allowed q (get_or levels (length prefix) (0, 0))) last ≡ true
  pub stem : ((branches ≡ true) × (m ≡ prefix)) ⊎ ((r : Rel) × (rest : List Rel) × (m ≡ prefix ++ r ∷ rest))

pub next_stems : (q : Problem) (levels : List (ℕ × ℕ)) (from : List Rel) (branches : Bool) (m n : List Rel) → onward (map (allowed q) levels) from branches m ≡ Some n →
    Stems q levels branches m n
next_stems q [] from branches m n e = cc
next_stems q (pair ∷ levels) from false [] n e = cc
next_stems q (pair ∷ levels) from true [] n e = first (least_from (allowed q pair) from) (least_from_is (allowed q pair) from) e
  where
    first : (found : Option Rel) → IsLeastFrom (allowed q pair) from found → single found ≡ Some n → Stems q (pair ∷ levels) true [] n
    first None is e = cc
    first (Some s) is e = let same : n ≡ s ∷ [] = cc in
        record { prefix = []; last = s; is = same; within = omega arith; allows = (is.shown s refl).0; stem = inl (refl, refl) }
next_stems q (pair ∷ levels) from branches (r ∷ m) n e =
    by (onward (map (allowed q) levels) (from_below from r) branches m) refl (λ k f. next_stems q levels (from_below from r) branches m k f) e
  where
    longer : (k : List Rel) → r ∷ k ≡ n → Stems q levels branches m k → Stems q (pair ∷ levels) branches (r ∷ m) n
    longer k same stems = let is = stems.is in record {
      prefix = r ∷ stems.prefix;
      last = stems.last;
      is = sym same ∙ (λ i. r ∷ is i);
      within = let w = stems.within in omega arith;
      allows = stems.allows;
      stem = elim stems.stem [
        | inl both ↦ let at = both.1 in inl (both.0, λ i. r ∷ at i)
        | inr more ↦ let at = more.2 in inr (more.0, more.1, λ i. r ∷ at i)
      ];
    }

    next : (found : Option Rel) → next_of (allowed q pair) r ≡ found → single found ≡ Some n → Stems q (pair ∷ levels) branches (r ∷ m) n
    next None f e = cc
    next (Some s) f e = let same : n ≡ s ∷ [] = cc in
        record { prefix = []; last = s; is = same; within = omega arith; allows = (next_is_in (allowed q pair) r s f).0; stem = inr (r, m, refl) }

    by : (inner : Option (List Rel)) → onward (map (allowed q) levels) (from_below from r) branches m ≡ inner →
        ((k : List Rel) → onward (map (allowed q) levels) (from_below from r) branches m ≡ Some k → Stems q levels branches m k) → or_later (allowed q pair) r inner ≡ Some n →
        Stems q (pair ∷ levels) branches (r ∷ m) n
    by None f inner_stems e = next (next_of (allowed q pair) r) refl e
    by (Some k) f inner_stems e = let same : r ∷ k ≡ n = cc in longer k same (inner_stems k f)

-- a list of relations that the pairs allow is along the sets
along_from : (q : Problem) (levels : List (ℕ × ℕ)) (m : List Rel) → length m ≤ length levels →
    ((c : List Rel) (t : Rel) (rest : List Rel) → m ≡ c ++ t ∷ rest → has (allowed q (get_or levels (length c) (0, 0))) t ≡ true) → Along (map (allowed q) levels) m
along_from q levels [] short each = tt
along_from q [] (r ∷ m) short each = absurd (omega arith)
along_from q (pair ∷ levels) (r ∷ m) short each =
    (each [] r m refl, along_from q levels m (omega arith) (λ c t rest e. each (r ∷ c) t rest (λ i. r ∷ e i)))

pub node_along : (p : Problem) (m : List Rel) → IsNode p m → Along (map (allowed p) (pairs p)) m
node_along p m node =
    along_from p (pairs p) m (node_within p m node) (λ c t rest e. (child_within p c t rest (subst (IsNode p) e node)).allows)

-- the next position is a node
next_is_node : (p : Problem) (from m n : List Rel) (branches : Bool) → IsNode p m → Branches p m branches → listing_next p from branches m ≡ Some n → IsNode p n
next_is_node p from m n branches node may e =
    let s = next_stems p (pairs p) from branches m n e in
    subst (IsNode p) (sym s.is) (child_is_node p s.prefix s.last (record { alive = alive s; short = s.within; allows = s.allows }))
  where
    branch_alive : (branches : Bool) → branches ≡ true → Branches p m branches → IsAlive (problem_at p m)
    branch_alive true e may = may.0
    branch_alive false e may = absurd (true≢false (sym e))

    alive : (s : Stems p (pairs p) branches m n) → IsAlive (problem_at p s.prefix)
    alive s = elim s.stem [
      | inl both ↦ subst (λ c. IsAlive (problem_at p c)) both.1 (branch_alive branches both.0 may)
      | inr more ↦ (child_within p s.prefix more.0 more.1 (subst (IsNode p) more.2 node)).alive
    ]

-- below a dead or full node there is none
none_below : (p : Problem) (m x : List Rel) → Branches p m false → IsNode p x → IsTrue (is_below m x) → Begins m x → ⊥
none_below p m x may node after begins = by begins.0 begins.1
  where
    dead : (t : Rel) → IsChild p m t → ⊥
    dead t child = elim may [ inl is_dead ↦ is_dead child.alive | inr full ↦ let short = child.short in absurd (omega arith) ]

    by : (rest : List Rel) → x ≡ m ++ rest → ⊥
    by [] e = true≢false (sym after ∙ ap (is_below m) (e ∙ append-nil m) ∙ below_itself m)
    by (t ∷ rest) e = dead t (child_within p m t rest (subst (IsNode p) e node))

pub covers : (p : Problem) (from m x : List Rel) (branches : Bool) → Branches p m branches → IsShownNode p from x → IsTrue (is_below m x) → IsPassed (listing_next p from branches m) x
covers p from m x branches may shown after =
    next_covers (map (allowed p) (pairs p)) from branches m x (node_along p x shown.0) shown.1 after (λ none begins.
    none_below p m x (subst (Branches p m) none may) shown.0 after begins)

pub next_is_next : (p : Problem) (from m : List Rel) (branches : Bool) → IsShownNode p from m → Branches p m branches → IsNextNode p from m (listing_next p from branches m)
next_is_next p from m branches shown may =
    by (listing_next p from branches m) (λ n e. next_is_node p from m n branches shown.0 may e) (λ n e. next_shown (map (allowed p) (pairs p)) from branches m n shown.1 e)
    (λ n e. next_after (map (allowed p) (pairs p)) from branches m n e) (λ x one after. covers p from m x branches may one after)
  where
    by : (next : Option (List Rel)) → ((n : List Rel) → next ≡ Some n → IsNode p n) → ((n : List Rel) → next ≡ Some n → is_shown from n ≡ true) →
        ((n : List Rel) → next ≡ Some n → is_below m n ≡ true) → ((x : List Rel) → IsShownNode p from x → IsTrue (is_below m x) → IsPassed next x) → IsNextNode p from m next
    by None node shown after passed = λ x one above. true≢false (passed x one above)
    by (Some n) node shown after passed = record {
      node = (node n refl, shown n refl);
      after = after n refl;
      least = λ x one above. not_from_false (is_below x n) (passed x one above);
    }

-- there is one next node at most
pub one_next : (p : Problem) (from m : List Rel) (a b : Option (List Rel)) → IsNextNode p from m a → IsNextNode p from m b → a ≡ b
one_next p from m None None f g = refl
one_next p from m None (Some b) f g = absurd (f b g.node g.after)
one_next p from m (Some a) None f g = absurd (g a f.node f.after)
one_next p from m (Some a) (Some b) f g = elim (below_cases a b) [
  | inl less ↦ absurd (true≢false (sym less ∙ not-true (is_below a b) (g.least a f.node f.after)))
  | inr (inl same) ↦ (λ i. Some (same i))
  | inr (inr more) ↦ absurd (true≢false (sym more ∙ not-true (is_below b a) (f.least b g.node g.after)))
]

-- what is shown is a prefix of the start or not below it
pub prefix_shown : (m rest : List Rel) → is_shown (m ++ rest) m ≡ true
prefix_shown [] [] = refl
prefix_shown [] (r ∷ rest) = refl
prefix_shown (r ∷ m) rest = or_right (nat_lt (rank_of r) (rank_of r)) (same_rel r r && is_shown (m ++ rest) m) (and_from (same_rel r r) (is_shown (m ++ rest) m) (itself r) (prefix_shown m rest))

pub prefix_or_not_below : (from m : List Rel) → is_shown from m ≡ true → Begins m from ⊎ IsTrue (not (is_below m from))
prefix_or_not_below [] [] h = inl ([], refl)
prefix_or_not_below [] (r ∷ m) h = inr refl
prefix_or_not_below (f ∷ from) [] h = inl (f ∷ from, refl)
prefix_or_not_below (f ∷ from) (r ∷ m) h = elim (or_cases (nat_lt (rank_of f) (rank_of r)) (same_rel f r && is_shown from m) h) [
  | inl less ↦ inr (not_from_false (is_below (r ∷ m) (f ∷ from)) (below_apart (f ∷ from) (r ∷ m) (below_branch [] f r from m (ltb-true (rank_of f) (rank_of r) less))))
  | inr both ↦
      let parts = and_parts (same_rel f r) (is_shown from m) both in
      let one = one_rel f r parts.0 in
      elim (prefix_or_not_below from m parts.1) [
        | inl prefix ↦ let rest = prefix.1 in inl (prefix.0, λ i. one i ∷ rest i)
        | inr above ↦ inr (subst (λ q. IsTrue (not (is_below (r ∷ m) (q ∷ from)))) (sym one) (not_from_false (is_below (r ∷ m) (r ∷ from)) (not_below_rest r m from (not-true (is_below m from) above))))
      ]
]

shown_from_either : (from m : List Rel) → Begins m from ⊎ IsTrue (not (is_below m from)) → is_shown from m ≡ true
shown_from_either from m (inl prefix) = subst (λ from. is_shown from m ≡ true) (sym prefix.1) (prefix_shown m prefix.0)
shown_from_either from m (inr above) = shown_from_order from m (not-true (is_below m from) above)

pub expected_is_next_law : ExpectedIsNext
expected_is_next_law = record {
  next = next_is_next;
  one = one_next;
  shown = λ from m. (prefix_or_not_below from m, shown_from_either from m);
}
