-- What beginnings are, by the lengths of their nodes.
use Rattle.std.proofs.Common.{◌≡◌, ℕ, zero, suc, ◌≤◌, ◌<◌, ◌+◌, ◌*◌, ◌⊎◌, inl, inr, List, [], ◌∷◌, length, refl, sym, ap, ◌∙◌, subst, true≢false, arith, IsTrue}
use Rattle.std.specs.Prelude.{drop, min, All}
use Rattle.std.proofs.lemmas.Bool.{cases_order}
use Rattle.std.proofs.lemmas.List.{length-drop}
use Rattle.rcc5_core.specs.declared.Rel.{Rel}
use Rattle.world_model.specs.Problem.{Problem, pair_count}
use Rattle.world_model.specs.Listing.{is_below, ascends}
use Rattle.world_model.proofs.Members.{In, here, there, In-get_or}
use Rattle.world_model.proofs.Nodes.{node_within}
use Rattle.world_model.proofs.OrderLists.{ascends_first, ascends_rest, ascends_from}
use Rattle.listing_run.specs.Parts.Beginnings.{deepest, IsLevel, AreBeginnings, FactsOfBeginnings}
use Rattle.listing_run.specs.Parts.Levels.{level_by_trial}
use Rattle.listing_run.proofs.parts.LevelLemmas.{is_level, one_level, in_level, level_within}

-- none of the shorter lengths has so many nodes
abbrev pub AreFewer : Problem → ℕ → ℕ → Type 0
AreFewer p count depth = (d : ℕ) → d < depth → length (level_by_trial p d) < count

-- the nodes of a length are found, and none of the shorter ones has so many
pub record IsAtDepth (p : Problem) (count most depth : ℕ) (nodes : List (List Rel)) : Type 0 where
  pub level : nodes ≡ level_by_trial p depth
  pub within : depth ≤ most
  pub fewer : AreFewer p count depth

pub none_fewer : (p : Problem) (count : ℕ) → AreFewer p count 0
none_fewer p count d h = absurd (omega arith)

pub one_fewer : (p : Problem) (count depth : ℕ) → AreFewer p count depth → length (level_by_trial p depth) < count → AreFewer p count (depth + 1)
one_fewer p count depth fewer this d h = elim (cases_order d depth) [
  | inl same ↦ subst (λ d. length (level_by_trial p d) < count) (sym same) this
  | inr (inl less) ↦ fewer d less
  | inr (inr more) ↦ absurd (omega arith)
]

-- where this length has as many, or is the most, the beginnings are found
pub found : (p : Problem) (count most pairs depth : ℕ) (nodes positions : List (List Rel)) → IsAtDepth p count most depth nodes → pairs ≡ pair_count p → most ≡ min pairs 16 →
    (count ≤ length nodes) ⊎ (most ≤ depth) → positions ≡ [] ∷ drop 1 nodes → AreBeginnings p count positions
found p count most pairs depth nodes positions at counted is enough are =
    let within = at.within in
    let same : most ≡ deepest p = is ∙ ap (λ k. min k 16) counted in
    record {
      depth = depth;
      nodes = nodes;
      level = subst (IsLevel p depth) (sym at.level) (is_level p depth (omega arith));
      within = omega arith;
      fewer = λ d shorter less level. subst (λ list. length list < count) (one_level p d (level_by_trial p d) shorter (is_level p d (omega arith)) level) (at.fewer d less);
      enough = elim enough [ inl many ↦ inl many | inr last ↦ inr (omega arith) ];
      are = are;
    }

module _ {p : Problem} {count : ℕ} where
  -- of two lengths neither is less
  no_less : {a b : List (List Rel)} (x : AreBeginnings p count a) (y : AreBeginnings p count b) → x.depth < y.depth → ⊥
  no_less x y less = elim x.enough [
    | inl many ↦ let few = y.fewer x.depth x.nodes less x.level in absurd (omega arith)
    | inr most ↦ let within = y.within in absurd (omega arith)
  ]

  one_depth : {a b : List (List Rel)} (x : AreBeginnings p count a) (y : AreBeginnings p count b) → x.depth ≡ y.depth
  one_depth x y = elim (cases_order x.depth y.depth) [
    | inl same ↦ same
    | inr (inl less) ↦ absurd (no_less x y less)
    | inr (inr more) ↦ absurd (no_less y x more)
  ]

  one_list : (a b : List (List Rel)) → AreBeginnings p count a → AreBeginnings p count b → a ≡ b
  one_list a b x y =
      let nodes : x.nodes ≡ y.nodes = one_level p y.depth x.nodes y.nodes (subst (λ d. IsLevel p d x.nodes) (one_depth x y) x.level) y.level in
      x.are ∙ ap (λ nodes. [] ∷ drop 1 nodes) nodes ∙ sym y.are

-- no position is below the empty one
above_empty : (m t : List Rel) → IsTrue (is_below m t) → IsTrue (is_below [] t)
above_empty [] [] h = h
above_empty (r ∷ m) [] h = absurd (true≢false (sym h))
above_empty m (s ∷ t) h = refl

rest_ascends : (nodes : List (List Rel)) → IsTrue (ascends nodes) → IsTrue (ascends ([] ∷ drop 1 nodes))
rest_ascends [] h = refl
rest_ascends (m ∷ nodes) h = ascends_from [] nodes (λ t i. above_empty m t (ascends_first m nodes h i)) (ascends_rest m nodes h)

rest_is_in : (nodes : List (List Rel)) (m : List Rel) → In m (drop 1 nodes) → In m nodes
rest_is_in [] m i = i
rest_is_in (n ∷ nodes) m i = there i

positions_short : (p : Problem) (d : ℕ) (nodes : List (List Rel)) → IsLevel p d nodes → (m : List Rel) → In m ([] ∷ drop 1 nodes) → length m ≤ pair_count p
positions_short p d nodes level m (here e) = let none = ap length e in omega arith
positions_short p d nodes level m (there i) = node_within p m (in_level p d nodes level m (rest_is_in nodes m i)).0

-- at most five times as many as were asked for
nodes_few : (p : Problem) (count d : ℕ) → d ≤ pair_count p → 1 ≤ count → AreFewer p count d → length (level_by_trial p d) ≤ 5 * count
nodes_few p count zero h some fewer = omega arith
nodes_few p count (suc d) h some fewer =
    let few = level_within p (level_by_trial p d) in
    let less = fewer d (omega arith) in
    omega arith

positions_few : (p : Problem) (count : ℕ) (positions : List (List Rel)) → 1 ≤ count → AreBeginnings p count positions → length positions ≤ 5 * count
positions_few p count positions some are =
    let within = are.within in
    let fewer : AreFewer p count are.depth = λ d less. are.fewer d (level_by_trial p d) less (is_level p d (omega arith)) in
    let same = ap length (one_level p are.depth are.nodes (level_by_trial p are.depth) are.level (is_level p are.depth (omega arith))) in
    let few = nodes_few p count are.depth (omega arith) some fewer in
    let long = ap length are.are in
    let rest = length-drop 1 are.nodes in
    omega arith

pub facts : FactsOfBeginnings
facts = record {
  one = λ p count a b x y. one_list a b x y;
  ascending = λ p count positions are. subst (λ list. IsTrue (ascends list)) (sym are.are) (rest_ascends are.nodes are.level.ascending);
  short = λ p count positions are. subst (λ list. All (λ m. length m ≤ pair_count p) list) (sym are.are)
      (λ k d h. positions_short p are.depth are.nodes are.level _ (In-get_or ([] ∷ drop 1 are.nodes) k d h));
  few = positions_few;
}
