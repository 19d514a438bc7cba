-- Where the parts of a listing begin.
use Rattle.std.specs.Prelude.{◌≡◌, ◌<◌, ◌≤◌, ◌*◌, ◌⊎◌, ◌↔◌, ℕ, List, [], ◌∷◌, length, drop, min, All, Contains, IsTrue}
use Rattle.rcc5_core.specs.declared.Rel.{Rel}
use Rattle.world_model.specs.Problem.{Problem, pair_count}
use Rattle.world_model.specs.Listing.{ascends}
use Rattle.world_model.specs.Node.{IsNode}

-- the strictly ascending list whose members are exactly the nodes of a length
pub record IsLevel (p : Problem) (d : ℕ) (nodes : List (List Rel)) : Type 0 where
  pub ascending : IsTrue (ascends nodes)
  pub members : (m : List Rel) → Contains nodes m ↔ (IsNode p m × (length m ≡ d))

-- the most relations of a beginning: 16, or as many as there are pairs
abbrev pub deepest : Problem → ℕ
deepest p = min (pair_count p) 16

-- the least length of which there are so many nodes, or else the most: the beginnings are the empty position and the nodes of that
-- length without the first
pub record AreBeginnings (p : Problem) (count : ℕ) (positions : List (List Rel)) : Type 0 where
  pub depth : ℕ
  pub nodes : List (List Rel)
  pub level : IsLevel p depth nodes
  pub within : depth ≤ deepest p
  pub fewer : (d : ℕ) (shorter : List (List Rel)) → d < depth → IsLevel p d shorter → length shorter < count
  pub enough : (count ≤ length nodes) ⊎ (depth ≡ deepest p)
  pub are : positions ≡ [] ∷ drop 1 nodes

-- there is one list of beginnings, which ascends; none is longer than the pairs are many, and there are at most five times as many
-- as were asked for
pub record FactsOfBeginnings : Type 0 where
  pub one : (p : Problem) (count : ℕ) (a b : List (List Rel)) → AreBeginnings p count a → AreBeginnings p count b → a ≡ b
  pub ascending : (p : Problem) (count : ℕ) (positions : List (List Rel)) → AreBeginnings p count positions → IsTrue (ascends positions)
  pub short : (p : Problem) (count : ℕ) (positions : List (List Rel)) → AreBeginnings p count positions → All (λ m. length m ≤ pair_count p) positions
  pub few : (p : Problem) (count : ℕ) (positions : List (List Rel)) → 1 ≤ count → AreBeginnings p count positions → length positions ≤ 5 * count
