-- The nodes that a budget counts, and the cut at which it stops.
use Rattle.std.specs.Prelude.{◌≡◌, ℕ, ◌<◌, ◌≤◌, ◌⊎◌, ◌↔◌, not, List, [], ◌∷◌, ◌++◌, length, Option, Some, None, Contains, IsTrue, slice_index_or}
use Rattle.rcc5_core.specs.declared.Rel.{Rel}
use Rattle.rcc5_core.specs.RelationSet.{has}
use Rattle.world_model.specs.Problem.{Problem, pairs, pair_count}
use Rattle.world_model.specs.Listing.{is_below, is_between, ascends, IsListing}
use Rattle.world_model.specs.Alive.{allowed, problem_at, IsAlive}

-- the pair with a number
abbrev pub pair_at : Problem → ℕ → ℕ × ℕ
pair_at p k = slice_index_or (pairs p) k (0, 0)

-- an alive prefix that is not yet full, followed by a relation that its next pair allows
pub record IsStep (p : Problem) (node : List Rel) : Type 0 where
  pub prefix : List Rel
  pub rel : Rel
  pub follows : node ≡ prefix ++ rel ∷ []
  pub not_full : length prefix < pair_count p
  pub alive : IsAlive (problem_at p prefix)
  pub allows : IsTrue (has (allowed p (pair_at p (length prefix))) rel)

-- a node is the empty position, or such a step
abbrev pub IsNode : Problem → List Rel → Type 0
IsNode p m = (m ≡ []) ⊎ IsStep p m

-- a node that is not below the start
abbrev pub IsNodeFrom : Problem → List Rel → List Rel → Type 0
IsNodeFrom p from m = IsNode p m × IsTrue (not (is_below m from))

-- the strictly ascending list whose members are exactly the nodes from one position on and below another
pub record IsNodeList (p : Problem) (from : List Rel) (to : Option (List Rel)) (nodes : List (List Rel)) : Type 0 where
  pub ascending : IsTrue (ascends nodes)
  pub members : (m : List Rel) → Contains nodes m ↔ (IsNode p m × IsTrue (is_between from to m))

-- a count has reached a limit, where one is given
abbrev pub IsReached : Option ℕ → ℕ → Type 0
IsReached None count = ⊥
IsReached (Some limit) count = limit ≤ count

-- before m stand so many nodes from the start on that their limit is reached
pub record HasNodesBefore (p : Problem) (from : List Rel) (limit : Option ℕ) (m : List Rel) : Type 0 where
  pub nodes : List (List Rel)
  pub exactly : IsNodeList p from (Some m) nodes
  pub reached : IsReached limit (length nodes)

-- before m stand so many possible worlds from the start on that their limit is reached
pub record HasWorldsBefore (p : Problem) (from : List Rel) (limit : Option ℕ) (m : List Rel) : Type 0 where
  pub worlds : List (List Rel)
  pub exactly : IsListing p from (Some m) worlds
  pub reached : IsReached limit (length worlds)

-- a budget of nodes and worlds is used up before m
abbrev pub IsSpent : Problem → List Rel → Option ℕ → Option ℕ → List Rel → Type 0
IsSpent p from nodes worlds m = HasNodesBefore p from nodes m ⊎ HasWorldsBefore p from worlds m

-- the first node from the start on before which the budget is used up
pub record IsFirstSpent (p : Problem) (from : List Rel) (nodes worlds : Option ℕ) (m : List Rel) : Type 0 where
  pub node : IsNodeFrom p from m
  pub spent : IsSpent p from nodes worlds m
  pub first : (other : List Rel) → IsNodeFrom p from other → IsTrue (is_below other m) → IsSpent p from nodes worlds other → ⊥

-- the cut: that node, or none where there is no such node
abbrev pub IsCut : Problem → List Rel → Option ℕ → Option ℕ → Option (List Rel) → Type 0
IsCut p from nodes worlds None = (m : List Rel) → IsNodeFrom p from m → IsSpent p from nodes worlds m → ⊥
IsCut p from nodes worlds (Some m) = IsFirstSpent p from nodes worlds m
