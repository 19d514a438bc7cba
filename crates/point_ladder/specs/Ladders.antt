-- What is left of the points along a path of relations, and which of them serve the needs there.
use Rattle.std.specs.Prelude.{◌≡◌, ℕ, ◌+◌, ◌/◌, ◌<◌, ◌≤◌, ◌↔◌, nat_lt, Bool, true, false, ◌&&◌, List, [], ◌∷◌, ◌++◌, length, Contains, IsTrue}
use Rattle.rcc5_core.specs.declared.Rel.{Rel}
use Rattle.world_model.specs.Problem.{Problem, is_problem, pairs, pair_count}
use Rattle.world_model.specs.Family.{IsPossibleWorld}
use Rattle.world_model.specs.Node.{pair_at}
use Rattle.world_model.specs.Alive.{Need, needs, is_in_need, bit_of, is_point, problem_at, IsAlive, point_at}
use Rattle.world_model.specs.Points.{forced_at}
use Rattle.bit_rows.specs.Rows.{SomePlace, BitRows, bit_in}
use Rattle.point_frames.specs.Frames.{AreWithin, Satisfies, AreRegionsMet}

-- a problem, and a path of relations for its first pairs
pub record LadderState : Type 0 where
  pub problem : Problem
  pub path : List Rel

-- a relation is put at the end of the path where that leads to an alive one, and else nothing changes
abbrev pub IsPushed : LadderState → LadderState → Rel → Bool → Type 0
IsPushed old new rel true = IsAlive (problem_at old.problem (old.path ++ rel ∷ [])) × (new ≡ record old { path = old.path ++ rel ∷ [] })
IsPushed old new rel false = (IsAlive (problem_at old.problem (old.path ++ rel ∷ [])) → ⊥) × (new ≡ old)

-- a ladder that stands at its start, and whose problem has just the worlds of another
pub record IsBoundOf (p : Problem) (s : LadderState) : Type 0 where
  pub valid : IsTrue (is_problem s.problem)
  pub pairs_are : pairs s.problem ≡ pairs p
  pub worlds : (t : List Rel) → IsPossibleWorld s.problem t ↔ IsPossibleWorld p t
  pub start : s.path ≡ []

-- the path goes on to an alive one, with which each world begins that begins with the old one
pub record IsAlong (old new : LadderState) : Type 0 where
  pub problem : new.problem ≡ old.problem
  pub rest : List Rel
  pub goes : new.path ≡ old.path ++ rest
  pub short : length new.path ≤ pair_count old.problem
  pub alive : IsAlive (problem_at old.problem new.path)
  pub only : (more : List Rel) → IsPossibleWorld old.problem (old.path ++ more) → (last : List Rel) × (more ≡ rest ++ last)

-- no world begins with a path
abbrev pub BeginsNone : Problem → List Rel → Type 0
BeginsNone p m = (rest : List Rel) → IsPossibleWorld p (m ++ rest) → ⊥

-- some of the points serve all needs of a problem
abbrev pub AreServed : Problem → List (List Bool) → (ℕ → Bool) → Type 0
AreServed q points some = (need : Need) → Contains (needs q) need → SomePlace (λ k. some k && is_in_need need (point_at points k))

-- the first row is the problem's points, and choices of them serve its needs just where they satisfy the others
pub record IsFrame (q : Problem) (points : List (List Bool)) (rows : BitRows) : Type 0 where
  pub width : rows.width ≡ length points / 64 + 1
  pub mask : (k : ℕ) → bit_in rows 0 k ≡ (nat_lt k (length points) && is_point q (point_at points k))
  pub owes : (some : ℕ → Bool) → AreWithin some (bit_in rows 0) → Satisfies rows rows.count some ↔ AreServed q points some

-- the bits that points have of a concept
abbrev pub bits_at : List (List Bool) → ℕ → ℕ → Bool
bits_at points c k = bit_of (point_at points k) c

-- two sets are the points that have the concepts of a pair
pub record ShowsPair (pair : ℕ × ℕ) (points : List (List Bool)) (l r : ℕ → Bool) : Type 0 where
  pub left : (k : ℕ) → l k ≡ bits_at points pair.0 k
  pub right : (k : ℕ) → r k ≡ bits_at points pair.1 k

-- some of the points are in the occupied regions of so many pairs
abbrev pub PairsMet : Problem → List (List Bool) → ℕ → (ℕ → Bool) → Type 0
PairsMet p points count some = (pair : ℕ) → pair < count → AreRegionsMet (forced_at p pair) (bits_at points (pair_at p pair).0) (bits_at points (pair_at p pair).1) some

-- some of the points are in so many concepts
abbrev pub ConceptsMet : List (List Bool) → ℕ → (ℕ → Bool) → Type 0
ConceptsMet points count some = (c : ℕ) → c < count → SomePlace (λ k. some k && bits_at points c k)
