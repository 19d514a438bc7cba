-- What is known of the assumptions: how many are true, and by which levels.
use Rattle.std.specs.Prelude.{◌≡◌, ℕ, ◌+◌, ◌<◌, ◌≤◌, true, List, [], ◌∷◌, ◌++◌, length, min, take, slice_index_or}
use Rattle.watch_arena.specs.declared.places.Place.{Place}
use Rattle.watch_arena.specs.Places.{place_at, is_true, is_assumed}
use Rattle.watch_arena.specs.Trails.{TrailState, places_up_to}

-- the assumptions, how many of the first are known to hold, how many of the first levels begin with an assumption, and for
-- each of these how many assumptions hold before it, which is the number of its own
pub record AssumptionsState : Type 0 where
  pub lits : List ℕ
  pub holding : ℕ
  pub guided : ℕ
  pub holding_before : List ℕ

-- how many of the first assumptions hold by the levels up to this one
abbrev pub holding_by : AssumptionsState → ℕ → ℕ
holding_by a level = slice_index_or a.holding_before level a.holding

-- the assumption of a number
abbrev pub assumption_at : AssumptionsState → ℕ → ℕ
assumption_at a number = slice_index_or a.lits number 0

-- a literal is the first assumption that is not known to hold
pub record IsNext (a : AssumptionsState) (lit : ℕ) : Type 0 where
  pub within : a.holding < length a.lits
  pub at : lit ≡ assumption_at a a.holding

-- what is known by the levels up to this one
abbrev pub lowered : AssumptionsState → ℕ → AssumptionsState
lowered a level = record a { holding = holding_by a level; guided = min a.guided level; holding_before = take level a.holding_before }

-- one level more begins with the next assumption
abbrev pub begun : AssumptionsState → AssumptionsState
begun a = record a { guided = a.guided + 1; holding_before = a.holding_before ++ a.holding ∷ [] }

-- the places of a trail and its level, and what is known of the assumptions by these
pub record Guide : Type 0 where
  pub places : List Place
  pub level : ℕ
  pub assumptions : AssumptionsState

-- what is known of the assumptions by a trail
abbrev pub by_trail : TrailState → AssumptionsState → Guide
by_trail t a = record { places = t.places; level = t.level; assumptions = a }

-- what holds by some levels is true by them, and the level after them begins with the next assumption
pub record IsMarked (g : Guide) : Type 0 where
  pub within : g.assumptions.guided ≤ g.level
  pub counted : length g.assumptions.holding_before ≡ g.assumptions.guided
  pub few : g.assumptions.holding ≤ length g.assumptions.lits
  pub rising : (a b : ℕ) → a ≤ b → holding_by g.assumptions a ≤ holding_by g.assumptions b
  pub holding : (level number : ℕ) → level ≤ g.assumptions.guided → number < holding_by g.assumptions level → is_true (places_up_to g.places level) (assumption_at g.assumptions number) ≡ true
  pub named : (level : ℕ) → level < g.assumptions.guided → holding_by g.assumptions level < length g.assumptions.lits
  pub own : (p level : ℕ) → p < length g.places → is_assumed (place_at g.places p) ≡ true → (place_at g.places p).level ≡ level + 1 → level < g.assumptions.guided → (place_at g.places p).lit ≡ assumption_at g.assumptions (holding_by g.assumptions level)

-- where there are more levels, all assumptions hold
pub record IsGuided (g : Guide) : Type 0 where
  pub marked : IsMarked g
  pub free : g.assumptions.guided < g.level → g.assumptions.holding ≡ length g.assumptions.lits
