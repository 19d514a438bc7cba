-- The steps of a report: watchers are picked, see all worlds, and what they report is put.
use Rattle.std.specs.Prelude.{◌≡◌, ◌<◌, ℕ, List, [], ◌++◌, length, slice_index_or, bytes_eq, true, false, ◌==◌, if◌then◌else◌, Option, None, Some}
use Rattle.rcc5_core.specs.declared.Rel.{Rel}
use Rattle.world_model.specs.Problem.{Problem}
use Rattle.world_model.specs.Trial.{worlds_between}
use Rattle.world_model.specs.Saturated.{saturated}
use Rattle.world_watch.specs.Steps.{Texts}
use Rattle.run_ends.specs.declared.Status.{Status}
use Rattle.run_ends.specs.declared.Status.TheVariants.{Done, NoWorld}

-- the first of some watchers with a name, by its place, or none where no watcher has it
abbrev pub IsFirstNamed : {W : Type 0} → (W → List ℕ) → List W → List ℕ → Option ℕ → Type 0
IsFirstNamed name ws kind None = (k : ℕ) (d : _) → k < length ws → bytes_eq (name (slice_index_or ws k d)) kind ≡ false
IsFirstNamed name ws kind (Some place) =
    (place < length ws) × ((d : _) → bytes_eq (name (slice_index_or ws place d)) kind ≡ true) × ((k : ℕ) (d : _) → k < place → bytes_eq (name (slice_index_or ws k d)) kind ≡ false)

-- the possible worlds of a problem, in order
abbrev pub all_worlds : Problem → List (List Rel)
all_worlds p = worlds_between p [] None

-- a watcher has seen some worlds: after any further ones it would report what it would have reported after these and those
pub record SawAll {W : Type 0} (name : W → List ℕ) (text : W → Texts) (p : Problem) (worlds : List (List Rel)) (old new : W) : Type 0 where
  pub named : name new ≡ name old
  pub seen : (rest : List (List Rel)) → text new p rest ≡ text old p (worlds ++ rest)

-- each of some watchers has seen some worlds
pub record HaveSeen {W : Type 0} (name : W → List ℕ) (text : W → Texts) (p : Problem) (worlds : List (List Rel)) (old new : List W) : Type 0 where
  pub counted : length new ≡ length old
  pub each : (k : ℕ) (d : W) → k < length old → SawAll name text p worlds (slice_index_or old k d) (slice_index_or new k d)

-- watchers have seen all worlds of a problem, which are so many
abbrev pub AreShownAll : {W : Type 0} → (W → List ℕ) → (W → Texts) → Problem → List W → List W → ℕ → Type 0
AreShownAll name text p old new count = HaveSeen name text p (all_worlds p) old new × (count ≡ saturated (length (all_worlds p)))

-- a good end by the number of worlds
abbrev pub status_at : ℕ → Status
status_at count = if count == 0 then NoWorld else Done
