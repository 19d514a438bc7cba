-- The steps of watchers.
use Rattle.std.specs.Prelude.{◌≡◌, ◌<◌, ◌≤◌, ℕ, List, ◌∷◌, length, slice_index_or}
use Rattle.rcc5_core.specs.declared.Rel.{Rel}
use Rattle.world_model.specs.Problem.{Problem}

-- what a watcher would report of a problem after a further list of worlds
abbrev pub Texts : Type 0
Texts = Problem → List (List Rel) → List ℕ

-- the text of a problem is from now on as if a world stood before all to come
abbrev pub HasSeen : Problem → List Rel → Texts → Texts → Type 0
HasSeen p table old new = (rest : List (List Rel)) → new p rest ≡ old p (table ∷ rest)

-- the texts are as before
abbrev pub AreKept : Texts → Texts → Type 0
AreKept old new = (p : Problem) (rest : List (List Rel)) → new p rest ≡ old p rest

-- a watcher took the step of a world, and kept its name
pub record Took {W : Type 0} (name : W → List ℕ) (text : W → Texts) (p : Problem) (table : List Rel) (old new : W) : Type 0 where
  pub named : name new ≡ name old
  pub seen : HasSeen p table (text old) (text new)

-- a watcher is as before, as far as its meanings tell
pub record Holds {W : Type 0} (name : W → List ℕ) (text : W → Texts) (old new : W) : Type 0 where
  pub named : name new ≡ name old
  pub kept : AreKept (text old) (text new)

-- a watcher that has seen nothing: it has its kind's name, and reports the kind's text of any list of worlds
pub record IsNew {W : Type 0} (name : W → List ℕ) (text : W → Texts) (kind : List ℕ) (report : Texts) (w : W) : Type 0 where
  pub named : name w ≡ kind
  pub told : (p : Problem) (tables : List (List Rel)) → text w p tables ≡ report p tables

-- each watcher took the step
pub record AllTook {W : Type 0} (name : W → List ℕ) (text : W → Texts) (p : Problem) (table : List Rel) (old new : List W) : Type 0 where
  pub counted : length new ≡ length old
  pub took : (k : ℕ) (d : W) → k < length old → Took name text p table (slice_index_or old k d) (slice_index_or new k d)

-- some first watchers took the step, and the others hold what they held
pub record PrefixTook {W : Type 0} (name : W → List ℕ) (text : W → Texts) (p : Problem) (table : List Rel) (old new : List W) : Type 0 where
  pub counted : length new ≡ length old
  pub count : ℕ
  pub took : (k : ℕ) (d : W) → k < count → k < length old → Took name text p table (slice_index_or old k d) (slice_index_or new k d)
  pub held : (k : ℕ) (d : W) → count ≤ k → k < length old → Holds name text (slice_index_or old k d) (slice_index_or new k d)
