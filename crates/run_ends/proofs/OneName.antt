-- What a run leaves that writes one name alone.
use Rattle.std.proofs.Common.{ℕ, List, [], ◌∷◌, Contains, refl, sym, subst, arith}
use Rattle.outer_store.specs.Contents.{Contents, OthersKept}
use Rattle.outer_store.specs.Faults.{Counts, Rose}
use Rattle.run_ends.specs.Runs.{HasFailed, AreKeptBut}

pub is_first : (name : List ℕ) (names : List (List ℕ)) → Contains (name ∷ names) name
is_first name names = (0, omega arith, refl)

-- the others are kept
pub kept_but_one : (name : List ℕ) (old new : Contents) → OthersKept name old new → AreKeptBut (name ∷ []) old new
kept_but_one name old new others other apart = others other (λ e. apart (subst (Contains (name ∷ [])) (sym e) (is_first name [])))

-- a failure is one of that name
pub write_failed : (name : List ℕ) (before now : Counts) → Rose (before name) (now name) → HasFailed (name ∷ []) before now
write_failed name before now rose = record { name = name; named = is_first name []; rose = rose }
