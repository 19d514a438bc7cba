-- The children of prefixes that are known to be alive: where the sets that are kept stay right, and what one says of a node.
use Rattle.std.proofs.Common.{◌≡◌, ℕ, zero, suc, ◌+◌, ◌≤◌, ◌⊎◌, inl, inr, List, [], ◌∷◌, ◌++◌, length, take, sym, ap, ◌∙◌, subst, arith, IsTrue, length-append, take_all}
use Rattle.std.proofs.lemmas.List.{take-append-le}
use Rattle.std.specs.Prelude.{◌↔◌, Some, slice_get}
use Rattle.rcc5_core.specs.declared.Rel.{Rel}
use Rattle.rcc5_core.specs.declared.RelSet.{RelSet}
use Rattle.rcc5_core.specs.RelationSet.{has}
use Rattle.world_model.specs.Problem.{Problem}
use Rattle.world_model.specs.Alive.{problem_at, IsAlive}
use Rattle.world_search.specs.declared.opens.Opens.{Opens}
use Rattle.world_search.specs.Opens.{Keeps}
use Rattle.world_search.specs.Walking.{AreOpenAfter, AreKnown}

-- what is known of a path is known of any that begins with it
pub known_longer : (p : Problem) (m n rest : List Rel) (opens : Opens) → n ≡ m ++ rest → AreKnown p m opens → AreKnown p n opens
known_longer p m n rest opens is known = λ depth set kept.
    let here = known depth set kept in
    let upto = here.0 in
    let long = ap length is in
    let more = length-append m rest in
    (omega arith, subst (λ c. AreOpenAfter p c set) (sym (ap (take depth) is ∙ take-append-le depth m rest upto)) here.1)

-- of a first part of it is known what is kept of prefixes that are no longer
pub known_shorter : (p : Problem) (m c rest : List Rel) (k : ℕ) (old new : Opens) → m ≡ c ++ rest → k ≡ length c → AreKnown p m old →
    ((depth : ℕ) (set : RelSet) → Keeps new depth set → Keeps old depth set × (depth ≤ k)) → AreKnown p c new
known_shorter p m c rest k old new is long known back = λ depth set kept.
    let was = back depth set kept in
    let within = was.1 in
    let upto : depth ≤ length c = omega arith in
    (upto, subst (λ x. AreOpenAfter p x set) (ap (take depth) is ∙ take-append-le depth c rest upto) (known depth set was.0).1)

-- a path is known still with its own set
pub known_with : (p : Problem) (m : List Rel) (k : ℕ) (set : RelSet) (old new : Opens) → k ≡ length m → AreKnown p m old → AreOpenAfter p m set →
    ((depth : ℕ) (s : RelSet) → Keeps new depth s → Keeps old depth s ⊎ ((depth ≡ k) × (s ≡ set))) → AreKnown p m new
known_with p m k set old new long known after each = λ depth s kept. by depth s (each depth s kept)
  where
    by : (depth : ℕ) (s : RelSet) → Keeps old depth s ⊎ ((depth ≡ k) × (s ≡ set)) → (depth ≤ length m) × AreOpenAfter p (take depth m) s
    by depth s (inl before) = known depth s before
    by depth s (inr own) =
        let at = own.0 in
        let whole : length m ≤ depth = omega arith in
        (omega arith, subst (λ x. AreOpenAfter p x s) (sym (take_all depth m whole)) (subst (AreOpenAfter p m) (sym own.1) after))

-- the last relation of a position
last_splits : (m : List Rel) (r : Rel) (k : ℕ) → length m ≡ k + 1 → slice_get m k ≡ Some r → m ≡ take k m ++ r ∷ []
last_splits [] r k long at = absurd (omega arith)
last_splits (x ∷ []) r zero long at = let same : x ≡ r = cc in λ i. same i ∷ []
last_splits (x ∷ []) r (suc k) long at = absurd (omega arith)
last_splits (x ∷ (y ∷ m)) r zero long at = absurd (omega arith)
last_splits (x ∷ (y ∷ m)) r (suc k) long at = let rest = last_splits (y ∷ m) r k (omega arith) at in λ i. x ∷ rest i

-- the set of a node without its last relation has this relation exactly where the node is alive
pub known_says : (p : Problem) (m : List Rel) (opens : Opens) (k : ℕ) (set : RelSet) (r : Rel) → AreKnown p m opens → length m ≡ k + 1 → Keeps opens k set →
    slice_get m k ≡ Some r → IsTrue (has set r) ↔ IsAlive (problem_at p m)
known_says p m opens k set r known long kept at =
    subst (λ x. IsTrue (has set r) ↔ IsAlive (problem_at p x)) (sym (last_splits m r k long at)) ((known k set kept).1 r)
