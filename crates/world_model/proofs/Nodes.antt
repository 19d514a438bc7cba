-- Nodes of a problem: what the relations on the way to one show.
use Rattle.std.proofs.Common.{◌≡◌, ℕ, ◌<◌, ◌≤◌, true, not, ◌⊎◌, inl, inr, List, [], ◌∷◌, ◌++◌, length, get_or, refl, sym, ap, ◌∙◌, subst, arith, append_assoc, append-nil, length-append}
use Rattle.std.proofs.Math.Seq.{get_or-append_seam}
use Rattle.std.proofs.lemmas.Bool.{not-true}
use Rattle.rcc5_core.specs.declared.Rel.{Rel}
use Rattle.rcc5_core.specs.declared.Rel.TheVariants.{Equals}
use Rattle.rcc5_core.specs.RelationSet.{has, is_empty_set}
use Rattle.world_model.specs.Problem.{Problem, pairs, pair_count}
use Rattle.world_model.specs.Alive.{allowed, problem_at, IsAlive}
use Rattle.world_model.specs.Node.{IsNode, pair_at}
use Rattle.world_model.proofs.Members.{all_at, In-get_or}
use Rattle.world_model.proofs.PointPositions.{prefix_is_alive}
use Rattle.world_model.proofs.PointOnce.{narrowed_inside}
use Rattle.world_model.proofs.Relations.{narrowed_has}

-- what a relation within a node shows: its prefix is alive and not full, and the next pair allows the relation
pub record IsChild (p : Problem) (c : List Rel) (t : Rel) : Type 0 where
  pub alive : IsAlive (problem_at p c)
  pub short : length c < pair_count p
  pub allows : has (allowed p (pair_at p (length c))) t ≡ true

-- where a relation after a prefix stands in a longer position: it is the last, or the rest follows it
split_last : (c : List Rel) (t : Rel) (rest prefix : List Rel) (rel : Rel) → c ++ t ∷ rest ≡ prefix ++ rel ∷ [] →
    ((prefix ≡ c) × (rel ≡ t)) ⊎ ((more : List Rel) × (prefix ≡ c ++ t ∷ more))
split_last [] t rest [] rel e = inl (refl, cc)
split_last [] t rest (q ∷ qs) rel e = let same : q ≡ t = cc in inr (qs, λ i. same i ∷ qs)
split_last (x ∷ c) t rest [] rel e = let none : c ++ t ∷ rest ≡ [] = cc in absurd (longer c none)
  where
    longer : (c : List Rel) → c ++ t ∷ rest ≡ [] → ⊥
    longer [] e = cc
    longer (x ∷ c) e = cc
split_last (x ∷ c) t rest (q ∷ qs) rel e =
    let tail : c ++ t ∷ rest ≡ qs ++ rel ∷ [] = cc in
    let head : q ≡ x = cc in
    elim (split_last c t rest qs rel tail) [
      | inl ends ↦ let same = ends.0 in inl (λ i. head i ∷ same i, ends.1)
      | inr on ↦ let same = on.1 in inr (on.0, λ i. head i ∷ same i)
    ]

-- each relation of an alive position is allowed
allowed_along : (p : Problem) (m : List Rel) (k : ℕ) → k < length m → k < pair_count p → IsAlive (problem_at p m) →
    has (allowed p (pair_at p k)) (get_or m k Equals) ≡ true
allowed_along p m k in_m in_p a =
    let some : not (is_empty_set (allowed (problem_at p m) (pair_at p k))) ≡ true =
    all_at (λ pair. not (is_empty_set (allowed (problem_at p m) pair))) a.allow (In-get_or (pairs p) k (0, 0) in_p) in
    narrowed_has (allowed p (pair_at p k)) (get_or m k Equals) (ap is_empty_set (sym (narrowed_inside p m k in_m in_p)) ∙ not-true (is_empty_set (allowed (problem_at p m) (pair_at p k))) some)

-- a node has no more relations than there are pairs
pub node_within : (p : Problem) (m : List Rel) → IsNode p m → length m ≤ pair_count p
node_within p m (inl empty) = let none : length m ≡ 0 = ap length empty in omega arith
node_within p m (inr step) =
    let same = ap length step.follows in
    let more = length-append step.prefix (step.rel ∷ []) in
    let room = step.not_full in
    omega arith

-- each relation of a node is a child of its prefix
pub child_within : (p : Problem) (c : List Rel) (t : Rel) (rest : List Rel) → IsNode p (c ++ t ∷ rest) → IsChild p c t
child_within p c t rest (inl empty) =
    let none = ap length empty in
    let more = length-append c (t ∷ rest) in
    absurd (omega arith)
child_within p c t rest (inr step) = elim (split_last c t rest step.prefix step.rel step.follows) [
  | inl ends ↦ record {
    alive = subst (λ m. IsAlive (problem_at p m)) ends.0 step.alive;
    short = subst (λ m. length m < pair_count p) ends.0 step.not_full;
    allows = subst (λ r. has (allowed p (pair_at p (length c))) r ≡ true) ends.1 (subst (λ m. has (allowed p (pair_at p (length m))) step.rel ≡ true) ends.0 step.allows);
  }
  | inr on ↦
      let alive : IsAlive (problem_at p (c ++ t ∷ on.0)) = subst (λ m. IsAlive (problem_at p m)) on.1 step.alive in
      let long = ap length on.1 in
      let more = length-append c (t ∷ on.0) in
      let room = step.not_full in
      let short : length c < pair_count p = omega arith in
      let there_is : get_or (c ++ t ∷ on.0) (length c) Equals ≡ t = get_or-append_seam c t on.0 Equals in
      record {
        alive = prefix_is_alive p c (t ∷ on.0) alive;
        short = short;
        allows = ap (has (allowed p (pair_at p (length c)))) (sym there_is) ∙ allowed_along p (c ++ t ∷ on.0) (length c) (omega arith) short alive;
      }
]

-- a child is a node
pub child_is_node : (p : Problem) (c : List Rel) (t : Rel) → IsChild p c t → IsNode p (c ++ t ∷ [])
child_is_node p c t child = inr (record { prefix = c; rel = t; follows = refl; not_full = child.short; alive = child.alive; allows = child.allows })

-- a prefix of a node is a node
pub prefix_is_node : (p : Problem) (c rest : List Rel) → IsNode p (c ++ rest) → IsNode p c
prefix_is_node p c [] node = subst (IsNode p) (append-nil c) node
prefix_is_node p c (t ∷ rest) node = elim (last_of c) [
  | inl none ↦ inl none
  | inr some ↦
      let whole : IsNode p (some.0 ++ some.1 ∷ t ∷ rest) = subst (λ m. IsNode p m) (ap (λ m. m ++ t ∷ rest) some.2 ∙ append_assoc some.0 (some.1 ∷ []) (t ∷ rest)) node in
      subst (IsNode p) (sym some.2) (child_is_node p some.0 some.1 (child_within p some.0 some.1 (t ∷ rest) whole))
]
  where
    last_of : (m : List Rel) → (m ≡ []) ⊎ ((front : List Rel) × (last : Rel) × (m ≡ front ++ last ∷ []))
    last_of [] = inl refl
    last_of (r ∷ m) = elim (last_of m) [
      | inl none ↦ inr ([], r, λ i. r ∷ none i)
      | inr some ↦ let same = some.2 in inr (r ∷ some.0, some.1, λ i. r ∷ same i)
    ]
