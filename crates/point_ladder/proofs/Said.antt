-- Pairs that are narrowed to sets: what they allow then.
use Rattle.std.proofs.Common.{◌≡◌, ℕ, ◌<◌, ◌⊎◌, Bool, true, false, not, List, [], ◌∷◌, ◌++◌, inl, inr, refl, sym, ap, ◌∙◌, subst}
use Rattle.std.specs.Prelude.{filter_map}
use Rattle.std.proofs.lemmas.Bool.{cases_eq, both_ways, not-true}
use Rattle.rcc5_core.specs.declared.Rel.{Rel}
use Rattle.rcc5_core.specs.declared.RelSet.{RelSet}
use Rattle.rcc5_core.specs.RelationSet.{has, only, is_empty_set}
use Rattle.world_model.specs.Problem.{Problem, Constraint, pairs, pair_count, constraints, kept_articulations, as_constraint}
use Rattle.world_model.specs.Node.{pair_at}
use Rattle.world_model.specs.Alive.{allowed, is_about, IsAlive}
use Rattle.world_model.proofs.Members.{In, here, there, In-get_or, In-left, In-right, from_append, all_at, place_of, IsPlaced}
use Rattle.world_model.proofs.PointSets.{IsInside, some_rel, has_some}
use Rattle.world_model.proofs.PointWhole.{allows_at, allows_from, about_is, about_from}
use Rattle.world_model.proofs.PointOnce.{pairs_once, same_sets}
use Rattle.world_model.proofs.PointPositions.{with_narrowings}
use Rattle.point_ladder.proofs.Narrower.{IsNarrower}
use Rattle.point_ladder.proofs.AllowsSame.{AllowsSame, alive_less}
use Rattle.point_ladder.proofs.Decided.{only_is}

-- a pair with a set, as a statement
abbrev pub said_at : Problem → ℕ → RelSet → Constraint
said_at b k set = record { left = (pair_at b k).0; right = (pair_at b k).1; set = set }

-- what the pairs allow with one statement more: at most what they did
pub said_less : (b : Problem) (ns : List Constraint) (k : ℕ) (set : RelSet) (pair : ℕ × ℕ) (rel : Rel) → has (allowed (with_narrowings b (ns ++ said_at b k set ∷ [])) pair) rel ≡ true → has (allowed (with_narrowings b ns) pair) rel ≡ true
said_less b ns k set pair rel h =
    let stated = filter_map as_constraint (kept_articulations b) in
    allows_from (constraints (with_narrowings b ns)) pair rel (λ c i about.
    allows_at (constraints (with_narrowings b (ns ++ said_at b k set ∷ []))) pair rel c h (elim (from_append stated i) [
      | inl l ↦ In-left (ns ++ said_at b k set ∷ []) l
      | inr r ↦ In-right stated (In-left (said_at b k set ∷ []) r)
    ]) about)

-- at the pair itself at most the set
pub said_there : (b : Problem) (ns : List Constraint) (k : ℕ) (set : RelSet) (rel : Rel) → has (allowed (with_narrowings b (ns ++ said_at b k set ∷ [])) (pair_at b k)) rel ≡ true → has set rel ≡ true
said_there b ns k set rel h =
    allows_at (constraints (with_narrowings b (ns ++ said_at b k set ∷ []))) (pair_at b k) rel (said_at b k set) h
    (In-right (filter_map as_constraint (kept_articulations b)) (In-right ns (here refl))) (about_from (pair_at b k) (said_at b k set) refl refl)

-- and no less than both
pub said_both : (b : Problem) (ns : List Constraint) (k : ℕ) (set : RelSet) (pair : ℕ × ℕ) (rel : Rel) → has (allowed (with_narrowings b ns) pair) rel ≡ true → (pair_at b k ≡ pair → has set rel ≡ true) →
    has (allowed (with_narrowings b (ns ++ said_at b k set ∷ [])) pair) rel ≡ true
said_both b ns k set pair rel h now =
    let stated = filter_map as_constraint (kept_articulations b) in
    allows_from (constraints (with_narrowings b (ns ++ said_at b k set ∷ []))) pair rel (λ c i about. elim (from_append stated i) [
      | inl l ↦ allows_at (constraints (with_narrowings b ns)) pair rel c h (In-left ns l) about
      | inr r ↦ elim (from_append ns r) [
        | inl old ↦ allows_at (constraints (with_narrowings b ns)) pair rel c h (In-right stated old) about
        | inr new ↦ last c new about
      ]
    ])
  where
    same_pair : (q : ℕ × ℕ) → (q.0 ≡ pair.0) × (q.1 ≡ pair.1) → q ≡ pair
    same_pair q e = ap {B = ℕ × ℕ} (λ l. (l, q.1)) e.0 ∙ ap {B = ℕ × ℕ} (λ r. (pair.0, r)) e.1

    last : (c : Constraint) → In c (said_at b k set ∷ []) → is_about pair c ≡ true → has c.set rel ≡ true
    last c (here e) about = ap (λ (d : Constraint). has d.set rel) e ∙ now (same_pair (pair_at b k) (about_is pair (said_at b k set) (ap (λ (d : Constraint). is_about pair d) (sym e) ∙ about)))
    last c (there i) about = elim i [ ]

same_bits : (x y : Bool) → (x ≡ true → y ≡ true) → (y ≡ true → x ≡ true) → x ≡ y
same_bits true y to from = sym (to refl)
same_bits false true to from = from refl
same_bits false false to from = refl

-- so the pair allows just a smaller set
pub narrowed_there : (b : Problem) (ns : List Constraint) (k : ℕ) (set : RelSet) → IsInside set (allowed (with_narrowings b ns) (pair_at b k)) → allowed (with_narrowings b (ns ++ said_at b k set ∷ [])) (pair_at b k) ≡ set
narrowed_there b ns k set inside = same_sets (allowed (with_narrowings b (ns ++ said_at b k set ∷ [])) (pair_at b k)) set (λ rel.
    same_bits (has (allowed (with_narrowings b (ns ++ said_at b k set ∷ [])) (pair_at b k)) rel) (has set rel) (said_there b ns k set rel) (λ h. said_both b ns k set (pair_at b k) rel (inside rel h) (λ e. h)))

-- and another pair what it did
pub narrowed_other : (b : Problem) (ns : List Constraint) (k i : ℕ) (set : RelSet) → k < pair_count b → i < pair_count b → (i ≡ k → ⊥) →
    allowed (with_narrowings b (ns ++ said_at b k set ∷ [])) (pair_at b i) ≡ allowed (with_narrowings b ns) (pair_at b i)
narrowed_other b ns k i set in_k in_i apart = same_sets (allowed (with_narrowings b (ns ++ said_at b k set ∷ [])) (pair_at b i)) (allowed (with_narrowings b ns) (pair_at b i)) (λ rel.
    same_bits (has (allowed (with_narrowings b (ns ++ said_at b k set ∷ [])) (pair_at b i)) rel) (has (allowed (with_narrowings b ns) (pair_at b i)) rel) (said_less b ns k set (pair_at b i) rel)
    (λ h. said_both b ns k set (pair_at b i) rel h (λ e. absurd (apart (sym (pairs_once b k i in_k in_i e))))))

-- a smaller set that is not empty makes the problem narrower
pub said_is_narrower : (b : Problem) (ns : List Constraint) (k : ℕ) (set : RelSet) → k < pair_count b → IsInside set (allowed (with_narrowings b ns) (pair_at b k)) → is_empty_set set ≡ false →
    IsNarrower b ns (ns ++ said_at b k set ∷ []) k set
said_is_narrower b ns k set within inside some = record {
  within = within;
  smaller = inside;
  some = some;
  there = narrowed_there b ns k set inside;
  others = λ pair i. by pair (place_of i);
}
  where
    by : (pair : ℕ × ℕ) → IsPlaced pair (pairs b) → (allowed (with_narrowings b (ns ++ said_at b k set ∷ [])) pair ≡ allowed (with_narrowings b ns) pair) ⊎ (pair_at b k ≡ pair)
    by pair placed = elim (cases_eq placed.place k) [
      | inl same ↦ inr (ap (pair_at b) (sym same) ∙ placed.is (0, 0))
      | inr apart ↦ inl (subst (λ q. allowed (with_narrowings b (ns ++ said_at b k set ∷ [])) q ≡ allowed (with_narrowings b ns) q) (placed.is (0, 0)) (narrowed_other b ns k placed.place set within placed.within apart))
    ]

-- the set that the pair allows anyway changes nothing
pub said_is_same : (b : Problem) (ns : List Constraint) (k : ℕ) (set : RelSet) → k < pair_count b → set ≡ allowed (with_narrowings b ns) (pair_at b k) → AllowsSame b ns (ns ++ said_at b k set ∷ [])
said_is_same b ns k set within is pair i = by (place_of i)
  where
    by : IsPlaced pair (pairs b) → allowed (with_narrowings b (ns ++ said_at b k set ∷ [])) pair ≡ allowed (with_narrowings b ns) pair
    by placed = subst (λ q. allowed (with_narrowings b (ns ++ said_at b k set ∷ [])) q ≡ allowed (with_narrowings b ns) q) (placed.is (0, 0)) (elim (cases_eq placed.place k) [
      | inl same ↦ subst (λ j. allowed (with_narrowings b (ns ++ said_at b k set ∷ [])) (pair_at b j) ≡ allowed (with_narrowings b ns) (pair_at b j)) (sym same)
          (narrowed_there b ns k set (λ rel h. ap (λ s. has s rel) (sym is) ∙ h) ∙ is)
      | inr apart ↦ narrowed_other b ns k placed.place set within placed.within apart
    ])

-- an empty set makes it dead
pub said_is_dead : (b : Problem) (ns : List Constraint) (k : ℕ) (set : RelSet) → k < pair_count b → is_empty_set set ≡ true → IsAlive (with_narrowings b (ns ++ said_at b k set ∷ [])) → ⊥
said_is_dead b ns k set within empty alive =
    let one = alive_rel b (ns ++ said_at b k set ∷ []) k within alive in
    both_ways (is_empty_set set) (has_some set one.0 (said_there b ns k set one.0 one.1)) empty
  where
    alive_rel : (b : Problem) (ms : List Constraint) (k : ℕ) → k < pair_count b → IsAlive (with_narrowings b ms) → (rel : Rel) × (has (allowed (with_narrowings b ms) (pair_at b k)) rel ≡ true)
    alive_rel b ms k within alive = some_rel (allowed (with_narrowings b ms) (pair_at b k))
        (not-true (is_empty_set (allowed (with_narrowings b ms) (pair_at b k))) (all_at (λ pair. not (is_empty_set (allowed (with_narrowings b ms) pair))) alive.allow (In-get_or (pairs b) k (0, 0) within)))

-- a relation with which it is alive is allowed
pub alive_allows : (b : Problem) (ns : List Constraint) (k : ℕ) (rel : Rel) → k < pair_count b → IsAlive (with_narrowings b (ns ++ said_at b k (only rel) ∷ [])) → has (allowed (with_narrowings b ns) (pair_at b k)) rel ≡ true
alive_allows b ns k rel within alive =
    let ms = ns ++ said_at b k (only rel) ∷ [] in
    let one = some_rel (allowed (with_narrowings b ms) (pair_at b k))
    (not-true (is_empty_set (allowed (with_narrowings b ms) (pair_at b k))) (all_at (λ pair. not (is_empty_set (allowed (with_narrowings b ms) pair))) alive.allow (In-get_or (pairs b) k (0, 0) within))) in
    subst (λ r. has (allowed (with_narrowings b ns) (pair_at b k)) r ≡ true) (only_is rel one.0 (said_there b ns k (only rel) one.0 one.1)) (said_less b ns k (only rel) (pair_at b k) one.0 one.1)

-- a relation of a set with which the pair is alive leaves it alive with the whole set
pub alive_wider : (b : Problem) (ns : List Constraint) (k : ℕ) (set : RelSet) (rel : Rel) → has set rel ≡ true → IsAlive (with_narrowings b (ns ++ said_at b k (only rel) ∷ [])) → IsAlive (with_narrowings b (ns ++ said_at b k set ∷ []))
alive_wider b ns k set rel h alive = alive_less b (ns ++ said_at b k set ∷ []) (ns ++ said_at b k (only rel) ∷ []) (λ pair i other there.
    said_both b ns k set pair other (said_less b ns k (only rel) pair other there) (λ same.
    let one : has (only rel) other ≡ true = said_there b ns k (only rel) other (ap (λ q. has (allowed (with_narrowings b (ns ++ said_at b k (only rel) ∷ [])) q) other) same ∙ there) in
    ap (has set) (only_is rel other one) ∙ h)) alive
