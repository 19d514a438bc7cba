-- The order of the nodes that follow others.
use Rattle.std.proofs.Common.{◌≡◌, ℕ, Bool, true, false, cond, inl, inr, List, [], ◌∷◌, ◌++◌, map, length, refl, sym, ap, ◌∙◌, subst, true≢false, arith, IsTrue, is_lt}
use Rattle.std.specs.Prelude.{nat_lt, filter, flat_map}
use Rattle.std.specs.List.{list_all}
use Rattle.std.specs.Ordering.{ordering_then}
use Rattle.std.proofs.lemmas.Bool.{and_parts, ltb-true}
use Rattle.rcc5_core.specs.declared.Rel.{Rel}
use Rattle.rcc5_core.specs.Order.{rel_cmp, position_cmp}
use Rattle.rcc5_core.specs.Relation.{rank_of, all_rels}
use Rattle.rcc5_core.specs.RelationSet.{has}
use Rattle.world_model.specs.Problem.{Problem}
use Rattle.world_model.specs.Listing.{is_below, ascends}
use Rattle.world_model.specs.Alive.{allowed, problem_at}
use Rattle.world_model.specs.Node.{pair_at}
use Rattle.world_model.specs.Trial.{alive_by_trial, next_rels}
use Rattle.world_model.proofs.Members.{In, here, there, all_at, from_map, from_filter, from_flat_map}
use Rattle.world_model.proofs.Relations.{rises, same_rank}
use Rattle.world_model.proofs.OrderPositions.{first_or_rest, rel_itself, below_branch}
use Rattle.world_model.proofs.OrderLists.{ascends_first, ascends_rest, ascends_from, ascends_append}
use Rattle.listing_run.specs.Parts.Levels.{longer, followers}

-- one relation before two positions
below_after : (r s : Rel) (a b : List Rel) → r ≡ s → IsTrue (is_below a b) → IsTrue (is_below (r ∷ a) (s ∷ b))
below_after r s a b same h = ap (λ o. is_lt (ordering_then o (position_cmp a b))) (ap (rel_cmp r) (sym same) ∙ rel_itself r) ∙ h

-- of two positions of one length, what follows the one is below what follows the other
below_followed : (a b : List Rel) (r s : Rel) → length a ≡ length b → IsTrue (is_below a b) → IsTrue (is_below (a ++ r ∷ []) (b ++ s ∷ []))
below_followed [] [] r s long h = absurd (true≢false (sym h))
below_followed [] (y ∷ b) r s long h = absurd (omega arith)
below_followed (x ∷ a) [] r s long h = absurd (omega arith)
below_followed (x ∷ a) (y ∷ b) r s long h = elim (first_or_rest x y a b h) [
  | inl first ↦ below_branch [] x y (a ++ r ∷ []) (b ++ s ∷ []) first
  | inr both ↦ below_after x y (a ++ r ∷ []) (b ++ s ∷ []) (same_rank x y both.0) (below_followed a b r s (omega arith) both.1)
]

-- what follows a position by relations that rise
longer_ascends : (m : List Rel) (test : Rel → Bool) (rs : List Rel) → IsTrue (rises rs) → IsTrue (ascends (map (λ rel. m ++ rel ∷ []) (filter test rs)))
longer_ascends m test [] h = refl
longer_ascends m test (r ∷ rs) h = kept (test r) (longer_ascends m test rs parts.1)
  where
    parts : IsTrue (list_all (λ s. nat_lt (rank_of r) (rank_of s)) rs) × IsTrue (rises rs)
    parts = and_parts (list_all (λ s. nat_lt (rank_of r) (rank_of s)) rs) (rises rs) h

    above : (x : List Rel) → In x (map (λ rel. m ++ rel ∷ []) (filter test rs)) → IsTrue (is_below (m ++ r ∷ []) x)
    above x i =
        let image = from_map (λ rel. m ++ rel ∷ []) (filter test rs) i in
        let later = ltb-true (rank_of r) (rank_of image.source) (all_at (λ s. nat_lt (rank_of r) (rank_of s)) parts.0 (from_filter test rs image.member).0) in
        subst (λ y. IsTrue (is_below (m ++ r ∷ []) y)) (sym image.is) (below_branch m r image.source [] [] later)

    kept : (b : Bool) → IsTrue (ascends (map (λ rel. m ++ rel ∷ []) (filter test rs))) → IsTrue (ascends (map (λ rel. m ++ rel ∷ []) (cond b (r ∷ filter test rs) (filter test rs))))
    kept true k = ascends_from (m ++ r ∷ []) (map (λ rel. m ++ rel ∷ []) (filter test rs)) above k
    kept false k = k

-- a node that follows another
pub record IsFollower (p : Problem) (m t : List Rel) : Type 0 where
  pub alive : IsTrue (alive_by_trial (problem_at p m))
  pub rel : Rel
  pub next : In rel (next_rels p m)
  pub is : t ≡ m ++ rel ∷ []

follows_if : (p : Problem) (m t : List Rel) (b : Bool) → alive_by_trial (problem_at p m) ≡ b → In t (cond b (longer p m) []) → IsFollower p m t
follows_if p m t true e i =
    let image = from_map (λ rel. m ++ rel ∷ []) (next_rels p m) i in
    record { alive = e; rel = image.source; next = image.member; is = image.is }
follows_if p m t false e i = elim i [ ]

pub follower : (p : Problem) (m t : List Rel) → In t (followers p m) → IsFollower p m t
follower p m t i = follows_if p m t (alive_by_trial (problem_at p m)) refl i

followers_ascend : (p : Problem) (m : List Rel) → IsTrue (ascends (followers p m))
followers_ascend p m = by (alive_by_trial (problem_at p m))
  where
    by : (b : Bool) → IsTrue (ascends (cond b (longer p m) []))
    by true = longer_ascends m (has (allowed p (pair_at p (length m)))) all_rels refl
    by false = refl

-- those that follow nodes of one length
pub level_ascends : (p : Problem) (d : ℕ) (nodes : List (List Rel)) → IsTrue (ascends nodes) → ((m : List Rel) → In m nodes → length m ≡ d) →
    IsTrue (ascends (flat_map (followers p) nodes))
level_ascends p d [] h long = refl
level_ascends p d (m ∷ nodes) h long =
    ascends_append (followers p m) (flat_map (followers p) nodes) (followers_ascend p m)
    (level_ascends p d nodes (ascends_rest m nodes h) (λ t i. long t (there i))) apart
  where
    apart : (x y : List Rel) → In x (followers p m) → In y (flat_map (followers p) nodes) → IsTrue (is_below x y)
    apart x y i j =
        let of = from_flat_map (followers p) nodes j in
        let a = follower p m x i in
        let b = follower p of.source y of.has in
        let same = long m (here refl) ∙ sym (long of.source (there of.member)) in
        rw (a.is, b.is) (below_followed m of.source a.rel b.rel same (ascends_first m nodes h of.member))
