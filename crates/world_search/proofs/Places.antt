-- How a position stands to those that begin with a prefix.
use Rattle.std.proofs.Common.{◌≡◌, false, List, [], ◌∷◌, ◌++◌, refl, sym, ap, ◌∙◌, is_lt, Ordering, Less, Equal, Greater, append-nil}
use Rattle.std.specs.Prelude.{IsTrue}
use Rattle.std.specs.Ordering.{ordering_then}
use Rattle.std.proofs.lemmas.Bool.{true≢false}
use Rattle.std.proofs.lemmas.Cmp.{ranked}
use Rattle.rcc5_core.specs.declared.Rel.{Rel}
use Rattle.rcc5_core.specs.Relation.{rank_of}
use Rattle.rcc5_core.specs.Order.{rel_cmp, position_cmp}
use Rattle.world_model.specs.Listing.{is_below}
use Rattle.world_model.proofs.OrderPositions.{below_apart, below_itself, below_longer, below_branch, exact_rels, rel_itself}
use Rattle.world_search.specs.Walking.{IsBehind}

-- a position begins with a prefix, or it comes before all that do, or behind them
pub data Side (c x : List Rel) : Type 0 where
  within : (rest : List Rel) → x ≡ c ++ rest → Side c x
  ahead : ((rest : List Rel) → IsTrue (is_below x (c ++ rest))) → Side c x
  behind : IsBehind c x → Side c x

pub side : (c x : List Rel) → Side c x
side [] x = within x refl
side (r ∷ c) [] = ahead (λ rest. refl)
side (r ∷ c) (t ∷ x) = by (rel_cmp t r) refl (side c x)
  where
    by : (o : Ordering) → o ≡ rel_cmp t r → Side c x → Side (r ∷ c) (t ∷ x)
    by Less e s = ahead (λ rest. below_branch [] t r x (c ++ rest) (ranked (rank_of t) (rank_of r) Less e))
    by Greater e s = behind (λ rest. below_branch [] r t (c ++ rest) x (ranked (rank_of t) (rank_of r) Greater e))
    by Equal e (within rest same) = let first = exact_rels t r (sym e) in within rest (λ i. first i ∷ same i)
    by Equal e (ahead f) = ahead (λ rest. ap (λ o. is_lt (ordering_then o (position_cmp x (c ++ rest)))) (sym e) ∙ f rest)
    by Equal e (behind f) =
        let first : r ≡ t = sym (exact_rels t r (sym e)) in
        behind (λ rest. ap (λ s. is_lt (ordering_then (rel_cmp r s) (position_cmp (c ++ rest) x))) (sym first) ∙ ap (λ o. is_lt (ordering_then o (position_cmp (c ++ rest) x))) (rel_itself r) ∙ f rest)

-- below and not below
pub below_both : {G : Type 0} (a b : List Rel) → IsTrue (is_below a b) → is_below a b ≡ false → G
below_both a b h k = absurd (true≢false (sym h ∙ k))

-- what is not below an extension of a prefix begins with the prefix, or comes behind all that do
pub data Upward (c x : List Rel) : Type 0 where
  within : (rest : List Rel) → x ≡ c ++ rest → Upward c x
  behind : IsBehind c x → Upward c x

pub upward : (c w x : List Rel) → is_below x (c ++ w) ≡ false → Upward c x
upward c w x h = by (side c x)
  where
    by : Side c x → Upward c x
    by (within rest e) = within rest e
    by (ahead f) = below_both x (c ++ w) (f w) h
    by (behind f) = behind f

-- what is behind all that begin with a prefix is not below any of them
pub not_below_behind : (c x w : List Rel) → IsBehind c x → is_below x (c ++ w) ≡ false
not_below_behind c x w f = below_apart (c ++ w) x (f w)

-- a position is not below its prefix
pub not_below_prefix : (c rest : List Rel) → is_below (c ++ rest) c ≡ false
not_below_prefix c [] = ap (λ x. is_below x c) (append-nil c) ∙ below_itself c
not_below_prefix c (r ∷ rest) = below_apart c (c ++ r ∷ rest) (below_longer c r rest)
