-- What is known of pairs that are turned round.
use Rattle.std.proofs.Common.{◌≡◌, ℕ, Bool, true, false, not, cond, List, refl, sym, ap, ◌∙◌}
use Rattle.std.specs.Prelude.{nat_lt}
use Rattle.std.specs.Cmp.{both_ways}
use Rattle.rcc5_core.specs.declared.Rel.{Rel}
use Rattle.rcc5_core.specs.declared.Rel.TheVariants.{Equals, Includes, IncludedIn, Overlaps, Disjoint}
use Rattle.rcc5_core.specs.declared.RelSet.{RelSet}
use Rattle.rcc5_core.specs.Relation.{is_subset, have_common, relation_of, relation_by, converse_of}
use Rattle.rcc5_core.specs.RelationSet.{has, converses}
use Rattle.rcc5_core.proofs.Sets.{relation_of-by}
use Rattle.world_model.specs.Family.{set_of}
use Rattle.world_model.proofs.PointFamilies.{common_at, common_from}
use Rattle.conflict_lattice.specs.Explaining.{has_there}
use Rattle.claims_run.specs.Explain.Laws.{ConversesTurnPairs, TurnedIsAsked}

-- to have an element in common is the same for both orders
common_turned : (xs ys : List ℕ) → have_common xs ys ≡ true → have_common ys xs ≡ true
common_turned xs ys h = let c = common_at xs ys h in common_from ys xs c.0 c.2 c.1

common_both : (xs ys : List ℕ) → have_common xs ys ≡ have_common ys xs
common_both xs ys = both_ways (have_common xs ys) (have_common ys xs) (common_turned xs ys) (common_turned ys xs)

-- the relation of two sets that are turned round is the converse
by_turned : (left both right : Bool) → relation_by right both left ≡ converse_of (relation_by left both right)
by_turned false both false = refl
by_turned false both true = refl
by_turned true both false = refl
by_turned true false true = refl
by_turned true true true = refl

relation_turned : (xs ys : List ℕ) → relation_of ys xs ≡ converse_of (relation_of xs ys)
relation_turned xs ys =
    relation_of-by ys xs
    ∙ ap (λ (both : Bool). relation_by (not (is_subset ys xs)) both (not (is_subset xs ys))) (common_both ys xs)
    ∙ by_turned (not (is_subset xs ys)) (have_common xs ys) (not (is_subset ys xs))
    ∙ ap converse_of (sym (relation_of-by xs ys))

-- a set has a relation where the set of the converses has the converse
has_turned : (set : RelSet) (rel : Rel) → has (converses set) (converse_of rel) ≡ has set rel
has_turned set Equals = refl
has_turned set Includes = refl
has_turned set IncludedIn = refl
has_turned set Overlaps = refl
has_turned set Disjoint = refl

pub converses_turn : ConversesTurnPairs
converses_turn f a b set =
    ap (has (converses set)) (relation_turned (set_of f a) (set_of f b)) ∙ has_turned set (relation_of (set_of f a) (set_of f b))

pub turned_asked : TurnedIsAsked
turned_asked f pair set = by (nat_lt pair.1 pair.0)
  where
    asked : (ℕ × ℕ) × RelSet → Type 0
    asked question = has_there f question.0 question.1 ≡ has_there f pair set

    by : (t : Bool) → asked (cond t ((pair.1, pair.0), converses set) (pair, set))
    by true = converses_turn f pair.0 pair.1 set
    by false = refl
