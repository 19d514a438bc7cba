-- What the steps of a walk give.
use Rattle.std.proofs.Common.{◌≡◌, ℕ, not, List, [], ◌∷◌, sym, ap, ◌∙◌, subst, IsTrue}
use Rattle.std.specs.Prelude.{◌↔◌, Option, Some, None}
use Rattle.std.proofs.lemmas.Bool.{not_from_false}
use Rattle.rcc5_core.specs.declared.Rel.{Rel}
use Rattle.world_model.specs.Problem.{Problem}
use Rattle.world_model.specs.Family.{IsPossibleWorld}
use Rattle.world_model.specs.Listing.{is_below, is_before_end}
use Rattle.world_model.proofs.OrderPositions.{below_itself}
use Rattle.world_walk.specs.Ahead.{IsOnward, Lists}
use Rattle.world_walk.specs.Tables.{TablesState, IsNewListing, IsAtWorld, PassedTold}
use Rattle.world_walk.specs.declared.walk.Walk.{Walk}
use Rattle.world_walk.specs.ToCome.{IsFrom, IsLeftAt, Comes, IsFirstToCome, NoneToCome}
use Rattle.world_walk.specs.Walks.{IsLeft, IsNext, StandsBefore, StandsBehind}
use Rattle.world_walk.proofs.LeftLemmas.{left_passed, told_comes, passed_comes, behind_comes, begun_comes, begun_left, none_left, front_behind}

-- the same positions, told otherwise
comes_same : (before other after : List Rel → Type 0) (t : List Rel) → ((u : List Rel) → before u ↔ other u) → Comes other after t → Comes before after t
comes_same before other after t same comes = record {
  there = (same t).1 comes.there;
  least = λ u h. comes.least u ((same u).0 h);
  rest = λ u. (
    λ h. let both = (comes.rest u).0 h in ((same u).1 both.0, both.1),
    λ both. (comes.rest u).1 ((same u).0 both.0, both.1),
  );
}

passed_for : (p : Problem) (old new : TablesState) → old.problem ≡ p → PassedTold old new → Lists p old.at new.at old.told
passed_for p old new same passed = subst (λ q. Lists q old.at new.at old.told) same passed.passed

-- a table stands at the next world
pub table_next : (p : Problem) (old new : TablesState) (t : List Rel) → old.problem ≡ p → PassedTold old new → IsAtWorld new → new.told ≡ t ∷ [] → IsNext p (record { tables = old }) (record { tables = new }) (Some t)
table_next p old new t same passed at told = comes_same (IsLeftAt p old.at old.told) (IsLeftAt p new.at []) (IsLeftAt p new.at new.told) t (left_passed p old.at new.at old.told (passed_for p old new same passed)) first
  where
    one : at.table ≡ t
    one = let both : at.table ∷ [] ≡ t ∷ [] = sym at.told ∙ told in cc

    stands : new.at ≡ Some t
    stands = at.at ∙ ap Some one

    world : IsPossibleWorld p t
    world = subst (IsPossibleWorld p) one (subst (λ q. IsPossibleWorld q at.table) (passed.problem ∙ same) at.world)

    first : Comes (IsLeftAt p new.at []) (IsLeftAt p new.at new.told) t
    first = subst (λ o. Comes (IsLeftAt p o []) (IsLeftAt p o new.told) t) (sym stands) (subst (λ ts. Comes (IsLeftAt p (Some t) []) (IsLeftAt p (Some t) ts) t) (sym told) (told_comes p t world))

-- where a walk begins
pub table_before : (p : Problem) (from : List Rel) (s : TablesState) → IsNewListing p from s → StandsBefore p from (record { tables = s })
table_before p from s new = subst (λ ts. (u : List Rel) → IsLeftAt p s.at ts u ↔ (IsPossibleWorld p u × IsFrom (Some from) u)) (sym new.untold) (begun_left p from s.at new.passed)

-- where a walk stands behind a world, its next step gives the first world to come, and it stands behind that
pub steps_behind : (p : Problem) (last : Option (List Rel)) (old new : Walk) (t : List Rel) → StandsBehind p last old → IsNext p old new (Some t) → IsFirstToCome p last t × StandsBehind p (Some t) new
steps_behind p last old new t behind next = behind_comes p last (IsLeft p old) (IsLeft p new) t behind next

-- or none is to come, and it stays
pub stays_behind : (p : Problem) (last : Option (List Rel)) (old new : Walk) → StandsBehind p last old → IsNext p old new None → NoneToCome p last × StandsBehind p last new
stays_behind p last old new behind over = (
  λ t later. over.0 t ((behind t).1 later),
  λ t. (λ left. absurd (over.1 t left), λ later. absurd (over.0 t ((behind t).1 later))),
)

-- a walk from a world on stands behind it after a step
pub begins_behind : (p : Problem) (last : List Rel) (old new : Walk) (found : Option (List Rel)) → IsPossibleWorld p last → StandsBefore p last old → IsNext p old new found → StandsBehind p (Some last) new
begins_behind p last old new None world before over = absurd (over.0 last ((before last).1 (world, not_from_false (is_below last last) (below_itself last))))
begins_behind p last old new (Some t) world before next = begun_comes p last (IsLeft p old) (IsLeft p new) t world before next

-- a walk from the first position on stands behind no world
pub front_is_behind : (p : Problem) (walk : Walk) → StandsBefore p [] walk → StandsBehind p None walk
front_is_behind p walk before = front_behind p (IsLeft p walk) before
