-- What a step along the worlds leaves of them.
use Rattle.std.proofs.Common.{◌≡◌, true, false, Bool, inl, inr, List, [], ◌∷◌, refl, sym, ap, ◌∙◌, subst, true≢false, IsTrue}
use Rattle.std.specs.Prelude.{◌↔◌, Option, Some, None, Contains}
use Rattle.std.proofs.lemmas.Bool.{not-true, not_from_false}
use Rattle.rcc5_core.specs.declared.Rel.{Rel}
use Rattle.world_model.specs.Problem.{Problem}
use Rattle.world_model.specs.Family.{IsPossibleWorld}
use Rattle.world_model.specs.Listing.{is_below, is_before_end}
use Rattle.world_model.proofs.Members.{here, there, in_from_contains, contains_from_in}
use Rattle.world_model.proofs.OrderPositions.{below_itself, below_chain, below_cases, below_apart, below_upto}
use Rattle.world_model.proofs.OrderLists.{between_parts, between_from}
use Rattle.world_walk.specs.Ahead.{Lists, ListsBetween}
use Rattle.world_walk.specs.ToCome.{IsAbove, IsToCome, IsFirstToCome, IsFrom, IsLeftAt, Comes}

-- where none is told, none is
pub untold_none : (t : List Rel) → Contains [] t → ⊥
untold_none t c = elim (in_from_contains [] c) [ ]

-- a position is not before a place, or before it
from_or_before : (other : Option (List Rel)) (t : List Rel) (b : Bool) → is_before_end t other ≡ b → (IsTrue (is_before_end t other) → ⊥) → IsFrom other t
from_or_before None t b e not_before = absurd (not_before refl)
from_or_before (Some end) t true e not_before = absurd (not_before e)
from_or_before (Some end) t false e not_before = not_from_false (is_below t end) e

-- and never both
from_not_before : (other : Option (List Rel)) (t : List Rel) → IsFrom other t → IsTrue (is_before_end t other) → ⊥
from_not_before None t from before = from
from_not_before (Some end) t from before = true≢false (sym before ∙ not-true (is_below t end) from)

-- what is not before the end of a stretch is not before its start
from_start : (p : Problem) (one : List Rel) (other : Option (List Rel)) (worlds : List (List Rel)) → ListsBetween p one other worlds → (t : List Rel) → IsFrom other t → IsFrom (Some one) t
from_start p one None worlds lists t from = absurd from
from_start p one (Some end) worlds lists t from = not_from_false (is_below t one) (by (is_below t one) refl)
  where
    by : (b : Bool) → is_below t one ≡ b → is_below t one ≡ false
    by true e = absurd (true≢false (sym (below_upto t one end e (not-true (is_below end one) lists.onward)) ∙ not-true (is_below t end) from))
    by false e = e

-- what is left behind the worlds that were told is what is left from where all of them are passed
pub left_passed : (p : Problem) (at other : Option (List Rel)) (told : List (List Rel)) → Lists p at other told → (t : List Rel) → IsLeftAt p at told t ↔ IsLeftAt p other [] t
left_passed p None other told lists t = (
  λ left. absurd left.from,
  λ left. absurd (subst (λ o. IsFrom o t) lists.0 left.from),
)
left_passed p (Some one) other told lists t = (
  λ left. record {
    world = left.world;
    from = from_or_before other t (is_before_end t other) refl (λ before. left.untold ((lists.exactly.members t).1 (left.world, between_from one other t (not-true (is_below t one) left.from) before)));
    untold = untold_none t;
  },
  λ left. record {
    world = left.world;
    from = from_start p one other told lists t left.from;
    untold = λ c. from_not_before other t left.from (between_parts one other t ((lists.exactly.members t).0 c).1).1;
  },
)

one_of : (x t : List Rel) → Contains (x ∷ []) t → t ≡ x
one_of x t c = elim (in_from_contains (x ∷ []) c) [ here same ↦ same | there i ↦ absurd (elim i [ ]) ]

contains_one : (x t : List Rel) → t ≡ x → Contains (x ∷ []) t
contains_one x t same = contains_from_in {xs = x ∷ []} (here same)

-- what is above a world is another one
above_other : (x t : List Rel) → IsTrue (is_below x t) → t ≡ x → ⊥
above_other x t above same = true≢false (sym above ∙ ap (is_below x) same ∙ below_itself x)

-- a position that is not below another and isn't it is above it
above_of : (x t : List Rel) → is_below t x ≡ false → (t ≡ x → ⊥) → IsTrue (is_below x t)
above_of x t from other = elim (below_cases x t) [
  | inl above ↦ above
  | inr (inl same) ↦ absurd (other (sym same))
  | inr (inr below) ↦ absurd (true≢false (sym below ∙ from))
]

-- a world that is told where the walk stands comes first
pub told_comes : (p : Problem) (x : List Rel) → IsPossibleWorld p x → Comes (IsLeftAt p (Some x) []) (IsLeftAt p (Some x) (x ∷ [])) x
told_comes p x world = record {
  there = record { world = world; from = not_from_false (is_below x x) (below_itself x); untold = untold_none x };
  least = λ u left. left.from;
  rest = λ u. (
    λ left. (
      record { world = left.world; from = left.from; untold = untold_none u },
      above_of x u (not-true (is_below u x) left.from) (λ same. left.untold (contains_one x u same)),
    ),
    λ both. record { world = both.0.world; from = both.0.from; untold = λ c. above_other x u both.1 (one_of x u c) },
  );
}

-- what is not told yet, with a world that is
untold_too : (p : Problem) (at : Option (List Rel)) (x u : List Rel) → IsLeftAt p at [] u → (u ≡ x → ⊥) → IsLeftAt p at (x ∷ []) u
untold_too p at x u left other = record { world = left.world; from = left.from; untold = λ c. other (one_of x u c) }

-- the one world that is passed is behind the start and before the end
record IsPassed (p : Problem) (at other : Option (List Rel)) (x : List Rel) : Type 0 where
  left : IsLeftAt p at [] x
  before : IsTrue (is_before_end x other)

passed_one : (p : Problem) (at other : Option (List Rel)) (x : List Rel) → Lists p at other (x ∷ []) → IsPassed p at other x
passed_one p None other x lists = absurd (nil≢cons lists.1)
  where
    nil≢cons : x ∷ [] ≡ [] → ⊥
    nil≢cons e = cc
passed_one p (Some one) other x lists =
    let there = (lists.exactly.members x).0 (contains_one x x refl) in
    let parts = between_parts one other x there.1 in
    record {
      left = record { world = there.0; from = not_from_false (is_below x one) parts.0; untold = untold_none x };
      before = parts.1;
    }

-- what is not before an end is above what is
above_end : (other : Option (List Rel)) (x u : List Rel) → IsTrue (is_before_end x other) → IsFrom other u → IsTrue (is_below x u)
above_end None x u before from = absurd from
above_end (Some end) x u before from = below_upto x end u before (not-true (is_below u end) from)

-- a world that a walk passes comes first
pub passed_comes : (p : Problem) (at other : Option (List Rel)) (x : List Rel) → Lists p at other (x ∷ []) → Comes (IsLeftAt p at []) (IsLeftAt p other []) x
passed_comes p at other x lists = record {
  there = passed.left;
  least = λ u left. not_from_false (is_below u x) (upto u left (is_below u x) refl);
  rest = λ u. (
    λ left. let back = (left_passed p at other (x ∷ []) lists u).1 left in (
      record { world = back.world; from = back.from; untold = untold_none u },
      above_end other x u passed.before left.from,
    ),
    λ both. (left_passed p at other (x ∷ []) lists u).0 (untold_too p at x u both.0 (above_other x u both.1)),
  );
}
  where
    passed : IsPassed p at other x
    passed = passed_one p at other x lists

    upto : (u : List Rel) → IsLeftAt p at [] u → (b : Bool) → is_below u x ≡ b → is_below u x ≡ false
    upto u left true e =
        let later = (left_passed p at other (x ∷ []) lists u).0 (untold_too p at x u left (λ same. true≢false (sym e ∙ ap (λ y. is_below y x) same ∙ below_itself x))) in
        absurd (true≢false (sym e ∙ below_apart x u (above_end other x u passed.before later.from)))
    upto u left false e = e

-- the first of the worlds above the last one comes, and those above it are left
pub behind_comes : (p : Problem) (last : Option (List Rel)) (before after : List Rel → Type 0) (t : List Rel) →
    ((u : List Rel) → before u ↔ IsToCome p last u) → Comes before after t → IsFirstToCome p last t × ((u : List Rel) → after u ↔ IsToCome p (Some t) u)
behind_comes p last before after t behind comes = (
  record { comes = first; least = λ u later. comes.least u ((behind u).1 later) },
  λ u. (
    λ left. let both = (comes.rest u).0 left in record { world = ((behind u).0 both.0).world; above = both.1 },
    λ later. (comes.rest u).1 ((behind u).1 (record { world = later.world; above = higher last u first.above later.above }), later.above),
  ),
)
  where
    first : IsToCome p last t
    first = (behind t).0 comes.there

    higher : (o : Option (List Rel)) (u : List Rel) → IsAbove o t → IsTrue (is_below t u) → IsAbove o u
    higher None u above more = tt
    higher (Some l) u above more = below_chain l t u above more

-- behind a world stands a walk that began there and gave one
pub begun_comes : (p : Problem) (last : List Rel) (before after : List Rel → Type 0) (t : List Rel) → IsPossibleWorld p last →
    ((u : List Rel) → before u ↔ (IsPossibleWorld p u × IsFrom (Some last) u)) → Comes before after t → (u : List Rel) → after u ↔ IsToCome p (Some last) u
begun_comes p last before after t world begun comes u = (
  λ left. let both = (comes.rest u).0 left in record { world = ((begun u).0 both.0).0; above = subst (λ x. IsTrue (is_below x u)) same both.1 },
  λ later. (comes.rest u).1 (
    (begun u).1 (later.world, not_from_false (is_below u last) (below_apart last u later.above)),
    subst (λ x. IsTrue (is_below x u)) (sym same) later.above,
  ),
)
  where
    there : before last
    there = (begun last).1 (world, not_from_false (is_below last last) (below_itself last))

    same : t ≡ last
    same = elim (below_cases t last) [
      | inl below ↦ absurd (true≢false (sym below ∙ not-true (is_below t last) ((begun t).0 comes.there).1))
      | inr (inl one) ↦ one
      | inr (inr above) ↦ absurd (true≢false (sym above ∙ not-true (is_below last t) (comes.least last there)))
    ]

-- from the first position on stand all worlds
pub front_behind : (p : Problem) (left : List Rel → Type 0) → ((u : List Rel) → left u ↔ (IsPossibleWorld p u × IsFrom (Some []) u)) → (u : List Rel) → left u ↔ IsToCome p None u
front_behind p left begun u = (
  λ l. record { world = ((begun u).0 l).0; above = tt },
  λ later. (begun u).1 (later.world, not_from_false (is_below u []) (none_first u)),
)
  where
    none_first : (m : List Rel) → is_below m [] ≡ false
    none_first [] = refl
    none_first (r ∷ m) = refl

-- what begins at a position
pub begun_left : (p : Problem) (from : List Rel) (at : Option (List Rel)) → Lists p (Some from) at [] → (u : List Rel) → IsLeftAt p at [] u ↔ (IsPossibleWorld p u × IsFrom (Some from) u)
begun_left p from at lists u = (
  λ left. let back = (left_passed p (Some from) at [] lists u).1 left in (back.world, back.from),
  λ both. (left_passed p (Some from) at [] lists u).0 (record { world = both.0; from = both.1; untold = untold_none u }),
)

-- where all is passed, nothing is left
pub none_left : (p : Problem) (at : Option (List Rel)) (told : List (List Rel)) → Lists p at None told → (u : List Rel) → IsLeftAt p at told u → ⊥
none_left p at told lists u left = ((left_passed p at None told lists u).0 left).from
