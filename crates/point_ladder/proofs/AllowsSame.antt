-- Problems that differ in their narrowings alone: what is so of both where they allow the same, or one allows less.
use Rattle.std.proofs.Common.{◌≡◌, ℕ, Bool, true, false, ◌&&◌, not, List, length, refl, sym, ap, ◌∙◌, subst}
use Rattle.std.specs.Prelude.{nat_lt}
use Rattle.std.proofs.lemmas.Bool.{not-true}
use Rattle.rcc5_core.specs.declared.Region.{Region}
use Rattle.rcc5_core.specs.RelationSet.{has, is_empty_set}
use Rattle.world_model.specs.Problem.{Problem, Constraint, pairs}
use Rattle.world_model.specs.Alive.{allowed, is_point, Need, needs, IsAlive, all_allow, point_at}
use Rattle.world_model.specs.Alive.Need.{InRegion, InConcept}
use Rattle.world_model.proofs.Members.{In, all_at, all_from, in_from_contains, contains_from_in}
use Rattle.world_model.proofs.PointSets.{IsInside, Forces, forces_inside, some_rel, has_some}
use Rattle.world_model.proofs.PointAlive.{point_parts, point_whole, IsNeed, In-needs, from_needs}
use Rattle.world_model.proofs.PointPositions.{with_narrowings}
use Rattle.bit_rows.specs.Rows.{BitRows}
use Rattle.point_ladder.specs.Ladders.{AreServed, IsFrame}

-- the second of two problems allows what the first allows, and nothing else
abbrev pub AllowsSame : Problem → List Constraint → List Constraint → Type 0
AllowsSame b ns ms = (pair : ℕ × ℕ) → In pair (pairs b) → allowed (with_narrowings b ms) pair ≡ allowed (with_narrowings b ns) pair

-- or at most that
abbrev pub AllowsLess : Problem → List Constraint → List Constraint → Type 0
AllowsLess b ns ms = (pair : ℕ × ℕ) → In pair (pairs b) → IsInside (allowed (with_narrowings b ms) pair) (allowed (with_narrowings b ns) pair)

pub same_back : (b : Problem) (ns ms : List Constraint) → AllowsSame b ns ms → AllowsSame b ms ns
same_back b ns ms same pair i = sym (same pair i)

pub same_less : (b : Problem) (ns ms : List Constraint) → AllowsSame b ns ms → AllowsLess b ns ms
same_less b ns ms same pair i rel h = ap (λ s. has s rel) (sym (same pair i)) ∙ h

forced_less : (b : Problem) (ns ms : List Constraint) → AllowsLess b ns ms → all_allow (with_narrowings b ms) ≡ true → (pair : ℕ × ℕ) (region : Region) (o : Bool) → In pair (pairs b) →
    Forces (allowed (with_narrowings b ns) pair) region o → Forces (allowed (with_narrowings b ms) pair) region o
forced_less b ns ms less allow pair region o i f =
    forces_inside (less pair i) (not-true (is_empty_set (allowed (with_narrowings b ms) pair)) (all_at (λ pair. not (is_empty_set (allowed (with_narrowings b ms) pair))) allow i)) f

-- where one that allows less is alive, both are
pub alive_less : (b : Problem) (ns ms : List Constraint) → AllowsLess b ns ms → IsAlive (with_narrowings b ms) → IsAlive (with_narrowings b ns)
alive_less b ns ms less alive = record {
  allow = all_from (λ pair. not (is_empty_set (allowed q pair))) (pairs b) (λ pair i.
      let one = some_rel (allowed r pair) (not-true (is_empty_set (allowed r pair)) (all_at (λ pair. not (is_empty_set (allowed r pair))) alive.allow i)) in
      ap not (has_some (allowed q pair) one.0 (less pair i one.0 one.1)));
  points = λ need i.
      let h = alive.points need (contains_from_in (In-needs r need (needed need (from_needs q need (in_from_contains (needs q) i))))) in
      let parts = point_parts r h.0 h.1 in (
        h.0,
        point_whole q h.0 (record {
          structure = parts.structure;
          apart = λ pair region j f. parts.apart pair region j (forced_less b ns ms less alive.allow pair region false j f);
        }),
        h.2,
      );
}
  where
    q : Problem
    q = with_narrowings b ns

    r : Problem
    r = with_narrowings b ms

    needed : (need : Need) → IsNeed q need → IsNeed r need
    needed (InRegion pair region) h = (h.0, forced_less b ns ms less alive.allow pair region true h.0 h.1)
    needed (InConcept c) h = h

pub alive_same : (b : Problem) (ns ms : List Constraint) → AllowsSame b ns ms → IsAlive (with_narrowings b ns) → IsAlive (with_narrowings b ms)
alive_same b ns ms same alive = alive_less b ms ns (same_less b ms ns (same_back b ns ms same)) alive

-- points of one are points of the other
pub point_kept : (b : Problem) (ns ms : List Constraint) (bits : List Bool) → AllowsSame b ns ms → is_point (with_narrowings b ns) bits ≡ true → is_point (with_narrowings b ms) bits ≡ true
point_kept b ns ms bits same h =
    let parts = point_parts (with_narrowings b ns) bits h in
    point_whole (with_narrowings b ms) bits (record {
      structure = parts.structure;
      apart = λ pair region i f. parts.apart pair region i (subst (λ s. Forces s region false) (same pair i) f);
    })

pub point_same : (b : Problem) (ns ms : List Constraint) (bits : List Bool) → AllowsSame b ns ms → is_point (with_narrowings b ns) bits ≡ is_point (with_narrowings b ms) bits
point_same b ns ms bits same = same_bits (is_point (with_narrowings b ns) bits) (is_point (with_narrowings b ms) bits) (point_kept b ns ms bits same) (point_kept b ms ns bits (same_back b ns ms same))
  where
    same_bits : (x y : Bool) → (x ≡ true → y ≡ true) → (y ≡ true → x ≡ true) → x ≡ y
    same_bits true y to from = sym (to refl)
    same_bits false true to from = from refl
    same_bits false false to from = refl

-- and so are needs
served_kept : (b : Problem) (ns ms : List Constraint) (points : List (List Bool)) (some : ℕ → Bool) → AllowsSame b ns ms → AreServed (with_narrowings b ns) points some → AreServed (with_narrowings b ms) points some
served_kept b ns ms points some same s need i = s need (contains_from_in (In-needs (with_narrowings b ns) need (needed need (from_needs (with_narrowings b ms) need (in_from_contains (needs (with_narrowings b ms)) i)))))
  where
    needed : (need : Need) → IsNeed (with_narrowings b ms) need → IsNeed (with_narrowings b ns) need
    needed (InRegion pair region) h = (h.0, subst (λ s. Forces s region true) (same pair h.0) h.1)
    needed (InConcept c) h = h

-- so a frame of one is a frame of the other
pub frame_same : (b : Problem) (ns ms : List Constraint) (points : List (List Bool)) (rows : BitRows) → AllowsSame b ns ms → IsFrame (with_narrowings b ns) points rows → IsFrame (with_narrowings b ms) points rows
frame_same b ns ms points rows same frame = record {
  width = frame.width;
  mask = λ k. frame.mask k ∙ ap (λ x. nat_lt k (length points) && x) (point_same b ns ms (point_at points k) same);
  owes = λ some within.
      let both = frame.owes some within in (
        λ s. served_kept b ns ms points some same (both.0 s),
        λ s. both.1 (served_kept b ms ns points some (same_back b ns ms same) s),
      );
}
