-- A pool whose needs are all served.
use Rattle.std.proofs.Common.{◌≡◌, ℕ, ◌+◌, ◌*◌, ◌/◌, ◌%◌, ◌-◌, ◌<◌, Bool, true, false, cond, List, [], ◌∷◌, ◌++◌, get_or, inl, inr, sym, ap, ◌∙◌, subst, arith}
use Rattle.std.specs.Prelude.{IsTrue, Contains, Some, None}
use Rattle.std.proofs.lemmas.List.{append-nil}
use Rattle.std.proofs.lemmas.Bool.{lt-ltb, le-ltb}
use Rattle.rcc5_core.specs.declared.Rel.{Rel}
use Rattle.world_model.specs.Problem.{Problem, pair_count}
use Rattle.world_model.specs.Node.{pair_at}
use Rattle.world_model.specs.Alive.{InRegion, InConcept, all_allow, needs, problem_at, HasPoint, IsAlive, point_at}
use Rattle.world_model.proofs.Members.{In, none_in, in_from_contains}
use Rattle.point_encode.specs.Model.Forced.{region_with, IsNeed, need_at, need_count}
use Rattle.point_encode.specs.declared.need.Need as code
use Rattle.point_encode.specs.declared.need.Need.TheVariants.{Region, Concept}
use Rattle.point_encode.specs.Needs.{need_seen, IsInRange, need_number}
use Rattle.point_pool.specs.declared.pool.Pool.{Pool}
use Rattle.point_encode.specs.Numbers.{EachServed, is_needed, needs_below}
use Rattle.point_pool.specs.Cursors.{CursorState}
use Rattle.point_pool.specs.Pools.{IsPool, HasWitness}
use Rattle.point_pool.proofs.Numbering.{needs_numbered, needs_more, from_below, IsNumbered}
use Rattle.point_pool.proofs.Serving.{each_push}
use Rattle.point_pool.proofs.Pooling.{served_has, served_point}

-- where no number waits each need is served
pub served_now : (w : Pool) (number : ℕ) → IsPool w → w.waiting ≡ [] → number < need_count w.cursor.problem → is_needed (problem_at w.cursor.problem w.cursor.path) number ≡ true → HasWitness w number
served_now w number is none within needed = elim (is.watched number within needed) [
  | inr served ↦ served
  | inl waits ↦ absurd (none_in (in_from_contains [] (subst (λ ns. Contains ns number) none waits)))
]

-- so the prefix is alive, if each pair allows something
pub settled_alive : (w : Pool) → IsPool w → w.waiting ≡ [] → IsTrue (all_allow (problem_at w.cursor.problem w.cursor.path)) → IsAlive (problem_at w.cursor.problem w.cursor.path)
settled_alive w is none allow =
    let q = problem_at w.cursor.problem w.cursor.path in
    record {
      allow = allow;
      points = λ need there.
          let n : IsNumbered q need (need_count q) = from_below q (need_count q) need (subst (λ ns. In need ns) (needs_numbered q) (in_from_contains (needs q) there)) in
          subst (λ x. HasPoint q x) (sym n.is) (served_has w n.number (get_or w.witness.items n.number 0) is.kept (served_now w n.number is none n.below n.needed));
    }

-- the points of the needs below one number more
pub witness_skipped : (q : Problem) (number : ℕ) (list : List (List Bool)) → is_needed q number ≡ false → EachServed q (needs_below q number) list → EachServed q (needs_below q (number + 1)) list
witness_skipped q number list none served =
    let same : needs_below q (number + 1) ≡ needs_below q number =
    needs_more q number ∙ ap (λ b. needs_below q number ++ cond b (need_at q number ∷ []) []) none ∙ append-nil (needs_below q number) in
    subst (λ ns. EachServed q ns list) (sym same) served

pub witness_pushed : (w : Pool) (number : ℕ) (list new : List (List Bool)) (bits : List Bool) → IsPool w → w.waiting ≡ [] → number < need_count w.cursor.problem →
    is_needed (problem_at w.cursor.problem w.cursor.path) number ≡ true → bits ≡ point_at w.places.points (get_or w.witness.items number 0) → new ≡ list ++ bits ∷ [] →
    EachServed (problem_at w.cursor.problem w.cursor.path) (needs_below (problem_at w.cursor.problem w.cursor.path) number) list →
    EachServed (problem_at w.cursor.problem w.cursor.path) (needs_below (problem_at w.cursor.problem w.cursor.path) (number + 1)) new
witness_pushed w number list new bits is none within needed by same served =
    let q = problem_at w.cursor.problem w.cursor.path in
    let place = get_or w.witness.items number 0 in
    let has = served_point w number place is.kept (served_now w number is none within needed) in
    let needs_are : needs_below q (number + 1) ≡ needs_below q number ++ need_at q number ∷ [] = needs_more q number ∙ ap (λ b. needs_below q number ++ cond b (need_at q number ∷ []) []) needed in
    let pushed = each_push q (needs_below q number) list (need_at q number) (point_at w.places.points place) served has.0 has.1 in
    subst (λ ns. EachServed q ns new) (sym needs_are) (subst (λ bs. EachServed q (needs_below q number ++ need_at q number ∷ []) bs) (sym (same ∙ ap (λ b. list ++ b ∷ []) by)) pushed)

-- a need as callers have it, by its number
pub numbered_need : (p : Problem) (need : code.Need) → IsInRange p need → (need_number p need < need_count p) × (need_at p (need_number p need) ≡ need_seen p need)
numbered_need p (Region pair part) range =
    let small : 3 * pair + part < 3 * pair_count p = omega (arith, range) in
    let third : (3 * pair + part) / 3 ≡ pair = omega (arith, range) in
    let rest : (3 * pair + part) % 3 ≡ part = omega (arith, range) in (
      omega (arith, range),
      ap (λ b. cond b (InRegion (pair_at p ((3 * pair + part) / 3)) (region_with ((3 * pair + part) % 3))) (InConcept ((3 * pair + part) - 3 * pair_count p))) (lt-ltb (3 * pair + part) (3 * pair_count p) small) ∙
          ap (λ k. InRegion (pair_at p k) (region_with ((3 * pair + part) % 3))) third ∙ ap (λ k. InRegion (pair_at p pair) (region_with k)) rest,
    )
numbered_need p (Concept c) range =
    let left : (3 * pair_count p + c) - 3 * pair_count p ≡ c = omega arith in (
      omega (arith, range),
      ap (λ b. cond b (InRegion (pair_at p ((3 * pair_count p + c) / 3)) (region_with ((3 * pair_count p + c) % 3))) (InConcept ((3 * pair_count p + c) - 3 * pair_count p))) (le-ltb (3 * pair_count p + c) (3 * pair_count p) (omega arith)) ∙
          ap InConcept left,
    )

-- numbers name needs
pub need_named : (p : Problem) (number : ℕ) → number < need_count p → IsNeed p (need_at p number)
need_named p number within = (number, ap (λ b. cond b (Some (need_at p number)) None) (lt-ltb number (need_count p) within))

pub seen_named : (p : Problem) (need : code.Need) → IsInRange p need → IsNeed p (need_seen p need)
seen_named p need range = subst (λ x. IsNeed p x) (numbered_need p need range).1 (need_named p (need_number p need) (numbered_need p need range).0)

-- the parts of a cursor
pub cursor_from : (s : CursorState) (p : Problem) (m : List Rel) → s.problem ≡ p → s.path ≡ m → s ≡ record { problem = p; path = m }
cursor_from s p m problem path = ap (λ (q : Problem). record s { problem = q }) problem ∙ ap (λ (n : List Rel). record { problem = p; path = n }) path

-- what a pool without open needs answers, at the prefix that was asked about
pub alive_at : (w : Pool) (p : Problem) (m : List Rel) → w.cursor ≡ record { problem = p; path = m } → IsPool w → w.waiting ≡ [] → all_allow (problem_at p m) ≡ true → IsAlive (problem_at p m)
alive_at w p m same is none allow =
    subst (λ s. IsAlive (problem_at s.problem s.path)) same (settled_alive w is none (subst (λ s. all_allow (problem_at s.problem s.path) ≡ true) (sym same) allow))
