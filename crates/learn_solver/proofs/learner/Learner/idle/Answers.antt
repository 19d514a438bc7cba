use Rattle.std.proofs.Common.{◌≡◌, ◌∙◌, ◌+◌, ◌<◌, ◌≤◌, ℕ, Bool, true, false, cond, List, length, drop, max, Option, Some, None, refl, sym, ap, subst, arith, inl, inr}
use Rattle.std.specs.Prelude.{◌==◌, nat_lt, not}
use Rattle.std.proofs.lemmas.Bool.{cases_lt, cases_Bool, ltb-true}
use Rattle.std.proofs.lemmas.Bool.Decides.{nat_tests}
use Rattle.clause_arena.specs.Records.{Record}
use Rattle.learn_solver.specs.States.{idle_from, is_reason}
use Rattle.learn_solver.proofs.Idle.{count-from, idle_of-from}
use Rattle.learn_solver.proofs.learner.Learner.idle.Goals as goal
use mir.Val.{bool_byte}

-- the next number, if it is one of the list's
next-some : (n m at : ℕ) → cond {A = Option ℕ} (nat_lt n m) (Some n) None ≡ Some at → (n < m) × (at ≡ n)
next-some n m at is =
    elim (cases_Bool (nat_lt n m)) [
      | inl on ↦ let e : Some n ≡ Some at = rw on at is in let same : n ≡ at = cc in (ltb-true n m on, sym same)
      | inr off ↦ let e : None ≡ Some at = rw off at is in cc
    ]

next-first : (n : ℕ) → cond {A = Option ℕ} (n == 0) None (Some 0) ≡ cond (nat_lt 0 n) (Some 0) None
next-first n =
    elim (cases_lt 0 n) [
      | inl some ↦
          let off : (n == 0) ≡ false = grind (arith, nat_tests) in
          let on : nat_lt 0 n ≡ true = grind (arith, nat_tests) in
          rw (off, on) refl
      | inr none ↦
          let on : (n == 0) ≡ true = grind (arith, nat_tests) in
          let off : nat_lt 0 n ≡ false = grind (arith, nat_tests) in
          rw (on, off) refl
    ]

next-after : (at n : ℕ) (next : Option ℕ) (records arena : List Record) → next ≡ cond (nat_lt (at + 1) (length arena)) (Some (at + 1)) None → arena ≡ records → at ≡ n → next ≡ cond (nat_lt (n + 1) (length records)) (Some (n + 1)) None
next-after at n next records arena is e h = is ∙ ap (λ (rs : List Record). cond {A = Option ℕ} (nat_lt (at + 1) (length rs)) (Some (at + 1)) None) e ∙ ap (λ (k : ℕ). cond {A = Option ℕ} (nat_lt (k + 1) (length records)) (Some (k + 1)) None) h

one-byte : (b : Bool) → bool_byte b ≡ cond b 1 0
one-byte true = refl
one-byte false = refl

at_most_one : (b : Bool) → cond {A = ℕ} b 1 0 ≤ 1
at_most_one true = omega arith
at_most_one false = omega arith

pub loop-next-init : goal.loop-next-init
loop-next-init c =
    let l = c.args.self.now in
    let start : max 0 l.given ≡ l.given = omega arith in
    let from = ap (λ (n : ℕ). length (idle_from l.trail.places n (drop n l.trail.records))) start in
    let whole = ap length (idle_of-from l.trail.places l.trail.records l.given) in
    record {
      next = c.first-next.ensures ∙ next-first (length c.arena-arena.result.now) ∙ ap (λ (rs : List Record). cond {A = Option ℕ} (nat_lt 0 (length rs)) (Some 0) None) c.arena-arena.ensures;
      few = omega arith;
      most = omega arith;
      counted = omega arith;
    }

pub loop-next-preserved : goal.loop-next-preserved
loop-next-preserved c =
    let l = c.args.self.now in
    let at = next-some c.loop-next.number (length l.trail.records) c.in-Some.at (sym c.loop-next.invariant.next ∙ c.in-Some.is) in
    let lt = at.0 in
    let byte = c.from-count.ensures ∙ one-byte c.is_idle.result in
    let one = at_most_one c.is_idle.result in
    let most = c.loop-next.invariant.most in
    record {
      next = next-after c.in-Some.at c.loop-next.number c.after-next.result l.trail.records c.arena-arena.result.now c.after-next.ensures c.arena-arena.ensures at.1;
      few = omega arith;
      most = omega arith;
      counted = count-from l.trail.places l.trail.records l.given c.loop-next.number c.loop-next.count (c.loop-next.count + c.from-count.result) c.is_idle.result lt c.is_idle.ensures.given
          (subst (λ (k : ℕ). l.given ≤ c.loop-next.number → c.is_idle.result ≡ not (is_reason l.trail.places k)) at.1 c.is_idle.ensures.derived)
          (ap (λ (n : ℕ). c.loop-next.count + n) byte) c.loop-next.invariant.counted;
    }
