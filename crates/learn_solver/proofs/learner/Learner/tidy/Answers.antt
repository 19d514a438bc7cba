use Rattle.std.proofs.Common.{◌≡◌, ◌∙◌, ◌≤◌, Bool, List, Result, Ok, Err, length, refl, sym, ap, subst, arith}
use Rattle.std.specs.Prelude.{OnOk}
use Rattle.learn_solver.specs.Learners.{AreReasons, Clears}
use Rattle.learn_solver.proofs.StepInvariant.{Steps-refl}
use Rattle.learn_solver.proofs.Tidied.{IsTidied-cleared}
use Rattle.learn_solver.proofs.learner.Learner.tidy.Goals as goal

-- what follows where a call has answered
then : {T E A B : Type 0} → (r : Result T E) → (A → B) → OnOk r A → OnOk r B
then (Ok x) f h = f h
then (Err e) f h = h

pub returns-in_err-kept-clause-kept : goal.returns-in_err-kept-clause-kept
returns-in_err-kept-clause-kept c = (Steps-refl c.args.self.now c.requires).goes

pub returns-clause-ok : goal.returns-clause-ok
returns-clause-ok c =
    let all = ap length c.arena.ensures in
    let count = c.count.ensures in
    let reasons = c.in_ok-kept.ensures.only refl (omega arith) in
    let same : c.deref.result.now ≡ c.in_ok-kept.kept.items = c.deref.ensures.value in
    then c.keep.result (λ clears. IsTidied-cleared c.args.self.now c.keep.new.self c.deref.result.now c.keep.ensures.steps clears
    (subst (λ (kept : List Bool). AreReasons kept c.args.self.now.trail c.args.self.now.given) (sym same) reasons)) c.keep.ensures.ok
