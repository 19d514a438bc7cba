use Rattle.std.proofs.Common.{◌≡◌, ◌∙◌, Err, IfOk, sym, ap, subst}
use Rattle.world_model.specs.Node.{pair_at}
use Rattle.world_model.specs.Problem.{narrowed, restricted}
use Rattle.set_family.specs.Meeting.{IsMetBy}
use Rattle.conflict_min.specs.Conflicts.{IsFound, IsLeast, all_kept, as_step}
use Rattle.conflict_lattice.specs.Explaining.{AreCounters, IsLeastEntailing}
use Rattle.conflict_lattice.proofs.Explaining.{counter_of, counters_of, least_entails, others}
use Rattle.conflict_lattice.proofs.reason.find_with.Goals as goal

pub returns-in-Ok-clause-answer : goal.returns-in-Ok-clause-answer
returns-in-Ok-clause-answer c =
    let p = c.args.problem.now in
    let pair = pair_at p c.args.pair in
    let rels = c.args.set in
    let conflict = c.in-Ok.conflict in
    let other : c.in_ok-narrowed.narrowed ≡ narrowed p pair (others rels) = c.in_ok-narrowed.ensures.value ∙ ap (narrowed p pair) c.others.ensures in
    let least : IsLeast (narrowed p pair (others rels)) conflict = subst (λ q. IsLeast q conflict) other c.in-Ok.ensures.answer in (
      subst (IsLeastEntailing p pair rels) (sym c.new-in-Ok.ensures) (least_entails p conflict.kept.items pair rels least.0),
      subst (λ kept. AreCounters p kept pair rels conflict.families.items) (sym c.new-in-Ok.ensures) (counters_of p conflict.kept.items pair rels conflict.families.items least.1),
    )

pub returns-in-Err-Consistent-clause-answer : goal.returns-in-Err-Consistent-clause-answer
returns-in-Err-Consistent-clause-answer c =
    let p = c.args.problem.now in
    let pair = pair_at p c.args.pair in
    let rels = c.args.set in
    let q = c.in_ok-narrowed.narrowed in
    let other : q ≡ narrowed p pair (others rels) = c.in_ok-narrowed.ensures.value ∙ ap (narrowed p pair) c.others.ensures in
    let found = subst (λ fault. IfOk (as_step (Err fault)) (IsFound q)) c.in-Err-Consistent.field-0-is c.in-Err-Consistent.ensures.answer in
    counter_of p (all_kept p) pair rels c.in-Err-Consistent.family (subst (λ q. IsMetBy (restricted q (all_kept q)) c.in-Err-Consistent.family) other found)
