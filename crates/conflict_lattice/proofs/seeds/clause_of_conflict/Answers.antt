use Rattle.std.proofs.Common.{◌+◌, false, length, sym, ap, ◌∙◌, subst}
use Rattle.watch_arena.specs.Trails.{AreInRange}
use Rattle.conflict_lattice.proofs.Seeding.{SaysConflict, conflict_lacks, conflict_pushed, range_more}
use Rattle.conflict_lattice.proofs.seeds.clause_of_conflict.Goals as goal
use Rattle.conflict_lattice.proofs.seeds.clause_of_conflict.Goals.{then-conflict-place+in_ok-push, else-conflict-place}

pub loop-place-preserved : goal.loop-place-preserved
loop-place-preserved c =
    let conflict = c.args.conflict.now in
    let k = c.loop-place.place in
    elim c.if-conflict-place.branch [
      | then-conflict-place+in_ok-push w ↦
          let step = ap (λ v. v.items) w.lits-is ∙ w.in_ok-push.ensures.items in
          record {
            says = conflict_pushed conflict k c.loop-place.lits.items c.if-conflict-place.lits.items w.new.result c.loop-place-test.true w.if-conflict-place.true step w.new.ensures c.loop-place.invariant.says;
            range = range_more c.loop-place.lits.items c.if-conflict-place.lits.items w.new.result (length conflict) k false c.loop-place.invariant.range step w.new.ensures c.loop-place-test.true;
          }
      | else-conflict-place w ↦
          let step = ap (λ v. v.items) w.lits-is in
          record {
            says = subst (SaysConflict conflict (k + 1)) (sym step) (conflict_lacks conflict k c.loop-place.lits.items c.loop-place-test.true w.if-conflict-place.false c.loop-place.invariant.says);
            range = subst (λ ls. AreInRange ls (length conflict)) (sym step) c.loop-place.invariant.range;
          }
    ]
