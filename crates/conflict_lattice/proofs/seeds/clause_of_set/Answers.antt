use Rattle.std.proofs.Common.{◌+◌, true, length, sym, ap, ◌∙◌, subst}
use Rattle.watch_arena.specs.Trails.{AreInRange}
use Rattle.conflict_lattice.proofs.Seeding.{SaysSet, set_has, set_pushed, range_more}
use Rattle.conflict_lattice.proofs.seeds.clause_of_set.Goals as goal
use Rattle.conflict_lattice.proofs.seeds.clause_of_set.Goals.{then-not-set-place+in_ok-push, else-not-set-place}

pub loop-place-preserved : goal.loop-place-preserved
loop-place-preserved c =
    let set = c.args.set.now in
    let k = c.loop-place.place in
    elim c.if-not-set-place.branch [
      | then-not-set-place+in_ok-push w ↦
          let step = ap (λ v. v.items) w.lits-is ∙ w.in_ok-push.ensures.items in
          record {
            says = set_pushed set k c.loop-place.lits.items c.if-not-set-place.lits.items w.new.result c.loop-place-test.true w.if-not-set-place.true step w.new.ensures c.loop-place.invariant.says;
            range = range_more c.loop-place.lits.items c.if-not-set-place.lits.items w.new.result (length set) k true c.loop-place.invariant.range step w.new.ensures c.loop-place-test.true;
          }
      | else-not-set-place w ↦
          let step = ap (λ v. v.items) w.lits-is in
          record {
            says = subst (SaysSet set (k + 1)) (sym step) (set_has set k c.loop-place.lits.items c.loop-place-test.true w.if-not-set-place.false c.loop-place.invariant.says);
            range = subst (λ ls. AreInRange ls (length set)) (sym step) c.loop-place.invariant.range;
          }
    ]
