use Rattle.std.proofs.Common.{◌∙◌, ap, sym, arith, subst}
use Rattle.clause_arena.specs.declared.arena.Head.{Head}
use Rattle.clause_arena.specs.Layout.{records_of, MovesDown}
use Rattle.clause_arena.proofs.Ranges.{AreInOrder-within}
use Rattle.clause_arena.proofs.PackInvariant.{Packing-start, Packing-skip, Packing-keep, Packing-live, Packing-range, Placed-start, Placed-skip, Placed-keep, Packs-from_packing}
use Rattle.clause_arena.proofs.pack.pack.Goals.{then-live, else-live}
use Rattle.clause_arena.proofs.pack.pack.Goals as goal

pub loop-at-init : goal.loop-at-init
loop-at-init c = record {
  packing = Packing-start c.args.heads.now c.args.codes.now c.requires.order;
  placed = Placed-start (records_of c.args.codes.now c.args.heads.now) c.args.table.now c.requires.empty;
}

pub move_down-end-requires-clause-within : goal.move_down-end-requires-clause-within
move_down-end-requires-clause-within c d =
    let range = Packing-range c.args.heads.now c.args.codes.now c.loop-at.at c.loop-at.heads c.loop-at.codes c.loop-at.kept c.loop-at.end d c.loop-at.invariant.packing c.loop-at-test.true in
    let within = AreInOrder-within _ _ _ range.1 in
    let width = c.loop-at.invariant.packing.width in
    omega arith

pub loop-at-preserved : goal.loop-at-preserved
loop-at-preserved c =
    let live = Packing-live c.args.heads.now c.args.codes.now c.loop-at.at c.loop-at.heads c.loop-at.codes c.loop-at.kept c.loop-at.end c.index-heads-at.result c.loop-at.invariant.packing c.loop-at-test.true in
    elim c.if-live.branch [
      | then-live w ↦
          let moves = subst (λ (h : Head). MovesDown c.loop-at.heads c.loop-at.codes h c.loop-at.kept c.loop-at.end w.move_down-end.new.heads w.move_down-end.new.codes w.move_down-end.result) (sym c.index-heads-at.is) (w.move_down-end.ensures c.index-heads-at.result) in
          rw (w.heads-is, w.codes-is, w.table-is, w.kept-is, w.end-is, w.new.ensures) record {
            packing = Packing-keep c.args.heads.now c.args.codes.now c.loop-at.at c.loop-at.heads c.loop-at.codes c.loop-at.kept c.loop-at.end c.index-heads-at.result w.move_down-end.new.heads w.move_down-end.new.codes w.move_down-end.result c.loop-at.invariant.packing c.loop-at-test.true c.index-heads-at.is (ap (λ (h : Head). h.live) c.index-heads-at.is ∙ w.if-live.true) moves;
            placed = Placed-keep (records_of c.args.codes.now c.args.heads.now) c.loop-at.at c.loop-at.kept c.loop-at.table c.loop-at.invariant.placed (let same = c.loop-at.auto.table in let room = c.requires.room in let below = c.loop-at-test.true in omega arith) (live ∙ w.if-live.true) c.loop-at.invariant.packing.count;
          }
      | else-live w ↦
          rw (w.heads-is, w.codes-is, w.table-is, w.kept-is, w.end-is) record {
            packing = Packing-skip c.args.heads.now c.args.codes.now c.loop-at.at c.loop-at.heads c.loop-at.codes c.loop-at.kept c.loop-at.end c.index-heads-at.result c.loop-at.invariant.packing c.loop-at-test.true w.if-live.false;
            placed = Placed-skip (records_of c.args.codes.now c.args.heads.now) c.loop-at.at c.loop-at.table c.loop-at.invariant.placed (live ∙ w.if-live.false);
          }
    ]

pub returns : goal.returns
returns c =
    Packs-from_packing c.args.heads.now c.args.codes.now c.loop-at.at c.loop-at.heads c.loop-at.codes c.loop-at.table c.loop-at.kept c.loop-at.end c.loop-at.invariant.packing c.loop-at.invariant.placed (let done = c.loop-at-test.false in omega arith)
