use Rattle.std.proofs.Common.{◌≡◌, ◌+◌, ◌∙◌, length, refl, sym, ap, subst, arith}
use Rattle.std.proofs.lemmas.List.{get_or_default}
use Rattle.rcc5_core.specs.RelationSet.{only, every_rel}
use Rattle.point_ladder.proofs.Decided.{AreWaiting, waits_more, none_waits, nexts_end}
use Rattle.point_ladder.proofs.start.nexts_of.Goals as goal
use Rattle.point_ladder.proofs.start.nexts_of.Goals.{then-not-is_decided+in_ok-resize, else-not-is_decided}

pub loop-pair-preserved : goal.loop-pair-preserved
loop-pair-preserved c =
    let sets = c.args.sets.now in
    let line = c.args.line.now in
    let n = c.loop-pair.pair in
    let old = c.loop-pair.nexts in
    elim c.if-not-is_decided.branch [
      | then-not-is_decided+in_ok-resize w ↦
          subst (λ v. AreWaiting sets line v.items (n + 1)) (sym w.nexts-is)
          (none_waits sets line old.items w.resize.new.self.items n c.loop-pair.invariant (record {
            long = omega (arith, w.in_ok-resize.ensures.len, w.resize.new.self.ok);
            before = λ k small. w.in_ok-resize.ensures.by_index.0 k 0 (let few = c.loop-pair.invariant.few in omega (arith, small, few)) (omega (arith, small, old.ok));
            filled = λ k low high. w.in_ok-resize.ensures.by_index.1 k 0 refl (omega (arith, low, old.ok)) high;
          }))
      | else-not-is_decided w ↦
          subst (λ v. AreWaiting sets line v.items (n + 1)) (sym w.nexts-is)
          (waits_more sets line old.items n c.loop-pair.invariant (get_or_default sets n every_rel _ c.loop-pair-test.true ∙ w.if-not-is_decided.ensures refl ∙
          ap only (get_or_default line n _ _ (omega (arith, c.loop-pair-test.true, c.requires.lined)))))
    ]

pub returns : goal.returns
returns c =
    let sets = c.args.sets.now in
    let old = c.loop-pair.nexts in
    let end : c.loop-pair.pair ≡ length sets = omega (arith, c.loop-pair-test.false, c.loop-pair.auto.pair-end) in
    nexts_end sets c.args.line.now old.items c.resize-2.new.self.items (subst (AreWaiting sets c.args.line.now old.items) end c.loop-pair.invariant) (record {
      long = omega (arith, c.in_ok-resize-2.ensures.len, c.resize-2.new.self.ok);
      before = λ k small. c.in_ok-resize-2.ensures.by_index.0 k 0 (let few = c.loop-pair.invariant.few in omega (arith, small, few, end)) (omega (arith, small, old.ok));
      filled = λ k low high. c.in_ok-resize-2.ensures.by_index.1 k 0 refl (omega (arith, low, old.ok)) high;
    })
