use Rattle.std.proofs.Common.{◌≡◌, ℕ, ◌+◌, Bool, true, false, cond, sym, ap, ◌∙◌, arith}
use Rattle.std.specs.Prelude.{count_by}
use Rattle.std.specs.List.{range_with_len}
use Rattle.trial_run.specs.Trials.{is_varied}
use Rattle.trial_run.proofs.SummaryLemmas.{count_more}
use Rattle.trial_run.proofs.summary.varied_count.Goals as goal
use Rattle.trial_run.proofs.summary.varied_count.Goals.{then-is_varied, else-is_varied}

-- a count that goes on, by what is tested
counts_on : (test : ℕ → Bool) (place count new : ℕ) (b : Bool) → count ≡ count_by test (range_with_len 0 place) → test place ≡ b → new ≡ count + cond b 1 0
    → new ≡ count_by test (range_with_len 0 (place + 1))
counts_on test place count new b was is e =
    e ∙ ap (λ (n : ℕ). n + cond b 1 0) was ∙ ap (λ (x : Bool). count_by test (range_with_len 0 place) + cond x 1 0) (sym is) ∙ sym (count_more test place)

pub loop-place-preserved : goal.loop-place-preserved
loop-place-preserved c =
    let test = is_varied c.args.worlds.now in
    elim c.if-is_varied.branch [
      | then-is_varied w ↦ record {
        counted = counts_on test c.loop-place.place c.loop-place.count c.if-is_varied.count true c.loop-place.invariant.counted (sym c.is_varied.ensures ∙ w.if-is_varied.true) w.count-is;
        few = omega arith;
      }
      | else-is_varied w ↦ record {
        counted = counts_on test c.loop-place.place c.loop-place.count c.if-is_varied.count false c.loop-place.invariant.counted (sym c.is_varied.ensures ∙ w.if-is_varied.false) (omega arith);
        few = omega arith;
      }
    ]
