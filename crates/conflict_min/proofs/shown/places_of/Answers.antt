use Rattle.std.proofs.Common.{◌∙◌, ℕ, [], ◌∷◌, ◌++◌, Vec, Global, sym, ap}
use Rattle.conflict_min.proofs.Flags.{places_more, places_less}
use Rattle.conflict_min.proofs.shown.places_of.Goals as goal
use Rattle.conflict_min.proofs.shown.places_of.Goals.{then-is_kept+in_ok-push, else-is_kept}

pub loop-place-preserved : goal.loop-place-preserved
loop-place-preserved c =
    let kept = c.args.kept.now in
    let place = c.loop-place.place in
    elim c.if-is_kept.branch [
      | then-is_kept+in_ok-push w ↦
          ap (λ (v : Vec ℕ Global). v.items) w.places-is ∙ w.in_ok-push.ensures.items ∙ ap (λ items. items ++ place ∷ []) c.loop-place.invariant
          ∙ sym (places_more kept place c.loop-place-test.true w.if-is_kept.true)
      | else-is_kept w ↦ ap (λ (v : Vec ℕ Global). v.items) w.places-is ∙ c.loop-place.invariant ∙ sym (places_less kept place c.loop-place-test.true w.if-is_kept.false)
    ]
