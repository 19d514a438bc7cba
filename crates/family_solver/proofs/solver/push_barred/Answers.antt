use Rattle.std.proofs.Common.{◌≡◌, ℕ, true, List, [], inr, sym, ap, ◌∙◌, subst}
use Rattle.std.specs.Prelude.{slice_index_or}
use Rattle.rcc5_core.specs.Region.{row_of, same_word, word_at}
use Rattle.rcc5_core.specs.declared.Occupancy.TheVariants.{Empty}
use Rattle.world_model.specs.Alive.{lies_in, point_at}
use Rattle.world_model.specs.Node.{pair_at}
use Rattle.family_solver.specs.Showing.{AreAssumed}
use Rattle.family_solver.proofs.Asking.{assumed_more}
use Rattle.family_solver.proofs.Ruling.{same_default}
use Rattle.family_solver.proofs.solver.push_barred.Goals as goal

pub returns-in_ok-push : goal.returns-in_ok-push
returns-in_ok-push c =
    let p = c.args.problem.now in
    let g = c.args.ground.now in
    let word : same_word (word_at (row_of c.args.rel) c.args.region) Empty ≡ true =
    ap (λ w. same_word w Empty) (sym (c.at.ensures ∙ ap (λ r. word_at r c.args.region) c.row.ensures)) ∙ sym c.is_empty.ensures ∙ c.if-is_empty.true in
    let pair : c.pair_at-pair.result ≡ pair_at p (slice_index_or g.pairs.items c.args.place 0) = c.pair_at-pair.ensures.value ∙ ap (pair_at p) (c.index.ensures ∙ same_default g.pairs.items c.args.place c.index.result.now 0 c.requires.place) in
    let lies : lies_in c.args.region (pair_at p (slice_index_or g.pairs.items c.args.place 0)) (point_at g.points.items c.args.point) ≡ true = ap (λ q. lies_in c.args.region q (point_at g.points.items c.args.point)) (sym pair) ∙ ap (lies_in c.args.region c.pair_at-pair.result) (sym (c.index-then-is_empty.ensures ∙ same_default g.points.items c.args.point c.index-then-is_empty.result.now [] c.requires.point)) ∙ sym c.lies.ensures ∙ c.if-lies.true in
    subst (AreAssumed p g c.args.place c.args.rel) (sym {A = List ℕ} c.in_ok-push.ensures.items)
    (assumed_more p g c.args.place c.args.rel c.args.lits.now.items c.new.result c.requires.assumed
    (inr (record { point = c.args.point; region = c.args.region; within = c.requires.point; empty = word; lies = lies; is = c.new.ensures })))
