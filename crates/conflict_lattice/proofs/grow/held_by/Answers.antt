use Rattle.std.proofs.Common.{◌∷◌, ◌++◌, [], take, map, sym, ap, ◌∙◌, arith}
use Rattle.std.proofs.lemmas.List.{map_more}
use Rattle.std.proofs.lemmas.Option.{get_or_from_slice_get}
use Rattle.set_family.specs.Rules.{articulation_holds}
use Rattle.conflict_lattice.proofs.grow.held_by.Goals as goal

pub loop-index-preserved : goal.loop-index-preserved
loop-index-preserved c =
    let said = c.args.problem.now.articulations in
    let test = articulation_holds c.args.family.now in
    let d = c.articulation.result.now in
    c.in_ok-push.ensures.items
    ∙ ap (λ flags. flags ++ c.articulation_holds.result ∷ []) c.loop-index.invariant
    ∙ ap (λ b. map test (take c.loop-index.index said) ++ b ∷ []) (c.articulation_holds.ensures ∙ sym (ap test (get_or_from_slice_get said c.loop-index.index d d c.articulation.ensures.value)))
    ∙ sym (map_more test said c.loop-index.index d (omega (arith, c.loop-index-test.true, c.articulation_count-index-end.ensures)))
