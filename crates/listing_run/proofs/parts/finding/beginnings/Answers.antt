use Rattle.std.proofs.Common.{◌≡◌, ◌∷◌, ◌≤◌, [], drop, length, inl, inr, ◌⊎◌, arith}
use Rattle.std.proofs.lemmas.Result.{IfOk-weaker}
use Rattle.listing_run.specs.Parts.Beginnings.{AreBeginnings}
use Rattle.listing_run.proofs.parts.BeginningLemmas.{found}
use Rattle.listing_run.proofs.parts.finding.beginnings.Goals as goal
use Rattle.listing_run.proofs.parts.finding.beginnings.Goals.{then-loop-depth-test+else-len-count, else-loop-depth-test}

pub returns-clause-positions : goal.returns-clause-positions
returns-clause-positions c =
    let enough : (c.args.count ≤ length c.loop-depth.nodes.items) ⊎ (c.min-deepest.result ≤ c.loop-depth.depth) = elim c.loop-depth-test.branch [
      | then-loop-depth-test+else-len-count w ↦ inl (omega (arith, w.if-len-count.false, w.len.ensures, c.loop-depth.nodes.ok))
      | else-loop-depth-test w ↦ inr w.loop-depth-test.false
    ] in
    IfOk-weaker c.from_empty.result (λ positions. positions.items ≡ [] ∷ drop 1 c.loop-depth.nodes.items) (λ positions. AreBeginnings c.args.problem.now c.args.count positions.items)
    (λ positions are. found c.args.problem.now c.args.count c.min-deepest.result c.pair_count.result c.loop-depth.depth c.loop-depth.nodes.items positions.items
    c.loop-depth.invariant.0 c.pair_count.ensures c.min-deepest.ensures enough are)
    c.from_empty.ensures
