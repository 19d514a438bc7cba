use Rattle.std.proofs.Common.{length, ap, sym, ◌∙◌, arith}
use Rattle.point_encode.proofs.model.Structure.{valid_parts}
use Rattle.point_pool.proofs.Sameness.{same_entries}
use Rattle.point_pool.proofs.copies.same_flags.Goals as goal

pub returns : goal.returns
returns c = λ same.
    let one = c.args.one.now in
    let other = c.args.other.now in
    let first = (valid_parts one c.facts.ensures.built.valid).counted in
    let second = (valid_parts other c.facts-2.ensures.built.valid).counted in
    same_entries one.kept other.kept (first ∙ ap length c.requires ∙ sym second) (λ k small. c.loop-index.invariant k (omega (arith, first)))
