use Rattle.std.proofs.Common.{◌≡◌, length, take, ◌∙◌, sym, arith}
use Rattle.std.specs.Prelude.{false}
use Rattle.std.proofs.lemmas.List.{ext_get_or, length-take-le, get_or-take}
use Rattle.point_pool.proofs.copies.front.Goals as goal

pub returns : goal.returns
returns c =
    let bits = c.args.bits.now in
    let n = c.args.count in
    let counted : length (take n bits) ≡ n = length-take-le n bits c.requires in
    ext_get_or false c.loop-place.front (take n bits) (c.loop-place.invariant.counted ∙ sym counted)
    (λ k h. c.loop-place.invariant.same k (omega (arith, c.loop-place.invariant.counted)) ∙ sym (get_or-take n bits k false (omega (arith, c.loop-place.invariant.counted))))
