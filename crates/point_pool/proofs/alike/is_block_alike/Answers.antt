use Rattle.std.proofs.Common.{◌≡◌, ◌∙◌, ◌+◌, ◌-◌, get_or, take, drop, subst, inl, inr, sym, arith}
use Rattle.std.proofs.lemmas.Bool.{and_parts, cases_lt}
use Rattle.rcc5_core.specs.declared.Rel.TheVariants.{Equals}
use Rattle.point_pool.proofs.Sameness.{part_entry}
use Rattle.point_pool.proofs.alike.is_block_alike.Goals as goal

pub loop-place-preserved : goal.loop-place-preserved
loop-place-preserved c = record {
  each = λ h k lt.
      let both = and_parts c.loop-place.alike c.is_same_rel-alike.result h in
      elim (cases_lt k c.loop-place.place) [
        | inl early ↦ c.loop-place.invariant.each both.0 k early
        | inr late ↦ subst (λ i. get_or (take ((c.args.start + 64) - c.args.start) (drop c.args.start c.args.one.now)) i Equals ≡ get_or (take ((c.args.start + 64) - c.args.start) (drop c.args.start c.args.other.now)) i Equals)
            (omega arith) (c.is_same_rel-alike.ensures both.1)
      ];
}

pub returns-clause-same : goal.returns-clause-same
returns-clause-same c = λ h k low high.
    let start = c.args.start in
    let end = c.loop-place-test.false in
    sym (part_entry c.args.one.now start 64 k Equals low high) ∙ c.loop-place.invariant.each h (k - start) (omega (arith, low, high)) ∙ part_entry c.args.other.now start 64 k Equals low high
