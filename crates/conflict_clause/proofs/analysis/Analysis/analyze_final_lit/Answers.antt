use Rattle.std.proofs.Common.{◌∙◌, ℕ, ◌<◌, Some, sym, ap, subst, arith}
use Rattle.lits_core.specs.Literals.{variable_of}
use Rattle.conflict_clause.proofs.AtPlaces.{false_in_range}
use Rattle.conflict_clause.proofs.SearchEnds.{IsClosing-ended}
use Rattle.conflict_clause.proofs.analysis.Analysis.analyze_final_lit.Goals as goal

pub false_place-place-requires-clause-range : goal.false_place-place-requires-clause-range
false_place-place-requires-clause-range c = false_in_range c.args.trail.now c.args.lit c.facts.ensures c.requires.false_there

pub returns-clause-closing : goal.returns-clause-closing
returns-clause-closing c =
    IsClosing-ended c.args.trail.now _ _ c.start_below.new.self c.descend.new.self _ _ c.facts.ensures (omega arith) c.in_ok-descend.ensures.search c.in_ok-descend.ensures.finds
    (λ lit has.
    let is = c.in_ok-start_below.ensures.only lit has in (
      ap Some (sym (is ∙ c.false_place-place.ensures.is)),
      subst (λ (v : ℕ). v < c.args.trail.now.variables) (sym (ap variable_of is)) (c.facts.ensures.places_in_range c.false_place-place.result c.false_place-place.ensures.within),
    )) c.in_ok-closing.ensures.lits c.in_ok-closing.ensures.hints
