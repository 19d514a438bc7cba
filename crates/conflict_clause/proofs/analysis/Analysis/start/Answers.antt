use Rattle.std.proofs.Common.{◌∙◌, ℕ, List, ◌∷◌, ◌++◌, [], ap}
use Rattle.clause_arena.specs.Records.{record_at}
use Rattle.conflict_clause.proofs.AtPlaces.{each_false}
use Rattle.conflict_clause.proofs.SearchEnds.{IsSearch-started, lower-first, lowest-within}
use Rattle.conflict_clause.proofs.analysis.Analysis.start.Goals as goal

pub returns-clause-search : goal.returns-clause-search
returns-clause-search c =
    IsSearch-started c.args.trail.now c.args.level c.args.at c.apply.new.self c.facts.ensures c.requires.conflict c.in_ok-apply.ensures.looking c.in_ok-apply.ensures.seen
    (c.in_ok-apply.ensures.hints ∙ ap (λ (hs : List ℕ). hs ++ (record_at c.args.trail.now.records c.args.at).id ∷ []) c.begin.ensures.hints)

pub returns-clause-some : goal.returns-clause-some
returns-clause-some c lit has high =
    lowest-within c.args.trail.now c.args.level lit c.apply.new.self c.facts.ensures c.in_ok-apply.ensures.looking
    (lower-first c.args.trail.now c.args.level c.begin.new.self c.apply.new.self c.in_ok-apply.ensures.sees c.begin.ensures.lits)
    (each_false c.args.trail.now.places (record_at c.args.trail.now.records c.args.at).lits lit c.requires.conflict.all_false has)
    (c.in_ok-apply.ensures.seen lit has) high
