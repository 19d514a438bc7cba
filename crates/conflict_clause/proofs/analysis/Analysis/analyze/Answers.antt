use Rattle.std.proofs.Common.{◌∙◌, List, ℕ, refl, sym, subst, arith}
use Rattle.lits_core.specs.Literals.{negation_of}
use Rattle.watch_arena.specs.Places.{place_at}
use Rattle.conflict_clause.specs.Search.{IsArranged, IsSearch}
use Rattle.conflict_clause.proofs.AtPlaces.{false_in_range}
use Rattle.conflict_clause.proofs.SeenLits.{IsSeenList-same}
use Rattle.conflict_clause.proofs.SearchEnds.{IsReached-descended, IsLearnt-ended, second-arranged}
use Rattle.conflict_clause.proofs.analysis.Analysis.analyze.Goals as goal

pub descend-requires-clause-search : goal.descend-requires-clause-search
descend-requires-clause-search c = subst (λ (n : ℕ). IsSearch c.args.trail.now c.level-level.result n c.start.new.self) (sym c.place_count.ensures) c.in_ok-start.ensures.search

pub descend-requires-clause-left : goal.descend-requires-clause-left
descend-requires-clause-left c =
    let same = c.requires.at_the_level.2 in
    let level = c.level-level.ensures in
    let start = c.in_ok-start.ensures.some c.requires.at_the_level.0 c.requires.at_the_level.1 (omega arith) in
    let count = c.place_count.ensures in
    omega arith

pub minimize-requires-clause-reached : goal.minimize-requires-clause-reached
minimize-requires-clause-reached c =
    let low = c.in_ok-descend.ensures.finds.lowest in
    let same = c.requires.at_the_level.2 in
    let level = c.level-level.ensures in
    let start = c.in_ok-start.ensures.some c.requires.at_the_level.0 c.requires.at_the_level.1 (omega arith) in
    IsReached-descended c.args.trail.now c.level-level.result c.start.new.self c.descend.new.self c.facts.ensures c.level-level.ensures (omega arith)
    c.in_ok-descend.ensures.search c.in_ok-descend.ensures.finds c.in_ok-start.ensures.lower

pub arrange-requires-clause-range : goal.arrange-requires-clause-range
arrange-requires-clause-range c lit has = false_in_range c.args.trail.now lit c.facts.ensures (c.in_ok-minimize.ensures.reached.lower lit has).off

pub arrange-requires-clause-within : goal.arrange-requires-clause-within
arrange-requires-clause-within c = c.in_ok-minimize.ensures.reached.within

pub returns-clause-learnt : goal.returns-clause-learnt
returns-clause-learnt c =
    IsLearnt-ended c.args.trail.now c.minimize.new.self _ _ c.in_ok-back.back c.facts.ensures c.requires.level c.in_ok-minimize.ensures.reached
    (subst (λ (xs : List ℕ). IsArranged c.args.trail.now (negation_of (place_at c.args.trail.now.places c.minimize.new.self.lowest).lit) c.minimize.new.self.lits.items xs c.in_ok-back.back) (sym c.in_ok-lits.ensures.lits) c.in_ok-back.ensures.arranged)
    (cc (c.in_ok-lits.ensures.hints, c.arrange.ensures.hints))

pub returns-clause-second : goal.returns-clause-second
returns-clause-second c = second-arranged c.args.trail.now _ c.minimize.new.self.lits.items c.arrange.new.self.lits.items _ c.in_ok-back.back c.in_ok-back.ensures.arranged c.in_ok-lits.ensures.lits

pub returns-in_err-start-clause-seen_list : goal.returns-in_err-start-clause-seen_list
returns-in_err-start-clause-seen_list c = c.start.ensures.seen_list

pub returns-in_err-descend-clause-seen_list : goal.returns-in_err-descend-clause-seen_list
returns-in_err-descend-clause-seen_list c = c.descend.ensures.seen_list

pub returns-in_err-back-clause-seen_list : goal.returns-in_err-back-clause-seen_list
returns-in_err-back-clause-seen_list c = IsSeenList-same c.descend.new.self _ _ _ c.descend.ensures.seen_list (c.arrange.ensures.marks ∙ c.minimize.ensures.marks) (c.arrange.ensures.seen ∙ c.minimize.ensures.seen) refl

pub returns-in_err-lits-clause-seen_list : goal.returns-in_err-lits-clause-seen_list
returns-in_err-lits-clause-seen_list c = IsSeenList-same c.descend.new.self _ _ _ c.descend.ensures.seen_list (c.arrange.ensures.marks ∙ c.minimize.ensures.marks) (c.arrange.ensures.seen ∙ c.minimize.ensures.seen) refl

pub returns-clause-seen_list : goal.returns-clause-seen_list
returns-clause-seen_list c = IsSeenList-same c.descend.new.self _ _ _ c.descend.ensures.seen_list (c.arrange.ensures.marks ∙ c.minimize.ensures.marks) (c.arrange.ensures.seen ∙ c.minimize.ensures.seen) refl
