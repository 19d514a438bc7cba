use Rattle.std.proofs.Common.{◌≡◌, refl, sym, arith, true, false}
use Rattle.lits_core.specs.Literals.{variable_of}
use Rattle.watch_arena.specs.Places.{place_at}
use Rattle.conflict_clause.specs.Search.{is_seen}
use Rattle.conflict_clause.proofs.SeenLits.{IsSeenList-same, reason-off}
use Rattle.conflict_clause.proofs.SearchInvariant.{IsSearch-resolved, IsSearch-passed, IsSearch-kept, Finds-refl, Finds-seen, Finds-kept}
use Rattle.conflict_clause.proofs.analysis.Analysis.look.Goals as goal

pub apply-requires-clause-off : goal.apply-requires-clause-off
apply-requires-clause-off c lit has =
    let within = c.requires.within in
    let seen : is_seen c.args.self.now (variable_of (place_at c.args.trail.now.places c.args.place).lit) ≡ true = cc (c.if-not-get.ensures, c.variable.ensures.value, c.lit_on-lit.ensures) in
    reason-off c.args.trail.now c.args.place c.in-Some.at lit c.args.self.now c.facts.ensures (omega arith) (sym c.in-Some.ensures) seen has

pub returns-in_ok-apply-in-Some-clause-search : goal.returns-in_ok-apply-in-Some-clause-search
returns-in_ok-apply-in-Some-clause-search c =
    IsSearch-resolved c.args.trail.now c.args.level c.args.place c.in-Some.at c.args.self.now c.apply.new.self c.facts.ensures c.requires (sym c.in-Some.ensures)
    c.in_ok-apply-in-Some.ensures.sees c.in_ok-apply-in-Some.ensures.looking c.in_ok-apply-in-Some.ensures.seen c.in_ok-apply-in-Some.ensures.hints

pub returns-in_ok-keep-in-None-clause-search : goal.returns-in_ok-keep-in-None-clause-search
returns-in_ok-keep-in-None-clause-search c =
    IsSearch-kept c.args.trail.now c.args.level c.args.place c.args.self.now c.keep.new.self c.requires
    c.keep.ensures.marks c.keep.ensures.seen c.keep.ensures.hints c.keep.ensures.lowest (cc (c.in_ok-keep-in-None.ensures.lits, c.lit_on-lit.ensures))

pub returns-in_ok-keep-in-None-clause-finds : goal.returns-in_ok-keep-in-None-clause-finds
returns-in_ok-keep-in-None-clause-finds c =
    let within = c.requires.within in
    Finds-kept c.args.trail.now c.args.level c.args.place c.args.self.now c.keep.new.self (omega arith) (sym c.in-None.ensures) c.keep.ensures.lowest (cc (c.in_ok-keep-in-None.ensures.lits, c.lit_on-lit.ensures))

pub returns-in_ok-apply-in-Some-clause-seen_list : goal.returns-in_ok-apply-in-Some-clause-seen_list
returns-in_ok-apply-in-Some-clause-seen_list c = c.apply.ensures.seen_list

pub returns-in_ok-apply-in-Some-clause-finds : goal.returns-in_ok-apply-in-Some-clause-finds
returns-in_ok-apply-in-Some-clause-finds c = Finds-seen c.args.trail.now c.args.level c.args.place c.args.self.now c.apply.new.self c.in_ok-apply-in-Some.ensures.sees

pub returns-in_ok-keep-in-None-clause-seen_list : goal.returns-in_ok-keep-in-None-clause-seen_list
returns-in_ok-keep-in-None-clause-seen_list c = IsSeenList-same c.args.self.now _ _ _ c.requires.looking.seen_list c.keep.ensures.marks c.keep.ensures.seen refl

pub returns-in_err-keep-in-None-clause-seen_list : goal.returns-in_err-keep-in-None-clause-seen_list
returns-in_err-keep-in-None-clause-seen_list c = IsSeenList-same c.args.self.now _ _ _ c.requires.looking.seen_list c.keep.ensures.marks c.keep.ensures.seen refl

pub returns-in_err-apply-in-Some-clause-seen_list : goal.returns-in_err-apply-in-Some-clause-seen_list
returns-in_err-apply-in-Some-clause-seen_list c = c.apply.ensures.seen_list

pub returns-then-not-get-clause-search : goal.returns-then-not-get-clause-search
returns-then-not-get-clause-search c =
    let unseen : is_seen c.args.self.now (variable_of (place_at c.args.trail.now.places c.args.place).lit) ≡ false = cc (c.if-not-get.ensures, c.variable.ensures.value, c.lit_on-lit.ensures) in
    IsSearch-passed c.args.trail.now c.args.level c.args.place c.args.self.now c.requires unseen

pub returns-then-not-get-clause-finds : goal.returns-then-not-get-clause-finds
returns-then-not-get-clause-finds c = Finds-refl c.args.trail.now c.args.level c.args.place c.args.self.now
