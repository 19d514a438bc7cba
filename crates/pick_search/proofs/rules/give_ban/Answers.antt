use Rattle.std.proofs.Common.{◌≡◌, ◌<◌, true, length, sym, subst}
use Rattle.std.specs.Prelude.{All, IfSome}
use Rattle.learn_solver.specs.Solving.{AddsGiven}
use Rattle.lits_core.specs.Literals.{clause_true}
use Rattle.pick_search.specs.Picking.{IsClash, ban_clause, made_bits}
use Rattle.pick_search.proofs.Ruling.{ban_true, ready_more}
use Rattle.pick_search.proofs.rules.give_ban.Goals as goal

pub returns : goal.returns
returns c =
    let p = c.args.problem.now in
    let pairs = c.args.pairs.now in
    let picks = c.deref.result.now in
    let clause = subst (λ o. IfSome o (λ lits. lits.items ≡ ban_clause picks)) c.in-Some.is c.in_ok-found.ensures.clause in
    let places = subst (λ o. IfSome o (λ _. All (λ pick. pick.place < length pairs) picks)) c.in-Some.is c.in_ok-found.ensures.places in
    let adds = subst (AddsGiven c.args.solver.now c.add.new.self) c.deref-2.ensures.value c.in_ok-add.ensures.ok in
    ready_more c.law_literals_are_sets.ensures p pairs c.args.solver.now c.add.new.self c.in-Some.lits.items c.requires.ready adds
    (λ f met. subst (λ ls. clause_true (made_bits p pairs f) ls ≡ true) (sym clause) (ban_true p pairs picks (subst (IsClash p pairs) (sym c.deref.ensures.value) c.requires.clash) places f met))
