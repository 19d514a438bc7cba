use Rattle.std.proofs.Common.{◌≡◌, ◌≢◌, ◌∙◌, length, Some, true, false, sym, ap, arith, length-set}
use Rattle.clause_arena.specs.Records.{record_at}
use borrow.Author.Tests.{eq-eqb}
use Rattle.watch_arena.specs.declared.engine.Engine.{Engine}
use Rattle.watch_arena.proofs.WatchedPair.{contains_at}
use Rattle.watch_arena.proofs.RebuiltChains.{Watched}
use Rattle.watch_arena.proofs.engine.Engine.watch.Goals as goal

pub attach-requires-clause-range : goal.attach-requires-clause-range
attach-requires-clause-range c =
    let long = c.if-len_of-lt2.false in let size = c.len_of.ensures in let lists = c.requires.lists in
    let range = c.requires.in_range c.args.at c.lit_at-first.result (contains_at (record_at c.args.self.now.arena c.args.at).lits 0 c.lit_at-first.result (omega arith) (sym c.lit_at-first.ensures)) in
    omega arith

pub attach-requires-2-clause-range : goal.attach-requires-2-clause-range
attach-requires-2-clause-range c =
    let long = c.if-len_of-lt2.false in let size = c.len_of.ensures in let lists = c.requires.lists in
    let range = c.requires.in_range c.args.at c.lit_at-second.result (contains_at (record_at c.args.self.now.arena c.args.at).lits 1 c.lit_at-second.result (omega arith) (sym c.lit_at-second.ensures)) in
    let chains = ap (λ (e : Engine). length e.chains) c.attach.ensures in
    let same = length-set c.args.self.now.chains c.lit_at-first.result (Some (record { at = c.args.at; slot = 0 })) in
    omega arith

pub returns-clause-filed : goal.returns-clause-filed
returns-clause-filed c =
    let long = c.if-len_of-lt2.false in let size = c.len_of.ensures in
    let ne : c.lit_at-first.result ≢ c.lit_at-second.result = λ e. absurd (let clash : false ≡ true = c.if-eq.ensures ∙ eq-eqb c.lit_at-first.result c.lit_at-second.result e in cc) in
    (Watched c.args.self.now c.attach.new.self c.attach-2.new.self c.args.at c.lit_at-first.result c.lit_at-second.result c.requires.at c.requires.lists c.requires.in_range c.requires.filed (omega arith) c.lit_at-first.ensures c.lit_at-second.ensures ne c.attach.ensures c.attach-2.ensures).filed
