use Rattle.std.proofs.Common.{◌∙◌, ℕ, List, length, Option, Some, None, refl, sym, subst, ap, arith, rules}
use Rattle.std.specs.Prelude.{IfSome}
use Rattle.clause_arena.specs.declared.place.Link.{Link}
use Rattle.clause_arena.specs.Records.{Record, record_at}
use Rattle.watch_arena.specs.declared.engine.Engine.{Engine}
use Rattle.watch_arena.specs.Chains.{IsEntry}
use Rattle.watch_arena.proofs.WatchedPair.{contains_at}
use Rattle.watch_arena.proofs.SameRecords.{fresh}
use Rattle.watch_arena.proofs.ChangedChains.{IsEntry-exchanged}
use Rattle.watch_arena.proofs.MovedWatch.{IsAt, IsAt-walking, IsEntry-at, IsEntry-before, length-past}
use Rattle.watch_arena.proofs.ChainWalk.{IsExchange-past}
use Rattle.watch_arena.proofs.engine.Engine.move_watch.Goals as goal

pub link-next-requires-clause-slot : goal.link-next-requires-clause-slot
link-next-requires-clause-slot c =
    (IsEntry-at c.args.self.now c.args.lit c.args.prev.now c.args.entry c.requires.sound c.requires.range (IsAt-walking c.args.self.now c.args.lit c.args.prev.now c.args.entry c.requires.walking)).slot_is

-- the one before, if any
entry_before : (e : Engine) (lit : ℕ) (prev : Option Link) (x : Link) → ((p : Link) → IsAt e lit (Some p) x → IsEntry e.arena lit p) → IsAt e lit prev x → IfSome prev (λ p. IsEntry e.arena lit p)
entry_before e lit (Some p) x f w = f p w
entry_before e lit None x f w = search rules

pub lead_past-requires-clause-entry : goal.lead_past-requires-clause-entry
lead_past-requires-clause-entry c =
    entry_before c.args.self.now c.args.lit c.args.prev.now c.args.entry
    (λ p w. IsEntry-before c.args.self.now c.args.lit p c.args.entry c.requires.sound c.requires.range w)
    (IsAt-walking c.args.self.now c.args.lit c.args.prev.now c.args.entry c.requires.walking)

pub swap_lits-requires-clause-first_in_range : goal.swap_lits-requires-clause-first_in_range
swap_lits-requires-clause-first_in_range c =
    let p = (IsExchange-past c.args.self.now c.args.lit c.args.k c.args.prev.now c.args.entry c.link-next.result c.lead_past.new.self.arena c.requires.sound c.requires.range (IsAt-walking c.args.self.now c.args.lit c.args.prev.now c.args.entry c.requires.walking) c.requires.fresh c.link-next.ensures (ap (λ (e : Engine). e.arena) c.lead_past.ensures)).0.entry in let small = p.slot_is in let two = p.two in omega arith

pub swap_lits-requires-clause-second_in_range : goal.swap_lits-requires-clause-second_in_range
swap_lits-requires-clause-second_in_range c = (IsExchange-past c.args.self.now c.args.lit c.args.k c.args.prev.now c.args.entry c.link-next.result c.lead_past.new.self.arena c.requires.sound c.requires.range (IsAt-walking c.args.self.now c.args.lit c.args.prev.now c.args.entry c.requires.walking) c.requires.fresh c.link-next.ensures (ap (λ (e : Engine). e.arena) c.lead_past.ensures)).0.within

pub attach-requires-clause-range : goal.attach-requires-clause-range
attach-requires-clause-range c =
    let size = ap (λ (e : Engine). length e.chains) c.lead_past.ensures ∙ length-past c.args.self.now.chains c.args.lit c.args.prev.now c.link-next.result in
    let lists = c.requires.sound.lists in
    let range = c.requires.sound.in_range c.args.entry.at c.lit_at-fresh.result (contains_at (record_at c.args.self.now.arena c.args.entry.at).lits c.args.k c.lit_at-fresh.result c.requires.fresh.within (sym c.lit_at-fresh.ensures)) in
    omega arith

pub attach-requires-clause-entry : goal.attach-requires-clause-entry
attach-requires-clause-entry c =
    let both = (IsExchange-past c.args.self.now c.args.lit c.args.k c.args.prev.now c.args.entry c.link-next.result c.lead_past.new.self.arena c.requires.sound c.requires.range (IsAt-walking c.args.self.now c.args.lit c.args.prev.now c.args.entry c.requires.walking) c.requires.fresh c.link-next.ensures (ap (λ (e : Engine). e.arena) c.lead_past.ensures)) in
    let here = IsEntry-exchanged c.lead_past.new.self.arena c.args.entry c.args.k c.args.lit both.0 in
    let there = subst (λ (rs : List Record). IsEntry rs (fresh c.lead_past.new.self.arena c.args.entry.at c.args.k) c.args.entry) (sym c.swap_lits.ensures) here in
    subst (λ (n : ℕ). IsEntry c.swap_lits.new.self n c.args.entry) (both.1 ∙ sym c.lit_at-fresh.ensures) there

pub lit_at-fresh-requires-clause-of_the_list : goal.lit_at-fresh-requires-clause-of_the_list
lit_at-fresh-requires-clause-of_the_list c =
    (IsEntry-at c.args.self.now c.args.lit c.args.prev.now c.args.entry c.requires.sound c.requires.range (IsAt-walking c.args.self.now c.args.lit c.args.prev.now c.args.entry c.requires.walking)).within

pub lit_at-fresh-requires-clause-in_range : goal.lit_at-fresh-requires-clause-in_range
lit_at-fresh-requires-clause-in_range c = c.requires.fresh.within

pub link-next-requires-clause-of_the_list : goal.link-next-requires-clause-of_the_list
link-next-requires-clause-of_the_list c =
    (IsEntry-at c.args.self.now c.args.lit c.args.prev.now c.args.entry c.requires.sound c.requires.range (IsAt-walking c.args.self.now c.args.lit c.args.prev.now c.args.entry c.requires.walking)).within

pub lead_past-requires-clause-range : goal.lead_past-requires-clause-range
lead_past-requires-clause-range c = let lists = c.requires.sound.lists in let range = c.requires.range in omega arith

pub swap_lits-requires-clause-of_the_list : goal.swap_lits-requires-clause-of_the_list
swap_lits-requires-clause-of_the_list c =
    (IsExchange-past c.args.self.now c.args.lit c.args.k c.args.prev.now c.args.entry c.link-next.result c.lead_past.new.self.arena c.requires.sound c.requires.range (IsAt-walking c.args.self.now c.args.lit c.args.prev.now c.args.entry c.requires.walking) c.requires.fresh c.link-next.ensures (ap (λ (e : Engine). e.arena) c.lead_past.ensures)).0.entry.within

pub returns : goal.returns
returns c = rw (c.attach.ensures, c.swap_lits.ensures, c.lead_past.ensures, c.link-next.ensures, c.lit_at-fresh.ensures) refl
