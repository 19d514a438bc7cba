use Rattle.std.proofs.Common.{◌≡◌, ◌∙◌, ◌<◌, ◌*◌, List, ℕ, length, get_or, Some, sym, ap, subst, arith, length-set}
use Rattle.std.specs.List.{Contains}
use Rattle.lits_core.proofs.LiteralLemmas.{negation-below}
use Rattle.clause_arena.specs.Records.{Record}
use Rattle.watch_arena.specs.declared.engine.Engine.{Engine}
use Rattle.watch_arena.specs.Engines.{IsEngine}
use Rattle.watch_arena.proofs.WatchedPair.{contains_at}
use Rattle.watch_arena.proofs.AddedClause.{Added}
use Rattle.watch_arena.proofs.engine.Engine.add_watched.Goals as goal

-- a code of the clause is of the first variables
code_range : (codes : List ℕ) (k code variables : ℕ) → k < length codes → code ≡ get_or codes k 0 → ((lit : ℕ) → Contains codes lit → lit < 2 * variables) → code < 2 * variables
code_range codes k code variables lt is range = range code (contains_at codes k code lt (sym is))

pub false_since-requires : goal.false_since-requires
false_since-requires c =
    let two = c.requires.two in
    let range = code_range c.args.codes.now 0 c.from_code-first.result c.args.self.now.variables (omega arith) c.from_code-first.ensures c.requires.range in
    let below = negation-below c.from_code-first.result c.args.self.now.variables range in
    let size = c.requires.sound.marked.size in omega arith

pub false_since-requires-2 : goal.false_since-requires-2
false_since-requires-2 c =
    let two = c.requires.two in
    let range = code_range c.args.codes.now 1 c.from_code-second.result c.args.self.now.variables (omega arith) c.from_code-second.ensures c.requires.range in
    let below = negation-below c.from_code-second.result c.args.self.now.variables range in
    let size = c.requires.sound.marked.size in omega arith

pub attach-requires-clause-range : goal.attach-requires-clause-range
attach-requires-clause-range c =
    let two = c.requires.two in
    let range = code_range c.args.codes.now 0 c.from_code-first.result c.args.self.now.variables (omega arith) c.from_code-first.ensures c.requires.range in
    let vars = ap (λ (e : Engine). e.variables) c.rewind.ensures.same in
    let lists = c.rewind.ensures.sound.lists in omega arith

pub attach-requires-2-clause-range : goal.attach-requires-2-clause-range
attach-requires-2-clause-range c =
    let two = c.requires.two in
    let range = code_range c.args.codes.now 1 c.from_code-second.result c.args.self.now.variables (omega arith) c.from_code-second.ensures c.requires.range in
    let vars = ap (λ (e : Engine). e.variables) c.rewind.ensures.same in
    let lists = c.rewind.ensures.sound.lists in
    let size = ap (λ (e : Engine). length e.chains) c.attach.ensures in
    let same = length-set c.rewind.new.self.chains c.from_code-first.result (Some (record { at = c.in_ok-at.at; slot = 0 })) in
    omega arith

pub returns-clause-ok : goal.returns-clause-ok
returns-clause-ok c =
    (Added c.args.self.now c.rewind.new.self c.put.new.self c.attach.new.self c.attach-2.new.self c.args.codes.now c.args.id c.from_code-first.result c.from_code-second.result c.in_ok-at.at c.false_since.result c.false_since-2.result c.min-since.result c.requires.sound c.requires.range c.requires.two c.requires.differ c.from_code-first.ensures c.from_code-second.ensures c.false_since.ensures c.false_since-2.ensures c.min-since.ensures c.rewind.ensures.sound c.rewind.ensures.rewound c.rewind.ensures.same c.in_ok-at.ensures.at c.in_ok-at.ensures.ok c.attach.ensures c.attach-2.ensures).bodies

pub returns-clause-sound : goal.returns-clause-sound
returns-clause-sound c =
    (Added c.args.self.now c.rewind.new.self c.put.new.self c.attach.new.self c.attach-2.new.self c.args.codes.now c.args.id c.from_code-first.result c.from_code-second.result c.in_ok-at.at c.false_since.result c.false_since-2.result c.min-since.result c.requires.sound c.requires.range c.requires.two c.requires.differ c.from_code-first.ensures c.from_code-second.ensures c.false_since.ensures c.false_since-2.ensures c.min-since.ensures c.rewind.ensures.sound c.rewind.ensures.rewound c.rewind.ensures.same c.in_ok-at.ensures.at c.in_ok-at.ensures.ok c.attach.ensures c.attach-2.ensures).sound

pub returns-clause-places : goal.returns-clause-places
returns-clause-places c = record {
  places = ap (λ (e : Engine). e.places.list) c.attach-2.ensures ∙ ap (λ (e : Engine). e.places.list) c.attach.ensures ∙ ap (λ (e : Engine). e.places.list) c.rewind.ensures.same;
  variables = ap (λ (e : Engine). e.variables) c.attach-2.ensures ∙ ap (λ (e : Engine). e.variables) c.attach.ensures ∙ ap (λ (e : Engine). e.variables) c.rewind.ensures.same;
  moves = ap (λ (e : Engine). e.moves) c.attach-2.ensures ∙ ap (λ (e : Engine). e.moves) c.attach.ensures ∙ ap (λ (e : Engine). e.moves) c.rewind.ensures.same;
}

pub returns-clause-at : goal.returns-clause-at
returns-clause-at c = c.in_ok-at.ensures.at ∙ ap (λ (e : Engine). length e.arena) c.rewind.ensures.same

pub returns-in_err-at-clause-sound : goal.returns-in_err-at-clause-sound
returns-in_err-at-clause-sound c = subst (λ (rs : List Record). IsEngine (record c.rewind.new.self { arena = rs })) (sym c.in_err-at.ensures.err) c.rewind.ensures.sound

pub returns-in_err-at-clause-places : goal.returns-in_err-at-clause-places
returns-in_err-at-clause-places c = record {
  places = ap (λ (e : Engine). e.places.list) c.rewind.ensures.same;
  variables = ap (λ (e : Engine). e.variables) c.rewind.ensures.same;
  moves = ap (λ (e : Engine). e.moves) c.rewind.ensures.same;
}
