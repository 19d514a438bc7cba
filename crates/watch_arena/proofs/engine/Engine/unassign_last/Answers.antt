use Rattle.std.proofs.Common.{◌≡◌, ◌-◌, ◌∙◌, ℕ, length, get_or, set, subst, sym, ap, arith}
use Rattle.watch_arena.specs.declared.places.Place.{Place}
use Rattle.watch_arena.specs.declared.engine.Engine.{Engine}
use Rattle.watch_arena.specs.Places.{place_at}
use Rattle.watch_arena.specs.Engines.{IsEngine, without_last}
use Rattle.watch_arena.proofs.EngineInvariant.{IsEngine-popped}
use Rattle.watch_arena.proofs.WatchVisit.{place_read, place_lit-in_range, mark_within, places_at_most}
use Rattle.watch_arena.proofs.engine.Engine.unassign_last.Goals as goal

undone : (c : goal.After-pop) → ◌≡◌ {A = Engine} (record c.args.self.now { marks = c.set.new.self; places = c.pop.new.self; queue_head = c.get-self.result; first = c.get-self-2.result }) (without_last c.args.self.now)
undone c =
    let some = c.requires.some in
    let count = c.len-last.ensures in
    let place : place_at c.args.self.now.places.list (c.len-last.result - 1) ≡ c.get.result.now = place_read c.args.self.now.places.list (c.len-last.result - 1) c.get.result.now (omega arith) c.get.ensures in
    let lit : c.code.result ≡ (place_at c.args.self.now.places.list (length c.args.self.now.places.list - 1)).lit = c.code.ensures ∙ ap (λ (p : Place). p.lit) (sym place) ∙ ap (λ (n : ℕ). (place_at c.args.self.now.places.list (n - 1)).lit) count in
    let marks : c.set.new.self ≡ set c.args.self.now.marks (place_at c.args.self.now.places.list (length c.args.self.now.places.list - 1)).lit 0 = c.set.ensures ∙ ap (λ (l : ℕ). set c.args.self.now.marks l 0) lit in
    let queue_head : c.get-self.result ≡ get_or c.args.self.now.heads (length c.args.self.now.places.list - 1) 0 = c.get-self.ensures ∙ ap (λ (n : ℕ). get_or c.args.self.now.heads (n - 1) 0) count in
    let first : c.get-self-2.result ≡ get_or c.args.self.now.firsts (length c.args.self.now.places.list - 1) 0 = c.get-self-2.ensures ∙ ap (λ (n : ℕ). get_or c.args.self.now.firsts (n - 1) 0) count in
    let places = c.pop.ensures in
    cc (marks, queue_head, first, places)

pub returns-clause-sound : goal.returns-clause-sound
returns-clause-sound c = subst (λ (e : Engine). IsEngine e) (sym (undone c)) (IsEngine-popped c.args.self.now c.requires.sound c.requires.some)

pub returns-clause-is : goal.returns-clause-is
returns-clause-is c = undone c

pub set-requires : goal.set-requires
set-requires c =
    let some = c.requires.some in
    let count = c.len-last.ensures in
    let place : place_at c.args.self.now.places.list (c.len-last.result - 1) ≡ c.get.result.now = place_read c.args.self.now.places.list (c.len-last.result - 1) c.get.result.now (omega arith) c.get.ensures in
    let lit : (place_at c.args.self.now.places.list (c.len-last.result - 1)).lit ≡ c.code.result = ap (λ (p : Place). p.lit) place ∙ sym c.code.ensures in
    mark_within c.args.self.now c.code.result c.requires.sound (place_lit-in_range c.args.self.now (c.len-last.result - 1) c.code.result c.requires.sound (omega arith) lit).0

pub get-self-requires : goal.get-self-requires
get-self-requires c =
    let some = c.requires.some in let count = c.len-last.ensures in let heads = c.requires.sound.heads in
    let most = places_at_most c.args.self.now.marks c.args.self.now.places.list c.args.self.now.variables c.requires.sound.marked in
    omega arith

pub get-self-requires-2 : goal.get-self-requires-2
get-self-requires-2 c =
    let some = c.requires.some in let count = c.len-last.ensures in let firsts = c.requires.sound.firsts in
    let most = places_at_most c.args.self.now.marks c.args.self.now.places.list c.args.self.now.variables c.requires.sound.marked in
    omega arith
