use Rattle.std.proofs.Common.{◌∙◌, length, refl, ap, arith}
use Rattle.clause_arena.specs.Movings.{new_ref, place_after}
use Rattle.watch_arena.specs.Stack.{Stack}
use Rattle.watch_arena.proofs.WatchVisit.{places_at_most}
use Rattle.watch_arena.proofs.CompactedClauses.{IsBare-compacted, IsEngine-relinked, places_with-same, length-with}
use Rattle.watch_arena.proofs.engine.Engine.compact.Goals as goal

pub cap-requires : goal.cap-requires
cap-requires c =
    let is = c.len-count.ensures in
    let size = ap (λ (p : Stack). length p.list) c.mend.ensures ∙ length-with (new_ref c.compact.new.moves.pairs) c.args.self.now.places.list in
    let firsts = c.requires.sound.firsts in
    let most = places_at_most c.args.self.now.marks c.args.self.now.places.list c.args.self.now.variables c.requires.sound.marked in
    omega arith

pub relink-requires-clause-in_range : goal.relink-requires-clause-in_range
relink-requires-clause-in_range c =
    let is = c.len-count.ensures in
    let size = ap (λ (p : Stack). length p.list) c.mend.ensures ∙ length-with (new_ref c.compact.new.moves.pairs) c.args.self.now.places.list in
    (IsBare-compacted c.args.self.now (record c.args.self.now { arena = c.compact.new.self; places = c.mend.new.self; shorts = c.mend-2.new.self; moves = c.clear.new.self; first = 0; firsts = c.cap.new.self }) c.requires.sound c.compact.ensures.kept
    (ap (λ (p : Stack). p.list) c.mend.ensures ∙ places_with-same (new_ref c.compact.new.moves.pairs) (place_after c.args.self.now.arena) c.args.self.now.places.list c.compact.ensures.moved)
    (ap (λ (p : Stack). p.room) c.mend.ensures)
    (λ at to has goes. c.mend-2.ensures at to has (c.compact.ensures.moved at ∙ goes))
    refl refl c.cap.ensures.size (λ p lt. c.cap.ensures.capped p (omega arith) (omega arith)) refl refl refl c.clear.ensures.pairs).in_range

pub returns-clause-sound : goal.returns-clause-sound
returns-clause-sound c =
    let is = c.len-count.ensures in
    let size = ap (λ (p : Stack). length p.list) c.mend.ensures ∙ length-with (new_ref c.compact.new.moves.pairs) c.args.self.now.places.list in
    let bare = IsBare-compacted c.args.self.now (record c.args.self.now { arena = c.compact.new.self; places = c.mend.new.self; shorts = c.mend-2.new.self; moves = c.clear.new.self; first = 0; firsts = c.cap.new.self }) c.requires.sound c.compact.ensures.kept
    (ap (λ (p : Stack). p.list) c.mend.ensures ∙ places_with-same (new_ref c.compact.new.moves.pairs) (place_after c.args.self.now.arena) c.args.self.now.places.list c.compact.ensures.moved)
    (ap (λ (p : Stack). p.room) c.mend.ensures)
    (λ at to has goes. c.mend-2.ensures at to has (c.compact.ensures.moved at ∙ goes))
    refl refl c.cap.ensures.size (λ p lt. c.cap.ensures.capped p (omega arith) (omega arith)) refl refl refl c.clear.ensures.pairs in
    IsEngine-relinked (record c.args.self.now { arena = c.compact.new.self; places = c.mend.new.self; shorts = c.mend-2.new.self; moves = c.clear.new.self; first = 0; firsts = c.cap.new.self }) c.relink.new.self bare c.requires.sound.lists c.relink.ensures.relinks c.relink.ensures.filed
