use Rattle.std.proofs.Common.{◌≡◌, ◌∙◌, ap, [], ◌∷◌, ◌++◌, refl, set, arith}
use Rattle.std.specs.Vec.{with_item}
use Rattle.std.proofs.lemmas.List.{get_or_read, length-set}
use Rattle.point_pool.specs.Pools.{served_at}
use Rattle.point_pool.proofs.Pooling.{assigned}
use Rattle.point_pool.proofs.pool.Pool.assign.Goals as goal

pub returns-clause-pool : goal.returns-clause-pool
returns-clause-pool c =
    let w = c.args.self.now in
    let old : c.index_mut.result.now ≡ served_at w.serves.items c.args.place =
    get_or_read w.serves.items c.args.place c.index_mut.result.now (omega (arith, c.requires.pool.kept.counted, c.requires.fit.there)) c.index_mut.ensures.value [] in
    let list : c.push.new.self ≡ served_at w.serves.items c.args.place ++ c.args.number ∷ [] = c.in_ok-push.ensures ∙ ap (λ ns. ns ++ c.args.number ∷ []) old in
    (assigned w c.args.number c.args.place c.note_use.new.self (with_item w.witness c.args.number c.args.place) (with_item w.slots c.args.number c.len-slot.result) (with_item w.serves c.args.place c.push.new.self)
    c.requires.pool c.requires.within c.requires.fit c.in_ok-note_use.ensures refl (length-set w.slots.items c.args.number c.len-slot.result) (ap (set w.serves.items c.args.place) list)).0

pub returns-clause-served : goal.returns-clause-served
returns-clause-served c =
    let w = c.args.self.now in
    let old : c.index_mut.result.now ≡ served_at w.serves.items c.args.place =
    get_or_read w.serves.items c.args.place c.index_mut.result.now (omega (arith, c.requires.pool.kept.counted, c.requires.fit.there)) c.index_mut.ensures.value [] in
    let list : c.push.new.self ≡ served_at w.serves.items c.args.place ++ c.args.number ∷ [] = c.in_ok-push.ensures ∙ ap (λ ns. ns ++ c.args.number ∷ []) old in
    (assigned w c.args.number c.args.place c.note_use.new.self (with_item w.witness c.args.number c.args.place) (with_item w.slots c.args.number c.len-slot.result) (with_item w.serves c.args.place c.push.new.self)
    c.requires.pool c.requires.within c.requires.fit c.in_ok-note_use.ensures refl (length-set w.slots.items c.args.number c.len-slot.result) (ap (set w.serves.items c.args.place) list)).1
