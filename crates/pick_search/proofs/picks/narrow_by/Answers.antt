use Rattle.std.proofs.Common.{[], ◌∷◌, length, sym, refl}
use Rattle.std.proofs.lemmas.Bool.{ltb-true}
use Rattle.std.proofs.lemmas.List.{get_or_read}
use Rattle.std.proofs.lemmas.Result.{on_ok_weaker}
use Rattle.pick_search.proofs.Narrowing.{none_picked, one_picked}
use Rattle.pick_search.proofs.picks.narrow_by.Goals as goal

pub returns-in-None : goal.returns-in-None
returns-in-None c = none_picked c.args.node.now c.args.node.now c.args.pairs.now (c.args.pick ∷ []) refl

pub returns-in-Some : goal.returns-in-Some
returns-in-Some c =
    let here = sym (get_or_read c.args.pairs.now c.args.pick.place c.in-Some.pair.now (ltb-true c.args.pick.place (length c.args.pairs.now) (sym c.in-Some.ensures.lookup.0)) c.in-Some.ensures.lookup.1 0) in
    on_ok_weaker c.narrow.result
    (λ narrowed. one_picked c.args.node.now c.narrow.new.self c.args.pairs.now c.args.pick c.in-Some.pair.now c.one.result here c.one.ensures narrowed c.narrow.ensures.shape)
    c.narrow.ensures.value
