use Rattle.std.proofs.Common.{◌≡◌, ◌<◌, true, length, get_or, ◌∙◌, sym, ap, subst, arith}
use Rattle.std.proofs.lemmas.List.{get_or_read}
use Rattle.world_model.specs.Alive.{problem_at, point_at}
use Rattle.point_encode.specs.Numbers.{is_needed}
use Rattle.point_pool.proofs.Settling.{served_now, witness_skipped, witness_pushed}
use Rattle.point_pool.proofs.pool.Pool.push_witness.Goals as goal

pub returns-then-not-is_needed : goal.returns-then-not-is_needed
returns-then-not-is_needed c =
    let w = c.args.self.now in
    witness_skipped (problem_at w.cursor.problem w.cursor.path) c.args.number c.args.list.now.items (sym c.if-not-is_needed.ensures) c.requires.served

pub returns : goal.returns
returns c =
    let w = c.args.self.now in
    let number = c.args.number in
    let needed : is_needed (problem_at w.cursor.problem w.cursor.path) number ≡ true = sym c.if-not-is_needed.ensures in
    let served = served_now w number c.requires.pool c.requires.settled c.requires.within needed in
    let place : c.index-place.result.now ≡ get_or w.witness.items number 0 =
    get_or_read w.witness.items number c.index-place.result.now (omega (arith, c.requires.pool.kept.numbered, c.requires.within)) c.index-place.ensures 0 in
    let there : c.index-place.result.now < length w.places.points = subst (λ k. k < length w.places.points) (sym place) served.fit.there in
    let bits : c.point.result.now ≡ point_at w.places.points c.index-place.result.now = c.point.ensures in
    witness_pushed w number c.args.list.now.items c.push.new.self.items c.in_ok-copy.field-0 c.requires.pool c.requires.settled c.requires.within needed
    (c.in_ok-copy.ensures ∙ bits ∙ ap (point_at w.places.points) place) c.in_ok-push.ensures.items c.requires.served
