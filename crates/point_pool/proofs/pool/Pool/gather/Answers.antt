use Rattle.std.proofs.Common.{◌≡◌, ◌<◌, true, false, length, get_or, ◌∙◌, sym, subst, arith}
use Rattle.std.proofs.lemmas.List.{get_or_read}
use Rattle.world_model.specs.Alive.{problem_at, point_at}
use Rattle.point_encode.specs.Numbers.{is_needed}
use Rattle.point_pool.proofs.Settling.{served_now}
use Rattle.point_pool.proofs.Gathering.{gathered_skip, gathered_taken, gathered_more}
use Rattle.point_pool.proofs.pool.Pool.gather.Goals as goal

pub returns-then-not-is_needed : goal.returns-then-not-is_needed
returns-then-not-is_needed c = gathered_skip c.args.self.now c.args.number c.args.list.now.items c.args.taken.now.items (sym c.if-not-is_needed.ensures) c.requires.gathered

pub returns-then-index : goal.returns-then-index
returns-then-index c =
    let w = c.args.self.now in
    let number = c.args.number in
    let needed : is_needed (problem_at w.cursor.problem w.cursor.path) number ≡ true = sym c.if-not-is_needed.ensures in
    let served = served_now w number c.requires.pool c.requires.settled c.requires.within needed in
    let place : c.index-place.result.now ≡ get_or w.witness.items number 0 =
    get_or_read w.witness.items number c.index-place.result.now (omega (arith, c.requires.pool.kept.numbered, c.requires.within)) c.index-place.ensures 0 in
    let there : c.index-place.result.now < length w.places.points = subst (λ k. k < length w.places.points) (sym place) served.fit.there in
    let marked : get_or c.args.taken.now.items c.index-place.result.now false ≡ true =
    sym (get_or_read c.args.taken.now.items c.index-place.result.now c.index.result.now (omega (arith, there, c.requires.gathered.counted)) c.index.ensures false) ∙ c.if-index.true in
    gathered_taken w number c.index-place.result.now c.args.list.now.items c.args.taken.now.items c.requires.pool c.requires.settled c.requires.within needed place marked c.requires.gathered

pub returns : goal.returns
returns c =
    let w = c.args.self.now in
    let number = c.args.number in
    let needed : is_needed (problem_at w.cursor.problem w.cursor.path) number ≡ true = sym c.if-not-is_needed.ensures in
    let served = served_now w number c.requires.pool c.requires.settled c.requires.within needed in
    let place : c.index-place.result.now ≡ get_or w.witness.items number 0 =
    get_or_read w.witness.items number c.index-place.result.now (omega (arith, c.requires.pool.kept.numbered, c.requires.within)) c.index-place.ensures 0 in
    let there : c.index-place.result.now < length w.places.points = subst (λ k. k < length w.places.points) (sym place) served.fit.there in
    let bits : c.point.result.now ≡ point_at w.places.points c.index-place.result.now = c.point.ensures in
    gathered_more w number c.index-place.result.now c.in_ok-copy.field-0 c.args.list.now.items c.push.new.self.items c.args.taken.now.items c.requires.pool c.requires.settled c.requires.within needed place
    (c.in_ok-copy.ensures ∙ bits) c.in_ok-push.ensures.items c.requires.gathered
