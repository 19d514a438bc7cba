use Rattle.std.proofs.Common.{◌≡◌, ◌<◌, length, get_or, ◌∙◌, sym, ap, subst, arith}
use Rattle.std.specs.Prelude.{IsTrue}
use Rattle.std.proofs.lemmas.List.{get_or_read}
use Rattle.world_model.specs.Alive.{problem_at, is_point, is_in_need, point_at}
use Rattle.point_encode.specs.Model.Forced.{need_at}
use Rattle.point_pool.proofs.Pooling.{served_point}
use Rattle.point_pool.proofs.pool.Pool.witness.Goals as goal

pub returns-clause-point : goal.returns-clause-point
returns-clause-point c =
    let w = c.args.self.now in
    let number = c.args.number in
    let place : c.index-place.result.now ≡ get_or w.witness.items number 0 =
    get_or_read w.witness.items number c.index-place.result.now (omega (arith, c.requires.kept.numbered, c.requires.within)) c.index-place.ensures 0 in
    let there : c.index-place.result.now < length w.places.points = subst (λ k. k < length w.places.points) (sym place) c.requires.served.fit.there in
    let bits : c.point.result.now ≡ point_at w.places.points c.index-place.result.now = c.point.ensures in
    let is : c.in_ok-point.point ≡ point_at w.places.points (get_or w.witness.items number 0) = c.in_ok-point.ensures ∙ bits ∙ ap (point_at w.places.points) place in
    subst (λ b. IsTrue (is_point (problem_at w.cursor.problem w.cursor.path) b)) (sym is) (served_point w number (get_or w.witness.items number 0) c.requires.kept c.requires.served).0

pub returns-clause-in_need : goal.returns-clause-in_need
returns-clause-in_need c =
    let w = c.args.self.now in
    let number = c.args.number in
    let place : c.index-place.result.now ≡ get_or w.witness.items number 0 =
    get_or_read w.witness.items number c.index-place.result.now (omega (arith, c.requires.kept.numbered, c.requires.within)) c.index-place.ensures 0 in
    let there : c.index-place.result.now < length w.places.points = subst (λ k. k < length w.places.points) (sym place) c.requires.served.fit.there in
    let bits : c.point.result.now ≡ point_at w.places.points c.index-place.result.now = c.point.ensures in
    let is : c.in_ok-point.point ≡ point_at w.places.points (get_or w.witness.items number 0) = c.in_ok-point.ensures ∙ bits ∙ ap (point_at w.places.points) place in
    subst (λ b. IsTrue (is_in_need (need_at w.cursor.problem number) b)) (sym is) (served_point w number (get_or w.witness.items number 0) c.requires.kept c.requires.served).1
