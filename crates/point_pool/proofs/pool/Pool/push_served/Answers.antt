use Rattle.std.proofs.Common.{◌≡◌, [], get_or, sym, subst, arith}
use Rattle.std.specs.Prelude.{Contains}
use Rattle.std.proofs.lemmas.List.{get_or_read}
use Rattle.std.proofs.lemmas.List.Elements.{Contains-append_right}
use Rattle.point_pool.proofs.pool.Pool.push_served.Goals as goal

pub returns-in_ok-push_all-clause-there : goal.returns-in_ok-push_all-clause-there
returns-in_ok-push_all-clause-there c = λ number h.
    let serves = c.args.self.now.serves.items in
    let row : c.index.result.now ≡ get_or serves c.args.place [] = get_or_read serves c.args.place c.index.result.now (omega (arith, c.if-place-len.true, c.len.ensures)) c.index.ensures [] in
    subst (λ ns. Contains ns number) (sym c.in_ok-push_all.ensures) (Contains-append_right c.args.list.now.items c.index.result.now number (subst (λ ns. Contains ns number) (sym row) h))
