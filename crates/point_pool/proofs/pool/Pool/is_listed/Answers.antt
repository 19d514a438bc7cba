use Rattle.std.proofs.Common.{◌≡◌, [], subst, arith}
use Rattle.std.specs.Prelude.{Contains}
use Rattle.std.proofs.lemmas.List.{get_or_read}
use Rattle.point_pool.specs.Pools.{served_at}
use Rattle.point_pool.proofs.pool.Pool.is_listed.Goals as goal

pub returns-then-place-len : goal.returns-then-place-len
returns-then-place-len c = λ h.
    let serves = c.args.self.now.serves in
    let list : c.index.result.now ≡ served_at serves.items c.args.place =
    get_or_read serves.items c.args.place c.index.result.now (omega (arith, serves.ok, c.len.ensures, c.if-place-len.true)) c.index.ensures [] in
    subst (λ ns. Contains ns c.args.number) list (c.has_at.ensures h)
