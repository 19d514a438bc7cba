use Rattle.std.proofs.Common.{refl, sym, ◌∙◌, inl, inr}
use Rattle.std.proofs.lemmas.Bool.{true≢false}
use Rattle.point_pool.proofs.Pooling.{but_more, but_waiting}
use Rattle.point_pool.proofs.pool.Pool.want.Goals as goal

pub returns-then-not-is_needed-clause-pool : goal.returns-then-not-is_needed-clause-pool
returns-then-not-is_needed-clause-pool c =
    but_more c.args.self.now c.args.number c.args.high c.requires.pool (λ needed. absurd (true≢false (sym needed ∙ sym c.if-not-is_needed.ensures)))

pub returns-then-is_served-clause-pool : goal.returns-then-is_served-clause-pool
returns-then-is_served-clause-pool c =
    but_more c.args.self.now c.args.number c.args.high c.requires.pool (λ needed. inr (c.if-is_served.ensures refl))

pub returns-clause-pool : goal.returns-clause-pool
returns-clause-pool c =
    but_more (record c.args.self.now { waiting = c.push.new.self }) c.args.number c.args.high
    (but_waiting c.args.self.now c.args.number c.args.high c.push.new.self c.requires.pool c.in_ok-push.ensures.stay) (λ needed. inl c.in_ok-push.ensures.there)
