use Rattle.std.proofs.Common.{List, ℕ, [], ◌∷◌, ◌++◌, subst, sym}
use Rattle.clause_arena.specs.Records.{Record, new_record}
use Rattle.watch_arena.specs.Engines.{IsEngine}
use Rattle.watch_arena.proofs.AddedClause.{IsEngine-listed, IsEngine-put_short}
use Rattle.watch_arena.proofs.engine.Engine.add_short.Goals as goal

pub returns-in_err-at-clause-sound : goal.returns-in_err-at-clause-sound
returns-in_err-at-clause-sound c =
    let P : List ℕ → Type 0 = λ ls. IsEngine (record c.args.self.now { shorts = ls }) in
    let Q : List Record → Type 0 = λ rs. IsEngine (record c.args.self.now { shorts = c.push.new.self; arena = rs }) in
    subst Q (sym c.in_err-at.ensures.err) (subst P (sym c.in_ok-push.ensures.ok) (IsEngine-listed c.args.self.now c.in-Some.next c.requires.sound))

pub returns-clause-sound : goal.returns-clause-sound
returns-clause-sound c =
    let r : Record = new_record c.args.id c.args.codes.now in
    let P : ℕ → Type 0 = λ n. IsEngine (record c.args.self.now { shorts = c.args.self.now.shorts ++ n ∷ []; arena = c.args.self.now.arena ++ r ∷ [] }) in
    let Q : List ℕ → Type 0 = λ ls. IsEngine (record c.args.self.now { shorts = ls; arena = c.args.self.now.arena ++ r ∷ [] }) in
    let R : List Record → Type 0 = λ rs. IsEngine (record c.args.self.now { shorts = c.push.new.self; arena = rs }) in
    subst R (sym c.in_ok-at.ensures.ok)
    (subst Q (sym c.in_ok-push.ensures.ok)
    (subst P (sym c.in-Some.ensures) (IsEngine-put_short c.args.self.now r c.requires.sound c.requires.range c.requires.short)))
