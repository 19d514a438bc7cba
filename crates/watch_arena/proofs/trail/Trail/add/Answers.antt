use Rattle.std.proofs.Common.{◌<◌, ◌*◌, ◌∙◌, List, ℕ, subst, sym}
use Rattle.std.specs.List.{Contains}
use Rattle.std.specs.List.Sorted.{IsPermutation}
use Rattle.watch_arena.specs.Trails.{TrailState, AreInRange, Adds}
use Rattle.watch_arena.specs.Engines.{trail_state}
use Rattle.watch_arena.proofs.Promises.{codes_in_range, Adds-from}
use Rattle.watch_arena.proofs.trail.Trail.add.Goals as goal

pub add-requires-clause-range : goal.add-requires-clause-range
add-requires-clause-range c =
    let P : List ℕ → Type 0 = λ codes. (lit : ℕ) → Contains codes lit → lit < 2 * c.self.inside.engine.variables in
    subst P (sym (c.deref_mut.ensures.value ∙ c.in_ok-codes.ensures))
    (codes_in_range c.args.lits.now c.self.inside.engine.variables
    (subst (λ (t : TrailState). AreInRange c.args.lits.now t.variables) (sym c.self.view_is) c.requires))

pub returns-clause-ok : goal.returns-clause-ok
returns-clause-ok c =
    let P : List ℕ → Type 0 = λ codes. IsPermutation codes c.add.new.codes in
    subst (λ (t : TrailState). Adds t (trail_state c.add.new.self) c.args.lits.now c.args.id) c.self.view_is
    (Adds-from c.self.inside.engine c.add.new.self c.args.lits.now c.add.new.codes c.args.id c.add.ensures.places
    (subst P (c.deref_mut.ensures.value ∙ c.in_ok-codes.ensures) c.add.ensures.permuted) c.in_ok-at.ensures.ok)
