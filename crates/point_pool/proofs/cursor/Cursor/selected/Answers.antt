use Rattle.std.proofs.Common.{◌∙◌, subst}
use Rattle.point_pool.specs.Cursors.{AreSelectors}
use Rattle.point_pool.proofs.Selecting.{selectors_are}
use Rattle.point_pool.proofs.cursor.Cursor.selected.Goals as goal

pub returns : goal.returns
returns c =
    let s = c.self.inside in
    let are : AreSelectors s.problem s.path.items c.deref.result.now =
    selectors_are c.positions_narrow.ensures s.problem s.path.items c.deref.result.now c.self.invariant.allows (c.deref.ensures.value ∙ c.self.invariant.selected) in
    subst (λ v. AreSelectors v.problem v.path c.deref.result.now) c.self.view_is are
