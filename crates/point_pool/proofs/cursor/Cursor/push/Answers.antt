use Rattle.std.proofs.Common.{◌≡◌, ◌∙◌, ◌<◌, ◌+◌, ◌*◌, [], ◌∷◌, ◌++◌, length, subst, sym, ap, arith}
use Rattle.std.specs.Prelude.{IsTrue, vec_len}
use Rattle.rcc5_core.specs.RelationSet.{has}
use Rattle.rcc5_core.specs.Region.{row_of}
use Rattle.world_model.specs.Problem.{pair_count, concept_count}
use Rattle.world_model.specs.Node.{pair_at}
use Rattle.world_model.specs.Alive.{allowed}
use Rattle.point_encode.specs.Model.Forced.{pair_selectors}
use Rattle.point_pool.proofs.Cursors.{cursor_more}
use Rattle.point_pool.proofs.cursor.Cursor.push.Goals as goal

pub invariant_of-self-2 : goal.invariant_of-self-2
invariant_of-self-2 c =
    let s = c.self.inside in
    let p = s.problem in
    let n = vec_len s.path in
    let more = c.in_ok-more.more.items in
    let within : length s.path.items < pair_count s.problem = subst (λ s. length s.path < pair_count s.problem) (sym c.self.view_is) c.requires.within in
    let allows : IsTrue (has (allowed s.problem (pair_at s.problem (length s.path.items))) c.args.rel) =
    subst (λ s. IsTrue (has (allowed s.problem (pair_at s.problem (length s.path))) c.args.rel)) (sym c.self.view_is) c.requires.allowed in
    let counted : vec_len s.path ≡ length s.path.items = omega (arith, s.path.ok) in
    let selects : more ≡ pair_selectors (concept_count p + 3 * n) (row_of c.args.rel) =
    c.in_ok-more.ensures ∙ ap (λ k. pair_selectors (concept_count p + 3 * k) c.row.result) c.len-pair.ensures ∙ ap (pair_selectors (concept_count p + 3 * n)) c.row.ensures in
    let path : c.push_reserved.new.self.items ≡ s.path.items ++ c.args.rel ∷ [] = c.push_reserved.ensures.items ∙ ap (λ m. m ++ c.args.rel ∷ []) c.reserve.ensures.items in
    let lits : c.extend_from_slice.new.self.items ≡ s.selected.items ++ more = c.in_ok-extend_from_slice.ensures.items ∙ ap (λ ls. s.selected.items ++ ls) c.deref.ensures.value in
    rw (path, lits, c.len-pair.ensures, c.row-2.ensures)
    (cursor_more c.positions_narrow.ensures p s.path.items s.at_start.items s.at_path.items s.empty s.selected.items more c.args.rel n c.self.invariant counted within allows selects)
