use Rattle.std.proofs.Common.{◌≡◌, ◌∙◌, ℕ, zero, suc, ◌+◌, ◌-◌, ◌*◌, ◌<◌, List, [], ◌∷◌, length, get_or, set, take, refl, subst, sym, ap, arith}
use Rattle.rcc5_core.specs.declared.Rel.{Rel}
use Rattle.rcc5_core.specs.declared.Rel.TheVariants.{Equals}
use Rattle.rcc5_core.specs.Region.{row_of}
use Rattle.world_model.specs.Problem.{concept_count}
use Rattle.point_pool.specs.Cursors.{IsCursor}
use Rattle.point_encode.specs.Model.Forced.{pair_selectors}
use Rattle.point_pool.proofs.Cursors.{cursor_fewer}
use Rattle.point_pool.proofs.cursor.Cursor.pop.Goals as goal

-- what stands in a list, whatever stands past its end
inside : (m : List Rel) (n : ℕ) (d e : Rel) → n < length m → get_or m n d ≡ get_or m n e
inside [] n d e lt = absurd (omega arith)
inside (x ∷ m) zero d e lt = refl
inside (x ∷ m) (suc n) d e lt = inside m n d e (omega arith)

pub invariant_of-self : goal.invariant_of-self
invariant_of-self c =
    let s = c.self.inside in
    let p = s.problem in
    let n = c.len-pair.result - 1 in
    let some : 0 < length s.path.items = subst (λ s. 0 < length s.path) (sym c.self.view_is) c.requires in
    let one : length s.path.items ≡ n + 1 = omega (arith, s.path.ok) in
    let last : c.index.result.now ≡ get_or s.path.items n Equals = c.index.ensures ∙ inside s.path.items n c.index.result.now Equals (omega arith) in
    let count : c.selected_count-fewer.result ≡ length (pair_selectors (concept_count p + 3 * n) (row_of (get_or s.path.items n Equals))) =
    c.selected_count-fewer.ensures (concept_count p + 3 * n) ∙ ap (λ r. length (pair_selectors (concept_count p + 3 * n) (row_of r))) last in
    let fewer = cursor_fewer c.positions_narrow.ensures p s.path.items s.at_start.items s.at_path.items s.empty s.selected.items n c.selected_count-fewer.result c.index-2.result.now c.self.invariant one count in
    let kept : c.saturating_sub-kept.result ≡ length s.selected.items - c.selected_count-fewer.result = omega (arith, c.saturating_sub-kept.ensures, c.len.ensures, s.selected.ok) in
    let lits : c.truncate.new.self.items ≡ take (length s.selected.items - c.selected_count-fewer.result) s.selected.items = c.truncate.ensures.items ∙ ap (λ k. take k s.selected.items) kept in
    rw (lits, c.truncate-2.ensures.items)
    (subst (λ x. IsCursor p (take n s.path.items) s.at_start.items (set s.at_path.items n x) s.empty (take (length s.selected.items - c.selected_count-fewer.result) s.selected.items)) (sym c.index-2.ensures) fewer)
