use Rattle.std.proofs.Common.{◌≡◌, ◌∙◌, true, sym, ap, subst, arith, ℕ}
use Rattle.std.specs.Prelude.{All, IsTrue}
use Rattle.bit_rows.specs.Rows.{has_bit}
use Rattle.world_model.specs.Alive.{is_point, meets_trees, point_at, problem_at}
use Rattle.point_encode.specs.Numbers.{is_needed}
use Rattle.point_encode.specs.Model.Forced.{need_count}
use Rattle.point_pool.specs.Pools.{IsPool}
use Rattle.point_pool.specs.declared.pool.Pool.{Pool}
use Rattle.point_pool.proofs.Pooling.{pool_made}
use Rattle.point_pool.proofs.pool.Pool.at_start.Goals as goal

pub strike_others-requires-clause-trees : goal.strike_others-requires-clause-trees
strike_others-requires-clause-trees c =
    subst (λ s. All (λ bits. IsTrue (meets_trees s.problem bits)) c.revive_all.new.self.points) (sym c.in_ok-cursor.ensures)
    (subst (λ ps. All (λ bits. IsTrue (meets_trees c.args.problem bits)) ps) (sym c.revive_all.ensures.points) c.requires.trees)

pub returns-clause-pool : goal.returns-clause-pool
returns-clause-pool c =
    let p = c.args.problem in
    let cursor = c.in_ok-cursor.ensures in
    let s = c.strike_others.new.places in
    let counted : c.count_needs-count.result ≡ need_count p = c.count_needs-count.ensures ∙ ap need_count (c.problem.ensures ∙ ap (λ s. s.problem) cursor) in
    let live = subst (λ v. (place : ℕ) → has_bit s.live place ≡ true → IsTrue (is_point v.problem (point_at s.points place))) cursor c.strike_others.ensures.live in
    let trees = subst (λ ps. All (λ bits. IsTrue (meets_trees p bits)) ps) (sym (c.strike_others.ensures.points ∙ c.revive_all.ensures.points)) c.requires.trees in
    let w : Pool = record {
      cursor = c.in_ok-cursor.cursor;
      places = s;
      struck = c.new-2.result;
      marks = c.new-3.result;
      witness = c.in_ok-vec.field-0;
      slots = c.in_ok-vec-2.field-0;
      serves = c.in_ok-serves.serves;
      waiting = c.in_ok-waiting.waiting;
      drafts = c.new-4.result;
      alloc = c.args.alloc;
    } in
    let made = pool_made c.positions_narrow.ensures w p cursor (c.strike_others.ensures.concepts ∙ c.revive_all.ensures.concepts ∙ c.requires.concepts) live trees (omega (arith, c.in_ok-serves.ensures, c.len.ensures))
    (omega (arith, c.in_ok-vec.ensures.len, c.in_ok-vec.field-0.ok, counted)) (omega (arith, c.in_ok-vec-2.ensures.len, c.in_ok-vec-2.field-0.ok, counted)) c.new-3.ensures.items
    (λ number within needed. c.in_ok-waiting.ensures number (omega (arith, within, counted)) (subst (λ v. IsTrue (is_needed (problem_at v.problem v.path) number)) (sym cursor) needed)) in
    subst (λ v. IsPool (record w { places = v })) (sym c.places-2.view_is) made
