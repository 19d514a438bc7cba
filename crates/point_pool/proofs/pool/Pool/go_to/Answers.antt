use Rattle.std.proofs.Common.{◌≡◌, ◌+◌, ◌++◌, ◌∷◌, [], length, take, sym, ap, ◌∙◌, subst, arith}
use Rattle.std.proofs.lemmas.List.{take_all, length-append}
use Rattle.std.specs.Prelude.{slice_get}
use Rattle.std.proofs.lemmas.Option.{get_or_from_slice_get}
use Rattle.world_model.specs.Alive.{problem_at}
use Rattle.point_pool.specs.Cursors.{IsOpen, IsEmptyPair}
use Rattle.point_pool.proofs.Going.{refused_at, allowed_here, empty_at_prefix, front_more}
use Rattle.point_pool.proofs.pool.Pool.go_to.Goals as goal

pub returns-then-not-has-clause-empty : goal.returns-then-not-has-clause-empty
returns-then-not-has-clause-empty c =
    let w = c.loop-self.self in
    let same = c.loop-self.invariant.problem in
    refused_at c.positions_narrow.ensures c.args.self.now.cursor.problem c.problem.result.now c.args.prefix.now w.cursor.path c.at-rel.result c.allowed.result c.len-pair.result (c.problem.ensures ∙ same)
    c.len-pair.ensures c.loop-self.invariant.front (omega arith) c.requires.prefix (subst (λ p. IsOpen p w.cursor.path) (sym c.problem.ensures) c.facts.ensures) c.at-rel.ensures c.allowed.ensures
    (sym c.if-not-has.ensures)

pub push-requires-clause-allowed : goal.push-requires-clause-allowed
push-requires-clause-allowed c =
    let w = c.loop-self.self in
    allowed_here w.cursor.problem c.problem.result.now c.at-rel.result c.allowed.result c.len-pair.result (length w.cursor.path) c.problem.ensures c.len-pair.ensures c.allowed.ensures
    (sym c.if-not-has.ensures)

pub loop-self-preserved : goal.loop-self-preserved
loop-self-preserved c =
    let w = c.loop-self.self in
    let cursor = c.in_ok-push.ensures.cursor in
    let rel = c.at-rel.result in
    let path : c.push.new.self.cursor.path ≡ w.cursor.path ++ rel ∷ [] = ap (λ s. s.path) cursor in
    let counted : length c.push.new.self.cursor.path ≡ length w.cursor.path + 1 = ap length path ∙ length-append w.cursor.path (rel ∷ []) in
    let at = ap (λ k. slice_get c.args.prefix.now k) (sym c.len-pair.ensures) ∙ c.at-rel.ensures in
    let grown = front_more c.args.prefix.now w.cursor.path rel rel c.loop-self.invariant.front (omega arith) (sym (get_or_from_slice_get c.args.prefix.now (length w.cursor.path) rel rel at)) in
    record {
      pool = c.in_ok-push.ensures.pool;
      problem = ap (λ s. s.problem) cursor ∙ c.loop-self.invariant.problem;
      front = subst (λ m. m ≡ take (length m) c.args.prefix.now) (sym path)
          (subst (λ k. w.cursor.path ++ rel ∷ [] ≡ take k c.args.prefix.now) (sym (length-append w.cursor.path (rel ∷ []))) grown);
      within = omega arith;
    }

pub returns-clause-empty : goal.returns-clause-empty
returns-clause-empty c =
    let w = c.loop-self.self in
    let m = c.args.prefix.now in
    let whole : w.cursor.path ≡ m = c.loop-self.invariant.front ∙ take_all (length w.cursor.path) m (omega arith) in
    subst (λ p. IsEmptyPair (problem_at p m) c.empty.result) c.loop-self.invariant.problem
    (subst (λ n. IsEmptyPair (problem_at w.cursor.problem n) c.empty.result) whole
    (empty_at_prefix c.positions_narrow.ensures w.cursor.problem w.cursor.path c.empty.result c.facts-2.ensures c.empty.ensures))
