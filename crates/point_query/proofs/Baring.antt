-- Regions of the next pair in which no point of a prefix is.
use Rattle.std.proofs.Common.{◌≡◌, ℕ, ◌+◌, ◌*◌, ◌/◌, ◌%◌, ◌<◌, true, List, [], ◌∷◌, ◌++◌, length, take, refl, ap, ◌∙◌, subst, arith}
use Rattle.std.specs.Prelude.{IsTrue}
use Rattle.std.proofs.lemmas.List.{get_or_push, length-append, take-append-le, take_all}
use Rattle.rcc5_core.specs.declared.Occupancy.TheVariants.{Occupied}
use Rattle.rcc5_core.specs.declared.Rel.{Rel}
use Rattle.rcc5_core.specs.declared.Rel.TheVariants.{Equals}
use Rattle.rcc5_core.specs.Region.{row_of, same_word, word_at}
use Rattle.rcc5_core.specs.RelationSet.{has}
use Rattle.point_encode.specs.Model.Forced.{region_with, need_at}
use Rattle.world_model.specs.Alive.{HasPoint, IsAlive, allowed, is_point, problem_at}
use Rattle.world_model.specs.Laws.{PositionsNarrow}
use Rattle.world_model.specs.Node.{pair_at}
use Rattle.world_model.specs.Points.{forced_at}
use Rattle.world_model.specs.Problem.{Problem, pair_count}
use Rattle.point_pool.specs.Cursors.{IsOpen}
use Rattle.point_encode.specs.Numbers.{is_needed}
use Rattle.point_pool.proofs.Cursors.{forced_inside, open_more}
use Rattle.point_pool.proofs.Prefixes.{needed_by, point_later}
use Rattle.point_query.proofs.Deciding.{lost_is_dead}

-- a relation that occupies such a region leads to no alive prefix
pub bare_is_dead : PositionsNarrow → (p : Problem) (m : List Rel) (rel : Rel) (part number : ℕ) → IsOpen p m → length m < pair_count p → has (allowed p (pair_at p (length m))) rel ≡ true →
    part < 3 → number ≡ 3 * length m + part → word_at (row_of rel) (region_with part) ≡ Occupied → (HasPoint (problem_at p m) (need_at p number) → ⊥) → IsAlive (problem_at p (m ++ rel ∷ [])) → ⊥
bare_is_dead law p m rel part number o within allows small is occupied none =
    let more = m ++ rel ∷ [] in
    let q = problem_at p more in
    let longer : length more ≡ length m + 1 = length-append m (rel ∷ []) in
    let opened : IsOpen p more = open_more p m rel o within allows in
    let front : take (length m) more ≡ m = take-append-le (length m) m (rel ∷ []) (omega arith) ∙ take_all (length m) m (omega arith) in
    let below : number < 3 * pair_count p = omega (arith, is, within, small) in
    let pair : number / 3 ≡ length m = omega (arith, is, small) in
    let rest : number % 3 ≡ part = omega (arith, is, small) in
    let forced : forced_at q (length m) ≡ row_of rel = forced_inside law p more (length m) opened (omega (arith, longer)) ∙ ap row_of (get_or_push m rel Equals (length m) refl) in
    let needed : is_needed q number ≡ true =
    needed_by q number below ∙ ap (λ k. same_word (word_at (forced_at q k) (region_with (number % 3))) Occupied) pair ∙
    ap (λ r. same_word (word_at (forced_at q (length m)) (region_with r)) Occupied) rest ∙ ap (λ r. same_word (word_at r (region_with part)) Occupied) forced ∙ ap (λ w. same_word w Occupied) occupied in
    lost_is_dead p more number (omega (arith, below)) needed (λ has. none (has.0, subst (λ t. IsTrue (is_point (problem_at p t) has.0)) front (point_later law p more (length m) has.0 opened (omega (arith, longer)) has.1), has.2))
