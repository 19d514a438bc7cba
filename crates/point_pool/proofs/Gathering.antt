-- Witnesses gathered need by need, each point once.
use Rattle.std.proofs.Common.{◌≡◌, ℕ, ◌+◌, ◌<◌, ◌≤◌, Bool, true, false, ◌||◌, cond, ◌⊎◌, replicate, List, [], ◌∷◌, ◌++◌, length, get_or, set, inl, inr, refl, sym, ap, ◌∙◌, subst, arith}
use Rattle.std.specs.Prelude.{Contains}
use Rattle.std.specs.List.{list_any}
use Rattle.std.proofs.lemmas.Bool.{and_from, and_parts, cases_eq, cases_lt, false≢true}
use Rattle.std.proofs.lemmas.List.{length-append, length-set, get_or-set_other, get_or-replicate, get_or_past, length-replicate, append-nil}
use Rattle.std.proofs.lemmas.List.Elements.{Contains-append_left, Contains-push}
use Rattle.std.proofs.lemmas.List.Folds.{list_all-append, list_any-append}
use Rattle.world_model.specs.Problem.{Problem}
use Rattle.world_model.specs.Alive.{Need, is_point, is_in_need, each_has_one, problem_at, point_at}
use Rattle.world_model.proofs.Members.{In, any_from, in_from_contains}
use Rattle.point_pool.specs.declared.pool.Pool.{Pool}
use Rattle.point_encode.specs.Numbers.{AreServing, is_needed, needs_below}
use Rattle.point_encode.specs.Model.Forced.{need_at, need_count}
use Rattle.point_pool.specs.Pools.{IsPool, AreGathered}
use Rattle.point_pool.proofs.Settling.{served_now}
use Rattle.point_pool.proofs.Numbering.{needs_more}
use Rattle.point_pool.proofs.Pooling.{served_point}

-- one of some points is in a need, and so it is among more
any_of : (need : Need) (bits : List Bool) (points : List (List Bool)) → In bits points → is_in_need need bits ≡ true → list_any (is_in_need need) points ≡ true
any_of need bits points i h = any_from (is_in_need need) i h

any_more : (need : Need) (points : List (List Bool)) (bits : List Bool) → list_any (is_in_need need) points ≡ true → list_any (is_in_need need) (points ++ bits ∷ []) ≡ true
any_more need points bits h = list_any-append (is_in_need need) points (bits ∷ []) ∙ ap (λ t. t || list_any (is_in_need need) (bits ∷ [])) h

each_more : (needs : List Need) (points : List (List Bool)) (bits : List Bool) → each_has_one needs points ≡ true → each_has_one needs (points ++ bits ∷ []) ≡ true
each_more [] points bits h = refl
each_more (n ∷ needs) points bits h =
    let parts = and_parts (list_any (is_in_need n) points) (each_has_one needs points) h in
    and_from (list_any (is_in_need n) (points ++ bits ∷ [])) (each_has_one needs (points ++ bits ∷ [])) (any_more n points bits parts.0) (each_more needs points bits parts.1)

one_need_more : (needs : List Need) (need : Need) (points : List (List Bool)) → each_has_one needs points ≡ true → list_any (is_in_need need) points ≡ true → each_has_one (needs ++ need ∷ []) points ≡ true
one_need_more needs need points h one = list_all-append (λ n. list_any (is_in_need n) points) needs (need ∷ []) ∙ and_from _ _ h (and_from _ true one refl)

-- entries that are all false
pub all_false : (n place : ℕ) → get_or (replicate n false) place false ≡ false
all_false n place = by (cases_lt place n)
  where
    by : (place < n) ⊎ (n ≤ place) → get_or (replicate n false) place false ≡ false
    by (inl small) = get_or-replicate n place false false small
    by (inr past) = get_or_past (replicate n false) place false (omega (arith, length-replicate n false))

-- no points serve no needs
pub none_gathered : (w : Pool) (list : List (List Bool)) (taken : List Bool) → list ≡ [] → length taken ≡ length w.places.points → ((place : ℕ) → get_or taken place false ≡ false) → AreGathered w 0 list taken
none_gathered w list taken none counted all = record {
  counted = counted;
  there = λ place h. absurd (false≢true (sym (all place) ∙ h));
  serving = subst (λ ls. AreServing (problem_at w.cursor.problem w.cursor.path) [] ls) (sym none) (record { each_is = refl; each_has = refl; few = omega arith });
}

-- a number that is no need
pub gathered_skip : (w : Pool) (n : ℕ) (list : List (List Bool)) (taken : List Bool) → is_needed (problem_at w.cursor.problem w.cursor.path) n ≡ false → AreGathered w n list taken → AreGathered w (n + 1) list taken
gathered_skip w n list taken skipped gathered =
    let q = problem_at w.cursor.problem w.cursor.path in
    let same : needs_below q (n + 1) ≡ needs_below q n = needs_more q n ∙ ap (λ b. needs_below q n ++ cond b (need_at q n ∷ []) []) skipped ∙ append-nil (needs_below q n) in
    record { counted = gathered.counted; there = gathered.there; serving = subst (λ ns. AreServing q ns list) (sym same) gathered.serving }

with_need : (q : Problem) (n : ℕ) → is_needed q n ≡ true → needs_below q (n + 1) ≡ needs_below q n ++ need_at q n ∷ []
with_need q n needed = needs_more q n ∙ ap (λ b. needs_below q n ++ cond b (need_at q n ∷ []) []) needed

-- a need whose witness is there
pub gathered_taken : (w : Pool) (n place : ℕ) (list : List (List Bool)) (taken : List Bool) → IsPool w → w.waiting ≡ [] → n < need_count w.cursor.problem →
    is_needed (problem_at w.cursor.problem w.cursor.path) n ≡ true → place ≡ get_or w.witness.items n 0 → get_or taken place false ≡ true → AreGathered w n list taken → AreGathered w (n + 1) list taken
gathered_taken w n place list taken is none within needed at marked gathered =
    let q = problem_at w.cursor.problem w.cursor.path in
    let has = served_point w n (get_or w.witness.items n 0) is.kept (served_now w n is none within needed) in
    let bits = point_at w.places.points place in
    let inside : is_in_need (need_at q n) bits ≡ true = subst (λ k. is_in_need (need_at q n) (point_at w.places.points k) ≡ true) (sym at) has.1 in
    let old = gathered.serving in
    record {
      counted = gathered.counted;
      there = gathered.there;
      serving = subst (λ ns. AreServing q ns list) (sym (with_need q n needed)) (record {
        each_is = old.each_is;
        each_has = one_need_more (needs_below q n) (need_at q n) list old.each_has (any_of (need_at q n) bits list (in_from_contains list (gathered.there place marked)) inside);
        few = omega (arith, old.few, length-append (needs_below q n) (need_at q n ∷ []));
      });
    }

-- a need whose witness is added
pub gathered_more : (w : Pool) (n place : ℕ) (bits : List Bool) (list new : List (List Bool)) (taken : List Bool) → IsPool w → w.waiting ≡ [] → n < need_count w.cursor.problem →
    is_needed (problem_at w.cursor.problem w.cursor.path) n ≡ true → place ≡ get_or w.witness.items n 0 → bits ≡ point_at w.places.points place → new ≡ list ++ bits ∷ [] →
    AreGathered w n list taken → AreGathered w (n + 1) new (set taken place true)
gathered_more w n place bits list new taken is none within needed at by longer gathered =
    let q = problem_at w.cursor.problem w.cursor.path in
    let has = served_point w n (get_or w.witness.items n 0) is.kept (served_now w n is none within needed) in
    let here_is : bits ≡ point_at w.places.points (get_or w.witness.items n 0) = by ∙ ap (point_at w.places.points) at in
    let inside : is_in_need (need_at q n) bits ≡ true = ap (is_in_need (need_at q n)) here_is ∙ has.1 in
    let point : is_point q bits ≡ true = ap (is_point q) here_is ∙ has.0 in
    let old = gathered.serving in
    record {
      counted = length-set taken place true ∙ gathered.counted;
      there = λ other marked. subst (λ ls. Contains ls (point_at w.places.points other)) (sym longer) (elim (cases_eq other place) [
        | inl same ↦ subst (λ b. Contains (list ++ bits ∷ []) b) (by ∙ ap (point_at w.places.points) (sym same)) (Contains-push list bits)
        | inr apart ↦ Contains-append_left list (bits ∷ []) (point_at w.places.points other) (gathered.there other (sym (get_or-set_other taken place other true false apart) ∙ marked))
      ]);
      serving = subst (λ ls. AreServing q (needs_below q (n + 1)) ls) (sym longer) (subst (λ ns. AreServing q ns (list ++ bits ∷ [])) (sym (with_need q n needed)) (record {
        each_is = list_all-append (is_point q) list (bits ∷ []) ∙ and_from _ _ old.each_is (and_from _ true point refl);
        each_has = one_need_more (needs_below q n) (need_at q n) (list ++ bits ∷ []) (each_more (needs_below q n) list bits old.each_has)
            (any_of (need_at q n) bits (list ++ bits ∷ []) (in_from_contains (list ++ bits ∷ []) (Contains-push list bits)) inside);
        few = omega (arith, old.few, length-append (needs_below q n) (need_at q n ∷ []), length-append list (bits ∷ []));
      }));
    }
