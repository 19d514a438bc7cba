-- Points beside the needs that they serve.
use Rattle.std.proofs.Common.{◌≡◌, ℕ, suc, ◌<◌, Bool, true, List, [], ◌∷◌, ◌++◌, length, get_or, refl, sym, subst, arith}
use Rattle.std.specs.Prelude.{IsTrue}
use Rattle.std.specs.List.{list_all, list_any}
use Rattle.std.proofs.lemmas.Bool.{and_parts, and_from, or_left, or_right}
use Rattle.world_model.specs.Problem.{Problem}
use Rattle.world_model.specs.Alive.{Need, all_allow, needs, is_point, is_in_need, HasPoint, IsAlive, each_has_one}
use Rattle.world_model.proofs.Members.{In, here, there, none_in, in_from_contains}
use Rattle.point_encode.specs.Numbers.{EachServed}

-- one more need with its point
pub each_push : (p : Problem) (needs : List Need) (points : List (List Bool)) (need : Need) (bits : List Bool) → EachServed p needs points →
    IsTrue (is_point p bits) → IsTrue (is_in_need need bits) → EachServed p (needs ++ need ∷ []) (points ++ bits ∷ [])
each_push p [] [] need bits e is within = (is, within, tt)
each_push p [] (b ∷ points) need bits e is within = absurd e
each_push p (n ∷ needs) [] need bits e is within = absurd e
each_push p (n ∷ needs) (b ∷ points) need bits e is within = (e.0, e.1, each_push p needs points need bits e.2 is within)

-- each need has a point
pub each_has : (p : Problem) (needs : List Need) (points : List (List Bool)) (need : Need) → EachServed p needs points → In need needs → HasPoint p need
each_has p [] points need e i = absurd (none_in i)
each_has p (n ∷ needs) [] need e i = absurd e
each_has p (n ∷ needs) (bits ∷ points) need e (here same) = (bits, e.0, subst (λ n. IsTrue (is_in_need n bits)) (sym same) e.1)
each_has p (n ∷ needs) (bits ∷ points) need e (there i) = each_has p needs points need e.2 i

-- all are points, and each need has one of them
pub each_are_points : (p : Problem) (needs : List Need) (points : List (List Bool)) → EachServed p needs points → list_all (is_point p) points ≡ true
each_are_points p [] [] e = refl
each_are_points p [] (b ∷ points) e = absurd e
each_are_points p (n ∷ needs) [] e = absurd e
each_are_points p (n ∷ needs) (b ∷ points) e = and_from (is_point p b) (list_all (is_point p) points) e.0 (each_are_points p needs points e.2)

has_one_more : (needs : List Need) (bits : List Bool) (points : List (List Bool)) → each_has_one needs points ≡ true → each_has_one needs (bits ∷ points) ≡ true
has_one_more [] bits points h = refl
has_one_more (n ∷ needs) bits points h =
    let parts = and_parts (list_any (is_in_need n) points) (each_has_one needs points) h in
    and_from (list_any (is_in_need n) (bits ∷ points)) (each_has_one needs (bits ∷ points)) (or_right (is_in_need n bits) (list_any (is_in_need n) points) parts.0) (has_one_more needs bits points parts.1)

pub each_have_one : (p : Problem) (needs : List Need) (points : List (List Bool)) → EachServed p needs points → each_has_one needs points ≡ true
each_have_one p [] [] e = refl
each_have_one p [] (b ∷ points) e = absurd e
each_have_one p (n ∷ needs) [] e = absurd e
each_have_one p (n ∷ needs) (b ∷ points) e =
    and_from (list_any (is_in_need n) (b ∷ points)) (each_has_one needs (b ∷ points)) (or_left (is_in_need n b) (list_any (is_in_need n) points) e.1)
    (has_one_more needs b points (each_have_one p needs points e.2))

-- such points show that the problem is alive
pub served_is_alive : (p : Problem) (points : List (List Bool)) → IsTrue (all_allow p) → EachServed p (needs p) points → IsAlive p
served_is_alive p points allow each = record { allow = allow; points = λ need i. each_has p (needs p) points need each (in_from_contains (needs p) i) }

-- what holds at each place holds of all
pub all_from_places : {X : Type 0} (test : X → Bool) (xs : List X) (d : X) → ((k : ℕ) → k < length xs → test (get_or xs k d) ≡ true) → list_all test xs ≡ true
all_from_places test [] d each = refl
all_from_places test (x ∷ xs) d each =
    and_from (test x) (list_all test xs) (each 0 (omega arith)) (all_from_places test xs d (λ k h. each (suc k) (omega arith)))
