-- Points that were found for needs in turn, beside the needs that they serve.
use Rattle.std.proofs.Common.{Vec, Global, ◌≡◌, ℕ, ◌+◌, ◌<◌, ◌≤◌, Bool, List, [], ◌∷◌, ◌++◌, map, length, get_or, take, drop, refl, sym, ap, ◌∙◌, subst, arith}
use Rattle.std.specs.Prelude.{All, IsTrue}
use Rattle.std.proofs.lemmas.List.{map-append, length-append, take_more, get_or_append_left, take-append-drop, drop_more}
use Rattle.std.proofs.lemmas.List.Elements.{All-push, All-head, All-tail, All-weaker}
use Rattle.rcc5_core.specs.declared.Rel.{Rel}
use Rattle.lits_core.specs.declared.Bits.{Bits}
use Rattle.world_model.specs.Problem.{Problem}
use Rattle.world_model.specs.Alive.{all_allow, problem_at, is_in_need, HasPoint, IsAlive}
use Rattle.world_model.proofs.Members.{In-map, from_map, in_from_contains, contains_from_in, IsImage}
use Rattle.point_encode.specs.declared.need.Need as code
use Rattle.point_encode.specs.Needs.{need_seen, IsInRange}
use Rattle.point_encode.specs.Numbers.{EachServed}
use Rattle.point_query.specs.Answers.{IsServed, IsClosed, IsFirstClosed}
use Rattle.search_checks.specs.declared.asker.each_need.Sought.TheVariants.{Points, Closed}
use Rattle.point_query.specs.Asking.{AskerState}
use Rattle.point_query.specs.Queries.{ArePoints}
use Rattle.search_checks.specs.Asker.Seeking.{chosen, AreServed, IsStopped, IsFront, IsSoughtAt}
use Rattle.point_pool.proofs.Serving.{each_push, each_has, served_is_alive}
use Rattle.point_query.proofs.Answering.{served}

-- points stay at their places where more are added
chosen_more : (points more : List (List Bool)) (places : List ℕ) → All (λ place. place < length points) places → chosen (points ++ more) places ≡ chosen points places
chosen_more points more [] h = refl
chosen_more points more (place ∷ places) h =
    ap (λ b. b ∷ chosen (points ++ more) places) (get_or_append_left points more [] place (All-head (λ k. k < length points) place places h)) ∙
    ap (λ bs. get_or points place [] ∷ bs) (chosen_more points more places (All-tail (λ k. k < length points) place places h))

pub chosen_grown : (points all : List (List Bool)) (places : List ℕ) → IsFront points all → All (λ place. place < length points) places → chosen all places ≡ chosen points places
chosen_grown points all places front h = ap (λ ps. chosen ps places) front.1 ∙ chosen_more points front.0 places h

front_length : (points all : List (List Bool)) → IsFront points all → length points ≤ length all
front_length points all front = omega (arith, ap length front.1, length-append points front.0)

pub there_grown : (points all : List (List Bool)) (places : List ℕ) → IsFront points all → All (λ place. place < length points) places → All (λ place. place < length all) places
there_grown points all places front h =
    All-weaker (λ k. k < length points) (λ k. k < length all) (λ k small. omega (arith, front_length points all front)) places h

-- one more need, with the place of its point
pub served_more : (p : Problem) (m : List Rel) (list : List code.Need) (i : ℕ) (need : code.Need) (points all : List (List Bool)) (places : List ℕ) (place : ℕ) →
    i < length list → need ≡ get_or list i need → AreServed p m (take i list) points places → ArePoints (problem_at p m) all → IsFront points all →
    (place < length all) × IsTrue (is_in_need (need_seen p need) (get_or all place [])) → AreServed p m (take (i + 1) list) all (places ++ place ∷ [])
served_more p m list i need points all places place within is so are front placed =
    let q = problem_at p m in
    let taken : take (i + 1) list ≡ take i list ++ need ∷ [] = take_more list i need within ∙ ap (λ n. take i list ++ n ∷ []) (sym is) in
    let seen : map (need_seen p) (take (i + 1) list) ≡ map (need_seen p) (take i list) ++ need_seen p need ∷ [] = ap (map (need_seen p)) taken ∙ map-append (need_seen p) (take i list) (need ∷ []) in
    let points_are : chosen all (places ++ place ∷ []) ≡ chosen points places ++ get_or all place [] ∷ [] =
    map-append (λ k. get_or all k []) places (place ∷ []) ∙ ap (λ bs. bs ++ get_or all place [] ∷ []) (chosen_grown points all places front so.there) in
    record {
      there = All-push (λ k. k < length all) places place (there_grown points all places front so.there) placed.0;
      each = subst (λ ns. EachServed q ns (chosen all (places ++ place ∷ []))) (sym seen)
          (subst (λ bs. EachServed q (map (need_seen p) (take i list) ++ need_seen p need ∷ []) bs) (sym points_are)
          (each_push q (map (need_seen p) (take i list)) (chosen points places) (need_seen p need) (get_or all place []) so.each (are place [] placed.0) placed.1));
    }

-- the first need without a point
pub stopped_at : (asker : AskerState) (p : Problem) (m : List Rel) (list : List code.Need) (i : ℕ) (need : code.Need) (points : List (List Bool)) (places : List ℕ) (id : ℕ) →
    i < length list → need ≡ get_or list i need → IsInRange p need → AreServed p m (take i list) points places → IsClosed asker p m (need_seen p need) id → IsStopped asker p m list need id
stopped_at asker p m list i need points places id within is range so closed = record {
  range = range;
  before = take i list;
  after = drop (i + 1) list;
  among = sym (take-append-drop i list) ∙ ap (λ xs. take i list ++ xs) (drop_more list i need within ∙ ap (λ n. n ∷ drop (i + 1) list) (sym is));
  earlier = λ other there. each_has (problem_at p m) (map (need_seen p) (take i list)) (chosen points places) (need_seen p other) so.each
      (In-map (need_seen p) (in_from_contains (take i list) there));
  closed = closed;
}

-- what was sought for all needs answers the question
pub answer_points : (asker : AskerState) (p : Problem) (m : List Rel) (found : Vec Bits Global) (places : Vec ℕ Global) (points : List (List Bool)) → IsTrue (all_allow (problem_at p m)) →
    IsSoughtAt asker p m (Points found places) → points ≡ chosen found.items places.items → IsServed (problem_at p m) points
answer_points asker p m found places points allow sought same =
    served (problem_at p m) points allow (subst (λ ns. EachServed (problem_at p m) ns points) sought.all (subst (λ bs. EachServed (problem_at p m) (map (need_seen p) sought.list) bs) (sym same) sought.found.each))

pub answer_alive : (asker : AskerState) (p : Problem) (m : List Rel) (found : Vec Bits Global) (places : Vec ℕ Global) → IsTrue (all_allow (problem_at p m)) →
    IsSoughtAt asker p m (Points found places) → IsAlive (problem_at p m)
answer_alive asker p m found places allow sought =
    served_is_alive (problem_at p m) (chosen found.items places.items) allow (subst (λ ns. EachServed (problem_at p m) ns (chosen found.items places.items)) sought.all sought.found.each)

pub answer_closed : (asker : AskerState) (p : Problem) (m : List Rel) (need : code.Need) (id : ℕ) → IsTrue (all_allow (problem_at p m)) →
    IsSoughtAt asker p m (Closed need id) → IsInRange p need × IsFirstClosed asker p m (need_seen p need) id
answer_closed asker p m need id allow sought =
    let stop = sought.found in (
      stop.range,
      record {
        allow = allow;
        before = map (need_seen p) stop.before;
        after = map (need_seen p) stop.after;
        among = sym sought.all ∙ ap (map (need_seen p)) stop.among ∙ map-append (need_seen p) stop.before (need ∷ stop.after);
        earlier = λ other there.
            let image : IsImage (need_seen p) other stop.before = from_map (need_seen p) stop.before (in_from_contains (map (need_seen p) stop.before) there) in
            subst (λ n. HasPoint (problem_at p m) n) (sym image.is) (stop.earlier image.source (contains_from_in image.member));
        closed = stop.closed;
      },
    )

-- no need, and no place
pub none_served : (p : Problem) (m : List Rel) (points : List (List Bool)) (places : List ℕ) → places ≡ [] → AreServed p m [] points places
none_served p m points places same = subst (λ ks. AreServed p m [] points ks) (sym same) (record { there = λ k d h. absurd (omega arith); each = tt })
