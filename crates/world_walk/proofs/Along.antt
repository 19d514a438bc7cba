-- A problem narrowed along a path.
use Rattle.std.proofs.Common.{◌≡◌, ℕ, ◌<◌, List, [], ◌∷◌, ◌++◌, length, get_or, append_assoc, refl, sym, ap, ◌∙◌, subst, arith}
use Rattle.std.specs.Prelude.{IsTrue}
use Rattle.std.proofs.lemmas.List.{get_or-map, length-append, length-map}
use Rattle.std.proofs.Math.Seq.{get_or-append_seam}
use Rattle.rcc5_core.specs.RelationSet.{only}
use Rattle.rcc5_core.specs.declared.Rel.{Rel}
use Rattle.rcc5_core.specs.declared.RelSet.{RelSet}
use Rattle.constraint_set.specs.Shape.{SameShape}
use Rattle.world_model.specs.Family.{Family, meets, table_of, IsPossibleWorld}
use Rattle.world_model.specs.Listing.{Begins}
use Rattle.world_model.specs.Node.{pair_at}
use Rattle.world_model.specs.Problem.{Problem, is_problem, narrowed, pairs}
use Rattle.world_model.specs.Questions.{IsMet}
use Rattle.world_model.proofs.PointPositions.{relation_in}
use Rattle.cert_rules.proofs.Narrowing.{met_is_shown, shown_is_met}
use Rattle.point_ladder.specs.Ladders.{BeginsNone, IsBoundOf, LadderState}
use Rattle.pick_search.specs.Picking.{IsPartOf}
use Rattle.world_walk.specs.Asked.{IsNarrowedBy}

-- the empty path narrows nothing
pub narrowed_none : (p q : Problem) → q ≡ p → IsNarrowedBy p [] q
narrowed_none p q same = subst (IsNarrowedBy p []) (sym same) (record { shape = refl; within = λ f met. met; there = λ f met begins. met })

-- the relation of a family at a pair, by its table
shown_at : (p : Problem) (f : Family) (m rest : List Rel) (rel : Rel) → table_of p f ≡ m ++ rel ∷ rest → relation_in f (pair_at p (length m)) ≡ rel
shown_at p f m rest rel is =
    let counted : length (pairs p) ≡ length (m ++ rel ∷ rest) = sym (length-map (pairs p) (relation_in f)) ∙ ap length is in
    let within : length m < length (pairs p) = omega (arith, counted, length-append m (rel ∷ rest)) in
    sym (get_or-map (relation_in f) (pairs p) (length m) (0, 0) rel within) ∙ ap (λ t. get_or t (length m) rel) is ∙ get_or-append_seam m rel rest rel

-- one relation more narrows its pair
pub narrowed_more : (p q r : Problem) (m : List Rel) (pair : ℕ) (rel : Rel) (set : RelSet) → pair ≡ length m → set ≡ only rel → r ≡ narrowed q (pair_at q pair) set → SameShape r q →
    IsNarrowedBy p m q → IsNarrowedBy p (m ++ rel ∷ []) r
narrowed_more p q r m pair rel set at one is shape so =
    let same : r ≡ narrowed q (pair_at q (length m)) (only rel) = is ∙ ap (λ k. narrowed q (pair_at q k) set) at ∙ ap (narrowed q (pair_at q (length m))) one in
    record {
      shape = shape ∙ so.shape;
      within = λ f met. so.within f (met_is_shown q (pair_at q (length m)) rel f (subst (λ x. IsTrue (meets x f)) same met)).0;
      there = λ f met begins.
          let rest = begins.0 in
          let goes : table_of p f ≡ m ++ rel ∷ rest = begins.1 ∙ append_assoc m (rel ∷ []) rest in
          let here : relation_in f (pair_at q (length m)) ≡ rel = ap (λ x. relation_in f (pair_at x (length m))) so.shape ∙ shown_at p f m rest rel goes in
          subst (λ x. IsTrue (meets x f)) (sym same) (shown_is_met q (pair_at q (length m)) rel f (so.there f met (rel ∷ rest, goes)) here);
    }

-- it is a part of the problem
pub narrowed_part : (p q : Problem) (m : List Rel) → IsNarrowedBy p m q → IsPartOf q p
narrowed_part p q m so = record { shape = so.shape; within = so.within }

-- and where no family meets it no world begins with the path
pub narrowed_barren : (p q : Problem) (m : List Rel) → IsNarrowedBy p m q → (IsMet q → ⊥) → BeginsNone p m
narrowed_barren p q m so none rest world = none (world.0, so.there world.0 world.1 (rest, world.2))

-- a problem at the empty path has its own worlds
pub start_is_bound : (p : Problem) (s : LadderState) → IsTrue (is_problem p) → s ≡ record { problem = p; path = [] } → IsBoundOf p s
start_is_bound p s valid same = subst (IsBoundOf p) (sym same) (record { valid = valid; pairs_are = refl; worlds = λ t. (λ w. w, λ w. w); start = refl })
