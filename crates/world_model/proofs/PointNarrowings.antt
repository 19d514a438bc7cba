-- What is dead at a pair alone is dead below any prefix, so that leaving it out keeps the worlds.
use Rattle.std.proofs.Common.{◌≡◌, ℕ, ◌<◌, true, List, [], ◌∷◌, ◌++◌, length, get_or, inl, inr, refl, sym, subst, arith}
use Rattle.std.specs.Prelude.{All, ◌↔◌, filter_map}
use Rattle.std.specs.List.{list_all}
use Rattle.std.proofs.lemmas.Bool.{and_from}
use Rattle.rcc5_core.specs.declared.Rel.{Rel}
use Rattle.rcc5_core.specs.RelationSet.{has, only}
use Rattle.world_model.specs.Problem.{Problem, Constraint, pairs, pair_count, constraints, kept_articulations, as_constraint, narrowed}
use Rattle.world_model.specs.Family.{Family, holds, IsPossibleWorld}
use Rattle.world_model.specs.Alive.{IsAlive, narrowings_at, problem_at}
use Rattle.world_model.specs.Node.{pair_at}
use Rattle.world_model.specs.Laws.{DropsTheDead, narrowed_by}
use Rattle.world_model.proofs.Members.{In, here, there, all_at, all_from, In-left, In-right, from_append, contains_from_in}
use Rattle.world_model.proofs.PointRules.{Met, met_parts, met_whole}
use Rattle.world_model.proofs.PointAlive.{met_is_alive}
use Rattle.world_model.proofs.PointPositions.{alive_among, relation_in, has-only}

-- a pair with one relation, as a statement
abbrev only_at : ℕ × ℕ → Rel → Constraint
only_at pair rel = record { left = pair.0; right = pair.1; set = only rel }

-- a position narrows the pair that comes next to the relation there
next_narrowing : (qs : List (ℕ × ℕ)) (m rest : List Rel) (rel : Rel) → length m < length qs → In (only_at (get_or qs (length m) (0, 0)) rel) (narrowings_at qs (m ++ rel ∷ rest))
next_narrowing [] m rest rel h = absurd (omega arith)
next_narrowing (q ∷ qs) [] rest rel h = here refl
next_narrowing (q ∷ qs) (r ∷ m) rest rel h = there (next_narrowing qs m rest rel (omega arith))

pub alive_alone : (p : Problem) (m rest : List Rel) (rel : Rel) → length m < pair_count p → IsAlive (problem_at p (m ++ rel ∷ rest)) →
    IsAlive (narrowed p (pair_at p (length m)) (only rel))
alive_alone p m rest rel short alive =
    alive_among p (p.narrowings ++ one ∷ []) (p.narrowings ++ narrowings_at (pairs p) (m ++ rel ∷ rest)) among alive
  where
    one : Constraint
    one = only_at (pair_at p (length m)) rel

    of_one : (c : Constraint) → In c (one ∷ []) → In c (narrowings_at (pairs p) (m ++ rel ∷ rest))
    of_one c (here e) = subst (λ (d : Constraint). In d (narrowings_at (pairs p) (m ++ rel ∷ rest))) (sym e) (next_narrowing (pairs p) m rest rel short)
    of_one c (there i) = elim i [ ]

    among : (c : Constraint) → In c (p.narrowings ++ one ∷ []) → In c (p.narrowings ++ narrowings_at (pairs p) (m ++ rel ∷ rest))
    among c i = elim (from_append p.narrowings i) [
      | inl old ↦ In-left (narrowings_at (pairs p) (m ++ rel ∷ rest)) old
      | inr new ↦ In-right p.narrowings (of_one c new)
    ]

-- a family that keeps some narrowings and then others keeps both
said_both : (p : Problem) (more : List Constraint) (f : Family) → list_all (holds f) (constraints p) ≡ true → list_all (holds f) more ≡ true →
    list_all (holds f) (constraints (narrowed_by p more)) ≡ true
said_both p more f old new = all_from (holds f) (constraints (narrowed_by p more)) (λ c i. elim (from_append (filter_map as_constraint (kept_articulations p)) i) [
  | inl stated ↦ all_at (holds f) old (In-left p.narrowings stated)
  | inr rest ↦ elim (from_append p.narrowings rest) [
    | inl before ↦ all_at (holds f) old (In-right (filter_map as_constraint (kept_articulations p)) before)
    | inr now ↦ all_at (holds f) new now
  ]
])

-- a family that meets a problem keeps a statement that leaves out dead relations alone
keeps_dead_out : (p : Problem) (f : Family) → Met p f → (c : Constraint) → DropsTheDead p c → holds f c ≡ true
keeps_dead_out p f m c drops =
    let rel = relation_in f (c.left, c.right) in
    let q = narrowed_by p (only_at (c.left, c.right) rel ∷ []) in
    let met : Met q f = record {
      fits = m.fits;
      within = m.within;
      apart = m.apart;
      covered = m.covered;
      nonempty = m.nonempty;
      said = said_both p (only_at (c.left, c.right) rel ∷ []) f m.said (and_from (has (only rel) rel) true (has-only rel) refl);
      summed = m.summed;
    } in
    drops rel (met_is_alive q (f, met_whole q f met))

worlds_kept : (p : Problem) (more : List Constraint) → All (DropsTheDead p) more → (t : List Rel) → IsPossibleWorld p t → IsPossibleWorld (narrowed_by p more) t
worlds_kept p more drop t w =
    let m = met_parts p w.0 w.1 in
    let met : Met (narrowed_by p more) w.0 = record {
      fits = m.fits;
      within = m.within;
      apart = m.apart;
      covered = m.covered;
      nonempty = m.nonempty;
      said = said_both p more w.0 m.said (all_from (holds w.0) more (λ c i. keeps_dead_out p w.0 m c (at c i)));
      summed = m.summed;
    } in
    (w.0, met_whole (narrowed_by p more) w.0 met, w.2)
  where
    at : (c : Constraint) → In c more → DropsTheDead p c
    at c i = let place = contains_from_in i in subst (DropsTheDead p) place.2 (drop place.0 c place.1)

worlds_back : (p : Problem) (more : List Constraint) (t : List Rel) → IsPossibleWorld (narrowed_by p more) t → IsPossibleWorld p t
worlds_back p more t w =
    let m = met_parts (narrowed_by p more) w.0 w.1 in
    let met : Met p w.0 = record {
      fits = m.fits;
      within = m.within;
      apart = m.apart;
      covered = m.covered;
      nonempty = m.nonempty;
      said = all_from (holds w.0) (constraints p) (λ c i. elim (from_append (filter_map as_constraint (kept_articulations p)) i) [
        | inl stated ↦ all_at (holds w.0) m.said (In-left (p.narrowings ++ more) stated)
        | inr before ↦ all_at (holds w.0) m.said (In-right (filter_map as_constraint (kept_articulations p)) (In-left more before))
      ]);
      summed = m.summed;
    } in
    (w.0, met_whole p w.0 met, w.2)

pub worlds_stay : (p : Problem) (more : List Constraint) → All (DropsTheDead p) more → (t : List Rel) → IsPossibleWorld (narrowed_by p more) t ↔ IsPossibleWorld p t
worlds_stay p more drop t = (worlds_back p more t, worlds_kept p more drop t)
