-- What a search over pairs shows of a frame behind which no world lies.
use Rattle.std.proofs.Common.{◌≡◌, ℕ, ◌<◌, ◌≤◌, ◌↔◌, Bool, true, List, [], ◌∷◌, ◌++◌, length, get_or, take, drop, take-append-drop, inl, inr, sym, ap, ◌∙◌, subst, arith}
use Rattle.std.specs.Prelude.{Contains, IsTrue, filter_map}
use Rattle.std.specs.List.{list_all}
use Rattle.std.proofs.lemmas.List.{length-take-le, get_or_default, take-take}
use Rattle.std.proofs.lemmas.List.Elements.{Contains-append_left, Contains-append_right}
use Rattle.rcc5_core.specs.declared.Rel.{Rel}
use Rattle.rcc5_core.specs.declared.RelSet.{RelSet}
use Rattle.rcc5_core.specs.declared.Regions.{Regions}
use Rattle.rcc5_core.specs.Region.{row_of}
use Rattle.rcc5_core.specs.RelationSet.{has, only}
use Rattle.world_model.specs.Problem.{Problem, Constraint, pairs, pair_count, constraints, kept_articulations, as_constraint, narrowed}
use Rattle.world_model.specs.Family.{Family, holds, IsPossibleWorld}
use Rattle.world_model.specs.Node.{pair_at}
use Rattle.world_model.specs.Alive.{allowed, problem_at, narrowings_at, IsAlive}
use Rattle.world_model.specs.Trial.{points_by_trial}
use Rattle.world_model.proofs.Members.{In, contains_from_in, here, there, all_at, all_from, In-left, In-right, from_append}
use Rattle.world_model.proofs.PointRules.{Met, met_parts, met_whole}
use Rattle.world_model.proofs.PointAlive.{met_is_alive}
use Rattle.world_model.proofs.PointOnce.{narrowed_beyond}
use Rattle.world_model.proofs.PointPositions.{relation_in, has-only, met_at_table, prefix_is_alive}
use Rattle.world_model.proofs.Narrowed.{forced_only, only_some, only_inside}
use Rattle.bit_rows.specs.Rows.{BitRows, bit_in}
use Rattle.point_ladder.specs.declared.ladder.Ladder.TheInside.{Inside}
use Rattle.point_ladder.specs.declared.stretches.Stretch.{Stretch}
use Rattle.point_ladder.specs.Stretches.{stretch_at, HasFrames, IsInForce}
use Rattle.point_ladder.specs.Bounds.{IsAliveIn}
use Rattle.point_frames.specs.Frames.{Satisfies, AreRegionsMet, left_at, IsAliveFrame, LeadsOn, IsNarrowed}
use Rattle.point_ladder.specs.Ladders.{IsFrame, ShowsPair, BeginsNone}
use Rattle.point_ladder.specs.Barren.{with_narrowings, IsBarren, IsFreeAt, IsStand, LiesNone, AreNoneBy}
use Rattle.point_ladder.proofs.Narrower.{IsNarrower, narrowings_of}
use Rattle.point_ladder.proofs.Served.{alive_here, alive_next, frame_next, holds_next}
use Rattle.point_ladder.proofs.Keeps.{alive_start, problem_of, points_of, path_of, Keeps, holds_here, holds_of}
use Rattle.point_ladder.proofs.Said.{said_at, said_is_narrower, narrowed_other, alive_allows}

-- a family keeps one statement more where it keeps it besides
said_more : (p : Problem) (ns : List Constraint) (c : Constraint) (f : Family) → list_all (holds f) (constraints (with_narrowings p ns)) ≡ true → holds f c ≡ true →
    list_all (holds f) (constraints (with_narrowings p (ns ++ c ∷ []))) ≡ true
said_more p ns c f old new = all_from (holds f) (constraints (with_narrowings p (ns ++ c ∷ []))) (λ d i. elim (from_append (filter_map as_constraint (kept_articulations p)) i) [
  | inl stated ↦ all_at (holds f) old (In-left ns stated)
  | inr rest ↦ elim (from_append ns rest) [
    | inl before ↦ all_at (holds f) old (In-right (filter_map as_constraint (kept_articulations p)) before)
    | inr now ↦ last d now
  ]
])
  where
    last : (d : Constraint) → In d (c ∷ []) → holds f d ≡ true
    last d (here e) = ap (holds f) e ∙ new
    last d (there i) = elim i [ ]

-- a world of a problem is one where a pair is narrowed to the relation that it has there
pub world_said : (p : Problem) (ns : List Constraint) (k : ℕ) (t : List Rel) → IsPossibleWorld (with_narrowings p ns) t →
    (rel : Rel) × IsPossibleWorld (with_narrowings p (ns ++ said_at p k (only rel) ∷ [])) t
world_said p ns k t w =
    let f = w.0 in
    let m = met_parts (with_narrowings p ns) f w.1 in
    let rel = relation_in f (pair_at p k) in
    let q = with_narrowings p (ns ++ said_at p k (only rel) ∷ []) in
    let met : Met q f = record {
      fits = m.fits;
      within = m.within;
      apart = m.apart;
      covered = m.covered;
      nonempty = m.nonempty;
      said = said_more p ns (said_at p k (only rel)) f m.said (has-only rel);
      summed = m.summed;
    } in
    (rel, (f, met_whole q f met, w.2))

-- a relation that a pair allows makes the problem narrower
narrower : (p : Problem) (ns : List Constraint) (k : ℕ) (rel : Rel) → k < pair_count p → has (allowed (with_narrowings p ns) (pair_at p k)) rel ≡ true → IsNarrower p ns (ns ++ said_at p k (only rel) ∷ []) k (only rel)
narrower p ns k rel within allows = said_is_narrower p ns k (only rel) within (λ other h. only_inside (allowed (with_narrowings p ns) (pair_at p k)) rel other allows h) (only_some rel)

-- a list of one number has it
contains_one : (k j : ℕ) → j ≡ k → Contains (k ∷ []) j
contains_one k j same = contains_from_in (here {ys = []} same)

-- the stand with one pair narrowed more
pub stand_next : (p : Problem) (sets : List RelSet) (from : ℕ) (tried : List ℕ) (rows next : BitRows) (ns : List Constraint) (k : ℕ) (rel : Rel) (l r : ℕ → Bool) →
    IsStand p sets from tried rows ns → IsFreeAt p from tried k → ShowsPair (pair_at p k) (points_by_trial p) l r → has (allowed (with_narrowings p ns) (pair_at p k)) rel ≡ true →
    LeadsOn rows l r (row_of rel) → IsNarrowed rows next l r (row_of rel) → IsStand p sets from (tried ++ k ∷ []) next (ns ++ said_at p k (only rel) ∷ [])
stand_next p sets from tried rows next ns k rel l r is free shows allows leads narrowed =
    let ms = ns ++ said_at p k (only rel) ∷ [] in
    let less : IsNarrower p ns ms k (only rel) = narrower p ns k rel free.within allows in
    record {
      alive = (alive_next p ns ms k (only rel) rows (points_by_trial p) l r less is.frame shows is.alive.allow is.holds).0
          (subst (λ words. LeadsOn rows l r words) (sym (forced_only rel)) leads);
      holds = holds_next p ns ms k (only rel) (points_by_trial p) less is.holds;
      frame = frame_next p ns ms k (only rel) rows next (points_by_trial p) l r less is.frame shows (subst (λ words. IsNarrowed rows next l r words) (sym (forced_only rel)) narrowed);
      free = λ j d at. is.free j d (before j at) ∙ sym (narrowed_other p ns k j (only rel) free.within at.within (apart j at));
    }
  where
    before : (j : ℕ) → IsFreeAt p from (tried ++ k ∷ []) j → IsFreeAt p from tried j
    before j at = record { within = at.within; behind = at.behind; apart = λ i. at.apart (Contains-append_left tried (k ∷ []) j i) }

    apart : (j : ℕ) → IsFreeAt p from (tried ++ k ∷ []) j → j ≡ k → ⊥
    apart j at same = at.apart (Contains-append_right tried (k ∷ []) j (contains_one k j same))

-- what is tested of a free pair of a stand: two sets show it, and of the set that it allows that is left with which the stand leads on
pub record IsTried (p : Problem) (sets : List RelSet) (from : ℕ) (tried : List ℕ) (rows : BitRows) (ns : List Constraint) (k : ℕ) (l r : ℕ → Bool) (old set : RelSet) : Type 0 where
  pub stand : IsStand p sets from tried rows ns
  pub free : IsFreeAt p from tried k
  pub shows : ShowsPair (pair_at p k) (points_by_trial p) l r
  pub read : old ≡ get_or sets k old
  pub has_alive : (rel : Rel) → IsTrue (has set rel) ↔ IsAliveIn rows l r old rel

-- a world of a stand has a relation at a free pair that leads on, so that none is left where none lies behind any that does
pub none_by_all : (p : Problem) (sets : List RelSet) (from : ℕ) (tried : List ℕ) (rows : BitRows) (ns : List Constraint) (k : ℕ) (l r : ℕ → Bool) (old set : RelSet) →
    IsTried p sets from tried rows ns k l r old set → AreNoneBy p sets from (tried ++ k ∷ []) rows l r set → IsBarren p ns
none_by_all p sets from tried rows ns k l r old set is none t w =
    let said = world_said p ns k t w in
    let rel = said.0 in
    let ms = ns ++ said_at p k (only rel) ∷ [] in
    let alive : IsAlive (with_narrowings p ms) = met_is_alive (with_narrowings p ms) (said.1.0, said.1.1) in
    let allows : has (allowed (with_narrowings p ns) (pair_at p k)) rel ≡ true = alive_allows p ns k rel is.free.within alive in
    let leads : LeadsOn rows l r (row_of rel) =
    subst (λ words. LeadsOn rows l r words) (forced_only rel)
    ((alive_next p ns ms k (only rel) rows (points_by_trial p) l r (narrower p ns k rel is.free.within allows) is.stand.frame is.shows is.stand.alive.allow is.stand.holds).1 alive) in
    let there : has set rel ≡ true = (is.has_alive rel).1 (ap (λ s. has s rel) (is.read ∙ is.stand.free k old is.free) ∙ allows, leads) in
    let by = none rel there in
    by.none ms (stand_next p sets from tried rows by.next ns k rel l r is.stand is.free is.shows allows leads by.narrowed) t said.1

-- what is shown where a pair counts as tried holds where it does not
pub none_skipped : (p : Problem) (sets : List RelSet) (from : ℕ) (tried : List ℕ) (rows : BitRows) (k : ℕ) → LiesNone p sets from (tried ++ k ∷ []) rows → LiesNone p sets from tried rows
none_skipped p sets from tried rows k none ns is = none ns (record {
  alive = is.alive;
  holds = is.holds;
  frame = is.frame;
  free = λ j d at. is.free j d (record { within = at.within; behind = at.behind; apart = λ i. at.apart (Contains-append_left tried (k ∷ []) j i) });
})

-- the places of a narrowed frame satisfy it where what was said leads on
pub narrowed_lives : (old new : BitRows) (l r : ℕ → Bool) (words : Regions) → IsNarrowed old new l r words → LeadsOn old l r words → IsAliveFrame new
narrowed_lives old new l r words narrowed leads =
    let same : bit_in new 0 ≡ left_at old l r words = λ i k. narrowed.mask k i in
    (narrowed.owes (bit_in new 0) (λ k h. sym (narrowed.mask k) ∙ h)).1
    (subst (λ some. Satisfies old old.count some) (sym same) leads.0, subst (λ some. AreRegionsMet words l r some) (sym same) leads.1)

-- the narrowings of a path are among those of a longer one
prefix_among : (qs : List (ℕ × ℕ)) (m rest : List Rel) (c : Constraint) → In c (narrowings_at qs m) → In c (narrowings_at qs (m ++ rest))
prefix_among [] m rest c i = elim i [ ]
prefix_among (q ∷ qs) [] rest c i = elim i [ ]
prefix_among (q ∷ qs) (r ∷ m) rest c (here e) = here e
prefix_among (q ∷ qs) (r ∷ m) rest c (there i) = there (prefix_among qs m rest c i)

-- a world that begins with a path is one of the problem at it
world_begins : (b : Problem) (m rest : List Rel) → IsPossibleWorld b (m ++ rest) → IsPossibleWorld (problem_at b m) (m ++ rest)
world_begins b m rest w =
    let f = w.0 in
    let full : Met (problem_at b (m ++ rest)) f = met_at_table b f (m ++ rest) (met_parts b f w.1) w.2 in
    let met : Met (problem_at b m) f = record {
      fits = full.fits;
      within = full.within;
      apart = full.apart;
      covered = full.covered;
      nonempty = full.nonempty;
      said = all_from (holds f) (constraints (problem_at b m)) (λ c i. all_at (holds f) full.said (elim (from_append (filter_map as_constraint (kept_articulations b)) i) [
        | inl stated ↦ In-left (b.narrowings ++ narrowings_at (pairs b) (m ++ rest)) stated
        | inr more ↦ In-right (filter_map as_constraint (kept_articulations b)) (elim (from_append b.narrowings more) [
          | inl before ↦ In-left (narrowings_at (pairs b) (m ++ rest)) before
          | inr at ↦ In-right b.narrowings (prefix_among (pairs b) m rest c at)
        ])
      ]));
      summed = full.summed;
    } in
    (f, met_whole (problem_at b m) f met, w.2)

-- so none begins with a path where none is left of the problem at it
pub begins_none : (b : Problem) (m : List Rel) → ((t : List Rel) → IsPossibleWorld (problem_at b m) t → ⊥) → BeginsNone b m
begins_none b m none rest w = none (m ++ rest) (world_begins b m rest w)

-- the frame in force at a length of an alive ladder's path, as a stand of which no pair behind the path was tried
pub stand_here : (s : Inside) (len i : ℕ) (stretch : Stretch) → Keeps s → IsAlive (problem_at (problem_of s) (path_of s)) → len ≤ s.len → IsInForce s.stretches.items len i → stretch ≡ get_or s.stretches.items i stretch →
    IsStand s.problem s.sets.items len [] stretch.frame (narrowings_of (problem_of s) (take len s.line.items))
stand_here s len i stretch is alive upto force read = record {
  alive = lives;
  holds = holds_here q m (points_of s) (holds_of s is alive) lives;
  frame = subst (λ (x : Stretch). IsFrame (problem_at q m) (points_of s) x.frame) (sym there) (frames.each i len force.within force.begun upto force.last);
  free = λ k d at. is.sets_are.each k d at.within ∙ sym (narrowed_beyond q m k (behind k at.behind) at.within);
}
  where
    q : Problem
    q = problem_of s

    m : List Rel
    m = take len s.line.items

    frames : HasFrames q (points_of s) s.line.items s.stretches.items s.len
    frames = is.has_frames (alive_start s is alive)

    there : stretch ≡ stretch_at s.stretches.items i
    there = read ∙ get_or_default s.stretches.items i stretch (record { from = 0; frame = record { count = 0; width = 0; words = [] } }) force.within

    lives : IsAlive (problem_at q m)
    lives = prefix_is_alive q m (drop len (path_of s))
        (subst (λ m. IsAlive (problem_at q m)) (sym (take-append-drop len (path_of s)) ∙ ap (λ m. m ++ drop len (path_of s)) (take-take len s.len s.line.items upto)) alive)

    behind : (k : ℕ) → len ≤ k → length m ≤ k
    behind k low = let long = length-take-le len s.line.items (let short = is.short in let lined = is.lined in omega (arith, short, lined, upto)) in omega (arith, long, low)

-- the places of a stand's frame satisfy it
pub stand_lives : (p : Problem) (sets : List RelSet) (from : ℕ) (tried : List ℕ) (rows : BitRows) (ns : List Constraint) → IsStand p sets from tried rows ns → IsAliveFrame rows
stand_lives p sets from tried rows ns is = (alive_here (with_narrowings p ns) (points_by_trial p) rows is.alive.allow is.holds is.frame).1 is.alive
