-- What a ladder's fields keep: its problem and path, the frame in force, and whether the next pair's relations lead on.
use Rattle.std.proofs.Common.{◌≡◌, ℕ, ◌+◌, ◌-◌, ◌<◌, ◌≤◌, ◌↔◌, Bool, true, false, List, [], ◌∷◌, ◌++◌, length, get_or, set, take, drop, take-append-drop, inl, inr, refl, sym, ap, ◌∙◌, subst, arith}
use Rattle.std.specs.Prelude.{IsTrue}
use Rattle.std.proofs.lemmas.Bool.{cases_Bool, cases_lt, cases_eq}
use Rattle.std.proofs.lemmas.List.{length-take-le, length-set, get_or_default, take-take, take-set-le, take_more_set}
use Rattle.rcc5_core.specs.declared.Rel.{Rel}
use Rattle.rcc5_core.specs.declared.RelSet.{RelSet}
use Rattle.rcc5_core.specs.declared.Regions.{Regions}
use Rattle.rcc5_core.specs.Region.{row_of}
use Rattle.rcc5_core.specs.RelationSet.{has, only}
use Rattle.world_model.specs.Problem.{Problem, pair_count}
use Rattle.world_model.specs.Node.{pair_at}
use Rattle.world_model.specs.Alive.{allowed, problem_at, IsAlive}
use Rattle.world_model.specs.Trial.{points_by_trial}
use Rattle.world_model.proofs.PointPositions.{prefix_is_alive}
use Rattle.world_model.proofs.PointOnce.{at_empty}
use Rattle.bit_rows.specs.Rows.{BitRows}
use Rattle.point_table.specs.Points.{AreAllowed}
use Rattle.point_table.specs.Table.{AreRowsOf}
use Rattle.point_ladder.specs.declared.bounds.Bounds.{Bounds}
use Rattle.point_ladder.specs.declared.ladder.Ladder.TheInside.{Inside}
use Rattle.point_ladder.specs.declared.stretches.Stretch.{Stretch}
use Rattle.point_ladder.specs.Bounds.{bound_to, HoldsPoints, IsAliveIn, AreBounds}
use Rattle.point_ladder.specs.Stretches.{stretch_at, HasFrames, IsCutBack, AreNexts, IsLadder}
use Rattle.point_frames.specs.Frames.{IsAliveFrame, LeadsOn, IsNarrowed}
use Rattle.point_ladder.specs.Ladders.{IsFrame, ShowsPair, IsAlong}
use Rattle.world_model.proofs.Narrowed.{forced_only}
use Rattle.point_ladder.proofs.Narrower.{IsNext, narrowings_of, next_is_narrower, point_before, refused_is_dead}
use Rattle.point_ladder.proofs.Served.{alive_here, alive_next, frame_next}
use Rattle.point_ladder.proofs.InForce.{last_frame, frames_longer, frames_pushed, frames_cut}
use Rattle.point_ladder.proofs.Decided.{AreDecided, along_same, goes_along, decided_by, nexts_set}
use Rattle.point_ladder.proofs.AllowsSame.{AllowsSame, alive_same, frame_same}

-- a ladder's problem, its points and its path
abbrev pub problem_of : Inside → Problem
problem_of s = bound_to s.problem s.sets.items s.bounds

abbrev pub points_of : Inside → List (List Bool)
points_of s = points_by_trial s.problem

abbrev pub path_of : Inside → List Rel
path_of s = take s.len s.line.items

-- what it keeps
abbrev pub Keeps : Inside → Type 0
Keeps s = IsLadder s.problem (problem_of s) s.sets.items s.rows s.line.items s.len s.nexts.items s.stretches.items s.alive

-- an alive path begins at an alive start
pub alive_start : (s : Inside) → Keeps s → IsAlive (problem_at (problem_of s) (path_of s)) → s.alive ≡ true
alive_start s is lives = is.start.1 (subst (λ r. IsAlive r) (at_empty (problem_of s)) (prefix_is_alive (problem_of s) [] (path_of s) lives))

-- whether the path of a ladder is alive
pub alive_by_ladder : (s : Inside) → Keeps s → IsTrue s.alive ↔ IsAlive (problem_at (problem_of s) (path_of s))
alive_by_ladder s is = (
  λ h. elim (cases_eq s.len 0) [
    | inl none ↦ subst (λ n. IsAlive (problem_at (problem_of s) (take n s.line.items))) (sym none) (subst (λ r. IsAlive r) (sym (at_empty (problem_of s))) (is.start.0 h))
    | inr some ↦ is.here (more s.len some)
  ],
  alive_start s is,
)
  where
    more : (n : ℕ) → (n ≡ 0 → ⊥) → 0 < n
    more n h = elim (cases_lt 0 n) [ inl small ↦ small | inr large ↦ absurd (h (omega (arith, large))) ]

-- an alive ladder has stretches
pub some_stretch : (s : Inside) → Keeps s → IsAlive (problem_at (problem_of s) (path_of s)) → 0 < length s.stretches.items
some_stretch s is alive = (is.has_frames (alive_start s is alive)).some

-- and a frame in force
pub frame_of : (s : Inside) (i : ℕ) (stretch : Stretch) → Keeps s → IsAlive (problem_at (problem_of s) (path_of s)) → i + 1 ≡ length s.stretches.items → stretch ≡ get_or s.stretches.items i stretch →
    IsFrame (problem_at (problem_of s) (path_of s)) (points_of s) stretch.frame
frame_of s i stretch is alive last read =
    last_frame (problem_of s) (points_of s) s.line.items s.stretches.items s.len i stretch
    (is.has_frames (alive_start s is alive)) last read

-- the points of an alive path are points of the problem
pub holds_here : (q : Problem) (m : List Rel) (points : List (List Bool)) → HoldsPoints q points → IsAlive (problem_at q m) → HoldsPoints (problem_at q m) points
holds_here q m points holds alive bits h = holds bits (point_before q m bits alive.allow h)

-- the places of the frame satisfy it
pub frame_lives : (q : Problem) (m : List Rel) (points : List (List Bool)) (rows : BitRows) → HoldsPoints q points → IsAlive (problem_at q m) → IsFrame (problem_at q m) points rows →
    IsAliveFrame rows
frame_lives q m points rows holds alive frame = (alive_here (problem_at q m) points rows alive.allow (holds_here q m points holds alive) frame).1 alive

-- the frame of an alive path in a list that holds the problem's points, and two sets that show the next pair
pub record IsFrameAt (q : Problem) (m : List Rel) (points : List (List Bool)) (rows : BitRows) (l r : ℕ → Bool) : Type 0 where
  pub holds : HoldsPoints q points
  pub alive : IsAlive (problem_at q m)
  pub frame : IsFrame (problem_at q m) points rows
  pub shows : ShowsPair (pair_at q (length m)) points l r

-- a relation leads on just where the frame says so
pub leads_by_frame : (q : Problem) (m : List Rel) (rel : Rel) (words : Regions) (points : List (List Bool)) (rows : BitRows) (l r : ℕ → Bool) → words ≡ row_of rel → IsNext q m rel → IsFrameAt q m points rows l r →
    LeadsOn rows l r words ↔ IsAlive (problem_at q (m ++ rel ∷ []))
leads_by_frame q m rel words points rows l r is next at =
    subst (λ words. LeadsOn rows l r words ↔ IsAlive (problem_at q (m ++ rel ∷ []))) (forced_only rel ∙ sym is)
    (alive_next q (narrowings_of q m) (narrowings_of q (m ++ rel ∷ [])) (length m) (only rel) rows points l r (next_is_narrower q m rel next) at.frame at.shows at.alive.allow (holds_here q m points at.holds at.alive))

-- the frame with one relation more
pub frame_pushed : (q : Problem) (m : List Rel) (rel : Rel) (words : Regions) (points : List (List Bool)) (old new : BitRows) (l r : ℕ → Bool) → words ≡ row_of rel → IsNext q m rel → IsFrameAt q m points old l r →
    IsNarrowed old new l r words → IsFrame (problem_at q (m ++ rel ∷ [])) points new
frame_pushed q m rel words points old new l r is next at o =
    frame_next q (narrowings_of q m) (narrowings_of q (m ++ rel ∷ [])) (length m) (only rel) old new points l r (next_is_narrower q m rel next) at.frame at.shows
    (subst (λ words. IsNarrowed old new l r words) (sym (forced_only rel ∙ sym is)) o)

-- all points of an alive ladder's problem stand in its list
pub holds_of : (s : Inside) → Keeps s → IsAlive (problem_at (problem_of s) (path_of s)) → HoldsPoints (problem_of s) (points_of s)
holds_of s is alive = is.holds (alive_start s is alive)

-- the length of a ladder's path
pub path_long : (s : Inside) → Keeps s → length (path_of s) ≡ s.len
path_long s is = length-take-le s.len s.line.items (let short = is.short in let lined = is.lined in omega (arith, short, lined))

-- the set of the next pair, as it is read
pub record IsNextSet (q : Problem) (m : List Rel) (sets : List RelSet) (k : ℕ) (set : RelSet) : Type 0 where
  pub sets_are : AreAllowed q sets
  pub long : length m ≡ k
  pub short : k < pair_count q
  pub read : set ≡ get_or sets k set

-- the next pair allows a relation or not, by its set
pub next_of_sets : (q : Problem) (m : List Rel) (rel : Rel) (sets : List RelSet) (k : ℕ) (set : RelSet) → IsNextSet q m sets k set → has set rel ≡ true → IsNext q m rel
next_of_sets q m rel sets k set is there = record {
  short = let long = is.long in let short = is.short in omega (arith, long, short);
  allows = ap (λ n. has (allowed q (pair_at q n)) rel) is.long ∙ ap (λ s. has s rel) (sym (is.read ∙ is.sets_are.each k set is.short)) ∙ there;
}

pub dead_by_sets : (q : Problem) (m : List Rel) (rel : Rel) (sets : List RelSet) (k : ℕ) (set : RelSet) → IsNextSet q m sets k set → has set rel ≡ false → IsAlive (problem_at q (m ++ rel ∷ [])) → ⊥
dead_by_sets q m rel sets k set is out = refused_is_dead q m rel (let long = is.long in let short = is.short in omega (arith, long, short))
    (ap (λ n. has (allowed q (pair_at q n)) rel) is.long ∙ ap (λ s. has s rel) (sym (is.read ∙ is.sets_are.each k set is.short)) ∙ out)

pub next_by_alive : (q : Problem) (m : List Rel) (rel : Rel) → length m < pair_count q → IsAlive (problem_at q (m ++ rel ∷ [])) → IsNext q m rel
next_by_alive q m rel short alive = elim (cases_Bool (has (allowed q (pair_at q (length m))) rel)) [
  | inl there ↦ record { short = short; allows = there }
  | inr out ↦ absurd (refused_is_dead q m rel short out alive)
]

-- a relation of the next pair's set that leads on in the frame leads to an alive path, and no other does
pub alive_in_frame : (q : Problem) (m : List Rel) (rel : Rel) (sets : List RelSet) (k : ℕ) (set : RelSet) (points : List (List Bool)) (rows : BitRows) (l r : ℕ → Bool) → IsNextSet q m sets k set → IsFrameAt q m points rows l r →
    IsAliveIn rows l r set rel ↔ IsAlive (problem_at q (m ++ rel ∷ []))
alive_in_frame q m rel sets k set points rows l r is at = (
  λ h. (leads_by_frame q m rel (row_of rel) points rows l r refl (next_of_sets q m rel sets k set is h.0) at).0 h.1,
  λ a. elim (cases_Bool (has set rel)) [
    | inl there ↦ (there, (leads_by_frame q m rel (row_of rel) points rows l r refl (next_of_sets q m rel sets k set is there) at).1 a)
    | inr out ↦ absurd (dead_by_sets q m rel sets k set is out a)
  ],
)

-- what a ladder keeps with one relation more
pub keeps_more : (s : Inside) (rel : Rel) (line : List Rel) (stretches : List Stretch) → Keeps s → IsNext (problem_of s) (path_of s) rel → IsAlive (problem_at (problem_of s) (path_of s ++ rel ∷ [])) →
    line ≡ set s.line.items s.len rel → HasFrames (problem_of s) (points_of s) line stretches (s.len + 1) →
    IsLadder s.problem (problem_of s) s.sets.items s.rows line (s.len + 1) s.nexts.items stretches s.alive
keeps_more s rel line stretches is next alive at risen =
    let q = problem_of s in
    let long = path_long s is in
    let lined = is.lined in
    let short = next.short in
    let within : s.len < length s.line.items = omega (arith, long, lined, short) in
    let path : take (s.len + 1) line ≡ path_of s ++ rel ∷ [] = ap (take (s.len + 1)) at ∙ take_more_set s.line.items s.len rel within in
    record {
      sets_are = is.sets_are;
      rows_are = is.rows_are;
      holds = is.holds;
      lined = ap length at ∙ length-set s.line.items s.len rel ∙ lined;
      nexts_are = subst (λ l. AreNexts s.sets.items l s.nexts.items) (sym at)
          (nexts_set q s.sets.items s.line.items s.nexts.items s.len rel is.sets_are is.nexts_are (omega (arith, long, short)) (ap (λ k. has (allowed q (pair_at q k)) rel) (sym long) ∙ next.allows) within);
      start = is.start;
      here = λ h. subst (λ m. IsAlive (problem_at q m)) (sym path) alive;
      short = omega (arith, long, short);
      has_frames = λ h. risen;
    }

-- the frame of the longer path is the last one, or a new one
pub risen_same : (s : Inside) (rel : Rel) (line : List Rel) (last : ℕ) (stretch : Stretch) → Keeps s → IsNext (problem_of s) (path_of s) rel → IsAlive (problem_at (problem_of s) (path_of s)) → line ≡ set s.line.items s.len rel →
    last + 1 ≡ length s.stretches.items → stretch ≡ get_or s.stretches.items last stretch → IsFrame (problem_at (problem_of s) (path_of s ++ rel ∷ [])) (points_of s) stretch.frame →
    HasFrames (problem_of s) (points_of s) line s.stretches.items (s.len + 1)
risen_same s rel line last stretch is next alive at end read frame =
    let q = problem_of s in
    let long = path_long s is in
    let lined = is.lined in
    let short = next.short in
    let within : s.len < length s.line.items = omega (arith, long, lined, short) in
    let has = is.has_frames (alive_start s is alive) in
    let there : stretch ≡ stretch_at s.stretches.items (length s.stretches.items - 1) =
    read ∙ get_or_default s.stretches.items last stretch (record { from = 0; frame = record { count = 0; width = 0; words = [] } }) (omega (arith, end)) ∙ ap (stretch_at s.stretches.items) (omega (arith, end)) in
    frames_longer q (points_of s) s.line.items line s.stretches.items s.len (s.len + 1) has (omega arith)
    (λ n small. ap (take n) at ∙ take-set-le n s.line.items s.len rel small)
    (λ n past upto. subst (λ k. IsFrame (problem_at q (take k line)) (points_of s) (stretch_at s.stretches.items (length s.stretches.items - 1)).frame) (only_end n past upto)
    (subst (λ m. IsFrame (problem_at q m) (points_of s) (stretch_at s.stretches.items (length s.stretches.items - 1)).frame) (sym (ap (take (s.len + 1)) at ∙ take_more_set s.line.items s.len rel within))
    (subst (λ (x : Stretch). IsFrame (problem_at q (path_of s ++ rel ∷ [])) (points_of s) x.frame) there frame)))
  where
    only_end : (n : ℕ) → s.len < n → n ≤ s.len + 1 → s.len + 1 ≡ n
    only_end n past upto = omega (arith, past, upto)

pub risen_new : (s : Inside) (rel : Rel) (line : List Rel) (new : Stretch) (stretches : List Stretch) → Keeps s → IsNext (problem_of s) (path_of s) rel → IsAlive (problem_at (problem_of s) (path_of s)) → line ≡ set s.line.items s.len rel →
    new.from ≡ s.len + 1 → stretches ≡ s.stretches.items ++ new ∷ [] → IsFrame (problem_at (problem_of s) (path_of s ++ rel ∷ [])) (points_of s) new.frame →
    HasFrames (problem_of s) (points_of s) line stretches (s.len + 1)
risen_new s rel line new stretches is next alive at begins more frame =
    let q = problem_of s in
    let long = path_long s is in
    let lined = is.lined in
    let short = next.short in
    let within : s.len < length s.line.items = omega (arith, long, lined, short) in
    let has = is.has_frames (alive_start s is alive) in
    subst (λ ss. HasFrames q (points_of s) line ss (s.len + 1)) (sym more)
    (frames_pushed q (points_of s) s.line.items line s.stretches.items s.len new has (λ n small. ap (take n) at ∙ take-set-le n s.line.items s.len rel small) begins
    (subst (λ m. IsFrame (problem_at q m) (points_of s) new.frame) (sym (ap (take (s.len + 1)) at ∙ take_more_set s.line.items s.len rel within)) frame))

-- what a ladder keeps where it goes along the pairs that have one relation left
pub keeps_along : (s : Inside) (next d : ℕ) → Keeps s → IsAlive (problem_at (problem_of s) (path_of s)) → s.len < length s.nexts.items → next ≡ get_or s.nexts.items s.len d →
    IsLadder s.problem (problem_of s) s.sets.items s.rows s.line.items next s.nexts.items s.stretches.items s.alive
keeps_along s next d is alive small read = record {
  sets_are = is.sets_are;
  rows_are = is.rows_are;
  holds = is.holds;
  lined = is.lined;
  nexts_are = is.nexts_are;
  start = is.start;
  here = λ h. alive_same q (narrowings_of q (take s.len line)) (narrowings_of q (take next line)) (same next (omega arith)) alive;
  short = omega (arith, fits, lined);
  has_frames = λ h. frames_longer q (points_of s) line line s.stretches.items s.len next frames longer (λ n small. refl) (λ n past upto.
      frame_same q (narrowings_of q (take s.len line)) (narrowings_of q (take n line)) (points_of s) (stretch_at s.stretches.items (length s.stretches.items - 1)).frame (along_same q line s.len n (omega (arith, past)) (omega (arith, upto, fits)) (λ i low high. decided i low (omega (arith, high, upto))))
      (last_frame q (points_of s) line s.stretches.items s.len (length s.stretches.items - 1) (stretch_at s.stretches.items (length s.stretches.items - 1)) frames (let some = frames.some in omega (arith, some)) (sym (get_or_default s.stretches.items (length s.stretches.items - 1) (stretch_at s.stretches.items (length s.stretches.items - 1)) (record { from = 0; frame = record { count = 0; width = 0; words = [] } }) (let some = frames.some in omega (arith, some))))));
}
  where
    q : Problem
    q = problem_of s

    line : List Rel
    line = s.line.items

    lined : length line ≡ pair_count q
    lined = is.lined

    at : next ≡ get_or s.nexts.items s.len 0
    at = read ∙ get_or_default s.nexts.items s.len d 0 small

    longer : s.len ≤ next
    longer = let on = (is.nexts_are.onward s.len small).0 in omega (arith, on, at)

    fits : next ≤ length line
    fits = let on = (is.nexts_are.onward s.len small).1 in let counted = is.sets_are.counted in omega (arith, on, at, counted, lined)

    decided : AreDecided q line s.len next
    decided = decided_by q s.sets.items line s.nexts.items s.len next d is.sets_are is.nexts_are small read

    same : (n : ℕ) → next ≤ n → AllowsSame q (narrowings_of q (take s.len line)) (narrowings_of q (take next line))
    same n h = along_same q line s.len next longer fits decided

    frames : HasFrames q (points_of s) line s.stretches.items s.len
    frames = is.has_frames (alive_start s is alive)

-- it goes along them
pub goes_here : (s : Inside) (next d : ℕ) → Keeps s → IsAlive (problem_at (problem_of s) (path_of s)) → s.len < length s.nexts.items → next ≡ get_or s.nexts.items s.len d →
    IsAlong (record { problem = problem_of s; path = path_of s }) (record { problem = problem_of s; path = take next s.line.items })
goes_here s next d is alive small read = goes_along q s.line.items s.len next longer fits is.lined (decided_by q s.sets.items s.line.items s.nexts.items s.len next d is.sets_are is.nexts_are small read) alive
  where
    q : Problem
    q = problem_of s

    at : next ≡ get_or s.nexts.items s.len 0
    at = read ∙ get_or_default s.nexts.items s.len d 0 small

    longer : s.len ≤ next
    longer = let on = (is.nexts_are.onward s.len small).0 in omega (arith, on, at)

    fits : next ≤ length s.line.items
    fits = let on = (is.nexts_are.onward s.len small).1 in let counted = is.sets_are.counted in let lined = is.lined in omega (arith, on, at, counted, lined)

-- what a ladder keeps where its path is cut
pub keeps_cut : (s : Inside) (len : ℕ) (stretches : List Stretch) → Keeps s → len ≤ s.len → IsCutBack s.stretches.items stretches len →
    IsLadder s.problem (problem_of s) s.sets.items s.rows s.line.items len s.nexts.items stretches s.alive
keeps_cut s len stretches is fewer cut = record {
  sets_are = is.sets_are;
  rows_are = is.rows_are;
  holds = is.holds;
  lined = is.lined;
  nexts_are = is.nexts_are;
  start = is.start;
  here = λ h. prefix_is_alive q (take len s.line.items) (drop len (take s.len s.line.items))
      (subst (λ m. IsAlive (problem_at q m)) (sym (take-append-drop len (take s.len s.line.items)) ∙ ap (λ m. m ++ drop len (take s.len s.line.items)) (take-take len s.len s.line.items fewer)) (is.here (omega (arith, h, fewer))));
  short = let short = is.short in omega (arith, short, fewer);
  has_frames = λ h. frames_cut q (points_of s) s.line.items s.stretches.items stretches s.len len (is.has_frames h) fewer cut;
}
  where
    q : Problem
    q = problem_of s

-- the empty path of a problem that is narrowed to bounds
pub keeps_start : (p : Problem) (b : Bounds) (rows : BitRows) (line : List Rel) (nexts : List ℕ) (stretches : List Stretch) → AreBounds p b → AreRowsOf p rows → length line ≡ length b.sets.items → AreNexts b.sets.items line nexts →
    stretches ≡ record { from = 0; frame = b.frame } ∷ [] → IsLadder p (bound_to p b.sets.items b.count) b.sets.items rows line 0 nexts stretches b.alive
keeps_start p b rows line nexts stretches are shows lined nexts_are is = record {
  sets_are = are.sets_are;
  rows_are = shows;
  holds = are.holds;
  lined = lined ∙ are.sets_are.counted;
  nexts_are = nexts_are;
  start = are.lives;
  here = λ h. absurd (omega (arith, h));
  short = omega arith;
  has_frames = λ h. subst (λ ss. HasFrames q (points_by_trial p) line ss 0) (sym is) (record {
    some = omega arith;
    first = refl;
    ascending = λ i j low small. absurd (omega (arith, low, small));
    within = λ i small. subst (λ k. (stretch_at one k).from ≤ 0) (zero_is i small) (omega arith);
    each = λ i n small from upto next. subst (λ k. IsFrame (problem_at q (take k line)) (points_by_trial p) (stretch_at one i).frame) (none_is n upto)
        (subst (λ k. IsFrame (problem_at q (take 0 line)) (points_by_trial p) (stretch_at one k).frame) (zero_is i small) (subst (λ r. IsFrame r (points_by_trial p) b.frame) (sym (at_empty q)) (are.frame h)));
  });
}
  where
    q : Problem
    q = bound_to p b.sets.items b.count

    one : List Stretch
    one = record { from = 0; frame = b.frame } ∷ []

    zero_is : (i : ℕ) → i < 1 → 0 ≡ i
    zero_is i small = omega (arith, small)

    none_is : (n : ℕ) → n ≤ 0 → 0 ≡ n
    none_is n upto = omega (arith, upto)
