-- How points are struck out and taken back, and needs watched, along a pool.
use Rattle.std.proofs.Common.{Vec, Global, ◌≡◌, ◌≢◌, ℕ, ◌+◌, ◌*◌, ◌<◌, ◌≤◌, ◌⊎◌, Bool, true, List, [], ◌∷◌, ◌++◌, length, get_or, set, take, inl, inr, sym, ap, ◌∙◌, subst, arith}
use Rattle.std.specs.Prelude.{IsTrue, All, Contains}
use Rattle.std.proofs.lemmas.Bool.{cases_eq, cases_lt, and_parts, eqb-true, true≢false}
use Rattle.std.specs.List.{list_all}
use Rattle.std.proofs.lemmas.List.Elements.{All-push, Contains-push, Contains-append_left}
use Rattle.std.proofs.lemmas.List.{get_or-set_same, get_or-set_other, set_past, length-set, length-append, length-take-le, length-take, take-take, take-append-le, get_or_append_left, get_or_push, get_or-take}
use Rattle.bit_rows.specs.Rows.{has_bit}
use Rattle.rcc5_core.specs.declared.Rel.{Rel}
use Rattle.world_model.specs.Problem.{Problem, kept_sums, concept_count}
use Rattle.world_model.specs.Node.{pair_at}
use Rattle.world_model.specs.Alive.{point_sums, meets_structure, is_point, is_in_need, avoids, forced_pairs, problem_at, HasPoint, point_at, meets_trees}
use Rattle.world_model.specs.Laws.{PositionsNarrow}
use Rattle.rcc5_core.specs.Region.{row_of}
use Rattle.constraint_set.specs.Shape.{shape_of}
use Rattle.point_draft.specs.declared.drafts.Drafts.{Drafts}
use Rattle.point_table.specs.Places.Places.{PlaceState, IsUsed}
use Rattle.point_table.specs.Places.Places as rows
use Rattle.point_pool.specs.declared.pool.Pool.{Pool}
use Rattle.point_pool.specs.declared.waiting.Numbers.{Numbers}
use Rattle.point_pool.specs.Cursors.{CursorState, IsOpen}
use Rattle.point_encode.specs.Numbers.{is_needed}
use Rattle.point_encode.specs.Model.Forced.{need_at, need_count}
use Rattle.point_pool.specs.Pools.{served_at, AllAvoid, IsPlaceOf, IsListed, IsFit, IsWitness, FitsNeed, HasWitness, IsAdded, IsKept, IsNeeded, IsPool, IsPoolBut, StrikesOut, IsStriking}
use Rattle.point_pool.proofs.Prefixes.{point_more, point_later, needed_later, needed_before}

-- a relation more is about to strike out points
pub striking_begun : (w : Pool) (marks : Vec ℕ Global) → IsPool w → marks.items ≡ w.marks.items ++ length w.struck.items ∷ [] → IsStriking (record w { marks = marks })
striking_begun w marks is by =
    let counted : length marks.items ≡ length w.marks.items + 1 = ap length by ∙ length-append w.marks.items (length w.struck.items ∷ []) in
    let few = is.marked in
    record {
      kept = record {
        pooled = record {
          concepts = is.kept.pooled.concepts;
          trees = is.kept.pooled.trees;
          live = is.kept.pooled.live;
          sound = λ n k low marked after within. elim (cases_lt n (length w.marks.items)) [
            | inl before ↦
                is.kept.pooled.sound n k low before
                (subst (λ i. i ≤ k) (ap (λ ks. get_or ks n 0) by ∙ get_or_append_left w.marks.items (length w.struck.items ∷ []) 0 n before) after) within
            | inr last ↦
                let at : get_or marks.items n 0 ≡ length w.struck.items = ap (λ ks. get_or ks n 0) by ∙ get_or_push w.marks.items (length w.struck.items) 0 n (omega (arith, counted, marked)) in
                absurd (omega (arith, at, after, within))
          ];
        };
        counted = is.kept.counted;
        numbered = is.kept.numbered;
        slotted = is.kept.slotted;
      };
      marked = omega arith;
      watched = is.watched;
    }

-- a point is struck out
pub striking_out : PositionsNarrow → (old new : Pool) (place : ℕ) → IsOpen old.cursor.problem old.cursor.path → IsStriking old → place < length old.places.points → has_bit old.places.live place ≡ true →
    StrikesOut old new place → IsStriking new
striking_out law old new place o is there live out =
    let p = old.cursor.problem in
    let m = old.cursor.path in
    let points = out.places.points in
    let sized = is.kept.counted in
    record {
      kept = record {
        pooled = rw (out.cursor) (record {
          concepts = out.places.concepts ∙ is.kept.pooled.concepts;
          trees = subst (λ ps. All (λ bits. IsTrue (meets_trees p bits)) ps) (sym points) is.kept.pooled.trees;
          live = λ k on. subst (λ ps. IsTrue (is_point (problem_at p m) (point_at ps k))) (sym points) (is.kept.pooled.live k (was k on));
          sound = λ n k low marked after within.
              let small : n < length old.marks.items = subst (λ ks. n < length ks) out.marks marked in
              let first : get_or old.marks.items n 0 ≤ k = subst (λ ks. get_or ks n 0 ≤ k) out.marks after in
              let counted : length new.struck.items ≡ length old.struck.items + 1 = ap length out.struck ∙ length-append old.struck.items (place ∷ []) in
              subst (λ ps. IsPlaceOf (problem_at p (take n m)) ps (get_or new.struck.items k 0)) (sym points) (elim (cases_lt k (length old.struck.items)) [
                | inl before ↦
                    subst (λ i. IsPlaceOf (problem_at p (take n m)) old.places.points i) (sym (ap (λ ks. get_or ks k 0) out.struck ∙ get_or_append_left old.struck.items (place ∷ []) 0 k before))
                    (is.kept.pooled.sound n k low small first before)
                | inr last ↦
                    subst (λ i. IsPlaceOf (problem_at p (take n m)) old.places.points i) (sym (ap (λ ks. get_or ks k 0) out.struck ∙ get_or_push old.struck.items place 0 k (omega (arith, counted, within))))
                    (record { there = there; point = point_later law p m n (point_at old.places.points place) o low (is.kept.pooled.live place live) })
              ]);
        });
        counted = out.counted ∙ sized ∙ sym (ap length points);
        numbered = rw (out.cursor, out.witness) is.kept.numbered;
        slotted = rw (out.cursor, out.slots) is.kept.slotted;
      };
      marked = rw (out.cursor, out.marks) is.marked;
      watched = λ number within needed.
          watch_struck number (is.watched number (subst (λ s. number < need_count s.problem) out.cursor within) (subst (λ s. IsTrue (is_needed (problem_at s.problem s.path) number)) out.cursor needed));
    }
  where
    was : (k : ℕ) → has_bit new.places.live k ≡ true → has_bit old.places.live k ≡ true
    was k on = elim (cases_eq k place) [
      | inl same ↦ absurd (true≢false (sym on ∙ ap (has_bit new.places.live) same ∙ out.places.live.here))
      | inr apart ↦ sym (out.places.live.others k apart) ∙ on
    ]

    watch_struck : (number : ℕ) → Contains old.waiting number ⊎ HasWitness old number → Contains new.waiting number ⊎ HasWitness new number
    watch_struck number (inl waits) = inl (out.stay number waits)
    watch_struck number (inr served) =
        let k = get_or old.witness.items number 0 in
        elim (cases_eq k place) [
          | inl same ↦ inl (out.moved number (subst (λ i. Contains (served_at old.serves.items i) number) same served.listed))
          | inr apart ↦ inr (rw (out.cursor, out.witness) (record {
            fit = record {
              there = subst (λ ps. k < length ps) (sym out.places.points) served.fit.there;
              live = out.places.live.others k apart ∙ served.fit.live;
              in_need = subst (λ ps. IsTrue (is_in_need (need_at old.cursor.problem number) (point_at ps k))) (sym out.places.points) served.fit.in_need;
            };
            used = out.places.used.others k apart ∙ served.used;
            listed = subst (λ ns. Contains ns number) (sym (out.others k apart)) served.listed;
          }))
        ]

-- one number more of which it is known that it waits or is served, if it is a need
pub but_more : (w : Pool) (low high : ℕ) → IsPoolBut w low high →
    (IsNeeded w low → Contains w.waiting low ⊎ HasWitness w low) →
    IsPoolBut w (low + 1) high
but_more w low high is known = record {
  kept = is.kept;
  marked = is.marked;
  watched = λ number within counts. elim (cases_eq number low) [
    | inr apart ↦ is.watched number within (counts.0, λ above below. counts.1 (omega arith) below)
    | inl same ↦
        subst (λ k. Contains w.waiting k ⊎ HasWitness w k) (sym same)
        (known (subst (λ k. IsNeeded w k) same counts.0))
  ];
}

-- more numbers wait
pub but_waiting : (w : Pool) (low high : ℕ) (waiting : List ℕ) → IsPoolBut w low high → ((number : ℕ) → Contains w.waiting number → Contains waiting number) →
    IsPoolBut (record w { waiting = waiting }) low high
but_waiting w low high waiting is stay = record {
  kept = record { pooled = is.kept.pooled; counted = is.kept.counted; numbered = is.kept.numbered; slotted = is.kept.slotted };
  marked = is.marked;
  watched = λ number within counts. elim (is.watched number within counts) [ inl waits ↦ inl (stay number waits) | inr served ↦ inr served ];
}

-- no number is left out
pub but_none : (w : Pool) (low high : ℕ) → high ≤ low → IsPoolBut w low high → IsPool w
but_none w low high done is = record { kept = is.kept; marked = is.marked; watched = λ number within needed. is.watched number within (needed, λ above below. absurd (omega arith)) }

-- with another draft
pub pool_drafted : (w : Pool) (drafts : Drafts) (low high : ℕ) → IsPoolBut w low high → IsPoolBut (record w { drafts = drafts }) low high
pool_drafted w drafts low high is = record {
  kept = record { pooled = is.kept.pooled; counted = is.kept.counted; numbered = is.kept.numbered; slotted = is.kept.slotted };
  marked = is.marked;
  watched = is.watched;
}

-- with fewer relations, and what was struck out since then made live again
pub pool_back : PositionsNarrow → (w : Pool) (n start : ℕ) (cursor : CursorState) (places : PlaceState) (struck marks : Vec ℕ Global) (drafts : Drafts) → IsPool w → IsOpen w.cursor.problem w.cursor.path →
    n ≤ length w.cursor.path → cursor ≡ record w.cursor { path = take n w.cursor.path } → places.concepts ≡ w.places.concepts → places.points ≡ w.places.points → places.used ≡ w.places.used →
    ((place : ℕ) → has_bit w.places.live place ≡ true → has_bit places.live place ≡ true) →
    ((place : ℕ) → has_bit places.live place ≡ true → (has_bit w.places.live place ≡ true) ⊎ IsListed w.struck.items start place) →
    ((k : ℕ) → start ≤ k → k < length w.struck.items → IsPlaceOf (problem_at w.cursor.problem (take n w.cursor.path)) w.places.points (get_or w.struck.items k 0)) →
    struck.items ≡ take start w.struck.items → marks.items ≡ take n w.marks.items →
    IsPool (record w { cursor = cursor; places = places; struck = struck; marks = marks; drafts = drafts })
pool_back law w n start cursor places struck marks drafts is o fewer same concepts points used stay live sound fewer_struck fewer_marks =
    let p = w.cursor.problem in
    let m = w.cursor.path in
    let short : length (take n m) ≡ n = length-take-le n m fewer in
    rw same (record {
      kept = record {
        pooled = record {
          concepts = concepts ∙ is.kept.pooled.concepts;
          trees = subst (λ ps. All (λ bits. IsTrue (meets_trees p bits)) ps) (sym points) is.kept.pooled.trees;
          live = λ place on. subst (λ ps. IsTrue (is_point (problem_at p (take n m)) (point_at ps place))) (sym points) (back_point place (live place on));
          sound = λ e k low marked after within.
              let front : take e (take n m) ≡ take e m = take-take e n m (omega (arith, short)) in
              let early : (e < n) × (e < length w.marks.items) = below e (subst (λ ks. e < length ks) fewer_marks marked) in
              let first : get_or w.marks.items e 0 ≤ k = subst (λ i. i ≤ k) (ap (λ ks. get_or ks e 0) fewer_marks ∙ get_or-take n w.marks.items e 0 early.0) after in
              let there : (k < start) × (k < length w.struck.items) = inside k (subst (λ ks. k < length ks) fewer_struck within) in
              let at : get_or struck.items k 0 ≡ get_or w.struck.items k 0 = ap (λ ks. get_or ks k 0) fewer_struck ∙ get_or-take start w.struck.items k 0 there.0 in
              subst (λ t. IsPlaceOf (problem_at p t) places.points (get_or struck.items k 0)) (sym front)
              (subst (λ ps. IsPlaceOf (problem_at p (take e m)) ps (get_or struck.items k 0)) (sym points)
              (subst (λ i. IsPlaceOf (problem_at p (take e m)) w.places.points i) (sym at) (is.kept.pooled.sound e k (omega (arith, early.0, fewer)) early.1 first there.1)));
        };
        counted = is.kept.counted ∙ sym (ap length points);
        numbered = is.kept.numbered;
        slotted = is.kept.slotted;
      };
      marked = omega (arith, short, ap length fewer_marks, length-take n w.marks.items);
      watched = λ number within needed. elim (is.watched number within (needed_later law p m n number o fewer needed)) [
        | inl waits ↦ inl waits
        | inr served ↦ inr (record {
          fit = record {
            there = subst (λ ps. get_or w.witness.items number 0 < length ps) (sym points) served.fit.there;
            live = stay (get_or w.witness.items number 0) served.fit.live;
            in_need = subst (λ ps. IsTrue (is_in_need (need_at p number) (point_at ps (get_or w.witness.items number 0)))) (sym points) served.fit.in_need;
          };
          used = subst (λ us. has_bit us (get_or w.witness.items number 0) ≡ true) (sym used) served.used;
          listed = served.listed;
        })
      ];
    })
  where
    back_point : (place : ℕ) → (has_bit w.places.live place ≡ true) ⊎ IsListed w.struck.items start place →
        IsTrue (is_point (problem_at w.cursor.problem (take n w.cursor.path)) (point_at w.places.points place))
    back_point place (inl on) = point_later law w.cursor.problem w.cursor.path n (point_at w.places.points place) o fewer (is.kept.pooled.live place on)
    back_point place (inr listed) =
        subst (λ i. IsTrue (is_point (problem_at w.cursor.problem (take n w.cursor.path)) (point_at w.places.points i))) listed.is (sound listed.number listed.after listed.within).point

    below : (e : ℕ) → e < length (take n w.marks.items) → (e < n) × (e < length w.marks.items)
    below e small = (omega (arith, small, length-take n w.marks.items), omega (arith, small, length-take n w.marks.items))

    inside : (k : ℕ) → k < length (take start w.struck.items) → (k < start) × (k < length w.struck.items)
    inside k small = (omega (arith, small, length-take start w.struck.items), omega (arith, small, length-take start w.struck.items))

-- with one relation more, once the points in regions that it forces empty are struck out
pub pool_more : PositionsNarrow → (w : Pool) (rel : Rel) (cursor : CursorState) → IsOpen w.cursor.problem w.cursor.path → IsOpen w.cursor.problem (w.cursor.path ++ rel ∷ []) →
    IsStriking w → AllAvoid w.places (pair_at w.cursor.problem (length w.cursor.path)) (row_of rel) → cursor ≡ record w.cursor { path = w.cursor.path ++ rel ∷ [] } →
    IsPoolBut (record w { cursor = cursor }) (3 * length w.cursor.path) (3 * length w.cursor.path + 3)
pool_more law w rel cursor o more is avoid same =
    let p = w.cursor.problem in
    let m = w.cursor.path in
    let longer : length (m ++ rel ∷ []) ≡ length m + 1 = length-append m (rel ∷ []) in
    let few = is.marked in
    rw same (record {
      kept = record {
        pooled = record {
          concepts = is.kept.pooled.concepts;
          trees = is.kept.pooled.trees;
          live = λ place on. point_more law p m rel (point_at w.places.points place) more (is.kept.pooled.live place on) (avoid place on);
          sound = λ n k low marked after within.
              let small : n ≤ length m = omega (arith, marked) in
              subst (λ t. IsPlaceOf (problem_at p t) w.places.points (get_or w.struck.items k 0)) (sym (take-append-le n m (rel ∷ []) small)) (is.kept.pooled.sound n k small marked after within);
        };
        counted = is.kept.counted;
        numbered = is.kept.numbered;
        slotted = is.kept.slotted;
      };
      marked = omega (arith, longer);
      watched = λ number within counts.
          let before = needed_before law p m rel number more o (λ small here. counts.1 (omega arith) (omega arith)) counts.0 in
          elim (is.watched number within before) [ inl waits ↦ inl waits | inr served ↦ inr served ];
    })

-- one need more is served
pub assigned : (w : Pool) (number place : ℕ) (places : PlaceState) (witness slots : Vec ℕ Global) (serves : Vec Numbers Global) → IsPoolBut w number (number + 1) → number < need_count w.cursor.problem →
    FitsNeed w number place → IsUsed w.places places place → witness.items ≡ set w.witness.items number place →
    length slots.items ≡ length w.slots.items → serves.items ≡ set w.serves.items place (served_at w.serves.items place ++ number ∷ []) →
    IsPool (record w { places = places; witness = witness; slots = slots; serves = serves }) × HasWitness (record w { places = places; witness = witness; slots = slots; serves = serves }) number
assigned w number place places witness slots serves is within fit noted by same lists = (
  record {
    kept = record {
      pooled = record {
        concepts = noted.concepts ∙ is.kept.pooled.concepts;
        trees = subst (λ ps. All (λ bits. IsTrue (meets_trees p bits)) ps) (sym noted.points) is.kept.pooled.trees;
        live = λ k on. subst (λ ps. IsTrue (is_point (problem_at p w.cursor.path) (point_at ps k))) (sym noted.points) (is.kept.pooled.live k (subst (λ ls. has_bit ls k ≡ true) noted.live on));
        sound = λ n k low marked after small.
            subst (λ ps. IsPlaceOf (problem_at p (take n w.cursor.path)) ps (get_or w.struck.items k 0)) (sym noted.points) (is.kept.pooled.sound n k low marked after small);
      };
      counted = ap length lists ∙ length-set w.serves.items place (served_at w.serves.items place ++ number ∷ []) ∙ is.kept.counted ∙ sym (ap length noted.points);
      numbered = ap length by ∙ length-set w.witness.items number place ∙ is.kept.numbered;
      slotted = same ∙ is.kept.slotted;
    };
    marked = is.marked;
    watched = λ other small needed. elim (cases_eq other number) [
      | inl here ↦ inr (subst (λ k. IsWitness p places serves.items k (get_or witness.items k 0)) (sym here) served)
      | inr apart ↦ elim (is.watched other small (needed, λ above below. apart (omega arith))) [
        | inl waits ↦ inl waits
        | inr old ↦
            let stays : get_or witness.items other 0 ≡ get_or w.witness.items other 0 = ap (λ ks. get_or ks other 0) by ∙ get_or-set_other w.witness.items number other place 0 apart in
            inr (subst (λ k. IsWitness p places serves.items other k) (sym stays) (record {
              fit = fits other (get_or w.witness.items other 0) old.fit;
              used = elim (cases_eq (get_or w.witness.items other 0) place) [
                | inl at ↦ ap (has_bit places.used) at ∙ noted.used.here
                | inr off ↦ noted.used.others (get_or w.witness.items other 0) off ∙ old.used
              ];
              listed = still other (get_or w.witness.items other 0) old.listed;
            }))
      ]
    ];
  },
  served,
)
  where
    p : Problem
    p = w.cursor.problem

    fits : (other k : ℕ) → FitsNeed w other k → IsFit places (need_at p other) k
    fits other k f = record {
      there = subst (λ ps. k < length ps) (sym noted.points) f.there;
      live = subst (λ ls. has_bit ls k ≡ true) (sym noted.live) f.live;
      in_need = subst (λ ps. IsTrue (is_in_need (need_at p other) (point_at ps k))) (sym noted.points) f.in_need;
    }

    served : IsWitness p places serves.items number (get_or witness.items number 0)
    served =
        let listed : served_at serves.items place ≡ served_at w.serves.items place ++ number ∷ [] =
        ap (λ ls. served_at ls place) lists ∙ get_or-set_same w.serves.items place (served_at w.serves.items place ++ number ∷ []) [] (omega (arith, fit.there, is.kept.counted)) in
        let mine : get_or witness.items number 0 ≡ place = ap (λ ks. get_or ks number 0) by ∙ get_or-set_same w.witness.items number place 0 (omega (arith, is.kept.numbered)) in
        subst (λ k. IsWitness p places serves.items number k) (sym mine) (record {
          fit = fits number place fit;
          used = noted.used.here;
          listed = subst (λ ns. Contains ns number) (sym listed) (Contains-push (served_at w.serves.items place) number);
        })

    still : (other k : ℕ) → Contains (served_at w.serves.items k) other → Contains (served_at serves.items k) other
    still other k h = elim (cases_eq k place) [
      | inr apart ↦ subst (λ ns. Contains ns other) (sym (ap (λ ls. served_at ls k) lists ∙ get_or-set_other w.serves.items place k (served_at w.serves.items place ++ number ∷ []) [] apart)) h
      | inl here ↦ elim (cases_lt place (length w.serves.items)) [
        | inl within ↦
            let new : served_at serves.items k ≡ served_at w.serves.items k ++ number ∷ [] =
            ap (λ ls. served_at ls k) lists ∙ ap (λ i. get_or (set w.serves.items place (served_at w.serves.items place ++ number ∷ [])) i []) here ∙
            get_or-set_same w.serves.items place (served_at w.serves.items place ++ number ∷ []) [] within ∙ ap (λ i. served_at w.serves.items i ++ number ∷ []) (sym here) in
            subst (λ ns. Contains ns other) (sym new) (Contains-append_left (served_at w.serves.items k) (number ∷ []) other h)
        | inr past ↦ subst (λ ns. Contains ns other) (sym (ap (λ ls. served_at ls k) (lists ∙ set_past w.serves.items place (served_at w.serves.items place ++ number ∷ []) past))) h
      ]
    ]

-- the rules of the trees are among those of points
pub trees_of_point : (p : Problem) (bits : List Bool) → is_point p bits ≡ true → meets_trees p bits ≡ true
trees_of_point p bits h = (and_parts (meets_trees p bits) (list_all (point_sums bits) (kept_sums p)) (and_parts (meets_structure p bits) (list_all (avoids bits) (forced_pairs p)) h).0).0

-- such bits are as many as the concepts
pub trees_long : (p : Problem) (bits : List Bool) → meets_trees p bits ≡ true → length bits ≡ concept_count p
trees_long p bits h = eqb-true (length bits) (concept_count p) (and_parts _ _ (and_parts _ _ (and_parts _ _ h).0).0).0

-- a point has a bit for each concept
pub point_long : (p : Problem) (bits : List Bool) → is_point p bits ≡ true → length bits ≡ concept_count p
point_long p bits h = trees_long p bits (trees_of_point p bits h)

-- a point of the prefix is added
pub point_added : PositionsNarrow → (w : Pool) (bits : List Bool) (low high place : ℕ) (places : PlaceState) (serves : Vec Numbers Global) →
    IsPoolBut w low high → IsOpen w.cursor.problem w.cursor.path → is_point (problem_at w.cursor.problem w.cursor.path) bits ≡ true →
    ((k : ℕ) → has_bit w.places.live k ≡ true → k < length w.places.points) → rows.IsAdded w.places places bits place → serves.items ≡ w.serves.items ++ [] ∷ [] →
    IsPoolBut (record w { places = places; serves = serves }) low high
point_added law w bits low high place places serves is o point below add lists = record {
  kept = record {
    pooled = record {
      concepts = add.concepts ∙ is.kept.pooled.concepts;
      trees = subst (λ ps. All (λ b. IsTrue (meets_trees p b)) ps) (sym add.points)
          (All-push (λ b. IsTrue (meets_trees p b)) w.places.points bits is.kept.pooled.trees (trees_of_point (problem_at p m) bits point));
      live = λ k on. elim (cases_eq k place) [
        | inl here ↦
            subst (λ b. IsTrue (is_point (problem_at p m) b)) (sym (ap (λ ps. point_at ps k) add.points ∙ get_or_push w.places.points bits [] k (sym (here ∙ add.last)))) point
        | inr apart ↦
            let old = sym (add.live.others k apart) ∙ on in
            subst (λ b. IsTrue (is_point (problem_at p m) b)) (sym (stays k (below k old))) (is.kept.pooled.live k old)
      ];
      sound = λ n k small marked after within.
          let old = is.kept.pooled.sound n k small marked after within in
          record {
            there = omega (arith, old.there, longer);
            point = subst (λ b. IsTrue (is_point (problem_at p (take n m)) b)) (sym (stays (get_or w.struck.items k 0) old.there)) old.point;
          };
    };
    counted = ap length lists ∙ length-append w.serves.items ([] ∷ []) ∙ ap (λ n. n + 1) is.kept.counted ∙ sym longer;
    numbered = is.kept.numbered;
    slotted = is.kept.slotted;
  };
  marked = is.marked;
  watched = λ number within counts. elim (is.watched number within counts) [
    | inl waits ↦ inl waits
    | inr old ↦
        let k = get_or w.witness.items number 0 in
        let apart : k ≢ place = λ e. omega (arith, e, add.last, old.fit.there) in
        inr (record {
          fit = record {
            there = omega (arith, old.fit.there, longer);
            live = add.live.others k apart ∙ old.fit.live;
            in_need = subst (λ b. IsTrue (is_in_need (need_at p number) b)) (sym (stays k old.fit.there)) old.fit.in_need;
          };
          used = add.used.others k apart ∙ old.used;
          listed = subst (λ ns. Contains ns number) (sym (ap (λ ls. served_at ls k) lists ∙ get_or_append_left w.serves.items ([] ∷ []) [] k (omega (arith, old.fit.there, is.kept.counted)))) old.listed;
        })
  ];
}
  where
    p : Problem
    p = w.cursor.problem

    m : List Rel
    m = w.cursor.path

    longer : length places.points ≡ length w.places.points + 1
    longer = ap length add.points ∙ length-append w.places.points (bits ∷ [])

    stays : (k : ℕ) → k < length w.places.points → point_at places.points k ≡ point_at w.places.points k
    stays k h = ap (λ ps. point_at ps k) add.points ∙ get_or_append_left w.places.points (bits ∷ []) [] k h

-- and is there
pub added_there : (old : PlaceState) (new : PlaceState) (w : Pool) (bits : List Bool) (place : ℕ) → rows.IsAdded old new bits place → w.places ≡ new → IsAdded w bits place
added_there old new w bits place add same =
    let longer : length new.points ≡ length old.points + 1 = ap length add.points ∙ length-append old.points (bits ∷ []) in
    rw same (record {
      there = omega (arith, add.last, longer);
      is = ap (λ ps. point_at ps place) add.points ∙ get_or_push old.points bits [] place (sym add.last);
      live = add.live.here;
    })

-- a number is known to wait no more
pub but_settled : (w : Pool) (number : ℕ) → IsPoolBut w number (number + 1) → (IsNeeded w number → HasWitness w number) → IsPool w
but_settled w number is known = but_none w (number + 1) (number + 1) (omega arith) (but_more w number (number + 1) is (λ needed. inr (known needed)))

-- a number is taken from those that wait
pub popped : (w : Pool) (number : ℕ) (waiting : List ℕ) → IsPool w → ((other : ℕ) → Contains w.waiting other → (other ≡ number) ⊎ Contains waiting other) →
    IsPoolBut (record w { waiting = waiting }) number (number + 1)
popped w number waiting is stay = record {
  kept = record { pooled = is.kept.pooled; counted = is.kept.counted; numbered = is.kept.numbered; slotted = is.kept.slotted };
  marked = is.marked;
  watched = λ other within counts. elim (is.watched other within counts.0) [
    | inr served ↦ inr served
    | inl waits ↦ elim (stay other waits) [
      | inr still ↦ inl still
      | inl same ↦ absurd (counts.1 (omega (arith, same)) (omega (arith, same)))
    ]
  ];
}

-- and put back
pub put_back : (w : Pool) (number : ℕ) (waiting : List ℕ) → IsPoolBut w number (number + 1) → Contains waiting number → ((other : ℕ) → Contains w.waiting other → Contains waiting other) →
    IsPool (record w { waiting = waiting })
put_back w number waiting is there stay =
    but_none (record w { waiting = waiting }) (number + 1) (number + 1) (omega arith)
    (but_more (record w { waiting = waiting }) number (number + 1) (but_waiting w number (number + 1) waiting is stay) (λ needed. inl there))

-- the point that serves a need is one of the prefix, in the need
pub served_point : (w : Pool) (number place : ℕ) → IsKept w → IsWitness w.cursor.problem w.places w.serves.items number place →
    IsTrue (is_point (problem_at w.cursor.problem w.cursor.path) (point_at w.places.points place)) × IsTrue (is_in_need (need_at w.cursor.problem number) (point_at w.places.points place))
served_point w number place kept served = (kept.pooled.live place served.fit.live, served.fit.in_need)

-- a need that is served has a point
pub served_has : (w : Pool) (number place : ℕ) → IsKept w → IsWitness w.cursor.problem w.places w.serves.items number place →
    HasPoint (problem_at w.cursor.problem w.cursor.path) (need_at w.cursor.problem number)
served_has w number place kept served =
    let both = served_point w number place kept served in
    (point_at w.places.points place, both.0, both.1)

-- before the least of those that wait each need has a point
pub earlier_have : (w : Pool) (number : ℕ) → IsPool w → number < need_count w.cursor.problem → ((other : ℕ) → Contains w.waiting other → number ≤ other) → (other : ℕ) → other < number →
    IsNeeded w other → HasPoint (problem_at w.cursor.problem w.cursor.path) (need_at w.cursor.problem other)
earlier_have w number is within least other before needed = elim (is.watched other (omega arith) needed) [
  | inl waits ↦ let no : number ≤ other = least other waits in absurd (omega arith)
  | inr served ↦ served_has w other (get_or w.witness.items other 0) is.kept served
]

-- a new pool
pub pool_new : PositionsNarrow → (w : Pool) → w.cursor.path ≡ [] → w.places.concepts ≡ concept_count w.cursor.problem →
    ((place : ℕ) → has_bit w.places.live place ≡ true → IsTrue (is_point w.cursor.problem (point_at w.places.points place))) → All (λ bits. IsTrue (meets_trees w.cursor.problem bits)) w.places.points →
    length w.serves.items ≡ length w.places.points → length w.witness.items ≡ need_count w.cursor.problem → length w.slots.items ≡ need_count w.cursor.problem → w.marks.items ≡ [] →
    ((number : ℕ) → number < need_count w.cursor.problem → IsNeeded w number → Contains w.waiting number) → IsPool w
pool_new law w start concepts live trees lists numbered slotted none all = record {
  kept = record {
    pooled = record {
      concepts = concepts;
      trees = trees;
      live = λ place on.
          let same : problem_at w.cursor.problem w.cursor.path ≡ w.cursor.problem = ap (problem_at w.cursor.problem) start ∙ law.at_start w.cursor.problem in
          subst (λ q. IsTrue (is_point q (point_at w.places.points place))) (sym same) (live place on);
      sound = λ n k low marked after within. absurd (omega (arith, marked, ap length none));
    };
    counted = lists;
    numbered = numbered;
    slotted = slotted;
  };
  marked = omega (arith, ap length none);
  watched = λ number within needed. inl (all number within needed);
}

-- parts that are set up for a problem make a pool of it
pub pool_made : PositionsNarrow → (w : Pool) (p : Problem) → w.cursor ≡ record { problem = p; path = [] } → w.places.concepts ≡ concept_count p →
    ((place : ℕ) → has_bit w.places.live place ≡ true → IsTrue (is_point p (point_at w.places.points place))) → All (λ bits. IsTrue (meets_trees p bits)) w.places.points →
    length w.serves.items ≡ length w.places.points → length w.witness.items ≡ need_count p → length w.slots.items ≡ need_count p → w.marks.items ≡ [] →
    ((number : ℕ) → number < need_count p → is_needed (problem_at p []) number ≡ true → Contains w.waiting number) → IsPool w
pool_made law w p same concepts live trees lists numbered slotted none all =
    let back = sym same in
    pool_new law w (ap (λ s. s.path) same) (subst (λ s. w.places.concepts ≡ concept_count s.problem) back concepts)
    (subst (λ s. (place : ℕ) → has_bit w.places.live place ≡ true → IsTrue (is_point s.problem (point_at w.places.points place))) back live)
    (subst (λ s. All (λ bits. IsTrue (meets_trees s.problem bits)) w.places.points) back trees) lists (subst (λ s. length w.witness.items ≡ need_count s.problem) back numbered)
    (subst (λ s. length w.slots.items ≡ need_count s.problem) back slotted) none
    (subst (λ s. (number : ℕ) → number < need_count s.problem → is_needed (problem_at s.problem s.path) number ≡ true → Contains w.waiting number) back all)

-- the rules of the trees are those of the shape
pub trees_move : (p q : Problem) (points : List (List Bool)) → shape_of p ≡ shape_of q → All (λ bits. IsTrue (meets_trees p bits)) points → All (λ bits. IsTrue (meets_trees q bits)) points
trees_move p q points same h = λ k d small. sym (ap (λ s. meets_trees s (get_or points k d)) same) ∙ h k d small
