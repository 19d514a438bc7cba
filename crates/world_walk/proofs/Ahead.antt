-- How a path goes on: to a longer one, or to one that turns off later.
use Rattle.std.proofs.Common.{◌≡◌, ℕ, ◌<◌, ◌≤◌, ◌+◌, Bool, true, false, ◌⊎◌, inl, inr, List, [], ◌∷◌, ◌++◌, take, drop, length, length-append, append_assoc, append-nil, refl, sym, ap, ◌∙◌, subst, arith}
use Rattle.std.specs.Prelude.{IsTrue, Some, None}
use Rattle.std.proofs.lemmas.Bool.{true≢false, not-true, not_from_false, cases_order, cases_lt}
use Rattle.std.proofs.lemmas.List.{take-append-le, get_or_append_left, get_or-take}
use Rattle.std.proofs.Math.Seq.{take-append_seam, get_or-append_seam}
use Rattle.rcc5_core.specs.declared.Rel.{Rel}
use Rattle.rcc5_core.specs.declared.Rel.TheVariants.{Equals}
use Rattle.rcc5_core.specs.declared.RelSet.{RelSet}
use Rattle.rcc5_core.specs.Relation.{rank_of}
use Rattle.rcc5_core.specs.RelationSet.{has, no_rels, next_of}
use Rattle.world_model.specs.Problem.{Problem}
use Rattle.world_model.specs.Family.{IsPossibleWorld}
use Rattle.world_model.specs.Listing.{is_below, rel_at, Begins}
use Rattle.world_model.specs.Alive.{problem_at, IsAlive}
use Rattle.world_model.proofs.OrderPositions.{below_apart, below_longer, below_branch, below_chain}
use Rattle.world_model.proofs.PointPositions.{world_is_alive, prefix_is_alive}
use Rattle.world_walk.specs.declared.way.Level.{Level}
use Rattle.world_walk.specs.Ahead.{level_at, Leaves, Branches, AreLevels, IsAhead}
use Rattle.world_walk.proofs.Paths.{cut_at, turned, turned_length, turned_take, turned_before, turned_there, turned_below, upto_prefix, upto_longer}
use Rattle.world_model.proofs.Relations.{same_rank, next_is_in, next_is_least, none_is_next}

-- a branch of a path is one of its lengthening
pub branch_longer : (m on : List Rel) (levels more : List Level) → AreLevels m levels → (t : List Rel) → Branches m levels t → Branches (m ++ on) (levels ++ more) t
branch_longer m on levels more are t b =
    let i = b.number in
    let level : level_at (levels ++ more) i ≡ level_at levels i = get_or_append_left levels more (record { depth = 0; set = no_rels }) i b.among in
    let within = are.within i b.among in
    let l = b.leaves in
    let d = (level_at levels i).depth in
    let there_is : rel_at (m ++ on) d ≡ rel_at m d = get_or_append_left m on Equals d within in
    let above : take d (m ++ on) ≡ take d m = take-append-le d m on (omega arith) in
    record {
      number = i;
      among = omega (arith, b.among, length-append levels more);
      leaves = subst (λ (x : Level). Leaves (m ++ on) x.depth x.set t) (sym level) (record {
        rel = l.rel;
        by_set = l.by_set;
        later = subst (λ x. rank_of x < rank_of l.rel) (sym there_is) l.later;
        rest = l.rest;
        goes = l.goes ∙ ap (λ xs. xs ++ l.rel ∷ l.rest) (sym above);
      });
    }

-- a branch comes behind the path
pub branch_below : (m : List Rel) (levels : List Level) → AreLevels m levels → (t : List Rel) → Branches m levels t → IsTrue (is_below m t)
branch_below m levels are t b =
    let l = b.leaves in
    let d = (level_at levels b.number).depth in
    subst (λ x. IsTrue (is_below m x)) (sym l.goes) (turned_below m d l.rel l.rest (are.within b.number b.among) l.later)

-- the levels of a lengthening, where one more is put at its end or none
pub levels_longer : (m on : List Rel) (levels : List Level) → AreLevels m levels → AreLevels (m ++ on) levels
levels_longer m on levels are = record {
  deeper = are.deeper;
  within = λ i h. let w = are.within i h in omega (arith, w, length-append m on);
}

pub levels_pushed : (m : List Rel) (r : Rel) (levels : List Level) (set : RelSet) → AreLevels m levels → AreLevels (m ++ r ∷ []) (levels ++ record { depth = length m; set = set } ∷ [])
levels_pushed m r levels set are = record {
  deeper = λ i j less h. elim (cases_lt j (length levels)) [
    | inl old ↦
        let a = kept i (omega arith) in
        let b = kept j old in
        let d = are.deeper i j less old in
        subst (λ (x : Level). x.depth < (level_at all j).depth) (sym a) (subst (λ (x : Level). (level_at levels i).depth < x.depth) (sym b) d)
    | inr new ↦
        let last = at_end j (omega (arith, h, length-append levels (level ∷ []))) in
        let a = kept i (omega (arith, h, length-append levels (level ∷ []))) in
        let w = are.within i (omega (arith, h, length-append levels (level ∷ []))) in
        subst (λ (x : Level). x.depth < (level_at all j).depth) (sym a) (subst (λ (x : Level). (level_at levels i).depth < x.depth) (sym last) w)
  ];
  within = λ i h. elim (cases_lt i (length levels)) [
    | inl old ↦ let w = are.within i old in subst (λ (x : Level). x.depth < length (m ++ r ∷ [])) (sym (kept i old)) (omega (arith, w, length-append m (r ∷ [])))
    | inr new ↦ subst (λ (x : Level). x.depth < length (m ++ r ∷ [])) (sym (at_end i (omega (arith, h, length-append levels (level ∷ []))))) (omega (arith, length-append m (r ∷ [])))
  ];
}
  where
    level : Level
    level = record { depth = length m; set = set }

    all : List Level
    all = levels ++ level ∷ []

    kept : (i : ℕ) → i < length levels → level_at all i ≡ level_at levels i
    kept i h = get_or_append_left levels (level ∷ []) (record { depth = 0; set = no_rels }) i h

    at_end : (i : ℕ) → i ≡ length levels → level_at all i ≡ level
    at_end i same = ap (λ k. level_at all k) same ∙ get_or-append_seam levels level [] (record { depth = 0; set = no_rels })

-- a world that begins with an alive path goes on by one of the relations that lead on
begins_by : (p : Problem) (m : List Rel) (r : Rel) (set : RelSet) → ((x : Rel) → IsAlive (problem_at p (m ++ x ∷ [])) → has set x ≡ true) →
    (levels : List Level) → ((x : Rel) → has set x ≡ true → rank_of r < rank_of x → (t rest : List Rel) → t ≡ m ++ x ∷ rest → Branches (m ++ r ∷ []) levels t) →
    (t : List Rel) → IsPossibleWorld p t → is_below t (m ++ r ∷ []) ≡ false → Begins m t → Begins (m ++ r ∷ []) t ⊎ Branches (m ++ r ∷ []) levels t
begins_by p m r set leads levels later t world upto b = by b.0 b.1
  where
    by : (rest : List Rel) → t ≡ m ++ rest → Begins (m ++ r ∷ []) t ⊎ Branches (m ++ r ∷ []) levels t
    by [] same =
        let is_path : t ≡ m = same ∙ append-nil m in
        absurd (true≢false (sym (below_longer m r []) ∙ ap (λ x. is_below x (m ++ r ∷ [])) (sym is_path) ∙ upto))
    by (x ∷ rest) same =
        let whole : t ≡ (m ++ x ∷ []) ++ rest = same ∙ sym (append_assoc m (x ∷ []) rest) in
        let alive : IsAlive (problem_at p (m ++ x ∷ [])) =
        prefix_is_alive p (m ++ x ∷ []) rest (subst (λ y. IsAlive (problem_at p y)) whole (world_is_alive p t world)) in
        let there_is = leads x alive in
        elim (cases_order (rank_of r) (rank_of x)) [
          | inl one ↦ inl (rest, whole ∙ ap (λ y. (m ++ y ∷ []) ++ rest) (sym (same_rank r x one)))
          | inr (inl less) ↦ inr (later x there_is less t rest same)
          | inr (inr more) ↦ absurd (true≢false (sym (below_branch m x r rest [] more) ∙ ap (λ y. is_below y (m ++ r ∷ [])) (sym same) ∙ upto))
        ]

-- one relation further, where no other is left
pub goes_in : (p : Problem) (m : List Rel) (levels : List Level) (set : RelSet) (r : Rel) → IsAhead p m levels →
    ((x : Rel) → IsAlive (problem_at p (m ++ x ∷ [])) → has set x ≡ true) → next_of set r ≡ None → IsAhead p (m ++ r ∷ []) levels
goes_in p m levels set r ahead leads last = record {
  levels_are = levels_longer m (r ∷ []) levels ahead.levels_are;
  all = λ t world h.
      let upto = not-true (is_below t (m ++ r ∷ [])) h in
      elim (ahead.all t world (not_from_false (is_below t m) (upto_longer m t (r ∷ []) upto))) [
        | inl begins ↦ begins_by p m r set leads levels (λ x there_is less t rest same. absurd (none_is_next set r x last there_is less)) t world upto begins
        | inr branch ↦ inr (subst (λ ls. Branches (m ++ r ∷ []) ls t) (append-nil levels) (branch_longer m (r ∷ []) levels [] ahead.levels_are t branch))
      ];
}

-- and where others are left, which are kept at a level
pub goes_in_with : (p : Problem) (m : List Rel) (levels : List Level) (set : RelSet) (r : Rel) → IsAhead p m levels →
    ((x : Rel) → IsAlive (problem_at p (m ++ x ∷ [])) → has set x ≡ true) → IsAhead p (m ++ r ∷ []) (levels ++ record { depth = length m; set = set } ∷ [])
goes_in_with p m levels set r ahead leads = record {
  levels_are = levels_pushed m r levels set ahead.levels_are;
  all = λ t world h.
      let upto = not-true (is_below t (m ++ r ∷ [])) h in
      elim (ahead.all t world (not_from_false (is_below t m) (upto_longer m t (r ∷ []) upto))) [
        | inl begins ↦ begins_by p m r set leads (levels ++ level ∷ []) new t world upto begins
        | inr branch ↦ inr (branch_longer m (r ∷ []) levels (level ∷ []) ahead.levels_are t branch)
      ];
}
  where
    level : Level
    level = record { depth = length m; set = set }

    at_end : level_at (levels ++ level ∷ []) (length levels) ≡ level
    at_end = get_or-append_seam levels level [] (record { depth = 0; set = no_rels })

    new : (x : Rel) → has set x ≡ true → rank_of r < rank_of x → (t rest : List Rel) → t ≡ m ++ x ∷ rest → Branches (m ++ r ∷ []) (levels ++ level ∷ []) t
    new x there_is less t rest same = record {
      number = length levels;
      among = omega (arith, length-append levels (level ∷ []));
      leaves = subst (λ (y : Level). Leaves (m ++ r ∷ []) y.depth y.set t) (sym at_end) (record {
        rel = x;
        by_set = there_is;
        later = subst (λ y. rank_of y < rank_of x) (sym (get_or-append_seam m r [] Equals)) less;
        rest = rest;
        goes = same ∙ ap (λ xs. xs ++ x ∷ rest) (sym (take-append_seam m (r ∷ [])));
      });
    }

-- the last level is dropped where no world leaves the path
pub drops_dead : (p : Problem) (m : List Rel) (levels : List Level) (k : ℕ) → length levels ≡ k + 1 → IsAhead p m levels →
    ((t : List Rel) → IsPossibleWorld p t → Leaves m (level_at levels k).depth (level_at levels k).set t → ⊥) → IsAhead p m (take k levels)
drops_dead p m levels k sized ahead none = record {
  levels_are = record {
    deeper = λ i j less h.
        let small : j < k = shorter j h in
        let d = ahead.levels_are.deeper i j less (omega arith) in
        subst (λ (x : Level). x.depth < (level_at (take k levels) j).depth) (sym (kept i (omega arith))) (subst (λ (x : Level). (level_at levels i).depth < x.depth) (sym (kept j small)) d);
    within = λ i h.
        let small : i < k = shorter i h in
        subst (λ (x : Level). x.depth < length m) (sym (kept i small)) (ahead.levels_are.within i (omega arith));
  };
  all = λ t world h. elim (ahead.all t world h) [
    | inl begins ↦ inl begins
    | inr branch ↦ inr (still t world branch (cases_lt branch.number k))
  ];
}
  where
    kept : (i : ℕ) → i < k → level_at (take k levels) i ≡ level_at levels i
    kept i h = get_or-take k levels i (record { depth = 0; set = no_rels }) h

    shorter : (j : ℕ) → j < length (take k levels) → j < k
    shorter j h = omega (arith, Rattle.std.proofs.lemmas.List.length-take-le k levels (omega arith))

    still : (t : List Rel) → IsPossibleWorld p t → (b : Branches m levels t) → (b.number < k) ⊎ (k ≤ b.number) → Branches m (take k levels) t
    still t world b (inl small) = record {
      number = b.number;
      among = omega (arith, Rattle.std.proofs.lemmas.List.length-take-le k levels (omega arith));
      leaves = subst (λ (x : Level). Leaves m x.depth x.set t) (sym (kept b.number small)) b.leaves;
    }
    still t world b (inr big) =
        let last : b.number ≡ k = omega (arith, b.among) in
        absurd (none t world (subst (λ i. Leaves m (level_at levels i).depth (level_at levels i).set t) last b.leaves))

-- as it is where no relation is left there
pub drops_last : (p : Problem) (m : List Rel) (levels : List Level) (k : ℕ) → length levels ≡ k + 1 → IsAhead p m levels →
    next_of (level_at levels k).set (rel_at m (level_at levels k).depth) ≡ None → IsAhead p m (take k levels)
drops_last p m levels k sized ahead none = drops_dead p m levels k sized ahead (λ t world l. none_is_next (level_at levels k).set (rel_at m (level_at levels k).depth) l.rel none l.by_set l.later)

-- the path turns off at its last level by the next relation that is left there
pub turns_off : (p : Problem) (m : List Rel) (levels : List Level) (k d : ℕ) (r : Rel) → length levels ≡ k + 1 → d ≡ (level_at levels k).depth → IsAhead p m levels →
    next_of (level_at levels k).set (rel_at m d) ≡ Some r → IsAhead p (turned m d r) levels
turns_off p m levels k d r sized depth ahead next = record {
  levels_are = record {
    deeper = ahead.levels_are.deeper;
    within = λ i h. upto_last i h (cases_lt i k);
  };
  all = λ t world h. turn t world (not-true (is_below t (turned m d r)) h);
}
  where
    within : d < length m
    within = subst (λ n. n < length m) (sym depth) (ahead.levels_are.within k (omega arith))

    next_in : (has (level_at levels k).set r ≡ true) × (rank_of (rel_at m d) < rank_of r)
    next_in = next_is_in (level_at levels k).set (rel_at m d) r next

    upto_last : (i : ℕ) → i < length levels → (i < k) ⊎ (k ≤ i) → (level_at levels i).depth < length (turned m d r)
    upto_last i h (inl small) = let less = ahead.levels_are.deeper i k small (omega arith) in omega (arith, less, depth, turned_length m d r within)
    upto_last i h (inr big) =
        let last : i ≡ k = omega arith in
        subst (λ j. (level_at levels j).depth < length (turned m d r)) (sym last) (omega (arith, depth, turned_length m d r within))

    moved : (t : List Rel) (b : Branches m levels t) → is_below t (turned m d r) ≡ false → (b.number < k) ⊎ (k ≤ b.number) → Begins (turned m d r) t ⊎ Branches (turned m d r) levels t
    moved t b upto (inl small) =
        let l = b.leaves in
        let e = (level_at levels b.number).depth in
        let less : e < d = subst (λ n. e < n) (sym depth) (ahead.levels_are.deeper b.number k small (omega arith)) in
        inr (record {
          number = b.number;
          among = b.among;
          leaves = record {
            rel = l.rel;
            by_set = l.by_set;
            later = subst (λ y. rank_of y < rank_of l.rel) (sym (turned_before m d e r within less)) l.later;
            rest = l.rest;
            goes = l.goes ∙ ap (λ xs. xs ++ l.rel ∷ l.rest) (sym (turned_take m d e r within (omega arith)));
          };
        })
    moved t b upto (inr big) =
        let last : b.number ≡ k = omega (arith, b.among) in
        let l = subst (λ n. Leaves m n (level_at levels k).set t) (sym depth) (subst (λ i. Leaves m (level_at levels i).depth (level_at levels i).set t) last b.leaves) in
        elim (cases_order (rank_of r) (rank_of l.rel)) [
          | inl one ↦ inl (l.rest, l.goes ∙ sym (append_assoc (take d m) (l.rel ∷ []) l.rest) ∙ ap (λ y. (take d m ++ y ∷ []) ++ l.rest) (sym (same_rank r l.rel one)))
          | inr (inl less) ↦ inr (record {
            number = k;
            among = omega arith;
            leaves = subst (λ n. Leaves (turned m d r) n (level_at levels k).set t) depth (record {
              rel = l.rel;
              by_set = l.by_set;
              later = subst (λ y. rank_of y < rank_of l.rel) (sym (turned_there m d r within)) less;
              rest = l.rest;
              goes = l.goes ∙ ap (λ xs. xs ++ l.rel ∷ l.rest) (sym (turned_take m d d r within (omega arith)));
            });
          })
          | inr (inr more) ↦ let least = next_is_least (level_at levels k).set (rel_at m d) r l.rel next l.by_set l.later in absurd (omega arith)
        ]

    turn : (t : List Rel) → IsPossibleWorld p t → is_below t (turned m d r) ≡ false → Begins (turned m d r) t ⊎ Branches (turned m d r) levels t
    turn t world upto =
        let low : is_below t m ≡ false = earlier t upto in
        elim (ahead.all t world (not_from_false (is_below t m) low)) [
          | inl begins ↦
              let path : t ≡ take d m ++ rel_at m d ∷ (drop (d + 1) m ++ begins.0) =
              begins.1 ∙ ap (λ xs. xs ++ begins.0) (cut_at m d within) ∙ append_assoc (take d m) (rel_at m d ∷ drop (d + 1) m) begins.0 in
              absurd (true≢false (sym (below_branch (take d m) (rel_at m d) r (drop (d + 1) m ++ begins.0) [] next_in.1) ∙ ap (λ x. is_below x (turned m d r)) (sym path) ∙ upto))
          | inr branch ↦ moved t branch upto (cases_lt branch.number k)
        ]
      where
        earlier : (t : List Rel) → is_below t (turned m d r) ≡ false → is_below t m ≡ false
        earlier t upto = by (is_below t m) refl
          where
            by : (b : Bool) → is_below t m ≡ b → is_below t m ≡ false
            by true e = absurd (true≢false (sym (below_chain t m (turned m d r) e (turned_below m d r [] within next_in.1)) ∙ upto))
            by false e = e

-- and only worlds that begin with the path stand between the two
pub only_begun : (p : Problem) (m : List Rel) (levels : List Level) (k d : ℕ) (r : Rel) → length levels ≡ k + 1 → d ≡ (level_at levels k).depth → IsAhead p m levels →
    next_of (level_at levels k).set (rel_at m d) ≡ Some r → (t : List Rel) → IsPossibleWorld p t → is_below t m ≡ false → is_below t (turned m d r) ≡ true → Begins m t
only_begun p m levels k d r sized depth ahead next t world upto before = elim (ahead.all t world (not_from_false (is_below t m) upto)) [
  | inl begins ↦ begins
  | inr branch ↦ absurd (late branch (cases_lt branch.number k))
]
  where
    within : d < length m
    within = subst (λ n. n < length m) (sym depth) (ahead.levels_are.within k (omega arith))

    late : (b : Branches m levels t) → (b.number < k) ⊎ (k ≤ b.number) → ⊥
    late b (inl small) =
        let l = b.leaves in
        let e = (level_at levels b.number).depth in
        let less : e < d = subst (λ n. e < n) (sym depth) (ahead.levels_are.deeper b.number k small (omega arith)) in
        let behind = turned_below (turned m d r) e l.rel l.rest (omega (arith, turned_length m d r within))
        (subst (λ y. rank_of y < rank_of l.rel) (sym (turned_before m d e r within less)) l.later) in
        let same : t ≡ take e (turned m d r) ++ l.rel ∷ l.rest = l.goes ∙ ap (λ xs. xs ++ l.rel ∷ l.rest) (sym (turned_take m d e r within (omega arith))) in
        true≢false (sym before ∙ below_apart (turned m d r) t (subst (λ x. IsTrue (is_below (turned m d r) x)) (sym same) behind))
    late b (inr big) =
        let last : b.number ≡ k = omega (arith, b.among) in
        let l = subst (λ n. Leaves m n (level_at levels k).set t) (sym depth) (subst (λ i. Leaves m (level_at levels i).depth (level_at levels i).set t) last b.leaves) in
        let least = next_is_least (level_at levels k).set (rel_at m d) r l.rel next l.by_set l.later in
        elim (cases_order (rank_of r) (rank_of l.rel)) [
          | inl one ↦
              let same : t ≡ turned m d r ++ l.rest = l.goes ∙ sym (append_assoc (take d m) (l.rel ∷ []) l.rest) ∙ ap (λ y. (take d m ++ y ∷ []) ++ l.rest) (sym (same_rank r l.rel one)) in
              true≢false (sym before ∙ ap (λ x. is_below x (turned m d r)) same ∙ upto_prefix (turned m d r) l.rest)
          | inr (inl less) ↦ true≢false (sym before ∙ ap (λ x. is_below x (turned m d r)) l.goes ∙ below_apart (turned m d r) (take d m ++ l.rel ∷ l.rest) (below_branch (take d m) r l.rel [] l.rest less))
          | inr (inr more) ↦ omega arith
        ]
