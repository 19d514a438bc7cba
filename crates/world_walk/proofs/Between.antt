-- Which worlds stand between a path and the place where it goes on.
use Rattle.std.proofs.Common.{◌≡◌, ◌<◌, ◌≤◌, true, false, inl, inr, List, [], ◌∷◌, ◌++◌, length, length-append, append_assoc, append-nil, refl, sym, ap, ◌∙◌, subst, arith}
use Rattle.std.specs.Prelude.{Some, None, Option}
use Rattle.std.proofs.lemmas.Bool.{true≢false, not-true, not_from_false, cases_order}
use Rattle.rcc5_core.specs.declared.Rel.{Rel}
use Rattle.rcc5_core.specs.declared.RelSet.{RelSet}
use Rattle.rcc5_core.specs.Relation.{rank_of}
use Rattle.rcc5_core.specs.RelationSet.{has, first_of, next_of}
use Rattle.world_model.specs.Problem.{Problem, pair_count}
use Rattle.world_model.specs.Family.{IsPossibleWorld}
use Rattle.world_model.specs.Listing.{is_below, is_before_end, IsListing, Begins}
use Rattle.world_model.specs.Alive.{problem_at, IsAlive}
use Rattle.world_model.proofs.Members.{In, here, there}
use Rattle.world_model.proofs.OrderPositions.{below_itself, below_apart, below_branch}
use Rattle.world_model.proofs.OrderLists.{IsExactly, Between, members_from, between_parts, between_from}
use Rattle.world_model.proofs.PointPositions.{world_is_full, world_is_alive, prefix_is_alive}
use Rattle.world_walk.specs.declared.way.Level.{Level}
use Rattle.world_walk.specs.Ahead.{IsOnward, ListsBetween, IsPast, Branches, AreLevels, IsAhead}
use Rattle.world_walk.proofs.Paths.{upto_prefix, upto_longer}
use Rattle.world_model.proofs.Relations.{same_rank, first_is_least, next_is_in, next_is_least, none_is_next, some_has_first_of}
use Rattle.world_walk.proofs.Ahead.{branch_longer, branch_below, levels_longer}

-- a list that is exactly the worlds between two places
pub listing_of : (p : Problem) (one : List Rel) (other : Option (List Rel)) (ws : List (List Rel)) → IsExactly (Between (IsPossibleWorld p) one other) ws → IsListing p one other ws
listing_of p one other ws e = record { ascending = e.ascending; members = members_from (Between (IsPossibleWorld p) one other) ws e }

-- a place behind a position is onward from it
pub onward_of : (one : List Rel) (other : Option (List Rel)) → is_before_end one other ≡ true → IsOnward one other
onward_of one None before = tt
onward_of one (Some end) before = not_from_false (is_below end one) (below_apart one end before)

none_in : {G : Type 0} {t : List Rel} → In t [] → G
none_in i = elim i [ ]

-- no world
pub none_listed : (p : Problem) (one : List Rel) (other : Option (List Rel)) → ((t : List Rel) → IsPossibleWorld p t → is_below t one ≡ false → is_before_end t other ≡ true → ⊥) → IsListing p one other []
none_listed p one other none = listing_of p one other [] (record {
  ascending = refl;
  sound = λ t i. none_in i;
  complete = λ t w. let parts = between_parts one other t w.1 in absurd (none t w.0 parts.0 parts.1);
})

-- the one world that a place is
pub one_listed : (p : Problem) (one : List Rel) (other : Option (List Rel)) → IsPossibleWorld p one → is_before_end one other ≡ true →
    ((t : List Rel) → IsPossibleWorld p t → is_below t one ≡ false → is_before_end t other ≡ true → t ≡ one) → IsListing p one other (one ∷ [])
one_listed p one other world before only = listing_of p one other (one ∷ []) (record {
  ascending = refl;
  sound = λ t i. elim i [
    | here same ↦ subst (λ x. Between (IsPossibleWorld p) one other x) (sym same) (world, between_from one other one (below_itself one) before)
    | there j ↦ none_in j
  ];
  complete = λ t w. let parts = between_parts one other t w.1 in here (only t w.0 parts.0 parts.1);
})

-- a branch of a path comes behind all that begin with a lengthening of it
branch_past : (m on : List Rel) (levels : List Level) → AreLevels m levels → (t : List Rel) → Branches m levels t → is_below t (m ++ on) ≡ true → ⊥
branch_past m on levels are t branch before =
    let longer = branch_longer m on levels [] are t branch in
    let behind = branch_below (m ++ on) (levels ++ []) (subst (λ ls. AreLevels (m ++ on) ls) (sym (append-nil levels)) (levels_longer m on levels are)) t longer in
    true≢false (sym before ∙ below_apart (m ++ on) t behind)

-- a world that begins with a path that is not full goes on by a relation of those that lead on
next_rel : (p : Problem) (m : List Rel) (set : RelSet) → ((x : Rel) → IsAlive (problem_at p (m ++ x ∷ [])) → has set x ≡ true) → length m < pair_count p →
    (t : List Rel) → IsPossibleWorld p t → Begins m t → (x : Rel) × (rest : List Rel) × (t ≡ m ++ x ∷ rest) × (has set x ≡ true)
next_rel p m set leads short t world b = by b.0 b.1
  where
    by : (rest : List Rel) → t ≡ m ++ rest → (x : Rel) × (rest : List Rel) × (t ≡ m ++ x ∷ rest) × (has set x ≡ true)
    by [] same = let full = world_is_full p t world in absurd (omega (arith, full, short, ap length (same ∙ append-nil m)))
    by (x ∷ rest) same =
        let whole : t ≡ (m ++ x ∷ []) ++ rest = same ∙ sym (append_assoc m (x ∷ []) rest) in
        (x, rest, same, leads x (prefix_is_alive p (m ++ x ∷ []) rest (subst (λ y. IsAlive (problem_at p y)) whole (world_is_alive p t world))))

-- no world stands between a path that is not full and its lengthening by a relation, but those that go on by an earlier one
none_before : (p : Problem) (m : List Rel) (levels : List Level) (set : RelSet) (r : Rel) → IsAhead p m levels → ((x : Rel) → IsAlive (problem_at p (m ++ x ∷ [])) → has set x ≡ true) → length m < pair_count p →
    (t : List Rel) → IsPossibleWorld p t → is_below t m ≡ false → ((x : Rel) (rest : List Rel) → t ≡ m ++ x ∷ rest → has set x ≡ true → rank_of r ≤ rank_of x) → is_below t (m ++ r ∷ []) ≡ true → ⊥
none_before p m levels set r ahead leads short t world upto later before = elim (ahead.all t world (not_from_false (is_below t m) upto)) [
  | inl begins ↦ begun (next_rel p m set leads short t world begins)
  | inr branch ↦ branch_past m (r ∷ []) levels ahead.levels_are t branch before
]
  where
    begun : (x : Rel) × (rest : List Rel) × (t ≡ m ++ x ∷ rest) × (has set x ≡ true) → ⊥
    begun (x, rest, same, there_is) = elim (cases_order (rank_of r) (rank_of x)) [
      | inl one ↦
          true≢false (sym before ∙ ap (λ y. is_below y (m ++ r ∷ [])) (same ∙ sym (append_assoc m (x ∷ []) rest) ∙ ap (λ y. (m ++ y ∷ []) ++ rest) (sym (same_rank r x one))) ∙ upto_prefix (m ++ r ∷ []) rest)
      | inr (inl less) ↦ true≢false (sym before ∙ ap (λ y. is_below y (m ++ r ∷ [])) same ∙ below_apart (m ++ r ∷ []) (m ++ x ∷ rest) (below_branch m r x [] rest less))
      | inr (inr more) ↦ let least = later x rest same there_is in omega arith
    ]

-- nothing stands between a path that is not full and its lengthening by the first relation that leads on
pub none_inside : (p : Problem) (m : List Rel) (levels : List Level) (set : RelSet) (r : Rel) → IsAhead p m levels →
    ((x : Rel) → IsAlive (problem_at p (m ++ x ∷ [])) → has set x ≡ true) → first_of set ≡ Some r → length m < pair_count p → ListsBetween p m (Some (m ++ r ∷ [])) []
none_inside p m levels set r ahead leads first short = record {
  onward = not_from_false (is_below (m ++ r ∷ []) m) (upto_prefix m (r ∷ []));
  exactly = none_listed p m (Some (m ++ r ∷ [])) (λ t world upto before.
      none_before p m levels set r ahead leads short t world upto (λ x rest same there_is. first_is_least set r x first there_is) before);
}

-- a world that is not below a position goes on from a prefix of it by no earlier relation than the position, nor by one that does not lead on
goes_later : (set : RelSet) (m rest : List Rel) (r : Rel) → has set r ≡ false → (t : List Rel) → is_below t (m ++ r ∷ rest) ≡ false → (x : Rel) (end : List Rel) → t ≡ m ++ x ∷ end → has set x ≡ true → rank_of r < rank_of x
goes_later set m rest r none t upto x end same there_is = elim (cases_order (rank_of r) (rank_of x)) [
  | inl one ↦ absurd (true≢false (sym there_is ∙ ap (has set) (sym (same_rank r x one)) ∙ none))
  | inr (inl less) ↦ less
  | inr (inr more) ↦ absurd (true≢false (sym (below_branch m x r end rest more) ∙ ap (λ y. is_below y (m ++ r ∷ rest)) (sym same) ∙ upto))
]

-- nothing stands between a position that leaves a path by a relation that does not lead on and the next one that does
pub none_turned : (p : Problem) (m : List Rel) (levels : List Level) (set : RelSet) (r next : Rel) (rest : List Rel) → IsAhead p m levels →
    ((x : Rel) → IsAlive (problem_at p (m ++ x ∷ [])) → has set x ≡ true) → has set r ≡ false → next_of set r ≡ Some next → length m < pair_count p →
    ListsBetween p (m ++ r ∷ rest) (Some (m ++ next ∷ [])) []
none_turned p m levels set r next rest ahead leads none turn short = record {
  onward = not_from_false (is_below (m ++ next ∷ []) (m ++ r ∷ rest)) (below_apart (m ++ r ∷ rest) (m ++ next ∷ []) (below_branch m r next rest [] (next_is_in set r next turn).1));
  exactly = none_listed p (m ++ r ∷ rest) (Some (m ++ next ∷ [])) (λ t world upto before.
      none_before p m levels set next ahead leads short t world (upto_longer m t (r ∷ rest) upto)
      (λ x end same there_is. next_is_least set r next x turn there_is (goes_later set m rest r none t upto x end same there_is)) before);
}

-- nor behind it, where no later relation leads on, before a place past all that begin with the path
pub none_past : (p : Problem) (m : List Rel) (set : RelSet) (r : Rel) (rest : List Rel) (other : Option (List Rel)) → IsPast p m other →
    ((x : Rel) → IsAlive (problem_at p (m ++ x ∷ [])) → has set x ≡ true) → has set r ≡ false → next_of set r ≡ None → length m < pair_count p → ListsBetween p (m ++ r ∷ rest) other []
none_past p m set r rest other past leads none last short = record {
  onward = onward_of (m ++ r ∷ rest) other (past.before (m ++ r ∷ rest) (r ∷ rest, refl));
  exactly = none_listed p (m ++ r ∷ rest) other (λ t world upto before.
      let next = next_rel p m set leads short t world (past.only t world (not_from_false (is_below t m) (upto_longer m t (r ∷ rest) upto)) before) in
      none_is_next set r next.0 last next.3 (goes_later set m rest r none t upto next.0 next.1 next.2 next.3));
}

-- a path that goes on where each world that begins with it does
pub goes_along : (p : Problem) (m on : List Rel) (levels : List Level) → IsAhead p m levels → ((more : List Rel) → IsPossibleWorld p (m ++ more) → (last : List Rel) × (more ≡ on ++ last)) →
    IsAhead p (m ++ on) levels × ListsBetween p m (Some (m ++ on)) []
goes_along p m on levels ahead only = (
  record {
    levels_are = levels_longer m on levels ahead.levels_are;
    all = λ t world h.
        elim (ahead.all t world (not_from_false (is_below t m) (upto_longer m t on (not-true (is_below t (m ++ on)) h)))) [
          | inl begins ↦ inl (longer t world begins)
          | inr branch ↦ inr (subst (λ ls. Branches (m ++ on) ls t) (append-nil levels) (branch_longer m on levels [] ahead.levels_are t branch))
        ];
  },
  record {
    onward = not_from_false (is_below (m ++ on) m) (upto_prefix m on);
    exactly = none_listed p m (Some (m ++ on)) (λ t world upto before. elim (ahead.all t world (not_from_false (is_below t m) upto)) [
      | inl begins ↦ let b = longer t world begins in true≢false (sym before ∙ ap (λ x. is_below x (m ++ on)) b.1 ∙ upto_prefix (m ++ on) b.0)
      | inr branch ↦ branch_past m on levels ahead.levels_are t branch before
    ]);
  },
)
  where
    longer : (t : List Rel) → IsPossibleWorld p t → Begins m t → Begins (m ++ on) t
    longer t world b =
        let more = only b.0 (subst (IsPossibleWorld p) b.1 world) in
        (more.0, b.1 ∙ ap (λ xs. m ++ xs) more.1 ∙ sym (append_assoc m on more.0))

-- where nothing leads on, no world stands before a place past all that begin with the path
pub none_begun : (p : Problem) (m : List Rel) (set : RelSet) (other : Option (List Rel)) → IsPast p m other →
    ((x : Rel) → IsAlive (problem_at p (m ++ x ∷ [])) → has set x ≡ true) → first_of set ≡ None → length m < pair_count p → ListsBetween p m other []
none_begun p m set other past leads none short = record {
  onward = onward_of m other (past.before m ([], sym (append-nil m)));
  exactly = none_listed p m other (λ t world upto before.
      let next = next_rel p m set leads short t world (past.only t world (not_from_false (is_below t m) upto) before) in
      some_has_first_of set next.0 next.3 none);
}

-- a full path is the one world that begins with it
pub begins_full : (p : Problem) (m t : List Rel) → length m ≡ pair_count p → IsPossibleWorld p t → Begins m t → t ≡ m
begins_full p m t full world b = by b.0 b.1
  where
    by : (rest : List Rel) → t ≡ m ++ rest → t ≡ m
    by [] same = same ∙ append-nil m
    by (x ∷ rest) same = let long = world_is_full p t world in absurd (omega (arith, long, full, ap length same, length-append m (x ∷ rest)))

-- and it stands alone before a place past all that begin with it
pub one_begun : (p : Problem) (m : List Rel) (other : Option (List Rel)) → IsPast p m other → IsPossibleWorld p m → length m ≡ pair_count p → ListsBetween p m other (m ∷ [])
one_begun p m other past world full =
    let before = past.before m ([], sym (append-nil m)) in
    record {
      onward = onward_of m other before;
      exactly = one_listed p m other world before (λ t is upto ahead. begins_full p m t full is (past.only t is (not_from_false (is_below t m) upto) ahead));
    }
