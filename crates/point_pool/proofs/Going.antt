-- The first pair that a prefix leaves nothing.
use Rattle.std.proofs.Common.{◌≡◌, ℕ, ◌+◌, ◌<◌, ◌≤◌, true, false, not, List, [], ◌∷◌, ◌++◌, length, get_or, take, inl, inr, sym, ap, ◌∙◌, subst, arith}
use Rattle.std.specs.Prelude.{Option, Some, None, slice_get}
use Rattle.std.proofs.lemmas.Option.{get_or_from_slice_get}
use Rattle.std.proofs.lemmas.Bool.{cases_lt, true≢false}
use Rattle.std.proofs.lemmas.List.{get_or-take, take_more, get_or_default}
use Rattle.rcc5_core.specs.declared.Rel.{Rel}
use Rattle.rcc5_core.specs.declared.Rel.TheVariants.{Equals}
use Rattle.rcc5_core.specs.declared.RelSet.{RelSet}
use Rattle.rcc5_core.specs.RelationSet.{has, only, both_of, is_empty_set}
use Rattle.world_model.specs.Problem.{Problem, pairs, pair_count}
use Rattle.world_model.specs.Node.{pair_at}
use Rattle.world_model.specs.Alive.{allowed, problem_at}
use Rattle.world_model.specs.Laws.{PositionsNarrow}
use Rattle.world_model.proofs.Members.{all_at, In-get_or}
use Rattle.world_model.proofs.PointSets.{has_some}
use Rattle.point_pool.specs.Cursors.{IsFirstEmpty, IsOpen, IsEmptyPair}
use Rattle.point_pool.proofs.Cursors.{allowed_inside}
use Rattle.world_model.proofs.Narrowed.{only_some, none_common}
use Rattle.point_pool.proofs.Serving.{all_from_places}

-- a pair of an open prefix allows something
pub open_allows : PositionsNarrow → (p : Problem) (m : List Rel) (k : ℕ) → IsOpen p m → k < length m → not (is_empty_set (allowed (problem_at p m) (pair_at p k))) ≡ true
open_allows law p m k o h = ap (λ set. not (is_empty_set set)) (allowed_inside law p m k o h) ∙ ap not (only_some (get_or m k Equals))

-- so does each pair of an open prefix at a longer one, which need not be open
front_allows : PositionsNarrow → (p : Problem) (m front : List Rel) (k : ℕ) → front ≡ take (length front) m → length front ≤ length m → IsOpen p front → k < length front →
    not (is_empty_set (allowed (problem_at p m) (pair_at p k))) ≡ true
front_allows law p m front k same fits o h =
    let wide = o.within in
    let at : get_or front k Equals ≡ get_or m k Equals = ap (λ r. get_or r k Equals) same ∙ get_or-take (length front) m k Equals h in
    let one : allowed (problem_at p m) (pair_at p k) ≡ both_of (allowed p (pair_at p k)) (only (get_or m k Equals)) = law.inside p m k (omega arith) (omega arith) in
    let two : allowed (problem_at p front) (pair_at p k) ≡ both_of (allowed p (pair_at p k)) (only (get_or front k Equals)) = law.inside p front k h (omega arith) in
    let both : allowed (problem_at p m) (pair_at p k) ≡ allowed (problem_at p front) (pair_at p k) = one ∙ ap (λ r. both_of (allowed p (pair_at p k)) (only r)) (sym at) ∙ sym two in
    ap (λ set. not (is_empty_set set)) both ∙ open_allows law p front k o h

-- the pair of the first relation that the problem does not allow
pub first_refused : PositionsNarrow → (p : Problem) (m front : List Rel) (d : Rel) → front ≡ take (length front) m → length front < length m → length m ≤ pair_count p → IsOpen p front →
    has (allowed p (pair_at p (length front))) (get_or m (length front) d) ≡ false → IsFirstEmpty (problem_at p m) (length front)
first_refused law p m front d same short wide o refused =
    let k = length front in
    let default : get_or m k d ≡ get_or m k Equals = get_or_default m k d Equals short in
    let none = ap (has (allowed p (pair_at p k))) (sym default) ∙ refused in
    record {
      within = omega arith;
      empty = ap is_empty_set (law.inside p m k short (omega arith)) ∙ none_common (allowed p (pair_at p k)) (get_or m k Equals) none;
      first = λ j h. front_allows law p m front j same (omega arith) o h;
    }

-- with all relations allowed, the pairs that the problem alone leaves nothing are those that it leaves nothing at the prefix
pub empty_at_prefix : PositionsNarrow → (p : Problem) (m : List Rel) (found : Option ℕ) → IsOpen p m → IsEmptyPair p found → IsEmptyPair (problem_at p m) found
empty_at_prefix law p m None o allow =
    all_from_places (λ pair. not (is_empty_set (allowed (problem_at p m) pair))) (pairs p) (0, 0) (λ k h. elim (cases_lt k (length m)) [
      | inl inside ↦ open_allows law p m k o inside
      | inr past ↦ ap (λ set. not (is_empty_set set)) (law.beyond p m k past h) ∙ all_at (λ pair. not (is_empty_set (allowed p pair))) allow (In-get_or (pairs p) k (0, 0) h)
    ])
empty_at_prefix law p m (Some pair) o first = elim (cases_lt pair (length m)) [
  | inl inside ↦ absurd (true≢false (sym first.empty ∙ has_some (allowed p (pair_at p pair)) (get_or m pair Equals) (o.each pair inside)))
  | inr past ↦ record {
    within = first.within;
    empty = ap is_empty_set (law.beyond p m pair past first.within) ∙ first.empty;
    first = λ k h. elim (cases_lt k (length m)) [
      | inl before ↦ open_allows law p m k o before
      | inr beyond ↦ ap (λ set. not (is_empty_set set)) (law.beyond p m k beyond (omega (arith, first.within))) ∙ first.first k h
    ];
  }
]

-- a common front grows by a relation that stands in both
pub front_more : (m front : List Rel) (rel : Rel) (d : Rel) → front ≡ take (length front) m → length front < length m → rel ≡ get_or m (length front) d →
    front ++ rel ∷ [] ≡ take (length front + 1) m
front_more m front rel d same short is =
    ap (λ f. f ++ rel ∷ []) same ∙ ap (λ r. take (length front) m ++ r ∷ []) is ∙ sym (take_more m (length front) d short)

-- the relation at the next pair is refused, as the code tests it
pub refused_at : PositionsNarrow → (p q : Problem) (m front : List Rel) (rel : Rel) (set : RelSet) (pair : ℕ) → q ≡ p → pair ≡ length front → front ≡ take (length front) m →
    length front < length m → length m ≤ pair_count p → IsOpen q front → slice_get m pair ≡ Some rel → set ≡ allowed q (pair_at q pair) → has set rel ≡ false →
    IsFirstEmpty (problem_at p m) pair
refused_at law p q m front rel set pair same counted fits short wide o at is none =
    let there : get_or m pair rel ≡ rel = get_or_from_slice_get m pair rel rel at in
    let refused : has (allowed p (pair_at p (length front))) (get_or m (length front) rel) ≡ false =
    ap (λ k. has (allowed p (pair_at p k)) (get_or m k rel)) (sym counted) ∙ ap (has (allowed p (pair_at p pair))) there ∙
    ap (λ s. has s rel) (sym (is ∙ ap (λ x. allowed x (pair_at x pair)) same)) ∙ none in
    subst (λ k. IsFirstEmpty (problem_at p m) k) (sym counted) (first_refused law p m front rel fits short wide (subst (λ x. IsOpen x front) same o) refused)

-- or allowed
pub allowed_here : (p q : Problem) (rel : Rel) (set : RelSet) (pair n : ℕ) → q ≡ p → pair ≡ n → set ≡ allowed q (pair_at q pair) → has set rel ≡ true →
    has (allowed p (pair_at p n)) rel ≡ true
allowed_here p q rel set pair n same counted is held =
    ap (λ k. has (allowed p (pair_at p k)) rel) (sym counted) ∙ ap (λ s. has s rel) (sym (is ∙ ap (λ x. allowed x (pair_at x pair)) same)) ∙ held
