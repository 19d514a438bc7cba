-- Points that begin with some bits: what rules say of them, and how they are listed.
use Rattle.std.proofs.Common.{◌≡◌, ℕ, suc, ◌+◌, ◌<◌, Bool, true, false, ◌&&◌, ◌||◌, not, cond, List, [], ◌∷◌, ◌++◌, map, length, get_or, take, inl, inr, refl, sym, ap, ◌∙◌, subst, arith, append_assoc, append-nil}
use Rattle.std.specs.Prelude.{filter, ◌==◌, Result, IfOk}
use Rattle.std.proofs.Common.{Ok, Err}
use Rattle.std.proofs.lemmas.Bool.{and_parts, or_cases, true≢false, false_from_ne_true, eqb-true}
use Rattle.std.proofs.lemmas.List.{map-append, length-append, get_or-take, get_or_push, take-take, take-append-le, take_all}
use Rattle.std.proofs.lemmas.List.Elements.{filter-append}
use Rattle.world_model.specs.Problem.{Problem, concept_count}
use Rattle.world_model.specs.Alive.{bit_of, is_point}
use Rattle.world_model.specs.Trial.{bit_lists, points_by_trial}
use Rattle.world_model.proofs.Members.{In, In-get_or, from_filter}
use Rattle.world_model.proofs.PointRules.{structure_parts}
use Rattle.world_model.proofs.PointAlive.{point_parts}
use Rattle.bit_rows.specs.Rows.{has_bit, SomePlace, BitRows, bit_in, IsPushed, IsPut}
use Rattle.point_table.specs.declared.rules.Rules.{Rules}
use Rattle.point_table.specs.Growing.{points_below, NoneBegins, IsTried, AreRules}

-- what begins with one bit more begins without it, and has that bit
begins_before : (begin bits : List Bool) (bit : Bool) → take (length (begin ++ bit ∷ [])) bits ≡ begin ++ bit ∷ [] → take (length begin) bits ≡ begin
begins_before begin bits bit h =
    let longer : length (begin ++ bit ∷ []) ≡ length begin + 1 = length-append begin (bit ∷ []) in
    sym (take-take (length begin) (length (begin ++ bit ∷ [])) bits (omega arith)) ∙ ap (take (length begin)) h ∙ take-append-le (length begin) begin (bit ∷ []) (omega arith) ∙ take_all (length begin) begin (omega arith)

begins_bit : (begin bits : List Bool) (bit : Bool) (n : ℕ) → take (length (begin ++ bit ∷ [])) bits ≡ begin ++ bit ∷ [] → length begin ≡ n → bit_of bits n ≡ bit
begins_bit begin bits bit n h is =
    let longer : length (begin ++ bit ∷ []) ≡ length begin + 1 = length-append begin (bit ∷ []) in
    sym (get_or-take (length (begin ++ bit ∷ [])) bits n false (omega arith)) ∙ ap (λ xs. get_or xs n false) h ∙ get_or_push begin bit false n is

-- why no point begins with one bit more
pub off_is_dead : (p : Problem) (begin : List Bool) (known : BitRows) (n : ℕ) → IsTried p begin known → length begin ≡ n → bit_in known 0 n ≡ true → NoneBegins p (begin ++ false ∷ [])
off_is_dead p begin known n tried is yes_bit bits point starts =
    true≢false (sym (tried.yes n yes_bit bits point (begins_before begin bits false starts)) ∙ begins_bit begin bits false n starts is)

pub on_is_dead : (p : Problem) (begin : List Bool) (known : BitRows) (n : ℕ) → IsTried p begin known → length begin ≡ n → bit_in known 1 n ≡ true → NoneBegins p (begin ++ true ∷ [])
on_is_dead p begin known n tried is none_bit bits point starts =
    true≢false (sym (begins_bit begin bits true n starts is) ∙ tried.none n none_bit bits point (begins_before begin bits true starts))

pub implied_is_dead : (p : Problem) (begin : List Bool) (known : BitRows) (rules : Rules) (n : ℕ) → AreRules p rules → IsTried p begin known → length begin ≡ n →
    SomePlace (λ k. bit_in rules.implied n k && bit_in known 1 k) → NoneBegins p (begin ++ true ∷ [])
implied_is_dead p begin known rules n are tried is some bits point starts =
    let both = and_parts (bit_in rules.implied n some.place) (bit_in known 1 some.place) some.passes in
    true≢false (sym (are.implied n some.place both.0 bits point (begins_bit begin bits true n starts is)) ∙ tried.none some.place both.1 bits point (begins_before begin bits true starts))

pub excluded_is_dead : (p : Problem) (begin : List Bool) (known : BitRows) (rules : Rules) (n : ℕ) → AreRules p rules → IsTried p begin known → length begin ≡ n →
    SomePlace (λ k. bit_in rules.excluded n k && bit_in known 0 k) → NoneBegins p (begin ++ true ∷ [])
excluded_is_dead p begin known rules n are tried is some bits point starts =
    let both = and_parts (bit_in rules.excluded n some.place) (bit_in known 0 some.place) some.passes in
    true≢false (sym (tried.yes some.place both.1 bits point (begins_before begin bits true starts)) ∙ are.excluded n some.place both.0 bits point (begins_bit begin bits true n starts is))

pub uncovered_is_dead : (p : Problem) (begin : List Bool) (known : BitRows) (rules : Rules) (r d : ℕ) → AreRules p rules → IsTried p begin known → r < rules.covers.count →
    bit_in known 0 (get_or rules.heads.items r d) ≡ true → ((k : ℕ) → bit_in rules.covers r k ≡ true → bit_in known 1 k ≡ true) → NoneBegins p begin
uncovered_is_dead p begin known rules r d are tried small head inside bits point starts =
    let some = are.covers r d small bits point (tried.yes (get_or rules.heads.items r d) head bits point starts) in
    let both = and_parts (bit_in rules.covers r some.place) (bit_of bits some.place) some.passes in
    true≢false (sym both.1 ∙ tried.none some.place (inside some.place both.0) bits point starts)

-- two rows that are copies of what is known
pub record IsCopy (known next : BitRows) : Type 0 where
  pub two : next.count ≡ 2
  pub width : next.width ≡ known.width
  pub yes : (k : ℕ) → bit_in next 0 k ≡ bit_in known 0 k
  pub none : (k : ℕ) → bit_in next 1 k ≡ bit_in known 1 k

-- what is known where the bit is on
pub known_on : (p : Problem) (begin : List Bool) (known copy mid next : BitRows) (rules : Rules) (n : ℕ) (up out : List ℕ) → AreRules p rules → IsTried p begin known → length begin ≡ n →
    IsCopy known copy → ((k : ℕ) → has_bit up k ≡ bit_in rules.implied n k) → ((k : ℕ) → has_bit out k ≡ bit_in rules.excluded n k) →
    IsPut copy mid 0 (λ k. bit_in copy 0 k || has_bit up k) → IsPut mid next 1 (λ k. bit_in mid 1 k || has_bit out k) → IsTried p (begin ++ true ∷ []) next
known_on p begin known copy mid next rules n up out are tried is copied ups outs first second = record {
  two = second.count ∙ first.count ∙ copied.two;
  some = subst (λ w. 0 < w) (sym (second.width ∙ first.width ∙ copied.width)) tried.some;
  yes = λ k h bits point starts. elim (or_cases (bit_in copy 0 k) (has_bit up k) (sym (second.others 0 k (λ e. omega (arith, e)) ∙ first.there k) ∙ h)) [
    | inl before ↦ tried.yes k (sym (copied.yes k) ∙ before) bits point (begins_before begin bits true starts)
    | inr now ↦ are.implied n k (sym (ups k) ∙ now) bits point (begins_bit begin bits true n starts is)
  ];
  none = λ k h bits point starts. elim (or_cases (bit_in mid 1 k) (has_bit out k) (sym (second.there k) ∙ h)) [
    | inl before ↦ tried.none k (sym (first.others 1 k (λ e. omega (arith, e)) ∙ copied.none k) ∙ before) bits point (begins_before begin bits true starts)
    | inr now ↦ are.excluded n k (sym (outs k) ∙ now) bits point (begins_bit begin bits true n starts is)
  ];
}

-- and where it is off
pub known_off : (p : Problem) (begin : List Bool) (known copy next : BitRows) (n : ℕ) → IsTried p begin known → length begin ≡ n → IsCopy known copy →
    IsPut copy next 1 (λ k. bit_in copy 1 k || (k == n)) → IsTried p (begin ++ false ∷ []) next
known_off p begin known copy next n tried is copied put = record {
  two = put.count ∙ copied.two;
  some = subst (λ w. 0 < w) (sym (put.width ∙ copied.width)) tried.some;
  yes = λ k h bits point starts. tried.yes k (sym (put.others 0 k (λ e. omega (arith, e)) ∙ copied.yes k) ∙ h) bits point (begins_before begin bits false starts);
  none = λ k h bits point starts. elim (or_cases (bit_in copy 1 k) (k == n) (sym (put.there k) ∙ h)) [
    | inl before ↦ tried.none k (sym (copied.none k) ∙ before) bits point (begins_before begin bits false starts)
    | inr now ↦ ap (bit_of bits) (eqb-true k n now) ∙ begins_bit begin bits false n starts is
  ];
}

-- a row that is pushed as a copy of another
pub copied_row : (old new : BitRows) (row : List ℕ) (test : ℕ → Bool) → IsPushed old new test → ((k : ℕ) → test k ≡ has_bit row k) → (r : ℕ) → r ≡ old.count → (k : ℕ) → bit_in new r k ≡ has_bit row k
copied_row old new row test pushed tells r is k = ap (λ q. bit_in new q k) is ∙ pushed.there k ∙ tells k

-- the points that begin with some bits: none, with one bit more, with all
pub below_none : (p : Problem) (begin : List Bool) (n : ℕ) → NoneBegins p begin → points_below p begin n ≡ []
unfolding points_below
below_none p begin n none = none_pass (bit_lists n)
  where
    none_pass : (lists : List (List Bool)) → filter (is_point p) (map (λ rest. begin ++ rest) lists) ≡ []
    none_pass [] = refl
    none_pass (rest ∷ lists) =
        let off : is_point p (begin ++ rest) ≡ false =
        false_from_ne_true (is_point p (begin ++ rest)) (λ e. none (begin ++ rest) e (take-append-le (length begin) begin rest (omega arith) ∙ take_all (length begin) begin (omega arith))) in
        rw off (none_pass lists)

pub below_more : (p : Problem) (begin : List Bool) (n : ℕ) → points_below p begin (suc n) ≡ points_below p (begin ++ false ∷ []) n ++ points_below p (begin ++ true ∷ []) n
unfolding points_below
below_more p begin n =
    ap (filter (is_point p)) (map-append (λ rest. begin ++ rest) (map (λ bits. false ∷ bits) (bit_lists n)) (map (λ bits. true ∷ bits) (bit_lists n))) ∙
    filter-append (is_point p) (map (λ rest. begin ++ rest) (map (λ bits. false ∷ bits) (bit_lists n))) (map (λ rest. begin ++ rest) (map (λ bits. true ∷ bits) (bit_lists n))) ∙
    ap (λ xs. filter (is_point p) xs ++ filter (is_point p) (map (λ rest. begin ++ rest) (map (λ bits. true ∷ bits) (bit_lists n)))) (moved false (bit_lists n)) ∙
    ap (λ xs. filter (is_point p) (map (λ rest. (begin ++ false ∷ []) ++ rest) (bit_lists n)) ++ filter (is_point p) xs) (moved true (bit_lists n))
  where
    moved : (bit : Bool) (lists : List (List Bool)) → map (λ rest. begin ++ rest) (map (λ bits. bit ∷ bits) lists) ≡ map (λ rest. (begin ++ bit ∷ []) ++ rest) lists
    moved bit [] = refl
    moved bit (rest ∷ lists) =
        ap (λ x. x ∷ map (λ rest. begin ++ rest) (map (λ bits. bit ∷ bits) lists)) (sym (append_assoc begin (bit ∷ []) rest)) ∙
        ap (λ xs. ((begin ++ bit ∷ []) ++ rest) ∷ xs) (moved bit lists)

pub below_zero : (p : Problem) (begin : List Bool) → points_below p begin 0 ≡ cond (is_point p begin) (begin ∷ []) []
unfolding points_below
below_zero p begin = ap (λ bits. cond (is_point p bits) (bits ∷ []) []) (append-nil begin)

pub below_all : (p : Problem) → points_below p [] (concept_count p) ≡ points_by_trial p
unfolding points_below
below_all p = ap (filter (is_point p)) (same (bit_lists (concept_count p)))
  where
    same : (lists : List (List Bool)) → map (λ (rest : List Bool). [] ++ rest) lists ≡ lists
    same [] = refl
    same (rest ∷ lists) = ap (λ xs. rest ∷ xs) (same lists)

pub not_false : (b : Bool) → not b ≡ false → b ≡ true
not_false true h = refl
not_false false h = absurd (true≢false h)

-- what a search adds: nothing where no point begins, the bits themselves where there are no more, and else what it adds by either bit
pub adds_none : (p : Problem) (begin : List Bool) (n : ℕ) (points : List (List Bool)) → NoneBegins p begin → points ≡ points ++ points_below p begin n
adds_none p begin n points none = sym (ap (λ xs. points ++ xs) (below_none p begin n none) ∙ append-nil points)

pub adds_last : {E : Type 0} (r : Result Bool E) (p : Problem) (begin : List Bool) (n : ℕ) (old new : List (List Bool)) → n ≡ 0 →
    IfOk r (λ _. new ≡ old ++ cond (is_point p begin) (begin ∷ []) []) → IfOk r (λ done. done ≡ true → new ≡ old ++ points_below p begin n)
adds_last (Ok done) p begin n old new is h = λ _. h ∙ ap (λ xs. old ++ xs) (sym (ap (points_below p begin) is ∙ below_zero p begin))
adds_last (Err e) p begin n old new is h = h

pub adds_both : {E : Type 0} (r : Result Bool E) (p : Problem) (begin mid : List Bool) (n less : ℕ) (old half new : List (List Bool)) → n ≡ suc less → mid ≡ begin →
    half ≡ old ++ points_below p (begin ++ false ∷ []) less → IfOk r (λ done. done ≡ true → new ≡ half ++ points_below p (mid ++ true ∷ []) less) →
    IfOk r (λ done. done ≡ true → new ≡ old ++ points_below p begin n)
adds_both (Ok done) p begin mid n less old half new is same first h = λ e.
    h e ∙ ap (λ xs. xs ++ points_below p (mid ++ true ∷ []) less) first ∙ ap (λ b. (old ++ points_below p (begin ++ false ∷ []) less) ++ points_below p (b ++ true ∷ []) less) same ∙
    append_assoc old (points_below p (begin ++ false ∷ []) less) (points_below p (begin ++ true ∷ []) less) ∙
    ap (λ xs. old ++ xs) (sym (ap (points_below p begin) is ∙ below_more p begin less))
adds_both (Err e) p begin mid n less old half new is same first h = h

-- each point has a bit a concept
pub full_points : (p : Problem) (points : List (List Bool)) → points ≡ points_by_trial p → (k : ℕ) (d : List Bool) → k < length points → length (get_or points k d) ≡ concept_count p
full_points p points is k d small =
    let i = subst (λ xs. In (get_or points k d) xs) is (In-get_or points k d small) in
    let point = (from_filter (is_point p) (bit_lists (concept_count p)) i).1 in
    eqb-true (length (get_or points k d)) (concept_count p) (structure_parts p (get_or points k d) (point_parts p (get_or points k d) point).structure).full
