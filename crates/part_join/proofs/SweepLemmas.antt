-- What is joined of parts goes on from part to part, and where none goes on is the gap.
use Rattle.std.proofs.Common.{◌≡◌, ℕ, suc, ◌<◌, length, take, drop, get_or, Bool, true, false, not, ◌⊎◌, inl, inr, List, [], ◌∷◌, ◌++◌, refl, sym, ap, ◌∙◌, subst, true≢false, IsTrue}
use Rattle.std.specs.Prelude.{Option, Some, None, filter, Contains, All, Result, Ok, Err, OnOk, is_ok, if◌then◌else◌}
use Rattle.std.specs.List.{remove}
use Rattle.std.proofs.Math.Seq.{split_at}
use Rattle.std.proofs.lemmas.Bool.{not-true, not_from_false}
use Rattle.std.proofs.lemmas.List.Elements.{All-contains}
use Rattle.rcc5_core.specs.declared.Rel.{Rel}
use Rattle.world_model.specs.Problem.{Problem}
use Rattle.world_model.specs.Listing.{is_below, is_before_end, IsListing}
use Rattle.world_model.proofs.Members.{In, here, there, none_in, from_append, In-left, In-right, in_from_contains, contains_from_in}
use Rattle.world_model.proofs.OrderPositions.{below_itself, below_apart, below_upto}
use Rattle.world_model.proofs.OrderLists.{between_parts, between_from}
use Rattle.part_join.specs.Parts.{Part, covers, is_covered, IsListed, IsReach}
use Rattle.part_join.specs.Sweeping.{IsTaken, IsPassed, IsSwept}
use Rattle.part_join.proofs.CoverLemmas.{covered_by, none_below, upto_upto, listing_goes_on}

-- a part that was taken was among those before, and the others stay
pub taken_was : (q : Part) (old new : List Part) → IsTaken q old new → Contains old q
taken_was q old new taken = contains_from_in (rw taken.was (In-right taken.before (here refl)))

pub taken_stay : (q : Part) (old new : List Part) → IsTaken q old new → (x : Part) → Contains old x → (x ≡ q) ⊎ Contains new x
taken_stay q old new taken x c = by (from_append taken.before (subst (λ parts. In x parts) taken.was (in_from_contains old c)))
  where
    by : In x taken.before ⊎ In x (q ∷ taken.after) → (x ≡ q) ⊎ Contains new x
    by (inl i) = inr (contains_from_in (rw taken.is (In-left taken.after i)))
    by (inr (here e)) = inl e
    by (inr (there i)) = inr (contains_from_in (rw taken.is (In-right taken.before i)))

pub taken_were : (q : Part) (old new : List Part) → IsTaken q old new → (x : Part) → Contains new x → Contains old x
taken_were q old new taken x c = by (from_append taken.before (subst (λ parts. In x parts) taken.is (in_from_contains new c)))
  where
    by : In x taken.before ⊎ In x taken.after → Contains old x
    by (inl i) = contains_from_in (rw taken.was (In-left (q ∷ taken.after) i))
    by (inr i) = contains_from_in (rw taken.was (In-right taken.before (there i)))

-- at the empty position nothing is joined
pub swept_start : (p : Problem) (all : List Part) → IsSwept p all all [] []
swept_start p all = record {
  listed = record { ascending = refl; members = λ t. (λ c. absurd (none_in (in_from_contains [] c)), λ w. absurd (true≢false (sym (between_parts [] (Some []) t w.1).1 ∙ none_below t))) };
  before = λ t h. absurd (true≢false (sym h ∙ none_below t));
  passed = λ q c. inl c;
  among = λ q c. c;
}

-- what was passed stays passed
passed_on : (r end : List Rel) (q : Part) → IsTrue (is_below r end) → IsPassed r q → IsPassed end q
passed_on r end q less passed = record {
  begins = not_from_false (is_below end q.from) (later_begin (is_below end q.from) refl);
  ends = not_from_false (is_before_end end q.to) (later_end q.to (not-true (is_before_end r q.to) passed.ends));
}
  where
    -- q.from is not above r, which is below the end
    later_begin : (b : Bool) → is_below end q.from ≡ b → is_below end q.from ≡ false
    later_begin true e = absurd (true≢false (sym (below_upto r end q.from less (below_apart end q.from e)) ∙ not-true (is_below r q.from) passed.begins))
    later_begin false e = e

    later_end : (to : Option (List Rel)) → is_before_end r to ≡ false → is_before_end end to ≡ false
    later_end None e = absurd (true≢false e)
    later_end (Some to) e = upto_upto to r end e (below_apart r end less)

-- what covers the reach covers all from there to its end
covers_on : (r t : List Rel) (q : Part) → IsTrue (covers r q) → is_below t r ≡ false → IsTrue (is_before_end t q.to) → IsTrue (covers t q)
covers_on r t q within h k = between_from q.from q.to t (upto_upto q.from r t (between_parts q.from q.to r within).0 h) k

-- each position before the end of a part that goes on is covered
before_end : (p : Problem) (all left : List Part) (r : List Rel) (worlds : List (List Rel)) (q : Part) → IsSwept p all left r worlds → Contains all q →
    IsTrue (covers r q) → (t : List Rel) → IsTrue (is_before_end t q.to) → IsTrue (is_covered all t)
before_end p all left r worlds q swept c within t h = by (is_below t r) refl
  where
    by : (b : Bool) → is_below t r ≡ b → IsTrue (is_covered all t)
    by true e = swept.before t e
    by false e = covered_by all t q c (covers_on r t q within e h)

-- a part goes on to its end
pub swept_step : (p : Problem) (all left next : List Part) (r end : List Rel) (worlds more : List (List Rel)) (q : Part) → All (IsListed p) all →
    IsSwept p all left r worlds → IsTaken q left next → IsTrue (covers r q) → q.to ≡ Some end → more ≡ worlds ++ filter (λ t. not (is_below t r)) q.worlds →
    IsSwept p all next end more
swept_step p all left next r end worlds more q each swept taken within ends are = record {
  listed = rw are (subst (λ to. IsListing p [] to (worlds ++ filter (λ t. not (is_below t r)) q.worlds)) ends (listing_goes_on p q.from r q.to worlds q.worlds within swept.listed (All-contains (IsListed p) all q each among)));
  before = λ t h. before_end p all left r worlds q swept among within t (subst (λ to. IsTrue (is_before_end t to)) (sym ends) h);
  passed = λ x c. by x (swept.passed x c);
  among = λ x c. swept.among x (taken_were q left next taken x c);
}
  where
    among : Contains all q
    among = swept.among q (taken_was q left next taken)

    less : IsTrue (is_below r end)
    less = subst (λ to. IsTrue (is_before_end r to)) ends (between_parts q.from q.to r within).1

    -- the part itself begins not above the reach, and ends at its own end
    itself : IsPassed end q
    itself = record {
      begins = not_from_false (is_below end q.from) (begins (is_below end q.from) refl);
      ends = not_from_false (is_before_end end q.to) (subst (λ to. is_before_end end to ≡ false) (sym ends) (below_itself end));
    }
      where
        begins : (b : Bool) → is_below end q.from ≡ b → is_below end q.from ≡ false
        begins true e = absurd (true≢false (sym (below_upto r end q.from less (below_apart end q.from e)) ∙ (between_parts q.from q.to r within).0))
        begins false e = e

    stays : (x : Part) → (x ≡ q) ⊎ Contains next x → Contains next x ⊎ IsPassed end x
    stays x (inl e) = inr (subst (λ y. IsPassed end y) (sym e) itself)
    stays x (inr c) = inl c

    by : (x : Part) → Contains left x ⊎ IsPassed r x → Contains next x ⊎ IsPassed end x
    by x (inl c) = stays x (taken_stay q left next taken x c)
    by x (inr passed) = inr (passed_on r end x less passed)

-- or to the end of all
pub swept_whole : (p : Problem) (all left next : List Part) (r : List Rel) (worlds more : List (List Rel)) (q : Part) → All (IsListed p) all →
    IsSwept p all left r worlds → IsTaken q left next → IsTrue (covers r q) → q.to ≡ None → more ≡ worlds ++ filter (λ t. not (is_below t r)) q.worlds →
    IsReach all None × IsListing p [] None more
swept_whole p all left next r worlds more q each swept taken within ends are = (
  record { before = λ t h. before_end p all left r worlds q swept among within t (subst (λ to. IsTrue (is_before_end t to)) (sym ends) h); stops = tt },
  rw are (subst (λ to. IsListing p [] to (worlds ++ filter (λ t. not (is_below t r)) q.worlds)) ends (listing_goes_on p q.from r q.to worlds q.worlds within swept.listed (All-contains (IsListed p) all q each among))),
)
  where
    among : Contains all q
    among = swept.among q (taken_was q left next taken)

-- a part taken from its place
pub taken_at : (items left new : List Part) (place : ℕ) (q : Part) → left ≡ items → place < length left → q ≡ get_or items place q → new ≡ remove items place → IsTaken q items new
taken_at items left new place q same within is rest = record {
  before = take place items;
  after = drop (suc place) items;
  was = split_at items place q (subst (λ left. place < length left) same within) ∙ ap (λ q. take place items ++ q ∷ drop (suc place) items) (sym is);
  is = rest;
}

-- what is put behind others
pub appended : {X Y E : Type 0} (result : Result Y E) (new old kept more : List X) → new ≡ (if is_ok result then old ++ kept else old) → kept ≡ more → OnOk result (new ≡ old ++ more)
appended (Ok value) new old kept more h same = h ∙ ap (λ kept. old ++ kept) same
appended (Err fault) new old kept more h same = tt

-- where the joining begins
pub swept_begin : (p : Problem) (all left : List Part) (reach : List Rel) (worlds : List (List Rel)) → left ≡ all → reach ≡ [] → worlds ≡ [] → IsSwept p all left reach worlds
swept_begin p all left reach worlds same start none = rw (same, start, none) (swept_start p all)

-- the same of a part that was taken apart
pub swept_on : (p : Problem) (all left next : List Part) (r end : List Rel) (worlds more : List (List Rel)) (q own : Part) → own ≡ q → All (IsListed p) all →
    IsSwept p all left r worlds → IsTaken q left next → IsTrue (covers r q) → own.to ≡ Some end → more ≡ worlds ++ filter (λ t. not (is_below t r)) own.worlds →
    IsSwept p all next end more
swept_on p all left next r end worlds more q own same each swept taken within ends are =
    swept_step p all left next r end worlds more own each swept (subst (λ q. IsTaken q left next) (sym same) taken) (subst (λ q. IsTrue (covers r q)) (sym same) within) ends are

pub swept_all : (p : Problem) (all left next : List Part) (r : List Rel) (worlds more : List (List Rel)) (q own : Part) → own ≡ q → All (IsListed p) all →
    IsSwept p all left r worlds → IsTaken q left next → IsTrue (covers r q) → own.to ≡ None → more ≡ worlds ++ filter (λ t. not (is_below t r)) own.worlds →
    IsReach all None × IsListing p [] None more
swept_all p all left next r worlds more q own same each swept taken within ends are =
    swept_whole p all left next r worlds more own each swept (subst (λ q. IsTaken q left next) (sym same) taken) (subst (λ q. IsTrue (covers r q)) (sym same) within) ends are
