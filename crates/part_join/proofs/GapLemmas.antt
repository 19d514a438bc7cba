-- The least beginning above a position, and the first gap.
use Rattle.std.proofs.Common.{◌≡◌, Bool, true, false, not, ◌&&◌, ◌⊎◌, inl, inr, List, [], ◌∷◌, ◌++◌, map, refl, sym, ◌∙◌, subst, true≢false, IsTrue}
use Rattle.std.specs.Prelude.{Option, Some, None, IfSome, Contains, Err}
use Rattle.std.proofs.lemmas.Bool.{not-true, not_from_false, and_from, and_parts, and_left}
use Rattle.std.proofs.lemmas.List.Elements.{All-contains, All-contains_itself, All-weaker, All-push}
use Rattle.rcc5_core.specs.declared.Rel.{Rel}
use Rattle.world_model.specs.Problem.{Problem}
use Rattle.world_model.specs.Listing.{is_below, is_before_end}
use Rattle.world_model.proofs.Members.{In, here, In-map, In-left, In-right, IsImage, from_map, in_from_contains, contains_from_in}
use Rattle.world_model.proofs.OrderPositions.{below_itself, below_chain}
use Rattle.world_model.proofs.OrderLists.{between_parts}
use Rattle.part_join.specs.Parts.{Part, covers, is_covered, IsNextBeginning, IsFirstGap}
use Rattle.part_join.specs.Sweeping.{IsPassed, IsSwept, IsGapAfter, IsSweepOf}
use Rattle.part_join.specs.declared.fault.JoinFault.{JoinFault}
use Rattle.part_join.specs.declared.fault.JoinFault.TheVariants.{PartRefused, Gap, ReadFault, NoMemory}
use Rattle.part_join.proofs.CoverLemmas.{uncovered_at, uncovered_from}

-- no part begins above a position and before an end
abbrev NoneBetween : List Rel → Option (List Rel) → Part → Type 0
NoneBetween r next q = IsTrue (not (is_below r q.from && is_before_end q.from next))

-- the beginning of one of some parts
begins_in : (parts : List Part) (q : Part) → In q parts → Contains (map (λ q. q.from) parts) q.from
begins_in parts q i = contains_from_in (In-map (λ (q : Part). q.from) i)

-- what begins before the least beginning so far is the least
pub next_here : (parts : List Part) (q : Part) (r : List Rel) (least : Option (List Rel)) → IsTrue (is_below r q.from) → IsTrue (is_before_end q.from least) →
    IsNextBeginning parts r least → IsNextBeginning (parts ++ q ∷ []) r (Some q.from)
next_here parts q r least above before next = record {
  none = All-push (NoneBetween r (Some q.from)) parts q (All-weaker (NoneBetween r least) (NoneBetween r (Some q.from)) closer parts next.none) itself;
  there = (above, begins_in (parts ++ q ∷ []) q (In-right parts (here refl)));
}
  where
    itself : NoneBetween r (Some q.from) q
    itself = not_from_false (is_below r q.from && is_below q.from q.from) (rw (below_itself q.from) (right_false (is_below r q.from)))
      where
        right_false : (b : Bool) → (b && false) ≡ false
        right_false true = refl
        right_false false = refl

    sooner : (x : List Rel) (end : Option (List Rel)) → IsTrue (is_below x q.from) → IsTrue (is_before_end q.from end) → IsTrue (is_before_end x end)
    sooner x None h k = refl
    sooner x (Some end) h k = below_chain x q.from end h k

    closer : (x : Part) → NoneBetween r least x → NoneBetween r (Some q.from) x
    closer x none = by (is_below r x.from && is_below x.from q.from) refl
      where
        by : (b : Bool) → (is_below r x.from && is_below x.from q.from) ≡ b → NoneBetween r (Some q.from) x
        by true e =
            let parts = and_parts (is_below r x.from) (is_below x.from q.from) e in
            absurd (true≢false (sym (and_from (is_below r x.from) (is_before_end x.from least) parts.0 (sooner x.from least parts.1 before)) ∙ not-true (is_below r x.from && is_before_end x.from least) none))
        by false e = not_from_false (is_below r x.from && is_below x.from q.from) e

-- what begins elsewhere leaves it
pub next_kept : (parts : List Part) (q : Part) (r : List Rel) (least : Option (List Rel)) → (is_below r q.from && is_before_end q.from least) ≡ false →
    IsNextBeginning parts r least → IsNextBeginning (parts ++ q ∷ []) r least
next_kept parts q r least apart next = record {
  none = All-push (NoneBetween r least) parts q next.none (not_from_false (is_below r q.from && is_before_end q.from least) apart);
  there = among least next.there;
}
  where
    more : (m : List Rel) → Contains (map (λ q. q.from) parts) m → Contains (map (λ q. q.from) (parts ++ q ∷ [])) m
    more m c =
        let source : IsImage (λ (q : Part). q.from) m parts = from_map (λ (q : Part). q.from) parts (in_from_contains (map (λ (q : Part). q.from) parts) c) in
        subst (λ x. Contains (map (λ q. q.from) (parts ++ q ∷ [])) x) (sym source.is) (begins_in (parts ++ q ∷ []) source.source (In-left (q ∷ []) source.member))

    among : (end : Option (List Rel)) → IfSome end (λ m. IsTrue (is_below r m) × Contains (map (λ q. q.from) parts) m) →
        IfSome end (λ m. IsTrue (is_below r m) × Contains (map (λ q. q.from) (parts ++ q ∷ [])) m)
    among None t = tt
    among (Some m) t = (t.0, more m t.1)

-- where no part that is left goes on is the first gap of all parts
pub swept_gap : (p : Problem) (all left : List Part) (r : List Rel) (worlds : List (List Rel)) (to : Option (List Rel)) → IsSwept p all left r worlds →
    IsTrue (not (is_covered left r)) → IsNextBeginning left r to → IsFirstGap all r to
swept_gap p all left r worlds to swept none next = record {
  reach = record { before = swept.before; stops = uncovered_from all r (λ q c. uncovered q (swept.passed q c)) };
  next = record { none = All-weaker (Contains all) (NoneBetween r to) (λ q c. apart q (swept.passed q c)) all (All-contains_itself all); there = among to next.there };
}
  where
    uncovered : (q : Part) → Contains left q ⊎ IsPassed r q → covers r q ≡ false
    uncovered q (inl c) = uncovered_at left r q none c
    uncovered q (inr passed) = by (covers r q) refl
      where
        by : (b : Bool) → covers r q ≡ b → covers r q ≡ false
        by true e = absurd (true≢false (sym (between_parts q.from q.to r e).1 ∙ not-true (is_before_end r q.to) passed.ends))
        by false e = e

    apart : (q : Part) → Contains left q ⊎ IsPassed r q → NoneBetween r to q
    apart q (inl c) = All-contains (NoneBetween r to) left q next.none c
    apart q (inr passed) = not_from_false (is_below r q.from && is_before_end q.from to) (and_left (is_below r q.from) (is_before_end q.from to) (not-true (is_below r q.from) passed.begins))

    more : (m : List Rel) → Contains (map (λ q. q.from) left) m → Contains (map (λ q. q.from) all) m
    more m c =
        let source : IsImage (λ (q : Part). q.from) m left = from_map (λ (q : Part). q.from) left (in_from_contains (map (λ (q : Part). q.from) left) c) in
        subst (λ x. Contains (map (λ q. q.from) all) x) (sym source.is) (begins_in all source.source (in_from_contains all (swept.among source.source (contains_from_in source.member))))

    among : (end : Option (List Rel)) → IfSome end (λ m. IsTrue (is_below r m) × Contains (map (λ q. q.from) left) m) →
        IfSome end (λ m. IsTrue (is_below r m) × Contains (map (λ q. q.from) all) m)
    among None t = tt
    among (Some m) t = (t.0, more m t.1)

-- one more part, by the answer to whether it begins between
pub lower_here : (q : Part) (r m : List Rel) (least : Option (List Rel)) (b : Bool) → b ≡ (is_below r q.from && is_before_end q.from least) → b ≡ true → m ≡ q.from →
    (parts : List Part) → IsNextBeginning parts r least → IsNextBeginning (parts ++ q ∷ []) r (Some m)
lower_here q r m least b says passes is parts next =
    let both = and_parts (is_below r q.from) (is_before_end q.from least) (sym says ∙ passes) in
    subst (λ (m : List Rel). IsNextBeginning (parts ++ q ∷ []) r (Some m)) (sym is) (next_here parts q r least both.0 both.1 next)

pub lower_kept : (q : Part) (r : List Rel) (least : Option (List Rel)) (b : Bool) → b ≡ (is_below r q.from && is_before_end q.from least) → b ≡ false →
    (parts : List Part) → IsNextBeginning parts r least → IsNextBeginning (parts ++ q ∷ []) r least
lower_kept q r least b says fails parts next = next_kept parts q r least (sym says ∙ fails) next

-- how the joining ends where no part that is left goes on
pub gap_is : (p : Problem) (all left next shown : List Part) (r : List Rel) (worlds : List (List Rel)) (fault : JoinFault) → IsSwept p all left r worlds →
    IsTrue (not (is_covered left r)) → next ≡ left → shown ≡ next → IsGapAfter shown r fault → IsSweepOf p all (Err fault)
gap_is p all left next shown r worlds fault swept none kept is gap = by fault (subst (λ parts. IsGapAfter parts r fault) (is ∙ kept) gap)
  where
    by : (fault : JoinFault) → IsGapAfter left r fault → IsSweepOf p all (Err fault)
    by (PartRefused number line kind) h = absurd h
    by (Gap from to) h = subst (λ (from : List Rel). IsFirstGap all from to) (sym h.0) (swept_gap p all left r worlds to swept none h.1)
    by ReadFault h = absurd h
    by NoMemory h = tt
