-- Files have one answer: the first that is refused is one, parts have one reach and one first gap, and a problem one listing.
use Rattle.std.proofs.Common.{◌≡◌, ℕ, ◌+◌, not, inl, inr, List, [], ◌∷◌, ◌++◌, map, length, suc, ◌&&◌, refl, sym, ap, ◌∙◌, subst, true≢false, IsTrue}
use Rattle.std.specs.Prelude.{Option, Some, None, Ok, Err, Contains}
use Rattle.std.proofs.lemmas.Bool.{not-true, and_from}
use Rattle.std.proofs.lemmas.List.Elements.{All-contains}
use Rattle.rcc5_core.specs.declared.Rel.{Rel}
use Rattle.world_model.specs.Problem.{Problem}
use Rattle.world_model.specs.Listing.{is_below, is_before_end}
use Rattle.world_model.proofs.Members.{IsImage, from_map, in_from_contains, contains_from_in}
use Rattle.world_model.proofs.OrderPositions.{below_cases}
use Rattle.world_model.proofs.OrderListings.{one_listing_law}
use Rattle.cert_rules.specs.declared.parts.PartKind.{PartKind}
use Rattle.part_join.specs.Parts.{Part, is_covered, IsReach, IsNextBeginning, IsFirstGap}
use Rattle.part_join.specs.Joining.{part_in, AreParts, IsFirstRefused, IsWhole, HasGap}
use Rattle.part_join.specs.Laws.{OneJoin}
use Rattle.part_join.specs.declared.fault.JoinFault.TheVariants.{PartRefused, Gap, ReadFault, NoMemory}

-- the first of files that are parts is one, and so are the others
record IsGood (p : Problem) (file : List ℕ) (files : List (List ℕ)) : Type 0 where
  part : Part
  parts : List Part
  first : part_in p file ≡ Ok part
  rest : AreParts p files parts

good_first : (p : Problem) (file : List ℕ) (files : List (List ℕ)) (parts : List Part) → AreParts p (file ∷ files) parts → IsGood p file files
good_first p file files [] are = absurd (cc)
good_first p file files (q ∷ parts) are = record { part = q; parts = parts; first = cc; rest = cc }

-- a file that is refused is no part
bad_good : (p : Problem) (file : List ℕ) (q : Part) (why : ℕ × PartKind) → part_in p file ≡ Ok q → part_in p file ≡ Err why → ⊥
bad_good p file q why good bad = cc

-- files of which one is refused are not all parts
not_parts : (p : Problem) (earlier : List (List ℕ)) (file : List ℕ) (later : List (List ℕ)) (parts : List Part) (why : ℕ × PartKind) →
    AreParts p (earlier ++ file ∷ later) parts → part_in p file ≡ Err why → ⊥
not_parts p [] file later parts why are bad = let good : IsGood p file later = good_first p file later parts are in bad_good p file good.part why good.first bad
not_parts p (x ∷ earlier) file later parts why are bad =
    let good : IsGood p x (earlier ++ file ∷ later) = good_first p x (earlier ++ file ∷ later) parts are in not_parts p earlier file later good.parts why good.rest bad

-- there is one first file that is refused
one_bad : (p : Problem) (a : List (List ℕ)) (x : List ℕ) (u : List (List ℕ)) (b : List (List ℕ)) (y : List ℕ) (v : List (List ℕ)) (qs rs : List Part) (why why' : ℕ × PartKind) →
    AreParts p a qs → AreParts p b rs → part_in p x ≡ Err why → part_in p y ≡ Err why' → a ++ x ∷ u ≡ b ++ y ∷ v → (length a ≡ length b) × (x ≡ y)
one_bad p [] x u [] y v qs rs why why' ga gb bx by e = (refl, cc)
one_bad p [] x u (z ∷ b) y v qs rs why why' ga gb bx by e =
    let good : IsGood p z b = good_first p z b rs gb in
    let same : x ≡ z = cc in
    absurd (bad_good p z good.part why good.first (ap (part_in p) (sym same) ∙ bx))
one_bad p (z ∷ a) x u [] y v qs rs why why' ga gb bx by e =
    let good : IsGood p z a = good_first p z a qs ga in
    let same : y ≡ z = cc in
    absurd (bad_good p z good.part why' good.first (ap (part_in p) (sym same) ∙ by))
one_bad p (z ∷ a) x u (w ∷ b) y v qs rs why why' ga gb bx by e =
    let one : IsGood p z a = good_first p z a qs ga in
    let other : IsGood p w b = good_first p w b rs gb in
    let rest : a ++ x ∷ u ≡ b ++ y ∷ v = cc in
    let same = one_bad p a x u b y v one.parts other.parts why why' one.rest other.rest bx by rest in
    (ap suc same.0, same.1)

one_why : (p : Problem) (file : List ℕ) (a b : ℕ × PartKind) → part_in p file ≡ Err a → part_in p file ≡ Err b → a ≡ b
one_why p file a b x y = cc

one_refused : (p : Problem) (files : List (List ℕ)) (n line : ℕ) (kind : PartKind) (n' line' : ℕ) (kind' : PartKind) → IsFirstRefused p files n line kind → IsFirstRefused p files n' line' kind' →
    (n ≡ n') × ((line ≡ line') × (kind ≡ kind'))
one_refused p files n line kind n' line' kind' a b =
    let same = one_bad p a.earlier a.file a.later b.earlier b.file b.later a.parts b.parts (line, kind) (line', kind') a.good b.good a.refused b.refused (sym a.split ∙ b.split) in
    let why = one_why p a.file (line, kind) (line', kind') a.refused (ap (part_in p) same.1 ∙ b.refused) in
    (a.numbered ∙ ap (λ n. n + 1) same.0 ∙ sym b.numbered, (ap (λ (w : ℕ × PartKind). w.0) why, ap (λ (w : ℕ × PartKind). w.1) why))

-- and no such among parts
refused_not : (p : Problem) (files : List (List ℕ)) (n line : ℕ) (kind : PartKind) (parts : List Part) → IsFirstRefused p files n line kind → AreParts p files parts → ⊥
refused_not p files n line kind parts a are = not_parts p a.earlier a.file a.later parts (line, kind) (subst (λ files. AreParts p files parts) a.split are) a.refused

-- the parts of files are one list
one_parts : (p : Problem) (files : List (List ℕ)) (qs rs : List Part) → AreParts p files qs → AreParts p files rs → qs ≡ rs
one_parts p [] [] [] a b = refl
one_parts p [] [] (r ∷ rs) a b = absurd (cc)
one_parts p [] (q ∷ qs) rs a b = absurd (cc)
one_parts p (x ∷ files) [] rs a b = absurd (cc)
one_parts p (x ∷ files) (q ∷ qs) [] a b = absurd (cc)
one_parts p (x ∷ files) (q ∷ qs) (r ∷ rs) a b =
    let first : q ≡ r = cc in
    let left : AreParts p files qs = cc in
    let right : AreParts p files rs = cc in
    let rest = one_parts p files qs rs left right in
    λ i. first i ∷ rest i

-- a reach that is covered is none
reach_covered : (parts : List Part) (r : List Rel) → IsReach parts (Some r) → IsTrue (is_covered parts r) → ⊥
reach_covered parts r reach covered = true≢false (sym covered ∙ not-true (is_covered parts r) reach.stops)

-- parts have one reach
one_reach : (parts : List Part) (a b : List Rel) → IsReach parts (Some a) → IsReach parts (Some b) → a ≡ b
one_reach parts a b x y = elim (below_cases a b) [
  | inl less ↦ absurd (reach_covered parts a x (y.before a less))
  | inr (inl same) ↦ same
  | inr (inr more) ↦ absurd (reach_covered parts b y (x.before b more))
]

-- a beginning above a position and before an end is not the next
begins_apart : (parts : List Part) (r m : List Rel) (next : Option (List Rel)) → IsNextBeginning parts r next → Contains (map (λ q. q.from) parts) m → IsTrue (is_below r m) → IsTrue (is_before_end m next) → ⊥
begins_apart parts r m next is there above before =
    let source : IsImage (λ (q : Part). q.from) m parts = from_map (λ (q : Part). q.from) parts (in_from_contains (map (λ (q : Part). q.from) parts) there) in
    let none = All-contains (λ q. IsTrue (not (is_below r q.from && is_before_end q.from next))) parts source.source is.none (contains_from_in source.member) in
    true≢false (sym (and_from (is_below r source.source.from) (is_before_end source.source.from next) (subst (λ m. IsTrue (is_below r m)) source.is above) (subst (λ m. IsTrue (is_before_end m next)) source.is before))
    ∙ not-true (is_below r source.source.from && is_before_end source.source.from next) none)

-- and one next beginning
one_next : (parts : List Part) (r : List Rel) (a b : Option (List Rel)) → IsNextBeginning parts r a → IsNextBeginning parts r b → a ≡ b
one_next parts r None None x y = refl
one_next parts r None (Some b) x y = absurd (begins_apart parts r b None x y.there.1 y.there.0 refl)
one_next parts r (Some a) None x y = absurd (begins_apart parts r a None y x.there.1 x.there.0 refl)
one_next parts r (Some a) (Some b) x y = elim (below_cases a b) [
  | inl less ↦ absurd (begins_apart parts r a (Some b) y x.there.1 x.there.0 less)
  | inr (inl same) ↦ ap (λ m. Some m) same
  | inr (inr more) ↦ absurd (begins_apart parts r b (Some a) x y.there.1 y.there.0 more)
]

one_gap : (p : Problem) (files : List (List ℕ)) (a : List Rel) (to : Option (List Rel)) (b : List Rel) (to' : Option (List Rel)) → HasGap p files a to → HasGap p files b to' → (a ≡ b) × (to ≡ to')
one_gap p files a to b to' x y =
    let parts = one_parts p files y.parts x.parts y.are x.are in
    let gap : IsFirstGap x.parts b to' = subst (λ parts. IsFirstGap parts b to') parts y.gap in
    let same = one_reach x.parts a b x.gap.reach gap.reach in
    (same, one_next x.parts b to to' (subst (λ r. IsNextBeginning x.parts r to) same x.gap.next) gap.next)

-- parts that reach the end of all have no gap
whole_no_gap : (p : Problem) (files : List (List ℕ)) (worlds : List (List Rel)) (from : List Rel) (to : Option (List Rel)) → IsWhole p files worlds → HasGap p files from to → ⊥
whole_no_gap p files worlds from to x y =
    let parts = one_parts p files x.parts y.parts x.are y.are in
    let reach : IsReach y.parts None = subst (λ parts. IsReach parts None) parts x.reach in
    reach_covered y.parts from y.gap.reach (reach.before from refl)

pub one_join_law : OneJoin
one_join_law p files (Ok a) (Ok b) ta tb x y = ap (λ worlds. Ok worlds) (one_listing_law.worlds p [] None a b x.listing y.listing)
one_join_law p files (Ok a) (Err (PartRefused n line kind)) ta tb x y = absurd (refused_not p files n line kind x.parts y x.are)
one_join_law p files (Ok a) (Err (Gap from to)) ta tb x y = absurd (whole_no_gap p files a from to x y)
one_join_law p files (Err (PartRefused n line kind)) (Ok b) ta tb x y = absurd (refused_not p files n line kind y.parts x y.are)
one_join_law p files (Err (PartRefused n line kind)) (Err (PartRefused n' line' kind')) ta tb x y =
    let same = one_refused p files n line kind n' line' kind' x y in
    let number : n ≡ n' = same.0 in
    let at : line ≡ line' = same.1.0 in
    let why : kind ≡ kind' = same.1.1 in
    λ i. Err (PartRefused (number i) (at i) (why i))
one_join_law p files (Err (PartRefused n line kind)) (Err (Gap from to)) ta tb x y = absurd (refused_not p files n line kind y.parts x y.are)
one_join_law p files (Err (Gap from to)) (Ok b) ta tb x y = absurd (whole_no_gap p files b from to y x)
one_join_law p files (Err (Gap from to)) (Err (PartRefused n line kind)) ta tb x y = absurd (refused_not p files n line kind x.parts y x.are)
one_join_law p files (Err (Gap from to)) (Err (Gap from' to')) ta tb x y =
    let same = one_gap p files from to from' to' x y in
    let begin : from ≡ from' = same.0 in
    let end : to ≡ to' = same.1 in
    λ i. Err (Gap (begin i) (end i))
one_join_law p files (Ok a) (Err ReadFault) ta tb x y = elim tb [ ]
one_join_law p files (Ok a) (Err NoMemory) ta tb x y = elim tb [ ]
one_join_law p files (Err (PartRefused n line kind)) (Err ReadFault) ta tb x y = elim tb [ ]
one_join_law p files (Err (PartRefused n line kind)) (Err NoMemory) ta tb x y = elim tb [ ]
one_join_law p files (Err (Gap from to)) (Err ReadFault) ta tb x y = elim tb [ ]
one_join_law p files (Err (Gap from to)) (Err NoMemory) ta tb x y = elim tb [ ]
one_join_law p files (Err ReadFault) b ta tb x y = elim ta [ ]
one_join_law p files (Err NoMemory) b ta tb x y = elim ta [ ]
