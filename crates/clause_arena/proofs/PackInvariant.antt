-- The state of a packing after some of the heads.
use Rattle.std.proofs.Common.{◌≡◌, ◌∙◌, ℕ, ◌+◌, ◌-◌, ◌^◌, ◌<◌, ◌≤◌, ◌≢◌, List, [], ◌∷◌, ◌++◌, length, get_or, set, take, drop, map, Option, Some, None, Bool, true, false, cond, refl, sym, ap, subst, arith, inl, inr, length-take, length-drop, length-append, length-set, get_or-set_same, get_or-set_other}
use Rattle.std.specs.List.{filter, count_by, copy_within}
use Rattle.std.specs.Option.{IfSome}
use Rattle.std.proofs.lemmas.Bool.{cases_lt, false≢true}
use Rattle.std.proofs.lemmas.List.{append-nil, take-append-drop, get_or_at, length-take-le, take_at, drop_at, drop-take, drop-drop, map-append, length-map, take_more, drop_more, take_more_set, drop-set-lt, take_all, drop_all, get_or-map, get_or_past, take-take}
use Rattle.std.proofs.lemmas.List.Edits.{length-paste, take-paste, drop-paste}
use Rattle.std.proofs.lemmas.List.Elements.{filter-append}
use Rattle.std.proofs.lemmas.List.Sums.{length-filter, count_by_more_no, count_by_more_yes}
use lib.Seq.{paste}
use Rattle.clause_arena.specs.declared.arena.Head.{Head}
use Rattle.clause_arena.specs.Records.{Record, no_record, record_at, unlinked, compacted}
use Rattle.clause_arena.specs.Layout.{record_of, records_of, AreInOrder, head_moved, MovesDown, Packs}
use Rattle.clause_arena.specs.Movings.{new_ref, place_after, AreMoves}
use Rattle.clause_arena.proofs.Ranges.{AreInOrder-within, AreInOrder-push, AreInOrder-earlier, records_of-below, records_of-above}

-- what is so after the first `i` of the heads `hs` over the codes `cs`: `heads` and `codes` are the lists now, of which `kept` heads and `end` codes are done
pub record Packing (hs : List Head) (cs : List ℕ) (i : ℕ) (heads : List Head) (codes : List ℕ) (kept end : ℕ) : Type 0 where
  pub size : length heads ≡ length hs
  pub width : length codes ≡ length cs
  pub fewer : kept ≤ i
  pub room : i ≤ length hs
  pub rest : drop i heads ≡ drop i hs
  pub ahead : AreInOrder end (drop i hs) (length cs)
  pub same : records_of codes (drop i hs) ≡ records_of cs (drop i hs)
  pub order : AreInOrder 0 (take kept heads) end
  pub done : records_of codes (take kept heads) ≡ compacted (take i (records_of cs hs))
  pub count : kept ≡ count_by (λ r. r.live) (take i (records_of cs hs))

-- before the first head
pub Packing-start : (hs : List Head) (cs : List ℕ) → AreInOrder 0 hs (length cs) → Packing hs cs 0 hs cs 0 0
Packing-start hs cs o = record {
  size = refl;
  width = refl;
  fewer = omega arith;
  room = omega arith;
  rest = refl;
  ahead = o;
  same = refl;
  order = omega arith;
  done = refl;
  count = refl;
}

-- the head that comes next
pub Packing-head : (hs : List Head) (cs : List ℕ) (i : ℕ) (heads : List Head) (codes : List ℕ) (kept end : ℕ) (d : Head) → Packing hs cs i heads codes kept end → i < length hs → get_or heads i d ≡ get_or hs i d
Packing-head hs cs i heads codes kept end d p lt =
    let size = p.size in
    let now = drop_more heads i d (omega arith) in
    let was = drop_more hs i d lt in
    let same = p.rest in
    let both : get_or heads i d ∷ drop (i + 1) heads ≡ get_or hs i d ∷ drop (i + 1) hs = sym now ∙ same ∙ was in
    ap (λ (xs : List Head). get_or xs 0 d) both

-- the heads after it
pub Packing-rest : (hs : List Head) (cs : List ℕ) (i : ℕ) (heads : List Head) (codes : List ℕ) (kept end : ℕ) (d : Head) → Packing hs cs i heads codes kept end → i < length hs → drop (i + 1) heads ≡ drop (i + 1) hs
Packing-rest hs cs i heads codes kept end d p lt =
    let size = p.size in
    let now = drop_more heads i d (omega arith) in
    let was = drop_more hs i d lt in
    let same = p.rest in
    let both : get_or heads i d ∷ drop (i + 1) heads ≡ get_or hs i d ∷ drop (i + 1) hs = sym now ∙ same ∙ was in
    ap (λ (xs : List Head). drop 1 xs) both

-- its range, and the ranges after it
pub Packing-range : (hs : List Head) (cs : List ℕ) (i : ℕ) (heads : List Head) (codes : List ℕ) (kept end : ℕ) (d : Head) → Packing hs cs i heads codes kept end → i < length hs → (end ≤ (get_or heads i d).start) × AreInOrder ((get_or heads i d).start + (get_or heads i d).len) (drop (i + 1) hs) (length cs)
Packing-range hs cs i heads codes kept end d p lt =
    let ahead : AreInOrder end (get_or hs i d ∷ drop (i + 1) hs) (length cs) = subst (λ (xs : List Head). AreInOrder end xs (length cs)) (drop_more hs i d lt) p.ahead in
    rw (Packing-head hs cs i heads codes kept end d p lt) ahead

-- its record
pub Packing-record : (hs : List Head) (cs : List ℕ) (i : ℕ) (heads : List Head) (codes : List ℕ) (kept end : ℕ) (d : Head) → Packing hs cs i heads codes kept end → i < length hs → (record_of codes (get_or heads i d) ≡ record_at (records_of cs hs) i) × (records_of codes (drop (i + 1) hs) ≡ records_of cs (drop (i + 1) hs))
Packing-record hs cs i heads codes kept end d p lt =
    let both : record_of codes (get_or hs i d) ∷ records_of codes (drop (i + 1) hs) ≡ record_of cs (get_or hs i d) ∷ records_of cs (drop (i + 1) hs) =
    ap (records_of codes) (sym (drop_more hs i d lt)) ∙ p.same ∙ ap (records_of cs) (drop_more hs i d lt) in
    let here : record_of codes (get_or hs i d) ≡ record_of cs (get_or hs i d) = ap (λ (rs : List Record). record_at rs 0) both in
    let now = Packing-head hs cs i heads codes kept end d p lt in
    (ap (record_of codes) now ∙ here ∙ sym (get_or-map (record_of cs) hs i d no_record lt), ap (λ (rs : List Record). drop 1 rs) both)

-- what is compacted of one more record
pub compacted_more : (rs : List Record) (i : ℕ) → i < length rs → compacted (take (i + 1) rs) ≡ compacted (take i rs) ++ cond (record_at rs i).live (unlinked (record_at rs i) ∷ []) []
compacted_more rs i lt =
    ap compacted (take_more rs i no_record lt)
    ∙ ap (map unlinked) (filter-append (λ r. r.live) (take i rs) (record_at rs i ∷ []))
    ∙ map-append unlinked (filter (λ r. r.live) (take i rs)) (filter (λ r. r.live) (record_at rs i ∷ []))
    ∙ ap (λ (more : List Record). compacted (take i rs) ++ more)
    (elim (record_at rs i).live as (λ b. map unlinked (cond b (record_at rs i ∷ []) []) ≡ cond b (unlinked (record_at rs i) ∷ []) []) [ true ↦ refl | false ↦ refl ])

-- a head that is not live is passed over
pub Packing-skip : (hs : List Head) (cs : List ℕ) (i : ℕ) (heads : List Head) (codes : List ℕ) (kept end : ℕ) (d : Head) → Packing hs cs i heads codes kept end → i < length hs → (get_or heads i d).live ≡ false → Packing hs cs (i + 1) heads codes kept end
Packing-skip hs cs i heads codes kept end d p lt dead =
    let here = Packing-record hs cs i heads codes kept end d p lt in
    let inside : i < length (records_of cs hs) = simp length-map lt in
    let off : (record_at (records_of cs hs) i).live ≡ false = sym (ap (λ (r : Record). r.live) here.0) ∙ dead in
    let range = Packing-range hs cs i heads codes kept end d p lt in
    record {
      size = p.size;
      width = p.width;
      fewer = (let le = p.fewer in omega arith);
      room = omega arith;
      rest = Packing-rest hs cs i heads codes kept end d p lt;
      ahead = AreInOrder-earlier (drop (i + 1) hs) _ (length cs) end range.1 (let down = range.0 in omega arith);
      same = here.1;
      order = p.order;
      done = p.done ∙ sym (append-nil _) ∙ sym (compacted_more (records_of cs hs) i inside ∙ ap (λ (b : Bool). compacted (take i (records_of cs hs)) ++ cond b (unlinked (record_at (records_of cs hs) i) ∷ []) []) off);
      count = p.count ∙ sym (count_by_more_no (λ r. r.live) (records_of cs hs) i no_record inside off);
    }

-- what a copy down leaves
pub record Copied (codes : List ℕ) (start len end : ℕ) (after : List ℕ) : Type 0 where
  pub below : take end after ≡ take end codes
  pub inside : take len (drop end after) ≡ take len (drop start codes)
  pub above : drop (start + len) after ≡ drop (start + len) codes
  pub width : length after ≡ length codes

-- a copy down
pub Copied-from_copy : (codes : List ℕ) (start len end : ℕ) → end ≤ start → start + len ≤ length codes → Copied codes start len end (copy_within codes start (start + len) end)
Copied-from_copy codes start len end down within =
    let count : (start + len) - start ≡ len = omega arith in
    let size : length (drop start codes) ≡ length codes - start = length-drop start codes in
    let front : length (take end codes) ≡ end = length-take-le end codes (omega arith) in
    let prefix : take (end + len) (paste codes end (drop start codes) len) ≡ take end codes ++ take len (drop start codes) = take-paste codes end (drop start codes) len (omega arith) (omega arith) in
    let suffix : drop (end + len) (paste codes end (drop start codes) len) ≡ drop (end + len) codes = drop-paste codes end (drop start codes) len (omega arith) (omega arith) in
    let later : (end + len) + (start - end) ≡ start + len = omega arith in
    rw count record {
      below = sym (take-take end (end + len) (paste codes end (drop start codes) len) (omega arith)) ∙ ap (take end) prefix ∙ take_at (take end codes) (take len (drop start codes)) end front;
      inside = sym (drop-take end len (paste codes end (drop start codes) len)) ∙ ap (drop end) prefix ∙ drop_at (take end codes) (take len (drop start codes)) end front;
      above = sym (drop-drop (start - end) (end + len) (paste codes end (drop start codes) len) ∙ ap (λ (n : ℕ). drop n (paste codes end (drop start codes) len)) later) ∙ ap (drop (start - end)) suffix ∙ (drop-drop (start - end) (end + len) codes ∙ ap (λ (n : ℕ). drop n codes) later);
      width = length-paste codes end (drop start codes) len (omega arith) (omega arith);
    }

-- a live head moves down behind those that are done
pub Packing-keep : (hs : List Head) (cs : List ℕ) (i : ℕ) (heads : List Head) (codes : List ℕ) (kept end : ℕ) (h : Head) (heads_new : List Head) (codes_new : List ℕ) (next : ℕ) → Packing hs cs i heads codes kept end → i < length hs → h ≡ get_or heads i h → h.live ≡ true → MovesDown heads codes h kept end heads_new codes_new next → Packing hs cs (i + 1) heads_new codes_new (kept + 1) next
Packing-keep hs cs i heads codes kept end h heads_new codes_new next p lt is live m =
    let P : Head → Type 0 = λ g. (end ≤ g.start) × AreInOrder (g.start + g.len) (drop (i + 1) hs) (length cs) in
    let range : P h = subst P (sym is) (Packing-range hs cs i heads codes kept end h p lt) in
    let both = Packing-record hs cs i heads codes kept end h p lt in
    let here : record_of codes h ≡ record_at (records_of cs hs) i = ap (record_of codes) is ∙ both.0 in
    let inside : i < length (records_of cs hs) = simp length-map lt in
    let on : (record_at (records_of cs hs) i).live ≡ true = sym (ap (λ (r : Record). r.live) here) ∙ live in
    let down : end ≤ h.start = range.0 in
    let fewer = p.fewer in
    let size = p.size in
    let width = p.width in
    let last : h.start + h.len ≤ length cs = AreInOrder-within (drop (i + 1) hs) (h.start + h.len) (length cs) range.1 in
    let copied : Copied codes h.start h.len end codes_new = subst (λ (xs : List ℕ). Copied codes h.start h.len end xs) (sym m.codes_are) (Copied-from_copy codes h.start h.len end down (omega arith)) in
    let place : kept < length heads = omega arith in
    let front : take (kept + 1) heads_new ≡ take kept heads ++ head_moved h end ∷ [] = ap (take (kept + 1)) m.heads_are ∙ take_more_set heads kept (head_moved h end) place in
    let moved : record_of codes_new (head_moved h end) ≡ unlinked (record_of codes h) = (let e = copied.inside in cc) in
    record {
      size = ap length m.heads_are ∙ length-set heads kept (head_moved h end) ∙ p.size;
      width = copied.width ∙ p.width;
      fewer = omega arith;
      room = omega arith;
      rest = ap (drop (i + 1)) m.heads_are ∙ drop-set-lt (i + 1) heads kept (head_moved h end) (omega arith) ∙ Packing-rest hs cs i heads codes kept end h p lt;
      ahead = AreInOrder-earlier (drop (i + 1) hs) (h.start + h.len) (length cs) next range.1 (let n = m.next_is in omega arith);
      same = records_of-above codes_new codes (drop (i + 1) hs) (h.start + h.len) (length cs) copied.above range.1 ∙ both.1;
      order = rw front (AreInOrder-push (take kept heads) 0 end (head_moved h end) next p.order (omega arith) (let n = m.next_is in omega arith));
      done =
          ap (records_of codes_new) front
          ∙ map-append (record_of codes_new) (take kept heads) (head_moved h end ∷ [])
          ∙ ap (λ (rs : List Record). rs ++ record_of codes_new (head_moved h end) ∷ []) (records_of-below codes_new codes (take kept heads) 0 end copied.below p.order ∙ p.done)
          ∙ ap (λ (r : Record). compacted (take i (records_of cs hs)) ++ r ∷ []) (moved ∙ ap unlinked here)
          ∙ sym (compacted_more (records_of cs hs) i inside ∙ ap (λ (b : Bool). compacted (take i (records_of cs hs)) ++ cond b (unlinked (record_at (records_of cs hs) i) ∷ []) []) on);
      count = (let yes = count_by_more_yes (λ r. r.live) (records_of cs hs) i no_record inside on in let n = p.count in omega arith);
    }

-- the table after some of the records
pub record Placed (rs : List Record) (i : ℕ) (table : List (Option ℕ)) : Type 0 where
  pub done : (k : ℕ) → k < i → get_or table k None ≡ place_after rs k
  pub left : (k : ℕ) → i ≤ k → get_or table k None ≡ None

-- before the first record
pub Placed-start : (rs : List Record) (table : List (Option ℕ)) → ((k : ℕ) → get_or table k None ≡ None) → Placed rs 0 table
Placed-start rs table none = record { done = λ k lt. absurd (omega arith); left = λ k le. none k }

-- a record that is not live has no entry
pub Placed-skip : (rs : List Record) (i : ℕ) (table : List (Option ℕ)) → Placed rs i table → (record_at rs i).live ≡ false → Placed rs (i + 1) table
Placed-skip rs i table p dead = record {
  done = λ k lt. elim (cases_lt k i) [
    | inl below ↦ p.done k below
    | inr above ↦ let e : k ≡ i = omega arith in
        let none : place_after rs i ≡ None = ap (λ (b : Bool). cond b (Some (count_by (λ r. r.live) (take i rs))) None) dead in
        p.left k above ∙ sym (ap (place_after rs) e ∙ none)
  ];
  left = λ k le. p.left k (omega arith);
}

-- a live record has the number of live ones before it
pub Placed-keep : (rs : List Record) (i kept : ℕ) (table : List (Option ℕ)) → Placed rs i table → i < length table → (record_at rs i).live ≡ true → kept ≡ count_by (λ r. r.live) (take i rs) → Placed rs (i + 1) (set table i (Some kept))
Placed-keep rs i kept table p room on count = record {
  done = λ k lt. elim (cases_lt k i) [
    | inl below ↦ let ne : k ≢ i = omega arith in get_or-set_other table i k (Some kept) None ne ∙ p.done k below
    | inr above ↦ let e : k ≡ i = omega arith in
        let some : place_after rs i ≡ Some kept = ap (λ (b : Bool). cond b (Some (count_by (λ r. r.live) (take i rs))) None) on ∙ ap Some (sym count) in
        ap (λ (n : ℕ). get_or (set table i (Some kept)) n None) e ∙ get_or-set_same table i (Some kept) None room ∙ sym (ap (place_after rs) e ∙ some)
  ];
  left = λ k le. let ne : k ≢ i = omega arith in get_or-set_other table i k (Some kept) None ne ∙ p.left k (omega arith);
}

-- after the last head
pub Packs-from_packing : (hs : List Head) (cs : List ℕ) (i : ℕ) (heads : List Head) (codes : List ℕ) (table : List (Option ℕ)) (kept end : ℕ) → Packing hs cs i heads codes kept end → Placed (records_of cs hs) i table → length hs ≤ i → Packs hs cs heads codes table kept end
Packs-from_packing hs cs i heads codes table kept end p t all =
    let size : length (records_of cs hs) ≡ length hs = length-map hs (record_of cs) in
    let fewer = p.fewer in
    let room = p.room in
    record {
      fewer = omega arith;
      within = (let ends = AreInOrder-within (drop i hs) end (length cs) p.ahead in let width = p.width in omega arith);
      order = p.order;
      records = p.done ∙ ap compacted (take_all i (records_of cs hs) (omega arith));
      places = λ k. elim (cases_lt k i) [
        | inl below ↦ t.done k below
        | inr above ↦ t.left k above ∙ sym (ap (λ (r : Record). cond r.live (Some (count_by (λ r. r.live) (take k (records_of cs hs)))) None) (get_or_past (records_of cs hs) k no_record (omega arith)))
      ];
    }

-- whether the next record is live
pub Packing-live : (hs : List Head) (cs : List ℕ) (i : ℕ) (heads : List Head) (codes : List ℕ) (kept end : ℕ) (d : Head) → Packing hs cs i heads codes kept end → i < length hs → (record_at (records_of cs hs) i).live ≡ (get_or heads i d).live
Packing-live hs cs i heads codes kept end d p lt =
    sym (ap (λ (r : Record). r.live) (Packing-record hs cs i heads codes kept end d p lt).0)

-- a compaction brings a live record to the place with as many live ones before it
pub record_at-compacted : (rs : List Record) (at : ℕ) → (record_at rs at).live ≡ true → (count_by (λ r. r.live) (take at rs) < length (compacted rs)) × (record_at (compacted rs) (count_by (λ r. r.live) (take at rs)) ≡ unlinked (record_at rs at))
record_at-compacted rs at on =
    elim (cases_lt at (length rs)) [
      | inl lt ↦
          let split : rs ≡ take at rs ++ record_at rs at ∷ drop (at + 1) rs = sym (take-append-drop at rs) ∙ ap (λ (xs : List Record). take at rs ++ xs) (drop_more rs at no_record lt) in
          let kept : filter (λ r. r.live) (record_at rs at ∷ drop (at + 1) rs) ≡ record_at rs at ∷ filter (λ r. r.live) (drop (at + 1) rs) = ap (λ (b : Bool). cond b (record_at rs at ∷ filter (λ r. r.live) (drop (at + 1) rs)) (filter (λ r. r.live) (drop (at + 1) rs))) on in
          let whole : compacted rs ≡ compacted (take at rs) ++ unlinked (record_at rs at) ∷ compacted (drop (at + 1) rs) =
          ap compacted split
          ∙ ap (map unlinked) (filter-append (λ r. r.live) (take at rs) (record_at rs at ∷ drop (at + 1) rs) ∙ ap (λ (xs : List Record). filter (λ r. r.live) (take at rs) ++ xs) kept)
          ∙ map-append unlinked (filter (λ r. r.live) (take at rs)) (record_at rs at ∷ filter (λ r. r.live) (drop (at + 1) rs)) in
          let size : length (compacted (take at rs)) ≡ count_by (λ r. r.live) (take at rs) = length-map (filter (λ r. r.live) (take at rs)) unlinked ∙ length-filter (λ r. r.live) (take at rs) in
          let all : length (compacted rs) ≡ length (compacted (take at rs)) + length (unlinked (record_at rs at) ∷ compacted (drop (at + 1) rs)) = ap length whole ∙ length-append (compacted (take at rs)) (unlinked (record_at rs at) ∷ compacted (drop (at + 1) rs)) in
          (omega arith, ap (λ (xs : List Record). record_at xs (count_by (λ r. r.live) (take at rs))) whole ∙ get_or_at (compacted (take at rs)) (unlinked (record_at rs at)) (compacted (drop (at + 1) rs)) no_record (count_by (λ r. r.live) (take at rs)) size)
      | inr ge ↦
          let off : (record_at rs at).live ≡ false = ap (λ (r : Record). r.live) (get_or_past rs at no_record ge) in
          absurd (false≢true (sym off ∙ on))
    ]

-- what a compaction leaves of the heads and codes after their ends are cut off
pub Packs-cut : (hs : List Head) (cs : List ℕ) (heads : List Head) (codes : List ℕ) (table : List (Option ℕ)) (kept end : ℕ) → Packs hs cs heads codes table kept end → length hs ≤ 2 ^ 32 → AreInOrder 0 (take kept heads) (length (take end codes)) × (length (take kept heads) ≤ 2 ^ 32)
Packs-cut hs cs heads codes table kept end p few =
    let fewer = p.fewer in
    let within = p.within in
    (rw (length-take-le end codes within) p.order, simp length-take (omega arith))

-- and of the records
pub records_of-cut : (hs : List Head) (cs : List ℕ) (heads : List Head) (codes : List ℕ) (table : List (Option ℕ)) (kept end : ℕ) → Packs hs cs heads codes table kept end → records_of (take end codes) (take kept heads) ≡ compacted (records_of cs hs)
records_of-cut hs cs heads codes table kept end p =
    records_of-below (take end codes) codes (take kept heads) 0 end (take-take end end codes (omega arith)) p.order ∙ p.records

-- a pair leads from a record to it
pub AreMoves-from_places : (pairs : List (ℕ × ℕ)) (rs : List Record) → ((at : ℕ) → new_ref pairs at ≡ place_after rs at) → AreMoves pairs rs (compacted rs)
AreMoves-from_places pairs rs places at =
    let P : Option ℕ → Type 0 = λ o. IfSome o (λ to. (to < length (compacted rs)) × (record_at (compacted rs) to ≡ unlinked (record_at rs at))) in
    let go : (b : Bool) → (record_at rs at).live ≡ b → P (cond b (Some (count_by (λ r. r.live) (take at rs))) None) = λ b. elim b as (λ b. (record_at rs at).live ≡ b → P (cond b (Some (count_by (λ r. r.live) (take at rs))) None)) [ true ↦ λ on. record_at-compacted rs at on | false ↦ λ off. tt ] in
    subst P (sym (places at)) (go (record_at rs at).live refl)

-- what stands in a list that was written over whole
pub written_over : {X : Type 0} (ws xs : List X) (len : ℕ) → length ws ≡ length xs → length xs ≡ len → take len (ws ++ drop (length ws) xs) ≡ ws
written_over ws xs len same size =
    ap (λ (ys : List _). take len (ws ++ ys)) (drop_all (length ws) xs (omega arith)) ∙ ap (take len) (append-nil ws) ∙ take_all len ws (omega arith)
