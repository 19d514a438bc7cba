-- Heads whose ranges lie one after another, and what a change of the codes or of one head does to the records.
use Rattle.std.proofs.Common.{◌≡◌, ◌∙◌, ℕ, zero, suc, ◌+◌, ◌-◌, ◌<◌, ◌≤◌, List, [], ◌∷◌, ◌++◌, length, get_or, set, take, drop, refl, sym, subst, ap, arith, length-take, length-drop, length-set, ◌^◌, ◌==◌, Option, Result, Ok, Err, true, false, cond, inl, inr, get_or-take, get_or-drop}
use Rattle.std.specs.List.{swap}
use Rattle.std.specs.Result.{OnErr}
use Rattle.std.proofs.lemmas.List.{get_or_default, set_past, length-map, take-take, drop-take, drop-drop, take-append-le, take_all, drop_at, map-append, map-set, get_or-map, drop-set-add, drop-set-lt, take-set-le}
use Rattle.std.proofs.lemmas.List.Edits.{swap_is}
use Rattle.std.proofs.lemmas.Bool.{cases_lt}
use Rattle.clause_arena.specs.declared.place.Link.{Link}
use Rattle.clause_arena.specs.declared.arena.Head.{Head}
use Rattle.clause_arena.specs.Records.{Record, record_at, with_link, with_lits_swapped}
use Rattle.clause_arena.specs.Layout.{record_of, records_of, AreInOrder, with_head_link}

-- the place that the ranges begin from is not past their end
pub AreInOrder-within : (heads : List Head) (from end : ℕ) → AreInOrder from heads end → from ≤ end
AreInOrder-within [] from end o = o
AreInOrder-within (h ∷ heads) from end o =
    let rest = AreInOrder-within heads (h.start + h.len) end o.1 in let below = o.0 in omega arith

-- a later end
pub AreInOrder-later : (heads : List Head) (from end more : ℕ) → AreInOrder from heads end → end ≤ more → AreInOrder from heads more
AreInOrder-later [] from end more o le = let first = o in omega arith
AreInOrder-later (h ∷ heads) from end more o le = (o.0, AreInOrder-later heads (h.start + h.len) end more o.1 le)

-- an earlier place to begin from
pub AreInOrder-earlier : (heads : List Head) (from end less : ℕ) → AreInOrder from heads end → less ≤ from → AreInOrder less heads end
AreInOrder-earlier [] from end less o le = let first = o in omega arith
AreInOrder-earlier (h ∷ heads) from end less o le = let first = o.0 in (omega arith, o.1)

-- one more head at the end
pub AreInOrder-push : (heads : List Head) (from end : ℕ) (g : Head) (more : ℕ) → AreInOrder from heads end → end ≤ g.start → g.start + g.len ≤ more → AreInOrder from (heads ++ g ∷ []) more
AreInOrder-push [] from end g more o begins ends = let first = o in (omega arith, ends)
AreInOrder-push (h ∷ heads) from end g more o begins ends =
    (o.0, AreInOrder-push heads (h.start + h.len) end g more o.1 begins ends)

-- the range of one head
pub AreInOrder-at : (heads : List Head) (from end i : ℕ) (d : Head) → AreInOrder from heads end → i < length heads → (from ≤ (get_or heads i d).start) × ((get_or heads i d).start + (get_or heads i d).len ≤ end)
AreInOrder-at [] from end i d o lt = absurd (omega arith)
AreInOrder-at (h ∷ heads) from end zero d o lt = (o.0, AreInOrder-within heads (h.start + h.len) end o.1)
AreInOrder-at (h ∷ heads) from end (suc i) d o lt =
    let rest = AreInOrder-at heads (h.start + h.len) end i d o.1 (omega arith) in let begins = o.0 in let r0 = rest.0 in (omega arith, rest.1)

-- a head in place of one with the same range
pub AreInOrder-set : (heads : List Head) (from end i : ℕ) (g : Head) → AreInOrder from heads end → g.start ≡ (get_or heads i g).start → g.len ≡ (get_or heads i g).len → AreInOrder from (set heads i g) end
AreInOrder-set [] from end i g o start len = o
AreInOrder-set (h ∷ heads) from end zero g o start len = rw (start, len) o
AreInOrder-set (h ∷ heads) from end (suc i) g o start len =
    (o.0, AreInOrder-set heads (h.start + h.len) end i g o.1 start len)

-- a range below a place up to which two lists agree
pub range_below : (xs ys : List ℕ) (start len end : ℕ) → start + len ≤ end → take end xs ≡ take end ys → take len (drop start xs) ≡ take len (drop start ys)
range_below xs ys start len end le same =
    sym (drop-take start len xs) ∙ ap (drop start) (sym (take-take (start + len) end xs le) ∙ ap (take (start + len)) same ∙ take-take (start + len) end ys le) ∙ drop-take start len ys

-- a range from a place on from which two lists agree
pub range_above : (xs ys : List ℕ) (start len from : ℕ) → from ≤ start → drop from xs ≡ drop from ys → take len (drop start xs) ≡ take len (drop start ys)
range_above xs ys start len from le same =
    let e : from + (start - from) ≡ start = omega arith in
    let left : drop start xs ≡ drop (start - from) (drop from xs) = sym (drop-drop (start - from) from xs ∙ ap (λ (n : ℕ). drop n xs) e) in
    let right : drop (start - from) (drop from ys) ≡ drop start ys = drop-drop (start - from) from ys ∙ ap (λ (n : ℕ). drop n ys) e in
    ap (take len) (left ∙ ap (drop (start - from)) same ∙ right)

-- the record of a head over lists that agree on its range
pub record_of-same : (xs ys : List ℕ) (h : Head) → take h.len (drop h.start xs) ≡ take h.len (drop h.start ys) → record_of xs h ≡ record_of ys h
record_of-same xs ys h e = cc

-- lists of codes that agree up to the end of the ranges
pub records_of-below : (xs ys : List ℕ) (heads : List Head) (from end : ℕ) → take end xs ≡ take end ys → AreInOrder from heads end → records_of xs heads ≡ records_of ys heads
records_of-below xs ys [] from end same o = refl
records_of-below xs ys (h ∷ heads) from end same o =
    let one = record_of-same xs ys h (range_below xs ys h.start h.len end (AreInOrder-within heads (h.start + h.len) end o.1) same) in
    let rest = records_of-below xs ys heads (h.start + h.len) end same o.1 in cc

-- lists of codes that agree from the beginning of the ranges on
pub records_of-above : (xs ys : List ℕ) (heads : List Head) (from end : ℕ) → drop from xs ≡ drop from ys → AreInOrder from heads end → records_of xs heads ≡ records_of ys heads
records_of-above xs ys [] from end same o = refl
records_of-above xs ys (h ∷ heads) from end same o =
    let one = record_of-same xs ys h (range_above xs ys h.start h.len from o.0 same) in
    let le : from ≤ h.start + h.len = (let begins = o.0 in omega arith) in
    let e : from + ((h.start + h.len) - from) ≡ h.start + h.len = omega arith in
    let later : drop (h.start + h.len) xs ≡ drop (h.start + h.len) ys =
    sym (drop-drop ((h.start + h.len) - from) from xs ∙ ap (λ (n : ℕ). drop n xs) e) ∙ ap (drop ((h.start + h.len) - from)) same ∙ (drop-drop ((h.start + h.len) - from) from ys ∙ ap (λ (n : ℕ). drop n ys) e) in
    let rest = records_of-above xs ys heads (h.start + h.len) end later o.1 in cc

-- more codes at the end change no record
pub records_of-grown : (codes more : List ℕ) (heads : List Head) → AreInOrder 0 heads (length codes) → records_of (codes ++ more) heads ≡ records_of codes heads
records_of-grown codes more heads o =
    records_of-below (codes ++ more) codes heads 0 (length codes) (take-append-le (length codes) codes more (omega arith)) o

-- a clause put at the end
pub records_of-put : (codes more : List ℕ) (heads : List Head) (g : Head) → AreInOrder 0 heads (length codes) → g.start ≡ length codes → g.len ≡ length more → records_of (codes ++ more) (heads ++ g ∷ []) ≡ records_of codes heads ++ record { id = g.id; lits = more; live = g.live; link_0 = g.link_0; link_1 = g.link_1 } ∷ []
records_of-put codes more heads g o start len =
    let lits : take g.len (drop g.start (codes ++ more)) ≡ more =
    ap (take g.len) (drop_at codes more g.start (sym start)) ∙ take_all g.len more (omega arith) in
    let split = map-append (record_of (codes ++ more)) heads (g ∷ []) in
    let old = records_of-grown codes more heads o in
    cc

-- the record under a Ref
pub record_at-records_of : (codes : List ℕ) (heads : List Head) (i : ℕ) (h : Head) → i < length heads → h ≡ get_or heads i h → record_at (records_of codes heads) i ≡ record_of codes h
record_at-records_of codes heads i h lt is =
    get_or-map (record_of codes) heads i h _ lt ∙ ap (record_of codes) (sym is)

-- the record under a Ref is that of the head there
pub record-is : (codes : List ℕ) (heads : List Head) (i : ℕ) (h : Head) (rs : List Record) (at : ℕ) → records_of codes heads ≡ rs → i ≡ at → at < length rs → h ≡ get_or heads i h → record_at rs at ≡ record_of codes h
record-is codes heads i h rs at view same lt is =
    let len : length rs ≡ length heads = ap length (sym view) ∙ length-map heads (record_of codes) in
    let inside : i < length heads = omega arith in
    let found = record_at-records_of codes heads i h inside is in
    ap (λ (xs : List Record). record_at xs at) (sym view) ∙ ap (λ (n : ℕ). record_at (records_of codes heads) n) (sym same) ∙ found

-- a record changed by a change of its head
pub records_of-changed : (codes : List ℕ) (heads : List Head) (i : ℕ) (h g : Head) (f : Record → Record) (rs : List Record) (at : ℕ) → records_of codes heads ≡ rs → i ≡ at → at < length rs → h ≡ get_or heads i h → record_of codes g ≡ f (record_of codes h) → records_of codes (set heads i g) ≡ set rs at (f (record_at rs at))
records_of-changed codes heads i h g f rs at view same lt is changed =
    let found = record-is codes heads i h rs at view same lt is in
    map-set (record_of codes) heads i g ∙ ap (set (records_of codes heads) i) changed ∙ ap (λ (r : Record). set (records_of codes heads) i (f r)) (sym found) ∙ ap (λ (xs : List Record). set xs i (f (record_at rs at))) view ∙ ap (λ (n : ℕ). set rs n (f (record_at rs at))) same

-- how many literals a head's record has
pub length-lits : (codes : List ℕ) (heads : List Head) (i : ℕ) (h : Head) → AreInOrder 0 heads (length codes) → i < length heads → h ≡ get_or heads i h → length (take h.len (drop h.start codes)) ≡ h.len
length-lits codes heads i h o lt is =
    let range = AreInOrder-at heads 0 (length codes) i h o lt in
    let e : (get_or heads i h).start + (get_or heads i h).len ≤ length codes = range.1 in
    let within : h.start + h.len ≤ length codes = subst (λ (g : Head). g.start + g.len ≤ length codes) (sym is) e in
    simp (length-take, length-drop) (omega arith)

-- a write below the end of a prefix
pub take-set_inside : (n : ℕ) (xs : List ℕ) (i y : ℕ) → i < n → take n (set xs i y) ≡ set (take n xs) i y
take-set_inside zero xs i y lt = absurd (omega arith)
take-set_inside (suc n) [] i y lt = refl
take-set_inside (suc n) (x ∷ xs) zero y lt = refl
take-set_inside (suc n) (x ∷ xs) (suc i) y lt = ap (λ (ys : List ℕ). x ∷ ys) (take-set_inside n xs i y (omega arith))

-- a write inside a range
pub range-set : (xs : List ℕ) (start len a y : ℕ) → a < len → take len (drop start (set xs (start + a) y)) ≡ set (take len (drop start xs)) a y
range-set xs start len a y lt =
    rw (drop-set-add start xs a y) (take-set_inside len (drop start xs) a y lt)

-- two literals exchanged inside a range
pub range-swap : (xs : List ℕ) (start len a b : ℕ) → a < len → b < len → start + len ≤ length xs → take len (drop start (swap xs (start + a) (start + b))) ≡ swap (take len (drop start xs)) a b
range-swap xs start len a b la lb le =
    let in_a : start + a < length xs = omega arith in
    let in_b : start + b < length xs = omega arith in
    let size : length (take len (drop start xs)) ≡ len = simp (length-take, length-drop) (omega arith) in
    let at_a : get_or (take len (drop start xs)) a 0 ≡ get_or xs (start + a) 0 = rw (get_or-take, get_or-drop) refl in
    let at_b : get_or (take len (drop start xs)) b 0 ≡ get_or xs (start + b) 0 = rw (get_or-take, get_or-drop) refl in
    let whole = swap_is xs (start + a) (start + b) 0 in_a in_b in
    let part = swap_is (take len (drop start xs)) a b 0 (omega arith) (omega arith) in
    let first = range-set xs start len a (get_or xs (start + b) 0) la in
    let second = range-set (set xs (start + a) (get_or xs (start + b) 0)) start len b (get_or xs (start + a) 0) lb in
    ap (λ (ys : List ℕ). take len (drop start ys)) (sym whole) ∙ second ∙ ap (λ (ys : List ℕ). set ys b (get_or xs (start + a) 0)) first ∙ (rw (sym at_a, sym at_b) part)

-- an exchange changes nothing below the two places
pub take-swap : (xs : List ℕ) (p q end : ℕ) → end ≤ p → end ≤ q → p < length xs → q < length xs → take end (swap xs p q) ≡ take end xs
take-swap xs p q end lp lq ip iq =
    ap (take end) (sym (swap_is xs p q 0 ip iq)) ∙ take-set-le end (set xs p (get_or xs q 0)) q (get_or xs p 0) lq ∙ take-set-le end xs p (get_or xs q 0) lp

-- an exchange changes nothing above the two places
pub drop-swap : (xs : List ℕ) (p q from : ℕ) → p < from → q < from → p < length xs → q < length xs → drop from (swap xs p q) ≡ drop from xs
drop-swap xs p q from lp lq ip iq =
    ap (drop from) (sym (swap_is xs p q 0 ip iq)) ∙ drop-set-lt from (set xs p (get_or xs q 0)) q (get_or xs p 0) lq ∙ drop-set-lt from xs p (get_or xs q 0) lp

-- two literals of one record exchanged
pub records_of-swap : (codes : List ℕ) (heads : List Head) (from i a b : ℕ) (h : Head) → AreInOrder from heads (length codes) → i < length heads → h ≡ get_or heads i h → a < h.len → b < h.len → records_of (swap codes (h.start + a) (h.start + b)) heads ≡ set (records_of codes heads) i (with_lits_swapped (record_of codes h) a b)
records_of-swap codes [] from i a b h o lt is la lb = absurd (omega arith)
records_of-swap codes (g ∷ heads) from zero a b h o lt is la lb =
    let end : g.start + g.len ≤ length codes = AreInOrder-within heads (g.start + g.len) (length codes) o.1 in
    let end_h : h.start + h.len ≤ length codes = subst (λ (k : Head). k.start + k.len ≤ length codes) (sym is) end in
    let in_a : h.start + a < length codes = omega arith in
    let in_b : h.start + b < length codes = omega arith in
    let lits = range-swap codes h.start h.len a b la lb end_h in
    let above = drop-swap codes (h.start + a) (h.start + b) (h.start + h.len) (omega arith) (omega arith) in_a in_b in
    let above_g : drop (g.start + g.len) (swap codes (h.start + a) (h.start + b)) ≡ drop (g.start + g.len) codes =
    subst (λ (k : Head). drop (k.start + k.len) (swap codes (h.start + a) (h.start + b)) ≡ drop (k.start + k.len) codes) is above in
    let rest = records_of-above (swap codes (h.start + a) (h.start + b)) codes heads (g.start + g.len) (length codes) above_g o.1 in
    let one : record_of (swap codes (h.start + a) (h.start + b)) h ≡ with_lits_swapped (record_of codes h) a b = cc in
    let same : record_of (swap codes (h.start + a) (h.start + b)) g ≡ record_of (swap codes (h.start + a) (h.start + b)) h = ap (record_of (swap codes (h.start + a) (h.start + b))) (sym is) in
    cc
records_of-swap codes (g ∷ heads) from (suc i) a b h o lt is la lb =
    let range = AreInOrder-at heads (g.start + g.len) (length codes) i h o.1 (omega arith) in
    let begins : g.start + g.len ≤ h.start = subst (λ (k : Head). g.start + g.len ≤ k.start) (sym is) range.0 in
    let ends : h.start + h.len ≤ length codes = subst (λ (k : Head). k.start + k.len ≤ length codes) (sym is) range.1 in
    let below = take-swap codes (h.start + a) (h.start + b) (g.start + g.len) (omega arith) (omega arith) (omega arith) (omega arith) in
    let one = record_of-same (swap codes (h.start + a) (h.start + b)) codes g (range_below (swap codes (h.start + a) (h.start + b)) codes g.start g.len (g.start + g.len) (omega arith) below) in
    let rest = records_of-swap codes heads (g.start + g.len) i a b h o.1 (omega arith) is la lb in
    cc

-- a head in place of one with the same range, with the bound on their number
pub AreInOrder-replaced : (heads : List Head) (end i : ℕ) (h g : Head) → AreInOrder 0 heads end × (length heads ≤ 2 ^ 32) → h ≡ get_or heads i h → g.start ≡ h.start → g.len ≡ h.len → AreInOrder 0 (set heads i g) end × (length (set heads i g) ≤ 2 ^ 32)
AreInOrder-replaced heads end i h g o is start len =
    elim (cases_lt i (length heads)) [
      | inl lt ↦
          let there : h ≡ get_or heads i g = is ∙ get_or_default heads i h g lt in
          (AreInOrder-set heads 0 end i g o.0 (start ∙ ap (λ (k : Head). k.start) there) (len ∙ ap (λ (k : Head). k.len) there), simp length-set o.1)
      | inr ge ↦ rw (set_past heads i g ge) o
    ]

-- the record of a head with one link set
pub record_of-linked : (codes : List ℕ) (h g : Head) (slot : ℕ) (to : Option Link) → g ≡ with_head_link h slot to → record_of codes g ≡ with_link (record_of codes h) slot to
record_of-linked codes h g slot to is =
    ap (record_of codes) is ∙ elim (slot == 0) as (λ b. record_of codes (cond b (record h { link_0 = to }) (record h { link_1 = to })) ≡ cond b (record (record_of codes h) { link_0 = to }) (record (record_of codes h) { link_1 = to })) [ true ↦ refl | false ↦ refl ]

-- a link keeps the range
pub linked-range : (h : Head) (slot : ℕ) (to : Option Link) → ((with_head_link h slot to).start ≡ h.start) × ((with_head_link h slot to).len ≡ h.len)
linked-range h slot to =
    elim (slot == 0) as (λ b. ((cond b (record h { link_0 = to }) (record h { link_1 = to })).start ≡ h.start) × ((cond b (record h { link_0 = to }) (record h { link_1 = to })).len ≡ h.len)) [ true ↦ (refl, refl) | false ↦ (refl, refl) ]

-- there are as many records as heads
pub length-records_of : (codes : List ℕ) (heads : List Head) (rs : List Record) → records_of codes heads ≡ rs → length heads ≡ length rs
length-records_of codes heads rs view = sym (length-map heads (record_of codes)) ∙ ap length view

-- how many literals the record under a Ref has
pub length-lits_at : (codes : List ℕ) (heads : List Head) (i : ℕ) (h : Head) (rs : List Record) (at : ℕ) → AreInOrder 0 heads (length codes) → records_of codes heads ≡ rs → i ≡ at → at < length rs → h ≡ get_or heads i h → h.len ≡ length (record_at rs at).lits
length-lits_at codes heads i h rs at o view same lt is =
    let found = record-is codes heads i h rs at view same lt is in
    let count = length-records_of codes heads rs view in
    sym (ap (λ (r : Record). length r.lits) found ∙ length-lits codes heads i h o (omega arith) is)

-- two literals of the record under a Ref exchanged
pub records_of-swapped : (codes : List ℕ) (heads : List Head) (i a b : ℕ) (h : Head) (rs : List Record) (at : ℕ) → AreInOrder 0 heads (length codes) → records_of codes heads ≡ rs → i ≡ at → at < length rs → h ≡ get_or heads i h → a < length (record_at rs at).lits → b < length (record_at rs at).lits → records_of (swap codes (h.start + a) (h.start + b)) heads ≡ set rs at (with_lits_swapped (record_at rs at) a b)
records_of-swapped codes heads i a b h rs at o view same lt is la lb =
    let found = record-is codes heads i h rs at view same lt is in
    let count = length-records_of codes heads rs view in
    let len = length-lits_at codes heads i h rs at o view same lt is in
    let changed = records_of-swap codes heads 0 i a b h o (omega arith) is (omega arith) (omega arith) in
    changed ∙ ap (λ (r : Record). set (records_of codes heads) i (with_lits_swapped r a b)) (sym found) ∙ ap (λ (xs : List Record). set xs i (with_lits_swapped (record_at rs at) a b)) view ∙ ap (λ (n : ℕ). set rs n (with_lits_swapped (record_at rs at) a b)) same

-- a fact stands beside an error too
pub on_err : {T E P : Type 0} (r : Result T E) → P → OnErr r P
on_err (Ok x) p = tt
on_err (Err e) p = p
