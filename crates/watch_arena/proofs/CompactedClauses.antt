-- What a compaction leaves: records, places, and the list of short clauses.
use Rattle.std.proofs.Common.{◌≡◌, ◌≢◌, ◌∙◌, ◌⊎◌, ℕ, zero, suc, ◌+◌, ◌-◌, ◌*◌, ◌<◌, ◌≤◌, Bool, true, false, cond, List, [], ◌∷◌, ◌++◌, length, get_or, set, take, Option, Some, None, refl, sym, ap, subst, arith, inl, inr, length-append, length-set, length-take, get_or-set_same, get_or-set_other, get_or-take}
use Rattle.std.specs.Prelude.{is_none, option_and_then, filter}
use Rattle.std.specs.List.{Contains, count_by}
use Rattle.std.proofs.lemmas.Bool.{cases_lt, false≢true}
use Rattle.std.proofs.lemmas.List.{length-map, get_or-map, get_or_past, take_all}
use Rattle.std.proofs.lemmas.List.Sums.{length-filter, sum_by-cons}
use Rattle.clause_arena.specs.Records.{Record, record_at, no_record, unlinked, compacted}
use Rattle.clause_arena.specs.Movings.{new_ref, place_after}
use Rattle.clause_arena.proofs.PackInvariant.{compacted_more, record_at-compacted}
use Rattle.watch_arena.specs.declared.places.Place.{Place}
use Rattle.watch_arena.specs.declared.engine.Engine.{Engine}
use Rattle.watch_arena.specs.Places.{place_at, no_place, places_with, is_assumed, level_of}
use Rattle.watch_arena.specs.Chains.{AreChains, IsNone}
use Rattle.watch_arena.specs.Compactions.{IsMended, Relinks, Compacts}
use Rattle.watch_arena.specs.Trails.{IsCompacted}
use Rattle.watch_arena.specs.Engines.{mark_of, AreMarked, IsReasonBelow, IsSettledAt, IsWatched, IsShort, IsEngine, trail_state}
use Rattle.watch_arena.proofs.WatchedPair.{contains_at, index_of}
use Rattle.watch_arena.proofs.ByIndex.{cases_bool}
use Rattle.watch_arena.proofs.BareEngine.{IsBare, IsEngine-of, IsBare-linked, SameRecords-bodies}

-- the live record that comes to a place
came-front : (rs : List Record) (i to : ℕ) → i ≤ length rs → to < length (compacted (take i rs)) → (at : ℕ) × ((record_at rs at).live ≡ true) × (count_by (λ r. r.live) (take at rs) ≡ to)
came-front rs zero to le lt = absurd (omega arith)
came-front rs (suc i) to le lt =
    let next : suc i ≡ i + 1 = omega arith in
    let whole : compacted (take (suc i) rs) ≡ compacted (take i rs) ++ cond (record_at rs i).live (unlinked (record_at rs i) ∷ []) [] = ap (λ (n : ℕ). compacted (take n rs)) next ∙ compacted_more rs i (omega arith) in
    let size : length (compacted (take (suc i) rs)) ≡ length (compacted (take i rs)) + length (cond (record_at rs i).live (unlinked (record_at rs i) ∷ []) []) = ap length whole ∙ length-append (compacted (take i rs)) (cond (record_at rs i).live (unlinked (record_at rs i) ∷ []) []) in
    let count : length (compacted (take i rs)) ≡ count_by (λ r. r.live) (take i rs) = length-map (filter (λ r. r.live) (take i rs)) unlinked ∙ length-filter (λ r. r.live) (take i rs) in
    elim (cases_lt to (length (compacted (take i rs)))) [
      | inl before ↦ came-front rs i to (omega arith) before
      | inr late ↦ elim (cases_bool (record_at rs i).live) [
        | inl on ↦
            let one : length (cond (record_at rs i).live (unlinked (record_at rs i) ∷ []) []) ≡ 1 = ap (λ (b : Bool). length (cond b (unlinked (record_at rs i) ∷ []) [])) on in
            (i, on, omega arith)
        | inr off ↦
            let none : length (cond (record_at rs i).live (unlinked (record_at rs i) ∷ []) []) ≡ 0 = ap (λ (b : Bool). length (cond b (unlinked (record_at rs i) ∷ []) [])) off in
            absurd (omega arith)
      ]
    ]

-- what is known of it
pub record CameFrom (rs : List Record) (to : ℕ) : Type 0 where
  pub at : ℕ
  pub live : (record_at rs at).live ≡ true
  pub place : place_after rs at ≡ Some to
  pub same : record_at (compacted rs) to ≡ unlinked (record_at rs at)

-- where a live record goes
pub place-live : (rs : List Record) (at : ℕ) → (record_at rs at).live ≡ true → place_after rs at ≡ Some (count_by (λ r. r.live) (take at rs))
place-live rs at on = ap (λ (b : Bool). cond b (Some (count_by (λ r. r.live) (take at rs))) None) on

pub came : (rs : List Record) (to : ℕ) → to < length (compacted rs) → CameFrom rs to
came rs to lt =
    let all : take (length rs) rs ≡ rs = take_all (length rs) rs (omega arith) in
    let size : length (compacted (take (length rs) rs)) ≡ length (compacted rs) = ap (λ (xs : List Record). length (compacted xs)) all in
    let found = came-front rs (length rs) to (omega arith) (omega arith) in
    record {
      at = found.0;
      live = found.1;
      place = place-live rs found.0 found.1 ∙ ap Some found.2;
      same = ap (record_at (compacted rs)) (sym found.2) ∙ (record_at-compacted rs found.0 found.1).1;
    }

-- for a live record that is left, and for one with a literal
came-live : (rs : List Record) (to : ℕ) → (record_at (compacted rs) to).live ≡ true → CameFrom rs to
came-live rs to on = elim (cases_lt to (length (compacted rs))) [
  | inl lt ↦ came rs to lt
  | inr ge ↦ absurd (let off : (record_at (compacted rs) to).live ≡ false = ap (λ (r : Record). r.live) (get_or_past (compacted rs) to no_record ge) in false≢true (sym off ∙ on))
]

came-lit : (rs : List Record) (to lit : ℕ) → Contains (record_at (compacted rs) to).lits lit → CameFrom rs to
came-lit rs to lit c = elim (cases_lt to (length (compacted rs))) [
  | inl lt ↦ came rs to lt
  | inr ge ↦ absurd (let none : length (record_at (compacted rs) to).lits ≡ 0 = ap (λ (r : Record). length r.lits) (get_or_past (compacted rs) to no_record ge) in let lt = c.1 in omega arith)
]

-- a record that is left is live only where it was, and goes where it was told
pub went : (rs : List Record) (at to : ℕ) → place_after rs at ≡ Some to → ((record_at rs at).live ≡ true) × (record_at (compacted rs) to ≡ unlinked (record_at rs at))
went rs at to is = elim (cases_bool (record_at rs at).live) [
  | inl on ↦
      let place : ◌≡◌ {A = Option ℕ} (Some (count_by (λ r. r.live) (take at rs))) (Some to) = sym (place-live rs at on) ∙ is in
      let same : count_by (λ r. r.live) (take at rs) ≡ to = cc in
      (on, ap (record_at (compacted rs)) (sym same) ∙ (record_at-compacted rs at on).1)
  | inr off ↦ absurd (let clash : ◌≡◌ {A = Option ℕ} None (Some to) = sym (ap (λ (b : Bool). cond b (Some (count_by (λ r. r.live) (take at rs))) None) off) ∙ is in cc)
]

-- places by other names
pub place_at-with : (name : ℕ → Option ℕ) (places : List Place) (p : ℕ) → p < length places → place_at (places_with name places) p ≡ record (place_at places p) { reason = option_and_then name (place_at places p).reason }
place_at-with name places p lt = get_or-map (λ (x : Place). let y : Place = record x { reason = option_and_then name x.reason } in y) places p no_place no_place lt

pub length-with : (name : ℕ → Option ℕ) (places : List Place) → length (places_with name places) ≡ length places
length-with name places = length-map places (λ (x : Place). let y : Place = record x { reason = option_and_then name x.reason } in y)

-- a literal stands where it stood
lit-with : (name : ℕ → Option ℕ) (places : List Place) (p : ℕ) → (place_at (places_with name places) p).lit ≡ (place_at places p).lit
lit-with name places p =
    let size = length-with name places in
    elim (cases_lt p (length places)) [
      | inl lt ↦ ap (λ (x : Place). x.lit) (place_at-with name places p lt)
      | inr ge ↦ ap (λ (x : Place). x.lit) (get_or_past (places_with name places) p no_place (omega arith)) ∙ sym (ap (λ (x : Place). x.lit) (get_or_past places p no_place ge))
    ]

-- a place stays implied or assumed, where each reason has another name
pub Named : (ℕ → Option ℕ) → Option ℕ → Type 0
Named name reason = (at : ℕ) → reason ≡ Some at → is_none (name at) ≡ false

assumed-with : (name : ℕ → Option ℕ) (reason : Option ℕ) → Named name reason → is_none (option_and_then name reason) ≡ is_none reason
unfolding Named
assumed-with name None named = refl
assumed-with name (Some at) named = named at refl

-- so the levels stay
pub level_of-with : (name : ℕ → Option ℕ) (places : List Place) (n : ℕ) → ((p : ℕ) → p < length places → Named name (place_at places p).reason) → level_of (take n (places_with name places)) ≡ level_of (take n places)
level_of-with name places zero named = refl
level_of-with name [] (suc n) named = refl
level_of-with name (x ∷ places) (suc n) named =
    let y : Place = record x { reason = option_and_then name x.reason } in
    let rest : level_of (take n (places_with name places)) ≡ level_of (take n places) = level_of-with name places n (λ p lt. named (suc p) (omega arith)) in
    let here : is_assumed y ≡ is_assumed x = assumed-with name x.reason (named 0 (omega arith)) in
    sum_by-cons (λ (p : Place). cond (is_assumed p) 1 0) y (take n (places_with name places))
    ∙ ap (λ (b : Bool). cond b 1 0 + level_of (take n (places_with name places))) here
    ∙ ap (λ (m : ℕ). cond (is_assumed x) 1 0 + m) rest
    ∙ sym (sum_by-cons (λ (p : Place). cond (is_assumed p) 1 0) x (take n places))

-- each reason of a sound engine has another name
pub named-reasons : (e : Engine) → IsEngine e → (p : ℕ) → p < length e.places.list → Named (place_after e.arena) (place_at e.places.list p).reason
unfolding Named
named-reasons e s p lt at is =
    let live = (s.reasoned p at lt is).live in
    ap is_none (place-live e.arena at live)

-- names that agree
pub places_with-same : (f g : ℕ → Option ℕ) (places : List Place) → ((at : ℕ) → f at ≡ g at) → places_with f places ≡ places_with g places
places_with-same f g [] same = refl
places_with-same f g (x ∷ places) same =
    let named : (reason : Option ℕ) → option_and_then f reason ≡ option_and_then g reason = λ reason. elim reason as (λ r. option_and_then f r ≡ option_and_then g r) [ None ↦ refl | Some at ↦ same at ] in
    let first : ◌≡◌ {A = Place} (record x { reason = option_and_then f x.reason }) (record x { reason = option_and_then g x.reason }) = ap (λ (r : Option ℕ). let y : Place = record x { reason = r } in y) (named x.reason) in
    ap (λ (y : Place). y ∷ places_with f places) first ∙ ap (λ (ys : List Place). record x { reason = option_and_then g x.reason } ∷ ys) (places_with-same f g places same)

-- where the new name of a reason comes from
reason-from : (name : ℕ → Option ℕ) (reason : Option ℕ) (to : ℕ) → option_and_then name reason ≡ Some to → (at : ℕ) × (reason ≡ Some at) × (name at ≡ Some to)
reason-from name None to is = absurd (let clash : ◌≡◌ {A = Option ℕ} None (Some to) = is in cc)
reason-from name (Some at) to is = (at, refl, is)

-- the marks are those of the places
AreMarked-with : (name : ℕ → Option ℕ) (marks : List ℕ) (places : List Place) (variables : ℕ) → AreMarked marks places variables → AreMarked marks (places_with name places) variables
AreMarked-with name marks places variables m =
    let size = length-with name places in
    record {
      size = m.size;
      back = λ p lt. ap (mark_of marks) (lit-with name places p) ∙ m.back p (omega arith);
      forth = λ lit pos. let was = m.forth lit pos in let le = was.0 in (omega arith, lit-with name places (mark_of marks lit - 1) ∙ was.1);
      apart = m.apart;
    }

-- what was settled is so, and no short clause counts as met
IsSettledAt-compacted : (rs : List Record) (shorts now marks : List ℕ) (h s n : ℕ) → ((at to : ℕ) → Contains shorts at → place_after rs at ≡ Some to → Contains now to) → IsSettledAt rs shorts marks h s n → IsSettledAt (compacted rs) now marks h 0 n
IsSettledAt-compacted rs shorts now marks h s n moved p = record {
  within = p.within;
  watched = λ to a b live w f.
      let c = came-live rs to live in
      p.watched c.at a b c.live (subst (λ (r : Record). IsWatched r.lits a b) c.same w) f;
  alone = record {
    within = omega arith;
    each = λ to live short.
        let c = came-live rs to live in
        let was = p.alone.each c.at c.live (subst (λ (r : Record). IsShort r.lits) c.same short) in
        let entry = index_of now to (moved c.at to (contains_at shorts was.index c.at was.within was.found) c.place) in
        record { index = entry.0; within = entry.1; found = entry.2; settled = λ lt. absurd (omega arith) };
  };
}

-- all that is so beside the chains
pub IsBare-compacted : (e new : Engine) → IsEngine e → new.arena ≡ compacted e.arena → new.places.list ≡ places_with (place_after e.arena) e.places.list → new.places.room ≡ e.places.room → ((at to : ℕ) → Contains e.shorts at → place_after e.arena at ≡ Some to → Contains new.shorts to) → new.marks ≡ e.marks → new.heads ≡ e.heads → length new.firsts ≡ length e.firsts → ((p : ℕ) → p < length e.places.list → get_or new.firsts p 0 ≤ 0) → new.queue_head ≡ e.queue_head → new.first ≡ 0 → new.variables ≡ e.variables → new.moves.pairs ≡ [] → IsBare new
IsBare-compacted e new s arena places room shorts marks heads firsts_size firsts queue_head first variables pairs =
    let rs : List Record = e.arena in
    let name : ℕ → Option ℕ = place_after e.arena in
    let size : length new.places.list ≡ length e.places.list = ap length places ∙ length-with (place_after e.arena) e.places.list in
    let few = s.few in let rooms = s.room in let firsts_all = s.firsts in
    let named = named-reasons e s in
    let settled : (h f n : ℕ) → IsSettledAt e.arena e.shorts e.marks h f n → IsSettledAt new.arena new.shorts new.marks h 0 n = λ h f n p.
    subst (λ (xs : List Record). IsSettledAt xs new.shorts new.marks h 0 n) (sym arena) (subst (λ (ms : List ℕ). IsSettledAt (compacted e.arena) new.shorts ms h 0 n) (sym marks) (IsSettledAt-compacted e.arena e.shorts new.shorts e.marks h f n shorts p)) in
    record {
      few = omega arith;
      no_pairs = pairs;
      room = omega arith;
      heads = ap length heads ∙ s.heads ∙ sym variables;
      firsts = firsts_size ∙ s.firsts ∙ sym variables;
      marked = subst (λ (ms : List ℕ). AreMarked ms new.places.list new.variables) (sym marks) (subst (λ (ps : List Place). AreMarked e.marks ps new.variables) (sym places) (subst (λ (v : ℕ). AreMarked e.marks (places_with (place_after e.arena) e.places.list) v) (sym variables) (AreMarked-with (place_after e.arena) e.marks e.places.list e.variables s.marked)));
      in_range = λ to lit c.
          let d : Contains (record_at (compacted e.arena) to).lits lit = subst (λ (xs : List Record). Contains (record_at xs to).lits lit) arena c in
          let f = came-lit e.arena to lit d in
          let below = s.in_range f.at lit (subst (λ (r : Record). Contains r.lits lit) f.same d) in
          omega arith;
      reasoned = λ p to lt is.
          let below : p < length e.places.list = omega arith in
          let place : place_at new.places.list p ≡ record (place_at e.places.list p) { reason = option_and_then (place_after e.arena) (place_at e.places.list p).reason } = ap (λ (ps : List Place). place_at ps p) places ∙ place_at-with (place_after e.arena) e.places.list p below in
          let lit : (place_at new.places.list p).lit ≡ (place_at e.places.list p).lit = ap (λ (x : Place). x.lit) place in
          let from = reason-from (place_after e.arena) (place_at e.places.list p).reason to (sym (ap (λ (x : Place). x.reason) place) ∙ is) in
          let was = s.reasoned p from.0 below from.1 in
          let w = went e.arena from.0 to from.2 in
          let here : IsReasonBelow (unlinked (record_at e.arena from.0)) e.marks p (place_at e.places.list p).lit = record { live = was.live; has = was.has; others = was.others } in
          let there : IsReasonBelow (record_at (compacted e.arena) to) e.marks p (place_at e.places.list p).lit = subst (λ (r : Record). IsReasonBelow r e.marks p (place_at e.places.list p).lit) (sym w.1) here in
          let now : IsReasonBelow (record_at new.arena to) e.marks p (place_at e.places.list p).lit = subst (λ (xs : List Record). IsReasonBelow (record_at xs to) e.marks p (place_at e.places.list p).lit) (sym arena) there in
          subst (λ (ms : List ℕ). IsReasonBelow (record_at new.arena to) ms p (place_at new.places.list p).lit) (sym marks) (subst (λ (l : ℕ). IsReasonBelow (record_at new.arena to) e.marks p l) (sym lit) now);
      kinds = λ to live.
          let d : (record_at (compacted e.arena) to).live ≡ true = subst (λ (xs : List Record). (record_at xs to).live ≡ true) arena live in
          let f = came-live e.arena to d in
          let P : Record → Type 0 = λ r. IsShort r.lits ⊎ IsWatched r.lits (get_or r.lits 0 0) (get_or r.lits 1 0) in
          subst (λ (xs : List Record). P (record_at xs to)) (sym arena) (subst P (sym f.same) (s.kinds f.at f.live));
      levelled = λ p lt.
          let below : p < length e.places.list = omega arith in
          let place : place_at new.places.list p ≡ record (place_at e.places.list p) { reason = option_and_then (place_after e.arena) (place_at e.places.list p).reason } = ap (λ (ps : List Place). place_at ps p) places ∙ place_at-with (place_after e.arena) e.places.list p below in
          ap (λ (x : Place). x.level) place ∙ s.levelled p below ∙ sym (level_of-with (place_after e.arena) e.places.list (p + 1) named) ∙ sym (ap (λ (ps : List Place). level_of (take (p + 1) ps)) places);
      now = subst (λ (h : ℕ). IsSettledAt new.arena new.shorts new.marks h new.first (length new.places.list)) (sym queue_head)
          (subst (λ (f : ℕ). IsSettledAt new.arena new.shorts new.marks e.queue_head f (length new.places.list)) (sym first)
          (subst (λ (n : ℕ). IsSettledAt new.arena new.shorts new.marks e.queue_head 0 n) (sym size) (settled e.queue_head e.first (length e.places.list) s.now)));
      saved = λ p lt.
          let below : p < length e.places.list = omega arith in
          let none = firsts p below in
          let is : get_or new.firsts p 0 ≡ 0 = omega arith in
          subst (λ (f : ℕ). IsSettledAt new.arena new.shorts new.marks (get_or new.heads p 0) f p) (sym is)
          (subst (λ (hs : List ℕ). IsSettledAt new.arena new.shorts new.marks (get_or hs p 0) 0 p) (sym heads) (settled (get_or e.heads p 0) (get_or e.firsts p 0) p (s.saved p below)));
    }

-- clauses are renamed so far: those of the first entries stand before the ones that are kept, and the others where they stood
pub record Renaming (pairs : List (ℕ × ℕ)) (old new : List ℕ) (i kept : ℕ) : Type 0 where
  pub size : length new ≡ length old
  pub less : kept ≤ i
  pub rest : (k : ℕ) → i ≤ k → get_or new k 0 ≡ get_or old k 0
  pub found : (k to : ℕ) → k < i → k < length old → new_ref pairs (get_or old k 0) ≡ Some to → (m : ℕ) × (m < kept) × (get_or new m 0 ≡ to)

pub Renaming-start : (pairs : List (ℕ × ℕ)) (old : List ℕ) → Renaming pairs old old 0 0
Renaming-start pairs old = record { size = refl; less = omega arith; rest = λ k le. refl; found = λ k to lt below is. absurd (omega arith) }

pub Renaming-skip : (pairs : List (ℕ × ℕ)) (old new : List ℕ) (i kept at : ℕ) → Renaming pairs old new i kept → i < length new → at ≡ get_or new i 0 → new_ref pairs at ≡ None → Renaming pairs old new (i + 1) kept
Renaming-skip pairs old new i kept at r lt at_is none =
    let less = r.less in
    record {
      size = r.size;
      less = omega arith;
      rest = λ k le. r.rest k (omega arith);
      found = λ k to lt_k below is. elim (cases_lt k i) [
        | inl before ↦ r.found k to before below is
        | inr late ↦
            let e : k ≡ i = omega arith in
            let same : get_or old k 0 ≡ at = ap (λ (n : ℕ). get_or old n 0) e ∙ sym (r.rest i (omega arith)) ∙ sym at_is in
            absurd (let clash : ◌≡◌ {A = Option ℕ} None (Some to) = sym none ∙ ap (new_ref pairs) (sym same) ∙ is in cc)
      ];
    }

pub Renaming-keep : (pairs : List (ℕ × ℕ)) (old new : List ℕ) (i kept at to : ℕ) → Renaming pairs old new i kept → i < length new → at ≡ get_or new i 0 → new_ref pairs at ≡ Some to → Renaming pairs old (set new kept to) (i + 1) (kept + 1)
Renaming-keep pairs old new i kept at to r lt at_is some =
    let less = r.less in
    record {
      size = length-set new kept to ∙ r.size;
      less = omega arith;
      rest = λ k le. let ne : k ≢ kept = omega arith in get_or-set_other new kept k to 0 ne ∙ r.rest k (omega arith);
      found = λ k goes lt_k below is. elim (cases_lt k i) [
        | inl before ↦
            let was = r.found k goes before below is in
            let lt_m = was.1 in
            let ne : was.0 ≢ kept = omega arith in
            (was.0, omega arith, get_or-set_other new kept was.0 to 0 ne ∙ was.2)
        | inr late ↦
            let e : k ≡ i = omega arith in
            let same : get_or old k 0 ≡ at = ap (λ (n : ℕ). get_or old n 0) e ∙ sym (r.rest i (omega arith)) ∙ sym at_is in
            let both : ◌≡◌ {A = Option ℕ} (Some to) (Some goes) = sym some ∙ ap (new_ref pairs) (sym same) ∙ is in
            let one : to ≡ goes = cc in
            (kept, omega arith, get_or-set_same new kept to 0 (omega arith) ∙ one)
      ];
    }

pub IsMended-renamed : (pairs : List (ℕ × ℕ)) (old new : List ℕ) (i kept : ℕ) → Renaming pairs old new i kept → length old ≤ i → i ≤ length new → IsMended pairs old (take kept new)
IsMended-renamed pairs old new i kept r done within at to c is =
    let less = r.less in
    let entry = index_of old at c in
    let lt = entry.1 in
    let f = r.found entry.0 to (omega arith) entry.1 (ap (new_ref pairs) entry.2 ∙ is) in
    let below = f.1 in
    let size : length (take kept new) ≡ kept = simp length-take (omega arith) in
    contains_at (take kept new) f.0 to (omega arith) (get_or-take kept new f.0 0 f.1 ∙ f.2)

-- all levels stay
pub level_of-renamed : (e : Engine) → IsEngine e → level_of (places_with (place_after e.arena) e.places.list) ≡ level_of e.places.list
level_of-renamed e s =
    let size = length-with (place_after e.arena) e.places.list in
    ap level_of (sym (take_all (length e.places.list) (places_with (place_after e.arena) e.places.list) (omega arith)))
    ∙ level_of-with (place_after e.arena) e.places.list (length e.places.list) (named-reasons e s)
    ∙ ap level_of (take_all (length e.places.list) e.places.list (omega arith))

-- so it is seen of a trail
pub IsCompacted-from : (old new : Engine) → IsEngine old → Compacts old new → IsCompacted (trail_state old) (trail_state new)
IsCompacted-from old new s c = record {
  records = SameRecords-bodies (compacted old.arena) new.arena c.records;
  places = c.places;
  variables = c.variables;
  level = ap level_of c.places ∙ level_of-renamed old s;
}

-- sound again, once the chains are made
pub IsEngine-relinked : (mid new : Engine) → IsBare mid → length mid.chains ≡ 2 * mid.variables → Relinks mid new → AreChains new.arena new.chains IsNone → IsEngine new
IsEngine-relinked mid new b lists r filed =
    let made : Engine = record mid { arena = new.arena; chains = new.chains } in
    let bare = IsBare-linked mid new.arena new.chains b r.bodies in
    subst (λ (e : Engine). IsEngine e) (sym r.same) (IsEngine-of (record mid { arena = new.arena; chains = new.chains }) bare (r.size ∙ lists) filed)
