-- A clause is added.
use Rattle.std.proofs.Common.{◌≡◌, ◌≢◌, ◌∙◌, ◌⊎◌, ℕ, ◌+◌, ◌-◌, ◌*◌, ◌<◌, ◌≤◌, true, false, List, [], ◌∷◌, ◌++◌, length, get_or, set, min, Option, Some, refl, sym, ap, subst, arith, inl, inr}
use Rattle.std.specs.List.{Contains}
use Rattle.std.proofs.lemmas.Bool.{cases_eq, cases_lt}
use Rattle.std.proofs.lemmas.List.{get_or_append_left, get_or_push, get_or_past, length_push}
use Rattle.lits_core.specs.Literals.{negation_of}
use Rattle.clause_arena.specs.declared.place.Link.{Link}
use Rattle.clause_arena.specs.Records.{Record, record_at, no_record, new_record}
use Rattle.watch_arena.specs.declared.engine.Engine.{Engine}
use Rattle.watch_arena.specs.Columns.{Caps}
use Rattle.watch_arena.specs.Places.{place_at}
use Rattle.watch_arena.specs.Engines.{mark_of, TrueBelow, FalseBelow, IsReasonBelow, IsWatched, IsShort, IsShortSettled, IsSettledAt, IsEngine, IsRewound, IsUnseen}
use Rattle.watch_arena.specs.Chains.{head_of, linked, IsEntry, AreChains, IsNone, SameBodies}
use Rattle.watch_arena.proofs.BareEngine.{IsBare, IsEngine-of, IsBare-linked}
use Rattle.watch_arena.proofs.WatchChains.{AreChains-aside}
use Rattle.watch_arena.proofs.RebuiltChains.{AreFronted-both}
use Rattle.watch_arena.proofs.ChangedChains.{AreChains-put, IsOf, short_no_entry}
use Rattle.watch_arena.proofs.WatchedPair.{IsWatched-only, IsWatched-first, short_not_watched, contains_at, record_at-put, record_at-new}

-- what is settled with less of it visited
pub IsSettledAt-rewound : (records : List Record) (shorts marks : List ℕ) (h less s n : ℕ) → less ≤ h → IsSettledAt records shorts marks h s n → IsSettledAt records shorts marks less s n
IsSettledAt-rewound records shorts marks h less s n le p = record {
  within = (let w = p.within in omega arith);
  watched = λ at a b live w f. p.watched at a b live w (let pos = f.0 in let below = f.1 in (pos, omega arith));
  alone = p.alone;
}

-- propagation goes back
pub IsEngine-rewound : (e : Engine) (q : ℕ) (heads : List ℕ) (queue_head : ℕ) → IsEngine e → queue_head ≤ e.queue_head → Caps e.heads heads q (length e.places.list) q → IsEngine (record e { heads = heads; queue_head = queue_head })
IsEngine-rewound e q heads queue_head s le caps = record {
  few = s.few;
  no_pairs = s.no_pairs;
  room = s.room;
  lists = s.lists;
  heads = caps.size ∙ s.heads;
  firsts = s.firsts;
  marked = s.marked;
  in_range = s.in_range;
  reasoned = s.reasoned;
  kinds = s.kinds;
  filed = s.filed;
  levelled = s.levelled;
  now = IsSettledAt-rewound e.arena e.shorts e.marks e.queue_head queue_head e.first (length e.places.list) le s.now;
  saved = λ p lt. IsSettledAt-rewound e.arena e.shorts e.marks (get_or e.heads p 0) (get_or heads p 0) (get_or e.firsts p 0) p (caps.less p) (s.saved p lt);
}

-- then it has come no further than there
pub IsRewound-caps : (e : Engine) (q : ℕ) (heads : List ℕ) (queue_head : ℕ) → IsEngine e → queue_head ≤ q → Caps e.heads heads q (length e.places.list) q → IsRewound (record e { heads = heads; queue_head = queue_head }) q
IsRewound-caps e q heads queue_head s le caps = record {
  queue_head = le;
  heads = λ p lt. elim (cases_lt p q) [
    | inl before ↦ let less = caps.less p in let within = (s.saved p lt).within in omega arith
    | inr from ↦ caps.capped p from lt
  ];
}

-- one more short clause in the list leaves what is settled
IsSettledAt-listed : (records : List Record) (shorts marks : List ℕ) (at h s n : ℕ) → IsSettledAt records shorts marks h s n → IsSettledAt records (shorts ++ at ∷ []) marks h s n
IsSettledAt-listed records shorts marks at h s n p =
    let size = length_push shorts at in
    record {
      within = p.within;
      watched = p.watched;
      alone = record {
        within = (let w = p.alone.within in omega arith);
        each = λ b live short. let one = p.alone.each b live short in record {
          index = one.index;
          within = (let w = one.within in omega arith);
          found = get_or_append_left shorts (at ∷ []) 0 one.index one.within ∙ one.found;
          settled = one.settled;
        };
      };
    }

pub IsEngine-listed : (e : Engine) (at : ℕ) → IsEngine e → IsEngine (record e { shorts = e.shorts ++ at ∷ [] })
IsEngine-listed e at s = record {
  few = s.few;
  no_pairs = s.no_pairs;
  room = s.room;
  lists = s.lists;
  heads = s.heads;
  firsts = s.firsts;
  marked = s.marked;
  in_range = s.in_range;
  reasoned = s.reasoned;
  kinds = s.kinds;
  filed = s.filed;
  levelled = s.levelled;
  now = IsSettledAt-listed e.arena e.shorts e.marks at e.queue_head e.first (length e.places.list) s.now;
  saved = λ p lt. IsSettledAt-listed e.arena e.shorts e.marks at (get_or e.heads p 0) (get_or e.firsts p 0) p (s.saved p lt);
}

-- what a new clause needs of what is settled
record NewSettled (lits : List ℕ) (at : ℕ) (shorts marks : List ℕ) (h s n : ℕ) : Type 0 where
  watched : (a b : ℕ) → IsWatched lits a b → FalseBelow marks h a → TrueBelow marks n b
  alone : IsShort lits → IsShortSettled lits at shorts marks s n

IsSettledAt-put : (records : List Record) (r : Record) (shorts marks : List ℕ) (h s n : ℕ) → NewSettled r.lits (length records) shorts marks h s n → IsSettledAt records shorts marks h s n → IsSettledAt (records ++ r ∷ []) shorts marks h s n
IsSettledAt-put records r shorts marks h s n new p = record {
  within = p.within;
  watched = λ at a b live w f. elim (cases_eq at (length records)) [
    | inl e ↦
        let here : record_at (records ++ r ∷ []) at ≡ r = ap (record_at (records ++ r ∷ [])) e ∙ record_at-new records r in
        new.watched a b (subst (λ (x : Record). IsWatched x.lits a b) here w) f
    | inr ne ↦
        let same = record_at-put records r at ne in
        p.watched at a b (sym (ap (λ (x : Record). x.live) same) ∙ live) (subst (λ (x : Record). IsWatched x.lits a b) same w) f
  ];
  alone = record {
    within = p.alone.within;
    each = λ at live short. elim (cases_eq at (length records)) [
      | inl e ↦
          let here : record_at (records ++ r ∷ []) at ≡ r = ap (record_at (records ++ r ∷ [])) e ∙ record_at-new records r in
          let one : IsShortSettled r.lits at shorts marks s n = subst (λ (k : ℕ). IsShortSettled r.lits k shorts marks s n) (sym e) (new.alone (subst (λ (x : Record). IsShort x.lits) here short)) in
          subst (λ (x : Record). IsShortSettled x.lits at shorts marks s n) (sym here) one
      | inr ne ↦
          let same = record_at-put records r at ne in
          subst (λ (x : Record). IsShortSettled x.lits at shorts marks s n) (sym same) (p.alone.each at (sym (ap (λ (x : Record). x.live) same) ∙ live) (subst (λ (x : Record). IsShort x.lits) same short))
    ];
  };
}

-- one more record
IsBare-put : (e : Engine) (r : Record) → IsEngine e → ((lit : ℕ) → Contains r.lits lit → lit < 2 * e.variables) → IsShort r.lits ⊎ IsWatched r.lits (get_or r.lits 0 0) (get_or r.lits 1 0) → NewSettled r.lits (length e.arena) e.shorts e.marks e.queue_head e.first (length e.places.list) → ((p : ℕ) → p < length e.places.list → NewSettled r.lits (length e.arena) e.shorts e.marks (get_or e.heads p 0) (get_or e.firsts p 0) p) → IsBare (record e { arena = e.arena ++ r ∷ [] })
IsBare-put e r s range kind now saved = record {
  few = s.few;
  no_pairs = s.no_pairs;
  room = s.room;
  heads = s.heads;
  firsts = s.firsts;
  marked = s.marked;
  in_range = λ at lit c. elim (cases_eq at (length e.arena)) [
    | inl z ↦ range lit (subst (λ (x : Record). Contains x.lits lit) (ap (record_at (e.arena ++ r ∷ [])) z ∙ record_at-new e.arena r) c)
    | inr ne ↦ s.in_range at lit (subst (λ (x : Record). Contains x.lits lit) (record_at-put e.arena r at ne) c)
  ];
  reasoned = λ p at lt is.
      let was = s.reasoned p at lt is in
      let ne : at ≢ length e.arena = λ z.
      let off : (record_at e.arena at).live ≡ false = ap (λ (x : Record). x.live) (get_or_past e.arena at no_record (omega arith)) in
      let clash : true ≡ false = sym was.live ∙ off in absurd (cc) in
      subst (λ (x : Record). IsReasonBelow x e.marks p (place_at e.places.list p).lit) (sym (record_at-put e.arena r at ne)) was;
  kinds = λ at live. elim (cases_eq at (length e.arena)) [
    | inl z ↦
        let P : Record → Type 0 = λ x. IsShort x.lits ⊎ IsWatched x.lits (get_or x.lits 0 0) (get_or x.lits 1 0) in
        subst P (sym (ap (record_at (e.arena ++ r ∷ [])) z ∙ record_at-new e.arena r)) kind
    | inr ne ↦
        let P : Record → Type 0 = λ x. IsShort x.lits ⊎ IsWatched x.lits (get_or x.lits 0 0) (get_or x.lits 1 0) in
        let same = record_at-put e.arena r at ne in
        subst P (sym same) (s.kinds at (sym (ap (λ (x : Record). x.live) same) ∙ live))
  ];
  levelled = s.levelled;
  now = IsSettledAt-put e.arena r e.shorts e.marks e.queue_head e.first (length e.places.list) now s.now;
  saved = λ p lt. IsSettledAt-put e.arena r e.shorts e.marks (get_or e.heads p 0) (get_or e.firsts p 0) p (saved p lt) (s.saved p lt);
}

-- a clause of which neither watched literal counts as visited
NewSettled-watched : (lits : List ℕ) (at : ℕ) (shorts marks : List ℕ) (h s n q : ℕ) → IsWatched lits (get_or lits 0 0) (get_or lits 1 0) → h ≤ q → IsUnseen marks q (get_or lits 0 0) → IsUnseen marks q (get_or lits 1 0) → NewSettled lits at shorts marks h s n
NewSettled-watched lits at shorts marks h s n q w le u v = record {
  watched = λ a b x f. elim (IsWatched-only lits (get_or lits 0 0) (get_or lits 1 0) a b w x) [
    | inl z ↦ absurd (let g = subst (λ (l : ℕ). FalseBelow marks h l) z.0 f in let pos = g.0 in let below = g.1 in let late = u pos in omega arith)
    | inr z ↦ absurd (let g = subst (λ (l : ℕ). FalseBelow marks h l) z.0 f in let pos = g.0 in let below = g.1 in let late = v pos in omega arith)
  ];
  alone = λ short. absurd (short_not_watched lits (get_or lits 0 0) (get_or lits 1 0) short w);
}

-- a clause that is watched, once both its watches came to the front of their chains
pub IsEngine-put_watched : (e : Engine) (r : Record) (q : ℕ) (records : List Record) (chains : List (Option Link)) → IsEngine e → ((lit : ℕ) → Contains r.lits lit → lit < 2 * e.variables) → 2 ≤ length r.lits → get_or r.lits 0 0 ≢ get_or r.lits 1 0 → IsRewound e q → IsUnseen e.marks q (get_or r.lits 0 0) → IsUnseen e.marks q (get_or r.lits 1 0) → SameBodies (e.arena ++ r ∷ []) records → length chains ≡ length e.chains → AreChains records chains IsNone → IsEngine (record e { arena = records; chains = chains })
IsEngine-put_watched e r q records chains s range two ne low u v bodies size filed =
    let w = IsWatched-first r.lits two ne in
    let bare = IsBare-put e r s range (inr w)
    (NewSettled-watched r.lits (length e.arena) e.shorts e.marks e.queue_head e.first (length e.places.list) q w low.queue_head u v)
    (λ p lt. NewSettled-watched r.lits (length e.arena) e.shorts e.marks (get_or e.heads p 0) (get_or e.firsts p 0) p q w (low.heads p lt) u v) in
    IsEngine-of (record e { arena = records; chains = chains }) (IsBare-linked (record e { arena = e.arena ++ r ∷ [] }) records chains bare bodies) (size ∙ s.lists) filed

-- a short clause whose entry was not visited
NewSettled-short : (lits : List ℕ) (at : ℕ) (shorts marks : List ℕ) (h s n j : ℕ) → IsShort lits → j < length shorts → get_or shorts j 0 ≡ at → s ≤ j → NewSettled lits at shorts marks h s n
NewSettled-short lits at shorts marks h s n j short within is le = record {
  watched = λ a b x f. absurd (short_not_watched lits a b short x);
  alone = λ _. record { index = j; within = within; found = is; settled = λ lt. absurd (omega arith) };
}

-- a short clause, which was listed before
pub IsEngine-put_short : (e : Engine) (r : Record) → IsEngine e → ((lit : ℕ) → Contains r.lits lit → lit < 2 * e.variables) → IsShort r.lits → IsEngine (record e { shorts = e.shorts ++ length e.arena ∷ []; arena = e.arena ++ r ∷ [] })
IsEngine-put_short e r s range short =
    let now : List ℕ = e.shorts ++ length e.arena ∷ [] in
    let listed = IsEngine-listed e (length e.arena) s in
    let size : length now ≡ length e.shorts + 1 = length_push e.shorts (length e.arena) in
    let last : get_or now (length e.shorts) 0 ≡ length e.arena = get_or_push e.shorts (length e.arena) 0 (length e.shorts) refl in
    let bare = IsBare-put (record e { shorts = e.shorts ++ length e.arena ∷ [] }) r listed range (inl short)
    (NewSettled-short r.lits (length e.arena) now e.marks e.queue_head e.first (length e.places.list) (length e.shorts) short (omega arith) last s.now.alone.within)
    (λ p below. NewSettled-short r.lits (length e.arena) now e.marks (get_or e.heads p 0) (get_or e.firsts p 0) p (length e.shorts) short (omega arith) last (s.saved p below).alone.within) in
    let put = AreChains-put e.arena e.chains r s.filed in
    let filed = AreChains-aside (e.arena ++ r ∷ []) e.chains (IsOf (length e.arena)) IsNone (λ y none. absurd none)
    (λ l y p a. short_no_entry (e.arena ++ r ∷ []) l y (subst (λ (x : Record). IsShort x.lits) (sym (ap (record_at (e.arena ++ r ∷ [])) a.0 ∙ record_at-new e.arena r)) short) p) put in
    IsEngine-of (record e { shorts = e.shorts ++ length e.arena ∷ []; arena = e.arena ++ r ∷ [] }) bare s.lists filed

-- the chains once both watches of a new clause came to the front
pub record IsFronted (e : Engine) (r : Record) (records : List Record) (chains : List (Option Link)) : Type 0 where
  pub bodies : SameBodies (e.arena ++ r ∷ []) records
  pub size : length chains ≡ length e.chains
  pub filed : AreChains records chains IsNone

-- the first of them
pub IsEntry-first : (records : List Record) (r : Record) (slot lit : ℕ) → slot < 2 → 2 ≤ length r.lits → get_or r.lits slot 0 ≡ lit → lit ≢ get_or r.lits (1 - slot) 0 → IsEntry (records ++ r ∷ []) lit (record { at = length records; slot = slot })
IsEntry-first records r slot lit small two is ne =
    let size = length_push records r in
    let here = record_at-new records r in
    record {
      within = omega arith;
      slot_is = small;
      two = subst (λ (x : Record). 2 ≤ length x.lits) (sym here) two;
      lit_is = ap (λ (x : Record). get_or x.lits slot 0) here ∙ is;
      differ = λ z. ne (z ∙ ap (λ (x : Record). get_or x.lits (1 - slot) 0) here);
    }

pub IsFronted-both : (e : Engine) (r : Record) (a b : ℕ) → IsEngine e → a < 2 * e.variables → b < 2 * e.variables → 2 ≤ length r.lits → get_or r.lits 0 0 ≡ a → get_or r.lits 1 0 ≡ b → a ≢ b → IsFronted e r (linked (linked (e.arena ++ r ∷ []) (record { at = length e.arena; slot = 0 }) (head_of e.chains a)) (record { at = length e.arena; slot = 1 }) (head_of (set e.chains a (Some (record { at = length e.arena; slot = 0 }))) b)) (set (set e.chains a (Some (record { at = length e.arena; slot = 0 }))) b (Some (record { at = length e.arena; slot = 1 })))
IsFronted-both e r a b s a_lt b_lt two a_is b_is ne =
    let n : ℕ = length e.arena in
    let lists = s.lists in
    let f = AreFronted-both (e.arena ++ r ∷ []) e.chains (length e.arena) a b (IsOf (length e.arena)) IsNone (AreChains-put e.arena e.chains r s.filed) (omega arith) (omega arith)
    (IsEntry-first e.arena r 0 a (omega arith) two a_is (λ z. ne (z ∙ b_is))) (IsEntry-first e.arena r 1 b (omega arith) two b_is (λ z. ne (sym (z ∙ a_is))))
    (refl, omega arith) (refl, omega arith) (λ y none. absurd none) (λ l y p x. inl x.0) in
    record { bodies = f.bodies; size = f.size; filed = f.filed }

-- what adding a clause that is watched comes to
pub record IsAdded (old new : Engine) (codes : List ℕ) (i : ℕ) : Type 0 where
  pub sound : IsEngine new
  pub bodies : SameBodies (old.arena ++ new_record i codes ∷ []) new.arena

-- by what is done in turn
pub Added : (old low : Engine) (put : List Record) (e1 e2 : Engine) (codes : List ℕ) (i a b at fa fb q : ℕ) → IsEngine old → ((lit : ℕ) → Contains codes lit → lit < 2 * old.variables) → 2 ≤ length codes → get_or codes 0 0 ≢ get_or codes 1 0 → a ≡ get_or codes 0 0 → b ≡ get_or codes 1 0 → (0 < mark_of old.marks (negation_of a) → fa < mark_of old.marks (negation_of a)) → (0 < mark_of old.marks (negation_of b) → fb < mark_of old.marks (negation_of b)) → q ≡ min fa fb → IsEngine low → IsRewound low q → low ≡ record old { heads = low.heads; queue_head = low.queue_head } → at ≡ length low.arena → put ≡ low.arena ++ new_record i codes ∷ [] → e1 ≡ record low { arena = linked put (record { at = at; slot = 0 }) (head_of low.chains a); chains = set low.chains a (Some (record { at = at; slot = 0 })) } → e2 ≡ record e1 { arena = linked e1.arena (record { at = at; slot = 1 }) (head_of e1.chains b); chains = set e1.chains b (Some (record { at = at; slot = 1 })) } → IsAdded old e2 codes i
Added old low put e1 e2 codes i a b at fa fb q s range two ne a_is b_is ua ub q_is t rewound same at_is put_is e1_is e2_is =
    let r : Record = new_record i codes in
    let vars : low.variables ≡ old.variables = ap (λ (e : Engine). e.variables) same in
    let arena : low.arena ≡ old.arena = ap (λ (e : Engine). e.arena) same in
    let marks : low.marks ≡ old.marks = ap (λ (e : Engine). e.marks) same in
    let a_range : a < 2 * old.variables = range a (contains_at codes 0 a (omega arith) (sym a_is)) in
    let b_range : b < 2 * old.variables = range b (contains_at codes 1 b (omega arith) (sym b_is)) in
    let n : ℕ = length low.arena in
    let first : Link = record { at = length low.arena; slot = 0 } in
    let second : Link = record { at = length low.arena; slot = 1 } in
    let fronted = IsFronted-both low r a b t (omega arith) (omega arith) two (sym a_is) (sym b_is) (λ z. ne (sym a_is ∙ z ∙ b_is)) in
    let r2 : List Record = linked (low.arena ++ r ∷ []) first (head_of low.chains a) in
    let c2 : List (Option Link) = set low.chains a (Some first) in
    let e1_at : e1 ≡ record low { arena = r2; chains = c2 } =
    e1_is ∙ ap (λ (m : ℕ). let e : Engine = record low { arena = linked put (record { at = m; slot = 0 }) (head_of low.chains a); chains = set low.chains a (Some (record { at = m; slot = 0 })) } in e) at_is
    ∙ ap (λ (rs : List Record). let e : Engine = record low { arena = linked rs first (head_of low.chains a); chains = c2 } in e) put_is in
    let e2_at : e2 ≡ record low { arena = linked r2 second (head_of c2 b); chains = set c2 b (Some second) } =
    e2_is ∙ ap (λ (m : ℕ). let e : Engine = record e1 { arena = linked e1.arena (record { at = m; slot = 1 }) (head_of e1.chains b); chains = set e1.chains b (Some (record { at = m; slot = 1 })) } in e) at_is
    ∙ ap (λ (x : Engine). let e : Engine = record x { arena = linked x.arena second (head_of x.chains b); chains = set x.chains b (Some second) } in e) e1_at in
    let unseen : (l f k : ℕ) → q ≤ f → (0 < mark_of old.marks (negation_of k) → f < mark_of old.marks (negation_of k)) → k ≡ l → IsUnseen low.marks q l = λ l f k le u is.
    subst (λ (m : ℕ). IsUnseen low.marks q m) is (subst (λ (ms : List ℕ). IsUnseen ms q k) (sym marks) (λ pos. let late = u pos in omega arith)) in
    let sound : IsEngine (record low { arena = linked r2 second (head_of c2 b); chains = set c2 b (Some second) }) =
    IsEngine-put_watched low r q (linked r2 second (head_of c2 b)) (set c2 b (Some second)) t (λ lit c. let below = range lit c in omega arith) two ne rewound
    (unseen (get_or codes 0 0) fa a (omega arith) ua a_is) (unseen (get_or codes 1 0) fb b (omega arith) ub b_is) fronted.bodies fronted.size fronted.filed in
    let bodies : SameBodies (old.arena ++ r ∷ []) (linked r2 second (head_of c2 b)) = subst (λ (rs : List Record). SameBodies (rs ++ r ∷ []) (linked r2 second (head_of c2 b))) arena fronted.bodies in
    subst (λ (e : Engine). IsAdded old e codes i) (sym e2_at) (record { sound = sound; bodies = bodies })
