-- A watch leaves the chain of a literal that has become false for that of another one.
use Rattle.std.proofs.Common.{◌≡◌, ◌≢◌, ◌∙◌, ℕ, ◌-◌, ◌*◌, ◌<◌, List, [], ◌∷◌, ◌++◌, length, get_or, set, Option, Some, None, refl, sym, ap, subst, arith, inl, inr, length-set, get_or-set_other}
use Rattle.std.specs.List.{swap}
use Rattle.std.proofs.lemmas.Bool.{cases_eq}
use Rattle.lits_core.specs.Literals.{negation_of}
use Rattle.clause_arena.specs.declared.place.Link.{Link}
use Rattle.clause_arena.specs.Records.{Record, record_at, with_lits_swapped}
use Rattle.watch_arena.specs.declared.engine.Engine.{Engine}
use Rattle.watch_arena.specs.Chains.{head_of, next_of, linked, records_past, chains_past, led, IsChain, Has, IsEntry, AreChains, IsNone, IsThis, IsSameBody, SameBodies}
use Rattle.watch_arena.specs.Engines.{mark_of, IsAgreed, IsEngine, IsWalking, with_watch_moved}
use Rattle.watch_arena.proofs.WatchedPair.{record_at-same, record_at-other, live_within, contains_at}
use Rattle.watch_arena.proofs.SameRecords.{Move, moved, fresh, SameRecords-swap, RecordsInRange-same, AreReasoned-same, AreShortOrWatched-moved, IsSettledAt-moved}
use Rattle.watch_arena.proofs.BareEngine.{IsBare, IsEngine-of, IsBare-linked}
use Rattle.watch_arena.proofs.WatchChains.{IsChain-kept, IsChain-one, IsChain-apart, IsPast, IsPast-led, Has-more, Has-left, Has-right, Has-append, IsEntry-bodies, SameBodies-trans, SameBodies-linked, next_of-other, AreChains-front, some_not_none, some_same}
use Rattle.watch_arena.proofs.ChangedChains.{IsExchange, IsEntry-exchanged, AreChains-exchanged, next_of-moved}

-- a walk that has come to an entry
pub record IsAt (e : Engine) (lit : ℕ) (prev : Option Link) (x : Link) : Type 0 where
  pub before : List Link
  pub rest : List Link
  pub chain : IsChain e.arena (head_of e.chains lit) (led prev before ++ x ∷ rest)
  pub ahead : IsChain e.arena (next_of e.arena x) rest
  pub agreed : (y : Link) → Has (led prev before) y → IsAgreed e lit y.at

at-from : (e : Engine) (lit : ℕ) (prev : Option Link) (x : Link) (before rest : List Link) → IsChain e.arena (head_of e.chains lit) (led prev before ++ rest) → IsChain e.arena (Some x) rest → ((y : Link) → Has (led prev before) y → IsAgreed e lit y.at) → IsAt e lit prev x
at-from e lit prev x before [] c a agreed = absurd (some_not_none x a)
at-from e lit prev x before (y ∷ rest) c a agreed =
    let same : y ≡ x = some_same y x (sym a.0) in
    record {
      before = before;
      rest = rest;
      chain = subst (λ (z : Link). IsChain e.arena (head_of e.chains lit) (led prev before ++ z ∷ rest)) same c;
      ahead = subst (λ (z : Link). IsChain e.arena (next_of e.arena z) rest) same a.1;
      agreed = agreed;
    }

pub IsAt-walking : (e : Engine) (lit : ℕ) (prev : Option Link) (x : Link) → IsWalking e lit prev (Some x) → IsAt e lit prev x
IsAt-walking e lit prev x w = at-from e lit prev x w.before w.rest w.chain w.ahead w.agreed

-- then the entry is a watch on the literal
pub IsEntry-at : (e : Engine) (lit : ℕ) (prev : Option Link) (x : Link) → IsEngine e → lit < 2 * e.variables → IsAt e lit prev x → IsEntry e.arena lit x
IsEntry-at e lit prev x s range w =
    let lists = s.lists in
    let old = s.filed lit (omega arith) in
    let same = IsChain-one e.arena (head_of e.chains lit) (led prev w.before ++ x ∷ w.rest) old.list w.chain old.chain in
    old.entries x (subst (λ (zs : List Link). Has zs x) same (Has-right (led prev w.before) (x ∷ w.rest) x (inl refl)))

-- so is the one before it
pub IsEntry-before : (e : Engine) (lit : ℕ) (p x : Link) → IsEngine e → lit < 2 * e.variables → IsAt e lit (Some p) x → IsEntry e.arena lit p
IsEntry-before e lit p x s range w =
    let lists = s.lists in
    let old = s.filed lit (omega arith) in
    let same = IsChain-one e.arena (head_of e.chains lit) ((w.before ++ p ∷ []) ++ x ∷ w.rest) old.list w.chain old.chain in
    let h : Has ((w.before ++ p ∷ []) ++ x ∷ w.rest) p = Has-left (w.before ++ p ∷ []) (x ∷ w.rest) p (Has-right w.before (p ∷ []) p (inl refl)) in
    old.entries p (subst (λ (zs : List Link). Has zs p) same h)

-- lists joined, one more entry before the rest
led-more : (xs : List Link) (x : Link) (ys : List Link) → (xs ++ x ∷ []) ++ ys ≡ xs ++ x ∷ ys
led-more [] x ys = refl
led-more (w ∷ xs) x ys = ap (λ (zs : List Link). w ∷ zs) (led-more xs x ys)

-- the walk goes on behind an entry that agrees
pub IsWalking-on : (old new : Engine) (lit : ℕ) (prev : Option Link) (x : Link) → IsAt old lit prev x → new.arena ≡ old.arena → new.chains ≡ old.chains → ((at : ℕ) → IsAgreed old lit at → IsAgreed new lit at) → IsAgreed new lit x.at → IsWalking new lit (Some x) (next_of old.arena x)
IsWalking-on old new lit prev x w arena chains kept here =
    let chain : IsChain old.arena (head_of old.chains lit) ((led prev w.before ++ x ∷ []) ++ w.rest) = subst (λ (zs : List Link). IsChain old.arena (head_of old.chains lit) zs) (sym (led-more (led prev w.before) x w.rest)) w.chain in
    let chain2 : IsChain new.arena (head_of old.chains lit) ((led prev w.before ++ x ∷ []) ++ w.rest) = subst (λ (rs : List Record). IsChain rs (head_of old.chains lit) ((led prev w.before ++ x ∷ []) ++ w.rest)) (sym arena) chain in
    record {
      before = led prev w.before;
      rest = w.rest;
      chain = subst (λ (cs : List (Option Link)). IsChain new.arena (head_of cs lit) ((led prev w.before ++ x ∷ []) ++ w.rest)) (sym chains) chain2;
      ahead = subst (λ (rs : List Record). IsChain rs (next_of old.arena x) w.rest) (sym arena) w.ahead;
      agreed = λ y h. elim (Has-append (led prev w.before) (x ∷ []) y h) [
        | inl a ↦ kept y.at (w.agreed y a)
        | inr b ↦ elim b [ inl e ↦ subst (λ (z : Link). IsAgreed new lit z.at) e here | inr none ↦ absurd none ]
      ];
    }

-- the bodies after an exchange
bodies-exchanged : (old new : List Record) (at slot k : ℕ) → at < length old → SameBodies old new → SameBodies (moved old at slot k) (moved new at slot k)
bodies-exchanged old new at slot k lt same =
    let count = same.count in
    let one = same.each at in
    let lt_new : at < length new = omega arith in
    record {
      count = length-set new at (with_lits_swapped (record_at new at) slot k) ∙ same.count ∙ sym (length-set old at (with_lits_swapped (record_at old at) slot k));
      each = λ b. elim (cases_eq b at) [
        | inl e ↦
            let here : IsSameBody (with_lits_swapped (record_at old at) slot k) (with_lits_swapped (record_at new at) slot k) = record { id = one.id; lits = ap (λ (ls : List ℕ). swap ls slot k) one.lits; live = one.live } in
            let there : IsSameBody (record_at (moved old at slot k) at) (with_lits_swapped (record_at new at) slot k) = subst (λ (r : Record). IsSameBody r (with_lits_swapped (record_at new at) slot k)) (sym (record_at-same old at (with_lits_swapped (record_at old at) slot k) lt)) here in
            let now : IsSameBody (record_at (moved old at slot k) at) (record_at (moved new at slot k) at) = subst (λ (r : Record). IsSameBody (record_at (moved old at slot k) at) r) (sym (record_at-same new at (with_lits_swapped (record_at new at) slot k) lt_new)) there in
            subst (λ (n : ℕ). IsSameBody (record_at (moved old at slot k) n) (record_at (moved new at slot k) n)) (sym e) now
        | inr ne ↦
            let there : IsSameBody (record_at (moved old at slot k) b) (record_at new b) = subst (λ (r : Record). IsSameBody r (record_at new b)) (sym (record_at-other old at b (with_lits_swapped (record_at old at) slot k) ne)) (same.each b) in
            subst (λ (r : Record). IsSameBody (record_at (moved old at slot k) b) r) (sym (record_at-other new at b (with_lits_swapped (record_at new at) slot k) ne)) there
      ];
    }

-- the rest of what is sound
IsBare-moved : (e : Engine) (at slot k lit other : ℕ) → IsEngine e → Move e.arena e.marks at slot k lit other → IsBare (record e { arena = moved e.arena at slot k })
IsBare-moved e at slot k lit other s m =
    let small = m.slot_is in let third = m.third in let within = m.within in
    let same = SameRecords-swap e.arena at slot k (live_within e.arena at m.live) (omega arith) m.within in
    record {
      few = s.few;
      no_pairs = s.no_pairs;
      room = s.room;
      heads = s.heads;
      firsts = s.firsts;
      marked = s.marked;
      in_range = RecordsInRange-same e.arena (moved e.arena at slot k) e.variables same s.in_range;
      reasoned = AreReasoned-same e.arena (moved e.arena at slot k) e.marks e.places.list same s.reasoned;
      kinds = AreShortOrWatched-moved e.arena e.marks at slot k lit other m s.kinds;
      levelled = s.levelled;
      now = IsSettledAt-moved e.arena e.shorts e.marks at slot k lit other e.queue_head e.first (length e.places.list) m s.marked.apart s.now;
      saved = λ q lt. IsSettledAt-moved e.arena e.shorts e.marks at slot k lit other (get_or e.heads q 0) (get_or e.firsts q 0) q m s.marked.apart (s.saved q lt);
    }

-- how many chains there are
pub length-past : (chains : List (Option Link)) (lit : ℕ) (prev next : Option Link) → length (chains_past chains lit prev next) ≡ length chains
length-past chains lit None next = length-set chains lit next
length-past chains lit (Some p) next = refl

-- what a watch that moves leaves
pub record HasMoved (old new : Engine) (lit : ℕ) (prev : Option Link) (x : Link) (k : ℕ) (before rest : List Link) : Type 0 where
  pub sound : IsEngine new
  pub bodies : SameBodies (moved old.arena x.at x.slot k) new.arena
  pub chain : IsChain new.arena (head_of new.chains lit) (led prev before ++ rest)
  pub ahead : IsChain new.arena (next_of old.arena x) rest

pub HasMoved-from : (e : Engine) (lit k other : ℕ) (prev : Option Link) (x : Link) → IsEngine e → lit < 2 * e.variables → (w : IsAt e lit prev x) → Move e.arena e.marks x.at x.slot k lit other → HasMoved e (with_watch_moved e lit prev x k) lit prev x k w.before w.rest
HasMoved-from e lit k other prev x s range w m =
    let next : Option Link = next_of e.arena x in
    let r1 : List Record = records_past e.arena prev (next_of e.arena x) in
    let c1 : List (Option Link) = chains_past e.chains lit prev (next_of e.arena x) in
    let new_lit : ℕ = fresh e.arena x.at k in
    let lists = s.lists in
    let past : IsPast e.arena r1 lit c1 x (led prev w.before) w.rest = IsPast-led e.arena e.chains lit prev x w.before w.rest s.filed (omega arith) w.chain in
    let entry = IsEntry-at e lit prev x s range w in
    let lt = entry.within in
    let one = past.bodies.each x.at in
    let third = m.third in let within = m.within in
    let long = ap length one.lits in
    let fresh_same : fresh r1 x.at k ≡ new_lit = ap (λ (ls : List ℕ). get_or ls k 0) one.lits in
    let exch : IsExchange r1 x k lit = record {
      entry = IsEntry-bodies e.arena r1 lit x past.bodies entry;
      third = m.third;
      within = omega arith;
      differs = λ z. m.new_differs (sym fresh_same ∙ z ∙ ap (λ (ls : List ℕ). get_or ls (1 - x.slot) 0) one.lits ∙ m.other_is);
    } in
    let r2 : List Record = moved r1 x.at x.slot k in
    let all2 : AreChains r2 c1 (IsThis x) = AreChains-exchanged r1 c1 x k lit past.all exch in
    let entry2 : IsEntry r2 new_lit x = subst (λ (n : ℕ). IsEntry r2 n x) fresh_same (IsEntry-exchanged r1 x k lit exch) in
    let new_range : new_lit < 2 * e.variables = s.in_range x.at new_lit (contains_at (record_at e.arena x.at).lits k new_lit m.within refl) in
    let size : length c1 ≡ length e.chains = length-past e.chains lit prev (next_of e.arena x) in
    let r3 : List Record = linked r2 x (head_of c1 new_lit) in
    let c3 : List (Option Link) = set c1 new_lit (Some x) in
    let all3 : AreChains r3 c3 IsNone = AreChains-front r2 c1 new_lit x (IsThis x) IsNone all2 (omega arith) entry2 refl (λ none. none) (λ y none. absurd none) (λ l y p a. inl a) in
    let bodies2 : SameBodies (moved e.arena x.at x.slot k) r2 = bodies-exchanged e.arena r1 x.at x.slot k lt past.bodies in
    let bodies : SameBodies (moved e.arena x.at x.slot k) r3 = SameBodies-trans (moved e.arena x.at x.slot k) r2 r3 bodies2 (SameBodies-linked r2 x (head_of c1 new_lit) entry2.within) in
    let bare : IsBare (with_watch_moved e lit prev x k) = IsBare-linked (record e { arena = moved e.arena x.at x.slot k }) r3 c3 (IsBare-moved e x.at x.slot k lit other s m) bodies in
    let apart : new_lit ≢ lit = λ z. absurd (let none : mark_of e.marks (negation_of lit) ≡ 0 = ap (λ (l : ℕ). mark_of e.marks (negation_of l)) (sym z) ∙ m.new_not_false in let pos = m.lit_false in omega arith) in
    let head : head_of c3 lit ≡ head_of c1 lit = get_or-set_other c1 new_lit lit (Some x) None (λ z. apart (sym z)) in
    let old = s.filed lit (omega arith) in
    let same = IsChain-one e.arena (head_of e.chains lit) (led prev w.before ++ x ∷ w.rest) old.list w.chain old.chain in
    let lt1 : x.at < length r1 = exch.entry.within in
    let kept : (y : Link) → Has (led prev w.before ++ w.rest) y → next_of r3 y ≡ next_of r1 y = λ y h.
    next_of-other r2 x y (head_of c1 new_lit) entry2.within entry2.slot_is (old.entries y (subst (λ (zs : List Link). Has zs y) same (Has-more (led prev w.before) w.rest x y h))).slot_is (λ z. IsChain-apart e.arena (head_of e.chains lit) (led prev w.before) w.rest x w.chain (subst (λ (v : Link). Has (led prev w.before ++ w.rest) v) z h))
    ∙ next_of-moved r1 x.at x.slot k y lt1 in
    record {
      sound = IsEngine-of (with_watch_moved e lit prev x k) bare (length-set c1 new_lit (Some x) ∙ size ∙ s.lists) all3;
      bodies = bodies;
      chain = subst (λ (o : Option Link). IsChain r3 o (led prev w.before ++ w.rest)) (sym head) (IsChain-kept r1 r3 (head_of c1 lit) (led prev w.before ++ w.rest) kept past.chain);
      ahead = IsChain-kept r1 r3 (next_of e.arena x) w.rest (λ y h. kept y (Has-right (led prev w.before) w.rest y h)) past.ahead;
    }
