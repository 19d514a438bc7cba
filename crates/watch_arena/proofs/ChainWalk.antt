-- A walk along the chain of a literal that has become false.
use Rattle.std.proofs.Common.{◌≡◌, ◌∙◌, ℕ, ◌-◌, ◌*◌, ◌<◌, true, List, [], ◌∷◌, ◌++◌, length, get_or, Option, Some, None, refl, sym, ap, subst, arith, inl, inr}
use Rattle.std.proofs.lemmas.Bool.{cases_eq}
use Rattle.std.proofs.lemmas.List.{take_all}
use Rattle.lits_core.specs.Literals.{negation_of}
use Rattle.clause_arena.specs.declared.place.Link.{Link}
use Rattle.clause_arena.specs.Records.{Record, record_at, with_lits_swapped}
use Rattle.watch_arena.specs.declared.engine.Engine.{Engine}
use Rattle.watch_arena.specs.Chains.{head_of, next_of, records_past, led, IsChain, Has, IsEntry, IsChainOf, IsNone}
use Rattle.watch_arena.specs.Engines.{mark_of, IsWatched, IsFresh, IsAgreed, IsEngine, IsWalking, StaysAhead, Visits, AllAgree, with_watch_moved}
use Rattle.watch_arena.proofs.WatchedPair.{record_at-other, live_within, IsWatched-only}
use Rattle.watch_arena.proofs.SameRecords.{Move, Move-is, moved, fresh, SameRecords-swap, SameRecords-trans}
use Rattle.watch_arena.proofs.BareEngine.{SameRecords-bodies}
use Rattle.watch_arena.proofs.WatchChains.{IsChain-one, Has-right, Has-append, IsPast-led, IsEntry-bodies, some_not_none}
use Rattle.watch_arena.proofs.ChangedChains.{IsExchange, count_from, count_from-is, IsChain-bounded}
use Rattle.watch_arena.proofs.MovedWatch.{IsAt, IsAt-walking, IsEntry-at, IsWalking-on, HasMoved, HasMoved-from}
use Rattle.watch_arena.proofs.WatchVisit.{IsSlot, Visits-range}

-- the entry of a live clause is a slot of it
pub IsSlot-entry : (e : Engine) (lit : ℕ) (x : Link) → IsEntry e.arena lit x → (record_at e.arena x.at).live ≡ true → IsSlot e x.at lit x.slot
IsSlot-entry e lit x p live = record { slot_is = p.slot_is; live = live; two = p.two; lit_is = p.lit_is; differ = p.differ }

-- a move, by its parts
pub Move-from_slot : (e : Engine) (lit k : ℕ) (x : Link) → IsEntry e.arena lit x → (record_at e.arena x.at).live ≡ true → IsFresh e x.at (get_or (record_at e.arena x.at).lits (1 - x.slot) 0) k → 0 < mark_of e.marks (negation_of lit) → Move e.arena e.marks x.at x.slot k lit (get_or (record_at e.arena x.at).lits (1 - x.slot) 0)
Move-from_slot e lit k x p live f lit_false = record {
  live = live;
  slot_is = p.slot_is;
  third = f.third;
  within = f.within;
  lit_is = p.lit_is;
  other_is = refl;
  differ = p.differ;
  lit_false = lit_false;
  new_differs = f.differs;
  new_not_false = f.not_false;
}

-- the visit of a watch that moves
pub Visits-moved : (e : Engine) (lit k other : ℕ) (prev : Option Link) (x : Link) (before rest : List Link) → Move e.arena e.marks x.at x.slot k lit other → HasMoved e (with_watch_moved e lit prev x k) lit prev x k before rest → Visits e (with_watch_moved e lit prev x k) lit
Visits-moved e lit k other prev x before rest m h =
    let small = m.slot_is in let third = m.third in let within = m.within in
    let new : Engine = with_watch_moved e lit prev x k in
    let same = SameRecords-swap e.arena x.at x.slot k (live_within e.arena x.at m.live) (omega arith) m.within in
    record {
      sound = h.sound;
      implies = record {
        records = SameRecords-trans e.arena (moved e.arena x.at x.slot k) new.arena same (SameRecords-bodies (moved e.arena x.at x.slot k) new.arena h.bodies);
        places = take_all (length e.places.list) e.places.list (omega arith);
        implied = λ p from below. absurd (omega arith);
        marks = λ l pos. refl;
        variables = refl;
        shorts = refl;
      };
      queue_head = refl;
      first = refl;
      agreed = λ b a o live w.
          let body = h.bodies.each b in
          let v : IsWatched (record_at (moved e.arena x.at x.slot k) b).lits lit o = subst (λ (ls : List ℕ). IsWatched ls lit o) body.lits w in
          let on : (record_at (moved e.arena x.at x.slot k) b).live ≡ true = sym body.live ∙ live in
          elim (cases_eq b x.at) [
            | inl z ↦
                let u : IsWatched (record_at (moved e.arena x.at x.slot k) x.at).lits lit o = subst (λ (n : ℕ). IsWatched (record_at (moved e.arena x.at x.slot k) n).lits lit o) z v in
                elim (IsWatched-only (record_at (moved e.arena x.at x.slot k) x.at).lits (fresh e.arena x.at k) other lit o (Move-is e.arena e.marks x.at x.slot k lit other m) u) [
                  | inl q ↦ absurd (let none : mark_of e.marks (negation_of lit) ≡ 0 = ap (λ (l : ℕ). mark_of e.marks (negation_of l)) q.0 ∙ m.new_not_false in let pos = m.lit_false in omega arith)
                  | inr q ↦ absurd (m.differ q.0)
                ]
            | inr ne ↦
                let is : record_at (moved e.arena x.at x.slot k) b ≡ record_at e.arena b = record_at-other e.arena x.at b (with_lits_swapped (record_at e.arena x.at) x.slot k) ne in
                a o (sym (ap (λ (r : Record). r.live) is) ∙ on) (subst (λ (r : Record). IsWatched r.lits lit o) is v)
          ];
    }

-- the walk goes on behind the one before
pub IsWalking-moved : (e new : Engine) (lit k : ℕ) (prev : Option Link) (x : Link) → (w : IsAt e lit prev x) → HasMoved e new lit prev x k w.before w.rest → Visits e new lit → IsWalking new lit prev (next_of e.arena x)
IsWalking-moved e new lit k prev x w h v = record {
  before = w.before;
  rest = w.rest;
  chain = h.chain;
  ahead = h.ahead;
  agreed = λ y has. v.agreed y.at (w.agreed y has);
}

pub StaysAhead-moved : (e new : Engine) (lit k : ℕ) (prev : Option Link) (x : Link) → (w : IsAt e lit prev x) → HasMoved e new lit prev x k w.before w.rest → StaysAhead e new x
StaysAhead-moved e new lit k prev x w h rest c =
    let same = IsChain-one e.arena (next_of e.arena x) w.rest rest w.ahead c in
    subst (λ (zs : List Link). IsChain new.arena (next_of e.arena x) zs) same h.ahead

-- at the end of the chain all agree
all_passed : (e : Engine) (lit : ℕ) (prev : Option Link) (before rest : List Link) → IsChain e.arena None rest → (y : Link) → Has (led prev before ++ rest) y → Has (led prev before) y
all_passed e lit prev before [] c y h = elim (Has-append (led prev before) [] y h) [ inl a ↦ a | inr none ↦ absurd none ]
all_passed e lit prev before (z ∷ rest) c y h = absurd (some_not_none z (sym c.0))

pub AllAgree-walked : (e : Engine) (lit : ℕ) (prev : Option Link) → IsEngine e → lit < 2 * e.variables → IsWalking e lit prev None → AllAgree e lit
AllAgree-walked e lit prev s range w at other live v =
    let lists = s.lists in
    let old : IsChainOf e.arena lit (head_of e.chains lit) IsNone = s.filed lit (omega arith) in
    let same = IsChain-one e.arena (head_of e.chains lit) (led prev w.before ++ w.rest) old.list w.chain old.chain in
    let met : (y : Link) → IsEntry e.arena lit y → (record_at e.arena y.at).live ≡ true → IsAgreed e lit y.at = λ y p on. elim (old.whole y p on) [
      | inl h ↦ w.agreed y (all_passed e lit prev w.before w.rest w.ahead y (subst (λ (zs : List Link). Has zs y) (sym same) h))
      | inr none ↦ absurd none
    ] in
    let lt = live_within e.arena at live in
    let first : Link = record { at = at; slot = 0 } in
    let second : Link = record { at = at; slot = 1 } in
    elim v.either [
      | inl q ↦ met first (record { within = lt; slot_is = omega arith; two = v.two; lit_is = q.0; differ = λ z. v.differ (z ∙ q.1) }) live other live v
      | inr q ↦ met second (record { within = lt; slot_is = omega arith; two = v.two; lit_is = q.1; differ = λ z. v.differ (z ∙ q.0) }) live other live v
    ]

-- a walk is over at some time
pub walk_count : (e : Engine) (lit : ℕ) (prev cur : Option Link) → IsEngine e → lit < 2 * e.variables → (w : IsWalking e lit prev cur) → count_from (2 * length e.arena) e.arena cur ≡ length w.rest
walk_count e lit prev cur s range w =
    let lists = s.lists in
    let old : IsChainOf e.arena lit (head_of e.chains lit) IsNone = s.filed lit (omega arith) in
    let same = IsChain-one e.arena (head_of e.chains lit) (led prev w.before ++ w.rest) old.list w.chain old.chain in
    let small : (y : Link) → Has w.rest y → (y.at < length e.arena) × (y.slot < 2) = λ y h.
    let p = old.entries y (subst (λ (zs : List Link). Has zs y) same (Has-right (led prev w.before) w.rest y h)) in
    (p.within, p.slot_is) in
    count_from-is (2 * length e.arena) e.arena cur w.rest w.ahead (IsChain-bounded e.arena cur w.rest w.ahead small)

-- where it begins
pub IsWalking-head : (e : Engine) (lit : ℕ) (cur : Option Link) → IsEngine e → lit < 2 * e.variables → cur ≡ head_of e.chains lit → IsWalking e lit None cur
IsWalking-head e lit cur s range is =
    let lists = s.lists in
    let old : IsChainOf e.arena lit (head_of e.chains lit) IsNone = s.filed lit (omega arith) in
    record {
      before = [];
      rest = old.list;
      chain = old.chain;
      ahead = subst (λ (o : Option Link). IsChain e.arena o old.list) (sym is) old.chain;
      agreed = λ y none. absurd none;
    }

-- and each visit brings its end nearer
rest_less : (records : List Record) (x : Link) (xs ys : List Link) → IsChain records (Some x) xs → IsChain records (next_of records x) ys → length ys < length xs
rest_less records x [] ys c d = absurd (some_not_none x c)
rest_less records x (y ∷ xs) ys c d =
    let inj : ◌≡◌ {A = Option Link} (Some x) (Some y) = c.0 in
    let is : x ≡ y = cc in
    let same = IsChain-one records (next_of records x) ys xs d (subst (λ (z : Link). IsChain records (next_of records z) xs) (sym is) c.1) in
    let size = ap length same in omega arith

pub walk_shorter : (old new : Engine) (lit : ℕ) (prev p : Option Link) (x : Link) → IsEngine old → IsEngine new → lit < 2 * old.variables → lit < 2 * new.variables → IsWalking old lit prev (Some x) → IsWalking new lit p (next_of old.arena x) → StaysAhead old new x → (rest : List Link) → IsChain old.arena (next_of old.arena x) rest → count_from (2 * length new.arena) new.arena (next_of old.arena x) < count_from (2 * length old.arena) old.arena (Some x)
walk_shorter old new lit prev p x s t range range_new w v stays rest c =
    let before = walk_count old lit prev (Some x) s range w in
    let after = walk_count new lit p (next_of old.arena x) t range_new v in
    let same = IsChain-one new.arena (next_of old.arena x) v.rest rest v.ahead (stays rest c) in
    let size = ap length same in
    let less = rest_less old.arena x w.rest rest w.ahead c in
    omega arith

-- the exchange that comes once the chain was led past the entry
pub IsExchange-past : (e : Engine) (lit k : ℕ) (prev : Option Link) (x : Link) (next : Option Link) (records : List Record) → IsEngine e → lit < 2 * e.variables → IsAt e lit prev x → IsFresh e x.at (get_or (record_at e.arena x.at).lits (1 - x.slot) 0) k → next ≡ next_of e.arena x → records ≡ records_past e.arena prev next → IsExchange records x k lit × (fresh records x.at k ≡ fresh e.arena x.at k)
IsExchange-past e lit k prev x next records s range w f next_is is =
    let r1 : List Record = records_past e.arena prev (next_of e.arena x) in
    let lists = s.lists in
    let past = IsPast-led e.arena e.chains lit prev x w.before w.rest s.filed (omega arith) w.chain in
    let entry = IsEntry-at e lit prev x s range w in
    let one = past.bodies.each x.at in
    let within = f.within in
    let long = ap length one.lits in
    let fresh_same : fresh r1 x.at k ≡ fresh e.arena x.at k = ap (λ (ls : List ℕ). get_or ls k 0) one.lits in
    let exch : IsExchange r1 x k lit = record {
      entry = IsEntry-bodies e.arena r1 lit x past.bodies entry;
      third = f.third;
      within = omega arith;
      differs = λ z. f.differs (sym fresh_same ∙ z ∙ ap (λ (ls : List ℕ). get_or ls (1 - x.slot) 0) one.lits);
    } in
    let back : r1 ≡ records = ap (records_past e.arena prev) (sym next_is) ∙ sym is in
    let P : List Record → Type 0 = λ rs. IsExchange rs x k lit × (fresh rs x.at k ≡ fresh e.arena x.at k) in
    subst P back (exch, fresh_same)

-- a walk goes on behind an entry of a clause that is not live
pub IsWalking-dead : (e : Engine) (lit : ℕ) (prev : Option Link) (x : Link) → IsAt e lit prev x → ((record_at e.arena x.at).live ≡ true → ⊥) → IsWalking e lit (Some x) (next_of e.arena x)
IsWalking-dead e lit prev x w dead = IsWalking-on e e lit prev x w refl refl (λ at a. a) (λ other live v. absurd (dead live))

-- what is known of an entry to be visited, by the walk
pub IsEntry-walking : (e : Engine) (lit : ℕ) (prev cur : Option Link) (x : Link) → IsEngine e → lit < 2 * e.variables → cur ≡ Some x → IsWalking e lit prev cur → IsEntry e.arena lit x
IsEntry-walking e lit prev cur x s range is w =
    IsEntry-at e lit prev x s range (IsAt-walking e lit prev x (subst (λ (o : Option Link). IsWalking e lit prev o) is w))

pub IsSlot-walking : (e : Engine) (lit : ℕ) (prev : Option Link) (x : Link) → IsEngine e → lit < 2 * e.variables → IsWalking e lit prev (Some x) → (record_at e.arena x.at).live ≡ true → IsSlot e x.at lit x.slot
IsSlot-walking e lit prev x s range w live = IsSlot-entry e lit x (IsEntry-walking e lit prev (Some x) x s range refl w) live

-- a visit that leaves the engine, behind which the walk goes on
pub IsWalking-same : (e : Engine) (lit : ℕ) (prev : Option Link) (x : Link) → IsWalking e lit prev (Some x) → IsAgreed e lit x.at → IsWalking e lit (Some x) (next_of e.arena x)
IsWalking-same e lit prev x w here = IsWalking-on e e lit prev x (IsAt-walking e lit prev x w) refl refl (λ at a. a) here

-- all that a visit promises where a watch moves
pub record HasVisited (old new : Engine) (lit : ℕ) (prev : Option Link) (x : Link) : Type 0 where
  pub visits : Visits old new lit
  pub ahead : StaysAhead old new x
  pub walking : IsWalking new lit prev (next_of old.arena x)

pub Visit-moved : (e new : Engine) (lit k : ℕ) (prev : Option Link) (x : Link) (other : ℕ) → IsEngine e → lit < 2 * e.variables → IsWalking e lit prev (Some x) → (record_at e.arena x.at).live ≡ true → 0 < mark_of e.marks (negation_of lit) → other ≡ get_or (record_at e.arena x.at).lits (1 - x.slot) 0 → IsFresh e x.at other k → new ≡ with_watch_moved e lit prev x k → HasVisited e new lit prev x
Visit-moved e new lit k prev x other s range walk live lit_false other_is f is =
    let w = IsAt-walking e lit prev x walk in
    let entry = IsEntry-at e lit prev x s range w in
    let m = Move-from_slot e lit k x entry live (subst (λ (o : ℕ). IsFresh e x.at o k) other_is f) lit_false in
    let h = HasMoved-from e lit k (get_or (record_at e.arena x.at).lits (1 - x.slot) 0) prev x s range w m in
    let v = Visits-moved e lit k (get_or (record_at e.arena x.at).lits (1 - x.slot) 0) prev x w.before w.rest m h in
    let here : HasVisited e (with_watch_moved e lit prev x k) lit prev x = record {
      visits = v;
      ahead = StaysAhead-moved e (with_watch_moved e lit prev x k) lit k prev x w h;
      walking = IsWalking-moved e (with_watch_moved e lit prev x k) lit k prev x w h v;
    } in
    subst (λ (n : Engine). HasVisited e n lit prev x) (sym is) here

-- the measure of the walk falls
pub walk_falls : (old new : Engine) (lit : ℕ) (prev p cur : Option Link) (x : Link) (next : Option Link) → IsEngine old → Visits old new lit → lit < 2 * old.variables → cur ≡ Some x → IsWalking old lit prev cur → next ≡ next_of old.arena x → IsWalking new lit p (next_of old.arena x) → StaysAhead old new x → count_from (2 * length new.arena) new.arena next < count_from (2 * length old.arena) old.arena cur
walk_falls old new lit prev p cur x next s v range is w next_is walking stays =
    let here = subst (λ (o : Option Link). IsWalking old lit prev o) is w in
    let at = IsAt-walking old lit prev x here in
    let less = walk_shorter old new lit prev p x s v.sound range (Visits-range old new lit lit v range) here walking stays at.rest at.ahead in
    let left = ap (count_from (2 * length new.arena) new.arena) next_is in
    let right = ap (count_from (2 * length old.arena) old.arena) is in
    omega arith
