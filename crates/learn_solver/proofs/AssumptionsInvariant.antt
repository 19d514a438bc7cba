-- What stays known of the assumptions.
use Rattle.std.proofs.Common.{◌≡◌, ◌∙◌, ℕ, zero, suc, ◌+◌, ◌-◌, ◌<◌, ◌≤◌, Bool, true, false, min, List, [], ◌∷◌, ◌++◌, length, get_or, take, drop, Option, Some, None, refl, sym, ap, subst, arith, inl, inr, length-take, length-append}
use Rattle.std.specs.Prelude.{◌==◌, ◌||◌, nat_le, MatchOption, is_none}
use Rattle.std.specs.Option.{option_and_then}
use Rattle.std.specs.List.{Contains}
use Rattle.std.proofs.lemmas.List.{take_all, take-append-drop, take-append-le, length_push, get_or_append_left, get_or_push, get_or_default, get_or_past, length-map}
use Rattle.std.proofs.lemmas.List.Sums.{count_by_more_no}
use Rattle.std.proofs.lemmas.List.Elements.{filter-append, Contains-get_or}
use Rattle.std.proofs.lemmas.Bool.{cases_Bool, cases_lt, true≢false}
use Rattle.watch_arena.specs.declared.places.Place.{Place}
use Rattle.watch_arena.specs.Places.{place_at, no_place, is_true, is_assumed, level_of, places_with}
use Rattle.watch_arena.specs.Trails.{TrailState, IsTrail, Propagates, places_up_to}
use Rattle.watch_arena.proofs.WatchedPair.{index_of}
use Rattle.learn_solver.specs.Guides.{AssumptionsState, Guide, IsMarked, IsGuided, by_trail, holding_by, assumption_at, lowered, begun}
use Rattle.learn_solver.specs.Learners.{backtracked, assumed}
use Rattle.learn_solver.proofs.TrailPlaces.{true-index, true-at, place-take, cut-at, level-most, assumed-level, assumed-once}
use Rattle.learn_solver.proofs.Cuts.{up_to-within, up_to-all, up_to-twice, up_to-true}

-- what is known is so by places and level alone
pub guide-same : (t u : TrailState) (g : AssumptionsState) → u.places ≡ t.places → u.level ≡ t.level → by_trail u g ≡ by_trail t g
guide-same t u g places level = ap (λ (ps : List Place). record (by_trail u g) { places = ps }) places ∙ ap (λ (n : ℕ). record (by_trail t g) { level = n }) level

-- a filter passes what is true on to longer lists
pub up_to-grown : (old more : List Place) (level lit : ℕ) → is_true (places_up_to old level) lit ≡ true → is_true (places_up_to (old ++ more) level) lit ≡ true
up_to-grown old more level lit h =
    let e = filter-append (λ (p : Place). nat_le p.level level) old more in
    let found = true-index (places_up_to old level) lit h in
    let lt = found.1 in
    ap (λ (ps : List Place). is_true ps lit) e
    ∙ true-at (places_up_to old level ++ places_up_to more level) found.0 lit (omega (arith, length-append (places_up_to old level) (places_up_to more level)))
    (ap (λ (p : Place). p.lit) (get_or_append_left (places_up_to old level) (places_up_to more level) no_place found.0 lt) ∙ found.2)

-- an implied place was not assumed
implied-not_assumed : (p : Place) (P : ℕ → Type 0) → MatchOption p.reason ⊥ P → is_assumed p ≡ true → ⊥
implied-not_assumed p P h = go p.reason h where
  go : (o : Option ℕ) → MatchOption o ⊥ P → is_none o ≡ true → ⊥
  go None h a = h
  go (Some at) h a = absurd (true≢false (sym a))

-- longer places whose first ones stand: the rest of a list
split-front : (old new : List Place) → take (length old) new ≡ old → new ≡ old ++ drop (length old) new
split-front old new front = sym (take-append-drop (length old) new) ∙ ap (λ (ps : List Place). ps ++ drop (length old) new) front

-- the first places of one more
front-push : (places : List Place) (new : Place) → take (length places) (places ++ new ∷ []) ≡ places
front-push places new = take-append-le (length places) places (new ∷ []) (omega arith) ∙ take_all (length places) places (omega arith)

-- a read of the first elements, with a default that is read past them
read-first : (holding_before : List ℕ) (level k d : ℕ) → get_or (take level holding_before) k (get_or holding_before level d) ≡ get_or holding_before (min k level) d
read-first holding_before zero k d = ap (λ (n : ℕ). get_or holding_before n d) (let none : 0 ≡ min k 0 = omega arith in none)
read-first [] (suc level) k d = refl
read-first (m ∷ holding_before) (suc level) zero d = ap (λ (n : ℕ). get_or (m ∷ holding_before) n d) (let none : 0 ≡ min 0 (suc level) = omega arith in none)
read-first (m ∷ holding_before) (suc level) (suc k) d = read-first holding_before level k d ∙ ap (λ (n : ℕ). get_or (m ∷ holding_before) n d) (let next : suc (min k level) ≡ min (suc k) (suc level) = omega arith in next)

-- one more element, which is the default
read-more : (holding_before : List ℕ) (k d : ℕ) → get_or (holding_before ++ d ∷ []) k d ≡ get_or holding_before k d
read-more [] zero d = refl
read-more [] (suc k) d = refl
read-more (m ∷ holding_before) zero d = refl
read-more (m ∷ holding_before) (suc k) d = read-more holding_before k d

-- what all levels pass
holding-all : (g : Guide) (k : ℕ) → IsMarked g → g.assumptions.guided ≤ k → holding_by g.assumptions k ≡ g.assumptions.holding
holding-all g k m le = let count = m.counted in get_or_past g.assumptions.holding_before k g.assumptions.holding (omega arith)

-- at the start
pub IsGuided-none : (g : Guide) → g.level ≡ 0 → g.assumptions.guided ≡ 0 → g.assumptions.holding ≡ 0 → g.assumptions.holding_before ≡ [] → IsGuided g
IsGuided-none g level guided holding holding_before =
    let none : (k : ℕ) → holding_by g.assumptions k ≡ 0 = λ k. ap (λ (ms : List ℕ). get_or ms k g.assumptions.holding) holding_before ∙ holding in
    record {
      marked = record {
        within = omega arith;
        counted = ap length holding_before ∙ sym guided;
        few = omega arith;
        rising = λ a b le. let low = none a in omega arith;
        holding = λ k number le lt. let low = none k in absurd (omega arith);
        named = λ k lt. absurd (omega arith);
        own = λ p k lt a is below. absurd (omega arith);
      };
      free = λ lt. absurd (omega arith);
    }

-- more places that no known level begins with
pub IsMarked-grown : (g : Guide) (places : List Place) (level : ℕ) → IsMarked g → take (length g.places) places ≡ g.places → g.level ≤ level → ((p : ℕ) → length g.places ≤ p → p < length places → is_assumed (place_at places p) ≡ true → g.assumptions.guided < (place_at places p).level) → IsMarked (record g { places = places; level = level })
IsMarked-grown g places level m front up new =
    let within = m.within in
    record {
      within = omega arith;
      counted = m.counted;
      few = m.few;
      rising = m.rising;
      holding = λ k number le lt.
          ap (λ (ps : List Place). is_true (places_up_to ps k) (assumption_at g.assumptions number)) (split-front g.places places front)
          ∙ up_to-grown g.places (drop (length g.places) places) k (assumption_at g.assumptions number) (m.holding k number le lt);
      named = m.named;
      own = λ p k lt a is below. elim (cases_lt p (length g.places)) [
        | inl early ↦
            let same : place_at places p ≡ place_at g.places p = sym (place-take places (length g.places) p early) ∙ ap (λ (ps : List Place). place_at ps p) front in
            ap (λ (q : Place). q.lit) same ∙ m.own p k early (ap is_assumed (sym same) ∙ a) (ap (λ (q : Place). q.level) (sym same) ∙ is) below
        | inr late ↦ let past = new p late lt a in absurd (omega arith)
      ];
    }

-- what is known by fewer levels
pub holding-lowered : (g : AssumptionsState) (level k : ℕ) → holding_by (lowered g level) k ≡ holding_by g (min k level)
holding-lowered g level k = read-first g.holding_before level k g.holding

pub IsMarked-lowered : (g : Guide) (level : ℕ) → IsMarked g → IsMarked (record g { assumptions = lowered g.assumptions level })
IsMarked-lowered g level m =
    let within = m.within in
    let few = m.few in
    let count = m.counted in
    let below : (k : ℕ) → k ≤ level → holding_by (lowered g.assumptions level) k ≡ holding_by g.assumptions k = λ k le. holding-lowered g.assumptions level k ∙ (let one : min k level ≡ k = omega arith in ap (holding_by g.assumptions) one) in
    record {
      within = omega arith;
      counted = (let size : length (take level g.assumptions.holding_before) ≡ _ = length-take level g.assumptions.holding_before in omega arith);
      few = (let most = m.rising level (level + g.assumptions.guided) (omega arith) in let all = holding-all g (level + g.assumptions.guided) m (omega arith) in omega arith);
      rising = λ a b le. let one = holding-lowered g.assumptions level a in let two = holding-lowered g.assumptions level b in let up = m.rising (min a level) (min b level) (omega arith) in omega arith;
      holding = λ k number le lt. let same = below k (omega arith) in m.holding k number (omega arith) (omega arith);
      named = λ k lt. let same = below k (omega arith) in let named = m.named k (omega arith) in omega arith;
      own = λ p k lt a is up. m.own p k lt a is (omega arith) ∙ ap (assumption_at g.assumptions) (sym (below k (omega arith)));
    }

-- the places past a level that no assumption begins go
pub IsMarked-back : (t : TrailState) (g : AssumptionsState) (level : ℕ) → IsTrail t → g.guided ≤ level → IsMarked (by_trail t g) → IsMarked (by_trail (backtracked t level) g)
IsMarked-back t g level f above m =
    let cut = cut-at t level f in
    let inside = cut.1.within in
    let size : length (places_up_to t.places level) ≡ cut.0 = ap length cut.1.same ∙ (simp length-take (omega arith)) in
    record {
      within = above;
      counted = m.counted;
      few = m.few;
      rising = m.rising;
      holding = λ k number le lt.
          ap (λ (ps : List Place). is_true ps (assumption_at g number)) (up_to-twice t k level f (omega arith))
          ∙ m.holding k number le lt;
      named = m.named;
      own = λ p k lt a is below.
          let same : place_at (places_up_to t.places level) p ≡ place_at t.places p = ap (λ (ps : List Place). place_at ps p) cut.1.same ∙ place-take t.places cut.0 p (omega arith) in
          ap (λ (q : Place). q.lit) same ∙ m.own p k (omega arith) (ap is_assumed (sym same) ∙ a) (ap (λ (q : Place). q.level) (sym same) ∙ is) below;
    }

-- one level more begins with the next assumption
pub IsMarked-begun : (t : TrailState) (g : AssumptionsState) (p : ℕ) → IsTrail t → IsMarked (by_trail t g) → p < length t.places → is_assumed (place_at t.places p) ≡ true → (place_at t.places p).level ≡ g.guided + 1 → (place_at t.places p).lit ≡ assumption_at g g.holding → g.holding < length g.lits → IsMarked (by_trail t (begun g))
IsMarked-begun t g p f m lt a level lit next =
    let most = level-most t p f lt in
    let count = m.counted in
    let same : (k : ℕ) → holding_by (begun g) k ≡ holding_by g k = λ k. read-more g.holding_before k g.holding in
    let all : (k : ℕ) → g.guided ≤ k → holding_by g k ≡ g.holding = λ k le. holding-all (by_trail t g) k m le in
    record {
      within = omega arith;
      counted = length_push g.holding_before g.holding ∙ (omega arith);
      few = m.few;
      rising = λ x y le. let one = same x in let two = same y in let up = m.rising x y le in omega arith;
      holding = λ k number le below. let one = same k in elim (cases_lt g.guided k) [
        | inl more ↦
            let here = all k (omega arith) in
            let there = all g.guided (omega arith) in
            up_to-within t g.guided k (assumption_at g number) f (omega arith) (m.holding g.guided number (omega arith) (omega arith))
        | inr few ↦ m.holding k number few (omega arith)
      ];
      named = λ k below. let one = same k in elim (cases_lt k g.guided) [
        | inl few ↦ let named = m.named k few in omega arith
        | inr more ↦ let here = all k more in omega arith
      ];
      own = λ q k within on is below. elim (cases_lt k g.guided) [
        | inl few ↦ m.own q k within on is few ∙ ap (assumption_at g) (sym (same k))
        | inr more ↦
            let once = assumed-once t q p f within lt on a (omega arith) in
            ap (λ (n : ℕ). (place_at t.places n).lit) once ∙ lit ∙ ap (assumption_at g) (sym (same k ∙ all k more))
      ];
    }

-- one assumption more holds
pub IsMarked-holding : (g : Guide) → IsMarked g → g.assumptions.holding < length g.assumptions.lits → is_true (places_up_to g.places g.assumptions.guided) (assumption_at g.assumptions g.assumptions.holding) ≡ true → IsMarked (record g { assumptions = record g.assumptions { holding = g.assumptions.holding + 1 } })
IsMarked-holding g m next on =
    let new : Guide = record g { assumptions = record g.assumptions { holding = g.assumptions.holding + 1 } } in
    let count = m.counted in
    let below : (k : ℕ) → k < g.assumptions.guided → holding_by new.assumptions k ≡ holding_by g.assumptions k = λ k lt. get_or_default g.assumptions.holding_before k (g.assumptions.holding + 1) g.assumptions.holding (omega arith) in
    let above : (k : ℕ) → g.assumptions.guided ≤ k → holding_by new.assumptions k ≡ g.assumptions.holding + 1 = λ k le. get_or_past g.assumptions.holding_before k (g.assumptions.holding + 1) (omega arith) in
    let all : (k : ℕ) → holding_by g.assumptions k ≤ g.assumptions.holding = λ k. let up = m.rising k (k + g.assumptions.guided) (omega arith) in let most = holding-all g (k + g.assumptions.guided) m (omega arith) in omega arith in
    record {
      within = m.within;
      counted = m.counted;
      few = omega arith;
      rising = λ a b le. elim (cases_lt b g.assumptions.guided) [
        | inl low ↦ let one = below a (omega arith) in let two = below b low in let up = m.rising a b le in omega arith
        | inr high ↦ let two = above b high in elim (cases_lt a g.assumptions.guided) [
          | inl low ↦ let one = below a low in let most = all a in omega arith
          | inr past ↦ let one = above a past in omega arith
        ]
      ];
      holding = λ k number le lt. elim (cases_lt k g.assumptions.guided) [
        | inl low ↦ let one = below k low in m.holding k number le (omega arith)
        | inr high ↦
            let same : k ≡ g.assumptions.guided = omega arith in
            let one = above k high in
            let here = holding-all g k m high in
            elim (cases_lt number g.assumptions.holding) [
              | inl early ↦ m.holding k number le (omega arith)
              | inr last ↦
                  let it : number ≡ g.assumptions.holding = omega arith in
                  ap (λ (n : ℕ). is_true (places_up_to g.places n) (assumption_at g.assumptions number)) same ∙ ap (λ (n : ℕ). is_true (places_up_to g.places g.assumptions.guided) (assumption_at g.assumptions n)) it ∙ on
            ]
      ];
      named = λ k lt. let one = below k lt in let named = m.named k lt in omega arith;
      own = λ p k lt a is up. m.own p k lt a is up ∙ ap (assumption_at g.assumptions) (sym (below k up));
    }

-- other assumptions, of which the first are the same, where all levels begin with one of these
pub IsMarked-assumptions : (g : Guide) (assumptions : List ℕ) (n : ℕ) → IsMarked g → n ≤ length assumptions → ((k : ℕ) → k < n → get_or assumptions k 0 ≡ assumption_at g.assumptions k) → ((k : ℕ) → k < g.assumptions.guided → holding_by g.assumptions k < n) → IsMarked (record g { assumptions = record g.assumptions { lits = assumptions; holding = min g.assumptions.holding n } })
IsMarked-assumptions g assumptions n m le same first =
    let new : Guide = record g { assumptions = record g.assumptions { lits = assumptions; holding = min g.assumptions.holding n } } in
    let count = m.counted in
    let below : (k : ℕ) → k < g.assumptions.guided → holding_by new.assumptions k ≡ holding_by g.assumptions k = λ k lt. get_or_default g.assumptions.holding_before k (min g.assumptions.holding n) g.assumptions.holding (omega arith) in
    let above : (k : ℕ) → g.assumptions.guided ≤ k → holding_by new.assumptions k ≡ min g.assumptions.holding n = λ k le. get_or_past g.assumptions.holding_before k (min g.assumptions.holding n) (omega arith) in
    let all : (k : ℕ) → holding_by g.assumptions k ≤ g.assumptions.holding = λ k. let up = m.rising k (k + g.assumptions.guided) (omega arith) in let most = holding-all g (k + g.assumptions.guided) m (omega arith) in omega arith in
    record {
      within = m.within;
      counted = m.counted;
      few = omega arith;
      rising = λ a b le. elim (cases_lt b g.assumptions.guided) [
        | inl low ↦ let one = below a (omega arith) in let two = below b low in let up = m.rising a b le in omega arith
        | inr high ↦ let two = above b high in elim (cases_lt a g.assumptions.guided) [
          | inl low ↦ let one = below a low in let most = all a in let few = first a low in omega arith
          | inr past ↦ let one = above a past in omega arith
        ]
      ];
      holding = λ k number le lt. elim (cases_lt k g.assumptions.guided) [
        | inl low ↦
            let one = below k low in let few = first k low in
            ap (is_true (places_up_to g.places k)) (same number (omega arith)) ∙ m.holding k number le (omega arith)
        | inr high ↦
            let one = above k high in let here = holding-all g k m high in
            ap (is_true (places_up_to g.places k)) (same number (omega arith)) ∙ m.holding k number le (omega arith)
      ];
      named = λ k lt. let one = below k lt in let few = first k lt in omega arith;
      own = λ p k lt a is up.
          m.own p k lt a is up ∙ sym (same (holding_by g.assumptions k) (first k up)) ∙ ap (λ (i : ℕ). get_or assumptions i 0) (sym (below k up));
    }

-- more places, of which none begins a level
pub IsGuided-grown : (g : Guide) (places : List Place) → IsGuided g → take (length g.places) places ≡ g.places → ((p : ℕ) → length g.places ≤ p → p < length places → is_assumed (place_at places p) ≡ true → ⊥) → IsGuided (record g { places = places })
IsGuided-grown g places h front implied = record {
  marked = IsMarked-grown g places g.level h.marked front (omega arith) (λ p le lt a. absurd (implied p le lt a));
  free = h.free;
}

-- propagation keeps it
pub IsGuided-propagated : (old new : TrailState) (g : AssumptionsState) → IsGuided (by_trail old g) → Propagates old new → IsGuided (by_trail new g)
IsGuided-propagated old new g h k =
    subst (λ (level : ℕ). IsGuided (record (by_trail old g) { places = new.places; level = level })) (sym k.level)
    (IsGuided-grown (by_trail old g) new.places h k.places (λ p le lt. implied-not_assumed (place_at new.places p) _ (k.implied p le lt)))

-- one more implied place
pub IsGuided-implied : (g : Guide) (last : Place) → IsGuided g → is_assumed last ≡ false → IsGuided (record g { places = g.places ++ last ∷ [] })
IsGuided-implied g last h implied =
    let size : length (g.places ++ last ∷ []) ≡ length g.places + 1 = length_push g.places last in
    IsGuided-grown g (g.places ++ last ∷ []) h (front-push g.places last)
    (λ p le lt a. true≢false (sym a ∙ ap is_assumed (get_or_push g.places last no_place p (omega arith)) ∙ implied))

-- going back keeps what is known up to the level
pub IsGuided-back : (t : TrailState) (g : AssumptionsState) (level : ℕ) → IsTrail t → level ≤ t.level → IsGuided (by_trail t g) → IsGuided (by_trail (backtracked t level) (lowered g level))
IsGuided-back t g level f le h = record {
  marked = IsMarked-back t (lowered g level) level f (omega arith) (IsMarked-lowered (by_trail t g) level h.marked);
  free = λ lt. holding-all (by_trail t g) level h.marked (omega arith) ∙ h.free (omega arith);
}

-- also where not all assumptions hold, by all levels that begin with one
pub IsGuided-stopped : (t : TrailState) (g : AssumptionsState) → IsTrail t → IsMarked (by_trail t g) → IsGuided (by_trail (backtracked t g.guided) (lowered g g.guided))
IsGuided-stopped t g f m = record {
  marked = IsMarked-back t (lowered g g.guided) g.guided f (omega arith) (IsMarked-lowered (by_trail t g) g.guided m);
  free = λ lt. absurd (omega arith);
}

-- the place of a literal that is assumed
last-place : (t : TrailState) (lit : ℕ) → place_at (assumed t lit).places (length t.places) ≡ record { lit = lit; level = t.level + 1; reason = None }
last-place t lit = get_or_push t.places (record { lit = lit; level = t.level + 1; reason = None }) no_place (length t.places) (omega arith)

-- a literal is assumed on a level that no assumption is known to begin
IsMarked-assumed : (t : TrailState) (g : AssumptionsState) (lit : ℕ) → IsMarked (by_trail t g) → IsMarked (by_trail (assumed t lit) g)
IsMarked-assumed t g lit m =
    let new : Place = record { lit = lit; level = t.level + 1; reason = None } in
    let within = m.within in
    let size : length (t.places ++ new ∷ []) ≡ length t.places + 1 = length_push t.places new in
    IsMarked-grown (by_trail t g) (assumed t lit).places (t.level + 1) m (front-push t.places new) (omega arith) (λ p le lt a.
    let level : (place_at (assumed t lit).places p).level ≡ t.level + 1 = ap (λ (q : Place). q.level) (get_or_push t.places new no_place p (omega arith)) in
    omega arith)

-- a literal is decided where all assumptions hold
pub IsGuided-decided : (t : TrailState) (g : AssumptionsState) (lit : ℕ) → IsGuided (by_trail t g) → g.holding ≡ length g.lits → IsGuided (by_trail (assumed t lit) g)
IsGuided-decided t g lit h all = record { marked = IsMarked-assumed t g lit h.marked; free = λ lt. all }

-- the next assumption is assumed
pub IsGuided-assumed : (t : TrailState) (g : AssumptionsState) (lit : ℕ) → IsTrail (assumed t lit) → IsGuided (by_trail t g) → g.holding < length g.lits → lit ≡ assumption_at g g.holding → IsGuided (by_trail (assumed t lit) (begun g))
IsGuided-assumed t g lit f h next is =
    let new : Place = record { lit = lit; level = t.level + 1; reason = None } in
    let size : length (t.places ++ new ∷ []) ≡ length t.places + 1 = length_push t.places new in
    let there = last-place t lit in
    let within = h.marked.within in
    let guided : g.guided ≡ t.level = elim (cases_lt g.guided t.level) [
      | inl more ↦ let all = h.free more in absurd (omega arith)
      | inr all ↦ omega arith
    ] in
    record {
      marked = IsMarked-begun (assumed t lit) g (length t.places) f (IsMarked-assumed t g lit h.marked) (omega arith) (ap is_assumed there) (ap (λ (q : Place). q.level) there ∙ (omega arith)) (ap (λ (q : Place). q.lit) there ∙ is) next;
      free = λ lt. absurd (omega arith);
    }

-- the levels that begin with assumptions are all, where not all assumptions hold
pub guided-all : (g : Guide) → IsGuided g → g.assumptions.holding < length g.assumptions.lits → g.assumptions.guided ≡ g.level
guided-all g h next =
    let within = h.marked.within in
    elim (cases_lt g.assumptions.guided g.level) [
      | inl more ↦ let all = h.free more in absurd (omega arith)
      | inr all ↦ omega arith
    ]

-- one assumption more is true, and counted
pub IsGuided-holding : (t : TrailState) (g : AssumptionsState) → IsTrail t → IsGuided (by_trail t g) → g.holding < length g.lits → is_true t.places (assumption_at g g.holding) ≡ true → IsGuided (by_trail t (record g { holding = g.holding + 1 }))
IsGuided-holding t g f h next on =
    let all = guided-all (by_trail t g) h next in
    record {
      marked = IsMarked-holding (by_trail t g) h.marked next (ap (λ (ps : List Place). is_true ps (assumption_at g g.holding)) (up_to-all t g.guided f (omega arith)) ∙ on);
      free = λ lt. absurd (omega arith);
    }

-- an assumed place of a known level is an assumption's
pub own-assumptions : (t : TrailState) (g : AssumptionsState) (p : ℕ) → IsTrail t → IsMarked (by_trail t g) → p < length t.places → is_assumed (place_at t.places p) ≡ true → (place_at t.places p).level ≤ g.guided → Contains g.lits (place_at t.places p).lit
own-assumptions t g p f m lt a le =
    let level = assumed-level t p f lt a in
    let k : ℕ = (place_at t.places p).level - 1 in
    let is : (place_at t.places p).level ≡ k + 1 = omega arith in
    let at = m.own p k lt a is (omega arith) in
    subst (Contains g.lits) (sym at) (Contains-get_or g.lits (holding_by g k) 0 (m.named k (omega arith)))

-- where all are counted, all are true
pub holding-true : (t : TrailState) (g : AssumptionsState) (lit : ℕ) → IsTrail t → IsMarked (by_trail t g) → g.holding ≡ length g.lits → Contains g.lits lit → is_true t.places lit ≡ true
holding-true t g lit f m all has =
    let index = index_of g.lits lit has in
    let here = holding-all (by_trail t g) g.guided m (omega arith) in
    let below = index.1 in
    up_to-true t g.guided lit f (ap (is_true (places_up_to t.places g.guided)) (sym index.2) ∙ m.holding g.guided index.0 (omega arith) (omega arith))

-- places whose reasons have other names: the same literals are true
true-renamed : (name : ℕ → Option ℕ) (places : List Place) (lit : ℕ) → is_true (places_with name places) lit ≡ is_true places lit
true-renamed name [] lit = refl
true-renamed name (p ∷ places) lit = ap (λ (b : Bool). (p.lit == lit) || b) (true-renamed name places lit)

up_to-renamed : (name : ℕ → Option ℕ) (places : List Place) (level : ℕ) → places_up_to (places_with name places) level ≡ places_with name (places_up_to places level)
up_to-renamed name [] level = refl
up_to-renamed name (p ∷ places) level = elim (cases_Bool (nat_le p.level level)) [
  | inl on ↦ rw on (ap (λ (ps : List Place). record p { reason = option_and_then name p.reason } ∷ ps) (up_to-renamed name places level))
  | inr off ↦ rw off (up_to-renamed name places level)
]

pub place-renamed : (name : ℕ → Option ℕ) (places : List Place) (p : ℕ) → p < length places → place_at (places_with name places) p ≡ record (place_at places p) { reason = option_and_then name (place_at places p).reason }
place-renamed name [] p lt = absurd (omega arith)
place-renamed name (q ∷ places) zero lt = refl
place-renamed name (q ∷ places) (suc p) lt = place-renamed name places p (omega arith)

-- the levels tell which places were assumed
pub assumed-renamed : (t u : TrailState) (p : ℕ) → IsTrail t → IsTrail u → length u.places ≡ length t.places → ((q : ℕ) → q < length t.places → (place_at u.places q).level ≡ (place_at t.places q).level) → p < length t.places → is_assumed (place_at u.places p) ≡ true → is_assumed (place_at t.places p) ≡ true
assumed-renamed t u p f g size levels lt a = elim (cases_Bool (is_assumed (place_at t.places p))) [
  | inl on ↦ on
  | inr off ↦
      let new = assumed-level u p g (omega arith) a in
      let old = f.levels p lt in
      let none : level_of (take (p + 1) t.places) ≡ level_of (take p t.places) = count_by_more_no is_assumed t.places p no_place lt off in
      let here = levels p lt in
      absurd (elim (cases_lt 0 p) [
        | inl some ↦
            let back : p - 1 + 1 ≡ p = omega arith in
            let before = levels (p - 1) (omega arith) in
            let one = f.levels (p - 1) (omega arith) in
            let two = g.levels (p - 1) (omega arith) in
            let low : level_of (take (p - 1 + 1) t.places) ≡ level_of (take p t.places) = ap (λ (k : ℕ). level_of (take k t.places)) back in
            let high : level_of (take (p - 1 + 1) u.places) ≡ level_of (take p u.places) = ap (λ (k : ℕ). level_of (take k u.places)) back in
            omega arith
        | inr first ↦
            let start : p ≡ 0 = omega arith in
            let low : level_of (take p t.places) ≡ 0 = ap (λ (k : ℕ). level_of (take k t.places)) start in
            let high : level_of (take p u.places) ≡ 0 = ap (λ (k : ℕ). level_of (take k u.places)) start in
            omega arith
      ])
]

-- where the reasons have other names, the same is known
pub IsGuided-renamed : (t u : TrailState) (g : AssumptionsState) (name : ℕ → Option ℕ) → IsTrail t → IsTrail u → u.places ≡ places_with name t.places → u.level ≡ t.level → IsGuided (by_trail t g) → IsGuided (by_trail u g)
IsGuided-renamed t u g name f other places level h =
    let m = h.marked in
    let within = m.within in
    let size : length u.places ≡ length t.places = ap length places ∙ (simp length-map) in
    let at : (p : ℕ) → p < length t.places → place_at u.places p ≡ record (place_at t.places p) { reason = option_and_then name (place_at t.places p).reason } = λ p lt. ap (λ (ps : List Place). place_at ps p) places ∙ place-renamed name t.places p lt in
    record {
      marked = record {
        within = omega arith;
        counted = m.counted;
        few = m.few;
        rising = m.rising;
        holding = λ k number le lt.
            ap (λ (ps : List Place). is_true (places_up_to ps k) (assumption_at g number)) places
            ∙ ap (λ (ps : List Place). is_true ps (assumption_at g number)) (up_to-renamed name t.places k)
            ∙ true-renamed name (places_up_to t.places k) (assumption_at g number)
            ∙ m.holding k number le lt;
        named = m.named;
        own = λ p k lt a is below.
            let same = at p (omega arith) in
            ap (λ (q : Place). q.lit) same
            ∙ m.own p k (omega arith) (assumed-renamed t u p f other size (λ q lt. ap (λ (r : Place). r.level) (at q lt)) (omega arith) a) (ap (λ (q : Place). q.level) (sym same) ∙ is) below;
      };
      free = λ lt. h.free (omega arith);
    }
