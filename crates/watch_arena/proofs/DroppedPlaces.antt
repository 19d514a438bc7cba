-- Places that go, and clauses that are forgotten.
use Rattle.std.proofs.Common.{◌≡◌, ◌≢◌, ◌∙◌, ◌⊎◌, ℕ, suc, ◌+◌, ◌-◌, ◌<◌, ◌≤◌, Bool, true, false, cond, List, [], ◌∷◌, ◌++◌, length, get_or, set, take, Some, refl, sym, ap, subst, arith, inl, inr}
use Rattle.std.specs.Prelude.{nat_le, filter}
use Rattle.std.specs.List.{Contains}
use Rattle.std.proofs.lemmas.Bool.{cases_eq}
use Rattle.std.proofs.lemmas.Grind.{common_steps}
use Rattle.std.proofs.lemmas.List.{take_more, take_all, append-nil}
use Rattle.std.proofs.lemmas.List.Elements.{filter-append}
use Rattle.std.proofs.lemmas.List.Sums.{sum_by-take-le}
use Rattle.clause_arena.specs.Records.{Record, record_at, forgotten}
use Rattle.watch_arena.specs.declared.places.Place.{Place}
use Rattle.watch_arena.specs.declared.engine.Engine.{Engine}
use Rattle.watch_arena.specs.Places.{place_at, no_place, level_of, is_assumed}
use Rattle.watch_arena.specs.Trails.{places_up_to}
use Rattle.watch_arena.specs.Engines.{AreLevelled, IsReasonBelow, IsSettledAt, IsShortSettled, IsWatched, IsShort, IsEngine, Undoes, without_last}
use Rattle.watch_arena.proofs.WatchedPair.{record_at-same, record_at-other, live_within}
use Rattle.watch_arena.proofs.ChangedChains.{AreChains-forgotten}
use Rattle.watch_arena.proofs.EngineInvariant.{IsEngine-popped}
use Rattle.watch_arena.proofs.WatchVisit.{level_of-push}

-- the last place
pub split_last : (places : List Place) → 0 < length places → places ≡ take (length places - 1) places ++ place_at places (length places - 1) ∷ []
split_last places some =
    let next : length places - 1 + 1 ≡ length places = omega arith in
    sym (take_all (length places) places (omega arith)) ∙ ap (λ (n : ℕ). take n places) (sym next) ∙ take_more places (length places - 1) no_place (omega arith)

-- where there is a level there is a place
pub some_place : (places : List Place) → 0 < level_of places → 0 < length places
some_place [] pos = pos
some_place (p ∷ places) pos = omega arith

-- the level without the last place
pub level_of-last : (places : List Place) → 0 < length places → level_of places ≤ level_of (take (length places - 1) places) + 1
level_of-last places some =
    let last : Place = place_at places (length places - 1) in
    let whole : level_of places ≡ level_of (take (length places - 1) places) + cond (is_assumed (place_at places (length places - 1))) 1 0 = ap level_of (split_last places some) ∙ level_of-push (take (length places - 1) places) (place_at places (length places - 1)) in
    let most : cond (is_assumed (place_at places (length places - 1))) 1 0 ≤ 1 = elim (is_assumed (place_at places (length places - 1))) as (λ b. cond b 1 0 ≤ 1) [ true ↦ omega arith | false ↦ omega arith ] in
    omega arith

-- the last place has the level that all have come to
pub level_last : (places : List Place) → AreLevelled places → 0 < length places → (place_at places (length places - 1)).level ≡ level_of places
level_last places levelled some =
    let next : length places - 1 + 1 ≡ length places = omega arith in
    levelled (length places - 1) (omega arith) ∙ ap (λ (n : ℕ). level_of (take n places)) next ∙ ap level_of (take_all (length places) places (omega arith))

-- a place above the level does not count
pub places_up_to-last : (places : List Place) (level : ℕ) → AreLevelled places → 0 < length places → level < level_of places → places_up_to (take (length places - 1) places) level ≡ places_up_to places level
places_up_to-last places level levelled some above =
    let last : Place = place_at places (length places - 1) in
    let at = level_last places levelled some in
    let off : nat_le (place_at places (length places - 1)).level level ≡ false = grind (arith, common_steps) in
    let none : places_up_to (place_at places (length places - 1) ∷ []) level ≡ [] = ap (λ (b : Bool). cond b (place_at places (length places - 1) ∷ []) []) off in
    sym (ap (λ (ps : List Place). places_up_to ps level) (split_last places some)
    ∙ filter-append (λ (p : Place). nat_le p.level level) (take (length places - 1) places) (place_at places (length places - 1) ∷ [])
    ∙ ap (λ (ps : List Place). places_up_to (take (length places - 1) places) level ++ ps) none
    ∙ append-nil (places_up_to (take (length places - 1) places) level))

-- a filter that all pass
pub filter_all : (test : Place → Bool) (places : List Place) → ((p : ℕ) → p < length places → test (place_at places p) ≡ true) → filter test places ≡ places
filter_all test [] all = refl
filter_all test (p ∷ places) all =
    ap (λ (b : Bool). cond b (p ∷ filter test places) (filter test places)) (all 0 (omega arith)) ∙ ap (λ (ps : List Place). p ∷ ps) (filter_all test places (λ q lt. all (suc q) (omega arith)))

-- all places are up to the level that they have come to
pub places_up_to-all : (places : List Place) (level : ℕ) → AreLevelled places → level_of places ≤ level → places_up_to places level ≡ places
places_up_to-all places level levelled le =
    filter_all (λ (p : Place). nat_le p.level level) places (λ p lt.
    let at = levelled p lt in
    let most : level_of (take (p + 1) places) ≤ level_of places = sum_by-take-le (λ (q : Place). cond (is_assumed q) 1 0) places (p + 1) in
    grind (arith, common_steps))

-- a clause that is forgotten takes nothing of what is sound
pub IsEngine-forgotten : (e : Engine) (at : ℕ) → IsEngine e → (record_at e.arena at).live ≡ true → ((p : ℕ) → p < length e.places.list → (place_at e.places.list p).reason ≡ Some at → ⊥) → IsEngine (record e { arena = set e.arena at (forgotten (record_at e.arena at)) })
IsEngine-forgotten e at s live no_reason =
    let now : List Record = set e.arena at (forgotten (record_at e.arena at)) in
    let lt = live_within e.arena at live in
    let here : record_at now at ≡ forgotten (record_at e.arena at) = record_at-same e.arena at (forgotten (record_at e.arena at)) lt in
    let other : (b : ℕ) → b ≢ at → record_at now b ≡ record_at e.arena b = λ b ne. record_at-other e.arena at b (forgotten (record_at e.arena at)) ne in
    let dead : (b : ℕ) → (record_at now b).live ≡ true → b ≢ at = λ b on z.
    let off : (record_at now b).live ≡ false = ap (λ (n : ℕ). (record_at now n).live) z ∙ ap (λ (r : Record). r.live) here in
    let clash : true ≡ false = sym on ∙ off in absurd (cc) in
    let same : (b : ℕ) → (record_at now b).live ≡ true → record_at now b ≡ record_at e.arena b = λ b on. other b (dead b on) in
    let was_live : (b : ℕ) → (record_at now b).live ≡ true → (record_at e.arena b).live ≡ true = λ b on. sym (ap (λ (r : Record). r.live) (same b on)) ∙ on in
    let lits : (b : ℕ) → (record_at now b).lits ≡ (record_at e.arena b).lits = λ b. elim (cases_eq b at) [
      | inl z ↦ ap (λ (n : ℕ). (record_at now n).lits) z ∙ ap (λ (r : Record). r.lits) here ∙ ap (λ (n : ℕ). (record_at e.arena n).lits) (sym z)
      | inr ne ↦ ap (λ (r : Record). r.lits) (other b ne)
    ] in
    let settled : (shorts : List ℕ) (h f n : ℕ) → IsSettledAt e.arena shorts e.marks h f n → IsSettledAt now shorts e.marks h f n = λ shorts h f n p. record {
      within = p.within;
      watched = λ b x y on w x_false. p.watched b x y (was_live b on) (subst (λ (ls : List ℕ). IsWatched ls x y) (lits b) w) x_false;
      alone = record {
        within = p.alone.within;
        each = λ b on short. subst (λ (ls : List ℕ). IsShortSettled ls b shorts e.marks f n) (sym (lits b)) (p.alone.each b (was_live b on) (subst (λ (ls : List ℕ). IsShort ls) (lits b) short));
      };
    } in
    record {
      few = s.few;
      no_pairs = s.no_pairs;
      room = s.room;
      lists = s.lists;
      heads = s.heads;
      firsts = s.firsts;
      marked = s.marked;
      in_range = λ b lit c. s.in_range b lit (subst (λ (ls : List ℕ). Contains ls lit) (lits b) c);
      reasoned = λ p b below is.
          let ne : b ≢ at = λ z. no_reason p below (is ∙ ap Some z) in
          subst (λ (r : Record). IsReasonBelow r e.marks p (place_at e.places.list p).lit) (sym (other b ne)) (s.reasoned p b below is);
      kinds = λ b on. subst (λ (ls : List ℕ). IsShort ls ⊎ IsWatched ls (get_or ls 0 0) (get_or ls 1 0)) (sym (lits b)) (s.kinds b (was_live b on));
      filed = AreChains-forgotten e.arena e.chains at lt s.filed;
      levelled = s.levelled;
      now = settled e.shorts e.queue_head e.first (length e.places.list) s.now;
      saved = λ p below. settled e.shorts (get_or e.heads p 0) (get_or e.firsts p 0) p (s.saved p below);
    }

-- undone so far
pub record Undone (old new : Engine) (level : ℕ) : Type 0 where
  pub sound : IsEngine new
  pub arena : new.arena ≡ old.arena
  pub variables : new.variables ≡ old.variables
  pub places : places_up_to new.places.list level ≡ places_up_to old.places.list level
  pub level_left : level ≤ level_of new.places.list
  pub moves : new.moves ≡ old.moves

pub Undone-refl : (e : Engine) (level : ℕ) → IsEngine e → level ≤ level_of e.places.list → Undone e e level
Undone-refl e level s le = record { sound = s; arena = refl; variables = refl; places = refl; level_left = le; moves = refl }

-- one place more
pub Undone-last : (old new : Engine) (level : ℕ) → Undone old new level → level < level_of new.places.list → Undone old (without_last new) level
Undone-last old new level u above =
    let some = some_place new.places.list (omega arith) in
    let less = level_of-last new.places.list some in
    record {
      sound = IsEngine-popped new u.sound some;
      arena = u.arena;
      variables = u.variables;
      places = places_up_to-last new.places.list level u.sound.levelled some above ∙ u.places;
      level_left = omega arith;
      moves = u.moves;
    }

-- all of them
pub Undoes-from : (old new : Engine) (level : ℕ) → Undone old new level → level_of new.places.list ≤ level → Undoes old new level
Undoes-from old new level u le =
    let left = u.level_left in
    record {
      arena = u.arena;
      variables = u.variables;
      places = sym (places_up_to-all new.places.list level u.sound.levelled le) ∙ u.places;
      level_is = omega arith;
      moves = u.moves;
    }
