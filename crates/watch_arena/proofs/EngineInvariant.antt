-- What keeps an engine sound.
use Rattle.std.proofs.Common.{◌≡◌, ◌≢◌, ◌∙◌, ℕ, ◌+◌, ◌-◌, ◌*◌, ◌<◌, List, [], ◌∷◌, ◌++◌, length, get_or, set, take, Some, refl, sym, ap, subst, arith, inl, inr, length-set, length-take, get_or-set_same, get_or-set_other, get_or-take}
use Rattle.std.proofs.lemmas.Bool.{cases_lt}
use Rattle.std.proofs.lemmas.List.{take-append-le, take_all, take-take, length_push}
use Rattle.lits_core.specs.Literals.{negation_of}
use Rattle.lits_core.proofs.LiteralLemmas.{negation-injective, negation-below}
use Rattle.clause_arena.specs.Records.{Record, record_at}
use Rattle.watch_arena.specs.declared.places.Place.{Place}
use Rattle.watch_arena.specs.declared.engine.Engine.{Engine}
use Rattle.watch_arena.specs.Places.{place_at, no_place, level_of}
use Rattle.watch_arena.specs.Engines.{mark_of, IsReasonBelow, AreReasoned, IsWatched, IsSettledAt, AreLevelled, CanAssign, IsEngine, AllAgree, IsShortMet, HasNoFresh, with_place, without_last}
use Rattle.watch_arena.proofs.Marks.{MarksGrow, MarksGrow-set, MarksGrow-unset, AreMarked-push, AreMarked-pop, place_at-push, place_at-new, mark-in_range}
use Rattle.watch_arena.proofs.SettledClauses.{IsSettledAt-grown, IsSettledAt-shrunk, IsReasonBelow-grown, IsReasonBelow-shrunk}
use Rattle.watch_arena.proofs.WatchedPair.{contains_at}

-- levels after one more place
pub AreLevelled-push : (places : List Place) (p : Place) → AreLevelled places → p.level ≡ level_of (places ++ p ∷ []) → AreLevelled (places ++ p ∷ [])
AreLevelled-push places p levelled level q lt =
    let count = length_push places p in
    elim (cases_lt q (length places)) [
      | inl old ↦
          ap (λ (x : Place). x.level) (place_at-push places p q old) ∙ levelled q old ∙ ap level_of (sym (take-append-le (q + 1) places (p ∷ []) (omega arith)))
      | inr late ↦
          let e : q ≡ length places = omega arith in
          ap (λ (x : Place). x.level) (ap (place_at (places ++ p ∷ [])) e ∙ place_at-new places p) ∙ level ∙ ap level_of (sym (take_all (q + 1) (places ++ p ∷ []) (omega arith)))
    ]

-- reasons after one more place
pub AreReasoned-push : (records : List Record) (marks : List ℕ) (places : List Place) (p : Place) → MarksGrow marks (set marks p.lit (length places + 1)) (length places) → AreReasoned records marks places → ((at : ℕ) → p.reason ≡ Some at → IsReasonBelow (record_at records at) marks (length places) p.lit) → AreReasoned records (set marks p.lit (length places + 1)) (places ++ p ∷ [])
AreReasoned-push records marks places p g old new q at lt is =
    let count = length_push places p in
    let now : List ℕ = set marks p.lit (length places + 1) in
    elim (cases_lt q (length places)) [
      | inl below ↦
          let same : place_at (places ++ p ∷ []) q ≡ place_at places q = place_at-push places p q below in
          let was = old q at below (sym (ap (λ (x : Place). x.reason) same) ∙ is) in
          let here = IsReasonBelow-grown (record_at records at) marks now (length places) q (place_at places q).lit g was in
          subst (λ (x : Place). IsReasonBelow (record_at records at) now q x.lit) (sym same) here
      | inr late ↦
          let e : q ≡ length places = omega arith in
          let same : place_at (places ++ p ∷ []) q ≡ p = ap (place_at (places ++ p ∷ [])) e ∙ place_at-new places p in
          let was = new at (sym (ap (λ (x : Place). x.reason) same) ∙ is) in
          let here = IsReasonBelow-grown (record_at records at) marks now (length places) (length places) p.lit g was in
          let there : IsReasonBelow (record_at records at) now q p.lit = subst (λ (n : ℕ). IsReasonBelow (record_at records at) now n p.lit) (sym e) here in
          subst (λ (x : Place). IsReasonBelow (record_at records at) now q x.lit) (sym same) there
    ]

-- a literal becomes true
pub IsEngine-marked : (e : Engine) (p : Place) → IsEngine e → CanAssign e p → length e.places.list < e.variables → IsEngine (with_place e p)
IsEngine-marked e p s m lt =
    let size = s.marked.size in
    let range = m.range in
    let g = MarksGrow-set e.marks p.lit (length e.places.list) (omega arith) m.not_true in
    let now : List ℕ = set e.marks p.lit (length e.places.list + 1) in
    let shorts : List ℕ = e.shorts in
    let count : length (e.places.list ++ p ∷ []) ≡ length e.places.list + 1 = length_push e.places.list p in
    let heads = s.heads in let firsts = s.firsts in
    let queue_head = s.now.within in
    record {
      few = s.few;
      no_pairs = s.no_pairs;
      room = s.room;
      lists = s.lists;
      heads = length-set e.heads (length e.places.list) e.queue_head ∙ s.heads;
      firsts = length-set e.firsts (length e.places.list) e.first ∙ s.firsts;
      marked = AreMarked-push e.marks e.places.list e.variables p s.marked m.range m.not_true m.not_false;
      in_range = s.in_range;
      reasoned = AreReasoned-push e.arena e.marks e.places.list p g s.reasoned m.reason;
      kinds = s.kinds;
      filed = s.filed;
      levelled = AreLevelled-push e.places.list p s.levelled m.level;
      now = IsSettledAt-grown e.arena shorts e.marks now (length e.places.list) e.queue_head e.first (length e.places.list) g queue_head s.now (length (e.places.list ++ p ∷ [])) (omega arith);
      saved = λ q below. elim (cases_lt q (length e.places.list)) [
        | inl old ↦
            let ne : q ≢ length e.places.list = omega arith in
            let was = s.saved q old in
            let within = was.within in
            let here = IsSettledAt-grown e.arena shorts e.marks now (length e.places.list) (get_or e.heads q 0) (get_or e.firsts q 0) q g (omega arith) was q (omega arith) in
            let there : IsSettledAt e.arena shorts now (get_or (set e.heads (length e.places.list) e.queue_head) q 0) (get_or e.firsts q 0) q = subst (λ (h : ℕ). IsSettledAt e.arena shorts now h (get_or e.firsts q 0) q) (sym (get_or-set_other e.heads (length e.places.list) q e.queue_head 0 ne)) here in
            subst (λ (f : ℕ). IsSettledAt e.arena shorts now (get_or (set e.heads (length e.places.list) e.queue_head) q 0) f q) (sym (get_or-set_other e.firsts (length e.places.list) q e.first 0 ne)) there
        | inr late ↦
            let at : q ≡ length e.places.list = omega arith in
            let here = IsSettledAt-grown e.arena shorts e.marks now (length e.places.list) e.queue_head e.first (length e.places.list) g queue_head s.now (length e.places.list) (omega arith) in
            let first : IsSettledAt e.arena shorts now (get_or (set e.heads (length e.places.list) e.queue_head) (length e.places.list) 0) e.first (length e.places.list) = subst (λ (h : ℕ). IsSettledAt e.arena shorts now h e.first (length e.places.list)) (sym (get_or-set_same e.heads (length e.places.list) e.queue_head 0 (omega arith))) here in
            let second : IsSettledAt e.arena shorts now (get_or (set e.heads (length e.places.list) e.queue_head) (length e.places.list) 0) (get_or (set e.firsts (length e.places.list) e.first) (length e.places.list) 0) (length e.places.list) = subst (λ (f : ℕ). IsSettledAt e.arena shorts now (get_or (set e.heads (length e.places.list) e.queue_head) (length e.places.list) 0) f (length e.places.list)) (sym (get_or-set_same e.firsts (length e.places.list) e.first 0 (omega arith))) first in
            subst (λ (n : ℕ). IsSettledAt e.arena shorts now (get_or (set e.heads (length e.places.list) e.queue_head) n 0) (get_or (set e.firsts (length e.places.list) e.first) n 0) n) (sym at) second
      ];
    }

-- all clauses of the literal at the queue's head were visited
pub IsEngine-advanced : (e : Engine) (lit : ℕ) → IsEngine e → e.queue_head < length e.places.list → mark_of e.marks (negation_of lit) ≡ e.queue_head + 1 → AllAgree e lit → IsEngine (record e { queue_head = e.queue_head + 1 })
IsEngine-advanced e lit s below at_head agreed =
    record {
      few = s.few;
      no_pairs = s.no_pairs;
      room = s.room;
      lists = s.lists;
      heads = s.heads;
      firsts = s.firsts;
      marked = s.marked;
      in_range = s.in_range;
      reasoned = s.reasoned;
      kinds = s.kinds;
      filed = s.filed;
      levelled = s.levelled;
      now = record {
        within = omega arith;
        watched = λ at a b live w a_false. elim (cases_lt (mark_of e.marks (negation_of a)) (e.queue_head + 1)) [
          | inl before ↦ s.now.watched at a b live w (let pos = a_false.0 in (pos, omega arith))
          | inr late ↦
              let le = a_false.1 in
              let at_too : mark_of e.marks (negation_of a) ≡ e.queue_head + 1 = omega arith in
              let pos : 0 < mark_of e.marks (negation_of lit) = omega arith in
              let one = s.marked.forth (negation_of a) (a_false.0) in
              let two = s.marked.forth (negation_of lit) pos in
              let index : mark_of e.marks (negation_of a) - 1 ≡ mark_of e.marks (negation_of lit) - 1 = omega arith in
              let same : negation_of a ≡ negation_of lit = sym one.1 ∙ ap (λ (n : ℕ). (place_at e.places.list n).lit) index ∙ two.1 in
              let is : a ≡ lit = negation-injective a lit same in
              agreed at b live (subst (λ (l : ℕ). IsWatched (record_at e.arena at).lits l b) is w)
        ];
        alone = s.now.alone;
      };
      saved = s.saved;
    }

-- a short clause was visited
pub IsEngine-first_advanced : (e : Engine) → IsEngine e → e.first < length e.shorts → IsShortMet e (get_or e.shorts e.first 0) → IsEngine (record e { first = e.first + 1 })
IsEngine-first_advanced e s below met =
    record {
      few = s.few;
      no_pairs = s.no_pairs;
      room = s.room;
      lists = s.lists;
      heads = s.heads;
      firsts = s.firsts;
      marked = s.marked;
      in_range = s.in_range;
      reasoned = s.reasoned;
      kinds = s.kinds;
      filed = s.filed;
      levelled = s.levelled;
      now = record {
        within = s.now.within;
        watched = s.now.watched;
        alone = record {
          within = omega arith;
          each = λ at live short. let one = s.now.alone.each at live short in record {
            index = one.index;
            within = one.within;
            found = one.found;
            settled = λ lt. elim (cases_lt one.index e.first) [
              | inl before ↦ one.settled before
              | inr late ↦
                  let e_is : one.index ≡ e.first = omega arith in
                  let found : get_or e.shorts e.first 0 ≡ at = ap (λ (n : ℕ). get_or e.shorts n 0) (sym e_is) ∙ one.found in
                  let met_at : IsShortMet e at = subst (λ (r : ℕ). IsShortMet e r) found met in
                  met_at live short
            ];
          };
        };
      };
      saved = s.saved;
    }

-- the last place goes
pub IsEngine-popped : (e : Engine) → IsEngine e → 0 < length e.places.list → IsEngine (without_last e)
IsEngine-popped e s some =
    let last : ℕ = length e.places.list - 1 in
    let lit : ℕ = (place_at e.places.list (length e.places.list - 1)).lit in
    let shorts : List ℕ = e.shorts in
    let at_last : mark_of e.marks (place_at e.places.list (length e.places.list - 1)).lit ≡ length e.places.list - 1 + 1 = s.marked.back (length e.places.list - 1) (omega arith) in
    let lt : (place_at e.places.list (length e.places.list - 1)).lit < length e.marks = mark-in_range e.marks (place_at e.places.list (length e.places.list - 1)).lit (omega arith) in
    let g = MarksGrow-unset e.marks (place_at e.places.list (length e.places.list - 1)).lit (length e.places.list - 1) lt at_last in
    let now : List ℕ = set e.marks (place_at e.places.list (length e.places.list - 1)).lit 0 in
    let count : length (take (length e.places.list - 1) e.places.list) ≡ length e.places.list - 1 = simp length-take (omega arith) in
    let kept : (q : ℕ) → q < length e.places.list - 1 → place_at (take (length e.places.list - 1) e.places.list) q ≡ place_at e.places.list q = λ q below. get_or-take (length e.places.list - 1) e.places.list q no_place below in
    record {
      few = s.few;
      no_pairs = s.no_pairs;
      room = s.room;
      lists = s.lists;
      heads = s.heads;
      firsts = s.firsts;
      marked = AreMarked-pop e.marks e.places.list e.variables (place_at e.places.list (length e.places.list - 1)).lit s.marked some refl;
      in_range = s.in_range;
      reasoned = λ q at below is.
          let under : q < length e.places.list - 1 = omega arith in
          let was = s.reasoned q at (omega arith) (sym (ap (λ (x : Place). x.reason) (kept q under)) ∙ is) in
          let here = IsReasonBelow-shrunk (record_at e.arena at) e.marks now (length e.places.list - 1) q (place_at e.places.list q).lit g (omega arith) was in
          subst (λ (x : Place). IsReasonBelow (record_at e.arena at) now q x.lit) (sym (kept q under)) here;
      kinds = s.kinds;
      filed = s.filed;
      levelled = λ q below.
          let under : q < length e.places.list - 1 = omega arith in
          ap (λ (x : Place). x.level) (kept q under) ∙ s.levelled q (omega arith) ∙ ap level_of (sym (take-take (q + 1) (length e.places.list - 1) e.places.list (omega arith)));
      now = subst (λ (n : ℕ). IsSettledAt e.arena shorts now (get_or e.heads (length e.places.list - 1) 0) (get_or e.firsts (length e.places.list - 1) 0) n) (sym count)
          (IsSettledAt-shrunk e.arena shorts e.marks now (length e.places.list - 1) (get_or e.heads (length e.places.list - 1) 0) (get_or e.firsts (length e.places.list - 1) 0) (length e.places.list - 1) g (omega arith) (s.saved (length e.places.list - 1) (omega arith)));
      saved = λ q below. IsSettledAt-shrunk e.arena shorts e.marks now (length e.places.list - 1) (get_or e.heads q 0) (get_or e.firsts q 0) q g (omega arith) (s.saved q (omega arith));
    }

-- a literal of a record, and its negation, have marks
pub lit-in_range : (e : Engine) (at k lit : ℕ) → IsEngine e → k < length (record_at e.arena at).lits → lit ≡ get_or (record_at e.arena at).lits k 0 → (lit < 2 * e.variables) × (lit < length e.marks) × (negation_of lit < length e.marks)
lit-in_range e at k lit s within is =
    let range : lit < 2 * e.variables = s.in_range at lit (contains_at (record_at e.arena at).lits k lit within (sym is)) in
    let size = s.marked.size in
    let other = negation-below lit e.variables range in
    (range, omega arith, omega arith)

-- one more place of a clause without a literal to watch
pub HasNoFresh-more : (e : Engine) (at other k : ℕ) → HasNoFresh e at other k → (get_or (record_at e.arena at).lits k 0 ≢ other → 0 < mark_of e.marks (negation_of (get_or (record_at e.arena at).lits k 0))) → HasNoFresh e at other (k + 1)
HasNoFresh-more e at other k none here j third lt ne =
    elim (cases_lt j k) [
      | inl below ↦ none j third below ne
      | inr late ↦
          let same : j ≡ k = omega arith in
          let P : ℕ → Type 0 = λ n. 0 < mark_of e.marks (negation_of (get_or (record_at e.arena at).lits n 0)) in
          subst P (sym same) (here (λ z. ne (ap (λ (n : ℕ). get_or (record_at e.arena at).lits n 0) same ∙ z)))
    ]
