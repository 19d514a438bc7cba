-- An engine with no clause and no place.
use Rattle.std.proofs.Common.{◌≡◌, ◌∙◌, ℕ, ◌*◌, ◌^◌, ◌<◌, ◌≤◌, true, false, List, [], length, replicate, Option, None, sym, ap, subst, arith, inl, inr}
use Rattle.std.specs.List.{Contains}
use Rattle.std.proofs.lemmas.Bool.{cases_lt}
use Rattle.std.proofs.lemmas.List.{get_or-replicate, get_or_past, length-replicate}
use Rattle.clause_arena.specs.declared.place.Link.{Link}
use Rattle.clause_arena.specs.Records.{Record, record_at}
use Rattle.watch_arena.specs.declared.engine.Engine.{Engine}
use Rattle.watch_arena.specs.Chains.{AreChains, IsNone}
use Rattle.watch_arena.specs.Engines.{IsEngine, mark_of}

-- no chain has an entry
AreChains-empty : (count : ℕ) → AreChains [] (replicate count None) IsNone
AreChains-empty count lit lt =
    let size : length (replicate {A = Option Link} count None) ≡ count = length-replicate {A = Option Link} count None in
    record {
      list = [];
      chain = get_or-replicate {A = Option Link} count lit None None (omega arith);
      entries = λ x none. absurd none;
      apart = λ x none a. none;
      whole = λ x p live. absurd (let lt = p.within in omega arith);
    }

-- no mark is set
mark-zero : (count lit : ℕ) → mark_of (replicate count 0) lit ≡ 0
mark-zero count lit = elim (cases_lt lit count) [
  | inl lt ↦ get_or-replicate count lit 0 0 lt
  | inr ge ↦ let size : length (replicate {A = ℕ} count 0) ≡ count = length-replicate {A = ℕ} count 0 in get_or_past (replicate count 0) lit 0 (omega arith)
]

-- no record is live
dead : (at : ℕ) → (record_at [] at).live ≡ true → ⊥
dead at live = absurd (let clash : false ≡ true = live in cc)

pub IsEngine-empty : (e : Engine) → e.variables < 2 ^ 32 → e.variables ≤ e.places.room → e.arena ≡ [] → e.chains ≡ replicate (2 * e.variables) None → e.marks ≡ replicate (2 * e.variables) 0 → e.places.list ≡ [] → e.heads ≡ replicate e.variables 0 → e.firsts ≡ replicate e.variables 0 → e.queue_head ≡ 0 → e.first ≡ 0 → e.moves.pairs ≡ [] → IsEngine e
IsEngine-empty e few room arena chains marks places heads firsts queue_head first no_pairs =
    let no_place : length e.places.list ≡ 0 = ap length places in
    let never : (at : ℕ) → (record_at e.arena at).live ≡ true → ⊥ = λ at live. dead at (subst (λ (rs : List Record). (record_at rs at).live ≡ true) arena live) in
    let none : (lit : ℕ) → mark_of e.marks lit ≡ 0 = λ lit. ap (λ (ms : List ℕ). mark_of ms lit) marks ∙ mark-zero (2 * e.variables) lit in
    record {
      few = few;
      no_pairs = no_pairs;
      room = room;
      lists = ap length chains ∙ length-replicate {A = Option Link} (2 * e.variables) None;
      heads = ap length heads ∙ length-replicate {A = ℕ} e.variables 0;
      firsts = ap length firsts ∙ length-replicate {A = ℕ} e.variables 0;
      marked = record {
        size = ap length marks ∙ length-replicate {A = ℕ} (2 * e.variables) 0;
        back = λ p lt. absurd (omega arith);
        forth = λ lit pos. absurd (let z = none lit in omega arith);
        apart = λ lit pos. absurd (let z = none lit in omega arith);
      };
      in_range = λ at lit c. let d : Contains (record_at [] at).lits lit = subst (λ (rs : List Record). Contains (record_at rs at).lits lit) arena c in absurd (let lt = d.1 in omega arith);
      reasoned = λ p at lt is. absurd (omega arith);
      kinds = λ at live. absurd (never at live);
      filed = subst (λ (rs : List Record). AreChains rs e.chains IsNone) (sym arena) (subst (λ (cs : List (Option Link)). AreChains [] cs IsNone) (sym chains) (AreChains-empty (2 * e.variables)));
      levelled = λ p lt. absurd (omega arith);
      now = record {
        within = omega arith;
        watched = λ at a b live w f. absurd (never at live);
        alone = record { within = omega arith; each = λ at live short. absurd (never at live) };
      };
      saved = λ p lt. absurd (omega arith);
    }
