-- Chains are made anew.
use Rattle.std.proofs.Common.{◌≡◌, ◌≢◌, ◌∙◌, ◌⊎◌, ℕ, ◌+◌, ◌*◌, ◌<◌, ◌≤◌, List, [], length, get_or, set, Option, Some, None, refl, sym, ap, subst, arith, inl, inr, length-set}
use Rattle.std.specs.List.{Contains}
use Rattle.std.proofs.lemmas.Bool.{cases_eq}
use Rattle.clause_arena.specs.declared.place.Link.{Link}
use Rattle.clause_arena.specs.Records.{Record, record_at}
use Rattle.watch_arena.specs.declared.engine.Engine.{Engine}
use Rattle.watch_arena.specs.Chains.{head_of, linked, IsEntry, AreChains, IsNone, SameBodies}
use Rattle.watch_arena.specs.Compactions.{IsFrom, Relinks}
use Rattle.watch_arena.specs.Engines.{RecordsInRange}
use Rattle.watch_arena.proofs.WatchedPair.{contains_at}
use Rattle.watch_arena.proofs.WatchChains.{same_entry, AreChains-front, AreChains-aside, IsEntry-bodies, SameBodies-refl, SameBodies-linked, SameBodies-trans}

-- both watches of a clause come to the front of their chains
pub record AreFronted (records : List Record) (chains : List (Option Link)) (n a b : ℕ) (C : Link → Type 0) : Type 0 where
  pub bodies : SameBodies records (linked (linked records (record { at = n; slot = 0 }) (head_of chains a)) (record { at = n; slot = 1 }) (head_of (set chains a (Some (record { at = n; slot = 0 }))) b))
  pub size : length (set (set chains a (Some (record { at = n; slot = 0 }))) b (Some (record { at = n; slot = 1 }))) ≡ length chains
  pub filed : AreChains (linked (linked records (record { at = n; slot = 0 }) (head_of chains a)) (record { at = n; slot = 1 }) (head_of (set chains a (Some (record { at = n; slot = 0 }))) b)) (set (set chains a (Some (record { at = n; slot = 0 }))) b (Some (record { at = n; slot = 1 }))) C

pub AreFronted-both : (records : List Record) (chains : List (Option Link)) (n a b : ℕ) (A C : Link → Type 0) → AreChains records chains A → a < length chains → b < length chains → IsEntry records a (record { at = n; slot = 0 }) → IsEntry records b (record { at = n; slot = 1 }) → A (record { at = n; slot = 0 }) → A (record { at = n; slot = 1 }) → ((y : Link) → C y → A y × (y.at ≢ n)) → ((l : ℕ) (y : Link) → IsEntry records l y → A y → (y.at ≡ n) ⊎ C y) → AreFronted records chains n a b C
AreFronted-both records chains n a b A C all a_lt b_lt entry1 entry_b aside1 aside2 sub split =
    let first : Link = record { at = n; slot = 0 } in
    let second : Link = record { at = n; slot = 1 } in
    let c2 : List (Option Link) = set chains a (Some first) in
    let r2 : List Record = linked records first (head_of chains a) in
    let r3 : List Record = linked r2 second (head_of c2 b) in
    let B : Link → Type 0 = λ y. C y ⊎ (y ≡ second) in
    let apart : first ≡ second → ⊥ = λ z. absurd (let clash : ◌≡◌ {A = ℕ} 0 1 = ap (λ (y : Link). y.slot) z in omega arith) in
    let all2 : AreChains r2 c2 B = AreChains-front records chains a first A B all a_lt entry1 aside1
    (λ x. elim x [ inl k ↦ (sub first k).1 refl | inr z ↦ apart z ])
    (λ y x. elim x [ inl k ↦ (sub y k).0 | inr z ↦ subst A (sym z) aside2 ])
    (λ l y p x. elim (split l y p x) [
      | inl at ↦ elim (cases_eq y.slot 0) [ inl z ↦ inl (same_entry y first at z) | inr nz ↦ inr (inr (same_entry y second at (let small = p.slot_is in omega arith))) ]
      | inr k ↦ inr (inl k)
    ]) in
    let bodies2 : SameBodies records r2 = SameBodies-linked records first (head_of chains a) entry1.within in
    let entry2 : IsEntry r2 b second = IsEntry-bodies records r2 b second bodies2 entry_b in
    let size2 : length c2 ≡ length chains = length-set chains a (Some first) in
    record {
      bodies = SameBodies-trans records r2 r3 bodies2 (SameBodies-linked r2 second (head_of c2 b) entry2.within);
      size = length-set c2 b (Some second) ∙ size2;
      filed = AreChains-front r2 c2 b second B C all2 (omega arith) entry2 (inr refl) (λ k. (sub second k).1 refl) (λ y k. inl k)
          (λ l y p x. elim x [ inl k ↦ inr k | inr z ↦ inl z ]);
    }

-- nothing was relinked, and one after another
pub Relinks-refl : (e : Engine) → Relinks e e
Relinks-refl e = record { bodies = SameBodies-refl e.arena; size = refl; same = refl }

pub Relinks-trans : (a b c : Engine) → Relinks a b → Relinks b c → Relinks a c
Relinks-trans a b c s t = record {
  bodies = SameBodies-trans a.arena b.arena c.arena s.bodies t.bodies;
  size = t.size ∙ s.size;
  same = t.same ∙ ap (λ (e : Engine). let x : Engine = record e { arena = c.arena; chains = c.chains } in x) s.same;
}

-- a clause with no two different literals at its front has no watches
pub AreChains-passed : (records : List Record) (chains : List (Option Link)) (at : ℕ) → AreChains records chains (IsFrom at) → ((lit : ℕ) (y : Link) → IsEntry records lit y → y.at ≡ at → ⊥) → AreChains records chains (IsFrom (at + 1))
AreChains-passed records chains at all none =
    AreChains-aside records chains (IsFrom at) (IsFrom (at + 1)) (λ y le. let more : at + 1 ≤ y.at = le in omega arith)
    (λ l y p le. let from : at ≤ y.at = le in let ne : y.at ≢ at = λ e. none l y p e in omega arith) all

-- a clause's two watches come to the front, in an engine
pub record HasWatched (old new : Engine) (at : ℕ) : Type 0 where
  pub relinks : Relinks old new
  pub filed : AreChains new.arena new.chains (IsFrom (at + 1))

pub Watched : (e e1 e2 : Engine) (at a b : ℕ) → at < length e.arena → length e.chains ≡ 2 * e.variables → RecordsInRange e.arena e.variables → AreChains e.arena e.chains (IsFrom at) → 2 ≤ length (record_at e.arena at).lits → a ≡ get_or (record_at e.arena at).lits 0 0 → b ≡ get_or (record_at e.arena at).lits 1 0 → a ≢ b → e1 ≡ record e { arena = linked e.arena (record { at = at; slot = 0 }) (head_of e.chains a); chains = set e.chains a (Some (record { at = at; slot = 0 })) } → e2 ≡ record e1 { arena = linked e1.arena (record { at = at; slot = 1 }) (head_of e1.chains b); chains = set e1.chains b (Some (record { at = at; slot = 1 })) } → HasWatched e e2 at
Watched e e1 e2 at a b lt lists range all two a_is b_is ne is1 is2 =
    let first : Link = record { at = at; slot = 0 } in
    let second : Link = record { at = at; slot = 1 } in
    let a_lt : a < 2 * e.variables = range at a (contains_at (record_at e.arena at).lits 0 a (omega arith) (sym a_is)) in
    let b_lt : b < 2 * e.variables = range at b (contains_at (record_at e.arena at).lits 1 b (omega arith) (sym b_is)) in
    let entry1 : IsEntry e.arena a first = record { within = lt; slot_is = omega arith; two = two; lit_is = sym a_is; differ = λ z. ne (z ∙ sym b_is) } in
    let entry2 : IsEntry e.arena b second = record { within = lt; slot_is = omega arith; two = two; lit_is = sym b_is; differ = λ z. ne (sym (z ∙ sym a_is)) } in
    let f = AreFronted-both e.arena e.chains at a b (IsFrom at) (IsFrom (at + 1)) all (omega arith) (omega arith) entry1 entry2 (omega arith) (omega arith)
    (λ y k. let more : at + 1 ≤ y.at = k in (omega arith, omega arith))
    (λ l y p k. let from : at ≤ y.at = k in elim (cases_eq y.at at) [ inl z ↦ inl z | inr nz ↦ inr (omega arith) ]) in
    let r2 : List Record = linked e.arena first (head_of e.chains a) in
    let c2 : List (Option Link) = set e.chains a (Some first) in
    let is : e2 ≡ record e { arena = linked r2 second (head_of c2 b); chains = set c2 b (Some second) } =
    is2 ∙ ap (λ (x : Engine). let y : Engine = record x { arena = linked x.arena second (head_of x.chains b); chains = set x.chains b (Some second) } in y) is1 in
    let here : HasWatched e (record e { arena = linked r2 second (head_of c2 b); chains = set c2 b (Some second) }) at = record {
      relinks = record { bodies = f.bodies; size = f.size; same = refl };
      filed = f.filed;
    } in
    subst (λ (x : Engine). HasWatched e x at) (sym is) here

-- before the first clause all chains are empty
pub AreChains-none : (records : List Record) (chains : List (Option Link)) → ((lit : ℕ) → head_of chains lit ≡ None) → AreChains records chains (IsFrom 0)
AreChains-none records chains none lit lt = record {
  list = [];
  chain = none lit;
  entries = λ x h. absurd h;
  apart = λ x h a. h;
  whole = λ x p live. inr (omega arith);
}

-- after the last one none stands aside
pub AreChains-done : (records : List Record) (chains : List (Option Link)) (n : ℕ) → AreChains records chains (IsFrom n) → length records ≤ n → AreChains records chains IsNone
AreChains-done records chains n all le =
    AreChains-aside records chains (IsFrom n) IsNone (λ y none. absurd none)
    (λ l y p k. let from : n ≤ y.at = k in let lt = p.within in absurd (omega arith)) all

-- literals stay in range
pub in_range-bodies : (old new : List Record) (variables : ℕ) → SameBodies old new → RecordsInRange old variables → RecordsInRange new variables
in_range-bodies old new variables same range at lit c = range at lit (subst (λ (ls : List ℕ). Contains ls lit) (same.each at).lits c)
