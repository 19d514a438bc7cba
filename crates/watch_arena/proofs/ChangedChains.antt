-- Chains of watches as two literals of a clause are exchanged and as a clause comes, and how long they are.
use Rattle.std.proofs.Common.{◌≡◌, ◌≢◌, ◌∙◌, ◌⊎◌, ℕ, zero, suc, ◌+◌, ◌-◌, ◌*◌, ◌<◌, ◌≤◌, true, false, List, [], ◌∷◌, ◌++◌, length, get_or, set, Option, Some, None, refl, sym, ap, subst, arith, inl, inr, length-set}
use Rattle.std.specs.List.{swap}
use Rattle.std.proofs.lemmas.Bool.{cases_eq}
use Rattle.std.proofs.lemmas.List.{length_push}
use Rattle.std.proofs.lemmas.List.Edits.{Swapped, swapped_from_swap, length-swap}
use Rattle.clause_arena.specs.declared.place.Link.{Link}
use Rattle.clause_arena.specs.Records.{Record, record_at, link_of, with_lits_swapped, forgotten}
use Rattle.watch_arena.specs.Engines.{IsShort}
use Rattle.watch_arena.specs.Chains.{head_of, next_of, IsChain, Has, IsEntry, IsChainOf, AreChains, IsNone, IsThis}
use Rattle.watch_arena.proofs.Pigeons.{at_most}
use Rattle.watch_arena.proofs.WatchedPair.{record_at-same, record_at-other, record_at-put}
use Rattle.watch_arena.proofs.SameRecords.{moved, fresh}
use Rattle.watch_arena.proofs.WatchChains.{same_entry, IsChain-kept, IsChain-once}

-- the other watch of a clause
abbrev pub opposite : Link → Link
opposite x = record { at = x.at; slot = 1 - x.slot }

-- what is known of an exchange: the literal that comes differs from the other one that is watched
pub record IsExchange (records : List Record) (x : Link) (k lit : ℕ) : Type 0 where
  pub entry : IsEntry records lit x
  pub third : 2 ≤ k
  pub within : k < length (record_at records x.at).lits
  pub differs : fresh records x.at k ≢ get_or (record_at records x.at).lits (1 - x.slot) 0

-- the literals after it
pub swapped_at : (records : List Record) (x : Link) (k lit : ℕ) → IsExchange records x k lit → (get_or (record_at (moved records x.at x.slot k) x.at).lits x.slot 0 ≡ fresh records x.at k) × (get_or (record_at (moved records x.at x.slot k) x.at).lits (1 - x.slot) 0 ≡ get_or (record_at records x.at).lits (1 - x.slot) 0) × (length (record_at (moved records x.at x.slot k) x.at).lits ≡ length (record_at records x.at).lits)
swapped_at records x k lit m =
    let lits : List ℕ = (record_at records x.at).lits in
    let small = m.entry.slot_is in let third = m.third in let within = m.within in
    let here : (record_at (moved records x.at x.slot k) x.at).lits ≡ swap lits x.slot k = ap (λ (r : Record). r.lits) (record_at-same records x.at (with_lits_swapped (record_at records x.at) x.slot k) m.entry.within) in
    let s : Swapped (λ n. get_or lits n 0) (λ n. get_or (swap lits x.slot k) n 0) x.slot k = swapped_from_swap lits (swap lits x.slot k) x.slot k 0 (omega arith) within refl in (
      ap (λ (ls : List ℕ). get_or ls x.slot 0) here ∙ s.0,
      ap (λ (ls : List ℕ). get_or ls (1 - x.slot) 0) here ∙ s.2 (1 - x.slot) (λ e. absurd (omega arith)) (λ e. absurd (omega arith)),
      ap length here ∙ length-swap lits x.slot k,
    )

-- then the entry is a watch on the literal that came
pub IsEntry-exchanged : (records : List Record) (x : Link) (k lit : ℕ) → IsExchange records x k lit → IsEntry (moved records x.at x.slot k) (fresh records x.at k) x
IsEntry-exchanged records x k lit m =
    let s = swapped_at records x k lit m in
    let size = length-set records x.at (with_lits_swapped (record_at records x.at) x.slot k) in
    let within = m.entry.within in let two = m.entry.two in let long = s.2 in
    record {
      within = omega arith;
      slot_is = m.entry.slot_is;
      two = omega arith;
      lit_is = s.0;
      differ = λ e. m.differs (e ∙ s.1);
    }

-- and the other watch stays one
opposite-there : (records : List Record) (x : Link) (k lit l : ℕ) → IsExchange records x k lit → IsEntry records l (opposite x) → IsEntry (moved records x.at x.slot k) l (opposite x)
opposite-there records x k lit l m p =
    let s = swapped_at records x k lit m in
    let size = length-set records x.at (with_lits_swapped (record_at records x.at) x.slot k) in
    let within = m.entry.within in let two = m.entry.two in let long = s.2 in let small = m.entry.slot_is in
    let back : 1 - (1 - x.slot) ≡ x.slot = omega arith in
    record {
      within = omega arith;
      slot_is = p.slot_is;
      two = omega arith;
      lit_is = s.1 ∙ p.lit_is;
      differ = λ e. m.differs (sym s.0 ∙ sym (ap (λ (n : ℕ). get_or (record_at (moved records x.at x.slot k) x.at).lits n 0) back) ∙ sym e ∙ sym p.lit_is);
    }

opposite-back : (records : List Record) (x : Link) (k lit l : ℕ) → IsExchange records x k lit → IsEntry (moved records x.at x.slot k) l (opposite x) → IsEntry records l (opposite x)
opposite-back records x k lit l m p =
    let s = swapped_at records x k lit m in
    let within = m.entry.within in let two = m.entry.two in let small = m.entry.slot_is in
    let back : 1 - (1 - x.slot) ≡ x.slot = omega arith in
    let is : get_or (record_at records x.at).lits (1 - x.slot) 0 ≡ l = sym s.1 ∙ p.lit_is in
    record {
      within = within;
      slot_is = p.slot_is;
      two = two;
      lit_is = is;
      differ = λ e. m.entry.differ (sym m.entry.lit_is ∙ sym (ap (λ (n : ℕ). get_or (record_at records x.at).lits n 0) back) ∙ sym e ∙ sym is);
    }

-- an entry of the clause is the one or the other
one_or_other : (x y : Link) → x.slot < 2 → y.slot < 2 → y.at ≡ x.at → (y ≡ x) ⊎ (y ≡ opposite x)
one_or_other x y x_lt y_lt e = elim (cases_eq y.slot x.slot) [
  | inl s ↦ inl (same_entry y x e s)
  | inr ne ↦ inr (same_entry y (opposite x) e (omega arith))
]

-- an entry is so by the clause's literals alone
pub entry-by_lits : (records new : List Record) (l : ℕ) (y : Link) → length new ≡ length records → (record_at new y.at).lits ≡ (record_at records y.at).lits → IsEntry records l y → IsEntry new l y
entry-by_lits records new l y size same p =
    let within = p.within in
    record {
      within = omega arith;
      slot_is = p.slot_is;
      two = subst (λ (ls : List ℕ). 2 ≤ length ls) (sym same) p.two;
      lit_is = ap (λ (ls : List ℕ). get_or ls y.slot 0) same ∙ p.lit_is;
      differ = λ e. p.differ (e ∙ ap (λ (ls : List ℕ). get_or ls (1 - y.slot) 0) same);
    }

-- no link changes
pub next_of-moved : (records : List Record) (at slot k : ℕ) (y : Link) → at < length records → next_of (moved records at slot k) y ≡ next_of records y
next_of-moved records at slot k y lt = elim (cases_eq y.at at) [
  | inl e ↦
      ap (λ (n : ℕ). link_of (record_at (moved records at slot k) n) y.slot) e
      ∙ ap (λ (r : Record). link_of r y.slot) (record_at-same records at (with_lits_swapped (record_at records at) slot k) lt)
      ∙ ap (λ (n : ℕ). link_of (record_at records n) y.slot) (sym e)
  | inr ne ↦ ap (λ (r : Record). link_of r y.slot) (record_at-other records at y.at (with_lits_swapped (record_at records at) slot k) ne)
]

-- chains beside which the entry stands are chains after the exchange
pub AreChains-exchanged : (records : List Record) (chains : List (Option Link)) (x : Link) (k lit : ℕ) → AreChains records chains (IsThis x) → IsExchange records x k lit → AreChains (moved records x.at x.slot k) chains (IsThis x)
AreChains-exchanged records chains x k lit all m l below =
    let now : List Record = moved records x.at x.slot k in
    let old : IsChainOf records l (head_of chains l) (IsThis x) = all l below in
    let lt = m.entry.within in
    let size : length now ≡ length records = length-set records x.at (with_lits_swapped (record_at records x.at) x.slot k) in
    let other : (y : Link) → y.at ≢ x.at → record_at now y.at ≡ record_at records y.at = λ y ne. record_at-other records x.at y.at (with_lits_swapped (record_at records x.at) x.slot k) ne in
    record {
      list = old.list;
      chain = IsChain-kept records now (head_of chains l) old.list (λ y h. next_of-moved records x.at x.slot k y lt) old.chain;
      entries = λ y h.
          let p = old.entries y h in
          elim (cases_eq y.at x.at) [
            | inl e ↦ elim (one_or_other x y m.entry.slot_is p.slot_is e) [
              | inl z ↦ absurd (old.apart y h z)
              | inr z ↦
                  let was : IsEntry records l (opposite x) = subst (λ (w : Link). IsEntry records l w) z p in
                  subst (λ (w : Link). IsEntry now l w) (sym z) (opposite-there records x k lit l m was)
            ]
            | inr ne ↦ entry-by_lits records now l y size (ap (λ (r : Record). r.lits) (other y ne)) p
          ];
      apart = old.apart;
      whole = λ y p live. elim (cases_eq y.at x.at) [
        | inl e ↦ elim (one_or_other x y m.entry.slot_is p.slot_is e) [
          | inl z ↦ inr z
          | inr z ↦
              let now_is : IsEntry now l (opposite x) = subst (λ (w : Link). IsEntry now l w) z p in
              let was : IsEntry records l y = subst (λ (w : Link). IsEntry records l w) (sym z) (opposite-back records x k lit l m now_is) in
              let here : record_at now y.at ≡ with_lits_swapped (record_at records x.at) x.slot k = ap (record_at now) e ∙ record_at-same records x.at (with_lits_swapped (record_at records x.at) x.slot k) lt in
              old.whole y was (ap (λ (n : ℕ). (record_at records n).live) e ∙ sym (ap (λ (r : Record). r.live) here) ∙ live)
        ]
        | inr ne ↦ old.whole y (entry-by_lits now records l y (sym size) (ap (λ (r : Record). r.lits) (sym (other y ne))) p) (sym (ap (λ (r : Record). r.live) (other y ne)) ∙ live)
      ];
    }

-- the watches of a new clause stand aside
abbrev pub IsOf : ℕ → Link → Type 0
IsOf at y = (y.at ≡ at) × (y.slot < 2)

pub AreChains-put : (records : List Record) (chains : List (Option Link)) (r : Record) → AreChains records chains IsNone → AreChains (records ++ r ∷ []) chains (IsOf (length records))
AreChains-put records chains r all l below =
    let now : List Record = records ++ r ∷ [] in
    let old : IsChainOf records l (head_of chains l) IsNone = all l below in
    let size : length now ≡ length records + 1 = length_push records r in
    let same : (y : Link) → y.at ≢ length records → record_at now y.at ≡ record_at records y.at = λ y ne. record_at-put records r y.at ne in
    let early : (y : Link) → Has old.list y → y.at ≢ length records = λ y h e. let lt = (old.entries y h).within in absurd (omega arith) in
    record {
      list = old.list;
      chain = IsChain-kept records now (head_of chains l) old.list (λ y h. ap (λ (s : Record). link_of s y.slot) (same y (early y h))) old.chain;
      entries = λ y h.
          let p = old.entries y h in
          let is = same y (early y h) in
          let within = p.within in
          record {
            within = omega arith;
            slot_is = p.slot_is;
            two = subst (λ (s : Record). 2 ≤ length s.lits) (sym is) p.two;
            lit_is = ap (λ (s : Record). get_or s.lits y.slot 0) is ∙ p.lit_is;
            differ = λ e. p.differ (e ∙ ap (λ (s : Record). get_or s.lits (1 - y.slot) 0) is);
          };
      apart = λ y h a. early y h a.0;
      whole = λ y p live. elim (cases_eq y.at (length records)) [
        | inl e ↦ inr (e, p.slot_is)
        | inr ne ↦
            let is = same y ne in
            let within = p.within in
            let was : IsEntry records l y = record {
              within = omega arith;
              slot_is = p.slot_is;
              two = subst (λ (s : Record). 2 ≤ length s.lits) is p.two;
              lit_is = sym (ap (λ (s : Record). get_or s.lits y.slot 0) is) ∙ p.lit_is;
              differ = λ e. p.differ (e ∙ sym (ap (λ (s : Record). get_or s.lits (1 - y.slot) 0) is));
            } in
            elim (old.whole y was (sym (ap (λ (s : Record). s.live) is) ∙ live)) [ inl h ↦ inl h | inr none ↦ absurd none ]
      ];
    }

-- chains don't change where a clause is forgotten
pub AreChains-forgotten : (records : List Record) (chains : List (Option Link)) (at : ℕ) → at < length records → AreChains records chains IsNone → AreChains (set records at (forgotten (record_at records at))) chains IsNone
AreChains-forgotten records chains at lt all l below =
    let now : List Record = set records at (forgotten (record_at records at)) in
    let old : IsChainOf records l (head_of chains l) IsNone = all l below in
    let size : length now ≡ length records = length-set records at (forgotten (record_at records at)) in
    let is : (b : ℕ) → b ≡ at → record_at now b ≡ forgotten (record_at records b) = λ b e.
    ap (record_at now) e ∙ record_at-same records at (forgotten (record_at records at)) lt ∙ ap (λ (n : ℕ). forgotten (record_at records n)) (sym e) in
    let other : (b : ℕ) → b ≢ at → record_at now b ≡ record_at records b = λ b ne. record_at-other records at b (forgotten (record_at records at)) ne in
    let lits : (b : ℕ) → (record_at now b).lits ≡ (record_at records b).lits = λ b. elim (cases_eq b at) [ inl e ↦ ap (λ (r : Record). r.lits) (is b e) | inr ne ↦ ap (λ (r : Record). r.lits) (other b ne) ] in
    let next : (y : Link) → next_of now y ≡ next_of records y = λ y. elim (cases_eq y.at at) [ inl e ↦ ap (λ (r : Record). link_of r y.slot) (is y.at e) | inr ne ↦ ap (λ (r : Record). link_of r y.slot) (other y.at ne) ] in
    let was_live : (b : ℕ) → (record_at now b).live ≡ true → (record_at records b).live ≡ true = λ b on. elim (cases_eq b at) [
      | inl e ↦ absurd (let off : (record_at now b).live ≡ false = ap (λ (r : Record). r.live) (is b e) in let clash : true ≡ false = sym on ∙ off in cc)
      | inr ne ↦ sym (ap (λ (r : Record). r.live) (other b ne)) ∙ on
    ] in
    record {
      list = old.list;
      chain = IsChain-kept records now (head_of chains l) old.list (λ y h. next y) old.chain;
      entries = λ y h. entry-by_lits records now l y size (lits y.at) (old.entries y h);
      apart = old.apart;
      whole = λ y p on. old.whole y (entry-by_lits now records l y (sym size) (sym (lits y.at)) p) (was_live y.at on);
    }

-- a short clause has no watches
pub short_no_entry : (records : List Record) (l : ℕ) (y : Link) → IsShort (record_at records y.at).lits → IsEntry records l y → ⊥
short_no_entry records l y short p =
    let two = p.two in let small = p.slot_is in
    p.differ (sym p.lit_is ∙ short y.slot (omega arith) ∙ sym (short (1 - y.slot) (omega arith)))

-- how long a chain is, as far as a bound
pub count_from : ℕ → List Record → Option Link → ℕ
count_from zero records from = 0
count_from (suc n) records None = 0
count_from (suc n) records (Some x) = suc (count_from n records (next_of records x))

pub count_from-is : (n : ℕ) (records : List Record) (from : Option Link) (xs : List Link) → IsChain records from xs → length xs ≤ n → count_from n records from ≡ length xs
unfolding count_from
count_from-is zero records from [] c le = refl
count_from-is zero records from (x ∷ xs) c le = absurd (omega arith)
count_from-is (suc n) records from [] c le = ap (count_from (suc n) records) c
count_from-is (suc n) records from (x ∷ xs) c le = ap (count_from (suc n) records) c.0 ∙ ap suc (count_from-is n records (next_of records x) xs c.1 (omega arith))

-- an entry by its place in the list
abbrev pub no_link : Link
no_link = record { at = 0; slot = 0 }

Has-at : (xs : List Link) (k : ℕ) → k < length xs → Has xs (get_or xs k no_link)
Has-at [] k lt = absurd (omega arith)
Has-at (x ∷ xs) zero lt = inl refl
Has-at (x ∷ xs) (suc k) lt = inr (Has-at xs k (omega arith))

distinct : (records : List Record) (from : Option Link) (xs : List Link) (p q : ℕ) → IsChain records from xs → p < q → q < length xs → get_or xs p no_link ≡ get_or xs q no_link → ⊥
distinct records from [] p q c lt below e = absurd (omega arith)
distinct records from (x ∷ xs) zero zero c lt below e = absurd (omega arith)
distinct records from (x ∷ xs) zero (suc q) c lt below e = IsChain-once records x xs c.1 (subst (λ (y : Link). Has xs y) (sym e) (Has-at xs q (omega arith)))
distinct records from (x ∷ xs) (suc p) zero c lt below e = absurd (omega arith)
distinct records from (x ∷ xs) (suc p) (suc q) c lt below e = distinct records (next_of records x) xs p q c.1 (omega arith) (omega arith) e

-- a chain is no longer than twice the number of clauses
pub IsChain-bounded : (records : List Record) (from : Option Link) (xs : List Link) → IsChain records from xs → ((x : Link) → Has xs x → (x.at < length records) × (x.slot < 2)) → length xs ≤ 2 * length records
IsChain-bounded records from xs c small =
    at_most (2 * length records) (length xs) (λ p. 2 * (get_or xs p no_link).at + (get_or xs p no_link).slot)
    (λ p lt. let s = small (get_or xs p no_link) (Has-at xs p lt) in let a = s.0 in let b = s.1 in omega arith)
    (λ p q lt below e.
    let s = small (get_or xs p no_link) (Has-at xs p (omega arith)) in let t = small (get_or xs q no_link) (Has-at xs q below) in
    let a = s.1 in let b = t.1 in
    distinct records from xs p q c lt below (same_entry (get_or xs p no_link) (get_or xs q no_link) (omega arith) (omega arith)))
