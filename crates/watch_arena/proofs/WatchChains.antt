-- Chains of watches, over plain lists.
use Rattle.std.proofs.Common.{◌≡◌, ◌≢◌, ◌∙◌, ◌⊎◌, ℕ, ◌-◌, ◌<◌, ◌==◌, Bool, true, false, cond, List, [], ◌∷◌, ◌++◌, length, get_or, set, Option, Some, None, refl, sym, ap, subst, arith, inl, inr, length-set, get_or-set_same, get_or-set_other}
use Rattle.std.proofs.lemmas.Bool.{cases_eq}
use borrow.Author.Tests.{eq-eqb, ne_eqb}
use Rattle.clause_arena.specs.declared.place.Link.{Link}
use Rattle.clause_arena.specs.Records.{Record, record_at, no_record, link_of, with_link}
use Rattle.watch_arena.specs.Chains.{head_of, next_of, linked, IsChain, Has, IsEntry, IsChainOf, AreChains, IsNone, IsThis, records_past, chains_past, led, IsSameBody, SameBodies}

-- what is there is not none
pub some_not_none : (x : Link) → ◌≡◌ {A = Option Link} (Some x) None → ⊥
some_not_none x e = absurd (let clash : ◌≡◌ {A = Option Link} (Some x) None = e in cc)

pub some_same : (x y : Link) → ◌≡◌ {A = Option Link} (Some x) (Some y) → x ≡ y
some_same x y e = let same : ◌≡◌ {A = Option Link} (Some x) (Some y) = e in cc

-- entries of one clause and one slot are one
pub same_entry : (x y : Link) → x.at ≡ y.at → x.slot ≡ y.slot → x ≡ y
same_entry x y at slot =
    ap (λ (n : ℕ). let z : Link = record { at = n; slot = x.slot } in z) at ∙ ap (λ (n : ℕ). let z : Link = record { at = y.at; slot = n } in z) slot

-- the links of the entries stay
pub IsChain-kept : (old new : List Record) (from : Option Link) (xs : List Link) → ((x : Link) → Has xs x → next_of new x ≡ next_of old x) → IsChain old from xs → IsChain new from xs
IsChain-kept old new from [] same c = c
IsChain-kept old new from (x ∷ xs) same c =
    (c.0, subst (λ (o : Option Link). IsChain new o xs) (sym (same x (inl refl))) (IsChain-kept old new (next_of old x) xs (λ y h. same y (inr h)) c.1))

-- there is one chain alone
pub IsChain-one : (records : List Record) (from : Option Link) (xs ys : List Link) → IsChain records from xs → IsChain records from ys → xs ≡ ys
IsChain-one records from [] [] c d = refl
IsChain-one records from [] (y ∷ ys) c d = absurd (some_not_none y (sym d.0 ∙ c))
IsChain-one records from (x ∷ xs) [] c d = absurd (some_not_none x (sym c.0 ∙ d))
IsChain-one records from (x ∷ xs) (y ∷ ys) c d =
    let same : x ≡ y = some_same x y (sym c.0 ∙ d.0) in
    let rest : xs ≡ ys = IsChain-one records (next_of records x) xs ys c.1 (subst (λ (z : Link). IsChain records (next_of records z) ys) (sym same) d.1) in
    ap (λ (zs : List Link). x ∷ zs) rest ∙ ap (λ (z : Link). z ∷ ys) same

-- what comes after an entry is shorter
pub IsChain-after : (records : List Record) (from : Option Link) (xs : List Link) (y : Link) → IsChain records from xs → Has xs y → (ys : List Link) × IsChain records (next_of records y) ys × (length ys < length xs)
IsChain-after records from [] y c h = absurd h
IsChain-after records from (x ∷ xs) y c h = elim h [
  | inl e ↦ (xs, subst (λ (z : Link). IsChain records (next_of records z) xs) e c.1, omega arith)
  | inr later ↦ let r = IsChain-after records (next_of records x) xs y c.1 later in let lt = r.2 in (r.0, r.1, omega arith)
]

-- so no entry comes back
pub IsChain-once : (records : List Record) (x : Link) (xs : List Link) → IsChain records (next_of records x) xs → Has xs x → ⊥
IsChain-once records x xs c h =
    let r = IsChain-after records (next_of records x) xs x c h in
    let size = ap length (IsChain-one records (next_of records x) xs r.0 c r.1) in
    let lt = r.2 in absurd (omega arith)

-- entries of lists joined
pub Has-append : (xs ys : List Link) (z : Link) → Has (xs ++ ys) z → Has xs z ⊎ Has ys z
Has-append [] ys z h = inr h
Has-append (x ∷ xs) ys z h = elim h [
  | inl e ↦ inl (inl e)
  | inr later ↦ elim (Has-append xs ys z later) [ inl a ↦ inl (inr a) | inr b ↦ inr b ]
]

pub Has-left : (xs ys : List Link) (z : Link) → Has xs z → Has (xs ++ ys) z
Has-left [] ys z h = absurd h
Has-left (x ∷ xs) ys z h = elim h [ inl e ↦ inl e | inr later ↦ inr (Has-left xs ys z later) ]

pub Has-right : (xs ys : List Link) (z : Link) → Has ys z → Has (xs ++ ys) z
Has-right [] ys z h = h
Has-right (x ∷ xs) ys z h = inr (Has-right xs ys z h)

-- with an entry more in between
pub Has-more : (xs ys : List Link) (x z : Link) → Has (xs ++ ys) z → Has (xs ++ x ∷ ys) z
Has-more xs ys x z h = elim (Has-append xs ys z h) [ inl a ↦ Has-left xs (x ∷ ys) z a | inr b ↦ Has-right xs (x ∷ ys) z (inr b) ]

pub Has-less : (xs ys : List Link) (x z : Link) → Has (xs ++ x ∷ ys) z → (x ≡ z) ⊎ Has (xs ++ ys) z
Has-less xs ys x z h = elim (Has-append xs (x ∷ ys) z h) [
  | inl a ↦ inr (Has-left xs ys z a)
  | inr b ↦ elim b [ inl e ↦ inl e | inr c ↦ inr (Has-right xs ys z c) ]
]

-- an entry of a chain is not among the others
pub IsChain-apart : (records : List Record) (from : Option Link) (xs ys : List Link) (x : Link) → IsChain records from (xs ++ x ∷ ys) → Has (xs ++ ys) x → ⊥
IsChain-apart records from [] ys x c h = IsChain-once records x ys c.1 h
IsChain-apart records from (w ∷ xs) ys x c h = elim h [
  | inl e ↦ IsChain-once records w (xs ++ x ∷ ys) c.1 (Has-right xs (x ∷ ys) w (inl (sym e)))
  | inr later ↦ IsChain-apart records (next_of records w) xs ys x c.1 later
]

-- what comes after an entry in between
pub IsChain-behind : (records : List Record) (from : Option Link) (xs ys : List Link) (x : Link) → IsChain records from (xs ++ x ∷ ys) → IsChain records (next_of records x) ys
IsChain-behind records from [] ys x c = c.1
IsChain-behind records from (w ∷ xs) ys x c = IsChain-behind records (next_of records w) xs ys x c.1

-- the link of one slot, after that of a slot was set
link_of-set : (r : Record) (slot : ℕ) (to : Option Link) → link_of (with_link r slot to) slot ≡ to
link_of-set r slot to =
    let P : Bool → Type 0 = λ b. cond b (cond b (record r { link_0 = to }) (record r { link_1 = to })).link_0 (cond b (record r { link_0 = to }) (record r { link_1 = to })).link_1 ≡ to in
    let go : (b : Bool) → P b = λ b. elim b as P [ true ↦ refl | false ↦ refl ] in
    go (slot == 0)

link_of-other : (r : Record) (a b : ℕ) (to : Option Link) → a < 2 → b < 2 → a ≢ b → link_of (with_link r a to) b ≡ link_of r b
link_of-other r a b to a_lt b_lt ne =
    let P : Bool → Bool → Type 0 = λ x y. cond y (cond x (record r { link_0 = to }) (record r { link_1 = to })).link_0 (cond x (record r { link_0 = to }) (record r { link_1 = to })).link_1 ≡ cond y r.link_0 r.link_1 in
    elim (cases_eq a 0) [
      | inl z ↦
          let off : (b == 0) ≡ false = ne_eqb b 0 (λ e. ne (z ∙ sym e)) in
          let on : (a == 0) ≡ true = eq-eqb a 0 z in
          subst (λ (x : Bool). P x (b == 0)) (sym on) (subst (λ (y : Bool). P true y) (sym off) refl)
      | inr nz ↦
          let on : (b == 0) ≡ true = eq-eqb b 0 (omega arith) in
          let off : (a == 0) ≡ false = ne_eqb a 0 nz in
          subst (λ (x : Bool). P x (b == 0)) (sym off) (subst (λ (y : Bool). P false y) (sym on) refl)
    ]

-- what comes after an entry whose link was set
pub next_of-same : (records : List Record) (x : Link) (to : Option Link) → x.at < length records → next_of (linked records x to) x ≡ to
next_of-same records x to lt =
    ap (λ (r : Record). link_of r x.slot) (get_or-set_same records x.at (with_link (record_at records x.at) x.slot to) no_record lt) ∙ link_of-set (record_at records x.at) x.slot to

-- and after another one
pub next_of-other : (records : List Record) (x y : Link) (to : Option Link) → x.at < length records → x.slot < 2 → y.slot < 2 → (y ≡ x → ⊥) → next_of (linked records x to) y ≡ next_of records y
next_of-other records x y to lt x_lt y_lt ne = elim (cases_eq y.at x.at) [
  | inl e ↦
      let differ : x.slot ≢ y.slot = λ s. ne (same_entry y x e (sym s)) in
      ap (λ (n : ℕ). link_of (record_at (linked records x to) n) y.slot) e
      ∙ ap (λ (r : Record). link_of r y.slot) (get_or-set_same records x.at (with_link (record_at records x.at) x.slot to) no_record lt)
      ∙ link_of-other (record_at records x.at) x.slot y.slot to x_lt y_lt differ
      ∙ ap (λ (n : ℕ). link_of (record_at records n) y.slot) (sym e)
  | inr off ↦ ap (λ (r : Record). link_of r y.slot) (get_or-set_other records x.at y.at (with_link (record_at records x.at) x.slot to) no_record off)
]

-- links are no part of a body
body-linked : (r : Record) (slot : ℕ) (to : Option Link) → IsSameBody r (with_link r slot to)
body-linked r slot to =
    let P : Bool → Type 0 = λ b. IsSameBody r (cond b (record r { link_0 = to }) (record r { link_1 = to })) in
    let go : (b : Bool) → P b = λ b. elim b as P [ true ↦ record { id = refl; lits = refl; live = refl } | false ↦ record { id = refl; lits = refl; live = refl } ] in
    go (slot == 0)

pub SameBodies-refl : (records : List Record) → SameBodies records records
SameBodies-refl records = record { count = refl; each = λ at. record { id = refl; lits = refl; live = refl } }

pub SameBodies-trans : (a b c : List Record) → SameBodies a b → SameBodies b c → SameBodies a c
SameBodies-trans a b c s t = record {
  count = t.count ∙ s.count;
  each = λ at. let x = s.each at in let y = t.each at in record { id = y.id ∙ x.id; lits = y.lits ∙ x.lits; live = y.live ∙ x.live };
}

pub SameBodies-sym : (a b : List Record) → SameBodies a b → SameBodies b a
SameBodies-sym a b s = record {
  count = sym s.count;
  each = λ at. let x = s.each at in record { id = sym x.id; lits = sym x.lits; live = sym x.live };
}

pub SameBodies-linked : (records : List Record) (x : Link) (to : Option Link) → x.at < length records → SameBodies records (linked records x to)
SameBodies-linked records x to lt = record {
  count = length-set records x.at (with_link (record_at records x.at) x.slot to);
  each = λ at. elim (cases_eq at x.at) [
    | inl e ↦
        let here : record_at (linked records x to) at ≡ with_link (record_at records x.at) x.slot to = ap (record_at (linked records x to)) e ∙ get_or-set_same records x.at (with_link (record_at records x.at) x.slot to) no_record lt in
        subst (λ (r : Record). IsSameBody (record_at records at) r) (sym here)
        (subst (λ (n : ℕ). IsSameBody (record_at records n) (with_link (record_at records x.at) x.slot to)) (sym e) (body-linked (record_at records x.at) x.slot to))
    | inr ne ↦
        let same : record_at (linked records x to) at ≡ record_at records at = get_or-set_other records x.at at (with_link (record_at records x.at) x.slot to) no_record ne in
        subst (λ (r : Record). IsSameBody (record_at records at) r) (sym same) (record { id = refl; lits = refl; live = refl })
  ];
}

pub IsEntry-bodies : (old new : List Record) (lit : ℕ) (x : Link) → SameBodies old new → IsEntry old lit x → IsEntry new lit x
IsEntry-bodies old new lit x s p =
    let lits = (s.each x.at).lits in
    let size = ap length lits in
    let count = s.count in
    let within = p.within in let two = p.two in
    record {
      within = omega arith;
      slot_is = p.slot_is;
      two = omega arith;
      lit_is = ap (λ (ls : List ℕ). get_or ls x.slot 0) lits ∙ p.lit_is;
      differ = λ e. p.differ (e ∙ ap (λ (ls : List ℕ). get_or ls (1 - x.slot) 0) lits);
    }

-- an entry that stands aside goes to the front of its literal's chain
pub AreChains-front : (records : List Record) (chains : List (Option Link)) (lit : ℕ) (x : Link) (A B : Link → Type 0) → AreChains records chains A → lit < length chains → IsEntry records lit x → A x → (B x → ⊥) → ((y : Link) → B y → A y) → ((l : ℕ) (y : Link) → IsEntry records l y → A y → (y ≡ x) ⊎ B y) → AreChains (linked records x (head_of chains lit)) (set chains lit (Some x)) B
AreChains-front records chains lit x A B all lt entry aside out sub split l below =
    let now : List Record = linked records x (head_of chains lit) in
    let size : length (set chains lit (Some x)) ≡ length chains = length-set chains lit (Some x) in
    let old : IsChainOf records l (head_of chains l) A = all l (omega arith) in
    let bodies : SameBodies records now = SameBodies-linked records x (head_of chains lit) entry.within in
    let back = SameBodies-sym records now bodies in
    let kept : (y : Link) → Has old.list y → next_of now y ≡ next_of records y = λ y h.
    next_of-other records x y (head_of chains lit) entry.within entry.slot_is (old.entries y h).slot_is (λ e. old.apart y h (subst A (sym e) aside)) in
    let chain : IsChain now (head_of chains l) old.list = IsChain-kept records now (head_of chains l) old.list kept old.chain in
    let was_live : (y : Link) → (record_at now y.at).live ≡ true → (record_at records y.at).live ≡ true = λ y live. sym (bodies.each y.at).live ∙ live in
    elim (cases_eq l lit) [
      | inl e ↦
          let head : head_of (set chains lit (Some x)) l ≡ Some x = ap (head_of (set chains lit (Some x))) e ∙ get_or-set_same chains lit (Some x) None lt in
          let next : next_of now x ≡ head_of chains l = next_of-same records x (head_of chains lit) entry.within ∙ ap (head_of chains) (sym e) in
          let here : IsEntry now l x = IsEntry-bodies records now l x bodies (subst (λ (n : ℕ). IsEntry records n x) (sym e) entry) in
          record {
            list = x ∷ old.list;
            chain = (head, subst (λ (o : Option Link). IsChain now o old.list) (sym next) chain);
            entries = λ y h. elim h [
              | inl z ↦ subst (λ (w : Link). IsEntry now l w) z here
              | inr later ↦ IsEntry-bodies records now l y bodies (old.entries y later)
            ];
            apart = λ y h b. elim h [ inl z ↦ out (subst B (sym z) b) | inr later ↦ old.apart y later (sub y b) ];
            whole = λ y p live.
                let was = IsEntry-bodies now records l y back p in
                elim (old.whole y was (was_live y live)) [
                  | inl h ↦ inl (inr h)
                  | inr a ↦ elim (split l y was a) [ inl z ↦ inl (inl (sym z)) | inr b ↦ inr b ]
                ];
          }
      | inr ne ↦
          let head : head_of (set chains lit (Some x)) l ≡ head_of chains l = get_or-set_other chains lit l (Some x) None ne in
          record {
            list = old.list;
            chain = subst (λ (o : Option Link). IsChain now o old.list) (sym head) chain;
            entries = λ y h. IsEntry-bodies records now l y bodies (old.entries y h);
            apart = λ y h b. old.apart y h (sub y b);
            whole = λ y p live.
                let was = IsEntry-bodies now records l y back p in
                elim (old.whole y was (was_live y live)) [
                  | inl h ↦ inl h
                  | inr a ↦ elim (split l y was a) [
                    | inl z ↦ absurd (ne (sym (subst (λ (w : Link). IsEntry records l w) z was).lit_is ∙ entry.lit_is))
                    | inr b ↦ inr b
                  ]
                ];
          }
    ]

-- what stands aside, by another name
pub AreChains-aside : (records : List Record) (chains : List (Option Link)) (A B : Link → Type 0) → ((y : Link) → B y → A y) → ((l : ℕ) (y : Link) → IsEntry records l y → A y → B y) → AreChains records chains A → AreChains records chains B
AreChains-aside records chains A B sub sup all l below =
    let old = all l below in
    record {
      list = old.list;
      chain = old.chain;
      entries = old.entries;
      apart = λ y h b. old.apart y h (sub y b);
      whole = λ y p live. elim (old.whole y p live) [ inl h ↦ inl h | inr a ↦ inr (sup l y p a) ];
    }

-- a chain is led past an entry
IsChain-past : (records : List Record) (from : Option Link) (before rest : List Link) (p x : Link) → IsChain records from ((before ++ p ∷ []) ++ x ∷ rest) → p.at < length records → ((y : Link) → Has ((before ++ p ∷ []) ++ x ∷ rest) y → y.slot < 2) → IsChain (linked records p (next_of records x)) from ((before ++ p ∷ []) ++ rest)
IsChain-past records from [] rest p x c lt small =
    let now : List Record = linked records p (next_of records x) in
    let kept : (y : Link) → Has rest y → next_of now y ≡ next_of records y = λ y h.
    next_of-other records p y (next_of records x) lt (small p (inl refl)) (small y (inr (inr h))) (λ e. IsChain-once records p (x ∷ rest) c.1 (inr (subst (λ (w : Link). Has rest w) e h))) in
    let ahead : IsChain now (next_of records x) rest = IsChain-kept records now (next_of records x) rest kept c.1.1 in
    (c.0, subst (λ (o : Option Link). IsChain now o rest) (sym (next_of-same records p (next_of records x) lt)) ahead)
IsChain-past records from (b ∷ before) rest p x c lt small =
    let now : List Record = linked records p (next_of records x) in
    let in_it : Has ((before ++ p ∷ []) ++ x ∷ rest) p = Has-left (before ++ p ∷ []) (x ∷ rest) p (Has-right before (p ∷ []) p (inl refl)) in
    let ne : b ≡ p → ⊥ = λ e. IsChain-once records b ((before ++ p ∷ []) ++ x ∷ rest) c.1 (subst (λ (w : Link). Has ((before ++ p ∷ []) ++ x ∷ rest) w) (sym e) in_it) in
    let next : next_of now b ≡ next_of records b = next_of-other records p b (next_of records x) lt (small p (inr in_it)) (small b (inl refl)) ne in
    (c.0, subst (λ (o : Option Link). IsChain now o ((before ++ p ∷ []) ++ rest)) (sym next) (IsChain-past records (next_of records b) before rest p x c.1 lt (λ y h. small y (inr h))))

-- what is known once a chain is led past one of its entries: that one alone stands aside
pub record IsPast (records new : List Record) (lit : ℕ) (chains : List (Option Link)) (x : Link) (front rest : List Link) : Type 0 where
  pub bodies : SameBodies records new
  pub all : AreChains new chains (IsThis x)
  pub chain : IsChain new (head_of chains lit) (front ++ rest)
  pub ahead : IsChain new (next_of records x) rest

-- the last of the entries that a chain was led by is not among those that follow
led_apart : (records : List Record) (from : Option Link) (before rest : List Link) (p : Link) → IsChain records from ((before ++ p ∷ []) ++ rest) → Has rest p → ⊥
led_apart records from [] rest p c h = IsChain-once records p rest c.1 h
led_apart records from (b ∷ before) rest p c h = led_apart records (next_of records b) before rest p c.1 h

-- the chain that an entry left
chain-left : (records new : List Record) (lit l : ℕ) (from : Option Link) (x : Link) (front rest : List Link) → (old : IsChainOf records l from IsNone) → IsChain records from (front ++ x ∷ rest) → SameBodies records new → (now : Option Link) → IsChain new now (front ++ rest) → IsChainOf new l now (IsThis x)
chain-left records new lit l from x front rest old c bodies now chain =
    let same : front ++ x ∷ rest ≡ old.list = IsChain-one records from (front ++ x ∷ rest) old.list c old.chain in
    let back = SameBodies-sym records new bodies in
    record {
      list = front ++ rest;
      chain = chain;
      entries = λ y h. IsEntry-bodies records new l y bodies (old.entries y (subst (λ (zs : List Link). Has zs y) same (Has-more front rest x y h)));
      apart = λ y h e. IsChain-apart records from front rest x c (subst (λ (w : Link). Has (front ++ rest) w) e h);
      whole = λ y p live. elim (old.whole y (IsEntry-bodies new records l y back p) (sym (bodies.each y.at).live ∙ live)) [
        | inl h ↦ elim (Has-less front rest x y (subst (λ (zs : List Link). Has zs y) (sym same) h)) [ inl e ↦ inr (sym e) | inr k ↦ inl k ]
        | inr none ↦ absurd none
      ];
    }

-- another chain
chain-other : (records new : List Record) (lit l : ℕ) (from : Option Link) (x : Link) → (old : IsChainOf records l from IsNone) → IsEntry records lit x → l ≢ lit → SameBodies records new → ((y : Link) → Has old.list y → next_of new y ≡ next_of records y) → IsChainOf new l from (IsThis x)
chain-other records new lit l from x old entry ne bodies kept =
    let back = SameBodies-sym records new bodies in
    record {
      list = old.list;
      chain = IsChain-kept records new from old.list kept old.chain;
      entries = λ y h. IsEntry-bodies records new l y bodies (old.entries y h);
      apart = λ y h e. ne (sym (subst (λ (w : Link). IsEntry records l w) e (old.entries y h)).lit_is ∙ entry.lit_is);
      whole = λ y p live. elim (old.whole y (IsEntry-bodies new records l y back p) (sym (bodies.each y.at).live ∙ live)) [ inl h ↦ inl h | inr none ↦ absurd none ];
    }

pub IsPast-led : (records : List Record) (chains : List (Option Link)) (lit : ℕ) (prev : Option Link) (x : Link) (before rest : List Link) → AreChains records chains IsNone → lit < length chains → IsChain records (head_of chains lit) (led prev before ++ x ∷ rest) → IsPast records (records_past records prev (next_of records x)) lit (chains_past chains lit prev (next_of records x)) x (led prev before) rest
IsPast-led records chains lit None x before rest all lt c =
    let old : IsChainOf records lit (head_of chains lit) IsNone = all lit lt in
    let same : x ∷ rest ≡ old.list = IsChain-one records (head_of chains lit) (x ∷ rest) old.list c old.chain in
    let entry : IsEntry records lit x = old.entries x (subst (λ (zs : List Link). Has zs x) same (inl refl)) in
    let head : head_of (set chains lit (next_of records x)) lit ≡ next_of records x = get_or-set_same chains lit (next_of records x) None lt in
    let chain : IsChain records (head_of (set chains lit (next_of records x)) lit) rest = subst (λ (o : Option Link). IsChain records o rest) (sym head) c.1 in
    let size : length (set chains lit (next_of records x)) ≡ length chains = length-set chains lit (next_of records x) in
    record {
      bodies = SameBodies-refl records;
      all = λ l below. elim (cases_eq l lit) [
        | inl e ↦
            let here : IsChainOf records lit (head_of (set chains lit (next_of records x)) lit) (IsThis x) = chain-left records records lit lit (head_of chains lit) x [] rest old c (SameBodies-refl records) (head_of (set chains lit (next_of records x)) lit) chain in
            subst (λ (n : ℕ). IsChainOf records n (head_of (set chains lit (next_of records x)) n) (IsThis x)) (sym e) here
        | inr ne ↦
            let other : head_of (set chains lit (next_of records x)) l ≡ head_of chains l = get_or-set_other chains lit l (next_of records x) None ne in
            subst (λ (o : Option Link). IsChainOf records l o (IsThis x)) (sym other) (chain-other records records lit l (head_of chains l) x (all l (omega arith)) entry ne (SameBodies-refl records) (λ y h. refl))
      ];
      chain = chain;
      ahead = c.1;
    }
IsPast-led records chains lit (Some p) x before rest all lt c =
    let now : List Record = linked records p (next_of records x) in
    let old : IsChainOf records lit (head_of chains lit) IsNone = all lit lt in
    let same : (before ++ p ∷ []) ++ x ∷ rest ≡ old.list = IsChain-one records (head_of chains lit) ((before ++ p ∷ []) ++ x ∷ rest) old.list c old.chain in
    let entry_of : (y : Link) → Has ((before ++ p ∷ []) ++ x ∷ rest) y → IsEntry records lit y = λ y h. old.entries y (subst (λ (zs : List Link). Has zs y) same h) in
    let entry : IsEntry records lit x = entry_of x (Has-right (before ++ p ∷ []) (x ∷ rest) x (inl refl)) in
    let p_in : Has (before ++ p ∷ []) p = Has-right before (p ∷ []) p (inl refl) in
    let entry_p : IsEntry records lit p = entry_of p (Has-left (before ++ p ∷ []) (x ∷ rest) p p_in) in
    let bodies : SameBodies records now = SameBodies-linked records p (next_of records x) entry_p.within in
    let chain : IsChain now (head_of chains lit) ((before ++ p ∷ []) ++ rest) = IsChain-past records (head_of chains lit) before rest p x c entry_p.within (λ y h. (entry_of y h).slot_is) in
    let behind : IsChain records (next_of records x) rest = IsChain-behind records (head_of chains lit) (before ++ p ∷ []) rest x c in
    record {
      bodies = bodies;
      all = λ l below. elim (cases_eq l lit) [
        | inl e ↦
            let here : IsChainOf now lit (head_of chains lit) (IsThis x) = chain-left records now lit lit (head_of chains lit) x (before ++ p ∷ []) rest old c bodies (head_of chains lit) chain in
            subst (λ (n : ℕ). IsChainOf now n (head_of chains n) (IsThis x)) (sym e) here
        | inr ne ↦
            let that : IsChainOf records l (head_of chains l) IsNone = all l below in
            chain-other records now lit l (head_of chains l) x that entry ne bodies (λ y h.
            next_of-other records p y (next_of records x) entry_p.within entry_p.slot_is (that.entries y h).slot_is (λ z. ne (sym (subst (λ (w : Link). IsEntry records l w) z (that.entries y h)).lit_is ∙ entry_p.lit_is)))
      ];
      chain = chain;
      ahead = IsChain-kept records now (next_of records x) rest (λ y h.
          next_of-other records p y (next_of records x) entry_p.within entry_p.slot_is (entry_of y (Has-right (before ++ p ∷ []) (x ∷ rest) y (inr h))).slot_is (λ e.
          led_apart records (head_of chains lit) before (x ∷ rest) p c (inr (subst (λ (w : Link). Has rest w) e h)))) behind;
    }
