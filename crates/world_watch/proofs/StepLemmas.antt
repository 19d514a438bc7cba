-- Lists that grow by a world, and watchers that are fed one after the other.
use Rattle.std.proofs.Common.{◌≡◌, ◌+◌, ◌<◌, ◌≤◌, ℕ, List, length, get_or, set, refl, sym, ap, subst, ◌∙◌, arith, inl, inr, Result, Ok, Err, OnErr}
use Rattle.std.proofs.lemmas.Bool.{cases_eq}
use Rattle.std.proofs.lemmas.List.{get_or-set_same, get_or-set_other, get_or_default, length-set}
use Rattle.rcc5_core.specs.declared.Rel.{Rel}
use Rattle.world_model.specs.Problem.{Problem}
use Rattle.world_watch.specs.Steps.{Texts, Took, Holds, AllTook, PrefixTook}

-- the first n watchers took the step, and the others are as before
pub record Fed {W : Type 0} (old now : List W) (name : W → List ℕ) (text : W → Texts) (p : Problem) (table : List Rel) (n : ℕ) : Type 0 where
  pub counted : length now ≡ length old
  pub took : (k : ℕ) (d : W) → k < n → k < length old → Took name text p table (get_or old k d) (get_or now k d)
  pub others : (k : ℕ) (d : W) → n ≤ k → get_or now k d ≡ get_or old k d

pub fed_none : {W : Type 0} (name : W → List ℕ) (text : W → Texts) (p : Problem) (table : List Rel) (old : List W) → Fed old old name text p table 0
fed_none name text p table old = record {
  counted = refl;
  took = λ k d lt within. absurd (omega arith);
  others = λ k d le. refl;
}

pub fed_more : {W : Type 0} {name : W → List ℕ} {text : W → Texts} {p : Problem} {table : List Rel} {old now : List W} {n : ℕ} (x w : W) → Fed old now name text p table n → n < length now
    → x ≡ get_or now n x → Took name text p table x w → Fed old (set now n w) name text p table (n + 1)
fed_more {name = name} {text = text} {p = p} {table = table} {old = old} {now = now} {n = n} x w fed within is took = record {
  counted = length-set now n w ∙ fed.counted;
  took = each;
  others = λ k d le. let other : k ≡ n → ⊥ = λ e. omega arith in get_or-set_other now n k w d other ∙ fed.others k d (omega arith);
}
  where
    each : (k : ℕ) (d : _) → k < n + 1 → k < length old → Took name text p table (get_or old k d) (get_or (set now n w) k d)
    each k d lt less = elim (cases_eq k n) [
      | inl same ↦
          let before : get_or old k d ≡ x = sym (fed.others k d (omega arith)) ∙ ap (λ i. get_or now i d) same ∙ get_or_default now n d x within ∙ sym is in
          let after : get_or (set now n w) k d ≡ w = ap (λ i. get_or (set now n w) i d) same ∙ get_or-set_same now n w d within in
          subst (λ b. Took name text p table b (get_or (set now n w) k d)) (sym before) (subst (λ b. Took name text p table x b) (sym after) took)
      | inr other ↦ subst (λ b. Took name text p table (get_or old k d) b) (sym (get_or-set_other now n k w d other)) (fed.took k d (omega arith) less)
    ]

pub fed_all : {W : Type 0} {name : W → List ℕ} {text : W → Texts} {p : Problem} {table : List Rel} {old now : List W} {n : ℕ} → Fed old now name text p table n → length old ≤ n → AllTook name text p table old now
fed_all fed whole = record { counted = fed.counted; took = λ k d less. fed.took k d (omega arith) less }

pub fed_stop : {W : Type 0} {name : W → List ℕ} {text : W → Texts} {p : Problem} {table : List Rel} {old now : List W} {n : ℕ} (x w : W) → Fed old now name text p table n → n < length now
    → x ≡ get_or now n x → Holds name text x w → PrefixTook name text p table old (set now n w)
fed_stop {name = name} {text = text} {p = p} {table = table} {old = old} {now = now} {n = n} x w fed within is holds = record {
  counted = length-set now n w ∙ fed.counted;
  count = n;
  took = λ k d lt less. let other : k ≡ n → ⊥ = λ e. omega arith in subst (λ b. Took name text p table (get_or old k d) b) (sym (get_or-set_other now n k w d other)) (fed.took k d lt less);
  held = each;
}
  where
    each : (k : ℕ) (d : _) → n ≤ k → k < length old → Holds name text (get_or old k d) (get_or (set now n w) k d)
    each k d le less = elim (cases_eq k n) [
      | inl same ↦
          let before : get_or old k d ≡ x = sym (fed.others k d le) ∙ ap (λ i. get_or now i d) same ∙ get_or_default now n d x within ∙ sym is in
          let after : get_or (set now n w) k d ≡ w = ap (λ i. get_or (set now n w) i d) same ∙ get_or-set_same now n w d within in
          subst (λ b. Holds name text b (get_or (set now n w) k d)) (sym before) (subst (λ b. Holds name text x b) (sym after) holds)
      | inr other ↦
          let same : get_or (set now n w) k d ≡ get_or old k d = get_or-set_other now n k w d other ∙ fed.others k d le in
          record { named = ap name same; kept = λ q rest. ap (λ b. text b q rest) same }
    ]

pub on_err : {V E P : Type 0} (r : Result V E) → P → OnErr r P
on_err (Ok v) h = tt
on_err (Err e) h = h
