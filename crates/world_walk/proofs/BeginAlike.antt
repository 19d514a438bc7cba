-- Lists that begin alike.
use Rattle.std.proofs.Common.{◌≡◌, ℕ, ◌≤◌, min, List, [], ◌∷◌, ◌++◌, length, inl, inr, append_assoc, append-nil, refl, sym, ap, ◌∙◌, arith}
use Rattle.std.proofs.lemmas.Bool.{cases_lt}
use Rattle.rcc5_core.specs.declared.Rel.{Rel}
use Rattle.world_model.specs.Listing.{Begins}
use Rattle.world_walk.specs.Ahead.{BeginAlike}

pub begins_itself : (m : List Rel) → Begins m m
begins_itself m = ([], sym (append-nil m))

pub begins_on : (a b c : List Rel) → Begins a b → Begins b c → Begins a c
begins_on a b c one other = (one.0 ++ other.0, other.1 ∙ ap (λ xs. xs ++ other.0) one.1 ∙ append_assoc a one.0 other.0)

-- of two beginnings of one list the shorter one begins the longer one
shorter_first : (a b c d : List Rel) → a ++ c ≡ b ++ d → length a ≤ length b → Begins a b
shorter_first [] b c d same less = (b, refl)
shorter_first (x ∷ a) [] c d same less = absurd (omega arith)
shorter_first (x ∷ a) (y ∷ b) c d same less =
    let first : x ≡ y = cc in
    let rest : a ++ c ≡ b ++ d = cc in
    let on = shorter_first a b c d rest (omega arith) in
    (on.0, (λ i. sym first i ∷ on.1 i))

pub alike_none : (other : List Rel) → BeginAlike [] other 0
alike_none other = record { common = []; counted = refl; first = ([], refl); second = (other, refl) }

-- where a path goes on, as many are kept, and where it is cut back, no more than are left
pub alike_longer : (one path on : List Rel) (count : ℕ) → BeginAlike one path count → Begins path on → BeginAlike one on count
alike_longer one path on count alike begins = record { common = alike.common; counted = alike.counted; first = alike.first; second = begins_on alike.common path on alike.second begins }

pub alike_shorter : (one path cut : List Rel) (count : ℕ) → BeginAlike one path count → Begins cut path → BeginAlike one cut (min count (length cut))
alike_shorter one path cut count alike begins = elim (cases_lt (length alike.common) (length cut)) [
  | inl less ↦ record {
    common = alike.common;
    counted = omega (arith, alike.counted);
    first = alike.first;
    second = shorter_first alike.common cut alike.second.0 begins.0 (sym alike.second.1 ∙ begins.1) (omega arith);
  }
  | inr more ↦ record {
    common = cut;
    counted = omega (arith, alike.counted);
    first = begins_on cut alike.common one (shorter_first cut alike.common begins.0 alike.second.0 (sym begins.1 ∙ alike.second.1) more) alike.first;
    second = begins_itself cut;
  }
]
