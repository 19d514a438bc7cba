-- What the rows tell of points as one is added.
use Rattle.std.proofs.Common.{◌≡◌, ◌≢◌, ℕ, ◌≤◌, Bool, List, [], length, get_or, sym, ◌∙◌, arith}
use Rattle.bit_rows.specs.Rows.{has_bit}
use Rattle.point_table.specs.Places.Places.{AreTold}

-- rows that changed at no place of a point
pub told_kept : (points : List (List Bool)) (rows new : List (List ℕ)) (live now : List ℕ) (place : ℕ) → AreTold points rows live → place ≡ length points →
    ((c k : ℕ) → k ≢ place → has_bit (get_or new c []) k ≡ has_bit (get_or rows c []) k) → length new ≡ length rows → ((k : ℕ) → has_bit now k ≡ has_bit live k) → length live ≤ length now → AreTold points new now
told_kept points rows new live now place are last others counted same longer = record {
  told = λ c k small there. others c k (omega (arith, last)) ∙ are.told c k (omega (arith, counted)) there;
  below = λ k h. are.below k (sym (same k) ∙ h);
  room = omega (arith, are.room, longer);
}
