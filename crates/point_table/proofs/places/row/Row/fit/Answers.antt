use Rattle.std.proofs.Common.{◌≡◌, ◌-◌, ◌+◌, ◌/◌, ℕ, length, inl, inr, sym, subst, ◌∙◌, arith, vec_len}
use Rattle.std.proofs.lemmas.Bool.{cases_lt}
use Rattle.std.proofs.lemmas.List.{get_or_past}
use Rattle.bit_rows.proofs.RowBits.{filled_up}
use Rattle.bit_rows.specs.Rows.{has_bit}
use Rattle.point_table.proofs.places.Bits.{same_words}
use Rattle.point_table.proofs.places.row.Row.fit.Goals as goal

pub returns-clause-same : goal.returns-clause-same
returns-clause-same c =
    let words = c.self.inside.words in
    let len = c.args.place / 64 + 1 in
    let more = filled_up words.items c.resize.new.self.items len (len - vec_len words) c.in_ok-resize.ensures.items (omega (arith, words.ok, c.len.ensures, c.if-place-len.false)) in
    subst (λ v. (k : ℕ) → has_bit c.resize.new.self.items k ≡ has_bit v k) c.self.view_is (same_words words.items c.resize.new.self.items (λ j. elim (cases_lt j (length words.items)) [
      | inl before ↦ more.0 j before
      | inr past ↦ more.1 j past ∙ sym (get_or_past words.items j 0 past)
    ]))
