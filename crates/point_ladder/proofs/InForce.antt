-- Stretches of a path and the frames in force along them, as the path grows and shrinks.
use Rattle.std.proofs.Common.{◌≡◌, ℕ, ◌+◌, ◌-◌, ◌<◌, ◌≤◌, Bool, List, [], ◌∷◌, ◌++◌, length, get_or, take, inl, inr, sym, ap, ◌∙◌, subst, arith}
use Rattle.std.proofs.lemmas.Bool.{cases_lt}
use Rattle.std.proofs.lemmas.List.{length-append, get_or_append_left, get_or_push, get_or-take, get_or_default}
use Rattle.rcc5_core.specs.declared.Rel.{Rel}
use Rattle.world_model.specs.Problem.{Problem}
use Rattle.world_model.specs.Alive.{problem_at}
use Rattle.point_ladder.specs.declared.stretches.Stretch.{Stretch}
use Rattle.point_ladder.specs.Stretches.{stretch_at, HasFrames, IsCutBack}
use Rattle.point_ladder.specs.Ladders.{IsFrame}

-- the frame in force
pub last_frame : (q : Problem) (points : List (List Bool)) (line : List Rel) (stretches : List Stretch) (len i : ℕ) (stretch : Stretch) → HasFrames q points line stretches len → i + 1 ≡ length stretches →
    stretch ≡ get_or stretches i stretch → IsFrame (problem_at q (take len line)) points stretch.frame
last_frame q points line stretches len i stretch has last read =
    let same : stretch ≡ stretch_at stretches i = read ∙ get_or_default stretches i stretch (record { from = 0; frame = record { count = 0; width = 0; words = [] } }) (omega (arith, last)) in
    subst (λ (s : Stretch). IsFrame (problem_at q (take len line)) points s.frame) (sym same)
    (has.each i len (omega (arith, last)) (has.within i (omega (arith, last))) (omega arith) (λ h. absurd (omega (arith, h, last))))

-- a longer path along which the last frame stays in force
pub frames_longer : (q : Problem) (points : List (List Bool)) (line after : List Rel) (stretches : List Stretch) (len more : ℕ) → HasFrames q points line stretches len → len ≤ more →
    ((n : ℕ) → n ≤ len → take n after ≡ take n line) →
    ((n : ℕ) → len < n → n ≤ more → IsFrame (problem_at q (take n after)) points (stretch_at stretches (length stretches - 1)).frame) → HasFrames q points after stretches more
frames_longer q points line after stretches len more has longer same stays = record {
  some = has.some;
  first = has.first;
  ascending = has.ascending;
  within = λ i small. let h = has.within i small in omega (arith, h, longer);
  each = λ i n small from upto next. elim (cases_lt len n) [
    | inl past ↦ elim (cases_lt (i + 1) (length stretches)) [
      | inl front ↦ absurd (past_next i n (has.within (i + 1) front) past (next front))
      | inr last ↦
          let at : length stretches - 1 ≡ i = omega (arith, small, last) in
          subst (λ k. IsFrame (problem_at q (take n after)) points (stretch_at stretches k).frame) at (stays n past upto)
    ]
    | inr before ↦ subst (λ m. IsFrame (problem_at q m) points (stretch_at stretches i).frame) (sym (same n before)) (has.each i n small from before next)
  ];
}
  where
    past_next : (i n : ℕ) → (stretch_at stretches (i + 1)).from ≤ len → len < n → n < (stretch_at stretches (i + 1)).from → ⊥
    past_next i n a b c = omega (arith, a, b, c)

-- one stretch more, for the path that is one relation longer
pub frames_pushed : (q : Problem) (points : List (List Bool)) (line after : List Rel) (stretches : List Stretch) (len : ℕ) (new : Stretch) → HasFrames q points line stretches len →
    ((n : ℕ) → n ≤ len → take n after ≡ take n line) → new.from ≡ len + 1 → IsFrame (problem_at q (take (len + 1) after)) points new.frame → HasFrames q points after (stretches ++ new ∷ []) (len + 1)
frames_pushed q points line after stretches len new has same begins frame = record {
  some = omega (arith, long);
  first = ap (λ (s : Stretch). s.from) (front 0 has.some) ∙ has.first;
  ascending = λ i j less small. elim (cases_lt j (length stretches)) [
    | inl before ↦ let h = has.ascending i j less before in omega (arith, h, from_of i (omega (arith, less, before)), from_of j before)
    | inr here ↦ let h = has.within i (omega (arith, less, small, long, here)) in omega (arith, h, from_of i (omega (arith, less, small, long, here)), from_end j (omega (arith, small, long, here)))
  ];
  within = λ i small. elim (cases_lt i (length stretches)) [
    | inl before ↦ let h = has.within i before in omega (arith, h, from_of i before)
    | inr here ↦ omega (arith, from_end i (omega (arith, small, long, here)))
  ];
  each = λ i n small from upto next. elim (cases_lt i (length stretches)) [
    | inl before ↦ elim (cases_lt len n) [
      | inl past ↦ absurd (not_past i n before past next upto)
      | inr low ↦
          subst (λ (s : Stretch). IsFrame (problem_at q (take n after)) points s.frame) (sym (front i before))
          (subst (λ m. IsFrame (problem_at q m) points (stretch_at stretches i).frame) (sym (same n low))
          (has.each i n before (omega (arith, from, from_of i before)) low (λ h. let m = next (omega (arith, h, long)) in omega (arith, m, from_of (i + 1) h))))
    ]
    | inr here ↦
        let at : i ≡ length stretches = omega (arith, small, long, here) in
        let all : n ≡ len + 1 = only_end i n at from upto in
        subst (λ k. IsFrame (problem_at q (take k after)) points (stretch_at (stretches ++ new ∷ []) i).frame) (sym all)
        (subst (λ (s : Stretch). IsFrame (problem_at q (take (len + 1) after)) points s.frame) (sym (end i at)) frame)
  ];
}
  where
    none : Stretch
    none = record { from = 0; frame = record { count = 0; width = 0; words = [] } }

    long : length (stretches ++ new ∷ []) ≡ length stretches + 1
    long = length-append stretches (new ∷ [])

    front : (i : ℕ) → i < length stretches → stretch_at (stretches ++ new ∷ []) i ≡ stretch_at stretches i
    front i small = get_or_append_left stretches (new ∷ []) none i small

    end : (i : ℕ) → i ≡ length stretches → stretch_at (stretches ++ new ∷ []) i ≡ new
    end i at = get_or_push stretches new none i (sym at)

    from_of : (i : ℕ) → i < length stretches → (stretch_at (stretches ++ new ∷ []) i).from ≡ (stretch_at stretches i).from
    from_of i small = ap (λ (s : Stretch). s.from) (front i small)

    from_end : (i : ℕ) → i ≡ length stretches → (stretch_at (stretches ++ new ∷ []) i).from ≡ len + 1
    from_end i at = ap (λ (s : Stretch). s.from) (end i at) ∙ begins

    only_end : (i n : ℕ) → i ≡ length stretches → (stretch_at (stretches ++ new ∷ []) i).from ≤ n → n ≤ len + 1 → n ≡ len + 1
    only_end i n at from upto = omega (arith, from, upto, from_end i at)

    not_past : (i n : ℕ) → i < length stretches → len < n → (i + 1 < length (stretches ++ new ∷ []) → n < (stretch_at (stretches ++ new ∷ []) (i + 1)).from) → n ≤ len + 1 → ⊥
    not_past i n before past next upto = elim (cases_lt (i + 1) (length stretches)) [
      | inl more ↦ let h = has.within (i + 1) more in let m = next (omega (arith, before, long)) in omega (arith, h, m, past, from_of (i + 1) more)
      | inr last ↦ let m = next (omega (arith, before, long)) in omega (arith, m, past, upto, from_end (i + 1) (omega (arith, before, last)))
    ]

-- a shorter path
pub frames_cut : (q : Problem) (points : List (List Bool)) (line : List Rel) (old new : List Stretch) (len less : ℕ) → HasFrames q points line old len → less ≤ len → IsCutBack old new less → HasFrames q points line new less
frames_cut q points line old new len less has fewer cut = record {
  some = some;
  first = from_of 0 some ∙ has.first;
  ascending = λ i j low small. let h = has.ascending i j low (omega (arith, small, size)) in omega (arith, h, from_of i (omega (arith, low, small)), from_of j small);
  within = λ i small. elim (cases_lt i (length new - 1)) [
    | inl front ↦ let h = has.ascending i (length new - 1) front (omega (arith, some, size)) in let l = cut.low some in omega (arith, h, l, from_of i small, from_of (length new - 1) (omega (arith, some)))
    | inr last ↦ let at : length new - 1 ≡ i = omega (arith, small, last) in let l = cut.low some in subst (λ k. (stretch_at new k).from ≤ less) at l
  ];
  each = λ i n small from upto next.
      subst (λ (s : Stretch). IsFrame (problem_at q (take n line)) points s.frame) (sym (front i small))
      (has.each i n (omega (arith, small, size)) (omega (arith, from, from_of i small)) (omega (arith, upto, fewer)) (λ h. elim (cases_lt (i + 1) (length new)) [
        | inl more ↦ let m = next more in omega (arith, m, from_of (i + 1) more)
        | inr end ↦ beyond (i + 1) n (omega (arith, small, end)) h upto
      ]));
}
  where
    size : length new ≤ length old
    size = cut.fewer

    front : (i : ℕ) → i < length new → stretch_at new i ≡ stretch_at old i
    front i small = ap (λ ss. stretch_at ss i) cut.begins ∙ get_or-take (length new) old i (record { from = 0; frame = record { count = 0; width = 0; words = [] } }) small

    from_of : (i : ℕ) → i < length new → (stretch_at new i).from ≡ (stretch_at old i).from
    from_of i small = ap (λ (s : Stretch). s.from) (front i small)

    beyond : (i n : ℕ) → i ≡ length new → i < length old → n ≤ less → n < (stretch_at old i).from
    beyond i n at h upto =
        let high = cut.high (omega (arith, at, h)) in
        let same : (stretch_at old (length new)).from ≡ (stretch_at old i).from = ap (λ k. (stretch_at old k).from) (sym at) in
        omega (arith, high, upto, same)

    some : 0 < length new
    some = elim (cases_lt 0 (length new)) [
      | inl there ↦ there
      | inr none ↦ let m = has.some in absurd (never (cut.high (omega (arith, none, m))) (ap (λ k. (stretch_at old k).from) (zero_is (length new) none)))
    ]
      where
        zero_is : (n : ℕ) → n ≤ 0 → n ≡ 0
        zero_is n h = omega (arith, h)

        never : less < (stretch_at old (length new)).from → (stretch_at old (length new)).from ≡ (stretch_at old 0).from → ⊥
        never h same = let f = has.first in omega (arith, h, same, f)
