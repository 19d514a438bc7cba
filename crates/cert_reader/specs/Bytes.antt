-- Bytes of a source, taken in blocks and parted at each LF.
use Rattle.std.specs.Prelude.{◌≡◌, ℕ, ◌-◌, ◌<◌, ◌≤◌, Bool, false, if◌then◌else◌, List, [], ◌∷◌, ◌++◌, length, take, drop, Option, IfSome}
use Rattle.proof_text.specs.Laws.{has_byte}

-- the part of a block that is still to come
abbrev pub part_of : List ℕ → ℕ → ℕ → List ℕ
part_of block from upto = take (upto - from) (drop from block)

-- a block's part is within it, and a block has some room, but not much
abbrev pub IsBlock : List ℕ → ℕ → ℕ → Type 0
IsBlock block from upto = (from ≤ upto) × (upto ≤ length block) × (0 < length block) × (length block ≤ 65536)

-- bytes with no LF were moved from the front of some bytes to the end of a line, up to the next LF (10) or all of them
pub record IsMoved (found : Bool) (old new line_old line_new : List ℕ) : Type 0 where
  pub moved : List ℕ
  pub grown : line_new ≡ line_old ++ moved
  pub no_lf : has_byte 10 moved ≡ false
  pub parted : old ≡ moved ++ (if found then 10 ∷ new else [])
  pub all : found ≡ false → new ≡ []

-- nothing is left, where a source tells it
abbrev pub IsSpent : Option (List ℕ) → Type 0
IsSpent left = IfSome left (λ bytes. bytes ≡ [])

-- bytes that there may be: just those that are told, and any where none are
abbrev pub MayHold : Option (List ℕ) → List ℕ → Type 0
MayHold told bytes = IfSome told (λ all. bytes ≡ all)

-- bytes that may be to come: those at hand, and behind them such as a source may have left
abbrev pub MayCome : List ℕ → Option (List ℕ) → List ℕ → Type 0
MayCome pending left bytes = (rest : List ℕ) × (MayHold left rest × (bytes ≡ pending ++ rest))

-- a fact holds of something that may be
abbrev pub ForSome : {A : Type 0} → (A → Type 0) → (A → Type 0) → Type 0
ForSome {A} may Fact = (x : A) × (may x × Fact x)

-- whatever may be left now, something may have been left before that has a fact with it
pub record GoesOn {A : Type 0} (old new : A → Type 0) (Fact : A → A → Type 0) : Type 0 where
  pub before : (left : A) → new left → ForSome old (λ prior. Fact prior left)
