-- Counts of faults, and an answer beside its cause.
use Rattle.std.specs.Prelude.{ℕ, ◌+◌, ◌-◌, ◌^◌, ◌≤◌, List, min, Result, Ok, Err}
use Rattle.outer_store.specs.declared.fault.StoreFault.{StoreFault}
use Rattle.outer_store.specs.declared.fault.StoreFault.TheVariants.{Failed, NoMemory}

-- one more, up to the last value of a u64
abbrev pub next : ℕ → ℕ
next count = min (count + 1) (2 ^ 64 - 1)

-- the count rose, or stands at the last value of a u64
abbrev pub Rose : ℕ → ℕ → Type 0
Rose before now = next before ≤ now

-- a count of faults for each name
abbrev pub Counts : Type 0
Counts = List ℕ → ℕ

-- no count fell
abbrev pub NoneFell : Counts → Counts → Type 0
NoneFell before now = (name : List ℕ) → before name ≤ now name

-- one fact where the answer is Failed, and another at every other answer
abbrev pub IfFailed : {T : Type 0} → Result T StoreFault → Type 0 → Type 0 → Type 0
IfFailed (Ok value) failed other = other
IfFailed (Err Failed) failed other = failed
IfFailed (Err NoMemory) failed other = other
