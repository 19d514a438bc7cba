-- What is told of a store or a sink at one moment, and what calls may make of it.
use Rattle.std.specs.Prelude.{◌≡◌, ℕ, List, Option}
use Rattle.std.proofs.Common.{refl, ◌∙◌, arith}
use Rattle.outer_store.specs.Contents.{Contents, OthersKept}
use Rattle.outer_store.specs.Faults.{Counts, NoneFell}

-- a store: what each name holds, and how often a read and a write of each failed
pub record StoreState : Type 0 where
  pub held : Contents
  pub reads : Counts
  pub writes : Counts

-- a sink: the bytes that it received, where it tells them, and how often a put failed
pub record SinkState : Type 0 where
  pub bytes : Option (List ℕ)
  pub faults : ℕ

-- no call of the store failed
abbrev pub IsQuiet : StoreState → StoreState → Type 0
IsQuiet old new = (new.reads ≡ old.reads) × (new.writes ≡ old.writes)

-- a store holds what it held, and no count of its faults fell
pub record OnlyRead (old new : StoreState) : Type 0 where
  pub contents : new.held ≡ old.held
  pub reads_later : NoneFell old.reads new.reads
  pub writes_later : NoneFell old.writes new.writes

-- names other than this one hold what they held, and no count of faults fell
pub record OnlyWritten (name : List ℕ) (old new : StoreState) : Type 0 where
  pub others : OthersKept name old.held new.held
  pub reads_later : NoneFell old.reads new.reads
  pub writes_later : NoneFell old.writes new.writes

pub IsQuiet-joins : (a b c : StoreState) → IsQuiet a b → IsQuiet b c → IsQuiet a c
IsQuiet-joins a b c first second = (second.0 ∙ first.0, second.1 ∙ first.1)

pub OnlyRead-stays : (s : StoreState) → OnlyRead s s
OnlyRead-stays s = record { contents = refl; reads_later = λ name. omega arith; writes_later = λ name. omega arith }

pub OnlyRead-joins : (a b c : StoreState) → OnlyRead a b → OnlyRead b c → OnlyRead a c
OnlyRead-joins a b c first second = record {
  contents = second.contents ∙ first.contents;
  reads_later = λ name. omega (arith, first.reads_later name, second.reads_later name);
  writes_later = λ name. omega (arith, first.writes_later name, second.writes_later name);
}

pub OnlyWritten-stays : (name : List ℕ) (s : StoreState) → OnlyWritten name s s
OnlyWritten-stays name s = record { others = λ other apart. refl; reads_later = λ name. omega arith; writes_later = λ name. omega arith }

pub OnlyWritten-joins : (name : List ℕ) (a b c : StoreState) → OnlyWritten name a b → OnlyWritten name b c → OnlyWritten name a c
OnlyWritten-joins name a b c first second = record {
  others = λ other apart. second.others other apart ∙ first.others other apart;
  reads_later = λ name. omega (arith, first.reads_later name, second.reads_later name);
  writes_later = λ name. omega (arith, first.writes_later name, second.writes_later name);
}
