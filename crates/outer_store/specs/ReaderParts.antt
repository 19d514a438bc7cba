-- The parts of a reader over a store.
use Rattle.std.specs.Prelude.{ℕ, List}
use Rattle.std.specs.Borrow.{MutBor, Bor}
use Rattle.outer_store.specs.declared.reader.StoreReader.{StoreReader}

module _ {S : Type 0} where
  -- the store that it borrows
  abbrev pub reader_store : StoreReader S → MutBor S
  reader_store reader = reader.store

  -- the name that it reads
  abbrev pub reader_name : StoreReader S → Bor (List ℕ)
  reader_name reader = reader.name

  -- the place of the next byte
  abbrev pub reader_place : StoreReader S → ℕ
  reader_place reader = reader.place
