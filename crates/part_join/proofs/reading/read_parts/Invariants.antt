use Rattle.std.proofs.Common.{◌≡◌, map, take}
use Rattle.std.specs.Prelude.{All, string_bytes}
use Rattle.outer_store.specs.States.{IsQuiet}
use Rattle.part_join.specs.Parts.{IsListed}
use Rattle.part_join.proofs.ReadLemmas.{IsReadSoFar}
use Rattle.part_join.proofs.reading.read_parts.Given as goal

abbrev pub invariant-loop-place : goal.invariant-loop-place
invariant-loop-place g l = record {
  checks : l.checks ≡ l.problem;
  read : IsReadSoFar l.problem (g.S.Store.state l.fn.store).held (map string_bytes (take l.place l.names)) l.parts.items;
  listed : All (IsListed l.problem) l.parts.items;
  held : (g.S.Store.state l.store).held ≡ (g.S.Store.state l.fn.store).held;
  quiet : IsQuiet (g.S.Store.state l.fn.store) (g.S.Store.state l.store);
}
