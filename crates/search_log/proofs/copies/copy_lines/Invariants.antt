use Rattle.std.proofs.Common.{◌≡◌, map, take, All}
use Rattle.cert_text.specs.Lines.{IdsFromOne}
use Rattle.cert_text.specs.declared.line.CertLine.TheVariants.{Proof}
use Rattle.search_log.proofs.copies.copy_lines.Given as goal

abbrev pub invariant-loop-line : goal.invariant-loop-line
invariant-loop-line l = record {
  copies : l.copies.items ≡ map Proof (take l.line-index l.lines);
  ids : All IdsFromOne l.copies.items;
}
