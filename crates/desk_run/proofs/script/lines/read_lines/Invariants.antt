use Rattle.std.proofs.Common.{◌≡◌, ◌+◌, ◌≤◌}
use Rattle.std.specs.Prelude.{All}
use Rattle.text_words.specs.Tokens.{lines_of}
use Rattle.cleantax_text.specs.Whole.{lines_left, length_left}
use Rattle.desk_run.specs.Script.Requests.{IsRequest}
use Rattle.desk_run.specs.Script.Script.{onto, script_lines}
use Rattle.desk_run.proofs.script.lines.read_lines.Given as goal

abbrev pub invariant-loop-rest : goal.invariant-loop-rest
invariant-loop-rest l = record {
  same : script_lines l.problem 1 (lines_of l.fn.script) ≡ onto l.requests.items (script_lines l.problem (l.number + 1) (lines_left l.rest));
  fit : All (IsRequest l.problem) l.requests.items;
  few : l.number + length_left l.rest ≤ 1048577;
}

abbrev pub decreases-loop-rest : goal.decreases-loop-rest
decreases-loop-rest l = length_left l.rest
