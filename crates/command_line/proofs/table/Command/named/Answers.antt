use Rattle.std.proofs.Common.{rules, ◌∙◌}
use borrow.Author.Tests.{tests}
use Rattle.std.specs.Prelude.{bytes_eq}
use Rattle.std.proofs.lemmas.Iterator.{YieldsList-from_slice}
use Rattle.std.proofs.lemmas.Iterator.Search.{find_from_yields_List}
use Rattle.command_line.specs.declared.table.Command.{Command}
use Rattle.command_line.specs.Table.{row_of, all_commands}
use Rattle.command_line.proofs.table.Command.named.Goals as goal

pub returns : goal.returns
returns c =
    c.copied.ensures
    ∙ find_from_yields_List (λ (command : Command). bytes_eq c.args.word.now (row_of command).name) _ _ c.find.result c.find.ensures.ran (YieldsList-from_slice all_commands cc) (λ x b q k. search (rules, tests))
