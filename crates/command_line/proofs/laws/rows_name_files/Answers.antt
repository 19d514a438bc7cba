use Rattle.command_line.proofs.RowLemmas.{rows, desk_rows}
use Rattle.command_line.proofs.laws.rows_name_files.Goals as goal

pub returns-clause-commands : goal.returns-clause-commands
returns-clause-commands c = rows

pub returns-clause-desk : goal.returns-clause-desk
returns-clause-desk c = desk_rows
