use Rattle.run_scenes.proofs.feeding.problem_of.Goals as goal

pub returns-in-Ok : goal.returns-in-Ok
returns-in-Ok c = c.read_names_are_utf8.ensures _ _ _ c.in-Ok.ensures.problem
