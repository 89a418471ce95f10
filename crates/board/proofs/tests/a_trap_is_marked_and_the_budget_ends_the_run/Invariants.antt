use Rattle.board.proofs.tests.a_trap_is_marked_and_the_budget_ends_the_run.Given as goal

abbrev pub ghosts-call : goal.ghosts-call
ghosts-call g a = record { name = a.blank.name; parts = a.blank.parts }
