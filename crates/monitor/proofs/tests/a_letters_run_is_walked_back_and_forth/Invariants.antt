use Rattle.monitor.proofs.tests.a_letters_run_is_walked_back_and_forth.Given as goal

abbrev pub ghosts-over_a_letter : goal.ghosts-over_a_letter
ghosts-over_a_letter g a = record { name = a.blank.name; parts = a.blank.parts }
