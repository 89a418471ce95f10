use Rattle.debug_command.proofs.kept_tests.told.Given as goal

abbrev pub ghosts-guests_counts : goal.ghosts-guests_counts
ghosts-guests_counts a = record { name = a.blank.name; parts = a.blank.parts }
