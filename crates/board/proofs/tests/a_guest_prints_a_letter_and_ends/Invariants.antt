use Rattle.board.proofs.tests.a_guest_prints_a_letter_and_ends.Given as goal

abbrev pub ghosts-print : goal.ghosts-print
ghosts-print g a = record { name = a.blank.name; parts = a.blank.parts }
