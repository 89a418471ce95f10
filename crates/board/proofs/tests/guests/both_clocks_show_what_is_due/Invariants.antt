use Rattle.board.proofs.tests.guests.both_clocks_show_what_is_due.Given as goal

abbrev pub ghosts-wait : goal.ghosts-wait
ghosts-wait g a = record { name = a.blank.name; parts = a.blank.parts }
