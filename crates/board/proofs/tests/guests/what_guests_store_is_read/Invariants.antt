use Rattle.board.proofs.tests.guests.what_guests_store_is_read.Given as goal

abbrev pub ghosts-store : goal.ghosts-store
ghosts-store g a = record { name = a.blank.name; parts = a.blank.parts }
