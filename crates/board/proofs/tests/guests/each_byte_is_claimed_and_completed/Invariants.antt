use Rattle.board.proofs.tests.guests.each_byte_is_claimed_and_completed.Given as goal

abbrev pub ghosts-claim : goal.ghosts-claim
ghosts-claim g a = record { name = a.blank.name; parts = a.blank.parts }
