use Rattle.monitor.proofs.tests.a_place_lies_after_the_events_before_its_turn.Given as goal

abbrev pub ghosts-over_a_timer : goal.ghosts-over_a_timer
ghosts-over_a_timer g a = record { name = a.blank.name; parts = a.blank.parts }
