use Rattle.log_order.proofs.tests.the_first_wrong_place_is_refused.Given as goal

abbrev pub ghosts-judge : goal.ghosts-judge
ghosts-judge g a = record { name = a.blank.name; parts = a.blank.parts }
