use Rattle.log_order.proofs.tests.turns_are_an_instruction_and_a_refusal_stays.Given as goal

abbrev pub ghosts-go_on : goal.ghosts-go_on
ghosts-go_on g a = record { name = a.blank.name; parts = a.blank.parts }
