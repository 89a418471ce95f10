use Rattle.event_log.proofs.Written.{wrote_nothing, writes_header, writes_event, writes_rest, all_taken}
use Rattle.event_log.proofs.writer.in_order.Goals as goal

pub returns-clause-none : goal.returns-clause-none
returns-clause-none g = wrote_nothing

pub returns-clause-header : goal.returns-clause-header
returns-clause-header g = writes_header

pub returns-clause-event : goal.returns-clause-event
returns-clause-event g = writes_event

pub returns-clause-rest : goal.returns-clause-rest
returns-clause-rest g = writes_rest

pub returns-clause-all : goal.returns-clause-all
returns-clause-all g = all_taken
