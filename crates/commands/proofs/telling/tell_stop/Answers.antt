-- the text of the stop that it is
use Rattle.std.proofs.Common.{refl}
use Rattle.command_runs.proofs.GivenTexts.{grown-nil}
use Rattle.commands.proofs.telling.tell_stop.Goals as goal

pub returns-in-Trapped : goal.returns-in-Trapped
returns-in-Trapped g c = rw c.in-Trapped.is (refl, grown-nil (g.E.Sink.written c.args.err.now))

pub returns-in-Refused : goal.returns-in-Refused
returns-in-Refused g c = rw c.in-Refused.is (rw (c.text_input-input.ensures, c.name.ensures) at c.tell_fault_in.ensures)

pub returns-in-Image : goal.returns-in-Image
returns-in-Image g c = rw c.in-Image.is (rw c.name-in-Image.ensures at c.tell_fault_in-in-Image.ensures)

pub returns-in-Events : goal.returns-in-Events
returns-in-Events g c = rw c.in-Events.is (rw c.name-in-Events.ensures at c.tell_fault_in-in-Events.ensures)

pub returns-in-Usage : goal.returns-in-Usage
returns-in-Usage g c = rw c.in-Usage.is c.put_two.ensures

pub returns-in-Unread : goal.returns-in-Unread
returns-in-Unread g c = rw c.in-Unread.is (rw c.input.ensures at c.tell_of.ensures)

pub returns-in-Unstored : goal.returns-in-Unstored
returns-in-Unstored g c = rw c.in-Unstored.is (rw c.output.ensures at c.tell_of-in-Unstored.ensures)

pub returns-in-Unprinted : goal.returns-in-Unprinted
returns-in-Unprinted g c = rw c.in-Unprinted.is (c.put_two-in-Unprinted.ensures)

pub returns-in-Memory : goal.returns-in-Memory
returns-in-Memory g c = rw c.in-Memory.is (c.put_two-in-Memory.ensures)

pub returns-in-NoMode : goal.returns-in-NoMode
returns-in-NoMode g c = rw c.in-NoMode.is (c.tell_of-in-NoMode.ensures)

pub returns-in-AlreadyNew : goal.returns-in-AlreadyNew
returns-in-AlreadyNew g c = rw c.in-AlreadyNew.is (c.tell_of-in-AlreadyNew.ensures)

pub returns-in-Table : goal.returns-in-Table
returns-in-Table g c = rw c.in-Table.is (rw c.name-in-Table.ensures at c.tell_fault_in-in-Table.ensures)

pub returns-in-Denied : goal.returns-in-Denied
returns-in-Denied g c = rw c.in-Denied.is c.tell_denial.ensures

pub returns-in-TooLong : goal.returns-in-TooLong
returns-in-TooLong g c = rw c.in-TooLong.is (c.tell_of-in-TooLong.ensures)

pub returns-in-Record : goal.returns-in-Record
returns-in-Record g c = rw c.in-Record.is (rw c.name-in-Record.ensures at c.tell_fault_in-in-Record.ensures)

pub returns-in-Alarmed : goal.returns-in-Alarmed
returns-in-Alarmed g c = rw c.in-Alarmed.is (refl, grown-nil (g.E.Sink.written c.args.err.now))
