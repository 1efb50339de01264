use Rattle.command_laws.proofs.{SomeCheck.{some_check}, SomeVerdict.{some_verdict}}
use Rattle.command_laws.proofs.answers.no_check_is_without_an_answer.Goals as goal

pub returns : goal.returns
returns c = record { verdict = some_verdict; due = some_check }
