use Rattle.std.proofs.Common.{◌≡◌, take}
use Rattle.numbered_sets.specs.{Pools.{IsLonger}, Views.{plain_entry}}
use Rattle.flow_rules.specs.Assembly.{AreAllAdded}
use Rattle.flow_rules.proofs.ruling.add_instructions.Given as goal

abbrev pub invariant-loop-effect : goal.invariant-loop-effect
invariant-loop-effect l = record {
  added : AreAllAdded l.app l.fn.point (plain_entry l.pool l.entry) (take l.effect-index l.effect-items) l.initial.rules l.rules;
  app : l.numbering.app.now ≡ l.app;
  longer : IsLonger l.initial.numbering.pool l.numbering.pool;
}
