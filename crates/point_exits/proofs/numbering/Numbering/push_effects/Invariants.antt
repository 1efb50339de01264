use Rattle.std.proofs.Common.{take}
use Rattle.numbered_sets.specs.Views.{plain_entry}
use Rattle.point_exits.specs.{Growing.{IsGrown}, Leaving.{AddsEffects}}
use Rattle.point_exits.proofs.numbering.Numbering.push_effects.Given as goal

abbrev pub invariant-loop-effect : goal.invariant-loop-effect
invariant-loop-effect l = record {
  grown : IsGrown l.fn.self l.self;
  added : AddsEffects l.fn.self.app.now (plain_entry l.fn.self.pool l.before) (take l.effect-index l.effect-items) l.fn.self.pool l.fn.groups.items l.self.pool l.groups.items;
}
