use Rattle.std.proofs.Common.{◌≡◌, length}
use Rattle.point_exits.proofs.InsideLevels.{AreBroughtIn}
use Rattle.point_exits.proofs.insides.Insides.bring_in.Given as goal

abbrev pub invariant-loop-number : goal.invariant-loop-number
invariant-loop-number l = record {
  brought : AreBroughtIn l.initial.pool l.component l.came l.pool l.self;
  count : length l.self.numbers ≡ l.number;
  task : l.self.task ≡ l.initial.self.task;
}
