use Rattle.osek_standard.proofs.PriorityLaws.{best_is, is_best, none_live, best_none, some_best}
use Rattle.osek_standard.proofs.laws.best_task_has_the_property.Goals as goal

pub returns : goal.returns
returns c = record {
  is = best_is;
  found = is_best;
  none = none_live;
  only_where_none = λ app s none. best_none app s (λ u _. none u);
  some = some_best;
}
