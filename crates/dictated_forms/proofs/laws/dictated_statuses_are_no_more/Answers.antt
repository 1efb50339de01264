use Rattle.dictated_forms.proofs.ImageLaws.{dictated_statuses, statuses_of_version_1}
use Rattle.dictated_forms.proofs.laws.dictated_statuses_are_no_more.Goals as goal

pub returns : goal.returns
returns c = record { dictated = dictated_statuses; version_1 = statuses_of_version_1 }
