-- what each form makes of an effect
use Rattle.std.proofs.Common.{rules, arith}
use Rattle.image_run.proofs.instruction.conclude_formed.Goals as goal

pub returns-in-Never-clause-step : goal.returns-in-Never-clause-step
returns-in-Never-clause-step g c = search rules

pub returns-in-No-clause-step : goal.returns-in-No-clause-step
returns-in-No-clause-step g c = search rules

pub returns-in-No-clause-scans : goal.returns-in-No-clause-scans
returns-in-No-clause-scans g c = omega arith

pub returns-in-Left-clause-step : goal.returns-in-Left-clause-step
returns-in-Left-clause-step g c = search rules

pub returns-in-No-ask-clause-step : goal.returns-in-No-ask-clause-step
returns-in-No-ask-clause-step g c = search rules

pub returns-else-not-is_live-clause-step : goal.returns-else-not-is_live-clause-step
returns-else-not-is_live-clause-step g c = search rules

pub returns-else-not-is_live-clause-scans : goal.returns-else-not-is_live-clause-scans
returns-else-not-is_live-clause-scans g c = omega arith

pub switch_to-hooks-requires-in-Direct-Some-clause-live : goal.switch_to-hooks-requires-in-Direct-Some-clause-live
switch_to-hooks-requires-in-Direct-Some-clause-live g c = (search rules, search rules)
