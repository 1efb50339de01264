use Rattle.std.proofs.Common.{◌≡◌, drop}
use Rattle.std.specs.Prelude.{filter}
use Rattle.oil_model.specs.{Counted.{is_counted}, Lines.{least}, Rules.{first_beyond}}
use Rattle.oil_model.proofs.limits.beyond.Given as goal

abbrev pub invariant-loop-object : goal.invariant-loop-object
invariant-loop-object l = least (first_beyond l.left (filter (is_counted l.counted) (drop l.object-index l.objects))) ≡ least (first_beyond l.limit (filter (is_counted l.counted) l.objects))
