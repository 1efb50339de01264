use Rattle.std.proofs.Common.{ℕ, sym, ap, subst, ◌∙◌}
use Rattle.table_rows.{specs.{Order.{IsPlaceBy, IsGapBy}, Rows.{number_of}}, proofs.OrderLaws.{none_there}}
use Rattle.flow_check.proofs.rows.row_at.Goals as goal

pub returns-in-Ok-clause-some : goal.returns-in-Ok-clause-some
returns-in-Ok-clause-some c =
    let at = subst (λ (n : ℕ). IsPlaceBy number_of c.args.rows.now n c.in-Ok.place) c.number.ensures c.in-Ok.ensures.place in
    let row = c.index-rows-place.result in
    record { among = (c.in-Ok.place, at.known, sym c.index-rows-place.is); is = ap number_of c.index-rows-place.is ∙ at.is row }

pub returns-in-Err-clause-none : goal.returns-in-Err-clause-none
returns-in-Err-clause-none c =
    let at = subst (λ (n : ℕ). IsGapBy number_of c.args.rows.now n c.in-Err._gap) c.number.ensures c.in-Err.ensures.gap in
    none_there number_of c.args.rows.now _ c.in-Err._gap at
