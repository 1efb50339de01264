use Rattle.std.proofs.Common.{◌∙◌, sym, arith}
use Rattle.abstract_state.proofs.OrderLaws.{passed_more, place_found, gap_found}
use Rattle.abstract_state.proofs.table.ValueSet.search.Goals as goal

pub returns-in-Equal-clause-place : goal.returns-in-Equal-clause-place
returns-in-Equal-clause-place c =
    place_found c.args.self.now.members c.loop-place.place c.args.value.now c.at.result.now c.loop-place.invariant
    (omega (arith, c.loop-place-test.true, c.len-place-end.ensures)) c.at.ensures.item (sym c.order.ensures ∙ c.in-Equal.is)

pub returns-in-Greater-clause-gap : goal.returns-in-Greater-clause-gap
returns-in-Greater-clause-gap c =
    gap_found c.args.self.now.members c.loop-place.place c.args.value.now c.at.result.now c.loop-place.invariant
    (omega (arith, c.loop-place-test.true, c.len-place-end.ensures)) c.at.ensures.item (sym c.order.ensures ∙ c.in-Greater.is)

pub loop-place-preserved : goal.loop-place-preserved
loop-place-preserved c =
    passed_more c.args.self.now.members c.loop-place.place c.args.value.now c.at.result.now c.loop-place.invariant
    (omega (arith, c.loop-place-test.true, c.len-place-end.ensures)) c.at.ensures.item (sym c.order.ensures ∙ c.in-Less.is)
