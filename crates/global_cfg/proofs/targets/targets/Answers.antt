use Rattle.std.proofs.{Common.{rules, [], ◌∷◌, List, sym, subst, take}, lemmas.List.{take_all, take_more}}
use Rattle.osek_standard.specs.Points.{point_number}
use Rattle.table_rows.specs.declared.bare.BareExit.{BareExit}
use Rattle.table_rows.proofs.OrderLaws.{ascend_none}
use Rattle.global_cfg.specs.Targets.{AreEndsPut}
use Rattle.global_cfg.proofs.PuttingIn.{no_exits, exits_then}
use Rattle.global_cfg.proofs.targets.targets.Goals as goal

pub loop-exit-init : goal.loop-exit-init
loop-exit-init c = search (rules, no_exits c.args.from [] (ascend_none point_number))

pub put_target-requires : goal.put_target-requires
put_target-requires c = c.loop-exit.invariant.order

pub loop-exit-preserved : goal.loop-exit-preserved
loop-exit-preserved c =
    let items = c.args.exits.now in
    let i = c.loop-exit.exit-index in
    let p = c.args.from in
    subst (λ (done : List BareExit). AreEndsPut p done [] c.put_target.new.points.items) (sym (take_more items i _ c.loop-exit-test.true))
    (exits_then p (take i items) (_ ∷ []) [] c.loop-exit.targets.items c.put_target.new.points.items c.loop-exit.invariant c.in_ok-put_target.ensures)

pub returns : goal.returns
returns c =
    subst (λ (done : List BareExit). AreEndsPut c.args.from done [] c.loop-exit.targets.items)
    (take_all c.loop-exit.exit-index c.args.exits.now c.loop-exit-test.false)
    c.loop-exit.invariant
