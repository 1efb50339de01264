use Rattle.std.proofs.Common.{List, map, sym, ap, subst, ◌∙◌, arith}
use Rattle.std.proofs.lemmas.List.{take_all}
use Rattle.point_exits.specs.{declared.group.ExitGroup.{ExitGroup}, Groups.{all_exits}}
use Rattle.table_rows.specs.BareExits.{bare_exit, AreBare}
use Rattle.table_rows.proofs.BareLaws.{each_bare}
use Rattle.table_rows.proofs.bare.bare_exits.Goals as goal

pub returns : goal.returns
returns c = λ pool.
    let groups = c.args.groups.now in
    let are =
    c.loop-group.invariant pool
    ∙ ap (λ (gs : List ExitGroup). map bare_exit (all_exits pool gs)) (take_all c.loop-group.group-index groups (omega arith)) in
    subst (AreBare (all_exits pool groups)) (sym are) (each_bare (all_exits pool groups))
