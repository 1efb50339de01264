use Rattle.std.proofs.Common.{List, subst}
use Rattle.std.proofs.lemmas.Result.{IfOk-weaker}
use Rattle.numbered_sets.specs.{Pools.{Values}, PlainTables.{plain_row}}
use Rattle.point_exits.specs.{declared.group.ExitGroup.{ExitGroup}, Groups.{all_exits}}
use Rattle.table_rows.specs.{declared.bare.BareExit.{BareExit}, BareExits.{AreBare, AreBareExitsOf}}
use Rattle.table_rows.proofs.fold.exits_of_row.Goals as goal

pub returns-clause-exits : goal.returns-clause-exits
returns-clause-exits c =
    let row = plain_row c.args.numbering.now.pool c.args.row.now in
    let pool = c.row_groups.new.numbering.pool in
    let groups = c.in_ok-groups.groups.items in
    IfOk-weaker c.bare_exits.result (λ (xs : List BareExit). (p : List Values) → AreBare (all_exits p c.as_slice.result.now) xs)
    (AreBareExitsOf c.args.numbering.now.app.now row)
    (λ xs bare. record {
      whole = all_exits pool groups;
      are = c.in_ok-groups.ensures.exits;
      bare = subst (λ (gs : List ExitGroup). AreBare (all_exits pool gs) xs) c.as_slice.ensures.value (bare pool);
    })
    c.bare_exits.ensures
