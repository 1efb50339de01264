use Rattle.std.proofs.Common.{List, sym, ap, subst, refl, ◌∙◌}
use Rattle.std.specs.Prelude.{[], ◌∷◌, ◌++◌}
use Rattle.numbered_sets.specs.declared.table.NumberedRow.{NumberedRow}
use Rattle.state_flow.specs.Parts.{AreRowsBeside}
use Rattle.state_flow.proofs.GrownParts.{whole_beside}
use Rattle.state_flow.proofs.parts.whole.Goals as goal

pub returns : goal.returns
returns c before =
    let row : NumberedRow = record { point = c.args.point; entry = c.in_ok-copy.field-0 } in
    subst (AreRowsBeside c.args.point c.args.entry.now before) (sym (c.in_ok-push.ensures.items ∙ ap (λ (rows : List NumberedRow). rows ++ row ∷ []) c.new-rows.ensures.items))
    (whole_beside c.args.point c.args.entry.now c.requires row refl c.in_ok-copy.ensures before)
