use Rattle.std.proofs.{Common.{◌≡◌, ◌∙◌, true, false, not, sym, ap}, lemmas.Bool.{OnTrue_from}}
use Rattle.abstract_state.specs.declared.value.Component.TheVariants as component
use Rattle.table_codec.specs.Kept.{BarsNoValue}
use Rattle.table_codec.proofs.SourceShapeLaws.{free_beside}
use Rattle.table_codec.proofs.source_shape.is_free_source.Goals as goal

pub returns-in-Some : goal.returns-in-Some
returns-in-Some c =
    OnTrue_from (not c.is_of_routine.result) (BarsNoValue c.args.app.now c.args.point (component.Source c.args.source)) (λ e.
    free_beside c.args.app.now c.args.source c.requires c.args.point c.in-Some.block c.in-Some.ensures
    (λ own. absurd (let wrong : false ≡ true = sym (ap not (c.is_of_routine.ensures.1 own)) ∙ e in cc)))
