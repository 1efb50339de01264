-- what a routine holds is little
use Rattle.std.proofs.Common.{◌≡◌, ℕ, ◌≤◌, List, length, sym, ap, ◌∙◌, arith, slice_index_or}
use Rattle.osek_values.specs.declared.{numbers.ResNo.{ResNo}, limits.TheConstants.{MAX_RESOURCES}}
use Rattle.osek_standard.specs.declared.{app.App.{App}, state.{State.{State}, RoutineStanding.{RoutineStanding}, Source.TheVariants.{Out, In}}}
use Rattle.osek_standard.specs.{States.{held_by_source, source_state}, Well.{Well}}
use Rattle.osek_standard.proofs.{SourceKeeps.{sources_right}, StackLaws.{routine_stack, stack_few}}
use Rattle.trace_text.proofs.trace_line.put_routine.Goals as goal

few_held : (app : App) (s : State) (k : ℕ) (y : RoutineStanding) → Well app s → source_state s k ≡ In y → length y.held ≤ MAX_RESOURCES
few_held app s k y w is =
    let stack = routine_stack app s k (sources_right app s w k) in
    omega (arith, stack_few (length app.resources) (held_by_source (source_state s k)) stack.out_of, ap (λ (h : List ResNo). length h) (ap held_by_source is), app.valid.few_resources)

pub put_resources-requires-clause-room : goal.put_resources-requires-clause-room
put_resources-requires-clause-room c =
    let s = c.args.state.now in
    let found : source_state s c.args.source.0 ≡ In c.in-In.standing = ap (λ (n : ℕ). slice_index_or s.sources n Out) (sym c.index.ensures) ∙ c.at.ensures.item Out ∙ c.in-In.is in
    let few = few_held c.args.app.now s c.args.source.0 c.in-In.standing c.requires.well found in
    omega (arith, few, c.requires.room, c.put_label-at.ensures.most, c.put_label-at.auto.buf, ap (λ (h : List ResNo). length h) c.as_slice.ensures)

pub returns-else-is_at_processor-clause-most : goal.returns-else-is_at_processor-clause-most
returns-else-is_at_processor-clause-most c =
    let s = c.args.state.now in
    let found : source_state s c.args.source.0 ≡ In c.in-In.standing = ap (λ (n : ℕ). slice_index_or s.sources n Out) (sym c.index.ensures) ∙ c.at.ensures.item Out ∙ c.in-In.is in
    let few = few_held c.args.app.now s c.args.source.0 c.in-In.standing c.requires.well found in
    omega (arith, few, c.put_resources.ensures.most, c.put_label-at.ensures.most, ap (λ (h : List ResNo). length h) c.as_slice.ensures)
