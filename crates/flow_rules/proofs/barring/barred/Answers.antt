use Rattle.std.proofs.Common.{◌≡◌, ℕ, ◌++◌, List, get_or, flat_map, sym, ap, ◌∙◌, arith}
use Rattle.abstract_state.specs.declared.value.{Component.{Component}, ComponentNo.{ComponentNo}, PartValue.{PartValue}}
use Rattle.abstract_state.specs.declared.value.Component.TheVariants as component
use Rattle.abstract_state.specs.{declared.table.ValueSet.{ValueSet}, Components.{component_number, component_no}, Tables.{empty_set, set_at}}
use Rattle.abstract_state.proofs.Numbers.{number_known}
use Rattle.flow_model.specs.declared.test.Condition.{Condition}
use Rattle.point_exits.proofs.KeptDomains.{size}
use Rattle.flow_rules.specs.Ruling.{bars, bars_at}
use Rattle.flow_rules.proofs.BarredValues.{flat_more}
use Rattle.point_exits.proofs.StartEntry.{listed_component}
use Rattle.flow_rules.proofs.barring.barred.Goals as goal

pub component_number-component-requires : goal.component_number-component-requires
component_number-component-requires c =
    listed_component c.args.app.now c.as_slice-component-items.result.now c.loop-component.component-index (component.Task (record { 0 = 0 })) (c.as_slice-component-items.ensures ∙ c.in_ok-components.ensures) c.loop-component-test.true

pub at-requires : goal.at-requires
at-requires c =
    let app = c.args.app.now in
    let items = c.as_slice-component-items.result.now in
    let x : Component = get_or items c.loop-component.component-index (component.Task (record { 0 = 0 })) in
    let known = number_known app x (listed_component app items c.loop-component.component-index (component.Task (record { 0 = 0 })) (c.as_slice-component-items.ensures ∙ c.in_ok-components.ensures) c.loop-component-test.true) in
    let sets = size app c.args.from.now c.requires in
    omega (arith, known, sets, c.component_number-component.ensures, c.index.ensures)

pub loop-component-preserved : goal.loop-component-preserved
loop-component-preserved c =
    let app = c.args.app.now in
    let changes = c.args.changes.now in
    let from = c.args.from.now in
    let kept = c.args.kept.now in
    let items = c.as_slice-component-items.result.now in
    let i = c.loop-component.component-index in
    let before = c.loop-component.conditions in
    let x : Component = get_or items i (component.Task (record { 0 = 0 })) in
    let k : ComponentNo = c.component_number-component.result in
    let k_is : k ≡ component_no (component_number app x) = ap component_no c.component_number-component.ensures in
    let set_is : set_at from k.0 ≡ c.at.result.now = ap (λ (n : ℕ). get_or from.sets n empty_set) (sym c.index.ensures) ∙ c.at.ensures.item empty_set in
    let values_are : c.as_slice-values.result.now ≡ (set_at from k.0).members = c.as_slice-values.ensures ∙ ap (λ (s : ValueSet). s.members) (sym set_is) in
    c.in_ok-bar_values.ensures
    ∙ ap (λ (vs : List PartValue). before ++ flat_map (bars changes (set_at kept k.0) k) vs) values_are
    ∙ ap (λ (n : ComponentNo). before ++ bars_at changes from kept n) k_is
    ∙ ap (λ (xs : List Condition). xs ++ bars_at changes from kept (component_no (component_number app x))) c.loop-component.invariant
    ∙ sym (flat_more (λ (y : Component). bars_at changes from kept (component_no (component_number app y))) items i (component.Task (record { 0 = 0 })) c.loop-component-test.true)
