use Rattle.std.proofs.Common.{◌≡◌, ◌+◌, List, length, get_or, sym, ap, subst, ◌∙◌, arith}
use Rattle.osek_values.specs.Numbers.{alarm_no}
use Rattle.abstract_state.specs.declared.value.Component.{Component}
use Rattle.abstract_state.specs.declared.value.Component.TheVariants as component
use Rattle.abstract_state.specs.{declared.table.ValueSet.{ValueSet}, Components.{component_at, component_count, IsComponent}, Tables.{empty_set, set_at}}
use Rattle.flow_rules.specs.Allowed.{may_be_by, IsPartOf}
use Rattle.flow_rules.proofs.{AllowedSets.{ArePartsUpTo, parts_more}}
use Rattle.point_exits.proofs.KeptDomains.{size}
use Rattle.point_exits.proofs.StartEntry.{listed_component}
use Rattle.flow_rules.proofs.allowing.allowed_part.Goals as goal

pub at-requires : goal.at-requires
at-requires c = omega (arith, c.loop-place-test.true, c.len-place-end.ensures)

pub at-requires-in-loop-place : goal.at-requires-in-loop-place
at-requires-in-loop-place c = omega (arith, c.loop-place-test.true, c.len-place-end.ensures, ap length c.in_ok-components.ensures, size c.args.app.now c.args.entry.now c.requires)

pub allowed_set-requires : goal.allowed_set-requires
allowed_set-requires c =
    let app = c.args.app.now in
    let d = component.Alarm (alarm_no 0) in
    subst (IsComponent app) (c.at.ensures.item d) (listed_component app c.in_ok-components.components c.loop-place.place d c.in_ok-components.ensures (omega (arith, c.loop-place-test.true, c.len-place-end.ensures)))

pub loop-place-preserved : goal.loop-place-preserved
loop-place-preserved c =
    let app = c.args.app.now in
    let p = c.args.point in
    let entry = c.args.entry.now in
    let k = c.loop-place.place in
    let set = c.in_ok-set.set in
    let d = component.Alarm (alarm_no 0) in
    let is : component_at app k ≡ c.at.result.now = ap (λ (xs : List Component). get_or xs k d) (sym c.in_ok-components.ensures) ∙ c.at.ensures.item d in
    let its : IsPartOf (may_be_by app p c.at.result.now) (set_at entry k) set = subst (λ (s : ValueSet). IsPartOf (may_be_by app p c.at.result.now) s set) (sym (c.at-in-loop-place.ensures.item empty_set)) c.in_ok-set.ensures in
    subst (ArePartsUpTo app p entry (k + 1)) (sym c.in_ok-push.ensures.ok)
    (parts_more app p entry k c.loop-place.sets set c.loop-place.invariant (subst (λ (x : Component). IsPartOf (may_be_by app p x) (set_at entry k) set) (sym is) its))

pub returns : goal.returns
returns c =
    let entry = c.args.entry.now in
    let h = c.loop-place.invariant in
    let many = size c.args.app.now entry c.requires in
    let long : length c.in_ok-components.components ≡ component_count c.args.app.now = ap length c.in_ok-components.ensures in
    let all : c.loop-place.place ≡ length entry.sets = omega (arith, c.loop-place-test.false, c.len-place-end.ensures, many, long) in
    record { size = h.size ∙ all; each = λ k lt. h.each k (omega (arith, lt, all)) }
