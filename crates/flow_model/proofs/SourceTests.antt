-- What tests of sources read of a state.
use Rattle.std.proofs.Common.{◌≡◌, ℕ, ◌<◌, Bool, true, false, not, refl, sym, ap, ◌∙◌}
use Rattle.osek_values.specs.Numbers.{source_no}
use Rattle.osek_standard.specs.declared.{app.App.{App}, state.{State.{State}, Source.{Source}}}
use Rattle.osek_standard.specs.declared.state.Source.TheVariants as source
use Rattle.osek_standard.specs.{Apps.{source_count}, States.{is_in, source_state}}
use Rattle.abstract_state.specs.declared.value.PartValue.TheVariants.{OfSource}
use Rattle.abstract_state.specs.declared.value.SourceVal.TheVariants as source_val
use Rattle.abstract_state.specs.declared.value.Component.TheVariants as component
use Rattle.abstract_state.specs.{Components.{abstract_of, component_count, component_number, part_of, source_value}, ValueOrder.{same_part}}
use Rattle.abstract_state.proofs.{Numbers.{component_here, number_known}, OrderLaws.{part_itself}}
use Rattle.flow_model.specs.declared.test.Test.{Test}
use Rattle.flow_model.specs.declared.test.Test.TheVariants as test
use Rattle.flow_model.specs.Tests.{passes}

out_value : (x : Source) → same_part (OfSource (source_value x)) (OfSource source_val.Out) ≡ not (is_in x)
out_value source.Out = part_itself (OfSource source_val.Out)
out_value (source.In x) = refl

twice : (b : Bool) → not (not b) ≡ b
twice true = refl
twice false = refl

not_in : (x : Source) → not (is_in x) ≡ true → x ≡ source.Out
not_in source.Out e = refl
not_in (source.In x) e = absurd (cc)

module _ (app : App) (s : State) (k : ℕ) (known : k < source_count app) where
  abbrev number : ℕ
  number = component_number app (component.Source (source_no k))

  pub source_value_is : abstract_of app s number ≡ OfSource (source_value (source_state s k))
  source_value_is = ap (part_of s) (component_here app (component.Source (source_no k)) known)

  pub source_counted : number < component_count app
  source_counted = number_known app (component.Source (source_no k)) known

  pub test_of_source : (x : Test) → passes x (abstract_of app s number) ≡ passes x (OfSource (source_value (source_state s k)))
  test_of_source x = ap (passes x) source_value_is

  -- it is out, or in
  pub tests_out : passes (test.Is (OfSource source_val.Out)) (abstract_of app s number) ≡ not (is_in (source_state s k))
  tests_out = test_of_source (test.Is (OfSource source_val.Out)) ∙ out_value (source_state s k)

  pub tests_in : passes (test.IsNot (OfSource source_val.Out)) (abstract_of app s number) ≡ is_in (source_state s k)
  tests_in = test_of_source (test.IsNot (OfSource source_val.Out)) ∙ ap not (out_value (source_state s k)) ∙ twice (is_in (source_state s k))

  pub out_there : passes (test.Is (OfSource source_val.Out)) (abstract_of app s number) ≡ true → source_state s k ≡ source.Out
  out_there e = not_in (source_state s k) (sym tests_out ∙ e)
