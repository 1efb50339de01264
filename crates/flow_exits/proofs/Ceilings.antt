-- The ceilings of what a Live task has: its INTERNAL resource where it is inside, and then its stack.
use Rattle.std.proofs.Common.{◌≡◌, ℕ, List, [], ap, ◌∙◌, None}
use Rattle.std.specs.{Prelude.{if◌then◌else◌}, List.{cons_option}, declared.option.Option.{Option}}
use Rattle.osek_values.specs.declared.numbers.ResNo.{ResNo}
use Rattle.osek_standard.specs.{declared.app.App.{App}, Internal.{internal_of}, Priority.{highest}}
use Rattle.osek_standard.proofs.CeilingLaws.{highest_of_both}
use Rattle.abstract_state.specs.declared.value.{LiveVal.{LiveVal}, Val.TheVariants.{Live}}
use Rattle.flow_model.specs.Values.{occupied_by}

module _ (app : App) (t : ℕ) (x : LiveVal) (h : List ResNo) (same : h ≡ x.held) where
  abbrev internal : Option ResNo
  internal = if x.inside then internal_of app t else None

  pub highest_occupied : (base p r : ℕ) → p ≡ highest app base (cons_option internal []) → r ≡ highest app p h → r ≡ highest app base (occupied_by app t (Live x))
  highest_occupied base p r e f =
      f ∙ ap (λ (q : ℕ). highest app q h) e ∙ ap (λ (g : List ResNo). highest app (highest app base (cons_option internal [])) g) same ∙ highest_of_both app base internal x.held
