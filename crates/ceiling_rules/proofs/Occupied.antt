-- What a Live task has: its INTERNAL resource where it is inside, and then its stack.
use Rattle.std.proofs.Common.{◌≡◌, ℕ, List, [], ap, ◌∙◌, None}
use Rattle.std.specs.{Prelude.{if◌then◌else◌}, List.{cons_option}}
use Rattle.osek_values.specs.declared.numbers.ResNo.{ResNo}
use Rattle.osek_standard.specs.{declared.{app.App.{App}, task_state.{Activity.TheVariants.{Live}, Standing.{Standing}, TaskState.{TaskState}}}, Internal.{internal_of, occupied}}
use Rattle.osek_standard.specs.{Priority.{highest}, Levels.{highest_level}}
use Rattle.osek_standard.proofs.CeilingLaws.{highest_of_both, level_of_both}

module _ (app : App) (t : ℕ) (x y : TaskState) (at : Standing) (h : List ResNo) (is : y ≡ x) (live : x.activity ≡ Live at) (same : h ≡ at.held) where
  abbrev inner : List ResNo
  inner = cons_option (if at.inside then internal_of app t else None) []

  -- the ceilings of these
  pub highest_occupied : (base p r : ℕ) → p ≡ highest app base inner → r ≡ highest app p h → r ≡ highest app base (occupied app t y)
  highest_occupied base p r e f = rw (is, live)
      (f ∙ ap (λ (q : ℕ). highest app q h) e ∙ ap (λ (g : List ResNo). highest app (highest app base inner) g) same ∙ highest_of_both app base (if at.inside then internal_of app t else None) at.held)

  -- their interrupt ceilings
  pub level_occupied : (own p r : ℕ) → p ≡ highest_level app own inner → r ≡ highest_level app p h → r ≡ highest_level app own (occupied app t y)
  level_occupied own p r e f = rw (is, live)
      (f ∙ ap (λ (q : ℕ). highest_level app q h) e ∙ ap (λ (g : List ResNo). highest_level app (highest_level app own inner) g) same ∙ level_of_both app own (if at.inside then internal_of app t else None) at.held)
