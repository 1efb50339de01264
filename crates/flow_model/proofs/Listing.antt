-- Lists of cases at a point, by what holds in each state that stands there.
use Rattle.std.proofs.Common.{ℕ, Bool, true, List, sym, subst}
use Rattle.std.specs.Prelude.{Contains}
use Rattle.osek_values.specs.declared.numbers.BlockNo.{BlockNo}
use Rattle.osek_standard.specs.declared.{app.App.{App}, state.State.{State}, point.Point.{Point}}
use Rattle.abstract_state.specs.{declared.{value.PartValue.{PartValue}, table.PlainEntry.{PlainEntry}}, Components.{abstract_of}, Concrete.{AreAllowed, HasParts}}
use Rattle.abstract_state.proofs.Concretes.{some_quiet}
use Rattle.flow_model.specs.{declared.{case.EffectCase.{EffectCase}, test.Condition.{Condition}, runner.Runner.{Runner}}, Runners.{Stands, OwnsBlock, runner_point}}
use Rattle.flow_model.specs.{Tests.{PassesAt, PassesAll}, Effects.{AreIn, AreAllAllowed, HasEffect, HasSomeEffect, CoverEffects, AreExactEffects}}
use Rattle.flow_model.proofs.Standing.{owned_point, stands_here}

-- chosen values of an entry are allowed
pub values_allowed : (app : App) (p : Point) (entry : PlainEntry) (value : ℕ → PartValue) → AreAllAllowed app p entry → AreIn app entry value → AreAllowed app p value
values_allowed app p entry value all within c lt = all c (value c) lt (within c lt)

module _ (app : App) (p : Point) (value : ℕ → PartValue) (s : State) (has : HasParts app p value s) where
  -- what holds of chosen values holds of the state that is made with them
  pub made_passes : (xs : List Condition) → PassesAll app xs value → PassesAll app xs (abstract_of app s)
  made_passes xs h c lt = subst (PassesAt xs c) (sym (has.parts c lt)) (h c lt)

module _ (app : App) (r : Runner) (b : BlockNo) (owns : OwnsBlock app r b) (cases : List EffectCase) where
  -- a listed case whose conditions a state passes is its effect, by whatever choice
  abbrev pub AreEffects : Type 0
  AreEffects = (x : EffectCase) (s : State) (choice : Bool) → Contains cases x → Stands app s r b → PassesAll app x.conditions (abstract_of app s) → HasEffect app x s choice

  -- and each state passes those of one
  abbrev pub AreEnough : Type 0
  AreEnough = (s : State) → Stands app s r b → (x : EffectCase) × Contains cases x × PassesAll app x.conditions (abstract_of app s)

  pub covers_by : ((s : State) (choice : Bool) → Stands app s r b → HasSomeEffect app cases s choice) → (entry : PlainEntry) → CoverEffects app (runner_point r b) entry cases
  covers_by some entry s choice at active = some s choice (stands_here app s r b owns at.well at.regular at.point)

  pub covers : AreEffects → AreEnough → (entry : PlainEntry) → CoverEffects app (runner_point r b) entry cases
  covers each some = covers_by (λ s choice h. let x = some s h in record { case = x.0; listed = x.1; effect = each x.0 s choice x.1 h x.2 })

  -- an effect of the case by some choice, in each state that passes its conditions
  abbrev pub IsEffectBy : EffectCase → Bool → Type 0
  IsEffectBy x choice = (s : State) → Stands app s r b → PassesAll app x.conditions (abstract_of app s) → HasEffect app x s choice

  pub exact_by : ((x : EffectCase) → Contains cases x → (choice : Bool) × IsEffectBy x choice) → (entry : PlainEntry) → AreAllAllowed app (runner_point r b) entry → AreExactEffects app (runner_point r b) entry cases
  exact_by each entry all x value t listed within passing =
      let q = some_quiet app (runner_point r b) value (owned_point app r b owns) (values_allowed app (runner_point r b) entry value all within) t in
      let has : HasParts app (runner_point r b) value q.0 = q.1.has in
      let shown = each x listed in
      record {
        from = q.0;
        choice = shown.0;
        has = has;
        alone = q.1.quiet;
        first = q.1.first;
        effect = shown.1 q.0 (stands_here app q.0 r b owns has.well has.regular has.point) (made_passes app (runner_point r b) value q.0 has x.conditions passing);
      }

  pub exact : AreEffects → (entry : PlainEntry) → AreAllAllowed app (runner_point r b) entry → AreExactEffects app (runner_point r b) entry cases
  exact each = exact_by (λ x listed. (true, λ s h passing. each x s true listed h passing))
