-- the effect is that of the instruction where the caller stands; it keeps the state well-formed, and asks for the
-- processor only where no routine runs
use Rattle.std.proofs.Common.{◌≡◌, ◌∙◌, Some, None, IfSome, IfNone, ap, subst, sym}
use Rattle.std.specs.declared.option.Option.{Option}
use Rattle.osek_values.specs.declared.status.Ask.{Ask}
use Rattle.osek_standard.specs.{declared.state.State.{State}, Dispatch.{nothing_noted}, Effects.{Effect, effect, effected}, Well.{Well}}
use Rattle.osek_standard.proofs.{EffectKeeps.{effect_keeps}, AskLaws.{MayDispatch as MayAsk, effect_may}}
use Rattle.generic_kernel.proofs.EffectLaws.{effect_here, may_dispatch_as}
use Rattle.generic_kernel.proofs.effects.silent_effect.Goals as goal

some_onward : (o : Option Ask) (P Q : Ask → Type 0) → ((a : Ask) → P a → Q a) → IfSome o P → IfSome o Q
some_onward None P Q f h = tt
some_onward (Some a) P Q f h = f a h

-- a fact of a state that holds after the effect, and where nothing was done
by_answer : (o : Option Ask) (e : Effect) (s r : State) (P : State → Type 0) → IfSome o (λ (a : Ask). e ≡ effected r nothing_noted a) → IfNone o (r ≡ s) → P e.state → P s → P r
by_answer None e s r P row same after before = subst P (sym same) before
by_answer (Some a) e s r P row same after before = subst P (ap (λ (x : Effect). x.state) row) after

pub returns-clause-row : goal.returns-clause-row
returns-clause-row c =
    let app = c.args.app.now in
    let s = c.args.state.now in
    let here = effect_here app s c.args.choice c.args.place c.requires.active (sym c.requires.here) in
    some_onward c.silent_at.result _ _ (λ a row. here ∙ row) c.silent_at.ensures.row

pub returns-clause-well : goal.returns-clause-well
returns-clause-well c =
    let app = c.args.app.now in
    let s = c.args.state.now in
    let here = effect_here app s c.args.choice c.args.place c.requires.active (sym c.requires.here) in
    by_answer c.silent_at.result (effect app s c.args.choice) s c.silent_at.new.state (Well app) (some_onward c.silent_at.result _ _ (λ a row. here ∙ row) c.silent_at.ensures.row) c.silent_at.ensures.other
    (effect_keeps app s c.requires.well c.args.choice) c.requires.well

pub returns-clause-dispatch : goal.returns-clause-dispatch
returns-clause-dispatch c =
    let app = c.args.app.now in
    let s = c.args.state.now in
    let here = effect_here app s c.args.choice c.args.place c.requires.active (sym c.requires.here) in
    some_onward c.silent_at.result _ _ (λ a row. may_dispatch_as app c.silent_at.new.state a (subst (MayAsk app) (here ∙ row) (effect_may app s c.requires.well c.args.choice))) c.silent_at.ensures.row

pub returns-clause-levels : goal.returns-clause-levels
returns-clause-levels c = c.silent_at.ensures.levels
