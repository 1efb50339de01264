-- Lists of cases that are effects, one by one.
use Rattle.std.proofs.Common.{◌≡◌, Bool, List, [], ◌∷◌, ◌++◌, sym, subst, ◌∙◌, inl, inr, Ok, Err}
use Rattle.std.proofs.lemmas.Result.{IfOk-weaker}
use Rattle.std.specs.{Prelude.{IfOk}, declared.{option.Option.{Option}, result.Result.{Result}}}
use Rattle.osek_values.specs.declared.{memory.Memory.{Memory}, numbers.{TaskNo.{TaskNo}, BlockNo.{BlockNo}, SourceNo.{SourceNo}}}
use Rattle.osek_standard.specs.declared.{app.App.{App}, state.State.{State}, point.Point.{Point}}
use Rattle.osek_standard.proofs.Members.{Among, among_cases, among_left, among_right, contained_among, among_contained}
use Rattle.abstract_state.specs.{declared.value.ComponentNo.{ComponentNo}, Components.{abstract_of}}
use Rattle.flow_model.specs.{declared.{case.EffectCase.{EffectCase}, runner.Runner.{Runner}}, Runners.{Stands, OwnsBlock, IsRoutineKnown, IsRunnerOf, runner_point}, Tests.{PassesAll}}
use Rattle.flow_model.specs.Effects.{HasEffect, IsKnownStay, HaveKnownStays, AreCasesOf}
use Rattle.flow_model.specs.declared.runner.Runner.TheVariants as runner
use Rattle.flow_model.proofs.{Listing.{AreEffects, covers, exact}, Standing.{stands_here}}
use Rattle.flow_effects.specs.Outs.{AreOutBy, AreCasesWith}

-- who owns a block is a runner of the application
pub owner_known : (app : App) (r : Runner) (b : BlockNo) → OwnsBlock app r b → IsRunnerOf app r
owner_known app (runner.Task t) b owns = owns.0
owner_known app (runner.Routine k z over) b owns = record { known = owns.known; number = owns.number; task = owns.task }

-- and where it is a routine, so is its source, and what it interrupted
pub routine_known : (app : App) (r : Runner) (k : SourceNo) (z : ComponentNo) (over : Option TaskNo) → IsRunnerOf app r → r ≡ runner.Routine k z over → IsRoutineKnown app k z over
routine_known app r k z over h e = subst (IsRunnerOf app) e h

module _ (app : App) (r : Runner) (b : BlockNo) where
  -- the case is the effect of each state that passes its conditions
  abbrev pub IsEffect : EffectCase → Type 0
  IsEffect x = (s : State) (choice : Bool) → Stands app s r b → PassesAll app x.conditions (abstract_of app s) → HasEffect app x s choice

  abbrev pub IsCase : EffectCase → Type 0
  IsCase x = IsKnownStay app x.leaving.stay × IsEffect x

  abbrev pub AreListed : List EffectCase → Type 0
  AreListed xs = (x : EffectCase) → Among x xs → IsCase x

  none_listed : AreListed []
  none_listed x m = absurd m

  pub more_listed : (x : EffectCase) (xs : List EffectCase) → IsCase x → AreListed xs → AreListed (x ∷ xs)
  more_listed x xs h more y (inl e) = subst IsCase (sym e) h
  more_listed x xs h more y (inr m) = more y m

  pub one_listed : (x : EffectCase) → IsCase x → AreListed (x ∷ [])
  one_listed x h = more_listed x [] h none_listed

  pub both_listed : (xs ys : List EffectCase) → AreListed xs → AreListed ys → AreListed (xs ++ ys)
  both_listed xs ys h k x m = elim (among_cases x xs ys m) [ inl a ↦ h x a | inr c ↦ k x c ]

  -- a state that passes a case of the list
  pub record IsTaken (s : State) (xs : List EffectCase) : Type 0 where
    pub case : EffectCase
    pub among : Among case xs
    pub passes : PassesAll app case.conditions (abstract_of app s)

  pub taken_first : (s : State) (xs ys : List EffectCase) → IsTaken s xs → IsTaken s (xs ++ ys)
  taken_first s xs ys x = record { case = x.case; among = among_left x.case xs ys x.among; passes = x.passes }

  pub taken_then : (s : State) (xs ys : List EffectCase) → IsTaken s ys → IsTaken s (xs ++ ys)
  taken_then s xs ys x = record { case = x.case; among = among_right x.case xs ys x.among; passes = x.passes }

  module _ (owns : OwnsBlock app r b) (cases : List EffectCase) (each : AreListed cases) where
    effects : AreEffects app r b owns cases
    effects x s choice m h passing = (each x (contained_among cases x m)).1 s choice h passing

    stays : HaveKnownStays app cases
    stays x m = (each x (contained_among cases x m)).0

    -- cases that are effects, one of which each state takes
    pub are_cases : ((s : State) → Stands app s r b → IsTaken s cases) → AreCasesOf app (runner_point r b) cases
    are_cases some = record {
      covering = covers app r b owns cases effects (λ s h. let x = some s h in (x.case, among_contained cases x.case x.among, x.passes));
      exact = exact app r b owns cases effects;
      stays = stays;
    }

    -- and where each state takes one in which these sources are out
    pub are_cases_with : (outs : List Bool) → ((s : State) → Stands app s r b → AreOutBy app outs (abstract_of app s) → IsTaken s cases) → AreCasesWith app outs (runner_point r b) cases
    are_cases_with outs some = record {
      covering = λ entry out s choice at active.
          (let h = stands_here app s r b owns at.well at.regular at.point in
          let x = some s h (out (abstract_of app s) at.within) in
          record { case = x.case; listed = among_contained cases x.case x.among; effect = (each x.case x.among).1 s choice h x.passes });
      exact = exact app r b owns cases effects;
      stays = stays;
    }

-- cases of all states are those of the states in which these sources are out
pub cases_with : (app : App) (outs : List Bool) (p : Point) (cases : List EffectCase) → AreCasesOf app p cases → AreCasesWith app outs p cases
cases_with app outs p cases h = record { covering = λ entry out. h.covering entry; exact = h.exact; stays = h.stays }

pub ok_with : (app : App) (outs : List Bool) (p : Point) (result : Result (List EffectCase) Memory) → IfOk result (AreCasesOf app p) → IfOk result (AreCasesWith app outs p)
ok_with app outs p result cases = IfOk-weaker result (AreCasesOf app p) (AreCasesWith app outs p) (cases_with app outs p) cases

-- an answer that is a list by an equation, if memory sufficed
pub ok_list : (P : List EffectCase → Type 0) (xs ys : List EffectCase) (result : Result (List EffectCase) Memory) → IfOk result (λ cases. cases ≡ xs) → ys ≡ xs → P ys → IfOk result P
ok_list P xs ys (Ok cases) is same h = subst P (same ∙ sym is) h
ok_list P xs ys (Err e) is same h = tt

pub ok_list_with : (app : App) (outs : List Bool) (p : Point) (xs ys : List EffectCase) (result : Result (List EffectCase) Memory) → IfOk result (λ cases. cases ≡ xs) → ys ≡ xs → AreCasesOf app p ys → IfOk result (AreCasesWith app outs p)
ok_list_with app outs p xs ys result is same h = ok_with app outs p result (ok_list (AreCasesOf app p) xs ys result is same h)
