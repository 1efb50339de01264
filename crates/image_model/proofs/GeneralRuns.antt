-- An image whose sites all have the general form runs as the kernel.
use Rattle.std.proofs.Common.{◌≡◌, ℕ, Bool, List, length, get_or, Option, Some, None, refl, sym, ap, subst, inl, inr}
use Rattle.std.specs.Prelude.{⊤, IfSome, option_map}
use Rattle.std.proofs.lemmas.{Bool.{cases_lt}, List.{get_or_past}}
use Rattle.osek_values.specs.declared.{event.Event.{Event}, numbers.ModeNo.{ModeNo}}
use Rattle.osek_standard.specs.{declared.{app.App.{App}, state.State.{State}}, States.{here}, Effects.{Effect, effect}, Dispatch.{outcome_of, concluded, instruction}}
use Rattle.image_model.specs.{declared.{site.Site.{Site}, image.Image.{Image}}, Sites.{general}, ImageStep.{formed, formed_at, instructed}, ImageTrace.{AreGeneral}}
use Rattle.image_model.specs.Laws.{IsKernelsRun}
use Rattle.image_model.proofs.KernelRuns.{runs_as_kernel}

abbrev IsGeneralSite : Option Site → Type 0
IsGeneralSite x = IfSome x (λ s. s ≡ general)

general_at : (sites : List (Option Site)) (b : ℕ) → AreGeneral sites → IsGeneralSite (get_or sites b None)
general_at sites b all =
    elim (cases_lt b (length sites)) [
      | inl lt ↦ all b None lt
      | inr le ↦ subst IsGeneralSite (sym (get_or_past sites b None le)) tt
    ]

same_outcome : (app : App) (e : Effect) (x : Option Site) → IsGeneralSite x → formed_at app e x ≡ Some (outcome_of app e)
same_outcome app e None h = refl
same_outcome app e (Some s) h = ap (formed app e) h

same_instruction : (i : Image) (s : State) (choice : Bool) → AreGeneral i.sites → instructed i s choice ≡ Some (instruction i.app s choice)
unfolding instructed instruction
same_instruction i s choice all =
    ap (option_map (concluded i.app (effect i.app s choice)))
    (same_outcome i.app (effect i.app s choice) (get_or i.sites (here s).block.0 None) (general_at i.sites (here s).block.0 all))

pub general_runs : (i : Image) (mode : ModeNo) (es : List Event) → AreGeneral i.sites → IsKernelsRun i mode es
general_runs i mode es all = runs_as_kernel i (λ s. ⊤) (λ s choice h active. same_instruction i s choice all) (λ s e h. tt) mode es tt
