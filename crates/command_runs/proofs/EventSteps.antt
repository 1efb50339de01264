-- One event, from the machine's turn to what is printed.
use Rattle.std.proofs.Common.{◌≡◌, ℕ, Bool, true, false, refl, sym, ◌∙◌, ap, subst, Some, None, Ok}
use Rattle.std.specs.{Prelude.{if◌then◌else◌}, declared.{option.Option.{Option}, result.Result.{Result}}}
use Rattle.osek_values.specs.declared.{event.Event.{Event}, notes.Notes.{Notes}}
use Rattle.osek_standard.specs.{declared.{app.App.{App}, state.State.{State}}, Dispatch.{Stepped, stepped}}
use Rattle.image_model.specs.{declared.image.Image.{Image}, ImageStep.{image_step}}
use Rattle.image_run.specs.{Machines.{AtWork, Turn, turned, turned_by, turn}, Noted.{noted_if}}
use Rattle.command_runs.specs.{Playing.{Given, played, line_of, HeldAnswers, AnswersEvent}, declared.{showing.Showing.{Showing, TheVariants.{Trace}}, stop.Stop.{Stop}}}

-- a turn of a machine that didn't trap is a step of its image
pub turn_is : (m : AtWork) (e : Event) (t : Turn) → m.trapped ≡ false → turn m e ≡ t → turned_by m (image_step m.image m.state e) ≡ t
turn_is m e t runs is = subst (λ (b : Bool). (if b then turned m None else turned_by m (image_step m.image m.state e)) ≡ t) runs is

stepped_on : (m new : AtWork) (o : Option Stepped) (n : Notes) → turned_by m o ≡ turned new (Some n) → o ≡ Some (stepped new.state n)
stepped_on m new None n e = absurd (cc (ap (λ (t : Turn). t.notes) e))
stepped_on m new (Some x) n e =
    let notes : x.notes ≡ n = cc (ap (λ (t : Turn). t.notes) e) in
    ap (λ (s : State). Some (stepped s x.notes)) (ap (λ (t : Turn). t.machine.state) e) ∙ ap (λ (k : Notes). Some (stepped new.state k)) notes

pub same_image : (m new : AtWork) (o : Option Stepped) (n : Option Notes) → turned_by m o ≡ turned new n → new.image ≡ m.image
same_image m new None n e = sym (ap (λ (t : Turn). t.machine.image) e)
same_image m new (Some x) n e = sym (ap (λ (t : Turn). t.machine.image) e)

trapped_on : (m new : AtWork) (o : Option Stepped) → turned_by m o ≡ turned new None → o ≡ None
trapped_on m new None e = refl
trapped_on m new (Some x) e = absurd (cc (ap (λ (t : Turn). t.notes) e))

pub runs_on : (m new : AtWork) (o : Option Stepped) (n : Notes) → m.trapped ≡ false → turned_by m o ≡ turned new (Some n) → new.trapped ≡ false
runs_on m new None n runs e = absurd (cc (ap (λ (t : Turn). t.notes) e))
runs_on m new (Some x) n runs e = sym (ap (λ (t : Turn). t.machine.trapped) e) ∙ runs

-- what a step that is no trap makes of a state
pub steps_as : (m new : AtWork) (o : Option Stepped) (is : Bool) (n : Notes) → turned_by m o ≡ turned new (noted_if is n) → o ≡ (if is then Some (stepped new.state n) else None)
steps_as m new o true n e = stepped_on m new o n e
steps_as m new o false n e = trapped_on m new o e

-- the line of a step that is no trap was put, or not, from where the play stood before it
pub event_put : (old mid new : Given) (w : Showing) (i j : Image) (n k : ℕ) (s : State) (o : Option Stepped) (x : Stepped) (r : Result (Unit {0}) Stop) → o ≡ Some x → mid ≡ old → j ≡ i → k ≡ n → s ≡ x.state →
    HeldAnswers mid new (played (line_of w j k x) (Ok tt)) r → AnswersEvent old new w i n s o r
event_put old mid new w i j n k s o x r is held image number state h =
    subst (λ (y : Option Stepped). AnswersEvent old new w i n s y r) (sym is) (
      state,
      subst (λ (p : Given). HeldAnswers p new (played (line_of w i n x) (Ok tt)) r) held
          (subst (λ (m : ℕ). HeldAnswers mid new (played (line_of w i m x) (Ok tt)) r) number
          (subst (λ (l : Image). HeldAnswers mid new (played (line_of w l k x) (Ok tt)) r) image h)),
    )

-- the line is the same where the machine, the number and what was printed are
pub line_put : (old mid new : Given) (m k : AtWork) (n j : ℕ) (notes : Notes) (r : Result (Unit {0}) Stop) → mid ≡ old → k ≡ m → j ≡ n →
    HeldAnswers mid new (played (line_of Trace k.image j (stepped k.state notes)) (Ok tt)) r → HeldAnswers old new (played (line_of Trace m.image n (stepped m.state notes)) (Ok tt)) r
line_put old mid new m k n j notes r given machine number h =
    subst (λ (p : Given). HeldAnswers p new (played (line_of Trace m.image n (stepped m.state notes)) (Ok tt)) r) given
    (subst (λ (w : AtWork). HeldAnswers mid new (played (line_of Trace w.image n (stepped w.state notes)) (Ok tt)) r) machine
    (subst (λ (i : ℕ). HeldAnswers mid new (played (line_of Trace k.image i (stepped k.state notes)) (Ok tt)) r) number h))

-- what a step keeps holds of the machine's state after it, and after a trap
pub holds_after : (m new : AtWork) (o : Option Stepped) (n : Option Notes) (P : App → State → Type 0) → P m.image.app m.state → ((x : Stepped) → o ≡ Some x → P m.image.app x.state) →
    turned_by m o ≡ turned new n → P new.image.app new.state
holds_after m new None n P stays steps e = subst (λ (t : Turn). P t.machine.image.app t.machine.state) e stays
holds_after m new (Some x) n P stays steps e = subst (λ (t : Turn). P t.machine.image.app t.machine.state) e (steps x refl)
