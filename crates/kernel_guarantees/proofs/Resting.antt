-- What a service makes of another task leaves it as high as it is, Live where it is Live, and not begun where it hasn't.
use Rattle.std.proofs.Common.{◌≡◌, ℕ, true, false, refl, sym, ap, ◌∙◌}
use Rattle.std.proofs.lemmas.Bool.{false≢true}
use Rattle.osek_standard.specs.declared.{app.App.{App}, task_state.{TaskState.{TaskState}, Activity.{Activity, TheVariants.{Suspended, Live, Waiting}}}}
use Rattle.osek_standard.specs.{Apps.{is_extended}, TaskStates.{is_live, is_live_activity}, Internal.{occupied}, Priority.{base_priority, highest}, Services.{activated_by, released_from, waits_in}}
use Rattle.kernel_guarantees.specs.Underway.{is_begun}
use Rattle.kernel_guarantees.proofs.{Others.{IsByServices}, StackedDeeds.{activated_fresh, of_extended}}

pub record IsResting (app : App) (t : ℕ) (x y : TaskState) : Type 0 where
  pub live : is_live x ≡ true → is_live y ≡ true
  pub begun : is_begun app t x ≡ false → is_begun app t y ≡ false
  pub priority : highest app (base_priority app t) (occupied app t y) ≡ highest app (base_priority app t) (occupied app t x)

module _ (app : App) where
  resting : (t : ℕ) (x : TaskState) → IsResting app t x x
  resting t x = record { live = λ h. h; begun = λ h. h; priority = refl }

  activated : (t : ℕ) (x : TaskState) (a : Activity) → x.activity ≡ a → IsResting app t x (activated_by app t x a)
  activated t x Suspended e = record {
    live = λ h. absurd (false≢true (sym (ap is_live_activity e) ∙ h));
    begun = λ _. activated_fresh app t;
    priority = sym (ap (λ (a : Activity). highest app (base_priority app t) (occupied app t (record x { activity = a }))) e);
  }
  activated t x (Live y) e = record {
    live = λ _. refl;
    begun = λ h. ap (λ (a : Activity). is_begun app t (record x { activity = a })) (sym e) ∙ h;
    priority = sym (ap (λ (a : Activity). highest app (base_priority app t) (occupied app t (record x { activity = a }))) e);
  }
  activated t x (Waiting b) e = resting t x

  released : (t m : ℕ) (x y : TaskState) (a : Activity) → x.activity ≡ a → is_extended app t ≡ true → waits_in app a m ≡ true → y.activity ≡ released_from app a → IsResting app t x y
  released t m x y Suspended e ext h is = absurd (false≢true h)
  released t m x y (Live z) e ext h is = absurd (false≢true h)
  released t m x y (Waiting b) e ext h is = record {
    live = λ f. absurd (false≢true (sym (ap is_live_activity e) ∙ f));
    begun = λ _. ap (λ (a : Activity). is_begun app t (record y { activity = a })) is ∙ of_extended (is_extended app t) _ ext;
    priority = ap (λ (a : Activity). highest app (base_priority app t) (occupied app t (record y { activity = a }))) is
        ∙ sym (ap (λ (a : Activity). highest app (base_priority app t) (occupied app t (record x { activity = a }))) e);
  }

  pub rests_by_services : IsByServices app (IsResting app)
  rests_by_services = record {
    stays = λ t x. resting t x;
    activates = λ t x. activated t x x.activity refl;
    wakes = λ t m x ext waits. released t m x _ x.activity refl ext waits refl;
    sets = λ t m x. record { live = λ h. h; begun = λ h. h; priority = refl };
  }
