-- What each instruction makes of the activations of a task that are alive.
use Rattle.std.proofs.Common.{◌≡◌, ◌≢◌, ℕ, ◌+◌, ◌<◌, Bool, true, false, List, length, refl, sym, subst, ap, ◌∙◌, arith, nat_eq, Some, None, get_or-set_same, get_or-set_other}
use Rattle.std.proofs.lemmas.Bool.{Decides.{nat_tests}, eqb-false, eqb-true, false≢true}
use Rattle.std.specs.{declared.option.Option.{Option}}
use Rattle.osek_values.specs.declared.{numbers.{BlockNo.{BlockNo}, ResNo.{ResNo}, SourceNo.{SourceNo}, TaskNo.{TaskNo}}}
use Rattle.osek_standard.specs.declared.{app.App.{App}, block.Kind.{Kind}, state.{State.{State}, Processor.{Processor}}}
use Rattle.osek_standard.specs.declared.task_state.{TaskState.{TaskState}, Place.{Place}, Activity.{Activity, TheVariants.{Suspended, Live, Waiting}}}
use Rattle.osek_standard.specs.{Apps.{is_extended, no_task, the_task}, TaskStates.{is_live_activity, suspended}, States.{task_state, with_source, with_task}, Internal.{inside_as}}
use Rattle.osek_standard.specs.Services.{activated, activated_by, count_up, ended, ended_by, is_full, is_full_by, released_from, waits_in, with_stack}
use Rattle.osek_standard.specs.{Effects.{halted_by, moved_by, returned_to, standing_at}, Well.{IsActivityOf, Well}}
use Rattle.osek_standard.specs.declared.state.Processor.TheVariants as processor
use Rattle.osek_standard.specs.declared.state.Source.TheVariants as source
use Rattle.osek_standard.proofs.{Callers.{task_level_of}}
use Rattle.kernel_guarantees.specs.{Activations.{alive, alive_in, one_if}, Instructions.{is_end, may_activate}}
use Rattle.kernel_guarantees.proofs.{Deeds.{AreDeeds}, Lookups.{put_task}, Serving.{either_by}}

-- a task with as many
pub as_many : (m : State) (u : ℕ) (y : TaskState) (t : ℕ) → alive_in y.activity ≡ alive m u → alive (with_task m u y) t ≡ alive m t
as_many m u y t e = put_task m u y (λ v z. alive_in z.activity ≡ alive m v) e (λ v. refl) t

module _ (m : State) (u : ℕ) (y : TaskState) (known : u < length m.tasks) (t : ℕ) where
  other_task : u ≢ t → alive (with_task m u y) t ≡ alive m t
  other_task other = ap (λ (z : TaskState). alive_in z.activity) (get_or-set_other m.tasks u t y suspended (λ same. other (sym same)))

  that_one : u ≡ t → alive (with_task m u y) t ≡ alive_in y.activity
  that_one same = subst (λ (v : ℕ). alive (with_task m u y) v ≡ alive_in y.activity) same (ap (λ (z : TaskState). alive_in z.activity) (get_or-set_same m.tasks u y suspended known))

  -- one more, and one less
  one_more : alive_in y.activity ≡ alive m u + 1 → alive (with_task m u y) t ≡ alive m t + one_if (nat_eq u t)
  one_more more = by (nat_eq u t) refl where
    by : (b : Bool) → nat_eq u t ≡ b → alive (with_task m u y) t ≡ alive m t + one_if b
    by true e = let same = eqb-true u t e in omega (arith, that_one same, more, ap (λ (v : ℕ). alive m v) same)
    by false e = omega (arith, other_task (eqb-false u t e))

  one_less : alive_in y.activity + 1 ≡ alive m u → alive (with_task m u y) t + one_if (nat_eq u t) ≡ alive m t
  one_less less = by (nat_eq u t) refl where
    by : (b : Bool) → nat_eq u t ≡ b → alive (with_task m u y) t + one_if b ≡ alive m t
    by true e = let same = eqb-true u t e in omega (arith, that_one same, less, ap (λ (v : ℕ). alive m v) same)
    by false e = omega (arith, other_task (eqb-false u t e))

stack_same : (a : Activity) (h : List ResNo) → alive_in (with_stack a h) ≡ alive_in a
stack_same Suspended h = refl
stack_same (Live x) h = refl
stack_same (Waiting b) h = refl

pub inside_same : (a : Activity) (b : Bool) → alive_in (inside_as b a) ≡ alive_in a
inside_same Suspended b = refl
inside_same (Live x) b = refl
inside_same (Waiting c) b = refl

stands_same : (a : Activity) (p : Place) → alive_in (standing_at a p) ≡ alive_in a
stands_same Suspended p = refl
stands_same (Live x) p = refl
stands_same (Waiting b) p = refl

pub moved_same : (m : State) (to : Place) (p : Processor) (t : ℕ) → alive (moved_by m p to) t ≡ alive m t
moved_same m to processor.Halted t = refl
moved_same m to processor.Idle t = refl
moved_same m to (processor.Running c) t = as_many m c.0 _ t (stands_same (task_state m c.0).activity to)
moved_same m to (processor.Interrupted k over) t = refl

module _ (app : App) where
  pub released_same : (a : Activity) (m : ℕ) → waits_in app a m ≡ true → alive_in (released_from app a) ≡ alive_in a
  released_same Suspended m e = absurd (false≢true e)
  released_same (Live x) m e = absurd (false≢true e)
  released_same (Waiting b) m e = refl

  -- an extended task has one at most
  once : (t : ℕ) (a : Activity) → t < length app.tasks → IsActivityOf app t a → is_extended app t ≡ true → is_live_activity a ≡ true → alive_in a ≡ 1
  once t Suspended known h e live = absurd (false≢true live)
  once t (Live x) known h e live =
      let some : 0 < (the_task app t).own.0 = grind (arith, nat_tests) in
      omega (arith, h.further, app.valid.extended_once t no_task known some)
  once t (Waiting b) known h e live = refl

  gained : (t : ℕ) (x : TaskState) (a : Activity) → is_full_by (the_task app t).activation a ≡ false → alive_in (activated_by app t x a).activity ≡ alive_in a + 1
  gained t x Suspended room = refl
  gained t x (Live y) room = refl
  gained t x (Waiting b) room = absurd (false≢true (sym room))

  lost : (t : ℕ) (a : Activity) → is_live_activity a ≡ true → alive_in (ended_by app t a) + 1 ≡ alive_in a
  lost t Suspended live = absurd (false≢true live)
  lost t (Live y) live = either_by (λ (a : Activity). alive_in a + 1 ≡ y.further + 1) (nat_eq y.further 0) _ _
      (λ e. let none = eqb-true y.further 0 e in omega (arith, none)) (λ e. let some = eqb-false y.further 0 e in omega (arith, some))
  lost t (Waiting b) live = absurd (false≢true live)

  pub activation_counts : (m : State) (u t : ℕ) → length m.tasks ≡ length app.tasks → u < length app.tasks → is_full app m u ≡ false → alive (activated app m u) t ≡ alive m t + one_if (nat_eq u t)
  activation_counts m u t same known room =
      one_more m u (activated_by app u (task_state m u) (task_state m u).activity) (omega (arith, known, same)) t (gained u (task_state m u) (task_state m u).activity room)

  pub end_counts : (m : State) (c : TaskNo) (t : ℕ) → Well app m → m.processor ≡ processor.Running c → alive (ended app m c.0) t + one_if (nat_eq c.0 t) ≡ alive m t
  end_counts m c t w e =
      let h = task_level_of app m c w e in
      one_less m c.0 _ (omega (arith, h.running.0, w.tasks_len)) t (lost c.0 (task_state m c.0).activity h.running.1)

  -- an instruction that neither activates nor ends a task
  module _ (s : State) (t : ℕ) (k : Kind) (calm : (u : ℕ) → may_activate app k u ≡ false) (stays : is_end k ≡ false) where
    abbrev pub Same : State → Type 0
    Same m = alive m t ≡ alive s t

    counting : (m : State) (c : ℕ) → Same m → Same (count_up app m c)
    unfolding count_up
    counting m c q = q

    put : (m : State) (u : ℕ) (y : TaskState) → alive_in y.activity ≡ alive m u → Same m → Same (with_task m u y)
    put m u y e q = as_many m u y t e ∙ q

    returning : (m : State) (l : SourceNo) (over : Option TaskNo) (o : Option SourceNo) → Same m → Same (returned_to app (with_source m l.0 source.Out) over o).state
    returning m l None None q = q
    returning m l (Some c) None q = q
    returning m l over (Some j) q = q

    halting : (m : State) (p : Processor) → Same m → Same (halted_by m p)
    halting m processor.Halted q = q
    halting m processor.Idle q = q
    halting m (processor.Running c) q = q
    halting m (processor.Interrupted l None) q = q
    halting m (processor.Interrupted l (Some c)) q = q

    waiting : (m : State) (c : TaskNo) (b : BlockNo) → Well app m → m.processor ≡ processor.Running c → is_extended app c.0 ≡ true → Same m → Same (with_task m c.0 (record (task_state m c.0) { activity = Waiting b }))
    waiting m c b w e ext q =
        let h = task_level_of app m c w e in
        put m c.0 (record (task_state m c.0) { activity = Waiting b }) (sym (once c.0 (task_state m c.0).activity h.running.0 (w.tasks c.0 h.running.0).activity ext h.running.1)) q

    pub calm_deeds : AreDeeds app k Same (λ r a. Same r)
    calm_deeds = record {
      counts = λ m c q up. counting m c q;
      arms = λ m a x q sets. q;
      rests = λ m w q. q;
      takes = λ m c r w q e bare low. put m c.0 _ (stack_same (task_state m c.0).activity _) q;
      gives = λ m c n w q e goes. put m c.0 _ (stack_same (task_state m c.0).activity _) q;
      routine_takes = λ m l r w q e bare low. q;
      routine_gives = λ m l n w q e. q;
      activates = λ m u w q known room goes. absurd (false≢true (sym (calm u) ∙ goes));
      wakes = λ m u e w q known ext waits goes. put m u _ (released_same (task_state m u).activity _ waits) q;
      sets = λ m u e w q known waits sent. put m u _ refl q;
      clears = λ m c e w q r goes. put m c.0 _ refl q;
      ends = λ m c w q e goes. absurd (false≢true (sym stays ∙ goes));
      chains = λ m c u w q e known room goes chained. absurd (false≢true (sym stays ∙ goes));
      waits = λ m c w q e ext none goes. waiting m c _ w e ext q;
      lets_out = λ m c w q e none goes. put m c.0 _ (inside_same (task_state m c.0).activity false) q;
      returns = λ m l over o w q e f goes. returning m l over o q;
      halts = λ m w q off. halting m m.processor q;
    }
