-- What others make of a task's events.
use Rattle.std.proofs.Common.{◌≡◌, ℕ, true, false, not, nat_eq, refl, sym, ap, ◌∙◌, inl, inr, arith}
use Rattle.std.proofs.lemmas.Bool.{cases_Bool, false≢true}
use Rattle.std.proofs.lemmas.Nat.Bits.{bit_at-zero, bit_at_and, bit_at_or, same_from_bits}
use Rattle.std.specs.{Prelude.{bit_and, bit_or}, Int.{bit_at, Bits.{and_self}}}
use Rattle.osek_values.specs.declared.{event.Event.{Event}, numbers.{BlockNo.{BlockNo}, TaskNo.{TaskNo}}}
use Rattle.osek_standard.specs.declared.{app.App.{App}, state.State.{State}, task_state.{TaskState.{TaskState}, Activity.{Activity, TheVariants.{Suspended, Live, Waiting}}}}
use Rattle.osek_standard.specs.{Apps.{awaited, the_block}, TaskStates.{is_live_activity, is_suspended_activity}, States.{task_state}}
use Rattle.osek_standard.specs.{Services.{activated_by, share, waits_in}, Kernel.{step}, Well.{Well}}
use Rattle.osek_standard.specs.declared.state.Processor.TheVariants as processor
use Rattle.kernel_guarantees.proofs.{Awaiting.{none_shared}, EventSends.{inside_live, not_live}, Others.{IsByOthers, step_by_others}}

-- events that are set stay, and who is released has one that it waited for
pub record Follows (app : App) (t : ℕ) (x y : TaskState) : Type 0 where
  pub keeps : is_suspended_activity x.activity ≡ false → bit_and x.events.0 y.events.0 ≡ x.events.0
  pub released : (b : BlockNo) → x.activity ≡ Waiting b → is_live_activity y.activity ≡ true → share y.events.0 (awaited (the_block app b.0).kind) ≡ true

set_stay : (a m : ℕ) → bit_and a (bit_or a m) ≡ a
set_stay a m = same_from_bits _ _ (λ i. omega (arith, bit_at_and a (bit_or a m) i, bit_at_or a m i))

still_shared : (a m n : ℕ) → share n m ≡ true → share (bit_or a m) n ≡ true
still_shared a m n e = elim (cases_Bool (share (bit_or a m) n)) [
  | inl f ↦ f
  | inr f ↦ absurd (let zero = none_shared (bit_or a m) n f in
      let none : bit_and n m ≡ 0
      = same_from_bits _ _ (λ i. omega (arith, bit_at_and n m i, bit_at_and (bit_or a m) n i, bit_at_or a m i, ap (λ (k : ℕ). bit_at k i) zero, bit_at-zero i)) in
      false≢true (sym (ap (λ (k : ℕ). not (nat_eq k 0)) none) ∙ e))
]

module _ (app : App) where
  activated_follows : (t : ℕ) (x : TaskState) (a : Activity) → x.activity ≡ a → Follows app t x (activated_by app t x a)
  activated_follows t x Suspended e = record { keeps = λ f. absurd (false≢true (sym f ∙ ap is_suspended_activity e)); released = λ b f. absurd (cc (e, f)) }
  activated_follows t x (Live y) e = record { keeps = λ f. and_self x.events.0; released = λ b f. absurd (cc (e, f)) }
  activated_follows t x (Waiting b) e = record { keeps = λ f. and_self x.events.0; released = λ d f live. absurd (not_live d x.activity f live) }

  events_by_others : IsByOthers app (Follows app)
  events_by_others = record {
    stays = λ t x. record { keeps = λ f. and_self x.events.0; released = λ b f live. absurd (not_live b x.activity f live) };
    activates = λ t x. activated_follows t x x.activity refl;
    wakes = λ t m x waits. record {
      keeps = λ f. set_stay x.events.0 m;
      released = λ b f live. still_shared x.events.0 m (awaited (the_block app b.0).kind) (sym (ap (λ (a : Activity). waits_in app a m) f) ∙ waits);
    };
    sets = λ t m x. record { keeps = λ f. set_stay x.events.0 m; released = λ b f live. absurd (not_live b x.activity f live) };
    insides = λ t b x y h. record { keeps = h.keeps; released = λ d f live. h.released d f (inside_live b y.activity live) };
  }

  pub step_follows : (s : State) (u : TaskNo) → (s.processor ≡ processor.Running u → ⊥) → (e : Event) → Well app s → Follows app u.0 (task_state s u.0) (task_state (step app s e).state u.0)
  step_follows s u beside e w = step_by_others app (Follows app) events_by_others s u beside e w
