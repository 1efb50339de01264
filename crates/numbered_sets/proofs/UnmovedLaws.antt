-- Tests that pass alike wherever a task or a routine stands.
use Rattle.std.proofs.{Common.{◌≡◌, ◌<◌, ℕ, Bool, true, List, length, get_or, refl, sym, ap, ◌∙◌}, lemmas.List.{get_or_default}}
use Rattle.osek_values.specs.declared.numbers.{BlockNo.{BlockNo}, ResNo.{ResNo}}
use Rattle.osek_standard.specs.{TaskStates.{holds}, Services.{is_on_top}}
use Rattle.abstract_state.specs.declared.value.{LiveVal.{LiveVal}, Val.{Val, TheVariants.{Suspended, Live, Waiting}}, PartValue.{PartValue, TheVariants.{OfTask, OfEvent, OfAlarm, OfSource}}}
use Rattle.abstract_state.specs.declared.value.SourceVal.TheVariants as source_val
use Rattle.abstract_state.specs.Components.{live_val}
use Rattle.flow_model.specs.{declared.{test.Test.{Test}, change.Update.TheVariants.{Block}}, Tests.{passes, updated, of_task, of_stack, is_none_of, holds_nothing}}
use Rattle.flow_model.specs.declared.test.Test.TheVariants as test
use Rattle.flow_model.specs.Values.{is_suspended_value, further_of, has_room, is_full_value, waits_at}
use Rattle.std.specs.Prelude.{not, ◌==◌}
use Rattle.numbered_sets.specs.{Passing.{reads_no_block}, Pools.{IsNumberOf, IsBeside}}

by_load : (f : Val → Bool) (b : BlockNo) → ((x : LiveVal) → f (Live (live_val b x.further x.inside x.held)) ≡ f (Live x)) → (v : PartValue) → of_task f (updated (Block b) v) ≡ of_task f v
by_load f b h (OfTask Suspended) = refl
by_load f b h (OfTask (Live x)) = h x
by_load f b h (OfTask (Waiting c)) = refl
by_load f b h (OfEvent e) = refl
by_load f b h (OfAlarm e) = refl
by_load f b h (OfSource x) = refl

by_stack : (f : List ResNo → Bool) (b : BlockNo) (v : PartValue) → of_stack f (updated (Block b) v) ≡ of_stack f v
by_stack f b (OfTask Suspended) = refl
by_stack f b (OfTask (Live x)) = refl
by_stack f b (OfTask (Waiting c)) = refl
by_stack f b (OfEvent e) = refl
by_stack f b (OfAlarm e) = refl
by_stack f b (OfSource source_val.Out) = refl
by_stack f b (OfSource (source_val.In x)) = refl

unmoved : (t : Test) (b : BlockNo) (v : PartValue) → reads_no_block t ≡ true → passes t (updated (Block b) v) ≡ passes t v
unmoved (test.Is w) b v e = absurd (cc)
unmoved (test.IsNot w) b v e = absurd (cc)
unmoved test.Suspended b v e = by_load is_suspended_value b (λ x. refl) v
unmoved test.NotSuspended b v e = by_load (λ x. not (is_suspended_value x)) b (λ x. refl) v
unmoved (test.Holds r) b v e = by_stack (λ h. holds h r.0) b v
unmoved (test.HoldsNoneOf m) b v e = by_stack (is_none_of m.0) b v
unmoved test.HoldsSome b v e = by_load (λ x. not (holds_nothing x)) b (λ x. refl) v
unmoved test.HoldsNothing b v e = by_load holds_nothing b (λ x. refl) v
unmoved (test.OnTop r) b v e = by_stack (is_on_top r.0) b v
unmoved (test.NotOnTop r) b v e = by_stack (λ h. not (is_on_top r.0 h)) b v
unmoved (test.Full n) b v e = by_load (is_full_value n) b (λ x. refl) v
unmoved (test.Room n) b v e = by_load (has_room n) b (λ x. refl) v
unmoved test.NoFurther b v e = by_load (λ x. further_of x == 0) b (λ x. refl) v
unmoved test.SomeFurther b v e = by_load (λ x. not (further_of x == 0)) b (λ x. refl) v
unmoved (test.WaitsAt r) b v e = by_load (waits_at r) b (λ x. refl) v
unmoved (test.WaitsNotAt r) b v e = by_load (λ x. not (waits_at r x)) b (λ x. refl) v

-- a value tells it of one at another block
pub passes_beside : (vs : List PartValue) (t : Test) (p : Bool) (m n : ℕ) (w : PartValue) → m < length vs → reads_no_block t ≡ true → IsBeside vs m n → ((v : PartValue) → IsNumberOf vs v m → p ≡ passes t v) → IsNumberOf vs w n → p ≡ passes t w
passes_beside vs t p m n w known reads beside told number =
    let v = get_or vs m w in
    let its : IsNumberOf vs v m = record { known = known; is = λ d. get_or_default vs m d w known } in
    let moved = beside v its in
    told v its ∙ sym (unmoved t moved.0 v reads) ∙ ap (passes t) (sym (moved.1.is w) ∙ number.is w)
