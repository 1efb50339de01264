-- The cases of WaitEvent are its effects.
use Rattle.std.proofs.Common.{◌≡◌, ℕ, zero, suc, ◌^◌, ◌<◌, Bool, true, false, not, List, [], ◌∷◌, length, map, refl, sym, ap, subst, ◌∙◌, ◌⊎◌, inl, inr, arith, Some, None, IsTrue}
use Rattle.std.specs.{Prelude.{◌==◌, bit_and}, Int.{bit_at}, declared.option.Option.{Option}}
use Rattle.std.proofs.lemmas.{Bool.{cases_Bool, cases_lt, eqb-true}, Nat.Bits.{bit_at-lt, bit_at-zero, same_from_bits}}
use Rattle.osek_values.specs.{Numbers.{event_no}, declared.{mask.Mask.{Mask}, numbers.{TaskNo.{TaskNo}, BlockNo.{BlockNo}, SourceNo.{SourceNo}}, status.Status.{Status}}}
use Rattle.osek_values.specs.declared.status.Status.TheVariants as status
use Rattle.osek_values.specs.declared.status.Ask.TheVariants as ask
use Rattle.osek_values.specs.Bits.{has_bit, bits_of}
use Rattle.osek_standard.specs.declared.app.App.{App}
use Rattle.osek_standard.specs.declared.block.Kind.TheVariants as kind
use Rattle.flow_effects.specs.CallNames as call
use Rattle.osek_standard.specs.declared.{state.{State.{State}, Caller.{Caller, TheVariants.{Task, Routine}}}, task_state.TaskState.{TaskState}}
use Rattle.osek_standard.specs.declared.task_state.Activity.TheVariants as activity
use Rattle.osek_standard.specs.{Apps.{the_task, the_block, is_extended, no_task}, States.{task_state, with_task, caller, here}}
use Rattle.osek_standard.specs.{Services.{Answer, answer, refused, accepted, left, share, holds_some, wait_event}, Effects.{effect, noted, goes_on_unless_left, moved_to}}
use Rattle.osek_standard.proofs.Members.{Among, among_map, map_among}
use Rattle.abstract_state.specs.declared.value.ComponentNo.{ComponentNo}
use Rattle.abstract_state.specs.declared.value.{Val.TheVariants.{Waiting}, PartValue.TheVariants.{OfTask, OfEvent}}
use Rattle.abstract_state.specs.declared.value.Component.TheVariants as component
use Rattle.abstract_state.specs.{Components.{component_at, component_count, component_number, abstract_of, part_of}, Domains.{HasMasks}}
use Rattle.abstract_state.proofs.{Numbers.{component_here, number_known}, OrderLaws.{part_right, part_itself}}
use Rattle.flow_model.specs.declared.case.Asked.TheVariants as asked
use Rattle.flow_model.specs.declared.test.Condition.{Condition}
use Rattle.flow_model.specs.declared.test.Test.TheVariants as test
use Rattle.flow_model.specs.declared.change.Update.TheVariants as update
use Rattle.flow_model.specs.declared.runner.Runner.{Runner}
use Rattle.flow_model.specs.declared.runner.Runner.TheVariants as runner
use Rattle.flow_model.specs.{Tests.{passes, PassesAll}, Runners.{Stands, OwnsBlock, runner_point}, Effects.{HasEffect, AreCasesOf}, Cases.{goes_on}}
use Rattle.flow_model.proofs.{BitRange.{no_such_bit}, BitsOf.{bits_among, among_bits, bit_within, own_bit, no_bit}, ChangeLaws.{each_passes, passes_each}}
use Rattle.flow_model.proofs.{Standing.{next_owned, point_there, task_calls, routine_calls}, Instructions.{effect_there}, Moves.{activity_parts, moved_parts, went_on}}
use Rattle.flow_model.proofs.Calls.{has_effect, same_line}
use Rattle.flow_effects.specs.{Conditions.{of_task}, Moves.{refuses}, TaskEnds.{refused_holding}, Waiting.{of_event, awaited_events, goes_on_by, waits, extended_cases, wait_cases}}
use Rattle.flow_effects.proofs.Listed.{IsEffect, IsCase, AreListed, IsTaken, are_cases, more_listed}
use Rattle.flow_effects.proofs.{TaskValues.{counted, task_passes, passes_task, some_is, holds_none, none_holds}, TaskEndCases.{left_parts}, MoveCases.{one_case}}

-- a bit of both is shared
shares : (e m k : ℕ) → has_bit e k ≡ true → has_bit m k ≡ true → share e m ≡ true
shares e m k he hm = elim (cases_Bool (bit_and e m == 0)) [
  | inl nothing ↦
      (let none : has_bit (bit_and e m) k ≡ false = ap (λ (n : ℕ). has_bit n k) (eqb-true (bit_and e m) 0 nothing) ∙ no_bit k in
      let some : has_bit (bit_and e m) k ≡ true = own_bit e m k hm ∙ he in
      absurd (cc))
  | inr some ↦ ap (λ (b : Bool). not b) some
]

zero_of : (n : ℕ) → n < 2 → (n == 1) ≡ false → n ≡ 0
zero_of zero lt e = refl
zero_of (suc zero) lt e = absurd (cc)
zero_of (suc (suc n)) lt e = absurd (omega (arith, lt))

-- none of the own bits of the mask is set: nothing is shared
module _ (e m own : ℕ) (within : bit_and e own ≡ e) (few : own < 2 ^ 64) (none : (k : ℕ) → Among k (bits_of (bit_and m own)) → has_bit e k ≡ false) where
  no_common : (k : ℕ) → has_bit (bit_and e m) k ≡ false
  no_common k = elim (cases_Bool (has_bit (bit_and e m) k)) [
    | inl set ↦
        (let hm : has_bit m k ≡ true = bit_within e m k set in
        let he : has_bit e k ≡ true = sym (own_bit e m k hm) ∙ set in
        let ho : has_bit own k ≡ true = bit_within e own k (ap (λ (n : ℕ). has_bit n k) within ∙ he) in
        let below : k < 64 = elim (cases_lt k 64) [
          | inl lt ↦ lt
          | inr past ↦ (let unset : has_bit own k ≡ false = no_such_bit own k few past in absurd (cc))
        ] in
        let unset : has_bit e k ≡ false = none k (bits_among (bit_and m own) k below (own_bit m own k ho ∙ hm)) in
        absurd (cc))
    | inr unset ↦ unset
  ]

  no_share : share e m ≡ false
  no_share =
      let nothing : bit_and e m ≡ 0 = same_from_bits (bit_and e m) 0 (λ k. zero_of (bit_at (bit_and e m) k) (bit_at-lt (bit_and e m) k) (no_common k) ∙ sym (bit_at-zero k)) in
      ap (λ (n : ℕ). not (n == 0)) nothing

-- some number of a list passes, or none does
some_or_none : (p : ℕ → Bool) (xs : List ℕ) → ((k : ℕ) × Among k xs × (p k ≡ true)) ⊎ ((k : ℕ) → Among k xs → p k ≡ false)
some_or_none p [] = inr (λ k m. absurd m)
some_or_none p (x ∷ xs) = elim (cases_Bool (p x)) [
  | inl is ↦ inl (x, inl refl, is)
  | inr fails ↦ elim (some_or_none p xs) [
    | inl s ↦ inl (s.0, inr s.1, s.2)
    | inr n ↦ inr (λ k m. elim m [ inl e ↦ ap p e ∙ fails | inr more ↦ n k more ])
  ]
]

module _ (app : App) (t : TaskNo) (b : BlockNo) (owns : OwnsBlock app (runner.Task t) b) (m : Mask) (is : (the_block app b.0).kind ≡ kind.Call (call.Mask call.WaitEvent m)) where
  abbrev r : Runner
  r = runner.Task t

  abbrev next : BlockNo
  next = (the_block app b.0).next

  -- by the row of the call
  wait_effect : (s : State) (choice : Bool) (a : Answer) → Stands app s r b → wait_event app s (Task t) m.0 ≡ a → effect app s choice ≡ noted app (goes_on_unless_left next a)
  wait_effect s choice a h row =
      effect_there app s r b (kind.Call (call.Mask call.WaitEvent m)) choice h is
      ∙ ap (λ (c : Caller). noted app (goes_on_unless_left next (wait_event app s c m.0))) (task_calls app s t b h)
      ∙ ap (λ (y : Answer). noted app (goes_on_unless_left next y)) row

  -- the caller goes on, and this is noted
  noted_on : (s : State) (choice : Bool) (conditions : List Condition) (e : Status) → Stands app s r b → wait_event app s (Task t) m.0 ≡ answer s (Some e) None ask.No → PassesAll app conditions (abstract_of app s) →
      HasEffect app (goes_on r next conditions asked.No (Some e)) s choice
  noted_on s choice conditions e h row passing = has_effect app (goes_on r next conditions asked.No (Some e)) s choice (noted app (answer (moved_to s next) (Some e) None ask.No))
      (wait_effect s choice (answer s (Some e) None ask.No) h row) passing
      (point_there app (moved_to s next) r next (went_on app s r b next h (next_owned app s r b h))) (λ c lt. moved_parts app s next 0 r b h c lt) refl tt refl

  wait_basic : (s : State) → not (is_extended app t.0) ≡ true → wait_event app s (Task t) m.0 ≡ refused s status.Access
  unfolding wait_event
  wait_basic s e = rw e refl

  wait_refused : (s : State) → not (is_extended app t.0) ≡ false → holds_some s t.0 ≡ true → wait_event app s (Task t) m.0 ≡ refused s status.Resource
  unfolding wait_event
  wait_refused s e f = rw (e, f) refl

  wait_accepted : (s : State) → not (is_extended app t.0) ≡ false → holds_some s t.0 ≡ false → share (task_state s t.0).events.0 m.0 ≡ true → wait_event app s (Task t) m.0 ≡ accepted s ask.No
  unfolding wait_event
  wait_accepted s e f g = rw (e, f, g) refl

  abbrev waiting : State → State
  waiting s = left (with_task s t.0 (record (task_state s t.0) { activity = activity.Waiting (here s).block }))

  wait_waits : (s : State) → not (is_extended app t.0) ≡ false → holds_some s t.0 ≡ false → share (task_state s t.0).events.0 m.0 ≡ false → wait_event app s (Task t) m.0 ≡ accepted (waiting s) ask.Left
  unfolding wait_event
  wait_waits s e f g = rw (e, f, g) refl

  -- a basic task
  basic : not (is_extended app t.0) ≡ true → AreCasesOf app (runner_point r b) (refuses r next status.Access)
  basic e = one_case app r b owns (goes_on r next [] asked.No (Some status.Access)) refl (tt, λ s choice h passing. noted_on s choice [] status.Access h (wait_basic s e) passing)

  -- an event's component
  abbrev event : ℕ → ℕ
  event k = component_number app (component.Event t (event_no k))

  module _ (few : HasMasks app) (extended : not (is_extended app t.0) ≡ false) where
    abbrev events : List ℕ
    events = awaited_events app t m

    own_at : (k : ℕ) → Among k events → IsTrue (has_bit (the_task app t.0).own.0 k) × (k < 64)
    own_at k among = let bit = among_bits (bit_and m.0 (the_task app t.0).own.0) k among in (bit_within m.0 (the_task app t.0).own.0 k bit.0, bit.1)

    mask_at : (k : ℕ) → Among k events → has_bit m.0 k ≡ true
    mask_at k among = let bit = among_bits (bit_and m.0 (the_task app t.0).own.0) k among in sym (own_bit m.0 (the_task app t.0).own.0 k (own_at k among).0) ∙ bit.0

    event_value : (s : State) (k : ℕ) → Among k events → abstract_of app s (event k) ≡ OfEvent (has_bit (task_state s t.0).events.0 k)
    event_value s k among = ap (part_of s) (component_here app (component.Event t (event_no k)) (owns.0, (own_at k among).1, (own_at k among).0))

    event_counted : (k : ℕ) → Among k events → event k < component_count app
    event_counted k among = number_known app (component.Event t (event_no k)) (owns.0, (own_at k among).1, (own_at k among).0)

    event_is : (s : State) (k : ℕ) (set : Bool) → Among k events → IsTrue (passes (test.Is (OfEvent set)) (abstract_of app s (event k))) → has_bit (task_state s t.0).events.0 k ≡ set
    event_is s k set among h =
        let e : OfEvent (has_bit (task_state s t.0).events.0 k) ≡ OfEvent set = sym (event_value s k among) ∙ part_right (abstract_of app s (event k)) (OfEvent set) h in
        cc

    is_event : (s : State) (k : ℕ) (set : Bool) → Among k events → has_bit (task_state s t.0).events.0 k ≡ set → IsTrue (passes (test.Is (OfEvent set)) (abstract_of app s (event k)))
    is_event s k set among e = ap (passes (test.Is (OfEvent set))) (event_value s k among ∙ ap OfEvent e) ∙ part_itself (OfEvent set)

    abbrev nothing : Condition
    nothing = of_task t test.HoldsNothing

    free_of : (s : State) (more : List Condition) → PassesAll app (nothing ∷ more) (abstract_of app s) → holds_some s t.0 ≡ false
    free_of s more passing = holds_none app s t owns.0 (each_passes app (abstract_of app s) (nothing ∷ more) passing nothing (inl refl) (counted app s t owns.0))

    -- RESOURCE
    refused_is : IsEffect app r b (refused_holding t next)
    refused_is s choice h passing =
        let holds : holds_some s t.0 ≡ true = sym (some_is app s t owns.0) ∙ task_passes app s t owns.0 test.HoldsSome passing in
        noted_on s choice (of_task t test.HoldsSome ∷ []) status.Resource h (wait_refused s extended holds) passing

    -- an event is set
    goes_is : (k : ℕ) → Among k events → IsEffect app r b (goes_on_by app t next k)
    goes_is k among s choice h passing =
        let conditions : List Condition = nothing ∷ of_event app t true k ∷ [] in
        let set : has_bit (task_state s t.0).events.0 k ≡ true
        = event_is s k true among (each_passes app (abstract_of app s) (nothing ∷ of_event app t true k ∷ []) passing (of_event app t true k) (inr (inl refl)) (event_counted k among)) in
        noted_on s choice (nothing ∷ of_event app t true k ∷ []) status.Ok h
        (wait_accepted s extended (free_of s (of_event app t true k ∷ []) passing) (shares (task_state s t.0).events.0 m.0 k set (mask_at k among))) passing

    goes_listed : AreListed app r b (map (goes_on_by app t next) events)
    goes_listed y n = let back = map_among (goes_on_by app t next) y events n in subst (IsCase app r b) (sym back.2) (tt, goes_is back.0 back.1)

    -- none is
    waits_is : IsEffect app r b (waits app t b m)
    waits_is s choice h passing =
        let unset : (k : ℕ) → Among k events → has_bit (task_state s t.0).events.0 k ≡ false
        = λ k among. event_is s k false among (each_passes app (abstract_of app s) (nothing ∷ map (of_event app t false) events) passing (of_event app t false k) (inr (among_map (of_event app t false) k events among)) (event_counted k among)) in
        let none : share (task_state s t.0).events.0 m.0 ≡ false = no_share (task_state s t.0).events.0 m.0 (the_task app t.0).own.0 (h.well.tasks t.0 owns.0).events (few t.0 no_task owns.0) unset in
        let there : t.0 < length s.tasks = let long = h.well.tasks_len in let lt = owns.0 in omega (arith, lt, long) in
        let x : TaskState = record (task_state s t.0) { activity = activity.Waiting (here s).block } in
        has_effect app (waits app t b m) s choice (noted app (accepted (waiting s) ask.Left))
        (wait_effect s choice (accepted (waiting s) ask.Left) h (wait_waits s extended (free_of s (map (of_event app t false) events) passing) none)) passing refl
        (λ c lt. left_parts (with_task s t.0 (record (task_state s t.0) { activity = activity.Waiting (here s).block })) (component_at app c)
        ∙ activity_parts app s t.0 (record (task_state s t.0) { activity = activity.Waiting (here s).block }) there refl (update.Set (OfTask (Waiting b))) owns.0 (ap (λ (d : BlockNo). OfTask (Waiting d)) (sym h.block)) c lt)
        (refl, refl) (same_line asked.Left s (waiting s) refl) refl

    extended_taken : (s : State) → Stands app s r b → IsTaken app r b s (extended_cases app t b next m)
    extended_taken s h = elim (cases_Bool (holds_some s t.0)) [
      | inl some ↦ record { case = refused_holding t next; among = inl refl; passes = passes_task app s t owns.0 test.HoldsSome (some_is app s t owns.0 ∙ some) }
      | inr free ↦ elim (some_or_none (has_bit (task_state s t.0).events.0) events) [
        | inl set ↦ record {
          case = goes_on_by app t next set.0;
          among = inr (inr (among_map (goes_on_by app t next) set.0 events set.1));
          passes = passes_each app (abstract_of app s) (nothing ∷ of_event app t true set.0 ∷ []) (λ z n. elim n [
            | inl e ↦ subst (λ (y : Condition). IsTrue (passes y.test (abstract_of app s y.component.0))) (sym e) (none_holds app s t owns.0 free)
            | inr (inl e) ↦ subst (λ (y : Condition). IsTrue (passes y.test (abstract_of app s y.component.0))) (sym e) (is_event s set.0 true set.1 set.2)
            | inr (inr more) ↦ absurd more
          ]);
        }
        | inr unset ↦ record {
          case = waits app t b m;
          among = inr (inl refl);
          passes = passes_each app (abstract_of app s) (nothing ∷ map (of_event app t false) events) (λ z n. elim n [
            | inl e ↦ subst (λ (y : Condition). IsTrue (passes y.test (abstract_of app s y.component.0))) (sym e) (none_holds app s t owns.0 free)
            | inr more ↦
                (let back = map_among (of_event app t false) z events more in
                subst (λ (y : Condition). IsTrue (passes y.test (abstract_of app s y.component.0))) (sym back.2) (is_event s back.0 false back.1 (unset back.0 back.1)))
          ]);
        }
      ]
    ]

    all_extended : AreCasesOf app (runner_point r b) (extended_cases app t b next m)
    all_extended = are_cases app r b owns (extended_cases app t b next m)
        (more_listed app r b (refused_holding t next) (waits app t b m ∷ map (goes_on_by app t next) events) (tt, refused_is)
        (more_listed app r b (waits app t b m) (map (goes_on_by app t next) events) (tt, waits_is) goes_listed))
        (λ s h. extended_taken s h)

  pub wait_task_cases : HasMasks app → AreCasesOf app (runner_point r b) (wait_cases app r b next m)
  wait_task_cases few = elim (cases_Bool (is_extended app t.0)) [
    | inl e ↦ (rw e (all_extended few (ap (λ (a : Bool). not a) e)))
    | inr e ↦ (rw e (basic (ap (λ (a : Bool). not a) e)))
  ]

-- a routine's call is refused
module _ (app : App) (b : BlockNo) (m : Mask) (is : (the_block app b.0).kind ≡ kind.Call (call.Mask call.WaitEvent m)) where
  module _ (k : SourceNo) (z : ComponentNo) (over : Option TaskNo) (owns : OwnsBlock app (runner.Routine k z over) b) where
    abbrev onto : BlockNo
    onto = (the_block app b.0).next

    at_interrupt : (s : State) (c : Caller) → c ≡ Routine k → wait_event app s c m.0 ≡ refused s status.CallLevel
    unfolding wait_event
    at_interrupt s c e = ap (λ (d : Caller). wait_event app s d m.0) e

    wait_routine_cases : AreCasesOf app (runner_point (runner.Routine k z over) b) (refuses (runner.Routine k z over) onto status.CallLevel)
    wait_routine_cases = one_case app (runner.Routine k z over) b owns (goes_on (runner.Routine k z over) onto [] asked.No (Some status.CallLevel)) refl (
      tt,
      λ s choice h passing.
          has_effect app (goes_on (runner.Routine k z over) onto [] asked.No (Some status.CallLevel)) s choice (noted app (answer (moved_to s onto) (Some status.CallLevel) None ask.No))
          (effect_there app s (runner.Routine k z over) b (kind.Call (call.Mask call.WaitEvent m)) choice h is
          ∙ ap (λ (y : Answer). noted app (goes_on_unless_left onto y)) (at_interrupt s (caller s.processor) (routine_calls app s k z over b h)))
          passing (point_there app (moved_to s onto) (runner.Routine k z over) onto (went_on app s (runner.Routine k z over) b onto h (next_owned app s (runner.Routine k z over) b h)))
          (λ c lt. moved_parts app s onto 0 (runner.Routine k z over) b h c lt) refl tt refl,
    )

  pub all_waits : (r : Runner) → HasMasks app → OwnsBlock app r b → AreCasesOf app (runner_point r b) (wait_cases app r b (the_block app b.0).next m)
  all_waits (runner.Task t) few owns = wait_task_cases app t b owns m is few
  all_waits (runner.Routine k z over) few owns = wait_routine_cases k z over owns
