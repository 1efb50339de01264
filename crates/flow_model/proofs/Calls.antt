-- The calls after which their caller goes on to its next block: what their answer says of the effect.
use Rattle.std.proofs.Common.{◌≡◌, ℕ, ◌<◌, Bool, true, false, List, None, refl, sym, ap, subst, ◌∙◌}
use Rattle.std.specs.Prelude.{⊤, if◌then◌else◌}
use Rattle.osek_values.specs.declared.status.{Status.{Status}, Ask.{Ask}}
use Rattle.osek_values.specs.declared.status.Ask.TheVariants as ask
use Rattle.osek_values.specs.declared.notes.{Notes.{Notes}, Value.{Value}}
use Rattle.std.specs.declared.option.Option.{Option}
use Rattle.osek_values.specs.declared.numbers.{TaskNo.{TaskNo}, BlockNo.{BlockNo}}
use Rattle.oil_system.specs.declared.objects.Schedule.{Schedule, TheVariants.{Non, Full}}
use Rattle.osek_standard.specs.declared.{app.App.{App}, block.{Block.{Block}, Kind.{Kind}}, state.{State.{State}, Processor.{Processor}, Caller.TheVariants.{Task}}}
use Rattle.osek_standard.specs.declared.state.Processor.TheVariants as processor
use Rattle.osek_standard.specs.{declared.task_state.Place.{Place}, Apps.{the_task, the_block}, States.{caller, here}, Services.{Answer, answer}}
use Rattle.osek_standard.specs.Effects.{Effect, effect, effect_at, place_at, effected, noted, asks_as, asked_by, asked_under, is_schedule, called, moved, moved_by, moved_to}
use Rattle.osek_standard.proofs.BoolLaws.{either_way}
use Rattle.abstract_state.specs.Components.{component_count, abstract_of}
use Rattle.flow_model.specs.declared.case.{Asked.{Asked}, EffectCase.{EffectCase}}
use Rattle.flow_model.specs.declared.case.Asked.TheVariants as asked
use Rattle.flow_model.specs.declared.runner.Runner.{Runner}
use Rattle.flow_model.specs.declared.runner.Runner.TheVariants as runner
use Rattle.flow_model.specs.{Runners.{Stands, Runs}, Tests.{PassesAll, value_after}, Effects.{Asks, HasEffect, IsLineAfter, LeavesLine, StaysAt}, declared.test.Condition.{Condition}}
use Rattle.flow_model.specs.Cases.{asked_when, asked_for, asked_after, asked_under as asked_of_task, goes_on}
use Rattle.flow_model.proofs.{Standing.{next_owned, point_there}, Instructions.{effect_there}, LinesAfter.{line_stays}, Moves.{moved_parts, went_on}}

-- Its caller goes on to its next block, and then the row applies: of each such kind this holds by computation.
abbrev pub IsCall : App → Kind → Type 0
IsCall app k = (s : State) (choice : Bool) (p : Place) (b : Block) → effect_at app s choice p b k ≡ noted app (asks_as app (caller s.processor) k (called app (moved_to s b.next) (caller s.processor) k))

-- an effect that leaves a state and asks this
abbrev asking : State → Notes → Ask → Effect
asking s n a = effected s n a

-- who has the processor where this is asked
abbrev pub HasIt : TaskNo → Ask → State → Type 0
HasIt t ask.No s = ⊤
HasIt t ask.Maybe s = s.processor ≡ processor.Running t
HasIt t ask.Left s = s.processor ≡ processor.Idle
HasIt t ask.Free s = s.processor ≡ processor.Idle

asks_by : (t : TaskNo) (s : State) (n : Notes) (a : Ask) → HasIt t a s → Asks (asked_when t a) (asking s n a)
asks_by t s n ask.No h = refl
asks_by t s n ask.Maybe h = (refl, h)
asks_by t s n ask.Left h = (refl, h)
asks_by t s n ask.Free h = (refl, h)

-- a caller that may be preempted keeps the processor until then, and one that left has it no more
abbrev pub KeepsOrLeaves : Ask → State → State → Type 0
KeepsOrLeaves ask.No before after = ⊤
KeepsOrLeaves ask.Maybe before after = after.processor ≡ before.processor
KeepsOrLeaves ask.Left before after = after.processor ≡ processor.Idle
KeepsOrLeaves ask.Free before after = after.processor ≡ processor.Idle

pub kept_if : (may : Bool) (before after : State) → after.processor ≡ before.processor → KeepsOrLeaves (if may then ask.Maybe else ask.No) before after
kept_if true before after e = e
kept_if false before after e = tt

has_under : (t : TaskNo) (after : State) (x : Schedule) (k : Kind) → after.processor ≡ processor.Running t → HasIt t (asked_under x k) after
has_under t after Full k e = e
has_under t after Non k e = either_way (λ (a : Ask). HasIt t a after) (is_schedule k) ask.Maybe ask.No e tt

has_as_asked : (app : App) (t : TaskNo) (before after : State) (k : Kind) (a : Ask) → before.processor ≡ processor.Running t → KeepsOrLeaves a before after → HasIt t (asked_by app (Task t) k a) after
has_as_asked app t before after k ask.No runs kept = tt
has_as_asked app t before after k ask.Maybe runs kept = has_under t after (the_task app t.0).schedule k (kept ∙ runs)
has_as_asked app t before after k ask.Left runs kept = kept
has_as_asked app t before after k ask.Free runs kept = kept

asks_there : (app : App) (s after : State) (r : Runner) (b : BlockNo) (k : Kind) (n : Notes) (a : Ask) → Runs app s r b → KeepsOrLeaves a s after → Asks (asked_for app r k a) (asking after n (asked_by app (caller s.processor) k a))
asks_there app s after (runner.Task t) b k n a h kept =
    subst (λ (p : Processor). Asks (asked_for app (runner.Task t) k a) (asking after n (asked_by app (caller p) k a))) (sym h.runs)
    (asks_by t after n (asked_by app (Task t) k a) (has_as_asked app t s after k a h.runs kept))
asks_there app s after (runner.Routine j z over) b k n a h kept =
    subst (λ (p : Processor). Asks asked.No (asking after n (asked_by app (caller p) k a))) (sym h.runs) refl

-- ---- the line

-- where the line is as before, but for a task that was put last
pub line_after : (last : Option TaskNo) (asked : Asked) (before after : State) → IsLineAfter last before after → LeavesLine asked last before after
line_after last asked.No before after h = tt
line_after last (asked.Maybe t) before after h = h
line_after last asked.Left before after h = h
line_after last asked.Free before after h = h

-- and where it is as before
pub same_line : (asked : Asked) (before after : State) → after.line ≡ before.line → LeavesLine asked None before after
same_line asked before after e = line_after None asked before after (line_stays before after e)

moved_line_by : (s : State) (to : Place) (p : Processor) → (moved_by s p to).line ≡ s.line
moved_line_by s to processor.Halted = refl
moved_line_by s to processor.Idle = refl
moved_line_by s to (processor.Running t) = refl
moved_line_by s to (processor.Interrupted k over) = refl

pub moved_line : (s : State) (to : Place) → (moved s to).line ≡ s.line
moved_line s to = moved_line_by s to s.processor

-- an effect that is known is the case's, where it leaves, asks and notes what the case says
pub has_effect : (app : App) (x : EffectCase) (s : State) (choice : Bool) (e : Effect) → effect app s choice ≡ e → PassesAll app x.conditions (abstract_of app s) → StaysAt x.leaving.stay e.state →
    ((c : ℕ) → c < component_count app → abstract_of app e.state c ≡ value_after x.changes c (abstract_of app s c)) → Asks x.leaving.asked e → LeavesLine x.leaving.asked x.leaving.last s e.state → e.notes.status ≡ x.leaving.status →
    HasEffect app x s choice
has_effect app x s choice e is passing point parts asks line status = record {
  passes = passing;
  point = subst (λ (f : Effect). StaysAt x.leaving.stay f.state) (sym is) point;
  parts = λ c lt. ap (λ (f : Effect). abstract_of app f.state c) is ∙ parts c lt;
  asks = subst (Asks x.leaving.asked) (sym is) asks;
  line = subst (λ (f : Effect). LeavesLine x.leaving.asked x.leaving.last s f.state) (sym is) line;
  status = ap (λ (f : Effect). f.notes.status) is ∙ status;
}

-- what an answer says of the effect, where the case is this
pub record HasAnswer (app : App) (x : EffectCase) (s : State) (r : Runner) (k : Kind) (a : Answer) : Type 0 where
  pub point : StaysAt x.leaving.stay a.state
  pub parts : (c : ℕ) → c < component_count app → abstract_of app a.state c ≡ value_after x.changes c (abstract_of app s c)
  pub asked : asked_for app r k a.ask ≡ x.leaving.asked
  pub kept : KeepsOrLeaves a.ask s a.state
  pub line : LeavesLine x.leaving.asked x.leaving.last s a.state
  pub status : a.status ≡ x.leaving.status

-- The effect of a call is the case's, where its answer is.
pub call_has : (app : App) (x : EffectCase) (s : State) (choice : Bool) (r : Runner) (b : BlockNo) (k : Kind) (a : Answer) → IsCall app k → Stands app s r b → (the_block app b.0).kind ≡ k →
    called app (moved_to s (the_block app b.0).next) (caller s.processor) k ≡ a → PassesAll app x.conditions (abstract_of app s) → HasAnswer app x s r k a → HasEffect app x s choice
call_has app x s choice r b k a call h is answers passing has =
    let e : effect app s choice ≡ noted app (asks_as app (caller s.processor) k a)
    = effect_there app s r b k choice h is ∙ call s choice (here s) (the_block app b.0) ∙ ap (λ (y : Answer). noted app (asks_as app (caller s.processor) k y)) answers in
    let asks : Asks (asked_for app r k a.ask) (noted app (asks_as app (caller s.processor) k a)) = asks_there app s a.state r b k _ a.ask h.runs has.kept in
    has_effect app x s choice (noted app (asks_as app (caller s.processor) k a)) e passing has.point has.parts
    (subst (λ (y : Asked). Asks y (noted app (asks_as app (caller s.processor) k a))) has.asked asks) has.line has.status

-- what is asked where the row asks nothing
pub asked_none : (app : App) (r : Runner) (k : Kind) → asked_for app r k ask.No ≡ asked.No
asked_none app (runner.Task t) k = refl
asked_none app (runner.Routine j z over) k = refl

under_schedule : (t : TaskNo) (x : Schedule) (k : Kind) → is_schedule k ≡ false → asked_when t (asked_under x k) ≡ asked_of_task t x
under_schedule t Full k e = refl
under_schedule t Non k e = ap (λ (b : Bool). asked_when t (if b then ask.Maybe else ask.No)) e

-- and where it asks for a dispatch, but at Schedule
pub asked_maybe : (app : App) (r : Runner) (k : Kind) → is_schedule k ≡ false → asked_for app r k ask.Maybe ≡ asked_after app r
asked_maybe app (runner.Task t) k e = under_schedule t (the_task app t.0).schedule k e
asked_maybe app (runner.Routine j z over) k e = refl

-- a call after which its caller goes on, and nothing else changes
pub call_goes_on : (app : App) (s : State) (choice : Bool) (r : Runner) (b : BlockNo) (k : Kind) (conditions : List Condition) (asked : Asked) (status : Option Status) (v : Option Value) (a : Ask) → IsCall app k → Stands app s r b → (the_block app b.0).kind ≡ k →
    called app (moved_to s (the_block app b.0).next) (caller s.processor) k ≡ answer (moved_to s (the_block app b.0).next) status v a → asked_for app r k a ≡ asked → PassesAll app conditions (abstract_of app s) →
    KeepsOrLeaves a s (moved_to s (the_block app b.0).next) → HasEffect app (goes_on r (the_block app b.0).next conditions asked status) s choice
call_goes_on app s choice r b k conditions asked status v a call h is answers asks passing kept =
    let n = (the_block app b.0).next in
    call_has app (goes_on r n conditions asked status) s choice r b k (answer (moved_to s n) status v a) call h is answers passing (record {
      point = point_there app (moved_to s n) r n (went_on app s r b n h (next_owned app s r b h));
      parts = λ c lt. moved_parts app s n 0 r b h c lt;
      asked = asks;
      kept = kept;
      line = same_line asked s (moved_to s n) (moved_line s (place_at n 0));
      status = refl;
    })
