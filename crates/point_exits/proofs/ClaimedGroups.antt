-- Groups of a claim: with the values under its limits the scheduler decides so, and back.
use Rattle.std.proofs.Common.{◌≡◌, ◌≢◌, ℕ, ◌<◌, ◌≤◌, Bool, true, false, ◌&&◌, List, [], length, set, refl, sym, ap, ap₂, subst, ◌∙◌, arith, IsTrue, Some, None, IfSome}
use Rattle.std.specs.{Prelude.{slice_index_or}, declared.option.Option.{Option}}
use Rattle.std.proofs.{Math.Logic.{∥∥₁_elim}, lemmas.Bool.{eq-eqb, and_parts}}
use Rattle.osek_values.specs.declared.numbers.TaskNo.{TaskNo}
use Rattle.osek_standard.specs.{declared.app.App.{App}, States.{is_that_task}}
use Rattle.abstract_state.specs.{declared.value.PartValue.{PartValue, TheVariants.{OfAlarm}}, Components.{component_count}, Concrete.{val_of}}
use Rattle.abstract_state.proofs.ComponentLaws.{task_counted}
use Rattle.flow_model.specs.declared.case.{Asked.{Asked}, Decision.{Decision}}
use Rattle.flow_model.specs.declared.case.Asked.TheVariants as asked
use Rattle.flow_model.specs.declared.case.Decision.TheVariants as decision
use Rattle.flow_model.specs.{Values.{is_live_value}, Effects.{AreIn}, Scheduling.{task_priority, IsLiveTask, IsBestTask, NoneLive, NoneAbove, Decides, DecidesBy, may_tie}}
use Rattle.flow_model.specs.declared.case.Leaving.{Leaving}
use Rattle.numbered_sets.specs.{declared.numbered_entry.NumberedEntry.{NumberedEntry}, Numbers.{Numbers, has_number, kept_numbers, meets}, NumberedEntries.{numbers_at, AreFilled}}
use Rattle.numbered_sets.specs.{Pools.{Values, values_at, IsNumberOf}, Views.{plain_entry}}
use Rattle.numbered_sets.proofs.MeetLaws.{common_of, meets_at}
use Rattle.flow_exits.specs.declared.claim.Claim.{Claim}
use Rattle.flow_exits.specs.declared.claim.Claim.TheVariants as claim
use Rattle.flow_exits.specs.{Claims.{limit_of, AreUnder}, Outcomes.{IsVacant, idle_decision}}
use Rattle.flow_exits.proofs.ClaimLaws.{that_task, nobody_means, nobody_passes, keeps_means, keeps_passes, gets_means, gets_above, gets_passes}
use Rattle.point_exits.specs.{declared.{task_levels.{Level.{Level}, TaskLevels.{TaskLevels}}, levels.Levels.{Levels}, group.ExitGroup.{ExitGroup}}, Levels.{IsLiveAt, AreAllLevels}}
use Rattle.point_exits.specs.{Narrowing.{IsLeft, is_under_limit, NeverUnder}, Deciding.{AddsFor, IsWhole, IsIt, IsOfLevel, IsAtLevel, IsLevelOf, IsAlive, IsAsked, IsGroupFor, IsClaimed, IsCut, IsKnownDecision, NeverAt, over_of}, OneProof.{IsLiveAt-prop}}
use Rattle.point_exits.proofs.LeftLaws.{tasks_counted, as_many_left, known_left, within_left, no_limit, under_left, left_under}
use Rattle.point_exits.proofs.{KeptLaws.{as_many_kept, known_kept, filled_kept, number_kept, within_kept, in_kept}, AddingLaws.{nothing_more}}

-- ---- values of a level

module _ (app : App) (pool : List Values) (levels : Levels) (all : AreAllLevels app pool levels) (t : ℕ) (known : t < length app.tasks) (level : Level) (of : IsLevelOf levels t level) where
  level_value : (n : ℕ) (v : PartValue) → IsTrue (has_number level.numbers n) → IsNumberOf (values_at pool t) v n → IsLiveAt app t level.priority v
  level_value n v has is =
      ∥∥₁_elim (of none) (IsLiveAt-prop app t level.priority v) (λ listed.
      let parts = (all.are.each t none known).levels level listed n v has in
      subst (IsLiveAt app t level.priority) (is.is v) parts.1)
    where
      none : TaskLevels
      none = record { judged = 0; dead = level.numbers; levels = []; blocks = record { domain = level.numbers.domain; sets = []; next = 0 } }

-- what is left has a number of each component
pub left_whole : (app : App) (pool : List Values) (c : Claim) (entry left : NumberedEntry) → IsLeft (is_under_limit app c (length app.tasks)) pool entry left → IsWhole app pool entry → AreFilled left → IsWhole app pool left
left_whole app pool c entry left h whole filled = record {
  size = omega (arith, whole.size, as_many_left (is_under_limit app c (length app.tasks)) pool entry left h);
  numbers = known_left (is_under_limit app c (length app.tasks)) pool entry left h whole.numbers;
  filled = filled;
}

-- ---- what a claim leaves, with the numbers of a level alone for the task that it is for

module _ (app : App) (pool : List Values) (c : Claim) (t : ℕ) (known : t < length app.tasks) (level : Level) (entry after : NumberedEntry) (h : IsClaimed app pool c t level entry after) where
  abbrev limits : ℕ → PartValue → Bool
  limits = is_under_limit app c (length app.tasks)

  stays_left : (n : ℕ) → IsTrue (has_number (numbers_at entry t) n) → IsTrue (has_number (numbers_at h.left t) n)
  stays_left n has =
      let v = slice_index_or (values_at pool t) n (OfAlarm false) in
      h.is_left.each t n (OfAlarm false) ∙ ap₂ (λ (a b : Bool). a && b) has (no_limit app c (length app.tasks) t v h.free)

  claimed_whole : IsWhole app pool entry → AreFilled h.left → IsTrue (meets (numbers_at entry t) level.numbers) → IsWhole app pool after
  claimed_whole whole filled met =
      let common = common_of (numbers_at entry t) level.numbers met in
      record {
        size = omega (arith, whole.size, as_many_left limits pool entry h.left h.is_left, as_many_kept pool h.left after t level.numbers h.there h.kept);
        numbers = known_kept pool h.left after t level.numbers h.there h.kept (known_left limits pool entry h.left h.is_left whole.numbers);
        filled = filled_kept pool h.left after t level.numbers h.there h.kept common.number (stays_left common.number common.first) common.second filled;
      }

  module _ (value : ℕ → PartValue) where
    within_claimed : AreIn app (plain_entry pool after) value → AreIn app (plain_entry pool entry) value
    within_claimed within = within_left limits pool entry h.left h.is_left app value (within_kept pool h.left after t level.numbers h.there h.kept app value within)

    under_claimed : AreIn app (plain_entry pool after) value → AreUnder app c (length app.tasks) value
    under_claimed within = under_left app c pool entry h.left h.is_left value (within_kept pool h.left after t level.numbers h.there h.kept app value within)

    in_claimed : AreIn app (plain_entry pool entry) value → AreUnder app c (length app.tasks) value → IsOfLevel pool entry t level value → AreIn app (plain_entry pool after) value
    in_claimed within under at =
        in_kept pool h.left after t level.numbers h.there h.kept app value (left_under app c pool entry h.left h.is_left value within under)
        at.number (stays_left at.number at.has) at.among at.is

    module _ (levels : Levels) (all : AreAllLevels app pool levels) (of : IsLevelOf levels t level) where
      claimed_live : AreIn app (plain_entry pool after) value → IsLiveAt app t level.priority (value t)
      claimed_live within =
          let x = number_kept pool h.left after t level.numbers h.there h.kept app value within (task_counted app t known) in
          level_value app pool levels all t known level of x.number (value t) (and_parts (has_number (numbers_at h.left t) x.number) (has_number level.numbers x.number) x.has_it).1 x.is

-- no value is of the level
pub never_met : (app : App) (c : Claim) (pool : List Values) (entry : NumberedEntry) (t : ℕ) (level : Level) → meets (numbers_at entry t) level.numbers ≡ false → NeverAt app c pool entry t level
never_met app c pool entry t level none value within under at = (let met = meets_at (numbers_at entry t) level.numbers at.number at.has at.among in absurd (cc))

-- the claimed task has no limit
pub keeps_free : (t : TaskNo) (p : ℕ) → limit_of (claim.Keeps t p) t.0 ≡ None
keeps_free t p = rw (eq-eqb t.0 t.0 refl) refl

pub gets_free : (w : TaskNo) (p : ℕ) (over : Option TaskNo) (ties : Bool) → limit_of (claim.Gets w p over ties) w.0 ≡ None
gets_free w p over ties = rw (eq-eqb w.0 w.0 refl) refl

-- what a test of the numbers said
pub met_at : (entry : NumberedEntry) (x : Numbers) (t component : ℕ) (b said : Bool) → component ≡ t → said ≡ meets (numbers_at entry component) x → said ≡ b → meets (numbers_at entry t) x ≡ b
met_at entry x t component b said same is e = ap (λ (n : ℕ). meets (numbers_at entry n) x) (sym same) ∙ sym is ∙ e

-- what is left has the task
pub left_there : (app : App) (pool : List Values) (c : Claim) (t : ℕ) (entry : NumberedEntry) → t < length app.tasks → component_count app ≤ length entry.sets
    → (found : Option NumberedEntry) (left : NumberedEntry) → found ≡ Some left → IfSome found (IsLeft (is_under_limit app c (length app.tasks)) pool entry) → (component : ℕ) → component ≡ t → component < length left.sets
left_there app pool c t entry known size found left some lefts component same =
    let is_left = subst (λ (o : Option NumberedEntry). IfSome o (IsLeft (is_under_limit app c (length app.tasks)) pool entry)) some lefts in
    omega (arith, known, same, tasks_counted app, size, as_many_left (is_under_limit app c (length app.tasks)) pool entry left is_left)

-- what the code leaves is so
pub cut : (app : App) (pool : List Values) (c : Claim) (t : ℕ) (level : Level) (entry : NumberedEntry) → t < length app.tasks → IsWhole app pool entry → limit_of c t ≡ None → IsTrue (meets (numbers_at entry t) level.numbers)
    → (found : Option NumberedEntry) (left : NumberedEntry) → found ≡ Some left → IfSome found (IsLeft (is_under_limit app c (length app.tasks)) pool entry) → IfSome found AreFilled
    → (component : ℕ) (after : NumberedEntry) → component ≡ t → after.sets ≡ set left.sets component (kept_numbers (numbers_at left component) level.numbers) → IsCut app pool c t level entry after
cut app pool c t level entry known whole free met found left some lefts fills component after same write =
    let is_left = subst (λ (o : Option NumberedEntry). IfSome o (IsLeft (is_under_limit app c (length app.tasks)) pool entry)) some lefts in
    let filled = subst (λ (o : Option NumberedEntry). IfSome o AreFilled) some fills in
    let there : t < length left.sets = omega (arith, known, tasks_counted app, whole.size, as_many_left (is_under_limit app c (length app.tasks)) pool entry left is_left) in
    let kept = subst (λ (k : ℕ). after.sets ≡ set left.sets k (kept_numbers (numbers_at left k) level.numbers)) same write in
    let claimed : IsClaimed app pool c t level entry after = record { free = free; left = left; is_left = is_left; there = there; kept = kept } in
    record { claimed = claimed; whole = claimed_whole app pool c t known level entry after claimed whole filled met }

-- ---- the running task keeps the processor

module _ (app : App) (pool : List Values) (levels : Levels) (all : AreAllLevels app pool levels) (leaving : Leaving) (t : TaskNo) (running : leaving.asked ≡ asked.Maybe t) (known : t.0 < length app.tasks) (level : Level) (of : IsLevelOf levels t.0 level) (entry : NumberedEntry) where
  abbrev keeps : Claim
  keeps = claim.Keeps t level.priority

  none_above : (value : ℕ → PartValue) (e : Decision) → e ≡ decision.Keep → Decides app value leaving e → NoneAbove app value t.0
  none_above value e same decides = subst (λ (a : Asked). DecidesBy app value leaving.last a decision.Keep) running (subst (Decides app value leaving) same decides)

  level_under : (value : ℕ → PartValue) (e : Decision) → Decides app value leaving e → IsAtLevel pool entry t.0 level decision.Keep value e → AreUnder app keeps (length app.tasks) value
  level_under value e decides at =
      keeps_passes app value t level.priority (level_value app pool levels all t.0 known level of at.1.number (value t.0) at.1.among at.1.is).priority (none_above value e at.0 decides)

  pub keeper_group : (after : NumberedEntry) → IsClaimed app pool keeps t.0 level entry after → IsGroupFor app pool leaving entry (IsAtLevel pool entry t.0 level decision.Keep) decision.Keep after
  keeper_group after h = record {
    within = within_claimed app pool keeps t.0 known level entry after h;
    each = λ value within.
        (let live = claimed_live app pool keeps t.0 known level entry after h value levels all of within in
        let same = live.priority in
        subst (λ (a : Asked). DecidesBy app value leaving.last a decision.Keep) (sym running)
        (keeps_means app value t level.priority (omega (arith, same)) (record { known = known; live = live.live }) (under_claimed app pool keeps t.0 known level entry after h value within)));
    whole = λ value e within decides at. (at.0, in_claimed app pool keeps t.0 known level entry after h value within (level_under value e decides at) at.1);
  }

  pub no_keeper : NeverAt app keeps pool entry t.0 level → (gs : List ExitGroup) → AddsFor app pool leaving entry (IsAtLevel pool entry t.0 level decision.Keep) gs gs
  no_keeper never gs = nothing_more app pool leaving entry (IsAtLevel pool entry t.0 level decision.Keep) gs (λ value e within decides at. never value within (level_under value e decides at) at.1)

-- ---- another task gets the processor

not_that : (over : Option TaskNo) (w : TaskNo) (t : TaskNo) → is_that_task over w.0 ≡ false → over ≡ Some t → t.0 ≢ w.0
not_that over w t other e same =
    let that : is_that_task over w.0 ≡ true = ap (λ (o : Option TaskNo). is_that_task o w.0) e ∙ eq-eqb t.0 w.0 same in
    absurd (cc)

same_running : (t u : TaskNo) → Some t ≡ Some u → t ≡ u
same_running t u e = cc

module _ (app : App) (value : ℕ → PartValue) (last : Option TaskNo) (w : TaskNo) where
  -- the running task is Live, and below
  pub record IsBelowIt (t : TaskNo) : Type 0 where
    pub live : IsLiveTask app value t.0
    pub below : task_priority app value t.0 < task_priority app value w.0

  -- the best of all, and above the running one
  pub record Wins (over : Option TaskNo) : Type 0 where
    pub best : IsBestTask app value last w.0
    pub above : (t : TaskNo) → over ≡ Some t → IsBelowIt t

  pub winner_of : (a : Asked) → DecidesBy app value last a (decision.To (Some w)) → Wins (over_of a)
  winner_of asked.No h = absurd h
  winner_of (asked.Maybe t) h = record { best = h.best; above = λ u e. subst IsBelowIt (same_running t u e) (record { live = h.running; below = h.above }) }
  winner_of asked.Left h = record { best = h; above = λ u e. absurd (cc) }
  winner_of asked.Free h = record { best = h; above = λ u e. absurd (cc) }

  pub winner_decides : (pool : List Values) (entry : NumberedEntry) (a : Asked) → IsAsked app pool entry a → Wins (over_of a) → DecidesBy app value last a (decision.To (Some w))
  winner_decides pool entry asked.No is h = absurd is
  winner_decides pool entry (asked.Maybe t) is h = (let x = h.above t refl in record { running = x.live; best = h.best; above = x.below })
  winner_decides pool entry asked.Left is h = h.best
  winner_decides pool entry asked.Free is h = h.best

-- the task that runs is Live
alive_over : (app : App) (pool : List Values) (entry : NumberedEntry) (a : Asked) (t : TaskNo) → IsAsked app pool entry a → over_of a ≡ Some t → IsAlive app pool entry t.0
alive_over app pool entry asked.No t is e = absurd is
alive_over app pool entry (asked.Maybe u) t is e = subst (λ (x : TaskNo). IsAlive app pool entry x.0) (same_running u t e) is
alive_over app pool entry asked.Left t is e = absurd (cc)
alive_over app pool entry asked.Free t is e = absurd (cc)

-- the running task never wins
running_loses : (app : App) (value : ℕ → PartValue) (last : Option TaskNo) (a : Asked) (w : TaskNo) → is_that_task (over_of a) w.0 ≡ true →
    DecidesBy app value last a (decision.To (Some w)) → ⊥
running_loses app value last a w that h =
    let t = that_task (over_of a) w.0 that in
    let below = ((winner_of app value last w a h).above t.0 t.1).below in
    let same : task_priority app value t.0.0 ≡ task_priority app value w.0 = ap (task_priority app value) t.2 in
    absurd (omega (arith, below, same))

pub no_running_winner : (app : App) (pool : List Values) (leaving : Leaving) (w : TaskNo) (entry : NumberedEntry) (gs : List ExitGroup) → is_that_task (over_of leaving.asked) w.0 ≡ true → AddsFor app pool leaving entry (IsIt (decision.To (Some w))) gs gs
no_running_winner app pool leaving w entry gs that = nothing_more app pool leaving entry (IsIt (decision.To (Some w))) gs
    (λ value e within decides same. running_loses app value leaving.last leaving.asked w that (subst (Decides app value leaving) same decides))

module _ (app : App) (pool : List Values) (levels : Levels) (all : AreAllLevels app pool levels) (leaving : Leaving) (w : TaskNo) (known : w.0 < length app.tasks) (other : is_that_task (over_of leaving.asked) w.0 ≡ false)
    (level : Level) (of : IsLevelOf levels w.0 level) (entry : NumberedEntry) where
  abbrev over : Option TaskNo
  over = over_of leaving.asked

  abbrev gets : Claim
  gets = claim.Gets w level.priority over (may_tie leaving.last w.0)

  abbrev to_it : Decision
  to_it = decision.To (Some w)

  wins : (value : ℕ → PartValue) (e : Decision) → e ≡ to_it → Decides app value leaving e → Wins app value leaving.last w over
  wins value e same decides = winner_of app value leaving.last w leaving.asked (subst (Decides app value leaving) same decides)

  under_it : (value : ℕ → PartValue) (e : Decision) → Decides app value leaving e → IsAtLevel pool entry w.0 level to_it value e → AreUnder app gets (length app.tasks) value
  under_it value e decides at =
      let won = wins value e at.0 decides in
      let its = level_value app pool levels all w.0 known level of at.1.number (value w.0) at.1.among at.1.is in
      gets_passes app value leaving.last w level.priority over its.priority won.best (λ t same. (won.above t same).below)

  pub winner_group : (after : NumberedEntry) → IsAsked app pool entry leaving.asked → IsClaimed app pool gets w.0 level entry after → IsGroupFor app pool leaving entry (IsAtLevel pool entry w.0 level to_it) to_it after
  winner_group after asks h = record {
    within = within_claimed app pool gets w.0 known level entry after h;
    each = λ value within.
        (let at = claimed_live app pool gets w.0 known level entry after h value levels all of within in
        let inside = within_claimed app pool gets w.0 known level entry after h value within in
        let under = under_claimed app pool gets w.0 known level entry after h value within in
        let live : IsLiveTask app value w.0 = record { known = known; live = at.live } in
        winner_decides app value leaving.last w pool entry leaving.asked asks (record {
          best = gets_means app value leaving.last w level.priority over at.priority live under;
          above = λ t same.
              (let its = alive_over app pool entry leaving.asked t asks same in
              let running : IsLiveTask app value t.0 = record { known = its.known; live = its.live value inside } in
              record { live = running; below = gets_above app value leaving.last w level.priority over at.priority t same (not_that over w t other same) running under });
        }));
    whole = λ value e within decides at. (at.0, in_claimed app pool gets w.0 known level entry after h value within (under_it value e decides at) at.1);
  }

  pub no_winner : NeverAt app gets pool entry w.0 level → (gs : List ExitGroup) → AddsFor app pool leaving entry (IsAtLevel pool entry w.0 level to_it) gs gs
  no_winner never gs = nothing_more app pool leaving entry (IsAtLevel pool entry w.0 level to_it) gs (λ value e within decides at. never value within (under_it value e decides at) at.1)

-- a task that gets the processor is Live
pub winner_live : (app : App) (leaving : Leaving) (w : TaskNo) (value : ℕ → PartValue) → Decides app value leaving (decision.To (Some w)) → IsTrue (is_live_value (val_of (value w.0)))
winner_live app leaving w value h = (winner_of app value leaving.last w leaving.asked h).best.is.live

-- the running task is one of the application's
pub running_known : (app : App) (pool : List Values) (entry : NumberedEntry) (a : Asked) (t : TaskNo) → a ≡ asked.Maybe t → IsAsked app pool entry a → t.0 < length app.tasks
running_known app pool entry a t running is = (let alive : IsAlive app pool entry t.0 = subst (IsAsked app pool entry) running is in alive.known)

-- and so is one that keeps it
pub keeper_live : (app : App) (leaving : Leaving) (t : TaskNo) (value : ℕ → PartValue) → leaving.asked ≡ asked.Maybe t → Decides app value leaving decision.Keep → IsTrue (is_live_value (val_of (value t.0)))
keeper_live app leaving t value running h =
    let kept : NoneAbove app value t.0 = subst (λ (a : Asked). DecidesBy app value leaving.last a decision.Keep) running h in
    kept.running.live

-- ---- nobody gets it

none_live : (app : App) (value : ℕ → PartValue) (last : Option TaskNo) (a : Asked) → IsVacant a → DecidesBy app value last a (idle_decision a) → NoneLive app value
none_live app value last asked.No vacant h = absurd vacant
none_live app value last (asked.Maybe t) vacant h = absurd vacant
none_live app value last asked.Left vacant h = h
none_live app value last asked.Free vacant h = h

idle_decides : (app : App) (value : ℕ → PartValue) (last : Option TaskNo) (a : Asked) → IsVacant a → NoneLive app value → DecidesBy app value last a (idle_decision a)
idle_decides app value last asked.No vacant h = absurd vacant
idle_decides app value last (asked.Maybe t) vacant h = absurd vacant
idle_decides app value last asked.Left vacant h = h
idle_decides app value last asked.Free vacant h = h

pub idle_known : (app : App) (a : Asked) → IsVacant a → IsKnownDecision app (idle_decision a)
idle_known app asked.No vacant = absurd vacant
idle_known app (asked.Maybe t) vacant = absurd vacant
idle_known app asked.Left vacant = tt
idle_known app asked.Free vacant = tt

module _ (app : App) (pool : List Values) (leaving : Leaving) (vacant : IsVacant leaving.asked) (entry : NumberedEntry) where
  abbrev idle : Decision
  idle = idle_decision leaving.asked

  nobody_under : (value : ℕ → PartValue) (e : Decision) → Decides app value leaving e → e ≡ idle → AreUnder app claim.Nobody (length app.tasks) value
  nobody_under value e decides same = nobody_passes app value (none_live app value leaving.last leaving.asked vacant (subst (Decides app value leaving) same decides))

  pub nobody_group : (left : NumberedEntry) → IsLeft (is_under_limit app claim.Nobody (length app.tasks)) pool entry left → IsGroupFor app pool leaving entry (IsIt idle) idle left
  nobody_group left h = record {
    within = λ value within. within_left (is_under_limit app claim.Nobody (length app.tasks)) pool entry left h app value within;
    each = λ value within. idle_decides app value leaving.last leaving.asked vacant (nobody_means app value (under_left app claim.Nobody pool entry left h value within));
    whole = λ value e within decides same. (same, left_under app claim.Nobody pool entry left h value within (nobody_under value e decides same));
  }

  pub nobody_never : NeverUnder app claim.Nobody pool entry → (gs : List ExitGroup) → AddsFor app pool leaving entry (IsIt idle) gs gs
  nobody_never never gs = nothing_more app pool leaving entry (IsIt idle) gs (λ value e within decides same. never value within (nobody_under value e decides same))
