-- Routines that begin: each arrival is the step of its source's rule, and each such rule's step is some state's.
use Rattle.std.proofs.Common.{◌≡◌, ℕ, ◌<◌, ◌≤◌, ◌&&◌, Bool, true, false, nat_lt, List, [], ◌∷◌, ◌++◌, length, map, refl, sym, ap, ap₂, subst, ◌∙◌, arith, Some, None, get_or-set_same}
use Rattle.std.specs.{Prelude.{Contains}, declared.option.Option.{Option}}
use Rattle.std.proofs.lemmas.Bool.{and_from, and_parts, Decides.{nat_tests}}
use Rattle.osek_values.specs.{declared.{event.Event.{Event, TheVariants.{Run}}, numbers.{SourceNo.{SourceNo}, TaskNo.{TaskNo}, BlockNo.{BlockNo}}}, Numbers.{source_no, task_no}}
use Rattle.osek_standard.specs.declared.{app.App.{App}, state.{State.{State}, Source.{Source}, Processor.{Processor}}}
use Rattle.osek_standard.specs.declared.state.Source.TheVariants as source
use Rattle.osek_standard.specs.declared.state.Processor.TheVariants as processor
use Rattle.osek_standard.specs.declared.point.Point.{Point}
use Rattle.osek_standard.specs.declared.point.Point.TheVariants as point
use Rattle.osek_standard.specs.{Apps.{routine_start, source_count, source_priority, the_block}, States.{place_by, place_of_source, task_of, with_latch, with_source}}
use Rattle.osek_standard.specs.{Levels.{level}, Points.{IsPoint, point_at, point_of}}
use Rattle.osek_standard.specs.{Dispatch.{Stepped, instruction, silent}, Arrivals.{arrival, entered, begun, takes_none, takes_none_by}, Kernel.{step, run_by, entered_or}}
use Rattle.osek_standard.specs.{Outcomes.{Arrived, Silent, did, arrived_or, shown_by}, Well.{Well, IsOwn, IsOfRoutine, IsProcessor}}
use Rattle.osek_standard.proofs.{ArrivalLaws.{arrival_is, latched_known}, LevelLaws.{level_above}, Members.{among_contained, among_map, among_passing, contained_among, map_among, passing_among}}
use Rattle.osek_standard.proofs.OwnerLaws.{own_once}
use Rattle.abstract_state.specs.declared.value.{Component.{Component}, PartValue.{PartValue, TheVariants.{OfSource}}}
use Rattle.abstract_state.specs.declared.value.Component.TheVariants as component
use Rattle.abstract_state.specs.declared.value.SourceVal.TheVariants as source_val
use Rattle.abstract_state.specs.{Components.{abstract_of, component_at, component_count, component_number, part_of, routine_val}, Concrete.{AreAllowed}, Regular.{IsRegular}}
use Rattle.abstract_state.proofs.{ComponentLaws.{processor_part}, Concretes.{some_latched}, RoutineOwners.{routine_once}}
use Rattle.flow_model.specs.declared.rule.Rule.{Rule}
use Rattle.flow_model.specs.declared.change.Update.TheVariants as update
use Rattle.flow_model.specs.{Rules.{Matches, IsMatched, Shown}, Changes.{source_change}, Tests.{PassesAll, value_after}}
use Rattle.flow_model.proofs.{Listing.{made_passes}, Moves.{source_parts}, Standing.{stands_at, stands_in}}
use Rattle.flow_exits.specs.Arrivals.{arrival_rule, fits_internal, is_lower, may_begin_over, nest_conditions, over_conditions, running_source, MayBegin, IsArrivalRule, AreArrivals}
use Rattle.flow_exits.proofs.NestConditions.{level_passes, out_unless, passes_level}

abbrev itself : Stepped → Stepped
itself n = n

-- latches are no components
latch_part : (s : State) (k : ℕ) (b : Bool) (c : Component) → part_of (with_latch s k b) c ≡ part_of s c
latch_part s k b (component.Task t) = refl
latch_part s k b (component.Event t j) = refl
latch_part s k b (component.Alarm a) = refl
latch_part s k b (component.Source l) = refl

module _ (app : App) (s : State) (k : SourceNo) (known : k.0 < source_count app) (w : Well app s) where
  -- the source is in at its first block, and nothing else changes
  entered_parts : (c : ℕ) → c < component_count app → abstract_of app (entered app s k) c ≡ value_after (source_change app k.0 (source_val.In (routine_val (routine_start app k.0) [])) ∷ []) c (abstract_of app s c)
  entered_parts c lt =
      let u : State = with_latch s k.0 false in
      let there : k.0 < length u.sources = omega (arith, known, w.sources_len) in
      processor_part (with_source u k.0 (source.In (begun app k.0))) (processor.Interrupted k (task_of s.processor)) (component_at app c)
      ∙ source_parts app u k.0 (source.In (begun app k.0)) there known (update.Set (OfSource (source_val.In (routine_val (routine_start app k.0) [])))) (component_number app (component.Source k)) refl refl c lt
      ∙ ap (value_after (source_change app k.0 (source_val.In (routine_val (routine_start app k.0) [])) ∷ []) c) (latch_part s k.0 false (component_at app c))

-- the interrupted task of a well-formed state is the application's
known_task : (app : App) (s : State) → Well app s → (p : Processor) → IsProcessor app s p → (t : TaskNo) → task_of p ≡ Some t → t.0 < length app.tasks
known_task app s w processor.Halted h t e = absurd (cc)
known_task app s w processor.Idle h t e = absurd (cc)
known_task app s w (processor.Running u) h t e = (let same : u ≡ t = cc in subst (λ (v : TaskNo). v.0 < length app.tasks) same h.running.0)
known_task app s w (processor.Interrupted k None) h t e = absurd (cc)
known_task app s w (processor.Interrupted k (Some u)) h t e = (let same : u ≡ t = cc in subst (λ (v : TaskNo). v.0 < length app.tasks) same h.over.0)

module _ (app : App) (s : State) (k : SourceNo) (choice : Bool) where
  shown_arrived : (p : Processor) → takes_none_by app s p ≡ false → arrival app s ≡ Some k → shown_by app s choice p ≡ Arrived
  shown_arrived processor.Halted e a = absurd (cc)
  shown_arrived processor.Idle e a = ap (arrived_or Silent) a
  shown_arrived (processor.Running t) e a = ap (arrived_or (did app s choice)) a
  shown_arrived (processor.Interrupted j over) e a = ap (arrived_or (did app s choice)) a

  run_enters : (p : Processor) → takes_none_by app s p ≡ false → arrival app s ≡ Some k → run_by itself app s (instruction app s choice) p ≡ silent (entered app s k)
  run_enters processor.Halted e a = absurd (cc)
  run_enters processor.Idle e a = ap (entered_or itself app s (silent s)) a
  run_enters (processor.Running t) e a = ap (entered_or itself app s (instruction app s choice)) a
  run_enters (processor.Interrupted j over) e a = ap (entered_or itself app s (instruction app s choice)) a

  -- the step in which source k arrives
  pub arrives : Well app s → IsRegular app s → arrival app s ≡ Some k → Matches app (arrival_rule app (task_of s.processor) (running_source s.processor) k.0) s (Run choice)
  arrives w regular a =
      let is = arrival_is app s k a in
      let known : k.0 < length s.sources = omega (arith, latched_known s k.0 is.latched, w.latched_len, w.sources_len) in
      let counted : k.0 < source_count app = omega (arith, known, w.sources_len) in
      let after : (step app s (Run choice)).state ≡ entered app s k = ap (λ (n : Stepped). n.state) (run_enters s.processor is.allowed a) in
      record {
        passes = (level_passes app s k.0 w regular (task_of s.processor) (running_source s.processor) refl (known_task app s w s.processor w.processor) is.above).1;
        target = ap point_of after ∙ ap (λ (x : Source). point.Routine (place_of_source x).block (task_of s.processor)) (get_or-set_same s.sources k.0 (source.In (begun app k.0)) source.Out known);
        parts = λ c lt. ap (λ (r : State). abstract_of app r c) after ∙ entered_parts app s k counted w c lt;
        shows = shown_arrived s.processor is.allowed a;
        status = ap (λ (n : Stepped). n.notes.status) (run_enters s.processor is.allowed a);
      }

module _ (app : App) (s : State) (w : Well app s) (regular : IsRegular app s) where
  fits_there : (k : SourceNo) → arrival app s ≡ Some k → fits_internal app (task_of s.processor) k.0 ≡ true
  fits_there k a = (level_passes app s k.0 w regular (task_of s.processor) (running_source s.processor) refl (known_task app s w s.processor w.processor) (arrival_is app s k a).above).0

  -- a routine may begin where the state takes one
  begins_by : (x : Processor) → s.processor ≡ x → (p : Point) → point_of s ≡ p → (k : SourceNo) → arrival app s ≡ Some k → takes_none_by app s x ≡ false → MayBegin app p (task_of x) (running_source x) k.0
  begins_by processor.Halted at p e k a f = absurd (cc)
  begins_by processor.Idle at p e k a f = subst (λ (q : Point). MayBegin app q None None k.0) (sym (ap (λ (y : Processor). point_at (place_by s y).block y) at) ∙ e) tt
  begins_by (processor.Running t) at p e k a f =
      let b = (place_by s (processor.Running t)).block in
      let place : point_of s ≡ point.Task b = ap (λ (y : Processor). point_at (place_by s y).block y) at in
      let h = stands_at app s b w place in
      let t_is : h.0 ≡ t = (let same : processor.Running h.0 ≡ processor.Running t = sym h.1.runs.runs ∙ at in cc) in
      let free : (the_block app b.0).locked ≡ false = sym (ap (λ (y : Processor). (the_block app (place_by s y).block.0).locked) at) ∙ f in
      let fits : fits_internal app (Some t) k.0 ≡ true = ap (λ (y : Processor). fits_internal app (task_of y) k.0) (sym at) ∙ fits_there k a in
      subst (λ (q : Point). MayBegin app q (Some t) None k.0) (sym place ∙ e) (record {
        free = free;
        known = subst (λ (u : TaskNo). u.0 < length app.tasks) t_is h.1.runs.has.0;
        own = subst (λ (u : TaskNo). IsOwn app u.0 b.0) t_is h.1.runs.own;
        fits = fits;
      })
  begins_by (processor.Interrupted j over) at p e k a f =
      let b = (place_by s (processor.Interrupted j over)).block in
      let place : point_of s ≡ point.Routine b over = ap (λ (y : Processor). point_at (place_by s y).block y) at in
      let h = stands_in app s b w over place in
      let j_is : h.0 ≡ j = (let same : processor.Interrupted h.0 over ≡ processor.Interrupted j over = sym h.1.runs.runs ∙ at in cc) in
      let has : IsProcessor app s (processor.Interrupted j over) = subst (IsProcessor app s) at w.processor in
      let high = level_above app s w j over has in
      let above = (arrival_is app s k a).above in
      subst (λ (q : Point). MayBegin app q over (Some j) k.0) (sym place ∙ e) (record {
        free = sym (ap (λ (y : Processor). (the_block app (place_by s y).block.0).locked) at) ∙ f;
        same = refl;
        known = subst (λ (l : SourceNo). l.0 < source_count app) j_is h.1.runs.known;
        own = subst (λ (l : SourceNo). IsOfRoutine app l.0 b.0) j_is h.1.runs.own;
        lower = omega (arith, high, above);
        fits = ap (λ (y : Processor). fits_internal app (task_of y) k.0) (sym at) ∙ fits_there k a;
      })

  -- each arrival is a rule's
  pub arrival_covered : (p : Point) (rules : List Rule) (e : Event) → AreArrivals app p rules → point_of s ≡ p → (k : SourceNo) → arrival app s ≡ Some k → (choice : Bool) → e ≡ Run choice → IsMatched app rules s e
  arrival_covered p rules e h at k a choice is =
      let arrived = arrival_is app s k a in
      let known : k.0 < source_count app = omega (arith, latched_known s k.0 arrived.latched, w.latched_len) in
      record {
        rule = arrival_rule app (task_of s.processor) (running_source s.processor) k.0;
        listed = h.some k.0 (task_of s.processor) (running_source s.processor) known (begins_by s.processor refl p at k a arrived.allowed);
        matches = subst (λ (x : Event). Matches app (arrival_rule app (task_of s.processor) (running_source s.processor) k.0) s x) (sym is) (arrives app s k choice w regular a);
      }

  -- where it may begin over these, the state takes a routine over them
  record Takes (over : Option TaskNo) (running : Option SourceNo) (k : ℕ) : Type 0 where
    allowed : takes_none app s ≡ false
    over_it : task_of s.processor ≡ over
    runs : running_source s.processor ≡ running
    fits : fits_internal app over k ≡ true

  idle_takes : (k : ℕ) (x : Processor) → s.processor ≡ x → point_at (place_by s x).block x ≡ point.Idle → Takes None None k
  idle_takes k processor.Halted at e = absurd (cc)
  idle_takes k processor.Idle at e = record { allowed = ap (takes_none_by app s) at; over_it = ap task_of at; runs = ap running_source at; fits = refl }
  idle_takes k (processor.Running t) at e = absurd (cc)
  idle_takes k (processor.Interrupted j o) at e = absurd (cc)

  takes : (p : Point) (over : Option TaskNo) (running : Option SourceNo) (k : ℕ) → point_of s ≡ p → MayBegin app p over running k → Takes over running k
  takes point.Halted over running k at may = absurd may
  takes point.Idle None None k at may = idle_takes k s.processor refl at
  takes point.Idle None (Some j) k at may = absurd may
  takes point.Idle (Some t) running k at may = absurd may
  takes (point.Task b) None running k at may = absurd may
  takes (point.Task b) (Some t) None k at may =
      let h = stands_at app s b w at in
      let same : h.0.0 ≡ t.0 = own_once app h.0.0 t.0 b.0 h.1.runs.has.0 may.known h.1.runs.own may.own in
      record {
        allowed = ap (takes_none_by app s) h.1.runs.runs ∙ ap (λ (c : BlockNo). (the_block app c.0).locked) h.1.block ∙ may.free;
        over_it = ap task_of h.1.runs.runs ∙ ap (λ (n : ℕ). Some (task_no n)) same;
        runs = ap running_source h.1.runs.runs;
        fits = may.fits;
      }
  takes (point.Task b) (Some t) (Some j) k at may = absurd may
  takes (point.Routine b under) over None k at may = absurd may
  takes (point.Routine b under) over (Some j) k at may =
      let h = stands_in app s b w under at in
      let same : h.0.0 ≡ j.0 = routine_once app h.0.0 j.0 b.0 h.1.runs.known may.known h.1.runs.own may.own in
      record {
        allowed = ap (takes_none_by app s) h.1.runs.runs ∙ ap (λ (c : BlockNo). (the_block app c.0).locked) h.1.block ∙ may.free;
        over_it = ap task_of h.1.runs.runs ∙ may.same;
        runs = ap running_source h.1.runs.runs ∙ ap (λ (n : ℕ). Some (source_no n)) same;
        fits = may.fits;
      }

-- each arrival rule's step is some state's, with these values, which pass
pub arrival_shown : (app : App) (p : Point) (rule : Rule) (value : ℕ → PartValue) → IsPoint app p → AreAllowed app p value → IsArrivalRule app p rule →
    PassesAll app rule.conditions value → Shown app p rule value
arrival_shown app p rule value h allowed r passing =
    let c = some_latched app p value h allowed r.source r.known in
    let s = c.0 in
    let w = c.1.has.well in
    let regular = c.1.has.regular in
    let t = takes app s w regular p r.over r.running r.source c.1.has.point r.may in
    let own_rule : arrival_rule app (task_of s.processor) (running_source s.processor) r.source ≡ rule
    = ap₂ (λ (o : Option TaskNo) (j : Option SourceNo). arrival_rule app o j r.source) t.over_it t.runs ∙ sym r.is in
    let there : PassesAll app (over_conditions app (task_of s.processor) r.source ++ nest_conditions app (running_source s.processor) r.source) (abstract_of app s)
    = subst (λ (x : Rule). PassesAll app x.conditions (abstract_of app s)) (sym own_rule) (made_passes app p value s c.1.has rule.conditions passing) in
    let fits : fits_internal app (task_of s.processor) r.source ≡ true = ap (λ (o : Option TaskNo). fits_internal app o r.source) t.over_it ∙ t.fits in
    let low : level app s ≤ source_priority app r.source
    = passes_level app s r.source w regular (task_of s.processor) (running_source s.processor) refl (known_task app s w s.processor w.processor) (out_unless app s s.processor w.processor) fits there in
    let arrived : arrival app s ≡ Some (source_no r.source) = c.1.arrives t.allowed low in
    record {
      from = s;
      event = Run true;
      has = c.1.has;
      matches = subst (λ (x : Rule). Matches app x s (Run true)) own_rule (arrives app s (source_no r.source) true w regular arrived);
    }

-- ---- the list of the arrivals

module _ (app : App) (p : Point) (over : Option TaskNo) (running : Option SourceNo)
    (may : (k : ℕ) → k < source_count app → is_lower app running k ≡ true → fits_internal app over k ≡ true → MayBegin app p over running k)
    (alone : (o : Option TaskNo) (j : Option SourceNo) (k : ℕ) → MayBegin app p o j k → (o ≡ over) × (j ≡ running) × (is_lower app running k ≡ true) × (fits_internal app over k ≡ true)) where
  abbrev begins : ℕ → Bool
  begins k = is_lower app running k && fits_internal app over k

  abbrev all_rules : List Rule
  all_rules = map (arrival_rule app over running) (may_begin_over app over running)

  -- each source's that may, over this one
  pub all_arrivals : AreArrivals app p all_rules
  all_arrivals = record {
    each = λ rule m. (let back = map_among (arrival_rule app over running) rule (may_begin_over app over running) (contained_among all_rules rule m) in
        let there = passing_among begins (source_count app) back.0 back.1 in
        let both = and_parts (is_lower app running back.0) (fits_internal app over back.0) there.0 in
        record { source = back.0; over = over; running = running; known = there.1; may = may back.0 there.1 both.0 both.1; is = back.2 });
    some = λ k o j lt h. (let a = alone o j k h in
        subst (Contains all_rules) (sym (ap₂ (λ (u : Option TaskNo) (i : Option SourceNo). arrival_rule app u i k) a.0 a.1))
        (among_contained all_rules (arrival_rule app over running k) (among_map (arrival_rule app over running) k (may_begin_over app over running)
        (among_passing begins (source_count app) k lt (and_from (is_lower app running k) (fits_internal app over k) a.2 a.3)))));
  }

-- at idle they begin over none
pub idle_arrivals : (app : App) → AreArrivals app point.Idle (map (arrival_rule app None None) (may_begin_over app None None))
idle_arrivals app = all_arrivals app point.Idle None None (λ k lt lower fits. tt) only
  where
    only : (o : Option TaskNo) (j : Option SourceNo) (k : ℕ) → MayBegin app point.Idle o j k → (o ≡ None) × (j ≡ None) × (is_lower app None k ≡ true) × (fits_internal app None k ≡ true)
    only None None k h = (refl, refl, refl, refl)
    only None (Some j) k h = absurd h
    only (Some t) j k h = absurd h

-- at a block of a task that isn't locked over this task
pub task_arrivals : (app : App) (b : BlockNo) (t : TaskNo) → (the_block app b.0).locked ≡ false → t.0 < length app.tasks → IsOwn app t.0 b.0
    → AreArrivals app (point.Task b) (map (arrival_rule app (Some t) None) (may_begin_over app (Some t) None))
task_arrivals app b t free known own = all_arrivals app (point.Task b) (Some t) None (λ k lt lower fits. record { free = free; known = known; own = own; fits = fits }) only
  where
    only : (o : Option TaskNo) (j : Option SourceNo) (k : ℕ) → MayBegin app (point.Task b) o j k → (o ≡ Some t) × (j ≡ None) × (is_lower app None k ≡ true) × (fits_internal app (Some t) k ≡ true)
    only None j k h = absurd h
    only (Some u) (Some j) k h = absurd h
    only (Some u) None k h =
        let same : u.0 ≡ t.0 = own_once app u.0 t.0 b.0 h.known known h.own own in
        (ap (λ (n : ℕ). Some (task_no n)) same, refl, refl, subst (λ (n : ℕ). fits_internal app (Some (task_no n)) k ≡ true) same h.fits)

-- and at one of a routine those of a higher priority, over the same
pub routine_arrivals : (app : App) (b : BlockNo) (under : Option TaskNo) (i : SourceNo) → (the_block app b.0).locked ≡ false → i.0 < source_count app → IsOfRoutine app i.0 b.0
    → AreArrivals app (point.Routine b under) (map (arrival_rule app under (Some i)) (may_begin_over app under (Some i)))
routine_arrivals app b under i free known own = all_arrivals app (point.Routine b under) under (Some i)
    (λ k lt lower fits. record { free = free; same = refl; known = known; own = own; lower = below k lower; fits = fits }) only
  where
    below : (k : ℕ) → nat_lt (source_priority app i.0) (source_priority app k) ≡ true → source_priority app i.0 < source_priority app k
    below k lower = grind (arith, nat_tests)

    is_below : (k : ℕ) → source_priority app i.0 < source_priority app k → nat_lt (source_priority app i.0) (source_priority app k) ≡ true
    is_below k lower = grind (arith, nat_tests)

    only : (o : Option TaskNo) (j : Option SourceNo) (k : ℕ) → MayBegin app (point.Routine b under) o j k → (o ≡ under) × (j ≡ Some i) × (is_lower app (Some i) k ≡ true) × (fits_internal app under k ≡ true)
    only o None k h = absurd h
    only o (Some j) k h =
        let same : j.0 ≡ i.0 = routine_once app j.0 i.0 b.0 h.known known h.own own in (
          sym h.same,
          ap (λ (n : ℕ). Some (source_no n)) same,
          is_below k (subst (λ (n : ℕ). source_priority app n < source_priority app k) same h.lower),
          subst (λ (u : Option TaskNo). fits_internal app u k ≡ true) (sym h.same) h.fits,
        )
