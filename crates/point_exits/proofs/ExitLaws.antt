-- The exits of one group: each choice of its values has one, and stands where that ends.
use Rattle.std.proofs.Common.{◌≡◌, ℕ, ◌<◌, true, false, List, [], ◌∷◌, ◌++◌, length, map, refl, sym, ap, subst, ◌∙◌, inl, inr, arith, Some, None, IsTrue}
use Rattle.std.specs.{Prelude.{Contains}, declared.option.Option.{Option}}
use Rattle.std.proofs.lemmas.List.{append-nil}
use Rattle.osek_values.specs.declared.numbers.TaskNo.{TaskNo}
use Rattle.osek_standard.specs.declared.{app.App.{App}, point.Point.{Point}}
use Rattle.osek_standard.specs.declared.point.Point.TheVariants as point
use Rattle.osek_standard.proofs.Members.{among_map, map_among, among_contained, contained_among}
use Rattle.abstract_state.specs.{declared.value.PartValue.{PartValue, TheVariants.{OfTask, OfEvent, OfAlarm, OfSource}}, Components.{component_count}, Concrete.{val_of}}
use Rattle.abstract_state.specs.declared.value.Component.TheVariants as component
use Rattle.abstract_state.proofs.{ComponentLaws.{task_counted}, Numbers.{number_known}}
use Rattle.flow_model.specs.declared.case.{Asked.{Asked}, Decision.{Decision}, Leaving.{Leaving}, Stay.{Stay}}
use Rattle.flow_model.specs.declared.case.Asked.TheVariants as asked
use Rattle.flow_model.specs.declared.case.Decision.TheVariants as decision
use Rattle.flow_model.specs.declared.case.Stay.TheVariants as stay
use Rattle.flow_model.specs.declared.runner.Runner.{Runner}
use Rattle.flow_model.specs.declared.runner.Runner.TheVariants as runner
use Rattle.flow_model.specs.{Values.{is_live_value, block_of, block_of_part}, Runners.{component_of, runner_point, IsRunnerOf}, Effects.{AreIn, stay_point, IsKnownStay}, Scheduling.{Decides, DecidesBy, end_point}}
use Rattle.numbered_sets.specs.{declared.numbered_entry.NumberedEntry.{NumberedEntry}, Numbers.{has_number}, NumberedEntries.{numbers_at}, Pools.{Values}}
use Rattle.numbered_sets.specs.Views.{plain_entry}
use Rattle.flow_exits.specs.{declared.exit.Exit.{Exit}, Exits.{IsFilled}}
use Rattle.point_exits.specs.declared.group.{NumberEnd.{NumberEnd}, Ends.{Ends}, ExitGroup.{ExitGroup}}
use Rattle.point_exits.specs.declared.group.Ends.TheVariants as ends
use Rattle.point_exits.specs.Groups.{holding, with_end, exit_at, exits_by, exits_of, all_exits, AreNumbersThere, AreKnownEnds, IsKnownGroup}
use Rattle.point_exits.specs.Deciding.{block_with, AreBlockEnds, AreBlocks, AreStayEnds, AreEndsBy, AddsOne, HasUnsettled, AddsFor, IsGroupFor, IsKnownDecision, IsWhole}
use Rattle.point_exits.proofs.NumberLaws.{member_number, filled_plain}
use Rattle.point_exits.proofs.HeldLaws.{held_number, held_within, held_in, held_filled}

-- where a runner's value stands
abbrev block_point : Runner → (ℕ → PartValue) → Point
block_point r value = runner_point r (block_of_part (value (component_of r)))

-- a runner of the application has a component
pub runner_counted : (app : App) (r : Runner) → IsRunnerOf app r → component_of r < component_count app
runner_counted app (runner.Task t) known = task_counted app t.0 known
runner_counted app (runner.Routine k z over) known = subst (λ (n : ℕ). n < component_count app) (sym known.number) (number_known app (component.Source k) known.known)

-- who gets the processor is Live, so it stands at its value's block
winner_live : (app : App) (value : ℕ → PartValue) (last : Option TaskNo) (a : Asked) (w : TaskNo) → DecidesBy app value last a (decision.To (Some w)) → is_live_value (val_of (value w.0)) ≡ true
winner_live app value last asked.No w h = absurd h
winner_live app value last (asked.Maybe t) w h = h.best.is.live
winner_live app value last asked.Left w h = h.is.live
winner_live app value last asked.Free w h = h.is.live

live_block : (v : PartValue) → is_live_value (val_of v) ≡ true → block_of_part v ≡ block_of (val_of v)
live_block (OfTask v) e = refl
live_block (OfEvent b) e = refl
live_block (OfAlarm b) e = refl
live_block (OfSource v) e = absurd (cc)

module _ (app : App) (pool : List Values) (g : ExitGroup) (where_to : (ℕ → PartValue) → Point) where
  -- an exit with values of the group, which stands where each choice of them does
  record IsExitTo (x : Exit) : Type 0 where
    decision : x.decision ≡ g.decision
    status : x.status ≡ g.status
    filled : IsFilled app x.entry
    within : (value : ℕ → PartValue) → AreIn app x.entry value → AreIn app (plain_entry pool g.entry) value
    target : (value : ℕ → PartValue) → AreIn app x.entry value → x.target ≡ where_to value

  record HasExitTo (xs : Ends) (value : ℕ → PartValue) : Type 0 where
    exit : Exit
    listed : Contains (exits_by pool g xs) exit
    decision : exit.decision ≡ g.decision
    status : exit.status ≡ g.status
    within : AreIn app exit.entry value
    target : exit.target ≡ where_to value

  -- the exits at these ends are such ones, and each choice of values has one
  record AreExitsTo (xs : Ends) : Type 0 where
    known : AreKnownEnds pool g.entry xs
    each : (x : Exit) → Contains (exits_by pool g xs) x → IsExitTo x
    whole : (value : ℕ → PartValue) → AreIn app (plain_entry pool g.entry) value → HasExitTo xs value

  module _ (sound : IsWhole app pool g.entry) where
    one_point : (p : Point) → ((value : ℕ → PartValue) → p ≡ where_to value) → AreExitsTo (ends.At (p ∷ []))
    one_point p stands = record {
      known = tt;
      each = λ x m. elim (contained_among (exit_at pool g g.entry p ∷ []) x m) [
        | inl same ↦ subst IsExitTo (sym same) (record { decision = refl; status = refl; filled = filled_plain app pool g.entry sound.numbers sound.filled sound.size; within = λ value h. h; target = λ value h. stands value })
        | inr none ↦ absurd none
      ];
      whole = λ value h. record { exit = exit_at pool g g.entry p; listed = (0, omega arith, refl); decision = refl; status = refl; within = h; target = stands value };
    }

    module _ (r : Runner) (counted : component_of r < component_count app) (xs : List NumberEnd) (b : AreBlockEnds pool g.entry r xs)
        (stands : (value : ℕ → PartValue) → AreIn app (plain_entry pool g.entry) value → block_point r value ≡ where_to value) where
      abbrev c : ℕ
      c = component_of r

      there : c < length g.entry.sets
      there = omega (arith, counted, sound.size)

      abbrev exit_of : NumberEnd → Exit
      exit_of e = exit_at pool g (with_end g.entry e) e.target

      -- each end is one of the component
      of_it : (e : NumberEnd) → Contains xs e → exit_at pool g (holding g.entry c e.numbers) e.target ≡ exit_of e
      of_it e m = ap (λ (i : ℕ). exit_at pool g (holding g.entry i e.numbers) e.target) (sym (b.some e m).component)

      -- a number of an end is of the entry, and its value stands there
      its : (e : NumberEnd) → Contains xs e → (n : ℕ) (d : PartValue) → IsTrue (has_number e.numbers n) → IsTrue (has_number (numbers_at g.entry c) n) × (e.target ≡ block_with pool r n d)
      its e m n d has = b.each e.target n d (record { end = e; listed = m; target = refl; has = has })

      these : (e : NumberEnd) → Contains xs e → AreNumbersThere pool g.entry c e.numbers
      these e m = record { domain = (b.some e m).domain; known = λ n has. sound.numbers.known c n (its e m n (OfAlarm false) has).0 }

      inside_of : (e : NumberEnd) → Contains xs e → (value : ℕ → PartValue) → AreIn app (plain_entry pool (holding g.entry c e.numbers)) value → AreIn app (plain_entry pool g.entry) value
      inside_of e m = held_within app pool g.entry c e.numbers there (λ n has. (its e m n (OfAlarm false) has).0)

      exit_of_end : (e : NumberEnd) → Contains xs e → IsExitTo (exit_of e)
      exit_of_end e m = subst IsExitTo (of_it e m) (record {
        decision = refl;
        status = refl;
        filled = held_filled app pool g.entry c e.numbers there (these e m).known (b.some e m).some (filled_plain app pool g.entry sound.numbers sound.filled sound.size);
        within = inside_of e m;
        target = λ value h.
            (let x = held_number app pool g.entry c e.numbers there (value c) (h c counted) in
            (its e m x.number (value c) x.has_it).1 ∙ ap (λ (w : PartValue). runner_point r (block_of_part w)) (x.is.is (value c)) ∙ stands value (inside_of e m value h));
      })

      exit_for : (value : ℕ → PartValue) → AreIn app (plain_entry pool g.entry) value → HasExitTo (ends.With xs) value
      exit_for value h =
          let x = member_number pool g.entry c (value c) (h c counted) in
          let found = b.whole x.number (value c) x.has_it in
          let e = found.end in
          record {
            exit = exit_of e;
            listed = among_contained (map exit_of xs) (exit_of e) (among_map exit_of e xs (contained_among xs e found.listed));
            decision = refl;
            status = refl;
            within = subst (λ (y : Exit). AreIn app y.entry value) (of_it e found.listed) (held_in app pool g.entry c e.numbers there value h x.number found.has x.is);
            target = found.target ∙ ap (λ (w : PartValue). runner_point r (block_of_part w)) (x.is.is (value c)) ∙ stands value h;
          }

      with_blocks : AreExitsTo (ends.With xs)
      with_blocks = record {
        known = λ x m.
            (let is = sym (b.some x m).component in
            record { component = subst (λ (i : ℕ). i < length g.entry.sets) is there; numbers = subst (λ (i : ℕ). AreNumbersThere pool g.entry i x.numbers) is (these x m) });
        each = λ x m.
            (let back = map_among exit_of x xs (contained_among (map exit_of xs) x m) in
            subst IsExitTo (sym back.2) (exit_of_end back.0 (among_contained xs back.0 back.1)));
        whole = exit_for;
      }

    at_blocks_of : (r : Runner) → component_of r < component_count app → (xs : Ends) → AreBlocks pool g.entry r xs → ((value : ℕ → PartValue) → AreIn app (plain_entry pool g.entry) value → block_point r value ≡ where_to value) → AreExitsTo xs
    at_blocks_of r lt (ends.At ps) h stands = absurd h
    at_blocks_of r lt (ends.With xs) h stands = with_blocks r lt xs h stands

abbrev end_by : App → Stay → Decision → (ℕ → PartValue) → Point
end_by app where_to d value = end_point app value (stay_point where_to value) d

module _ (app : App) (pool : List Values) (g : ExitGroup) (sound : IsWhole app pool g.entry) (leaving : Leaving) where
  abbrev DecideSo : Decision → Type 0
  DecideSo d = (value : ℕ → PartValue) → AreIn app (plain_entry pool g.entry) value → Decides app value leaving d

  keeps_by : (where_to : Stay) (xs : Ends) → IsKnownStay app where_to → AreStayEnds pool g.entry where_to xs → AreExitsTo app pool g (end_by app where_to decision.Keep) xs
  keeps_by (stay.At p) xs known h = subst (AreExitsTo app pool g (end_by app (stay.At p) decision.Keep)) (sym h) (one_point app pool g (end_by app (stay.At p) decision.Keep) sound p (λ value. refl))
  keeps_by (stay.AtBlockOf r) xs known h = at_blocks_of app pool g (end_by app (stay.AtBlockOf r) decision.Keep) sound r (runner_counted app r known) xs h (λ value within. refl)

  ends_by : (where_to : Stay) (d : Decision) (xs : Ends) → IsKnownStay app where_to → IsKnownDecision app d → DecideSo d → AreEndsBy pool g.entry where_to d xs → AreExitsTo app pool g (end_by app where_to d) xs
  ends_by where_to decision.Keep xs known _ so h = keeps_by where_to xs known h
  ends_by where_to (decision.To None) xs known _ so h = subst (AreExitsTo app pool g (end_by app where_to (decision.To None))) (sym h) (one_point app pool g (end_by app where_to (decision.To None)) sound point.Idle (λ value. refl))
  ends_by where_to (decision.To (Some w)) xs _ known so h = at_blocks_of app pool g (end_by app where_to (decision.To (Some w))) sound (runner.Task w) (task_counted app w.0 known) xs h
      (λ value within. ap point.Task (live_block (value w.0) (winner_live app value leaving.last leaving.asked w (so value within))))

-- ---- one group more

module _ (app : App) (pool : List Values) (leaving : Leaving) (after : NumberedEntry) (P : (ℕ → PartValue) → Decision → Type 0) (d : Decision) (before : List ExitGroup) (stays : IsKnownStay app leaving.stay) (goes : IsKnownDecision app d) where
  added : (g : ExitGroup) → g.decision ≡ Some d → g.status ≡ leaving.status → AreEndsBy pool g.entry leaving.stay d g.ends → IsWhole app pool g.entry → IsGroupFor app pool leaving after P d g.entry → AddsFor app pool leaving after P before (before ++ g ∷ [])
  added g decision status by sound group =
      let all = ends_by app pool g sound leaving leaving.stay d g.ends stays goes group.each by in
      let its : all_exits pool (g ∷ []) ≡ exits_of pool g = append-nil (exits_of pool g) in
      record {
        more = g ∷ [];
        added = refl;
        known = λ k m. elim (contained_among (g ∷ []) k m) [
          | inl is ↦ subst (IsKnownGroup pool) (sym is) (record { numbers = sound.numbers; ends = all.known })
          | inr none ↦ absurd none
        ];
        each = λ x m.
            (let e = all.each x (subst (λ (xs : List Exit). Contains xs x) its m) in
            record {
              decision = d;
              decides = e.decision ∙ decision;
              status = e.status ∙ status;
              filled = e.filled;
              within = λ value h. group.within value (e.within value h);
              each = λ value h. group.each value (e.within value h);
              target = e.target;
            });
        whole = λ value e within decides p.
            (let k = group.whole value e within decides p in
            let x = all.whole value k.1 in
            subst (λ (f : Decision). HasUnsettled app leaving (all_exits pool (g ∷ [])) f value) (sym k.0)
            (record {
              exit = x.exit;
              listed = subst (λ (xs : List Exit). Contains xs x.exit) (sym its) x.listed;
              decision = x.decision ∙ decision;
              status = x.status ∙ status;
              within = x.within;
              target = x.target;
            }));
      }

  pub adds_group : (entry : NumberedEntry) (now : List ExitGroup) → IsWhole app pool entry → IsGroupFor app pool leaving after P d entry → AddsOne pool leaving d entry before now → AddsFor app pool leaving after P before now
  adds_group entry now sound group one =
      let g = one.group in
      subst (AddsFor app pool leaving after P before) (sym one.added)
      (added g one.decision one.status
      (subst (λ (x : NumberedEntry). AreEndsBy pool x leaving.stay d g.ends) (sym one.numbers) one.ends)
      (subst (IsWhole app pool) (sym one.numbers) sound)
      (subst (IsGroupFor app pool leaving after P d) (sym one.numbers) group))
