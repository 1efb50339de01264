-- Whether steps stay in a table, by the exits of a row: of their numbers, and of their values.
use Rattle.std.proofs.Common.{◌≡◌, ℕ, ◌<◌, Bool, true, false, List, length, get_or, IsTrue, refl, sym, ap, subst, ◌∙◌, inl, inr, All}
use Rattle.std.specs.Prelude.{Contains, if◌then◌else◌, ◌==◌}
use Rattle.std.proofs.lemmas.{Bool.{eq-eqb, eqb-true}, List.{get_or_default}}
use Rattle.osek_values.specs.declared.event.Event.{Event}
use Rattle.osek_standard.specs.{declared.{app.App.{App}, state.State.{State}, point.Point.{Point}}, Kernel.{step}, Outcomes.{Mark, Silent, Arrived, Did, shows}}
use Rattle.osek_standard.specs.Points.{point_of, point_number, IsPoint}
use Rattle.osek_standard.proofs.StepKeeps.{step_keeps}
use Rattle.abstract_state.specs.declared.{value.PartValue.{PartValue, TheVariants.{OfAlarm}}, table.{PlainEntry.{PlainEntry}, TableRow.{TableRow}, PlainTable.{PlainTable}}}
use Rattle.abstract_state.specs.{Components.{abstract_of}, Tables.{In, set_at, is_member, sets_of}, Written.{IsWritten}}
use Rattle.abstract_state.proofs.{EqualityLaws.{written_entry}, RegularLaws.{step_regular}, AlikeLaws.{in_alike}, MarkLaws.{shown_silent}, AllowedLaws.{well_point}}
use Rattle.flow_model.specs.Effects.{AreIn, IsAt}
use Rattle.flow_exits.specs.{declared.exit.Exit.{Exit}, Exits.{IsFilled, IsStepTo}}
use Rattle.flow_exits.proofs.ExactExits.{some_value}
use Rattle.numbered_sets.specs.{declared.{table.NumberedRow.{NumberedRow}}, Numbers.{has_number}, NumberedEntries.{numbers_at}}
use Rattle.numbered_sets.specs.{Pools.{Values, values_at, AreValues, IsNumberOf}, Views.{plain_entry, AreNumbersOf}, PlainTables.{row_at, plain_row, plain_table}}
use Rattle.numbered_sets.proofs.{KnownNumbers.{order_onward, one_number}, ViewLaws.{values_of, same_domains}, WrittenRows.{row_entered, row_value, only_there}}
use Rattle.point_exits.specs.{declared.group.ExitGroup.{ExitGroup}, Groups.{all_exits, AreKnownGroups}, Rows.{IsRowIn}}
use Rattle.point_exits.proofs.{ProperRows.{set_known}, NumberLaws.{member_number, number_member}}
use Rattle.table_rows.specs.Rows.{AreRowsFrom, AreExitsOf}
use Rattle.flow_check.specs.{Staying.{IsRowOut, exit_row, NumberedEnd, IsIn, IsOut, AreAllIn, IsSomeGroupOut}, Verdicts.{Leaves}, Flows.{StaysFrom}}
use Rattle.table_rows.proofs.TableRows.{in_row, row_in, plain_listed, listed_plain, pool_is, row_point}
use Rattle.flow_check.proofs.GroupEnds.{HasEnd, exit_end, end_exit, exit_by, ends_known}

-- ---- by number

module _ (app : App) (pool : List Values) (rows : List NumberedRow) (from : AreRowsFrom app pool rows) where
  abbrev table : PlainTable
  table = plain_table pool rows

  -- an end whose numbers are in a row has its values in the table
  pub end_in : (x : NumberedEnd) → IsPoint app x.target → IsIn rows x → IsRowIn (sets_of table) (row_at x.target (plain_entry pool x.entry))
  end_in x point h =
      let row = plain_row pool h.row in
      let listed = plain_listed pool rows h.row h.is.among in
      let at : h.row.point ≡ x.target = row_point app pool rows from h.row h.is.among x.target point h.is.is in
      record {
        entry = subst (λ (p : Point). IsTrue ((sets_of table).entry p)) at (row_entered app table from.written row listed);
        has = λ c v m. subst (λ (p : Point). IsTrue ((sets_of table).has p c v)) at (row_value app table from.written row listed c v ((order_onward pool x.entry h.row.entry h.below).each c v m));
      }

  -- one that isn't in them leaves the table
  pub end_out : (values : All AreValues pool) (some : NumberedRow) → Contains rows some → (x : NumberedEnd) → IsPoint app x.target → AreNumbersOf pool x.entry → IsOut rows x → IsRowOut app (sets_of table) (row_at x.target (plain_entry pool x.entry))
  end_out values some there x point known (inl none) = inl (λ e.
      (let r = (written_entry table x.target).0 e in
      let y = listed_plain pool rows r.row r.among in
      none y.0 y.1 (ap point_number (sym (ap (λ (row : TableRow). row.point) y.2) ∙ r.point))))
  end_out values some there x point known (inr l) =
      let c = l.beside.component in
      let n = l.beside.number in
      let vs = values_at pool c in
      let lt : n < length vs = known.known c n l.beside.has in
      let v = get_or vs n (OfAlarm false) in
      let is : IsNumberOf vs v n = record { known = lt; is = λ d. get_or_default vs n d (OfAlarm false) lt } in
      let member = number_member pool x.entry c v n l.beside.has is in
      let row = plain_row pool l.row in
      let listed = plain_listed pool rows l.row l.is.among in
      let at : l.row.point ≡ x.target = row_point app pool rows from l.row l.is.among x.target point l.is.is in
      inr (record {
        component = c;
        value = v;
        known = set_known app (plain_entry pool x.entry) c v (same_domains pool 0 x.entry.sets ∙ known.domains ∙ pool_is app pool rows from some there) member;
        member = member;
        lacks = λ h.
            let m = member_number pool l.row.entry c v (only_there app table from.written row listed c v (subst (λ (p : Point). IsTrue ((sets_of table).has p c v)) (sym at) h)) in
            let same : m.number ≡ n = one_number vs v m.number n (values_of pool c values).distinct m.is.known lt (m.is.is v) (is.is v) in
            let yes : has_number (numbers_at l.row.entry c) n ≡ true = subst (λ (k : ℕ). has_number (numbers_at l.row.entry c) k ≡ true) same m.has_it in
            let no : false ≡ true = sym l.beside.lacks ∙ yes in
            absurd (cc);
      })

-- ---- by value

-- a value at one component, and any at the others
abbrev chosen : (app : App) (entry : PlainEntry) → IsFilled app entry → ℕ → PartValue → ℕ → PartValue
chosen app entry filled c v d = if d == c then v else (some_value app entry filled d).0

module _ (app : App) (entry : PlainEntry) (filled : IsFilled app entry) (c : ℕ) (v : PartValue) (member : IsTrue (is_member (set_at entry c) v)) where
  chosen_in : AreIn app entry (chosen app entry filled c v)
  chosen_in d lt = by_place (d == c) refl
    where
      by_place : (b : Bool) → (d == c) ≡ b → IsTrue (is_member (set_at entry d) (if b then v else (some_value app entry filled d).0))
      by_place true e = subst (λ (k : ℕ). IsTrue (is_member (set_at entry k) v)) (sym (eqb-true d c e)) member
      by_place false e = (some_value app entry filled d).1 lt

module _ (app : App) (table : PlainTable) (written : IsWritten app table) (row : TableRow) (among : Contains table.rows row) (exits : List Exit) (of : AreExitsOf app row exits) where
  any_step : (x : Exit) (listed : Contains exits x) → IsStepTo app row.point row.entry x (λ c. (some_value app x.entry (of.exact x listed).filled c).0)
  any_step x listed = (let exact = of.exact x listed in exact.shown (λ c. (some_value app x.entry exact.filled c).0) (λ c lt. (some_value app x.entry exact.filled c).1 lt))

  -- steps end at points of the application
  pub target_point : (x : Exit) → Contains exits x → IsPoint app x.target
  target_point x listed =
      let st = any_step x listed in
      subst (IsPoint app) st.target (well_point app (step app st.from st.event).state (step_keeps app st.from st.event st.at.well))

  module _ (all : (x : Exit) → Contains exits x → IsRowIn (sets_of table) (exit_row x)) where
    by_shown : (s : State) (e : Event) → (shows app s e ≡ Silent → ⊥) → IsAt app row.point row.entry s → In app (sets_of table) (step app s e).state
    by_shown s e loud at =
        let by = of.steps s e at loud in
        let x = all by.exit by.listed in
        let t = (step app s e).state in
        record {
          well = step_keeps app s e at.well;
          regular = step_regular app s e at.well at.regular;
          entry = subst (λ (p : Point). IsTrue ((sets_of table).entry p)) (sym by.by.target) x.entry;
          within = λ c lt. subst (λ (p : Point). IsTrue ((sets_of table).has p c (abstract_of app t c))) (sym by.by.target) (x.has c (abstract_of app t c) (by.by.within c lt));
        }

    by_mark : (s : State) (e : Event) (m : Mark) → shows app s e ≡ m → IsAt app row.point row.entry s → In app (sets_of table) s → In app (sets_of table) (step app s e).state
    by_mark s e Silent is at i = in_alike app (sets_of table) s (step app s e).state (step_keeps app s e at.well) (shown_silent app s e is) i
    by_mark s e Arrived is at i = by_shown s e (λ quiet. let wrong : Arrived ≡ Silent = sym is ∙ quiet in absurd cc) at
    by_mark s e (Did o x) is at i = by_shown s e (λ quiet. let wrong : Did o x ≡ Silent = sym is ∙ quiet in absurd cc) at

    -- where all exits are in the table, no step leaves it
    pub stays : StaysFrom app (sets_of table) row.point
    stays s e i at = by_mark s e (shows app s e) refl (in_row app table written row among s i at) i

  -- where one isn't, some step does
  pub leaves : (x : Exit) → Contains exits x → IsRowOut app (sets_of table) (exit_row x) → Leaves app (sets_of table) row.point
  leaves x listed (inl none) =
      let st = any_step x listed in
      record {
        from = st.from;
        event = st.event;
        inside = row_in app table written row among st.from st.at;
        at = st.at.point;
        out = λ i. none (subst (λ (p : Point). IsTrue ((sets_of table).entry p)) st.target i.entry);
      }
  leaves x listed (inr l) =
      let exact = of.exact x listed in
      let value = chosen app x.entry exact.filled l.component l.value in
      let st = exact.shown value (chosen_in app x.entry exact.filled l.component l.value l.member) in
      let is : value l.component ≡ l.value = ap (λ (b : Bool). if b then l.value else (some_value app x.entry exact.filled l.component).0) (eq-eqb l.component l.component refl) in
      record {
        from = st.from;
        event = st.event;
        inside = row_in app table written row among st.from st.at;
        at = st.at.point;
        out = λ i. l.lacks (
            subst (λ (p : Point). IsTrue ((sets_of table).has p l.component l.value)) st.target
            (subst (λ (v : PartValue). IsTrue ((sets_of table).has (point_of (step app st.from st.event).state) l.component v)) (st.parts l.component l.known ∙ is) (i.within l.component l.known))
            );
      }

-- ---- the groups of a row

module _ (app : App) (pool : List Values) (rows : List NumberedRow) (from : AreRowsFrom app pool rows) (row : NumberedRow) (listed : Contains rows row) (groups : List ExitGroup) (of : AreExitsOf app (plain_row pool row) (all_exits pool groups)) where
  abbrev its_table : PlainTable
  its_table = plain_table pool rows

  among_rows : Contains its_table.rows (plain_row pool row)
  among_rows = plain_listed pool rows row listed

  exit_in : AreAllIn rows groups → (x : Exit) → HasEnd pool groups x → IsPoint app x.target → IsRowIn (sets_of its_table) (exit_row x)
  exit_in all x h point =
      let here = end_in app pool rows from h.end (subst (IsPoint app) (ap (λ (y : Exit). y.target) h.is) point) (all h.group h.among h.end h.listed) in
      subst (λ (y : Exit). IsRowIn (sets_of its_table) (exit_row y)) (sym h.is) here

  pub row_stays : AreAllIn rows groups → StaysFrom app (sets_of its_table) row.point
  row_stays all =
      stays app its_table from.written (plain_row pool row) among_rows (all_exits pool groups) of
      (λ x m. exit_in all x (exit_end pool groups x m) (target_point app its_table from.written (plain_row pool row) among_rows (all_exits pool groups) of x m))

  pub row_leaves : All AreValues pool → AreKnownGroups pool groups → IsSomeGroupOut rows groups → Leaves app (sets_of its_table) row.point
  row_leaves values known out =
      let g = out.group in
      let x = out.out.end in
      let m = end_exit pool groups g out.among x out.out.among in
      let k = known g out.among in
      let point = target_point app its_table from.written (plain_row pool row) among_rows (all_exits pool groups) of (exit_by pool g x) m in
      leaves app its_table from.written (plain_row pool row) among_rows (all_exits pool groups) of (exit_by pool g x) m
      (end_out app pool rows from values row listed x point (ends_known pool g g.ends k.numbers k.ends x out.out.among) out.out.out)
