-- The hooks of the steps from the states of a row are those of its exits, and those of a table are its rows'.
use Rattle.std.proofs.Common.{◌≡◌, ◌⊎◌, ℕ, ◌<◌, Bool, true, false, ◌&&◌, not, List, length, refl, sym, ap, ap₂, subst, ◌∙◌, inl, inr, arith}
use Rattle.std.specs.{Prelude.{◌==◌, if◌then◌else◌}, Bool.{Decides}}
use Rattle.osek_values.specs.{Hooks.{hook_set, startup, shutdown, error, pre_task, post_task}, declared.{hooks.HookSet.{HookSet}}}
use Rattle.osek_standard.specs.declared.{app.App.{App}, point.Point.{Point}}
use Rattle.osek_standard.specs.{TraceText.{has_hook}, Effects.{wanted}, Kernel.{step}, Outcomes.{Mark, Silent, Arrived, Did, shows}}
use Rattle.abstract_state.specs.{declared.table.{TableRow.{TableRow}, PlainTable.{PlainTable}}, Tables.{Sets, sets_of}, Written.{IsWritten}}
use Rattle.flow_exits.proofs.ExactExits.{some_value}
use Rattle.table_rows.{specs.{declared.bare.BareExit.{BareExit}, BareExits.{bare_exit, AreBareExitsOf}}, proofs.TableRows.{row_in}}
use Rattle.flow_report.specs.{declared.finding.Finding.{Finding}, Findings.{IsHook, NoStepIs, Holds}, FindingOrder.{rank, hook_place}}
use Rattle.flow_report.specs.Noting.{due_hooks, exit_hooks, NotesByExit, NotesAtStart, NotesInRow, NotesInRows, NotesInTable, AreHooks}
use Rattle.flow_report.specs.declared.finding.Finding.TheVariants as finding
use Rattle.flow_report.proofs.{HookBits.{has_no_hook, wanted_none}, HookLaws.{step_due}, RowStates.{row_of_state}}

-- a step shows nothing, or something
silent_or_not : (m : Mark) → (m ≡ Silent) ⊎ (m ≡ Silent → ⊥)
silent_or_not Silent = inl refl
silent_or_not Arrived = inr (λ e. cc)
silent_or_not (Did o x) = inr (λ e. cc)

module _ (app : App) (row : TableRow) (exits : List BareExit) (of : AreBareExitsOf app row exits) where
  -- what a step notes, an exit does
  noted_by_exit : (h : ℕ) → NotesInRow app h row → NotesByExit app row.point exits h
  noted_by_exit h n =
      let s = n.from in
      let e = n.event in
      let due : (step app s e).notes.hooks ≡ wanted app (due_hooks app row.point (shows app s e)) = step_due app s e ∙ ap (λ (p : Point). wanted app (due_hooks app p (shows app s e))) n.at.point in
      elim (silent_or_not (shows app s e)) [
        | inl silent ↦
            (let none : (step app s e).notes.hooks ≡ wanted app 0 = due ∙ ap (λ (m : Mark). wanted app (due_hooks app row.point m)) silent in
            absurd (has_no_hook h (ap (λ (x : HookSet). has_hook x h) (sym (none ∙ wanted_none app)) ∙ n.notes)))
        | inr other ↦
            (let by = of.are.steps s e n.at other in
            record {
              exit = bare_exit by.exit;
              among = of.bare.all by.exit by.listed;
              notes = ap (λ (x : HookSet). has_hook x h) (sym (due ∙ ap (λ (m : Mark). wanted app (due_hooks app row.point m)) by.by.shows)) ∙ n.notes;
            })
      ]

  -- and what an exit notes, a step does
  noted_by_step : (h : ℕ) → NotesByExit app row.point exits h → NotesInRow app h row
  noted_by_step h n =
      let bare = of.bare.each n.exit n.among in
      let whole = bare.exit in
      let x = of.are.exact whole bare.listed in
      let to = x.shown (λ c. (some_value app whole.entry x.filled c).0) (λ c lt. (some_value app whole.entry x.filled c).1 lt) in
      let due : (step app to.from to.event).notes.hooks ≡ exit_hooks app row.point n.exit
      = step_due app to.from to.event ∙ ap₂ (λ (p : Point) (m : Mark). wanted app (due_hooks app p m)) to.at.point to.shows ∙ sym (ap (exit_hooks app row.point) bare.is) in
      record { from = to.from; event = to.event; at = to.at; notes = ap (λ (y : HookSet). has_hook y h) due ∙ n.notes }

  pub hooks_in_row : (x : HookSet) → AreHooks (NotesByExit app row.point exits) x → AreHooks (λ (h : ℕ). NotesInRow app h row) x
  hooks_in_row x are h hook = ((λ has. noted_by_step h ((are h hook).0 has)), (λ n. (are h hook).1 (noted_by_exit h n)))

module _ (app : App) (table : PlainTable) (written : IsWritten app table) where
  -- what a step from a state in the table notes, one from a state of a row does, and the other way round
  pub in_table : (h : ℕ) → NotesInRows app h table.rows → NotesInTable app h (sets_of table)
  in_table h n = record { from = n.notes.from; event = n.notes.event; inside = row_in app table written n.row n.among n.notes.from n.notes.at; notes = n.notes.notes }

  pub in_rows : (h : ℕ) → NotesInTable app h (sets_of table) → NotesInRows app h table.rows
  in_rows h n =
      let r = row_of_state app table written n.from n.inside in
      record { row = r.row; among = r.among; notes = record { from = n.from; event = n.event; at = r.at; notes = n.notes } }

-- ---- hooks that never run

module _ (app : App) (table : Sets) where
  abbrev IsNoted : ℕ → Type 0
  IsNoted h = NotesAtStart app h (length app.modes) ⊎ NotesInTable app h table

  silent_by : (h noted : HookSet) (true_there noted_there : Bool) → has_hook app.hooks h.0 ≡ true_there → has_hook noted h.0 ≡ noted_there → IsHook h.0 → AreHooks IsNoted noted → Decides (true_there && not noted_there) (Holds app table (finding.Silent h))
  silent_by h noted false n t e hook are = (λ no. absurd (cc), λ x. (let wrong : false ≡ true = sym t ∙ x.0.1 in absurd (cc)))
  silent_by h noted true true t e hook are = (λ no. absurd (cc), λ x. absurd (noted_somewhere x.1 ((are h.0 hook).0 e)))
    where
      noted_somewhere : NoStepIs app table (finding.Silent h) → IsNoted h.0 → ⊥
      noted_somewhere none (inl s) = none.starts s.mode s.known s.notes
      noted_somewhere none (inr s) = none.steps s.from s.event s.inside s.notes
  silent_by h noted true false t e hook are = (λ yes. ((hook, t), record { starts = λ m lt n. never (inl (record { mode = m; known = lt; notes = n })); steps = λ s ev inside n. never (inr (record { from = s; event = ev; inside = inside; notes = n })) }), λ x. refl)
    where
      never : IsNoted h.0 → ⊥
      never n = (let wrong : false ≡ true = sym e ∙ (are h.0 hook).1 n in cc)

  pub silent_answer : (h noted : HookSet) (b : Bool) → b ≡ (has_hook app.hooks h.0 && not (has_hook noted h.0)) → IsHook h.0 → AreHooks IsNoted noted → Decides b (Holds app table (finding.Silent h))
  silent_answer h noted b is hook are = subst (λ (x : Bool). Decides x (Holds app table (finding.Silent h))) (sym is) (silent_by h noted (has_hook app.hooks h.0) (has_hook noted h.0) refl refl hook are)

  -- no hook is TRUE
  pub none_silent : (x : HookSet) → x ≡ hook_set 0 → app.hooks ≡ x → (g : Finding) → Holds app table g → (rank g).kind ≡ 3 → ⊥
  none_silent x e is (finding.Suspended t) h k = omega (arith, k)
  none_silent x e is (finding.Unarmed a) h k = omega (arith, k)
  none_silent x e is (finding.Unset t m) h k = omega (arith, k)
  none_silent x e is (finding.Silent f) h k = has_no_hook f.0 (ap (λ (y : HookSet). has_hook y f.0) (sym (is ∙ e)) ∙ h.0.1)
  none_silent x e is (finding.Free b) h k = omega (arith, k)
  none_silent x e is (finding.Dead b) h k = omega (arith, k)

-- ---- the order of hooks

abbrev hook_at : ℕ → ℕ
hook_at p = if p == 0 then error else if p == 1 then startup else if p == 2 then shutdown else if p == 3 then post_task else pre_task

hook_there : (h : ℕ) → IsHook h → hook_at (hook_place h) ≡ h
hook_there h (inl e) = ap (λ (n : ℕ). hook_at (hook_place n)) e ∙ sym e
hook_there h (inr (inl e)) = ap (λ (n : ℕ). hook_at (hook_place n)) e ∙ sym e
hook_there h (inr (inr (inl e))) = ap (λ (n : ℕ). hook_at (hook_place n)) e ∙ sym e
hook_there h (inr (inr (inr (inl e)))) = ap (λ (n : ℕ). hook_at (hook_place n)) e ∙ sym e
hook_there h (inr (inr (inr (inr e)))) = ap (λ (n : ℕ). hook_at (hook_place n)) e ∙ sym e

few_hooks : (h : ℕ) → IsHook h → hook_place h < 5
few_hooks h (inl e) = subst (λ (n : ℕ). hook_place n < 5) (sym e) (omega arith)
few_hooks h (inr (inl e)) = subst (λ (n : ℕ). hook_place n < 5) (sym e) (omega arith)
few_hooks h (inr (inr (inl e))) = subst (λ (n : ℕ). hook_place n < 5) (sym e) (omega arith)
few_hooks h (inr (inr (inr (inl e)))) = subst (λ (n : ℕ). hook_place n < 5) (sym e) (omega arith)
few_hooks h (inr (inr (inr (inr e)))) = subst (λ (n : ℕ). hook_place n < 5) (sym e) (omega arith)

module _ (app : App) (table : Sets) where
  pub silent_known : (g : Finding) → Holds app table g → (rank g).kind ≡ 3 → (rank g).number < 5
  silent_known (finding.Suspended t) h e = absurd (omega (arith, e))
  silent_known (finding.Unarmed a) h e = absurd (omega (arith, e))
  silent_known (finding.Unset t m) h e = absurd (omega (arith, e))
  silent_known (finding.Silent k) h e = few_hooks k.0 h.0.0
  silent_known (finding.Free b) h e = absurd (omega (arith, e))
  silent_known (finding.Dead b) h e = absurd (omega (arith, e))

  pub silent_once : (x : HookSet) (i : ℕ) → IsHook x.0 → hook_place x.0 ≡ i → (g : Finding) → Holds app table g → (rank g).kind ≡ 3 → (rank g).number ≡ i → g ≡ finding.Silent x
  silent_once x i hook is (finding.Suspended t) h e n = absurd (omega (arith, e))
  silent_once x i hook is (finding.Unarmed a) h e n = absurd (omega (arith, e))
  silent_once x i hook is (finding.Unset t m) h e n = absurd (omega (arith, e))
  silent_once x i hook is (finding.Silent k) h e n = ap (λ (m : ℕ). finding.Silent (hook_set m)) (sym (hook_there k.0 h.0.0) ∙ ap hook_at (n ∙ sym is) ∙ hook_there x.0 hook)
  silent_once x i hook is (finding.Free b) h e n = absurd (omega (arith, e))
  silent_once x i hook is (finding.Dead b) h e n = absurd (omega (arith, e))
