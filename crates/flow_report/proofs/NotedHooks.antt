-- What is noted of hooks, in sets that are joined.
use Rattle.std.proofs.Common.{◌≡◌, ◌⊎◌, ℕ, ◌+◌, ◌||◌, List, [], ◌∷◌, ◌++◌, IsTrue, sym, ap, subst, ◌∙◌, inl, inr, arith}
use Rattle.std.specs.Prelude.{bit_or}
use Rattle.std.proofs.lemmas.{Bool.{or_cases, or_left, or_right, cases_lt}, List.Elements.{Contains-append_left, Contains-push, Contains-push_cases}}
use Rattle.osek_values.specs.{Hooks.{hook_set}, Numbers.{mode_no}, declared.{hooks.HookSet.{HookSet}, numbers.ModeNo.{ModeNo}}}
use Rattle.osek_standard.specs.{declared.{app.App.{App}, point.Point.{Point}}, TraceText.{has_hook}, Kernel.{start}}
use Rattle.abstract_state.specs.declared.table.TableRow.{TableRow}
use Rattle.table_rows.specs.declared.bare.BareExit.{BareExit}
use Rattle.flow_report.specs.{Noting.{exit_hooks, NotesByExit, NotesAtStart, NotesInRow, NotesInRows, AreHooks}}
use Rattle.flow_report.proofs.HookBits.{has_hook_of_both, has_no_hook}

-- ---- sets that are joined

pub no_hooks : (P : ℕ → Type 0) → ((h : ℕ) → P h → ⊥) → (x : HookSet) → x ≡ hook_set 0 → AreHooks P x
no_hooks P none x e h hook = ((λ has. absurd (has_no_hook h (ap (λ (y : HookSet). has_hook y h) (sym e) ∙ has))), (λ p. absurd (none h p)))

module _ (P Q R : ℕ → Type 0) (x y z : HookSet) where
  pub both_hooks : ((h : ℕ) → P h → R h) → ((h : ℕ) → Q h → R h) → ((h : ℕ) → R h → P h ⊎ Q h) → AreHooks P x → AreHooks Q y → z ≡ hook_set (bit_or x.0 y.0) → AreHooks R z
  both_hooks left right either px qy e h hook =
      let same : has_hook z h ≡ (has_hook x h || has_hook y h) = ap (λ (w : HookSet). has_hook w h) e ∙ has_hook_of_both x.0 y.0 h hook in (
        (λ has. elim (or_cases (has_hook x h) (has_hook y h) (sym same ∙ has)) [
          | inl first ↦ left h ((px h hook).0 first)
          | inr second ↦ right h ((qy h hook).0 second)
        ]),
        (λ r. elim (either h r) [
          | inl p ↦ same ∙ or_left (has_hook x h) (has_hook y h) ((px h hook).1 p)
          | inr q ↦ same ∙ or_right (has_hook x h) (has_hook y h) ((qy h hook).1 q)
        ]),
      )

-- ---- starts, mode by mode

module _ (app : App) where
  pub starts_begun : (x : HookSet) → x ≡ hook_set 0 → AreHooks (λ (h : ℕ). NotesAtStart app h 0) x
  starts_begun x e = no_hooks (λ (h : ℕ). NotesAtStart app h 0) (λ h n. (let lt = n.known in omega (arith, lt))) x e

  pub starts_more : (m : ℕ) (before these after : HookSet) (mode : ModeNo) → mode.0 ≡ m → (start app mode).notes.hooks ≡ these → after ≡ hook_set (bit_or before.0 these.0)
      → AreHooks (λ (h : ℕ). NotesAtStart app h m) before → AreHooks (λ (h : ℕ). NotesAtStart app h (m + 1)) after
  starts_more m before these after mode at is e old =
      both_hooks (λ (h : ℕ). NotesAtStart app h m) (λ (h : ℕ). IsTrue (has_hook these h)) (λ (h : ℕ). NotesAtStart app h (m + 1)) before these after
      (λ h n. (let lt = n.known in record { mode = n.mode; known = omega (arith, lt); notes = n.notes }))
      (λ h has. record { mode = mode; known = omega (arith, at); notes = ap (λ (w : HookSet). has_hook w h) is ∙ has })
      (λ h n. (let lt = n.known in elim (cases_lt n.mode.0 m) [
        | inl less ↦ inl (record { mode = n.mode; known = less; notes = n.notes })
        | inr le ↦
            (let same : n.mode ≡ mode = ap mode_no (omega (arith, lt, le, at)) in
            inr (ap (λ (w : HookSet). has_hook w h) (sym is ∙ ap (λ (k : ModeNo). (start app k).notes.hooks) (sym same)) ∙ n.notes))
      ]))
      old (λ h hook. ((λ has. has), (λ has. has))) e

  -- ---- rows, one after another

  pub rows_begun : (x : HookSet) → x ≡ hook_set 0 → AreHooks (λ (h : ℕ). NotesInRows app h []) x
  rows_begun x e = no_hooks (λ (h : ℕ). NotesInRows app h []) (λ h n. (let lt = n.among.1 in omega (arith, lt))) x e

  pub rows_noted : (rows : List TableRow) (row : TableRow) (before these after : HookSet) → after ≡ hook_set (bit_or before.0 these.0)
      → AreHooks (λ (h : ℕ). NotesInRows app h rows) before → AreHooks (λ (h : ℕ). NotesInRow app h row) these → AreHooks (λ (h : ℕ). NotesInRows app h (rows ++ row ∷ [])) after
  rows_noted rows row before these after e old new =
      both_hooks (λ (h : ℕ). NotesInRows app h rows) (λ (h : ℕ). NotesInRow app h row) (λ (h : ℕ). NotesInRows app h (rows ++ row ∷ [])) before these after
      (λ h n. record { row = n.row; among = Contains-append_left rows (row ∷ []) n.row n.among; notes = n.notes })
      (λ h n. record { row = row; among = Contains-push rows row; notes = n })
      (λ h n. elim (Contains-push_cases rows row n.row n.among) [
        | inl first ↦ inl (record { row = n.row; among = first; notes = n.notes })
        | inr same ↦ inr (subst (NotesInRow app h) (sym same) n.notes)
      ])
      old new e

  -- ---- exits, one after another

  module _ (p : Point) where
    pub exits_begun : (x : HookSet) → x ≡ hook_set 0 → AreHooks (NotesByExit app p []) x
    exits_begun x e = no_hooks (NotesByExit app p []) (λ h n. (let lt = n.among.1 in omega (arith, lt))) x e

    pub exit_noted : (done : List BareExit) (x : BareExit) (before these after : HookSet) → these ≡ exit_hooks app p x → after ≡ hook_set (bit_or before.0 these.0)
        → AreHooks (NotesByExit app p done) before → AreHooks (NotesByExit app p (done ++ x ∷ [])) after
    exit_noted done x before these after is e old =
        both_hooks (NotesByExit app p done) (λ (h : ℕ). IsTrue (has_hook these h)) (NotesByExit app p (done ++ x ∷ [])) before these after
        (λ h n. record { exit = n.exit; among = Contains-append_left done (x ∷ []) n.exit n.among; notes = n.notes })
        (λ h has. record { exit = x; among = Contains-push done x; notes = ap (λ (w : HookSet). has_hook w h) (sym is) ∙ has })
        (λ h n. elim (Contains-push_cases done x n.exit n.among) [
          | inl first ↦ inl (record { exit = n.exit; among = first; notes = n.notes })
          | inr same ↦ inr (ap (λ (w : HookSet). has_hook w h) (is ∙ ap (exit_hooks app p) same) ∙ n.notes)
        ])
        old (λ h hook. ((λ has. has), (λ has. has))) e
