-- In code whose locks pair, no service but a lock is called while one is open.
use Rattle.std.proofs.Common.{◌≡◌, ℕ, ◌+◌, true, false, List, [], ◌∷◌, ◌++◌, length, refl, sym, ap, ◌∙◌, subst, inl, inr}
use Rattle.std.specs.{Prelude.{Some, Ok}, List.{AllByRecursion}}
use Rattle.std.proofs.lemmas.{Bool.{cases_lt, false≢true}, List.{get_or_past, Elements.{All-from_recursion}}}
use Rattle.osek_values.{proofs.Lists.{each_append}, specs.declared.refusal.CodeRule.TheVariants.{C7}}
use Rattle.oil_system.specs.declared.system.{CounterObject.{CounterObject}, System.{System}}
use Rattle.osek_standard.specs.declared.{app.App.{App}, block.Block.{Block}}
use Rattle.osek_standard.specs.Validity.{due_of, no_block}
use Rattle.oil_model.proofs.Clean.{each_empty, no_line}
use Rattle.task_code.specs.declared.{call.Call.{Call, TheVariants.{LockCall}}, tree.{Body.{Body}, Code.{Code}, Condition.TheVariants.{Choice, Always}}}
use Rattle.task_code.specs.Statements.{Statements, closed, work_then, if_then, if_else_then, while_then, call_then, closing_line, nodes}
use Rattle.block_graph.specs.{Apps.{HasApp}, Rules.{unpaired_locks}, declared.locks.Opener.{Opener}}
use Rattle.block_graph.specs.Blocks.{app_blocks, blocks_of, body_blocks, entry, expiries, is_locked, kind_of, routine, routine_size, routines, size, source_blocks, source_size}
use Rattle.block_graph.specs.Locks.{behind_call, open_behind, open_behind_call, unpaired, walked}
use Rattle.block_graph.proofs.PairedLocks.{both_closed, called, closed_with, paired_by}
use Rattle.kernel_guarantees.specs.Conditions.{HasQuietLocks, is_quiet}

abbrev IsQuietBlock : Block → Type 0
IsQuietBlock x = x.locked ≡ true → is_quiet x.kind ≡ true

abbrev AreQuiet : List Block → Type 0
AreQuiet xs = AllByRecursion IsQuietBlock xs

-- ---- the blocks of code

module _ (s : System) where
  call_quiet : (locks left : List Opener) (call : Call) → behind_call locks call ≡ Some left → is_locked locks ≡ true → is_quiet (kind_of s call) ≡ true
  call_quiet [] left call e h = absurd (false≢true h)
  call_quiet (opener ∷ more) left (LockCall lock) e h = refl
  call_quiet (opener ∷ more) left _ e h = absurd cc

  statements_quiet : (xs : Statements) (n after : ℕ) (locks end : List Opener) → walked xs locks ≡ Ok end → AreQuiet (blocks_of s xs n after locks)
  statements_quiet (closed line) n after locks end e = tt
  statements_quiet (work_then line count next) n after locks end e = ((λ _. refl), statements_quiet next (n + 1) after locks end e)
  statements_quiet (if_then line branch next) n after locks end e =
      let first = n + 1 in let behind = first + nodes branch in let out = entry next behind after in
      let walks = closed_with (walked branch locks) locks (closing_line branch) (walked next) end e in (
        (λ _. refl),
        each_append IsQuietBlock (blocks_of s branch first out locks) (blocks_of s next behind after locks)
            (statements_quiet branch first out locks locks walks.0) (statements_quiet next behind after locks end walks.1),
      )
  statements_quiet (if_else_then line branch otherwise next) n after locks end e =
      let first = n + 1 in let second = first + nodes branch in let behind = second + nodes otherwise in let out = entry next behind after in
      let left = open_behind branch locks in
      let last = blocks_of s next behind after left in
      let walks = both_closed locks (walked branch locks) (walked otherwise locks) (closing_line otherwise) (walked next) end e in (
        (λ _. refl),
        each_append IsQuietBlock (blocks_of s branch first out locks) (blocks_of s otherwise second out locks ++ last)
            (statements_quiet branch first out locks left walks.0)
            (each_append IsQuietBlock (blocks_of s otherwise second out locks) last (statements_quiet otherwise second out locks left walks.1)
            (statements_quiet next behind after left end walks.2)),
      )
  statements_quiet (while_then line Choice body next) n after locks end e =
      let first = n + 1 in let behind = first + nodes body in
      let walks = closed_with (walked body locks) locks (closing_line body) (walked next) end e in (
        (λ _. refl),
        each_append IsQuietBlock (blocks_of s body first n locks) (blocks_of s next behind after locks) (statements_quiet body first n locks locks walks.0)
            (statements_quiet next behind after locks end walks.1),
      )
  statements_quiet (while_then line Always body next) n after locks end e =
      let first = n + 1 in let behind = first + nodes body in
      let walks = closed_with (walked body locks) locks (closing_line body) (walked next) end e in (
        (λ _. refl),
        each_append IsQuietBlock (blocks_of s body first n locks) (blocks_of s next behind after locks) (statements_quiet body first n locks locks walks.0)
            (statements_quiet next behind after locks end walks.1),
      )
  statements_quiet (call_then line call next) n after locks end e =
      let walk = called locks (behind_call locks call) line (walked next) end e in
      (call_quiet locks (open_behind_call locks call) call walk.0, statements_quiet next (n + 1) after (open_behind_call locks call) end walk.1)

  body_quiet : (body : Body) (n : ℕ) → unpaired body ≡ [] → AreQuiet (body_blocks s body n)
  body_quiet body n none =
      let end = n + nodes body.statements in
      each_append IsQuietBlock (blocks_of s body.statements n end []) _
      (statements_quiet body.statements n end [] [] (paired_by (walked body.statements []) (closing_line body.statements) none))
      ((λ h. absurd (false≢true h)), tt)

  source_quiet : (bodies : List Body) (n : ℕ) → AllByRecursion (λ (body : Body). unpaired body ≡ []) bodies → AreQuiet (source_blocks s bodies n)
  source_quiet [] n h = tt
  source_quiet (body ∷ more) n h = each_append IsQuietBlock (body_blocks s body n) (source_blocks s more (n + size body)) (body_quiet body n h.0)
      (source_quiet more (n + size body) h.1)

  -- no block of a tick routine is locked
  expiries_quiet : (due : List ℕ) (n : ℕ) → AreQuiet (expiries due n)
  expiries_quiet [] n = ((λ h. absurd (false≢true h)), tt)
  expiries_quiet (alarm ∷ due) n = ((λ h. absurd (false≢true h)), expiries_quiet due (n + 1))

  routines_quiet : (counters : List CounterObject) (c n : ℕ) → AreQuiet (routines s counters c n)
  routines_quiet [] c n = tt
  routines_quiet (counter ∷ more) c n =
      let due = due_of s.alarms c in
      each_append IsQuietBlock (routine due n) (routines s more (c + 1) (n + routine_size due)) ((λ h. absurd (false≢true h)), expiries_quiet due (n + 1))
      (routines_quiet more (c + 1) (n + routine_size due))

  app_quiet : (bodies : List Body) → AllByRecursion (λ (body : Body). unpaired body ≡ []) bodies → AreQuiet (app_blocks s bodies)
  app_quiet bodies h = each_append IsQuietBlock (source_blocks s bodies 0) (routines s s.counters 0 (source_size bodies)) (source_quiet bodies 0 h)
      (routines_quiet s.counters 0 (source_size bodies))

  pub quiet_locks : (code : Code) (app : App) → HasApp s code app → HasQuietLocks app
  quiet_locks code app has b locked =
      let none = no_line (unpaired_locks code.bodies) (λ l h. has.no_fault C7 l h) in
      let each = app_quiet code.bodies (each_empty unpaired code.bodies none) in
      elim (cases_lt b (length app.blocks)) [
        | inl inside ↦ All-from_recursion IsQuietBlock app.blocks (subst AreQuiet (sym has.blocks) each) b no_block inside locked
        | inr past ↦ absurd (false≢true (ap (λ (x : Block). x.locked) (sym (get_or_past app.blocks b no_block past)) ∙ locked))
      ]
