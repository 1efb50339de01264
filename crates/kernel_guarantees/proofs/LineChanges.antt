-- What the effect of an instruction does to the line of the tasks that are to run.
use Rattle.std.proofs.Common.{◌≡◌, ◌⊎◌, ℕ, Bool, true, List, [], ◌∷◌, ◌++◌, refl, sym, ap, subst, ◌∙◌, Some, None, inl, inr}
use Rattle.std.specs.declared.option.Option.{Option}
use Rattle.osek_values.specs.{declared.numbers.{SourceNo.{SourceNo}, TaskNo.{TaskNo}}, Numbers.{task_no}}
use Rattle.osek_standard.specs.declared.{app.App.{App}, task_state.Place.{Place}, state.{State.{State}, Processor.{Processor}}}
use Rattle.osek_standard.specs.{States.{task_of, with_source}, Effects.{effect, halted_by, moved_by, returned_to}, Services.{count_up}, Well.{IsActive, Well}}
use Rattle.osek_standard.specs.declared.state.Processor.TheVariants as processor
use Rattle.osek_standard.specs.declared.state.Source.TheVariants as source
use Rattle.kernel_guarantees.specs.Scheduling.{is_shutdown, kind_at}
use Rattle.kernel_guarantees.proofs.{Deeds.{AreDeeds}, Effecting.{effect_does}}

module _ (app : App) (s : State) where
  -- a task goes last: it is activated, or released from waiting
  pub record GoesLast (r : State) : Type 0 where
    pub task : TaskNo
    pub line : r.line ≡ s.line ++ task ∷ []

  -- the kernel halts, and the task that had the processor goes first
  pub record GoesFirst (r : State) : Type 0 where
    pub task : TaskNo
    pub was : task_of s.processor ≡ Some task
    pub off : is_shutdown (kind_at app s) ≡ true
    pub halted : r.processor ≡ processor.Halted
    pub line : r.line ≡ task ∷ s.line

  abbrev pub LineBecomes : State → Type 0
  LineBecomes r = (r.line ≡ s.line) ⊎ (GoesLast r ⊎ GoesFirst r)

  record HasLine (m : State) : Type 0 where
    line : m.line ≡ s.line
    same : m.processor ≡ s.processor

  joins : (m r : State) (n : TaskNo) → HasLine m → r.line ≡ m.line ++ n ∷ [] → LineBecomes r
  joins m r n q e = inr (inl (record { task = n; line = e ∙ ap (λ (l : List TaskNo). l ++ n ∷ []) q.line }))

  counting : (m : State) (c : ℕ) → HasLine m → HasLine (count_up app m c)
  unfolding count_up
  counting m c q = record { line = q.line; same = q.same }

  returning : (m : State) (k : SourceNo) (over : Option TaskNo) (o : Option SourceNo) → HasLine m → LineBecomes (returned_to app (with_source m k.0 source.Out) over o).state
  returning m k None None q = inl q.line
  returning m k (Some c) None q = inl q.line
  returning m k over (Some j) q = inl q.line

  going_first : (m r : State) (c : TaskNo) → is_shutdown (kind_at app s) ≡ true → HasLine m → task_of s.processor ≡ Some c → r.processor ≡ processor.Halted → r.line ≡ c ∷ m.line → LineBecomes r
  going_first m r c off q e halted f = inr (inr (record { task = c; was = e; off = off; halted = halted; line = f ∙ ap (λ (l : List TaskNo). c ∷ l) q.line }))

  halting : (m : State) (p : Processor) → is_shutdown (kind_at app s) ≡ true → HasLine m → s.processor ≡ p → LineBecomes (halted_by m p)
  halting m processor.Halted off q e = inl q.line
  halting m processor.Idle off q e = inl q.line
  halting m (processor.Running c) off q e = going_first m (halted_by m (processor.Running c)) c off q (ap task_of e) refl refl
  halting m (processor.Interrupted k None) off q e = inl q.line
  halting m (processor.Interrupted k (Some c)) off q e = going_first m (halted_by m (processor.Interrupted k (Some c))) c off q (ap task_of e) refl refl

  moving : (to : Place) (p : Processor) → HasLine (moved_by s p to)
  moving to processor.Halted = record { line = refl; same = refl }
  moving to processor.Idle = record { line = refl; same = refl }
  moving to (processor.Running c) = record { line = refl; same = refl }
  moving to (processor.Interrupted k over) = record { line = refl; same = refl }

  line_deeds : AreDeeds app (kind_at app s) HasLine (λ r a. LineBecomes r)
  line_deeds = record {
    counts = λ m c q up. counting m c q;
    arms = λ m a x q sets. record { line = q.line; same = q.same };
    rests = λ m w q. inl q.line;
    takes = λ m c r w q e bare low. inl q.line;
    gives = λ m c n w q e goes. inl q.line;
    routine_takes = λ m l r w q e bare low. inl q.line;
    routine_gives = λ m l n w q e. inl q.line;
    activates = λ m v w q known room goes. joins m _ (task_no v) q refl;
    wakes = λ m v e w q known ext waits goes. joins m _ (task_no v) q refl;
    sets = λ m v e w q known waits sent. inl q.line;
    clears = λ m c e w q r goes. inl q.line;
    ends = λ m c w q e goes. inl q.line;
    chains = λ m c v w q e known room goes chained. joins m _ (task_no v) q refl;
    waits = λ m c w q e ext none goes. inl q.line;
    lets_out = λ m c w q e none goes. inl q.line;
    returns = λ m l over o w q e f goes. returning m l over o q;
    halts = λ m w q off. subst (λ (p : Processor). LineBecomes (halted_by m p)) (sym q.same) (halting m s.processor off q refl);
  }

  pub effect_line : Well app s → IsActive s.processor → (choice : Bool) → LineBecomes (effect app s choice).state
  effect_line w active choice = effect_does app HasLine (λ r a. LineBecomes r) s line_deeds w active (record { line = refl; same = refl }) (λ to. moving to s.processor) choice
