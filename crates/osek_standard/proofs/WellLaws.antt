-- What follows from a well-formed state, and from the conditions on an application.
use Rattle.std.proofs.Common.{◌≡◌, ℕ, ◌<◌, ◌-◌, length, ◌∙◌, inl, inr, arith, nat_lt, false, List, refl, IsTrue, subst, ap}
use Rattle.std.proofs.lemmas.Bool.{cases_Bool, Decides.{nat_tests}, false≢true}
use Rattle.osek_values.specs.declared.numbers.BlockNo.{BlockNo}
use Rattle.osek_standard.specs.declared.{app.App.{App}, state.{State.{State}, Processor.{Processor}}, block.Kind.{Kind}, call.Call.{Call}}
use Rattle.osek_standard.specs.Apps.{tables, the_task, the_block, source_count, routine_start, routine_count, no_task, no_block, no_counter, no_isr, the_counter, is_counter}
use Rattle.osek_standard.specs.{Validity.{IsBlock, IsOwner, IsAmong, due_of, tick_may, NamesEntries}, Well.{IsOwn, IsOfRoutine, IsProcessor, InOwner, IsOffsetAt, AreOut}}
use Rattle.osek_standard.specs.States.{is_interrupted}
use Rattle.osek_standard.specs.declared.state.Processor.TheVariants as processor
use Rattle.osek_standard.specs.declared.block.Kind.TheVariants as kind

-- the blocks of a task
pub owner_of : (app : App) (t : ℕ) → t < length app.tasks → IsOwner (tables app) (the_task app t).first.0 (the_task app t).count
owner_of app t known = app.valid.each_task t no_task known

pub own_known : (app : App) (t b : ℕ) → t < length app.tasks → IsOwn app t b → b < length app.blocks
own_known app t b known own = omega (arith, own.1, (owner_of app t known).inside)

pub own_block : (app : App) (t b : ℕ) → t < length app.tasks → IsOwn app t b → IsBlock (tables app) (the_task app t).first.0 (the_task app t).count (the_block app b)
own_block app t b known own = (owner_of app t known).each b no_block own

-- the blocks of a routine
pub routine_owner : (app : App) (k : ℕ) → k < source_count app → IsOwner (tables app) (routine_start app k).0 (routine_count app k)
routine_owner app k known = elim (cases_Bool (nat_lt k (length app.counters))) [
  | inl e ↦ (let below : k < length app.counters = grind (arith, nat_tests) in rw e (app.valid.each_counter k no_counter below).1)
  | inr e ↦ (let below : k - length app.counters < length app.isrs = grind (arith, nat_tests) in rw e (app.valid.each_isr (k - length app.counters) no_isr below))
]

pub routine_known : (app : App) (k b : ℕ) → k < source_count app → IsOfRoutine app k b → b < length app.blocks
routine_known app k b known own = omega (arith, own.1, (routine_owner app k known).inside)

pub routine_block : (app : App) (k b : ℕ) → k < source_count app → IsOfRoutine app k b → IsBlock (tables app) (routine_start app k).0 (routine_count app k) (the_block app b)
routine_block app k b known own = (routine_owner app k known).each b no_block own

calls_nothing : (due : List ℕ) (place : ℕ) (k : Kind) (c : Call) → k ≡ kind.Call c → IsTrue (tick_may due place k) → ⊥
calls_nothing due place k c e h = false≢true (subst (λ (n : Kind). IsTrue (tick_may due place n)) e h)

-- a routine that calls a service is no counter's
pub calls_by_isr : (app : App) (k b : ℕ) (c : Call) → IsOfRoutine app k b → (the_block app b).kind ≡ kind.Call c → is_counter app k ≡ false
calls_by_isr app k b c own e = elim (cases_Bool (is_counter app k)) [
  | inl f ↦ (let below : k < length app.counters = grind (arith, nat_tests) in
      let start : routine_start app k ≡ (the_counter app k).first = rw f refl in
      let count : routine_count app k ≡ (the_counter app k).count = rw f refl in
      let among : IsAmong b (the_counter app k).first.0 (the_counter app k).count
      = (omega (arith, own.0, ap (λ (n : BlockNo). n.0) start), omega (arith, own.1, ap (λ (n : BlockNo). n.0) start, count)) in
      absurd (calls_nothing (due_of app.alarms k) (b - (the_counter app k).first.0) (the_block app b).kind c e ((app.valid.tick_code k below).each b among)))
  | inr f ↦ f
]

-- a block of the caller's owner is in the table
pub in_owner_known : (app : App) (s : State) (p : Processor) → IsProcessor app s p → (b : ℕ) → InOwner app p b → b < length app.blocks
in_owner_known app s processor.Halted h b own = absurd own
in_owner_known app s processor.Idle h b own = absurd own
in_owner_known app s (processor.Running t) h b own = own_known app t.0 b h.running.0 own
in_owner_known app s (processor.Interrupted k over) h b own = routine_known app k.0 b h.known own

-- a block is entered at its first instruction
pub offset_0 : (app : App) (k : Kind) → NamesEntries (tables app) k → IsOffsetAt k 0
offset_0 app (kind.Work n) h = h
offset_0 app _ h = refl

-- where no routine has the processor all are out
pub out_at_task_level : (app : App) (s : State) (p : Processor) → IsProcessor app s p → is_interrupted p ≡ false → AreOut app s
out_at_task_level app s processor.Halted h e = h
out_at_task_level app s processor.Idle h e = h
out_at_task_level app s (processor.Running t) h e = h.out
out_at_task_level app s (processor.Interrupted k over) h e = absurd (cc)
