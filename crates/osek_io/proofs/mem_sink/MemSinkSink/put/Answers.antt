-- a put that fails counts one fault
use Rattle.std.proofs.{Common.{◌≡◌, ℕ, true, List, subst, arith}, lemmas.Grind.{common_steps}}
use Rattle.osek_io.specs.{Counts.{one_more}, MemSink.{SinkState, is_refused, after_put}}
use Rattle.osek_io.proofs.mem_sink.MemSinkSink.put.Goals as goal

refused : (s v : SinkState) (piece : List ℕ) (calls faults : ℕ) → v ≡ s → calls ≡ one_more v.calls → is_refused v piece ≡ true → faults ≡ one_more v.faults → record v { calls = calls; faults = faults } ≡ after_put s piece
refused s v piece calls faults same e h f =
    subst (λ (x : SinkState). record v { calls = calls; faults = faults } ≡ after_put x piece) same (rw h (λ i. record v { calls = e i; faults = f i }))

pub returns-then-listed-clause-cause : goal.returns-then-listed-clause-cause
returns-then-listed-clause-cause c = rw (← c.self.view_is) (omega arith)

pub returns-then-listed-clause-never_falls : goal.returns-then-listed-clause-never_falls
returns-then-listed-clause-never_falls c = rw (← c.self.view_is) (omega arith)

pub returns-then-listed-clause-after : goal.returns-then-listed-clause-after
returns-then-listed-clause-after c = refused c.args.self.now _ c.args.piece.now _ _ c.self.view_is c.one_more-self-inside.ensures (grind (arith, common_steps)) assumption
