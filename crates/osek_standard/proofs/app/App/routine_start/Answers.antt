-- where a counter's routine starts
use Rattle.std.proofs.{Common.{◌≡◌, ℕ, List, length, slice_index_or, sym, ◌∙◌, ap, arith}, lemmas.Bool.{lt-ltb}}
use Rattle.osek_standard.specs.{Apps.{no_counter}, declared.objects.Counter.{Counter}}
use Rattle.osek_standard.proofs.app.App.routine_start.Goals as goal

start_at : (counters : List Counter) (i k : ℕ) (found : Counter) → slice_index_or counters i no_counter ≡ found → i ≡ k → found.first ≡ (slice_index_or counters k no_counter).first
start_at counters i k found e f = ap (λ (x : Counter). x.first) (sym e ∙ ap (λ (n : ℕ). slice_index_or counters n no_counter) f)

pub returns-then-index-counters : goal.returns-then-index-counters
returns-then-index-counters c =
    rw (lt-ltb c.args.source.0 (length c.args.self.now.counters) (omega arith)) (start_at c.args.self.now.counters _ _ _ (c.at.ensures.item no_counter) assumption)
