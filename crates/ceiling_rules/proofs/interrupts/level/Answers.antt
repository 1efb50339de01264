-- at task level the task's own, and one more routine is counted
use Rattle.std.proofs.Common.{◌≡◌, ℕ, suc, ◌+◌, ◌-◌, ◌<◌, max, length, arith, ap, subst, sym, ◌∙◌}
use Rattle.std.specs.List.{fold, range_with_len}
use Rattle.osek_standard.specs.{States.{source_state}, Levels.{routine_level}}
use Rattle.osek_standard.proofs.LevelLaws.{level_of_task}
use Rattle.ceiling_rules.proofs.interrupts.level.Goals as goal

counts : (f : ℕ → ℕ → ℕ) (v w i n whole : ℕ) → i < n → fold f v (range_with_len i (n - i)) ≡ whole → w ≡ f v i → fold f w (range_with_len (i + 1) (n - (i + 1))) ≡ whole
counts f v w i n whole below h e =
    let one : n - i ≡ suc (n - (i + 1)) = omega arith in
    ap (λ (u : ℕ). fold f u (range_with_len (i + 1) (n - (i + 1)))) e ∙ subst (λ (m : ℕ). fold f v (range_with_len i m) ≡ whole) one h

pub loop-source-preserved : goal.loop-source-preserved
loop-source-preserved c =
    let below : c.loop-source.source < length c.args.state.now.sources = omega (arith, c.loop-source-test.true, c.loop-source.auto.source-end, c.len-source-end.ensures) in
    counts (λ n k. max n (routine_level c.args.app.now k (source_state c.args.state.now k))) _ _ _ _ _ below c.loop-source.invariant (cc)

pub returns-then-not-is_interrupted : goal.returns-then-not-is_interrupted
returns-then-not-is_interrupted c =
    c.task_level-level.ensures ∙ sym (level_of_task c.args.app.now c.args.state.now c.requires (sym c.if-not-is_interrupted.ensures))
