-- Of each task at each point there is a shape, and of each source.
use Rattle.std.proofs.Common.{◌≡◌, ◌⊎◌, ℕ, ◌+◌, ◌<◌, true, false, not, length, refl, subst, inl, inr, IsTrue, None, Some}
use Rattle.osek_values.specs.{declared.numbers.{TaskNo.{TaskNo}, SourceNo.{SourceNo}, BlockNo.{BlockNo}}, Numbers.{block_no}}
use Rattle.osek_standard.specs.declared.{app.App.{App}, point.Point.{Point}, block.Kind.{Kind}}
use Rattle.osek_standard.specs.declared.point.Point.TheVariants as point
use Rattle.osek_standard.specs.declared.block.Kind.TheVariants as kind
use Rattle.image_model.specs.CallNames as call
use Rattle.osek_standard.specs.{Apps.{the_task, the_block, is_extended, source_count, routine_start, routine_count}, Well.{IsOwn, IsOfRoutine, IsWaitEvent, IsWaitingAt}}
use Rattle.osek_standard.proofs.WellLaws.{own_known}
use Rattle.table_codec.specs.{declared.{shape.Shape.{Shape}, source_shape.SourceShape.{SourceShape}}, Shapes.{IsShape, is_over, HasProcessorAt, HasProcessorNowhere}, SourceShapes.{IsSourceShape}}
use Rattle.table_codec.proofs.SourceShapeLaws.{whole_shape, block_shape, outside, at_its_block, beside}
use Rattle.table_codec.proofs.{Decisions.{Decided, decide_both, decide_less, decide_at_most, decide_true, some_below}, ShapeLaws.{running_shape, running, elsewhere_shape, elsewhere}}

decide_wait : (k : Kind) → Decided (IsWaitEvent k)
decide_wait (kind.Call (call.Mask call.WaitEvent m)) = inl tt
decide_wait _ = inr (λ h. h)

module _ (app : App) (t : TaskNo) (known : t.0 < length app.tasks) where
  decide_own : (b : ℕ) → Decided (IsOwn app t.0 b)
  decide_own b = decide_both (decide_at_most (the_task app t.0).first.0 b) (decide_less b ((the_task app t.0).first.0 + (the_task app t.0).count))

  pub decide_waiting : (b : ℕ) → Decided (IsWaitingAt app t.0 b)
  decide_waiting b = by_parts (decide_own b) (decide_true (is_extended app t.0)) (decide_wait (the_block app b).kind)
    where
      by_parts : Decided (IsOwn app t.0 b) → Decided (IsTrue (is_extended app t.0)) → Decided (IsWaitEvent (the_block app b).kind) → Decided (IsWaitingAt app t.0 b)
      by_parts (inl own) (inl extended) (inl wait) = inl (record { own = own; extended = extended; wait = wait })
      by_parts (inl own) (inl extended) (inr bars) = inr (λ h. bars h.wait)
      by_parts (inl own) (inr bars) wait = inr (λ h. bars h.extended)
      by_parts (inr bars) extended wait = inr (λ h. bars h.own)

  decide_may_wait : Decided ((b : BlockNo) × IsWaitingAt app t.0 b.0)
  decide_may_wait = elim (some_below (IsWaitingAt app t.0) decide_waiting (length app.blocks)) [
    | inl x ↦ inl (block_no x.0, x.1)
    | inr none ↦ inr (λ h. none h.0.0 (own_known app t.0 h.0.0 known h.1.own) h.1)
  ]

  runs_or_not : (p : Point) → ((b : BlockNo) × HasProcessorAt app p t.0 b) ⊎ HasProcessorNowhere app p t.0
  runs_or_not point.Halted = inr (λ b h. let e = h.at in cc)
  runs_or_not point.Idle = inr (λ b h. let e = h.at in cc)
  runs_or_not (point.Task b) = elim (decide_own b.0) [
    | inl own ↦ inl (b, record { at = refl; own = own })
    | inr bars ↦ inr (λ c h. let e = h.at in let same : c ≡ b = cc in bars (subst (λ (x : BlockNo). IsOwn app t.0 x.0) same h.own))
  ]
  runs_or_not (point.Routine b None) = inr (λ c h. let e = h.at in cc)
  runs_or_not (point.Routine b (Some u)) = inr (λ c h. let e = h.at in cc)

  pub some_shape : (p : Point) → (x : Shape) × IsShape app x × (x.point ≡ p) × (x.task ≡ t)
  some_shape p = by_place (runs_or_not p) (decide_both (decide_true (not (is_over p t.0))) decide_may_wait)
    where
      by_place : ((b : BlockNo) × HasProcessorAt app p t.0 b) ⊎ HasProcessorNowhere app p t.0 → Decided (IsTrue (not (is_over p t.0)) × ((b : BlockNo) × IsWaitingAt app t.0 b.0)) → (x : Shape) × IsShape app x × (x.point ≡ p) × (x.task ≡ t)
      by_place (inl at) waits = (running_shape app t known p at.0, running app t known p at.0 at.1, refl, refl)
      by_place (inr none) (inl waits) = (elsewhere_shape app t known p (not (is_over p t.0)) true, elsewhere app t known p true none (λ e. waits, λ h. refl), refl, refl)
      by_place (inr none) (inr bars) = (elsewhere_shape app t known p (not (is_over p t.0)) false, elsewhere app t known p false none (λ e. absurd (cc), λ h. absurd (bars h)), refl, refl)

module _ (app : App) (k : SourceNo) (known : k.0 < source_count app) where
  abbrev SourceShapeAt : Point → Type 0
  SourceShapeAt p = (x : SourceShape) × IsSourceShape app x × (x.point ≡ p) × (x.source ≡ k)

  decide_of_routine : (b : ℕ) → Decided (IsOfRoutine app k.0 b)
  decide_of_routine b = decide_both (decide_at_most (routine_start app k.0).0 b) (decide_less b ((routine_start app k.0).0 + routine_count app k.0))

  pub some_source_shape : (p : Point) → SourceShapeAt p
  some_source_shape point.Halted = (whole_shape app k known point.Halted false, outside app k known point.Halted refl, refl, refl)
  some_source_shape point.Idle = (whole_shape app k known point.Idle false, outside app k known point.Idle refl, refl, refl)
  some_source_shape (point.Task b) = (whole_shape app k known (point.Task b) false, outside app k known (point.Task b) refl, refl, refl)
  some_source_shape (point.Routine b over) = elim (decide_of_routine b.0) [
    | inl own ↦ (block_shape app k known (point.Routine b over) b, at_its_block app k known b over own, refl, refl)
    | inr other ↦ (whole_shape app k known (point.Routine b over) true, beside app k known b over other, refl, refl)
  ]
