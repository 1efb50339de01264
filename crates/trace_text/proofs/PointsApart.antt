-- A point has a text of its own.
use Rattle.std.proofs.Common.{◌≡◌, ℕ, ◌<◌, ◌^◌, true, false, ltb, List, [], ◌∷◌, ◌++◌, map, length, refl, sym, ◌∙◌, ap, subst, arith, append_assoc, Option, Some, None}
use Rattle.std.specs.{Prelude.{codes, IfSome}, Fmt.{decimal}, List.{list_all}}
use Rattle.std.proofs.{Math.ListN.{get_or-map}, lemmas.{Bool.{and_parts, ltb-true, true≢false}, Fmt.{decimal_injective}, List.{append_cancel_left, length-map}}}
use Rattle.osek_values.specs.{Names.{is_name, is_name_byte}, Numbers.{task_no, block_no}, declared.numbers.{BlockNo.{BlockNo}, TaskNo.{TaskNo}}}
use Rattle.osek_standard.specs.declared.{app.App.{App}, objects.Task.{Task}, point.Point.{Point}}
use Rattle.osek_standard.specs.declared.point.Point.TheVariants as point
use Rattle.osek_standard.specs.{Apps.{no_task}, Points.{IsPoint, IsTaskBlock, IsRoutineBlock}, TraceText.{task_name}}
use Rattle.osek_standard.proofs.WellLaws.{own_known, routine_known}
use Rattle.text_pieces.proofs.NameLaws.{lacks, name_is, name_once}
use Rattle.trace_text.specs.PointTexts.{block_text, point_text, task_or_dash}
use Rattle.trace_text.proofs.Parting.{Lacks, byte_lacks, has_it, heads_differ, lacks_both, number_lacks, parted}

pub block_once : (b c : ℕ) → b < 2 ^ 64 → c < 2 ^ 64 → block_text b ≡ block_text c → b ≡ c
block_once b c low high e = decimal_injective b c low high (append_cancel_left (codes "b") (decimal b) (decimal c) e)

pub block_lacks : (c b : ℕ) → c < 48 → b < 2 ^ 64 → Lacks c (block_text b)
block_lacks c b h fits = lacks_both c (codes "b") (decimal b) (byte_lacks c 98 (omega (arith, h))) (number_lacks c b h fits)

-- bytes from `-` on
high_lack : (c : ℕ) (xs : List ℕ) → c < 45 → list_all (λ (x : ℕ). ltb 44 x) xs ≡ true → Lacks c xs
high_lack c [] low h = refl
high_lack c (x ∷ xs) low h =
    let parts = and_parts (ltb 44 x) (list_all (λ (y : ℕ). ltb 44 y) xs) h in
    lacks_both c (x ∷ []) xs (byte_lacks c x (omega (arith, low, ltb-true 44 x parts.0))) (high_lack c xs low parts.1)

module _ (app : App) where
  abbrev pub IsKnown : Option TaskNo → Type 0
  IsKnown x = IfSome x (λ t. t.0 < length app.tasks)

  pub named : (t : ℕ) → t < length app.tasks → is_name (task_name app t) ≡ true
  named t h =
      let name : Task → List ℕ = λ (x : Task). x.name in
      let within : t < length (map name app.tasks) = omega (arith, length-map app.tasks name, h) in
      subst (λ n. is_name n ≡ true) (get_or-map name app.tasks t no_task) (app.valid.task_names.each t [] within)

  pub task_once : (x y : Option TaskNo) → IsKnown x → IsKnown y → task_or_dash app x ≡ task_or_dash app y → x ≡ y
  task_once None None h k e = refl
  task_once None (Some t) h k e = absurd (true≢false (sym (named t.0 k) ∙ ap is_name (sym e)))
  task_once (Some t) None h k e = absurd (true≢false (sym (named t.0 h) ∙ ap is_name e))
  task_once (Some t) (Some u) h k e =
      ap (λ (n : ℕ). Some (task_no n)) (name_once (λ (x : Task). x.name) app.tasks no_task app.valid.task_names.distinct t.0 u.0 h k e)

  over_lacks : (c : ℕ) → c < 45 → is_name_byte c ≡ false → (x : Option TaskNo) → IsKnown x → Lacks c (task_or_dash app x)
  over_lacks c low out None h = byte_lacks c 45 low
  over_lacks c low out (Some t) h = lacks c (task_name app t.0) out (name_is (task_name app t.0) (named t.0 h)).bytes

  pub task_lacks : (x : Option TaskNo) → IsKnown x → Lacks 32 (task_or_dash app x)
  task_lacks x h = over_lacks 32 (omega arith) refl x h

  pub few : (b : ℕ) → b < length app.blocks → b < 2 ^ 64
  few b h = omega (arith, h, app.valid.few_blocks)

  pub task_block_fits : (b : BlockNo) → IsTaskBlock app b → b.0 < 2 ^ 64
  task_block_fits b at = few b.0 (own_known app at.task b.0 at.known at.own)

  pub routine_block_fits : (b : BlockNo) (over : Option TaskNo) → IsRoutineBlock app b over → b.0 < 2 ^ 64
  routine_block_fits b over at = few b.0 (routine_known app at.source b.0 at.known at.own)

  -- no point has a byte below `-` that no name has
  pub text_lacks : (c : ℕ) → c < 45 → is_name_byte c ≡ false → (p : Point) → IsPoint app p → Lacks c (point_text app p)
  text_lacks c low out point.Halted h = high_lack c (codes "halt") low refl
  text_lacks c low out point.Idle h = high_lack c (codes "idle") low refl
  text_lacks c low out (point.Task b) h = block_lacks c b.0 (omega (arith, low)) (task_block_fits b h)
  text_lacks c low out (point.Routine b over) h =
      let block = block_lacks c b.0 (omega (arith, low)) (routine_block_fits b over h) in
      lacks_both c (block_text b.0 ++ codes "/") (task_or_dash app over) (lacks_both c (block_text b.0) (codes "/") block (byte_lacks c 47 (omega (arith, low)))) (over_lacks c low out over h.task)

  pub point_lacks : (p : Point) → IsPoint app p → Lacks 32 (point_text app p)
  point_lacks p h = text_lacks 32 (omega arith) refl p h

  -- a block alone has no slash
  no_slash : (b : BlockNo) (h : IsTaskBlock app b) (c : BlockNo) (over : Option TaskNo) → point_text app (point.Task b) ≡ point_text app (point.Routine c over) → ⊥
  no_slash b h c over e =
      has_it 47 (block_text c.0) (task_or_dash app over)
      (subst (Lacks 47) (e ∙ append_assoc (block_text c.0) (codes "/") (task_or_dash app over)) (block_lacks 47 b.0 (omega arith) (task_block_fits b h)))

  routine_once : (b c : BlockNo) (x y : Option TaskNo) → IsRoutineBlock app b x → IsRoutineBlock app c y → point_text app (point.Routine b x) ≡ point_text app (point.Routine c y) → point.Routine b x ≡ point.Routine c y
  routine_once b c x y h k e =
      let low = routine_block_fits b x h in
      let high = routine_block_fits c y k in
      let parts = parted 47 (block_text b.0) (block_text c.0) (task_or_dash app x) (task_or_dash app y)
      (block_lacks 47 b.0 (omega arith) low) (block_lacks 47 c.0 (omega arith) high)
      (sym (append_assoc (block_text b.0) (codes "/") (task_or_dash app x)) ∙ e ∙ append_assoc (block_text c.0) (codes "/") (task_or_dash app y)) in
      ap (λ (n : ℕ). point.Routine (block_no n) x) (block_once b.0 c.0 low high parts.0) ∙ ap (point.Routine c) (task_once x y h.task k.task parts.1)

  pub point_once : (p q : Point) → IsPoint app p → IsPoint app q → point_text app p ≡ point_text app q → p ≡ q
  point_once point.Halted point.Halted h k e = refl
  point_once point.Halted point.Idle h k e = absurd (heads_differ _ _ e refl)
  point_once point.Halted (point.Task c) h k e = absurd (heads_differ _ _ e refl)
  point_once point.Halted (point.Routine c y) h k e = absurd (heads_differ _ _ e refl)
  point_once point.Idle point.Halted h k e = absurd (heads_differ _ _ e refl)
  point_once point.Idle point.Idle h k e = refl
  point_once point.Idle (point.Task c) h k e = absurd (heads_differ _ _ e refl)
  point_once point.Idle (point.Routine c y) h k e = absurd (heads_differ _ _ e refl)
  point_once (point.Task b) point.Halted h k e = absurd (heads_differ _ _ e refl)
  point_once (point.Task b) point.Idle h k e = absurd (heads_differ _ _ e refl)
  point_once (point.Task b) (point.Task c) h k e = ap (λ (n : ℕ). point.Task (block_no n)) (block_once b.0 c.0 (task_block_fits b h) (task_block_fits c k) e)
  point_once (point.Task b) (point.Routine c y) h k e = absurd (no_slash b h c y e)
  point_once (point.Routine b x) point.Halted h k e = absurd (heads_differ _ _ e refl)
  point_once (point.Routine b x) point.Idle h k e = absurd (heads_differ _ _ e refl)
  point_once (point.Routine b x) (point.Task c) h k e = absurd (no_slash c k b x (sym e))
  point_once (point.Routine b x) (point.Routine c y) h k e = routine_once b c x y h k e
