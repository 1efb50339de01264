-- The point of a word is the one that is read from its parts.
use Rattle.std.proofs.Common.{◌≡◌, ◌≢◌, ℕ, ◌+◌, ◌<◌, Bool, true, false, List, [], ◌∷◌, ◌++◌, length, take, drop, Option, Some, None, refl, sym, ◌∙◌, ap, subst, inl, inr, arith, append_assoc}
use Rattle.std.specs.{Prelude.{codes, MatchOption}, Fmt.{decimal}, List.{find, range_with_len}, Str.{bytes_eq}}
use Rattle.std.proofs.lemmas.{Bool.{true≢false}, Fmt.{decimal_injective}, List.{append_cancel_left}, Slice.Eq.{bytes_eq-Decides}}
use Rattle.osek_values.specs.{declared.numbers.{BlockNo.{BlockNo}, TaskNo.{TaskNo}}, Numbers.{block_no, task_no}}
use Rattle.osek_standard.specs.declared.{app.App.{App}, point.Point.{Point}}
use Rattle.osek_standard.specs.declared.point.Point.TheVariants as point
use Rattle.osek_standard.specs.{Apps.{is_task_block}, Points.{IsPoint, IsTaskBlock, IsRoutineBlock, block_points, points_by, points_in_order, routine_points}}
use Rattle.osek_standard.proofs.{Members.{Among, among_contained, among_flat_map, among_map, among_range, contained_among, find_among, find_one, flat_map_among, map_among}, PointLaws.{are_points}, WellLaws.{own_known, routine_known}}
use Rattle.trace_text.specs.{PointTexts.{point_text, task_or_dash}, PointWords.{slash, IsPointOf, point_named}}
use Rattle.trace_text.proofs.{EventLaws.{same_bytes}, GrammarLaws.{front_fails}, Parting.{Lacks, heads_differ, number_lacks, parted}, Parts.{place_found}}
use Rattle.trace_text.proofs.{PointForms.{is_slash, slash_none, slash_at, parts_at}, PointsApart.{IsKnown, few, point_once, task_block_fits, routine_block_fits}}

-- ---- whose block it is

of_task : (own : Bool) (n c : ℕ) (b : BlockNo) → Among (point.Task b) (points_by own n c) → (own ≡ true) × (b.0 ≡ c)
of_task true n c b (inl e) = (refl, cc)
of_task true n c b (inr m) = absurd m
of_task false n c b (inl e) = absurd (cc)
of_task false n c b (inr m) = let h = map_among (λ t. point.Routine (block_no c) (Some (task_no t))) (point.Task b) (range_with_len 0 n) m in absurd (cc (h.2))

of_routine : (own : Bool) (n c : ℕ) (b : BlockNo) (x : Option TaskNo) → Among (point.Routine b x) (points_by own n c) → (own ≡ false) × (b.0 ≡ c)
of_routine true n c b x (inl e) = absurd (cc)
of_routine true n c b x (inr m) = absurd m
of_routine false n c b x (inl e) = (refl, cc)
of_routine false n c b x (inr m) = let h = map_among (λ t. point.Routine (block_no c) (Some (task_no t))) (point.Routine b x) (range_with_len 0 n) m in (refl, cc (h.2))

module _ (app : App) where
  among : (p : Point) → IsPoint app p → Among p (points_in_order app)
  among p h = contained_among (points_in_order app) p ((are_points app).each p h)

  is_point : (p : Point) → Among p (points_in_order app) → IsPoint app p
  is_point p m = (are_points app).no_other p (among_contained (points_in_order app) p m)

  at_block : (p : Point) → Among p (points_in_order app) → p ≢ point.Halted → p ≢ point.Idle → (c : ℕ) × Among p (block_points app c)
  unfolding points_in_order
  at_block p (inl e) halted idle = absurd (halted e)
  at_block p (inr (inl e)) halted idle = absurd (idle e)
  at_block p (inr (inr m)) halted idle = let h = flat_map_among (block_points app) p (range_with_len 0 (length app.blocks)) m in (h.0, h.2)

  of_block : (b : ℕ) (p : Point) → b < length app.blocks → Among p (block_points app b) → IsPoint app p
  unfolding points_in_order
  of_block b p known m =
      is_point p (inr (inr (among_flat_map (block_points app) b p (range_with_len 0 (length app.blocks)) (among_range 0 (length app.blocks) b (omega arith) (omega (arith, known))) m)))

  task_has : (b : BlockNo) → IsTaskBlock app b → is_task_block app b.0 ≡ true
  task_has b h =
      let at = at_block (point.Task b) (among (point.Task b) h) (λ e. cc) (λ e. cc) in
      let is = of_task (is_task_block app at.0) (length app.tasks) at.0 b at.1 in
      ap (is_task_block app) is.1 ∙ is.0

  routine_has : (b : BlockNo) (x : Option TaskNo) → IsRoutineBlock app b x → is_task_block app b.0 ≡ false
  routine_has b x h =
      let at = at_block (point.Routine b x) (among (point.Routine b x) h) (λ e. cc) (λ e. cc) in
      let is = of_routine (is_task_block app at.0) (length app.tasks) at.0 b x at.1 in
      ap (is_task_block app) is.1 ∙ is.0

  pub task_block : (b : ℕ) → b < length app.blocks → is_task_block app b ≡ true → IsTaskBlock app (block_no b)
  task_block b known own = of_block b (point.Task (block_no b)) known (subst (λ (o : Bool). Among (point.Task (block_no b)) (points_by o (length app.tasks) b)) (sym own) (inl refl))

  over_among : (b : ℕ) (x : Option TaskNo) → IsKnown app x → Among (point.Routine (block_no b) x) (routine_points (length app.tasks) b)
  over_among b None h = inl refl
  over_among b (Some t) h =
      inr (among_map (λ u. point.Routine (block_no b) (Some (task_no u))) t.0 (range_with_len 0 (length app.tasks)) (among_range 0 (length app.tasks) t.0 (omega arith) (omega (arith, h))))

  pub routine_block : (b : ℕ) (x : Option TaskNo) → b < length app.blocks → is_task_block app b ≡ false → IsKnown app x → IsRoutineBlock app (block_no b) x
  routine_block b x known own task =
      of_block b (point.Routine (block_no b) x) known (subst (λ (o : Bool). Among (point.Routine (block_no b) x) (points_by o (length app.tasks) b)) (sym own) (over_among b x task))

  task_known : (b : BlockNo) → IsTaskBlock app b → b.0 < length app.blocks
  task_known b h = own_known app h.task b.0 h.known h.own

  routine_at : (b : BlockNo) (x : Option TaskNo) → IsRoutineBlock app b x → b.0 < length app.blocks
  routine_at b x h = routine_known app h.source b.0 h.known h.own

  -- a block that is written so is no other
  one_block : (b c : ℕ) (digits : List ℕ) → b < length app.blocks → c < length app.blocks → decimal b ≡ digits → decimal c ≡ digits → c ≡ b
  one_block b c digits low high e same = decimal_injective c b (few app c high) (few app b low) (same ∙ sym e)

  pub not_tasks : (b : ℕ) (digits : List ℕ) → b < length app.blocks → decimal b ≡ digits → is_task_block app b ≡ false → (c : BlockNo) → IsTaskBlock app c → decimal c.0 ≢ digits
  not_tasks b digits known e other c h same = true≢false (sym (task_has c h) ∙ ap (is_task_block app) (one_block b c.0 digits known (task_known c h) e same) ∙ other)

  pub not_routines : (b : ℕ) (digits : List ℕ) → b < length app.blocks → decimal b ≡ digits → is_task_block app b ≡ true → (c : BlockNo) (x : Option TaskNo) → IsRoutineBlock app c x → decimal c.0 ≢ digits
  not_routines b digits known e own c x h same = true≢false (sym own ∙ ap (is_task_block app) (sym (one_block b c.0 digits known (routine_at c x h) e same)) ∙ routine_has c x h)

  -- ---- a point by what stands behind its `b`

  task_lacks : (b : BlockNo) → IsTaskBlock app b → Lacks 47 (decimal b.0)
  task_lacks b h = number_lacks 47 b.0 (omega arith) (task_block_fits app b h)

  routine_lacks : (b : BlockNo) (x : Option TaskNo) → IsRoutineBlock app b x → Lacks 47 (decimal b.0)
  routine_lacks b x h = number_lacks 47 b.0 (omega arith) (routine_block_fits app b x h)

  slashed : (b : BlockNo) (x : Option TaskNo) (rest : List ℕ) → point_text app (point.Routine b x) ≡ codes "b" ++ rest → decimal b.0 ++ 47 ∷ task_or_dash app x ≡ rest
  slashed b x rest e = sym (append_assoc (decimal b.0) (47 ∷ []) (task_or_dash app x)) ∙ append_cancel_left (codes "b") ((decimal b.0 ++ 47 ∷ []) ++ task_or_dash app x) rest e

  -- without a slash it is a task's
  abbrev pub IsAlone : List ℕ → Option Point → Type 0
  IsAlone digits r = MatchOption r ((b : BlockNo) → IsTaskBlock app b → decimal b.0 ≢ digits) (λ p. IsPoint app p × (point_text app p ≡ codes "b" ++ digits))

  none_alone : (rest : List ℕ) → slash rest ≡ None → ((b : BlockNo) → IsTaskBlock app b → decimal b.0 ≢ rest) → (p : Point) → IsPoint app p → point_text app p ≢ codes "b" ++ rest
  none_alone rest at none point.Halted h e = heads_differ _ _ e refl
  none_alone rest at none point.Idle h e = heads_differ _ _ e refl
  none_alone rest at none (point.Task b) h e = none b h (append_cancel_left (codes "b") (decimal b.0) rest e)
  none_alone rest at none (point.Routine b x) h e =
      let place : slash rest ≡ Some (length (decimal b.0)) = ap slash (sym (slashed b x rest e)) ∙ slash_at (decimal b.0) (task_or_dash app x) (routine_lacks b x h) in
      cc (at, place)

  pub alone : (rest : List ℕ) (r : Option Point) → slash rest ≡ None → IsAlone rest r → IsPointOf app (codes "b" ++ rest) r
  alone rest (Some p) at h = h
  alone rest None at h = none_alone rest at h

  -- with one it is a routine's
  abbrev pub IsOver : (digits name : List ℕ) → Option Point → Type 0
  IsOver digits name r =
      MatchOption r ((b : BlockNo) (x : Option TaskNo) → IsRoutineBlock app b x → decimal b.0 ≡ digits → task_or_dash app x ≢ name)
      (λ p. IsPoint app p × (point_text app p ≡ codes "b" ++ digits ++ codes "/" ++ name))

  none_over : (rest : List ℕ) (k : ℕ) → slash rest ≡ Some k → ((b : BlockNo) (x : Option TaskNo) → IsRoutineBlock app b x → decimal b.0 ≡ take k rest → task_or_dash app x ≢ drop (k + 1) rest) →
      (p : Point) → IsPoint app p → point_text app p ≢ codes "b" ++ rest
  none_over rest k at none point.Halted h e = heads_differ _ _ e refl
  none_over rest k at none point.Idle h e = heads_differ _ _ e refl
  none_over rest k at none (point.Task b) h e =
      let place : slash rest ≡ None = ap slash (sym (append_cancel_left (codes "b") (decimal b.0) rest e)) ∙ slash_none (decimal b.0) (task_lacks b h) in
      cc (at, place)
  none_over rest k at none (point.Routine b x) h e =
      let lacks : Lacks 47 (take k rest) = subst (λ (n : ℕ). Lacks 47 (take n rest)) (place_found is_slash rest k at) (front_fails is_slash rest) in
      let parts = parted 47 (decimal b.0) (take k rest) (task_or_dash app x) (drop (k + 1) rest) (routine_lacks b x h) lacks (slashed b x rest e ∙ parts_at rest k at) in
      none b x h parts.0 parts.1

  whole : (rest : List ℕ) (k : ℕ) → slash rest ≡ Some k → codes "b" ++ take k rest ++ codes "/" ++ drop (k + 1) rest ≡ codes "b" ++ rest
  whole rest k at = ap (λ (l : List ℕ). 98 ∷ l) (append_assoc (take k rest) (47 ∷ []) (drop (k + 1) rest) ∙ sym (parts_at rest k at))

  pub over_one : (rest : List ℕ) (k : ℕ) (r : Option Point) → slash rest ≡ Some k → IsOver (take k rest) (drop (k + 1) rest) r → IsPointOf app (codes "b" ++ rest) r
  over_one rest k (Some p) at h = (h.0, h.1 ∙ whole rest k at)
  over_one rest k None at h = none_over rest k at h

  -- ---- the point of a word is found among all points

  abbrev has_text : List ℕ → Point → Bool
  has_text word p = bytes_eq (point_text app p) word

  found : (word : List ℕ) (o : Option Point) → ((p : Point) → IsPoint app p → point_text app p ≢ word) → find (has_text word) (points_in_order app) ≡ o → o ≡ None
  found word None none e = refl
  found word (Some p) none e =
      let h = find_among (has_text word) p (points_in_order app) e in
      absurd (none p (is_point p h.0) (same_bytes (point_text app p) word h.1))

  pub named_is : (word : List ℕ) (o : Option Point) → IsPointOf app word o → point_named app word ≡ o
  named_is word (Some p) h =
      find_one (has_text word) p (points_in_order app) (among p h.0) ((bytes_eq-Decides (point_text app p) word).1 h.1)
      (λ q m e. point_once app q p (is_point q m) h.0 (same_bytes (point_text app q) word e ∙ sym h.1))
  named_is word None h = found word (point_named app word) h refl

  pub is_named : (word : List ℕ) (o : Option Point) → point_named app word ≡ o → IsPointOf app word o
  is_named word (Some p) e =
      let h = find_among (has_text word) p (points_in_order app) e in
      (is_point p h.0, same_bytes (point_text app p) word h.1)
  is_named word None e = λ p h same. absurd (cc (e, named_is word (Some p) (h, same)))
