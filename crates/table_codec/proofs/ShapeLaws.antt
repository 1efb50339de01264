-- What a task can be where it has the processor, and elsewhere.
use Rattle.std.proofs.Common.{◌≡◌, ◌↔◌, ◌||◌, ℕ, zero, suc, ◌<◌, Bool, true, false, not, List, ◌∷◌, length, refl, sym, ap, subst, ◌∙◌, inl, inr, arith, IsTrue, Some, None}
use Rattle.std.specs.Prelude.{◌==◌, is_some}
use Rattle.std.proofs.lemmas.Bool.{cases_Bool, eq-eqb, eqb-true, false≢true, or_left, or_right}
use Rattle.osek_values.specs.{Numbers.{block_no}, declared.numbers.{TaskNo.{TaskNo}, BlockNo.{BlockNo}}}
use Rattle.osek_standard.specs.declared.{app.App.{App}, objects.Task.{Task}, point.Point.{Point}}
use Rattle.osek_standard.specs.declared.point.Point.TheVariants as point
use Rattle.osek_standard.specs.{Apps.{the_task, no_task}, Well.{IsOwn, IsWaitingAt}}
use Rattle.abstract_state.specs.{declared.value.{LiveVal.{LiveVal}, Val.{Val, TheVariants.{Suspended, Live, Waiting}}}, Components.{FitsPoint}, ValueOrder.{flag_field}}
use Rattle.table_codec.specs.{declared.shape.Shape.{Shape}, Shapes.{IsFlag, IsShape, is_over, HasProcessorAt, HasProcessorNowhere}}

is_not : (b : Bool) → IsTrue (not b) → b ≡ false
is_not true h = absurd (cc)
is_not false h = refl

not_is : (b : Bool) → b ≡ false → IsTrue (not b)
not_is b e = ap not e

-- which flags a shape has
module _ (x : Shape) where
  named_only : (b : Bool) → IsFlag x (flag_field b) → b ≡ true → x.named ≡ true
  named_only true h e = h
  named_only false h e = absurd (false≢true e)

  -- of a task that runs or is interrupted
  flag_right : (b : Bool) → x.is_free ≡ false → IsFlag x (flag_field b) → b ≡ x.named
  flag_right true f h = sym h
  flag_right false f h = sym (is_not x.named (sym (ap (λ (y : Bool). y || not x.named) f) ∙ h))

  pub right_flag : (b : Bool) → b ≡ x.named → IsFlag x (flag_field b)
  right_flag true e = sym e
  right_flag false e = or_right x.is_free (not x.named) (ap not (sym e))

  -- of any other
  free_flag : (b : Bool) → x.is_free ≡ true → (b ≡ true → x.named ≡ true) → IsFlag x (flag_field b)
  free_flag true f h = h refl
  free_flag false f h = or_left x.is_free (not x.named) f

  -- a number that may stand there is a flag's
  pub flag_is : (n : ℕ) → IsFlag x n → flag_field (n == 1) ≡ n
  flag_is zero h = refl
  flag_is (suc zero) h = refl
  flag_is (suc (suc n)) h = absurd h

  pub flag_read : (n : ℕ) (bytes rest : List ℕ) → IsFlag x n → bytes ≡ n ∷ rest → IsFlag x (flag_field (n == 1)) × (bytes ≡ flag_field (n == 1) ∷ rest)
  flag_read n bytes rest h e = (subst (IsFlag x) (sym (flag_is n h)) h, e ∙ ap (λ (m : ℕ). m ∷ rest) (sym (flag_is n h)))

module _ (app : App) (t : TaskNo) (known : t.0 < length app.tasks) where
  -- where the task has the processor it is Live at that block
  abbrev pub running_shape : Point → BlockNo → Shape
  running_shape p b = record {
    point = p;
    task = t;
    is_free = false;
    waits = false;
    first = b;
    count = 1;
    activation = (the_task app t.0).activation;
    named = is_some (the_task app t.0).internal;
  }

  takes_some : 0 < (the_task app t.0).activation
  takes_some = (let least = (app.valid.activations t.0 no_task known).0 in omega (arith, least))

  at_block : (b : BlockNo) → IsOwn app t.0 b.0 → IsShape app (running_shape (point.Task b) b)
  at_block b own = record {
    known = known;
    suspended = (λ e. absurd (cc), λ h. absurd (h.1 own));
    live = λ v. (
      λ h.
          let same : v.block.0 ≡ b.0 = omega (arith, h.among.0, h.among.1) in
          let shape = running_shape (point.Task b) b in (
            record { own = subst (IsOwn app t.0) (sym same) own; further = h.further; named = named_only shape v.inside h.flag; stack = h.stack },
            λ _. (ap block_no same, flag_right shape v.inside refl h.flag),
          ),
      λ h.
          let there = h.1 own in
          let same : v.block.0 ≡ b.0 = ap (λ (x : BlockNo). x.0) there.0 in
          record { among = (omega (arith, same), omega (arith, same)); further = h.0.further; flag = right_flag (running_shape (point.Task b) b) v.inside there.1; stack = h.0.stack },
    );
    some = omega arith;
    takes = takes_some;
    waiting = λ c. (λ h. absurd (cc (h.0)), λ h. absurd (h.1 own));
    waits = (λ e. absurd (cc), λ h. absurd (h.1.1 own));
  }

  pub running : (p : Point) (b : BlockNo) → HasProcessorAt app p t.0 b → IsShape app (running_shape p b)
  running p b h = subst (λ (q : Point). IsShape app (running_shape q b)) (sym h.at) (at_block b h.own)

  free_fits : (p : Point) (v : Val) → HasProcessorNowhere app p t.0 → is_over p t.0 ≡ false → FitsPoint app p t.0 v
  free_fits point.Halted v none e = tt
  free_fits point.Idle v none e = tt
  free_fits (point.Task b) v none e = λ own. absurd (none b (record { at = refl; own = own }))
  free_fits (point.Routine b None) v none e = tt
  free_fits (point.Routine b (Some u)) v none e = λ same. absurd (let d : (u.0 == t.0) ≡ true = eq-eqb u.0 t.0 same in cc)

  suspended_free : (p : Point) → FitsPoint app p t.0 Suspended → is_over p t.0 ≡ false
  suspended_free point.Halted h = refl
  suspended_free point.Idle h = refl
  suspended_free (point.Task b) h = refl
  suspended_free (point.Routine b None) h = refl
  suspended_free (point.Routine b (Some u)) h = elim (cases_Bool (u.0 == t.0)) [
    | inl same ↦ absurd (h (eqb-true u.0 t.0 same))
    | inr other ↦ other
  ]

  waiting_free : (p : Point) (c : BlockNo) → FitsPoint app p t.0 (Waiting c) → is_over p t.0 ≡ false
  waiting_free point.Halted c h = refl
  waiting_free point.Idle c h = refl
  waiting_free (point.Task b) c h = refl
  waiting_free (point.Routine b None) c h = refl
  waiting_free (point.Routine b (Some u)) c h = elim (cases_Bool (u.0 == t.0)) [
    | inl same ↦ absurd (h (eqb-true u.0 t.0 same))
    | inr other ↦ other
  ]

  abbrev pub elsewhere_shape : Point → (is_free waits : Bool) → Shape
  elsewhere_shape p is_free waits = record {
    point = p;
    task = t;
    is_free = is_free;
    waits = waits;
    first = (the_task app t.0).first;
    count = (the_task app t.0).count;
    activation = (the_task app t.0).activation;
    named = is_some (the_task app t.0).internal;
  }

  abbrev shape_at : Point → Bool → Shape
  shape_at p waits = elsewhere_shape p (not (is_over p t.0)) waits

  -- elsewhere a Live task fits the point where its flag is the shape's
  live_fits : (p : Point) (waits : Bool) (v : LiveVal) → HasProcessorNowhere app p t.0 → IsFlag (shape_at p waits) (flag_field v.inside)
      → FitsPoint app p t.0 (Live v)
  live_fits point.Halted waits v none h = tt
  live_fits point.Idle waits v none h = tt
  live_fits (point.Task b) waits v none h = λ own. absurd (none b (record { at = refl; own = own }))
  live_fits (point.Routine b None) waits v none h = tt
  live_fits (point.Routine b (Some u)) waits v none h = λ same. flag_right (shape_at (point.Routine b (Some u)) waits) v.inside (ap not (eq-eqb u.0 t.0 same)) h

  fits_flag : (p : Point) (waits : Bool) (v : LiveVal) → (v.inside ≡ true → is_some (the_task app t.0).internal ≡ true) → FitsPoint app p t.0 (Live v) → IsFlag (shape_at p waits) (flag_field v.inside)
  fits_flag point.Halted waits v named h = free_flag (shape_at point.Halted waits) v.inside refl named
  fits_flag point.Idle waits v named h = free_flag (shape_at point.Idle waits) v.inside refl named
  fits_flag (point.Task b) waits v named h = free_flag (shape_at (point.Task b) waits) v.inside refl named
  fits_flag (point.Routine b None) waits v named h = free_flag (shape_at (point.Routine b None) waits) v.inside refl named
  fits_flag (point.Routine b (Some u)) waits v named h = elim (cases_Bool (u.0 == t.0)) [
    | inl same ↦ right_flag (shape_at (point.Routine b (Some u)) waits) v.inside (h (eqb-true u.0 t.0 same))
    | inr other ↦ free_flag (shape_at (point.Routine b (Some u)) waits) v.inside (ap not other) named
  ]

  pub elsewhere : (p : Point) (waits : Bool) → HasProcessorNowhere app p t.0
      → (IsTrue waits ↔ (IsTrue (not (is_over p t.0)) × ((b : BlockNo) × IsWaitingAt app t.0 b.0))) → IsShape app (elsewhere_shape p (not (is_over p t.0)) waits)
  elsewhere p waits none w = record {
    known = known;
    suspended = (λ e. (tt, free_fits p Suspended none (is_not (is_over p t.0) e)), λ h. not_is (is_over p t.0) (suspended_free p h.1));
    live = λ v. (
      λ h. (record { own = h.among; further = h.further; named = named_only (shape_at p waits) v.inside h.flag; stack = h.stack }, live_fits p waits v none h.flag),
      λ h. record { among = h.0.own; further = h.0.further; flag = fits_flag p waits v h.0.named h.1; stack = h.0.stack },
    );
    some = (let owner = app.valid.each_task t.0 no_task known in owner.some);
    takes = takes_some;
    waiting = λ c. (λ h. (h.1, free_fits p (Waiting c) none (is_not (is_over p t.0) h.0)), λ h. (not_is (is_over p t.0) (waiting_free p c h.1), h.0));
    waits = (
      λ e. let x = w.0 e in (x.1.0, (x.1.1, free_fits p (Waiting x.1.0) none (is_not (is_over p t.0) x.0))),
      λ h. w.1 (not_is (is_over p t.0) (waiting_free p h.0 h.1.1), (h.0, h.1.0)),
    );
  }

  -- the same of what a program found, by the task that it read
  abbrev read_shape : Point → (is_free waits : Bool) → BlockNo → ℕ → Task → Bool → Shape
  read_shape p is_free waits first count x named = record { point = p; task = t; is_free = is_free; waits = waits; first = first; count = count; activation = x.activation; named = named }

  pub running_is : (p : Point) (b : BlockNo) (x : Task) (named : Bool) → the_task app t.0 ≡ x → named ≡ is_some x.internal → HasProcessorAt app p t.0 b → IsShape app (read_shape p false false b 1 x named)
  running_is p b x named e d h =
      subst (λ (y : Bool). IsShape app (read_shape p false false b 1 x y)) (sym d)
      (subst (λ (y : Task). IsShape app (read_shape p false false b 1 y (is_some y.internal))) e (running p b h))

  pub elsewhere_is : (p : Point) (over waits : Bool) (x : Task) (named : Bool) → over ≡ is_over p t.0 → the_task app t.0 ≡ x → named ≡ is_some x.internal → HasProcessorNowhere app p t.0
      → (IsTrue waits ↔ (IsTrue (not over) × ((b : BlockNo) × IsWaitingAt app t.0 b.0))) → IsShape app (read_shape p (not over) waits x.first x.count x named)
  elsewhere_is p over waits x named o e d none w =
      let free : IsTrue waits ↔ (IsTrue (not (is_over p t.0)) × ((b : BlockNo) × IsWaitingAt app t.0 b.0)) = subst (λ (y : Bool). IsTrue waits ↔ (IsTrue (not y) × ((b : BlockNo) × IsWaitingAt app t.0 b.0))) o w in
      subst (λ (y : Bool). IsShape app (read_shape p (not y) waits x.first x.count x named)) (sym o)
      (subst (λ (y : Bool). IsShape app (read_shape p (not (is_over p t.0)) waits x.first x.count x y)) (sym d)
      (subst (λ (y : Task). IsShape app (read_shape p (not (is_over p t.0)) waits y.first y.count y (is_some y.internal))) e (elsewhere p waits none free)))
