-- What a source can be where its routine has the processor, and elsewhere.
use Rattle.std.proofs.Common.{◌≡◌, ℕ, ◌<◌, ◌≤◌, Bool, true, false, List, [], ◌∷◌, length, refl, sym, ap, subst, inl, inr, arith, Some, None}
use Rattle.std.specs.Prelude.{if◌then◌else◌}
use Rattle.std.proofs.lemmas.Bool.{cases_Bool}
use Rattle.osek_values.specs.{Numbers.{block_no}, declared.numbers.{SourceNo.{SourceNo}, BlockNo.{BlockNo}, ResNo.{ResNo}, TaskNo.{TaskNo}}}
use Rattle.std.specs.declared.option.Option.{Option}
use Rattle.osek_standard.specs.{declared.{app.App.{App}, point.Point.{Point}}, Apps.{source_count, routine_start, routine_count, is_counter}, Counts.{takable_count}, Well.{IsOfRoutine}}
use Rattle.osek_standard.specs.declared.point.Point.TheVariants as point
use Rattle.osek_standard.proofs.WellLaws.{routine_owner}
use Rattle.abstract_state.specs.declared.value.{RoutineVal.{RoutineVal}, PartValue.{PartValue, TheVariants.{OfTask, OfEvent, OfAlarm, OfSource}}}
use Rattle.abstract_state.specs.declared.value.Component.TheVariants as component
use Rattle.abstract_state.specs.declared.value.SourceVal.TheVariants as source_val
use Rattle.abstract_state.specs.Components.{IsRoutineVal, IsPart}
use Rattle.abstract_state.proofs.TakableStacks.{few_on_stack}
use Rattle.table_codec.specs.{declared.source_shape.SourceShape.{SourceShape}, Kept.{BarsNoValue}, SourceShapes.{IsSourceShape, routine_at, most_held}}

no_held : (h : List ResNo) → length h ≤ 0 → h ≡ []
no_held [] le = refl
no_held (r ∷ h) le = absurd (omega (arith, le))

module _ (app : App) (k : SourceNo) (known : k.0 < source_count app) where
  abbrev Most : Bool → ℕ
  Most c = if c then 0 else takable_count app

  takes_few : (c : Bool) → Most c ≤ takable_count app
  takes_few true = omega arith
  takes_few false = omega arith

  -- a routine holds no more than it may, and a tick routine holds nothing
  held_few : (x : RoutineVal) → IsRoutineVal app k.0 x → length x.held ≤ most_held app k.0
  held_few x h = elim (cases_Bool (is_counter app k.0)) [
    | inl e ↦ (let none : length x.held ≤ 0 = omega (arith, ap (λ (l : List ResNo). length l) (h.none e)) in subst (λ (c : Bool). length x.held ≤ Most c) (sym e) none)
    | inr e ↦ subst (λ (c : Bool). length x.held ≤ Most c) (sym e) (few_on_stack app x.held h.stack)
  ]

  holds_none : (x : RoutineVal) → length x.held ≤ most_held app k.0 → is_counter app k.0 ≡ true → x.held ≡ []
  holds_none x few e = no_held x.held (subst (λ (c : Bool). length x.held ≤ Most c) e few)

  abbrev pub shape_of : Point → (may_be_out may_be_in : Bool) → BlockNo → (count most : ℕ) → SourceShape
  shape_of p may_be_out may_be_in first count most = record { point = p; source = k; may_be_out = may_be_out; may_be_in = may_be_in; first = first; count = count; most = most }

  abbrev pub whole_shape : Point → Bool → SourceShape
  whole_shape p may_be_in = shape_of p true may_be_in (routine_start app k.0) (routine_count app k.0) (most_held app k.0)

  abbrev pub block_shape : Point → BlockNo → SourceShape
  block_shape p b = shape_of p false true b 1 (most_held app k.0)

  -- ---- where no routine has the processor

  out_there : (p : Point) → routine_at p ≡ None → IsPart app p (component.Source k) (OfSource source_val.Out)
  out_there point.Halted e = (tt, refl)
  out_there point.Idle e = (tt, refl)
  out_there (point.Task b) e = (tt, refl)
  out_there (point.Routine b over) e = absurd (cc)

  in_nowhere : (p : Point) (x : RoutineVal) → routine_at p ≡ None → IsPart app p (component.Source k) (OfSource (source_val.In x)) → ⊥
  in_nowhere point.Halted x e h = (let out = h.1 in cc)
  in_nowhere point.Idle x e h = (let out = h.1 in cc)
  in_nowhere (point.Task b) x e h = (let out = h.1 in cc)
  in_nowhere (point.Routine b over) x e h = cc

  pub outside : (p : Point) → routine_at p ≡ None → IsSourceShape app (whole_shape p false)
  outside p e = record {
    known = known;
    out = (λ may. out_there p e, λ h. refl);
    routine = λ x. (λ h. absurd (let no = h.may in cc), λ h. absurd (in_nowhere p x e h));
    either = inl refl;
    some = (routine_owner app k.0 known).some;
    takes = takes_few (is_counter app k.0);
  }

  -- ---- where a routine has it

  module _ (b : BlockNo) (over : Option TaskNo) where
    -- it is the source's: In at its block
    pub at_its_block : IsOfRoutine app k.0 b.0 → IsSourceShape app (block_shape (point.Routine b over) b)
    at_its_block own = record {
      known = known;
      out = (λ may. absurd (cc), λ h. absurd (h.1 own));
      routine = λ x. (
        λ h.
            let same : x.block.0 ≡ b.0 = omega (arith, h.among.0, h.among.1) in (
              record { own = subst (IsOfRoutine app k.0) (sym same) own; stack = h.stack; none = holds_none x h.few },
              λ _. ap block_no same,
            ),
        λ h.
            let same : x.block.0 ≡ b.0 = ap (λ (c : BlockNo). c.0) (h.1 own) in
            record { may = refl; among = (omega (arith, same), omega (arith, same)); stack = h.0.stack; few = held_few x h.0 },
      );
      either = inr refl;
      some = omega arith;
      takes = takes_few (is_counter app k.0);
    }

    -- or another's
    pub beside : (IsOfRoutine app k.0 b.0 → ⊥) → IsSourceShape app (whole_shape (point.Routine b over) true)
    beside other = record {
      known = known;
      out = (λ may. (tt, λ own. absurd (other own)), λ h. refl);
      routine = λ x. (
        λ h. (record { own = h.among; stack = h.stack; none = holds_none x h.few }, λ own. absurd (other own)),
        λ h. record { may = refl; among = h.0.own; stack = h.0.stack; few = held_few x h.0 },
      );
      either = inl refl;
      some = (routine_owner app k.0 known).some;
      takes = takes_few (is_counter app k.0);
    }

  -- ---- the same of what a program found

  module _ (p : Point) (first : BlockNo) (count most : ℕ) (start : first ≡ routine_start app k.0) (size : count ≡ routine_count app k.0) (takes : most ≡ most_held app k.0) where
    found : (may_be_in : Bool) → IsSourceShape app (whole_shape p may_be_in) → IsSourceShape app (shape_of p true may_be_in first count most)
    found may_be_in h =
        subst (λ (b : BlockNo). IsSourceShape app (shape_of p true may_be_in b count most)) (sym start)
        (subst (λ (n : ℕ). IsSourceShape app (shape_of p true may_be_in (routine_start app k.0) n most)) (sym size)
        (subst (λ (n : ℕ). IsSourceShape app (shape_of p true may_be_in (routine_start app k.0) (routine_count app k.0) n)) (sym takes) h))

    pub outside_found : None ≡ routine_at p → IsSourceShape app (shape_of p true false first count most)
    outside_found e = found false (outside p (sym e))

    pub beside_found : (b : BlockNo) → Some b ≡ routine_at p → (IsOfRoutine app k.0 b.0 → ⊥) → IsSourceShape app (shape_of p true true first count most)
    beside_found b e other = found true (by_point p e)
      where
        by_point : (q : Point) → Some b ≡ routine_at q → IsSourceShape app (whole_shape q true)
        by_point point.Halted e = absurd (cc)
        by_point point.Idle e = absurd (cc)
        by_point (point.Task c) e = absurd (cc)
        by_point (point.Routine c over) e = (let same : b ≡ c = cc in beside c over (subst (λ (d : BlockNo). IsOfRoutine app k.0 d.0 → ⊥) same other))

    pub block_found : (b : BlockNo) → Some b ≡ routine_at p → IsOfRoutine app k.0 b.0 → IsSourceShape app (shape_of p false true b 1 most)
    block_found b e own = subst (λ (n : ℕ). IsSourceShape app (shape_of p false true b 1 n)) (sym takes) (by_point p e)
      where
        by_point : (q : Point) → Some b ≡ routine_at q → IsSourceShape app (block_shape q b)
        by_point point.Halted e = absurd (cc)
        by_point point.Idle e = absurd (cc)
        by_point (point.Task c) e = absurd (cc)
        by_point (point.Routine c over) e =
            let same : c ≡ b = cc in
            subst (λ (d : BlockNo). IsSourceShape app (block_shape (point.Routine d over) b)) (sym same) (at_its_block b over own)

  -- at a block of another's it may be what it may be anywhere
  pub free_beside : (p : Point) (b : BlockNo) → Some b ≡ routine_at p → (IsOfRoutine app k.0 b.0 → ⊥) → BarsNoValue app p (component.Source k)
  free_beside point.Halted b e other = absurd (cc)
  free_beside point.Idle b e other = absurd (cc)
  free_beside (point.Task c) b e other = absurd (cc)
  free_beside (point.Routine c over) b e other = λ q v h. by_value q v h
    where
      by_value : (q : Point) (v : PartValue) → IsPart app q (component.Source k) v → IsPart app (point.Routine c over) (component.Source k) v
      by_value q (OfTask v) h = absurd h
      by_value q (OfEvent v) h = absurd h
      by_value q (OfAlarm v) h = absurd h
      by_value q (OfSource v) h = (h.0, λ own. absurd (let same : c ≡ b = cc in other (subst (λ (d : BlockNo). IsOfRoutine app k.0 d.0) same own)))
