-- Reading a source's value field by field: what is known after each, and which fault of the value a field's fault is.
use Rattle.std.proofs.Common.{◌≡◌, ℕ, suc, ◌<◌, ◌≤◌, ◌≢◌, List, [], ◌∷◌, ◌++◌, length, map, refl, sym, ap, subst, ◌∙◌, inl, inr, arith, append_assoc, IsTrue}
use Rattle.std.specs.Int.{to_be_bytes, w16}
use Rattle.osek_values.specs.{Numbers.{res_no}, declared.numbers.{ResNo.{ResNo}, BlockNo.{BlockNo}}}
use Rattle.osek_standard.specs.{declared.app.App.{App}, Validity.{IsAmong}, Well.{IsStack}}
use Rattle.abstract_state.specs.declared.value.{RoutineVal.{RoutineVal}, PartValue.{PartValue, TheVariants.{OfTask, OfEvent, OfAlarm, OfSource}}}
use Rattle.abstract_state.specs.declared.value.SourceVal.TheVariants as source_val
use Rattle.abstract_state.specs.Components.{routine_val, IsPart}
use Rattle.table_codec.specs.{declared.{fault.Fault.{Fault}, source_shape.SourceShape.{SourceShape}}, Spelling.{resource_numbers, value_fields, fields_from}}
use Rattle.table_codec.specs.{Faults.{IsFieldFault, Begins, IsValueFault}, SourceShapes.{IsSourceTag, IsRoutineShaped, IsSourceShape, shaped_source}}
use Rattle.table_codec.specs.Values.{IsReadValue, IsReadStack, IsStackFault}
use Rattle.table_codec.proofs.{Fields.{narrow_fields, same_stack}, StackEnds.{stack_goes_on, stack_prefix, empty_stack}, ValueReading.{field_fault, late_place, numbers_split, numbers_join}}

module _ (app : App) (x : SourceShape) (s : IsSourceShape app x) where
  abbrev Can : PartValue → Type 0
  Can v = IsPart app x.point (shaped_source x) v

  abbrev Starts : List ℕ → Type 0
  Starts fields = Begins app x.point (shaped_source x) fields

  abbrev Bad : List ℕ → Fault → Type 0
  Bad bytes f = IsValueFault app x.point (shaped_source x) bytes f

  -- the fields of a routine behind the first
  abbrev fields_of : RoutineVal → List ℕ
  fields_of l = l.block.0 ∷ length l.held ∷ resource_numbers l.held

  -- a value whose fields begin with 1 is In
  in_form : (v : PartValue) (rest : List ℕ) → Can v → value_fields v ≡ 1 ∷ rest → (l : RoutineVal) × (v ≡ OfSource (source_val.In l)) × (rest ≡ fields_of l)
  in_form (OfTask v) rest h e = absurd h
  in_form (OfEvent b) rest h e = absurd h
  in_form (OfAlarm b) rest h e = absurd h
  in_form (OfSource source_val.Out) rest h e = absurd (cc)
  in_form (OfSource (source_val.In l)) rest h e = (l, refl, cc)

  some_fields : (v : PartValue) → Can v → value_fields v ≢ []
  some_fields (OfTask v) h e = h
  some_fields (OfEvent b) h e = h
  some_fields (OfAlarm b) h e = h
  some_fields (OfSource source_val.Out) h e = cc
  some_fields (OfSource (source_val.In l)) h e = cc

  -- what is known of a routine whose fields begin so
  pub record IsRoutineOf (fields : List ℕ) : Type 0 where
    pub routine : RoutineVal
    pub can : IsRoutineShaped app x routine
    pub more : List ℕ
    pub is : fields_of routine ≡ fields ++ more

  routine_of : (fields : List ℕ) → Starts (1 ∷ fields) → IsRoutineOf fields
  routine_of fields begins =
      let form = in_form begins.value (fields ++ begins.more) begins.allowed begins.is in
      record { routine = form.0; can = (s.routine form.0).1 (subst Can form.1 begins.allowed); more = begins.more; is = sym form.2 }

  routine_prefix : (l : RoutineVal) (fields more : List ℕ) → IsRoutineShaped app x l → fields_of l ≡ fields ++ more → Starts (1 ∷ fields)
  routine_prefix l fields more can e = record {
    value = OfSource (source_val.In l);
    allowed = (s.routine l).0 can;
    more = more;
    is = ap (λ (f : List ℕ). 1 ∷ f) e;
  }

  -- a routine that holds nothing
  abbrev bare : BlockNo → RoutineVal
  bare b = routine_val b []

  bare_can : (b : BlockNo) → IsTrue x.may_be_in → IsAmong b.0 x.first.0 x.count → IsRoutineShaped app x (bare b)
  bare_can b may among = record { may = may; among = among; stack = empty_stack app; few = omega arith }

  first_among : IsAmong x.first.0 x.first.0 x.count
  first_among = (let some = s.some in (omega arith, omega (arith, some)))

  some_value : (v : PartValue) × Can v
  some_value = elim s.either [
    | inl may ↦ (OfSource source_val.Out, s.out.0 may)
    | inr may ↦ (OfSource (source_val.In (bare x.first)), (s.routine (bare x.first)).0 (bare_can x.first may first_among))
  ]

  -- ---- the tag

  pub tag_fault : (bytes : List ℕ) (f : Fault) → IsFieldFault 0 (IsSourceTag x) bytes f → Bad bytes f
  tag_fault bytes f bad = record {
    fields = [];
    rest = bytes;
    begins = record { value = some_value.0; allowed = some_value.1; more = value_fields some_value.0; is = refl };
    not_whole = some_fields;
    are = refl;
    next = field_fault 0 0 (IsSourceTag x) (λ n. Starts (n ∷ [])) bytes f refl may bad;
  }
    where
      tag_of : (v : PartValue) (n : ℕ) (more : List ℕ) → Can v → value_fields v ≡ n ∷ more → IsSourceTag x n
      tag_of (OfTask v) n more h e = absurd h
      tag_of (OfEvent b) n more h e = absurd h
      tag_of (OfAlarm b) n more h e = absurd h
      tag_of (OfSource source_val.Out) n more h e = (let same : 0 ≡ n = cc in subst (IsSourceTag x) same (s.out.1 h))
      tag_of (OfSource (source_val.In l)) n more h e = (let same : 1 ≡ n = cc in subst (IsSourceTag x) same ((s.routine l).1 h).may)

      may : (n : ℕ) → Starts (n ∷ []) → IsSourceTag x n
      may n begins = tag_of begins.value n begins.more begins.allowed begins.is

  -- ---- of a routine

  module _ (may : IsTrue x.may_be_in) where
    pub block_fault : (bytes : List ℕ) (f : Fault) → IsFieldFault 1 (λ n. IsAmong n x.first.0 x.count) bytes f → Bad (1 ∷ bytes) f
    block_fault bytes f bad = record {
      fields = 1 ∷ [];
      rest = bytes;
      begins = routine_prefix (bare x.first) [] (fields_of (bare x.first)) (bare_can x.first may first_among) refl;
      not_whole = λ v h e. (let form = in_form v [] h e in let rest = form.2 in absurd (cc));
      are = refl;
      next = field_fault 1 1 (λ n. IsAmong n x.first.0 x.count) (λ n. Starts (1 ∷ n ∷ [])) bytes f refl
          (λ n begins. let l = routine_of (n ∷ []) begins in let same : l.routine.block.0 ≡ n = cc (l.is) in subst (λ (m : ℕ). IsAmong m x.first.0 x.count) same l.can.among) bad;
    }

    module _ (b : BlockNo) (among : IsAmong b.0 x.first.0 x.count) where
      abbrev block_bytes : List ℕ → List ℕ
      block_bytes rest = to_be_bytes w16 b.0 ++ rest

      pub size_fault : (bytes rest : List ℕ) (f : Fault) → bytes ≡ block_bytes rest → IsFieldFault 2 (λ n. n ≤ x.most) rest f → Bad (1 ∷ bytes) f
      size_fault bytes rest f e bad = record {
        fields = 1 ∷ b.0 ∷ [];
        rest = rest;
        begins = routine_prefix (bare b) (b.0 ∷ []) (0 ∷ []) (bare_can b may among) refl;
        not_whole = λ v h d. (let form = in_form v (b.0 ∷ []) h d in let more = form.2 in absurd (cc));
        are = ap (λ (l : List ℕ). 1 ∷ l) e;
        next = field_fault 2 2 (λ n. n ≤ x.most) (λ n. Starts (1 ∷ b.0 ∷ n ∷ [])) rest f refl
            (λ n begins. let l = routine_of (b.0 ∷ n ∷ []) begins in let same : length l.routine.held ≡ n = cc (l.is) in omega (arith, same, l.can.few)) bad;
      }

      -- a block and a size stand before a stack's numbers
      stack_bytes : (size : ℕ) (held : List ResNo) (rest : List ℕ) → fields_from 0 (1 ∷ b.0 ∷ size ∷ resource_numbers held) ++ rest ≡ 1 ∷ block_bytes (size ∷ (resource_numbers held ++ rest))
      stack_bytes size held rest = ap (λ (l : List ℕ). 1 ∷ block_bytes (size ∷ (l ++ rest))) (narrow_fields 1 (resource_numbers held))

      abbrev stack_fields : ℕ → List ResNo → List ℕ
      stack_fields size held = b.0 ∷ size ∷ resource_numbers held

      with_stack_can : (held : List ResNo) → IsStack app held → length held ≤ x.most → IsRoutineShaped app x (routine_val b held)
      with_stack_can held stack few = record { may = may; among = among; stack = stack; few = few }

      stack_begins : (size : ℕ) (held : List ResNo) → IsStack app held → length held ≤ size → size ≤ x.most → Starts (1 ∷ stack_fields size held)
      stack_begins size held stack le few =
          let takes = s.takes in
          let goes = stack_goes_on app held size stack le (omega (arith, few, takes)) in
          let whole = goes.size_is in
          routine_prefix (routine_val b (held ++ goes.more)) (stack_fields size held) (resource_numbers goes.more) (with_stack_can (held ++ goes.more) goes.stack (omega (arith, few, whole)))
          (ap (λ (k : ℕ). b.0 ∷ k ∷ resource_numbers (held ++ goes.more)) goes.size_is ∙ ap (λ (l : List ℕ). b.0 ∷ size ∷ l) (numbers_join held goes.more))

      stack_unfinished : (size : ℕ) (held : List ResNo) → length held < size → (v : PartValue) → Can v → value_fields v ≢ 1 ∷ stack_fields size held
      stack_unfinished size held few v h e =
          let form = in_form v (stack_fields size held) h e in
          let rest = form.2 in
          let size_is : size ≡ length form.0.held = cc in
          let same : resource_numbers held ≡ resource_numbers form.0.held = cc in
          omega (arith, few, size_is, ap (λ (l : List ResNo). length l) (same_stack held form.0.held same))

      may_be_next : (size : ℕ) (held : List ResNo) (m : ℕ) → Starts (1 ∷ (stack_fields size held ++ m ∷ [])) → IsStack app (held ++ res_no m ∷ [])
      may_be_next size held m begins =
          let l = routine_of (stack_fields size held ++ m ∷ []) begins in
          let is = l.is in
          let numbers : resource_numbers l.routine.held ≡ (resource_numbers held ++ m ∷ []) ++ l.more = cc in
          let whole = numbers_split l.routine.held held (m ∷ l.more) (numbers ∙ append_assoc (resource_numbers held) (m ∷ []) l.more) in
          stack_prefix app held (res_no m) (map res_no l.more) (subst (IsStack app) whole l.can.stack)

      pub resource_fault : (size : ℕ) (bytes rest : List ℕ) (f : Fault) → size ≤ x.most → bytes ≡ block_bytes (size ∷ rest) → IsStackFault app size rest f → Bad (1 ∷ bytes) f
      resource_fault size bytes rest f few e bad =
          let less = bad.few in
          record {
            fields = 1 ∷ stack_fields size bad.held;
            rest = bad.rest;
            begins = stack_begins size bad.held bad.stack (omega (arith, less)) few;
            not_whole = stack_unfinished size bad.held bad.few;
            are = ap (λ (l : List ℕ). 1 ∷ l) (e ∙ ap (λ (l : List ℕ). block_bytes (size ∷ l)) bad.are) ∙ sym (stack_bytes size bad.held bad.rest);
            next = field_fault 5 (length (1 ∷ stack_fields size bad.held)) (λ m. IsStack app (bad.held ++ res_no m ∷ [])) (λ m. Starts (1 ∷ (stack_fields size bad.held ++ m ∷ []))) bad.rest f
                (late_place (suc (length (resource_numbers bad.held)))) (may_be_next size bad.held) bad.next;
          }

      pub routine_read : (size : ℕ) (held : List ResNo) (bytes rest after : List ℕ) → size ≤ x.most → bytes ≡ block_bytes (size ∷ rest) → IsReadStack app size rest after held
          → IsReadValue app x.point (shaped_source x) (1 ∷ bytes) after (OfSource (source_val.In (routine_val b held)))
      routine_read size held bytes rest after few e read =
          let whole = read.as_many in
          record {
            allowed = (s.routine (routine_val b held)).0 (with_stack_can held read.stack (omega (arith, few, whole)));
            are = ap (λ (l : List ℕ). 1 ∷ l) (e ∙ ap (λ (l : List ℕ). block_bytes (size ∷ l)) read.are) ∙ sym (stack_bytes size held after)
                ∙ ap (λ (k : ℕ). fields_from 0 (1 ∷ b.0 ∷ k ∷ resource_numbers held) ++ after) (sym read.as_many);
          }
