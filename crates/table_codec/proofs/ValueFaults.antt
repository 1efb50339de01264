-- The next value of a task or of a source: it is read in one way, or has one fault.
use Rattle.std.proofs.Common.{◌≡◌, ℕ, suc, ◌^◌, ◌<◌, ◌≤◌, Bool, true, false, List, [], ◌∷◌, ◌++◌, length, refl, sym, ap, subst, ◌∙◌, inl, inr, arith, append_assoc, append-nil, length-append, eqb-true}
use Rattle.std.specs.{Prelude.{◌==◌, if◌then◌else◌}, List.{AllByRecursion}}
use Rattle.std.proofs.lemmas.List.Elements.{recursion_from_All}
use Rattle.osek_values.specs.declared.numbers.ResNo.{ResNo}
use Rattle.osek_standard.specs.{declared.{app.App.{App}, point.Point.{Point}}, Apps.{no_task, source_count}, Well.{IsStack}}
use Rattle.osek_standard.proofs.{StackLaws.{stack_few}, WellLaws.{own_known, routine_known}}
use Rattle.abstract_state.specs.declared.value.{Val.{Val, TheVariants.{Suspended, Live, Waiting}}, SourceVal.{SourceVal}, Component.{Component}, PartValue.{PartValue, TheVariants.{OfTask, OfEvent, OfAlarm, OfSource}}}
use Rattle.abstract_state.specs.declared.value.SourceVal.TheVariants as source_val
use Rattle.abstract_state.specs.declared.value.Component.TheVariants as component
use Rattle.abstract_state.specs.{ValueOrder.{flag_field, IsAscending}, Components.{IsVal, IsSourceVal, IsPart}}
use Rattle.table_codec.specs.{declared.fault.Fault.{Fault}, Spelling.{resource_numbers, task_fields, source_numbers, value_fields, field_limit, field_bytes, fields_from, value_bytes}}
use Rattle.table_codec.specs.{Faults.{IsFieldFault, field_cut, field_barred, Begins, IsValueFault, IsNextFault, bad_value, not_above}, Sets.{IsNextValue}}
use Rattle.table_codec.proofs.Fields.{AreWithin, one_head, fields_meet, same_prefix, val_alone, source_alone, fields_append, within_prefix, within_next, plus_none, cancel, width_is}

-- a field has one fault
pub one_field_fault : (place : ℕ) (M N : ℕ → Type 0) (bytes : List ℕ) (f g : Fault) → IsFieldFault place M bytes f → IsFieldFault place N bytes g → f ≡ g
one_field_fault place M N bytes f g (field_cut less e) (field_cut fewer d) = e ∙ sym d
one_field_fault place M N bytes f g (field_cut less e) (field_barred n more lt is bars d) = absurd (omega (arith, less, ap length is, width_is place n, length-append (field_bytes place n) more))
one_field_fault place M N bytes f g (field_barred n more lt is bars e) (field_cut fewer d) = absurd (omega (arith, fewer, ap length is, width_is place n, length-append (field_bytes place n) more))
one_field_fault place M N bytes f g (field_barred n more lt is bars e) (field_barred m rest less are stops d) = e ∙ sym d

narrow_limit : (j n : ℕ) → n < 256 → n < field_limit (suc (suc j))
narrow_limit j n lt = by_width (suc (suc j) == 1) refl
  where
    by_width : (b : Bool) → (suc (suc j) == 1) ≡ b → n < (if b then 2 ^ 16 else 2 ^ 8)
    by_width true e = absurd (omega (arith, eqb-true (suc (suc j)) 1 e))
    by_width false e = omega (arith, lt)

bytes_within : (j : ℕ) (h : List ResNo) → AllByRecursion (λ (r : ResNo). r.0 < 256) h → AreWithin (suc (suc j)) (resource_numbers h)
bytes_within j [] all = tt
bytes_within j (r ∷ h) all = (narrow_limit j r.0 all.0, bytes_within (suc j) h all.1)

each_few : (n : ℕ) (h : List ResNo) → n ≤ 8 → AllByRecursion (λ (r : ResNo). r.0 < n) h → AllByRecursion (λ (r : ResNo). r.0 < 256) h
each_few n [] few all = tt
each_few n (r ∷ h) few all = (omega (arith, few, all.0), each_few n h few all.1)

flag_few : (b : Bool) → flag_field b < 2 ^ 8
flag_few true = omega arith
flag_few false = omega arith

-- a component whose values are listed
abbrev pub IsListed : App → Component → Type 0
IsListed app (component.Task t) = t.0 < length app.tasks
IsListed app (component.Event t j) = ⊥
IsListed app (component.Alarm a) = ⊥
IsListed app (component.Source k) = k.0 < source_count app

-- ---- the fields of its values are within their limits, and none begins another's

module _ (app : App) where
  block_few : (b : ℕ) → b < length app.blocks → b < 2 ^ 16
  block_few b known = (let few = app.valid.few_blocks in omega (arith, known, few))

  few_held : (h : List ResNo) → IsStack app h → length h ≤ 8
  few_held h stack = omega (arith, stack_few (length app.resources) h stack.out_of, app.valid.few_resources)

  stack_within : (j : ℕ) (h : List ResNo) → IsStack app h → AreWithin (suc (suc j)) (resource_numbers h)
  stack_within j h stack = bytes_within j h (each_few (length app.resources) h app.valid.few_resources (recursion_from_All (λ (r : ResNo). r.0 < length app.resources) h stack.out_of.known))

  val_within : (t : ℕ) → t < length app.tasks → (v : Val) → IsVal app t v → AreWithin 0 (task_fields v)
  val_within t known Suspended h = (omega arith, tt)
  val_within t known (Live x) h =
      let few = few_held x.held h.stack in
      let takes = (app.valid.activations t no_task known).1 in
      let further = h.further in
      (omega arith, (block_few x.block.0 (own_known app t x.block.0 known h.own), (omega (arith, further, takes), (flag_few x.inside, (omega (arith, few), stack_within 3 x.held h.stack)))))
  val_within t known (Waiting b) h = (omega arith, (block_few b.0 (own_known app t b.0 known h.own), tt))

  source_within : (k : ℕ) → k < source_count app → (v : SourceVal) → IsSourceVal app k v → AreWithin 0 (source_numbers v)
  source_within k known source_val.Out h = (omega arith, tt)
  source_within k known (source_val.In x) h =
      let few = few_held x.held h.stack in
      (omega arith, (block_few x.block.0 (routine_known app k x.block.0 known h.own), (omega (arith, few), stack_within 1 x.held h.stack)))

  module _ (p : Point) where
    fields_within : (k : Component) → IsListed app k → (v : PartValue) → IsPart app p k v → AreWithin 0 (value_fields v)
    fields_within (component.Task t) known (OfTask v) h = val_within t.0 known v h.0
    fields_within (component.Task t) known (OfEvent b) h = absurd h
    fields_within (component.Task t) known (OfAlarm b) h = absurd h
    fields_within (component.Task t) known (OfSource v) h = absurd h
    fields_within (component.Event t j) known v h = absurd known
    fields_within (component.Alarm a) known v h = absurd known
    fields_within (component.Source k) known (OfTask v) h = absurd h
    fields_within (component.Source k) known (OfEvent b) h = absurd h
    fields_within (component.Source k) known (OfAlarm b) h = absurd h
    fields_within (component.Source k) known (OfSource v) h = source_within k.0 known v h.0

    fields_alone : (k : Component) → IsListed app k → (v w : PartValue) (more : List ℕ) → IsPart app p k v → IsPart app p k w → value_fields w ≡ value_fields v ++ more → v ≡ w
    fields_alone (component.Task t) known (OfTask v) (OfTask w) more h g e = ap OfTask (val_alone v w more e)
    fields_alone (component.Task t) known (OfTask v) (OfEvent b) more h g e = absurd g
    fields_alone (component.Task t) known (OfTask v) (OfAlarm b) more h g e = absurd g
    fields_alone (component.Task t) known (OfTask v) (OfSource w) more h g e = absurd g
    fields_alone (component.Task t) known (OfEvent b) w more h g e = absurd h
    fields_alone (component.Task t) known (OfAlarm b) w more h g e = absurd h
    fields_alone (component.Task t) known (OfSource v) w more h g e = absurd h
    fields_alone (component.Event t j) known v w more h g e = absurd known
    fields_alone (component.Alarm a) known v w more h g e = absurd known
    fields_alone (component.Source k) known (OfTask v) w more h g e = absurd h
    fields_alone (component.Source k) known (OfEvent b) w more h g e = absurd h
    fields_alone (component.Source k) known (OfAlarm b) w more h g e = absurd h
    fields_alone (component.Source k) known (OfSource v) (OfTask w) more h g e = absurd g
    fields_alone (component.Source k) known (OfSource v) (OfEvent b) more h g e = absurd g
    fields_alone (component.Source k) known (OfSource v) (OfAlarm b) more h g e = absurd g
    fields_alone (component.Source k) known (OfSource v) (OfSource w) more h g e = ap OfSource (source_alone v w more e)

module _ (app : App) (p : Point) (k : Component) (known : IsListed app k) where
  within : (v : PartValue) → IsPart app p k v → AreWithin 0 (value_fields v)
  within = fields_within app p k known

  alone : (v w : PartValue) (more : List ℕ) → IsPart app p k v → IsPart app p k w → value_fields w ≡ value_fields v ++ more → v ≡ w
  alone = fields_alone app p k known

  -- a value is read in one way
  pub one_value : (v w : PartValue) (r s : List ℕ) → IsPart app p k v → IsPart app p k w → value_bytes v ++ r ≡ value_bytes w ++ s → (v ≡ w) × (r ≡ s)
  one_value v w r s h g e =
      let same : v ≡ w = elim (fields_meet 0 (value_fields v) (value_fields w) r s (within v h) (within w g) e) [
        | inl prefix ↦ alone v w prefix.more h g prefix.is
        | inr past ↦ sym (alone w v past.more g h past.is)
      ] in
      (same, cancel (value_bytes v) r s (e ∙ ap (λ (x : PartValue). value_bytes x ++ s) (sym same)))

  -- fields that go on past those of a fault
  goes_on : (bytes tail : List ℕ) (f : Fault) (h : IsValueFault app p k bytes f) (fields : List ℕ) → Begins app p k fields → bytes ≡ fields_from 0 fields ++ tail
      → (n : ℕ) (next : List ℕ) → fields ≡ h.fields ++ n ∷ next → ⊥
  goes_on bytes tail f h fields begins e n next is =
      let place = length h.fields in
      let whole : value_fields begins.value ≡ h.fields ++ n ∷ (next ++ begins.more) = begins.is ∙ ap (λ (l : List ℕ). l ++ begins.more) is ∙ append_assoc h.fields (n ∷ next) begins.more in
      let spelled : fields_from 0 fields ≡ fields_from 0 h.fields ++ (field_bytes place n ++ fields_from (suc place) next)
      = ap (fields_from 0) is ∙ fields_append 0 h.fields (n ∷ next) ∙ ap (λ (j : ℕ). fields_from 0 h.fields ++ fields_from j (n ∷ next)) (plus_none place) in
      let rest : h.rest ≡ field_bytes place n ++ (fields_from (suc place) next ++ tail) =
      cancel (fields_from 0 h.fields) h.rest (field_bytes place n ++ (fields_from (suc place) next ++ tail))
      (sym h.are ∙ e ∙ ap (λ (l : List ℕ). l ++ tail) spelled ∙ append_assoc (fields_from 0 h.fields) (field_bytes place n ++ fields_from (suc place) next) tail
      ∙ ap (λ (l : List ℕ). fields_from 0 h.fields ++ l) (append_assoc (field_bytes place n) (fields_from (suc place) next) tail)) in
      let limit : n < field_limit place = subst (λ (j : ℕ). n < field_limit j) (plus_none place) (within_next 0 h.fields n (next ++ begins.more) (subst (AreWithin 0) whole (within begins.value begins.allowed))) in
      let there : Begins app p k (h.fields ++ n ∷ []) = record {
        value = begins.value;
        allowed = begins.allowed;
        more = next ++ begins.more;
        is = whole ∙ sym (append_assoc h.fields (n ∷ []) (next ++ begins.more));
      } in
      by_fault (length h.fields) h.rest n (fields_from (suc place) next ++ tail) (λ m. Begins app p k (h.fields ++ m ∷ [])) rest limit there h.next
    where
      by_fault : (place : ℕ) (rest : List ℕ) (n : ℕ) (more : List ℕ) (May : ℕ → Type 0) → rest ≡ field_bytes place n ++ more → n < field_limit place → May n → IsFieldFault place May rest f → ⊥
      by_fault place rest n more May e lt may (field_cut less d) = omega (arith, less, width_is place n, ap length e, length-append (field_bytes place n) more)
      by_fault place rest n more May e lt may (field_barred m other less is bars d) = (let same = one_head place m n other more less lt (sym is ∙ e) in bars (subst May (sym same.0) may))

  -- a value that is spelled has no fault
  pub no_value_fault : (v : PartValue) (bytes tail : List ℕ) (f : Fault) → IsPart app p k v → bytes ≡ value_bytes v ++ tail → IsValueFault app p k bytes f → ⊥
  no_value_fault v bytes tail f ok e h =
      let w = h.begins.value in
      let within_start = within_prefix 0 h.fields h.begins.more (subst (AreWithin 0) h.begins.is (within w h.begins.allowed)) in
      elim (fields_meet 0 h.fields (value_fields v) h.rest tail within_start (within v ok) (sym h.are ∙ e)) [
        | inl prefix ↦ beyond prefix.more prefix.is
        | inr past ↦
            (let is : value_fields w ≡ value_fields v ++ (past.more ++ h.begins.more) = h.begins.is ∙ ap (λ (l : List ℕ). l ++ h.begins.more) past.is ∙ append_assoc (value_fields v) past.more h.begins.more in
            let same = alone v w (past.more ++ h.begins.more) ok h.begins.allowed is in
            h.not_whole v ok (same_prefix (value_fields v) h.fields past.more h.begins.more past.is (ap value_fields same ∙ h.begins.is)))
      ]
    where
      beyond : (more : List ℕ) → value_fields v ≡ h.fields ++ more → ⊥
      beyond [] is = h.not_whole v ok (is ∙ append-nil h.fields)
      beyond (n ∷ next) is = goes_on bytes tail f h (value_fields v) (record { value = v; allowed = ok; more = []; is = sym (append-nil (value_fields v)) }) e n next is

  -- a value has one fault
  pub one_value_fault : (bytes : List ℕ) (f g : Fault) → IsValueFault app p k bytes f → IsValueFault app p k bytes g → f ≡ g
  one_value_fault bytes f g h d =
      elim (fields_meet 0 h.fields d.fields h.rest d.rest (prefix bytes f h) (prefix bytes g d) (sym h.are ∙ d.are)) [
        | inl longer ↦ by_more bytes f g h d longer.more longer.is
        | inr shorter ↦ sym (by_more bytes g f d h shorter.more shorter.is)
      ]
    where
      prefix : (bytes : List ℕ) (f : Fault) (h : IsValueFault app p k bytes f) → AreWithin 0 h.fields
      prefix bytes f h = within_prefix 0 h.fields h.begins.more (subst (AreWithin 0) h.begins.is (within h.begins.value h.begins.allowed))

      by_more : (bytes : List ℕ) (f g : Fault) (h : IsValueFault app p k bytes f) (d : IsValueFault app p k bytes g) (more : List ℕ) → d.fields ≡ h.fields ++ more → f ≡ g
      by_more bytes f g h d (n ∷ next) is = absurd (goes_on bytes d.rest f h d.fields d.begins d.are n next is)
      by_more bytes f g h d [] is =
          let same : d.fields ≡ h.fields = is ∙ append-nil h.fields in
          let rest : h.rest ≡ d.rest = cancel (fields_from 0 h.fields) h.rest d.rest (sym h.are ∙ d.are ∙ ap (λ (l : List ℕ). fields_from 0 l ++ d.rest) same) in
          let may : ℕ → Type 0 = λ n. Begins app p k (d.fields ++ n ∷ []) in
          let there = subst (λ (l : List ℕ). IsFieldFault (length l) may h.rest g) same (subst (λ (l : List ℕ). IsFieldFault (length d.fields) may l g) (sym rest) d.next) in
          one_field_fault (length h.fields) (λ n. Begins app p k (h.fields ++ n ∷ [])) may h.rest f g h.next there

  -- ---- behind others

  pub one_next : (before : List PartValue) (bytes r s : List ℕ) (v w : PartValue) → IsNextValue app p k before bytes r v → IsNextValue app p k before bytes s w → (v ≡ w) × (r ≡ s)
  one_next before bytes r s v w h g = one_value v w r s h.allowed g.allowed (sym h.are ∙ g.are)

  pub next_clash : (before : List PartValue) (bytes r : List ℕ) (v : PartValue) (f : Fault) → IsNextValue app p k before bytes r v → IsNextFault app p k before bytes f → ⊥
  next_clash before bytes r v f h (bad_value bad) = no_value_fault v bytes r f h.allowed h.are bad
  next_clash before bytes r v f h (not_above w more ok is bars e) =
      let same = one_value w v more r ok h.allowed (sym is ∙ h.are) in
      bars (subst (λ (x : PartValue). IsAscending (before ++ x ∷ [])) (sym same.0) h.above)

  pub one_next_fault : (before : List PartValue) (bytes : List ℕ) (f g : Fault) → IsNextFault app p k before bytes f → IsNextFault app p k before bytes g → f ≡ g
  one_next_fault before bytes f g (bad_value h) (bad_value d) = one_value_fault bytes f g h d
  one_next_fault before bytes f g (bad_value h) (not_above w more ok is bars e) = absurd (no_value_fault w bytes more f ok is h)
  one_next_fault before bytes f g (not_above w more ok is bars e) (bad_value d) = absurd (no_value_fault w bytes more g ok is d)
  one_next_fault before bytes f g (not_above w more ok is bars e) (not_above v rest too are stops d) = e ∙ sym d
