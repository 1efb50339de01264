-- Reading a task's value field by field: what is known after each, and which fault of the value a field's fault is.
use Rattle.std.proofs.Common.{◌≡◌, ℕ, suc, ◌^◌, ◌<◌, ◌≤◌, ◌≢◌, Bool, true, false, List, [], ◌∷◌, ◌++◌, length, map, refl, sym, ap, ap₂, subst, ◌∙◌, arith, append_assoc, IsTrue, eqb-true}
use Rattle.std.specs.{Prelude.{◌==◌, if◌then◌else◌}, Int.{to_be_bytes, w16}}
use Rattle.osek_values.specs.{Numbers.{res_no}, declared.numbers.{ResNo.{ResNo}, BlockNo.{BlockNo}}}
use Rattle.osek_standard.specs.{declared.app.App.{App}, Counts.{takable_count}, Validity.{IsAmong}, Well.{IsStack, IsWaitingAt}}
use Rattle.abstract_state.proofs.TakableStacks.{few_on_stack}
use Rattle.abstract_state.specs.declared.value.{LiveVal.{LiveVal}, Val.TheVariants.{Suspended, Live, Waiting}, PartValue.{PartValue, TheVariants.{OfTask, OfEvent, OfAlarm, OfSource}}}
use Rattle.abstract_state.specs.{Components.{live_val, IsPart}, ValueOrder.{flag_field}}
use Rattle.table_codec.specs.{declared.{fault.Fault.{Fault}, shape.Shape.{Shape}}, Spelling.{resource_numbers, value_fields, fields_from}}
use Rattle.table_codec.specs.{Faults.{IsFieldFault, field_cut, field_barred, Begins, IsValueFault}, Shapes.{IsFlag, IsLiveShaped, IsShape, shaped}}
use Rattle.table_codec.specs.Values.{IsTag, IsReadValue, IsReadStack, IsStackFault}
use Rattle.table_codec.proofs.{Fields.{narrow_fields, same_stack}, ShapeLaws.{right_flag}, StackEnds.{stack_goes_on, stack_prefix, empty_stack}}

-- a field's fault at another place of the same width, where less may stand
pub field_fault : (i j : ℕ) (M N : ℕ → Type 0) (bytes : List ℕ) (f : Fault) → (i == 1) ≡ (j == 1) → ((n : ℕ) → N n → M n) → IsFieldFault i M bytes f → IsFieldFault j N bytes f
field_fault i j M N bytes f same less (field_cut few e) = field_cut (subst (λ (b : Bool). length bytes < (if b then 2 else 1)) same few) e
field_fault i j M N bytes f same less (field_barred n more lt is bars e) =
    field_barred n more (subst (λ (b : Bool). n < (if b then 2 ^ 16 else 2 ^ 8)) same lt) (is ∙ ap (λ (b : Bool). (if b then to_be_bytes w16 n else n ∷ []) ++ more) same) (λ may. bars (less n may)) e

pub late_place : (n : ℕ) → (2 == 1) ≡ (suc (suc n) == 1)
late_place n = by_test (suc (suc n) == 1) refl
  where
    by_test : (b : Bool) → (suc (suc n) == 1) ≡ b → (2 == 1) ≡ b
    by_test true e = absurd (omega (arith, eqb-true (suc (suc n)) 1 e))
    by_test false e = refl

-- a stack whose numbers begin with a stack's
pub numbers_split : (xs hs : List ResNo) (ms : List ℕ) → resource_numbers xs ≡ resource_numbers hs ++ ms → xs ≡ hs ++ map res_no ms
numbers_split [] [] [] e = refl
numbers_split [] [] (m ∷ ms) e = absurd (cc)
numbers_split [] (h ∷ hs) ms e = absurd (cc)
numbers_split (x ∷ xs) [] [] e = absurd (cc)
numbers_split (x ∷ xs) [] (m ∷ ms) e =
    let here : x.0 ≡ m = cc in
    let rest : resource_numbers xs ≡ ms = cc in
    ap₂ (λ (r : ResNo) (rs : List ResNo). r ∷ rs) (ap res_no here) (numbers_split xs [] ms rest)
numbers_split (x ∷ xs) (h ∷ hs) ms e =
    let here : x.0 ≡ h.0 = cc in
    let rest : resource_numbers xs ≡ resource_numbers hs ++ ms = cc in
    ap₂ (λ (r : ResNo) (rs : List ResNo). r ∷ rs) (ap res_no here) (numbers_split xs hs ms rest)

pub numbers_join : (xs ys : List ResNo) → resource_numbers (xs ++ ys) ≡ resource_numbers xs ++ resource_numbers ys
numbers_join [] ys = refl
numbers_join (x ∷ xs) ys = ap (λ (l : List ℕ). x.0 ∷ l) (numbers_join xs ys)

-- behind a block: one byte after the other
module _ (block bytes : List ℕ) where
  pub further_next : (rest after : List ℕ) (n : ℕ) → bytes ≡ block ++ rest → rest ≡ n ∷ after → bytes ≡ block ++ n ∷ after
  further_next rest after n e h = e ∙ ap (λ (l : List ℕ). block ++ l) h

  pub flag_next : (n : ℕ) (rest after : List ℕ) (m : ℕ) → bytes ≡ block ++ n ∷ rest → rest ≡ m ∷ after → bytes ≡ block ++ n ∷ m ∷ after
  flag_next n rest after m e h = e ∙ ap (λ (l : List ℕ). block ++ n ∷ l) h

  pub both_next : (rest more after : List ℕ) (n m : ℕ) → bytes ≡ block ++ rest → rest ≡ n ∷ more → more ≡ m ∷ after → bytes ≡ block ++ n ∷ m ∷ after
  both_next rest more after n m e h g = flag_next n more after m (further_next rest more n e h) g

  pub size_next : (n m : ℕ) (rest after : List ℕ) (k : ℕ) → bytes ≡ block ++ n ∷ m ∷ rest → rest ≡ k ∷ after → bytes ≡ block ++ n ∷ m ∷ k ∷ after
  size_next n m rest after k e h = e ∙ ap (λ (l : List ℕ). block ++ n ∷ m ∷ l) h

module _ (app : App) (x : Shape) (s : IsShape app x) where
  abbrev Can : PartValue → Type 0
  Can v = IsPart app x.point (shaped x) v

  abbrev Starts : List ℕ → Type 0
  Starts fields = Begins app x.point (shaped x) fields

  abbrev Bad : List ℕ → Fault → Type 0
  Bad bytes f = IsValueFault app x.point (shaped x) bytes f

  -- the fields of a Live value behind the first
  abbrev fields_of : LiveVal → List ℕ
  fields_of l = l.block.0 ∷ l.further ∷ flag_field l.inside ∷ length l.held ∷ resource_numbers l.held

  -- a value whose fields begin with 1 is Live
  live_form : (v : PartValue) (rest : List ℕ) → Can v → value_fields v ≡ 1 ∷ rest → (l : LiveVal) × (v ≡ OfTask (Live l)) × (rest ≡ fields_of l)
  live_form (OfTask Suspended) rest h e = absurd (cc)
  live_form (OfTask (Live l)) rest h e = (l, refl, cc)
  live_form (OfTask (Waiting b)) rest h e = absurd (cc)
  live_form (OfEvent b) rest h e = absurd h
  live_form (OfAlarm b) rest h e = absurd h
  live_form (OfSource v) rest h e = absurd h

  wait_form : (v : PartValue) (rest : List ℕ) → Can v → value_fields v ≡ 2 ∷ rest → (b : BlockNo) × (v ≡ OfTask (Waiting b)) × (rest ≡ b.0 ∷ [])
  wait_form (OfTask Suspended) rest h e = absurd (cc)
  wait_form (OfTask (Live l)) rest h e = absurd (cc)
  wait_form (OfTask (Waiting b)) rest h e = (b, refl, cc)
  wait_form (OfEvent b) rest h e = absurd h
  wait_form (OfAlarm b) rest h e = absurd h
  wait_form (OfSource v) rest h e = absurd h

  some_fields : (v : PartValue) → Can v → value_fields v ≢ []
  some_fields (OfTask Suspended) h e = cc
  some_fields (OfTask (Live l)) h e = cc
  some_fields (OfTask (Waiting b)) h e = cc
  some_fields (OfEvent b) h e = h
  some_fields (OfAlarm b) h e = h
  some_fields (OfSource v) h e = h

  -- what is known of a Live value whose fields begin so
  pub record IsLiveOf (fields : List ℕ) : Type 0 where
    pub live : LiveVal
    pub can : IsLiveShaped app x live
    pub more : List ℕ
    pub is : fields_of live ≡ fields ++ more

  live_of : (fields : List ℕ) → Starts (1 ∷ fields) → IsLiveOf fields
  live_of fields begins =
      let form = live_form begins.value (fields ++ begins.more) begins.allowed begins.is in
      record { live = form.0; can = (s.live form.0).1 (subst Can form.1 begins.allowed); more = begins.more; is = sym form.2 }

  live_prefix : (l : LiveVal) (fields more : List ℕ) → IsLiveShaped app x l → fields_of l ≡ fields ++ more → Starts (1 ∷ fields)
  live_prefix l fields more can e = record {
    value = OfTask (Live l);
    allowed = (s.live l).0 can;
    more = more;
    is = ap (λ (f : List ℕ). 1 ∷ f) e;
  }

  -- a task that holds nothing, and is inside where it names an INTERNAL resource
  abbrev bare : BlockNo → ℕ → LiveVal
  bare b n = live_val b n x.named []

  bare_can : (b : BlockNo) (n : ℕ) → IsAmong b.0 x.first.0 x.count → n < x.activation → IsLiveShaped app x (bare b n)
  bare_can b n among takes = record { among = among; further = takes; flag = right_flag x x.named refl; stack = empty_stack app }

  first_among : IsAmong x.first.0 x.first.0 x.count
  first_among = (let some = s.some in (omega arith, omega (arith, some)))

  -- ---- the tag

  pub tag_fault : (bytes : List ℕ) (f : Fault) → IsFieldFault 0 (IsTag x) bytes f → Bad bytes f
  tag_fault bytes f bad = record {
    fields = [];
    rest = bytes;
    begins = record {
      value = OfTask (Live (bare x.first 0));
      allowed = (s.live (bare x.first 0)).0 (bare_can x.first 0 first_among s.takes);
      more = value_fields (OfTask (Live (bare x.first 0)));
      is = refl;
    };
    not_whole = some_fields;
    are = refl;
    next = field_fault 0 0 (IsTag x) (λ n. Starts (n ∷ [])) bytes f refl may bad;
  }
    where
      tag_of : (v : PartValue) (n : ℕ) (more : List ℕ) → Can v → value_fields v ≡ n ∷ more → IsTag x n
      tag_of (OfTask Suspended) n more h e = (let same : 0 ≡ n = cc in subst (IsTag x) same (s.suspended.1 h))
      tag_of (OfTask (Live l)) n more h e = (let same : 1 ≡ n = cc in subst (IsTag x) same tt)
      tag_of (OfTask (Waiting b)) n more h e = (let same : 2 ≡ n = cc in subst (IsTag x) same (s.waits.1 (b, h)))
      tag_of (OfEvent b) n more h e = absurd h
      tag_of (OfAlarm b) n more h e = absurd h
      tag_of (OfSource v) n more h e = absurd h

      may : (n : ℕ) → Starts (n ∷ []) → IsTag x n
      may n begins = tag_of begins.value n begins.more begins.allowed begins.is

  -- ---- of a Live task

  pub block_fault : (bytes : List ℕ) (f : Fault) → IsFieldFault 1 (λ n. IsAmong n x.first.0 x.count) bytes f → Bad (1 ∷ bytes) f
  block_fault bytes f bad = record {
    fields = 1 ∷ [];
    rest = bytes;
    begins = live_prefix (bare x.first 0) [] (fields_of (bare x.first 0)) (bare_can x.first 0 first_among s.takes) refl;
    not_whole = λ v h e. (let form = live_form v [] h e in let rest = form.2 in absurd (cc));
    are = refl;
    next = field_fault 1 1 (λ n. IsAmong n x.first.0 x.count) (λ n. Starts (1 ∷ n ∷ [])) bytes f refl
        (λ n begins. let l = live_of (n ∷ []) begins in let same : l.live.block.0 ≡ n = cc (l.is) in subst (λ (m : ℕ). IsAmong m x.first.0 x.count) same l.can.among) bad;
  }

  module _ (b : BlockNo) (among : IsAmong b.0 x.first.0 x.count) where
    abbrev block_bytes : List ℕ → List ℕ
    block_bytes rest = to_be_bytes w16 b.0 ++ rest

    pub further_fault : (bytes rest : List ℕ) (f : Fault) → bytes ≡ block_bytes rest → IsFieldFault 2 (λ n. n < x.activation) rest f → Bad (1 ∷ bytes) f
    further_fault bytes rest f e bad = record {
      fields = 1 ∷ b.0 ∷ [];
      rest = rest;
      begins = live_prefix (bare b 0) (b.0 ∷ []) (0 ∷ flag_field x.named ∷ 0 ∷ []) (bare_can b 0 among s.takes) refl;
      not_whole = λ v h d. (let form = live_form v (b.0 ∷ []) h d in let more = form.2 in absurd (cc));
      are = ap (λ (l : List ℕ). 1 ∷ l) e;
      next = field_fault 2 2 (λ n. n < x.activation) (λ n. Starts (1 ∷ b.0 ∷ n ∷ [])) rest f refl
          (λ n begins. let l = live_of (b.0 ∷ n ∷ []) begins in let same : l.live.further ≡ n = cc (l.is) in subst (λ (m : ℕ). m < x.activation) same l.can.further) bad;
    }

    module _ (n : ℕ) (takes : n < x.activation) where
      pub inside_fault : (bytes rest : List ℕ) (f : Fault) → bytes ≡ block_bytes (n ∷ rest) → IsFieldFault 3 (IsFlag x) rest f → Bad (1 ∷ bytes) f
      inside_fault bytes rest f e bad = record {
        fields = 1 ∷ b.0 ∷ n ∷ [];
        rest = rest;
        begins = live_prefix (bare b n) (b.0 ∷ n ∷ []) (flag_field x.named ∷ 0 ∷ []) (bare_can b n among takes) refl;
        not_whole = λ v h d. (let form = live_form v (b.0 ∷ n ∷ []) h d in let more = form.2 in absurd (cc));
        are = ap (λ (l : List ℕ). 1 ∷ l) e;
        next = field_fault 3 3 (IsFlag x) (λ m. Starts (1 ∷ b.0 ∷ n ∷ m ∷ [])) rest f refl
            (λ m begins. let l = live_of (b.0 ∷ n ∷ m ∷ []) begins in let same : flag_field l.live.inside ≡ m = cc (l.is) in subst (IsFlag x) same l.can.flag) bad;
      }

      module _ (i : Bool) (flag : IsFlag x (flag_field i)) where
        pub size_fault : (bytes rest : List ℕ) (f : Fault) → bytes ≡ block_bytes (n ∷ flag_field i ∷ rest) → IsFieldFault 2 (λ m. m ≤ takable_count app) rest f → Bad (1 ∷ bytes) f
        size_fault bytes rest f e bad = record {
          fields = 1 ∷ b.0 ∷ n ∷ flag_field i ∷ [];
          rest = rest;
          begins = live_prefix (live_val b n i []) (b.0 ∷ n ∷ flag_field i ∷ []) (0 ∷ []) (record { among = among; further = takes; flag = flag; stack = empty_stack app }) refl;
          not_whole = λ v h d. (let form = live_form v (b.0 ∷ n ∷ flag_field i ∷ []) h d in let more = form.2 in absurd (cc));
          are = ap (λ (l : List ℕ). 1 ∷ l) e;
          next = field_fault 2 4 (λ m. m ≤ takable_count app) (λ m. Starts (1 ∷ b.0 ∷ n ∷ flag_field i ∷ m ∷ [])) rest f refl
              (λ m begins.
              let l = live_of (b.0 ∷ n ∷ flag_field i ∷ m ∷ []) begins in
              let same : length l.live.held ≡ m = cc (l.is) in
              omega (arith, same, few_on_stack app l.live.held l.can.stack)) bad;
        }

        -- a block, the two bytes and a size stand before a stack's numbers
        stack_bytes : (size : ℕ) (held : List ResNo) (rest : List ℕ)
            → fields_from 0 (1 ∷ b.0 ∷ n ∷ flag_field i ∷ size ∷ resource_numbers held) ++ rest ≡ 1 ∷ block_bytes (n ∷ flag_field i ∷ size ∷ (resource_numbers held ++ rest))
        stack_bytes size held rest = ap (λ (l : List ℕ). 1 ∷ block_bytes (n ∷ flag_field i ∷ size ∷ (l ++ rest))) (narrow_fields 3 (resource_numbers held))

        abbrev stack_fields : ℕ → List ResNo → List ℕ
        stack_fields size held = b.0 ∷ n ∷ flag_field i ∷ size ∷ resource_numbers held

        with_stack_can : (held : List ResNo) → IsStack app held → IsLiveShaped app x (live_val b n i held)
        with_stack_can held stack = record { among = among; further = takes; flag = flag; stack = stack }

        stack_begins : (size : ℕ) (held : List ResNo) → IsStack app held → length held ≤ size → size ≤ takable_count app → Starts (1 ∷ stack_fields size held)
        stack_begins size held stack le few =
            let goes = stack_goes_on app held size stack le few in
            live_prefix (live_val b n i (held ++ goes.more)) (stack_fields size held) (resource_numbers goes.more) (with_stack_can (held ++ goes.more) goes.stack)
            (ap (λ (k : ℕ). b.0 ∷ n ∷ flag_field i ∷ k ∷ resource_numbers (held ++ goes.more)) goes.size_is ∙ ap (λ (l : List ℕ). b.0 ∷ n ∷ flag_field i ∷ size ∷ l) (numbers_join held goes.more))

        stack_unfinished : (size : ℕ) (held : List ResNo) → length held < size → (v : PartValue) → Can v → value_fields v ≢ 1 ∷ stack_fields size held
        stack_unfinished size held few v h e =
            let form = live_form v (stack_fields size held) h e in
            let rest = form.2 in
            let size_is : size ≡ length form.0.held = cc in
            let same : resource_numbers held ≡ resource_numbers form.0.held = cc in
            omega (arith, few, size_is, ap (λ (l : List ResNo). length l) (same_stack held form.0.held same))

        may_be_next : (size : ℕ) (held : List ResNo) (m : ℕ) → Starts (1 ∷ (stack_fields size held ++ m ∷ [])) → IsStack app (held ++ res_no m ∷ [])
        may_be_next size held m begins =
            let l = live_of (stack_fields size held ++ m ∷ []) begins in
            let is = l.is in
            let numbers : resource_numbers l.live.held ≡ (resource_numbers held ++ m ∷ []) ++ l.more = cc in
            let whole = numbers_split l.live.held held (m ∷ l.more) (numbers ∙ append_assoc (resource_numbers held) (m ∷ []) l.more) in
            stack_prefix app held (res_no m) (map res_no l.more) (subst (IsStack app) whole l.can.stack)

        pub resource_fault : (size : ℕ) (bytes rest : List ℕ) (f : Fault) → size ≤ takable_count app → bytes ≡ block_bytes (n ∷ flag_field i ∷ size ∷ rest) → IsStackFault app size rest f → Bad (1 ∷ bytes) f
        resource_fault size bytes rest f few e bad =
            let less = bad.few in
            record {
              fields = 1 ∷ stack_fields size bad.held;
              rest = bad.rest;
              begins = stack_begins size bad.held bad.stack (omega (arith, less)) few;
              not_whole = stack_unfinished size bad.held bad.few;
              are = ap (λ (l : List ℕ). 1 ∷ l) (e ∙ ap (λ (l : List ℕ). block_bytes (n ∷ flag_field i ∷ size ∷ l)) bad.are) ∙ sym (stack_bytes size bad.held bad.rest);
              next = field_fault 5 (length (1 ∷ stack_fields size bad.held)) (λ m. IsStack app (bad.held ++ res_no m ∷ [])) (λ m. Starts (1 ∷ (stack_fields size bad.held ++ m ∷ []))) bad.rest f
                  (late_place (suc (suc (suc (length (resource_numbers bad.held)))))) (may_be_next size bad.held) bad.next;
            }

        pub live_read : (size : ℕ) (held : List ResNo) (bytes rest after : List ℕ) → bytes ≡ block_bytes (n ∷ flag_field i ∷ size ∷ rest) → IsReadStack app size rest after held
            → IsReadValue app x.point (shaped x) (1 ∷ bytes) after (OfTask (Live (live_val b n i held)))
        live_read size held bytes rest after e read = record {
          allowed = (s.live (live_val b n i held)).0 (with_stack_can held read.stack);
          are = ap (λ (l : List ℕ). 1 ∷ l) (e ∙ ap (λ (l : List ℕ). block_bytes (n ∷ flag_field i ∷ size ∷ l)) read.are) ∙ sym (stack_bytes size held after)
              ∙ ap (λ (k : ℕ). fields_from 0 (1 ∷ b.0 ∷ n ∷ flag_field i ∷ k ∷ resource_numbers held) ++ after) (sym read.as_many);
        }

  -- ---- of a waiting task

  pub waiting_fault : (bytes : List ℕ) (f : Fault) → IsTrue x.waits → IsFieldFault 1 (IsWaitingAt app x.task.0) bytes f → Bad (2 ∷ bytes) f
  waiting_fault bytes f waits bad = record {
    fields = 2 ∷ [];
    rest = bytes;
    begins = (let some = s.waits.0 waits in record { value = OfTask (Waiting some.0); allowed = some.1; more = some.0.0 ∷ []; is = refl });
    not_whole = λ v h e. (let form = wait_form v [] h e in let rest = form.2 in absurd (cc));
    are = refl;
    next = field_fault 1 1 (IsWaitingAt app x.task.0) (λ n. Starts (2 ∷ n ∷ [])) bytes f refl may bad;
  }
    where
      may : (n : ℕ) → Starts (2 ∷ n ∷ []) → IsWaitingAt app x.task.0 n
      may n begins =
          let form = wait_form begins.value (n ∷ begins.more) begins.allowed begins.is in
          let rest = form.2 in
          let same : form.0.0 ≡ n = cc in
          subst (IsWaitingAt app x.task.0) same ((s.waiting form.0).1 (subst Can form.1 begins.allowed)).1
