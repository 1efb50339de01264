-- The first fault of a block, and of all blocks, is what the table of fields says.
use Rattle.std.proofs.Common.{◌≡◌, ℕ, zero, suc, ◌+◌, Bool, true, false, cond, ◌||◌, List, [], ◌∷◌, ◌++◌, length, take, drop, get_or, Option, Some, None, Ok, Err, refl, sym, ap, subst, ◌∙◌}
use Rattle.std.specs.{Prelude.{map, ◌==◌, nat_lt, nat_eq, slice_get, slice_index, is_some}, Int.{Width, w8, w16, w32, w64, from_be_bytes}}
use Rattle.std.proofs.lemmas.List.{length_push}
use Rattle.osek_values.specs.Numbers.{task_no, alarm_no, res_no, block_no, mask}
use Rattle.osek_standard.specs.declared.block.Kind.{Kind}
use Rattle.osek_standard.specs.declared.block.Kind.TheVariants as kind
use Rattle.osek_values.specs.declared.lock.Lock.{Lock}
use Rattle.osek_standard.specs.declared.call.Call.{Call}
use Rattle.osek_values.specs.declared.lock.Lock.TheVariants as lock
use Rattle.image_model.specs.CallNames as call
use Rattle.image_model.specs.declared.site.{Form.{Form}, Known.{Known}, Site.{Site}}
use Rattle.image_model.specs.declared.site.Known.TheVariants as known
use Rattle.image_model.specs.declared.image.Version.{Version}
use Rattle.image_model.specs.declared.image.Version.TheVariants as version
use Rattle.osek_standard.specs.Apps.{is_routine_end, call_may_dispatch, may_dispatch, is_task_block_in, is_site_in}
use Rattle.image_fields.specs.declared.{fault.{ImageRule.TheVariants.{I3, I6}, Fault.{Fault}}, parts.{Header.{Header}, Tables.{Tables}}}
use Rattle.image_codec.specs.declared.parts.Parts.{Parts}
use Rattle.image_codec.specs.{Laws.{BlocksFaults, ImageFaults}, ImageReading.{placed, read_image}}
use Rattle.image_fields.specs.TableReading.{tables_at}
use Rattle.image_fields.specs.Reading.{Read, ◌>>=◌, kept, found_at, number_at, tested_at, byte_below_at, flag_at, entries_at}
use Rattle.image_fields.specs.BlockReading.{blank_kinds, is_allowed, is_takable, is_due, is_way, judged_at, kind_at, task_no_at, takable_at, alarm_no_at, events_at, locks, lock_of, lock_at, due_at, operands_at, way_at, ways_at, form_of, form_at, knowns, known_of, known_at, stated_at, site_at, block_at, blocks_at}
use Rattle.image_codec.specs.ImageReading.{parts_at, all_at}
use Rattle.image_codec.specs.FieldTable.{fault_of, Field, field, any, some, below, or_later, first_broken, behind, kind_of_number, is_form, kind_field, task_field, resource_field, alarm_field, events_field, ticks_field, way_field, call_fields, way_fields, further_field, is_known, site_fields, block_fields, or_else, blocks_fault}
use Rattle.image_codec.proofs.BlockLaws.{Entry, blank_call, blank_of}
use Rattle.image_fields.proofs.BlockLoop.{read_block}
use Rattle.image_codec.proofs.FieldFaults.{CoversAt, Covers, Any, Numbered, covers_then, covers_made, rule_of, kept_cross, number, number_covers, tested_covers, crossed_covers, crossed_byte_covers, long, byte_covers, Found, found_in}

-- ---- forms

form_chain : (a b c d e : Bool) (v w x y z : Form)
    → is_some (cond a (Some v) (cond b (Some w) (cond c (Some x) (cond d (Some y) (cond e (Some z) None))))) ≡ ((((a || b) || c) || d) || e)
form_chain true b c d e v w x y z = refl
form_chain false true c d e v w x y z = refl
form_chain false false true d e v w x y z = refl
form_chain false false false true e v w x y z = refl
form_chain false false false false true v w x y z = refl
form_chain false false false false false v w x y z = refl

-- what stands for a number, where something does
found_by : {X : Type 0} (bytes rest : List ℕ) (o : Option X) (test : Bool) → is_some o ≡ test → CoversAt Any (or_later (rule_of false test true) bytes None) rest (found_at I3 bytes rest o)
found_by {X} bytes rest None test e = subst (λ (b : Bool). CoversAt {A = X} Any (or_later (rule_of false b true) bytes None) rest (found_at I3 bytes rest None)) e refl
found_by bytes rest (Some x) test e =
    subst (λ (b : Bool). CoversAt Any (or_later (rule_of false b true) bytes None) rest (found_at I3 bytes rest (Some x))) e (x, refl, tt)

module _ (tasks : ℕ) (bytes rest : List ℕ) (n : ℕ) where
  form_by : (short : Bool) → CoversAt Any (or_later (rule_of short (is_form tasks n) true) bytes None) rest (number bytes rest n short >>= λ m. found_at I3 bytes m.1 (form_of tasks m.0))
  form_by true = refl
  form_by false = found_by bytes rest (form_of tasks n) (is_form tasks n) (form_chain (nat_eq n 0x0000) (nat_eq n 0x0100) (nat_eq n 0x02ff) (nat_eq n 0x0300) _ _ _ _ _ _)

form_covers : (tasks : ℕ) (bytes : List ℕ) → Covers Any (field w16 (is_form tasks) any ∷ []) bytes (form_at tasks bytes)
unfolding form_at
form_covers tasks bytes = form_by tasks bytes (drop 2 bytes) (from_be_bytes w16 (take 2 bytes)) (nat_lt (length bytes) 2)

-- ---- known statuses

found_some : {X : Type 0} (test : Bool) (x : X) (o : Option X) → Found test x o → is_some o ≡ test
found_some true x o e = ap is_some e
found_some false x o e = ap is_some e

any_or : (is_any test : Bool) (o : Option Known) → is_some o ≡ test → is_some (cond is_any (Some known.Any) o) ≡ (is_any || test)
any_or true test o e = refl
any_or false test o e = e

known_test : (n : ℕ) → is_some (known_of n) ≡ is_known n
known_test n = any_or (nat_eq n 0xff) (nat_lt n 10) (slice_get knowns n) (found_some (nat_lt n 10) (get_or knowns n known.Any) (slice_get knowns n) (found_in knowns known.Any n))

known_covers : (v : Version) (bytes : List ℕ) → Covers Any (further_field v (field w8 is_known any)) bytes (known_at v bytes)
unfolding known_at
known_covers version.One bytes = (known.Any, refl, tt)
known_covers version.Two [] = refl
known_covers version.Two (n ∷ rest) =
    subst (λ (short : Bool). CoversAt Any (or_later (rule_of short (is_known n) true) (n ∷ rest) None) rest (found_at I3 (n ∷ rest) rest (known_of n))) (sym (long n rest))
    (found_by (n ∷ rest) rest (known_of n) (is_known n) (known_test n))

-- ---- sites

abbrev a_site : Form → Known → Site
a_site f k = record { form = f; known = k }

module _ (v : Version) (tasks : ℕ) (bytes : List ℕ) where
  abbrev form_field : Field
  form_field = field w16 (is_form tasks) any

  abbrev known_field : List Field
  known_field = further_field v (field w8 is_known any)

  stated_covers : Covers Any (form_field ∷ known_field) bytes (stated_at v tasks bytes)
  unfolding stated_at
  stated_covers =
      covers_then Any Any (form_field ∷ []) known_field bytes (form_at tasks bytes) (λ f rest. known_at v rest >>= λ k. Ok (a_site f k.0, k.1)) (form_covers tasks bytes)
      (λ f _. let rest = behind (form_field ∷ []) bytes in covers_made Any Any known_field rest (known_at v rest) (a_site f) (λ _ _. tt) (known_covers v rest))

  site_by : (is : Bool) → Covers Any (cond is (form_field ∷ known_field) []) bytes (cond is (stated_at v tasks bytes >>= λ x. Ok (Some x.0, x.1)) (Ok (None, bytes)))
  site_by true = covers_made Any Any (form_field ∷ known_field) bytes (stated_at v tasks bytes) (λ (x : Site). Some x) (λ _ _. tt) stated_covers
  site_by false = (None, refl, tt)

-- ---- a block

lock_found : (bytes rest : List ℕ) (test : Bool) (l : Lock) (o : Option Lock) → Found test l o → CoversAt Any (or_later (rule_of false test true) bytes None) rest (lock_of bytes rest o)
lock_found bytes rest true l o e = (l, ap (lock_of bytes rest) e, tt)
lock_found bytes rest false l o e = ap (lock_of bytes rest) e

lock_covers : (bytes : List ℕ) → Covers Any (field w8 (below 6) any ∷ []) bytes (lock_at bytes)
unfolding lock_at
lock_covers [] = refl
lock_covers (n ∷ rest) =
    subst (λ (short : Bool). CoversAt Any (or_later (rule_of short (below 6 n) true) (n ∷ rest) None) rest (lock_of (n ∷ rest) rest (slice_get locks n))) (sym (long n rest))
    (lock_found (n ∷ rest) rest (nat_lt n 6) (get_or locks n lock.SuspendAll) (slice_get locks n) (found_in locks lock.SuspendAll n))

call_dispatch_blank : (c : Call) → call_may_dispatch (blank_call c) ≡ call_may_dispatch c
call_dispatch_blank (call.Plain k) = refl
call_dispatch_blank (call.Task call.ActivateTask x) = refl
call_dispatch_blank (call.Resource call.GetResource r) = refl
call_dispatch_blank (call.Mask call.ClearEvent m) = refl
call_dispatch_blank (call.Alarm call.CancelAlarm a) = refl
call_dispatch_blank (call.Arm call.SetRelAlarm a i c) = refl
call_dispatch_blank c = refl

dispatch_blank : (k : Kind) → may_dispatch (blank_of k) ≡ may_dispatch k
dispatch_blank (kind.Call c) = call_dispatch_blank c
dispatch_blank k = refl

end_blank : (k : Kind) → is_routine_end (blank_of k) ≡ is_routine_end k
end_blank (kind.Choice o) = refl
end_blank k = refl

module _ (t : Tables) (blocks b : ℕ) (v : Version) where
  abbrev Fills : Kind → Kind → Type 0
  Fills k filled = blank_of filled ≡ blank_of k

  site_blank : (k : Kind) → site_fields t blocks b v (blank_of k) ≡ site_fields t blocks b v k
  site_blank k =
      let fs = field w16 (is_form (length t.tasks)) any ∷ further_field v (field w8 is_known any) in
      ap (λ (e : Bool). cond (cond e true (cond (may_dispatch (blank_of k)) (is_task_block_in t.tasks b) false)) fs []) (end_blank k)
      ∙ ap (λ (m : Bool). cond (cond (is_routine_end k) true (cond m (is_task_block_in t.tasks b) false)) fs []) (dispatch_blank k)

  way_blank : (k : Kind) → way_fields t blocks b (blank_of k) ≡ way_fields t blocks b k
  way_blank (kind.Choice o) = refl
  way_blank k = refl

  -- kinds with the same blank have the same fields
  site_same : (k m : Kind) → Fills k m → site_fields t blocks b v m ≡ site_fields t blocks b v k
  site_same k m e = sym (site_blank m) ∙ ap (site_fields t blocks b v) e ∙ site_blank k

  way_same : (k m : Kind) → Fills k m → way_fields t blocks b m ≡ way_fields t blocks b k
  way_same k m e = sym (way_blank m) ∙ ap (way_fields t blocks b) e ∙ way_blank k

  kind_found : (bytes rest : List ℕ) (test : Bool) (k : Kind) (o : Option Kind) → Found test k o
      → CoversAt (λ (m : Kind). m ≡ k) (or_later (rule_of false test (is_allowed t b v k)) bytes None) rest (judged_at t b v bytes rest o)
  kind_found bytes rest true k o e =
      subst (λ (z : Option Kind). CoversAt (λ (m : Kind). m ≡ k) (or_later (rule_of false true (is_allowed t b v k)) bytes None) rest (judged_at t b v bytes rest z)) (sym e)
      (kept_cross bytes rest k (is_allowed t b v k))
  kind_found bytes rest false k o e = ap (judged_at t b v bytes rest) e

  kind_covers : (bytes : List ℕ) → Covers (λ (k : Kind). k ≡ kind_of_number (slice_index bytes 0)) (kind_field t blocks b v ∷ []) bytes (kind_at t b v bytes)
  unfolding kind_at
  kind_covers [] = refl
  kind_covers (n ∷ rest) =
      let k = kind_of_number n in
      subst (λ (short : Bool). CoversAt (λ (m : Kind). m ≡ k) (or_later (rule_of short (below 26 n) (is_allowed t b v k)) (n ∷ rest) None) rest (judged_at t b v (n ∷ rest) rest (slice_get blank_kinds n))) (sym (long n rest))
      (kind_found (n ∷ rest) rest (nat_lt n 26) k (slice_get blank_kinds n) (found_in blank_kinds kind.Loop n))

  -- a kind made of one number
  made : (k : Kind) (f : Field) (w : Width) (bytes : List ℕ) (r : Read ℕ) (make : ℕ → Kind) → ((n : ℕ) → blank_of (make n) ≡ blank_of k) → Covers (Numbered w bytes) (f ∷ []) bytes r
      → Covers (Fills k) (f ∷ []) bytes (r >>= λ x. Ok (make x.0, x.1))
  made k f w bytes r make same h = covers_made (Numbered w bytes) (Fills k) (f ∷ []) bytes r make (λ n _. same n) h

  task_covers : (bytes : List ℕ) → Covers (Numbered w8 bytes) (task_field t blocks b ∷ []) bytes (task_no_at t b bytes)
  task_covers bytes = byte_covers (below (length t.tasks)) bytes

  takable_covers : (bytes : List ℕ) → Covers (Numbered w8 bytes) (resource_field t blocks b ∷ []) bytes (takable_at t bytes)
  unfolding takable_at
  takable_covers bytes = crossed_byte_covers (below (length t.resources)) (is_takable t) bytes

  alarm_covers : (bytes : List ℕ) → Covers (Numbered w8 bytes) (alarm_field t blocks b ∷ []) bytes (alarm_no_at t b bytes)
  alarm_covers bytes = byte_covers (below (length t.alarms)) bytes

  events_cover : (bytes : List ℕ) → Covers (Numbered w64 bytes) (events_field t blocks b ∷ []) bytes (events_at bytes)
  events_cover bytes = tested_covers w64 bytes some

  due_covers : (bytes : List ℕ) → Covers (Numbered w8 bytes) (field w8 (below (length t.alarms)) (is_due t b) ∷ []) bytes (due_at t b bytes)
  unfolding due_at
  due_covers bytes = crossed_byte_covers (below (length t.alarms)) (is_due t b) bytes

  way_covers : (bytes : List ℕ) → Covers (Numbered w16 bytes) (way_field t blocks b ∷ []) bytes (way_at t blocks b bytes)
  unfolding way_at
  way_covers bytes = crossed_covers w16 bytes (below blocks) (is_way t b)

  operands_cover : (k : Kind) (bytes : List ℕ) → Covers (Fills k) (call_fields t blocks b k) bytes (operands_at t b k bytes)
  unfolding operands_at
  operands_cover (kind.Work n) bytes = made (kind.Work n) (field w16 some any) w16 bytes (tested_at w16 some I3 bytes) (λ m. kind.Work m) (λ m. refl) (tested_covers w16 bytes some)
  operands_cover (kind.Choice o) bytes = (kind.Choice o, refl, refl)
  operands_cover kind.Loop bytes = (kind.Loop, refl, refl)
  operands_cover (kind.Call (call.Plain k)) bytes = (kind.Call (call.Plain k), refl, refl)
  operands_cover (kind.Call (call.Task k x)) bytes =
      made (kind.Call (call.Task k x)) (task_field t blocks b) w8 bytes (task_no_at t b bytes) (λ n. kind.Call (call.Task k (task_no n))) (λ n. refl) (task_covers bytes)
  operands_cover (kind.Call (call.Resource k r)) bytes =
      made (kind.Call (call.Resource k r)) (resource_field t blocks b) w8 bytes (takable_at t bytes) (λ n. kind.Call (call.Resource k (res_no n))) (λ n. refl) (takable_covers bytes)
  operands_cover (kind.Call (call.SetEvent x m)) bytes =
      covers_then (Numbered w8 bytes) (Fills (kind.Call (call.SetEvent x m))) (task_field t blocks b ∷ []) (events_field t blocks b ∷ []) bytes (task_no_at t b bytes)
      (λ n rest. events_at rest >>= λ e. Ok (kind.Call (call.SetEvent (task_no n) (mask e.0)), e.1)) (task_covers bytes)
      (λ n _. let rest = behind (task_field t blocks b ∷ []) bytes in
      made (kind.Call (call.SetEvent x m)) (events_field t blocks b) w64 rest (events_at rest) (λ e. kind.Call (call.SetEvent (task_no n) (mask e))) (λ e. refl) (events_cover rest))
  operands_cover (kind.Call (call.Mask k m)) bytes =
      made (kind.Call (call.Mask k m)) (events_field t blocks b) w64 bytes (events_at bytes) (λ e. kind.Call (call.Mask k (mask e))) (λ e. refl) (events_cover bytes)
  operands_cover (kind.Call (call.Arm k a i c)) bytes =
      covers_then (Numbered w8 bytes) (Fills (kind.Call (call.Arm k a i c))) (alarm_field t blocks b ∷ []) (ticks_field t blocks b ∷ ticks_field t blocks b ∷ []) bytes (alarm_no_at t b bytes)
      (λ n rest. number_at w64 rest >>= λ j. number_at w64 j.1 >>= λ d. Ok (kind.Call (call.Arm k (alarm_no n) j.0 d.0), d.1)) (alarm_covers bytes)
      (λ n _. let rest = behind (alarm_field t blocks b ∷ []) bytes in
      covers_then (Numbered w64 rest) (Fills (kind.Call (call.Arm k a i c))) (ticks_field t blocks b ∷ []) (ticks_field t blocks b ∷ []) rest (number_at w64 rest)
      (λ j rest. number_at w64 rest >>= λ d. Ok (kind.Call (call.Arm k (alarm_no n) j d.0), d.1)) (number_covers w64 rest)
      (λ j _. let last = behind (ticks_field t blocks b ∷ []) rest in
      made (kind.Call (call.Arm k a i c)) (ticks_field t blocks b) w64 last (number_at w64 last) (λ d. kind.Call (call.Arm k (alarm_no n) j d)) (λ d. refl) (number_covers w64 last)))
  operands_cover (kind.Call (call.Alarm k a)) bytes =
      made (kind.Call (call.Alarm k a)) (alarm_field t blocks b) w8 bytes (alarm_no_at t b bytes) (λ n. kind.Call (call.Alarm k (alarm_no n))) (λ n. refl) (alarm_covers bytes)
  operands_cover (kind.Call (call.Lock l)) bytes =
      covers_made Any (Fills (kind.Call (call.Lock l))) (field w8 (below 6) any ∷ []) bytes (lock_at bytes) (λ (y : Lock). kind.Call (call.Lock y)) (λ _ _. refl) (lock_covers bytes)
  operands_cover (kind.Call call.ShutdownOs) bytes = (kind.Call call.ShutdownOs, refl, refl)
  operands_cover kind.TaskEnd bytes = (kind.TaskEnd, refl, refl)
  operands_cover kind.IsrEnd bytes = (kind.IsrEnd, refl, refl)
  operands_cover kind.CountUp bytes = (kind.CountUp, refl, refl)
  operands_cover (kind.Expire a) bytes = made (kind.Expire a) (field w8 (below (length t.alarms)) (is_due t b)) w8 bytes (due_at t b bytes) (λ n. kind.Expire (alarm_no n)) (λ n. refl) (due_covers bytes)

  abbrev Leads : Kind → Kind × ℕ → Type 0
  Leads k w = Fills k w.0

  plainly : (k : Kind) (bytes : List ℕ) → Covers (Leads k) (way_field t blocks b ∷ []) bytes (way_at t blocks b bytes >>= λ next. Ok ((k, next.0), next.1))
  plainly k bytes = covers_made (Numbered w16 bytes) (Leads k) (way_field t blocks b ∷ []) bytes (way_at t blocks b bytes) (λ next. (k, next)) (λ _ _. refl) (way_covers bytes)

  abbrev a_choice : ℕ → ℕ → Kind × ℕ
  a_choice next other = (kind.Choice (block_no other), next)

  ways_cover : (k : Kind) (bytes : List ℕ) → Covers (Leads k) (way_fields t blocks b k) bytes (ways_at t blocks b k bytes)
  unfolding ways_at
  ways_cover kind.TaskEnd bytes = ((kind.TaskEnd, b), refl, refl)
  ways_cover kind.IsrEnd bytes = ((kind.IsrEnd, b), refl, refl)
  ways_cover (kind.Choice o) bytes =
      covers_then (Numbered w16 bytes) (Leads (kind.Choice o)) (way_field t blocks b ∷ []) (way_field t blocks b ∷ []) bytes (way_at t blocks b bytes)
      (λ next rest. way_at t blocks b rest >>= λ other. Ok (a_choice next other.0, other.1)) (way_covers bytes)
      (λ next _. let rest = behind (way_field t blocks b ∷ []) bytes in
      covers_made (Numbered w16 rest) (Leads (kind.Choice o)) (way_field t blocks b ∷ []) rest (way_at t blocks b rest) (a_choice next) (λ _ _. refl) (way_covers rest))
  ways_cover k bytes = plainly k bytes

  site_covers : (k : Kind) (bytes : List ℕ) → Covers Any (site_fields t blocks b v k) bytes (site_at t b v k bytes)
  unfolding site_at
  site_covers k bytes = site_by v (length t.tasks) bytes (is_site_in t.tasks b k)

  flag_covers : (bytes : List ℕ) → Covers Any (field w8 (below 2) any ∷ []) bytes (flag_at bytes)
  unfolding flag_at
  flag_covers bytes = covers_made (Numbered w8 bytes) Any (field w8 (below 2) any ∷ []) bytes (byte_below_at 2 bytes) (λ n. nat_eq n 1) (λ _ _. tt) (byte_covers (below 2) bytes)

  abbrev an_entry : Bool → ℕ → Kind × ℕ → Option Site → Entry
  an_entry locked line w site = (record { kind = w.0; locked = locked; line = line; next = block_no w.1 }, site)

  abbrev with_site : Bool → ℕ → Kind × ℕ → List ℕ → Read Entry
  with_site locked line w rest = site_at t b v w.0 rest >>= λ site. Ok (an_entry locked line w site.0, site.1)

  abbrev with_ways : Bool → ℕ → Kind → List ℕ → Read Entry
  with_ways locked line filled rest = ways_at t blocks b filled rest >>= λ w. with_site locked line w.0 w.1

  abbrev with_operands : Kind → Bool → ℕ → List ℕ → Read Entry
  with_operands k locked line rest = operands_at t b k rest >>= λ filled. with_ways locked line filled.0 filled.1

  abbrev with_line : Kind → Bool → List ℕ → Read Entry
  with_line k locked rest = number_at w32 rest >>= λ line. with_operands k locked line.0 line.1

  abbrev with_flag : Kind → List ℕ → Read Entry
  with_flag k rest = flag_at rest >>= λ locked. with_line k locked.0 locked.1

  abbrev fields_of : Kind → List Field
  fields_of k = call_fields t blocks b k ++ (way_fields t blocks b k ++ site_fields t blocks b v k)

  site_rest : (locked : Bool) (line : ℕ) (k : Kind) (w : Kind × ℕ) → Leads k w → (rest : List ℕ) → Covers Any (site_fields t blocks b v k) rest (with_site locked line w rest)
  site_rest locked line k w e rest =
      subst (λ (fs : List Field). Covers Any fs rest (with_site locked line w rest)) (site_same k w.0 e)
      (covers_made Any Any (site_fields t blocks b v w.0) rest (site_at t b v w.0 rest) (an_entry locked line w) (λ _ _. tt) (site_covers w.0 rest))

  ways_rest : (locked : Bool) (line : ℕ) (k filled : Kind) → Fills k filled → (rest : List ℕ) → Covers Any (way_fields t blocks b k ++ site_fields t blocks b v k) rest (with_ways locked line filled rest)
  ways_rest locked line k filled e rest =
      subst (λ (fs : List Field). Covers Any (fs ++ site_fields t blocks b v k) rest (with_ways locked line filled rest)) (way_same k filled e)
      (covers_then (Leads filled) Any (way_fields t blocks b filled) (site_fields t blocks b v k) rest (ways_at t blocks b filled rest) (with_site locked line) (ways_cover filled rest)
      (λ w q. site_rest locked line k w (q ∙ e) (behind (way_fields t blocks b filled) rest)))

  fields_rest : (k : Kind) (rest : List ℕ) → Covers Any (field w8 (below 2) any ∷ field w32 any any ∷ fields_of k) rest (with_flag k rest)
  fields_rest k rest =
      covers_then Any Any (field w8 (below 2) any ∷ []) (field w32 any any ∷ fields_of k) rest (flag_at rest) (with_line k) (flag_covers rest) (λ locked _.
      let behind_flag = behind (field w8 (below 2) any ∷ []) rest in
      covers_then (Numbered w32 behind_flag) Any (field w32 any any ∷ []) (fields_of k) behind_flag (number_at w32 behind_flag) (with_operands k locked) (number_covers w32 behind_flag) (λ line _.
      let behind_line = behind (field w32 any any ∷ []) behind_flag in
      covers_then (Fills k) Any (call_fields t blocks b k) (way_fields t blocks b k ++ site_fields t blocks b v k) behind_line (operands_at t b k behind_line) (with_ways locked line) (operands_cover k behind_line)
      (λ filled e. ways_rest locked line k filled e (behind (call_fields t blocks b k) behind_line))))

  -- the first fault of a block is that of the first field that breaks a rule
  pub block_covers : (bytes : List ℕ) → Covers Any (block_fields t blocks b v bytes) bytes (block_at t blocks b v bytes)
  unfolding block_at
  block_covers bytes =
      let k = kind_of_number (slice_index bytes 0) in
      covers_then (λ (m : Kind). m ≡ k) Any (kind_field t blocks b v ∷ []) (field w8 (below 2) any ∷ field w32 any any ∷ fields_of k) bytes (kind_at t b v bytes) with_flag (kind_covers bytes)
      (λ m is. let rest = behind (kind_field t blocks b v ∷ []) bytes in
      subst (λ (z : Kind). Covers Any (field w8 (below 2) any ∷ field w32 any any ∷ fields_of z) rest (with_flag m rest)) is (fields_rest m rest))

-- ---- all blocks

fault_then : {A B : Type 0} (P : A → Type 0) (o later : Option Fault) (rest : List ℕ) (r : Read A) (k : A → List ℕ → Read B)
    → CoversAt P o rest r → ((a : A) → fault_of (k a rest) ≡ later) → fault_of (r >>= λ x. k x.0 x.1) ≡ or_else o later
fault_then {A} P None later rest r k h more = ap (λ (s : Read A). fault_of (s >>= λ x. k x.0 x.1)) h.1 ∙ more h.0
fault_then {A} P (Some f) later rest r k h more = ap (λ (s : Read A). fault_of (s >>= λ x. k x.0 x.1)) h

module _ (v : Version) (t : Tables) (blocks : ℕ) where
  faults_from : (k : ℕ) (earlier : List Entry) (b : ℕ) (bytes : List ℕ) → length earlier ≡ b → fault_of (entries_at (read_block v t blocks) earlier k bytes) ≡ blocks_fault v t blocks k b bytes
  unfolding entries_at
  faults_from zero earlier b bytes e = refl
  faults_from (suc k) earlier b bytes e =
      let fs = block_fields t blocks b v bytes in
      ap (λ (n : ℕ). fault_of (block_at t blocks n v bytes >>= λ x. entries_at (read_block v t blocks) (earlier ++ x.0 ∷ []) k x.1)) e
      ∙ fault_then Any (first_broken fs bytes) (blocks_fault v t blocks k (b + 1) (behind fs bytes)) (behind fs bytes) (block_at t blocks b v bytes)
      (λ x rest. entries_at (read_block v t blocks) (earlier ++ x ∷ []) k rest) (block_covers t blocks b v bytes)
      (λ x. faults_from k (earlier ++ x ∷ []) (b + 1) (behind fs bytes) (length_push earlier x ∙ ap (λ n. n + 1) e))

pub blocks_faults : BlocksFaults
blocks_faults v t blocks bytes = faults_from v t blocks blocks [] 0 bytes refl

fault_is : {A : Type 0} (r : Read A) (f : Fault) → fault_of r ≡ Some f → r ≡ Err f
fault_is (Ok x) f e = absurd cc
fault_is (Err g) f e = cc

abbrev with_blocks : Header → Tables → Read (List Entry) → Read Parts
with_blocks h t r = r >>= λ b. Ok (record { version = h.version; hooks = h.hooks; tables = t; blocks = map (λ (x : Entry). x.0) b.0; sites = map (λ (x : Entry). x.1) b.0 }, b.1)

abbrev whole : Read Parts → Read Parts
whole r = r >>= λ p. kept (length p.1 == 0) I6 p.1 p

pub image_faults : ImageFaults
unfolding read_image all_at parts_at
image_faults bytes h t r1 r2 f e1 e2 e3 =
    let e : blocks_at h.version t h.blocks r2 ≡ Err f = fault_is (blocks_at h.version t h.blocks r2) f (blocks_faults h.version t h.blocks r2 ∙ e3) in
    ap (λ (r : Read Header). placed (length bytes) (whole (r >>= λ n. tables_at n.0 n.1 >>= λ u. with_blocks n.0 u.0 (blocks_at n.0.version u.0 n.0.blocks u.1)))) e1
    ∙ ap (λ (r : Read Tables). placed (length bytes) (whole (r >>= λ u. with_blocks h u.0 (blocks_at h.version u.0 h.blocks u.1)))) e2
    ∙ ap (λ (r : Read (List Entry)). placed (length bytes) (whole (with_blocks h t r))) e
