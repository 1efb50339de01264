-- Readers of whole blocks, and their spelling.
use Rattle.std.proofs.Common.{◌≡◌, ℕ, ◌^◌, ◌<◌, Bool, cond, eqb, List, [], ◌++◌, length, Option, Some, Ok, refl, sym, ap, subst, ◌∙◌}
use Rattle.std.specs.{Prelude.{nat_lt, slice_get, slice_index_or}, Int.{w16, w32}}
use Rattle.std.proofs.lemmas.Option.{same_Some, get_or_from_slice_get}
use Rattle.osek_values.specs.{Numbers.{task_no, alarm_no, res_no, block_no, mask}, declared.numbers.BlockNo.{BlockNo}}
use Rattle.osek_standard.specs.declared.block.{Block.{Block}, Kind.{Kind}}
use Rattle.osek_standard.specs.declared.block.Kind.TheVariants as kind
use Rattle.osek_standard.specs.declared.call.Call.{Call}
use Rattle.image_model.specs.CallNames as call
use Rattle.osek_values.specs.declared.lock.Lock.TheVariants as lock
use Rattle.image_fields.specs.declared.fault.ImageRule.TheVariants.{I3, I5}
use Rattle.image_model.specs.declared.{site.Site.{Site}, image.Version.{Version}}
use Rattle.image_fields.specs.declared.parts.Tables.{Tables}
use Rattle.osek_standard.specs.Apps.{is_site_in}
use Rattle.image_codec.specs.Spelling.{one, two, four, eight, kind_number, lock_number, operand_bytes, way_bytes, site_bytes, flag_number, block_bytes}
use Rattle.image_fields.specs.Reading.{AreBytes, Read, ◌>>=◌, number_at, tested_at, flag_at}
use Rattle.image_fields.specs.BlockReading.{blank_kinds, is_way, kind_at, task_no_at, takable_at, alarm_no_at, events_at, lock_at, due_at, operands_at, way_at, ways_at, site_at, block_at}
use Rattle.image_fields.proofs.Steps.{ok_is, done_with}
use Rattle.image_codec.proofs.Spells.{Takes, Spells, nothing_more, and_then, said, wide16, wide32, number_law, Tested, tested_law, tested_number_law, joined6}
use Rattle.image_codec.proofs.FieldLaws.{flag_law}
use Rattle.image_codec.proofs.KindLaws.{GoodBlank, kind_law, other_of, GoodOperands, GoodFilled, operands_take, task_no_law, takable_law, alarm_no_law, events_law, due_law, lock_law, ticks_law, set_event_law, made_of}
use Rattle.image_codec.proofs.SiteLaws.{GoodSite, site_law}

-- the kind of a number, with blank operands but for where choice 0 leads
abbrev kind_by : ℕ → ℕ → Kind
kind_by n o = cond (eqb n 1) (kind.Choice (block_no o)) (slice_index_or blank_kinds n kind.Loop)

-- a kind as it is before its other way is read
abbrev pub unwayed : Kind → Kind
unwayed (kind.Choice o) = kind.Choice (block_no 0)
unwayed k = k

again_one : {A : Type 0} (read : List ℕ → Read A) (spell : A → List ℕ) (Good : A → Type 0) → Spells read spell Good → (f : A → Kind) (a : A) (rest : List ℕ) → Good a → made_of read f (spell a ++ rest) ≡ Ok (f a, rest)
again_one {A} read spell Good law f a rest good = ap (λ (r : Read A). r >>= λ x. Ok (f x.0, x.1)) (law.again a rest good)

module _ (tables : Tables) (b : ℕ) where
  operands_again : (k : Kind) (rest : List ℕ) → GoodOperands tables b k → operands_at tables b k (operand_bytes k ++ rest) ≡ Ok (k, rest)
  unfolding operands_at
  operands_again (kind.Work n) rest good = again_one (tested_at w16 (λ m. nat_lt 0 m) I3) two _ (tested_number_law w16 (2 ^ 16) wide16 (λ m. nat_lt 0 m) I3) (λ m. kind.Work m) n rest good
  operands_again (kind.Choice o) rest good = refl
  operands_again kind.Loop rest good = refl
  operands_again (kind.Call (call.Task k x)) rest good = again_one (task_no_at tables b) one _ (task_no_law tables b) (λ m. (kind.Call (call.Task k (task_no m)))) x.0 rest good
  operands_again (kind.Call (call.Plain k)) rest good = refl
  operands_again (kind.Call (call.Resource k r)) rest good = again_one (takable_at tables) one _ (takable_law tables b) (λ m. (kind.Call (call.Resource k (res_no m)))) r.0 rest good
  operands_again (kind.Call (call.SetEvent x m)) rest good = (set_event_law tables b).again (kind.Call (call.SetEvent x m)) rest (good.0, (good.1, refl))
  operands_again (kind.Call (call.Mask k m)) rest good = again_one events_at eight _ (events_law tables b) (λ n. (kind.Call (call.Mask k (mask n)))) m.0 rest good
  operands_again (kind.Call (call.Arm k a i c)) rest good = (ticks_law tables b (λ n j d. (kind.Call (call.Arm k (alarm_no n) j d))) (λ n j d. refl) (λ n j d. refl) (λ n j d. refl)).again (kind.Call (call.Arm k a i c)) rest (good.0, (good.1.0, (good.1.1, refl)))
  operands_again (kind.Call (call.Alarm k a)) rest good = again_one (alarm_no_at tables b) one _ (alarm_no_law tables b) (λ m. (kind.Call (call.Alarm k (alarm_no m)))) a.0 rest good
  operands_again (kind.Call (call.Lock l)) rest good = again_one lock_at (λ y. one (lock_number y)) _ lock_law (λ y. (kind.Call (call.Lock y))) l rest tt
  operands_again (kind.Call call.ShutdownOs) rest good = refl
  operands_again kind.TaskEnd rest good = refl
  operands_again kind.IsrEnd rest good = refl
  operands_again kind.CountUp rest good = refl
  operands_again (kind.Expire a) rest good = again_one (due_at tables b) one _ (due_law tables b) (λ m. kind.Expire (alarm_no m)) a.0 rest good

  -- the blank operands don't matter
  same_operands : (k : Kind) (bytes : List ℕ) → operands_at tables b k bytes ≡ operands_at tables b (kind_by (kind_number k) (other_of k)) bytes
  unfolding operands_at
  same_operands (kind.Work n) bytes = refl
  same_operands (kind.Call (call.Plain call.TerminateTask)) bytes = refl
  same_operands (kind.Call (call.Task call.ActivateTask x)) bytes = refl
  same_operands (kind.Call (call.Resource call.GetResource r)) bytes = refl
  same_operands (kind.Call (call.Mask call.ClearEvent m)) bytes = refl
  same_operands (kind.Call (call.Alarm call.CancelAlarm a)) bytes = refl
  same_operands (kind.Call (call.Arm call.SetRelAlarm a i c)) bytes = refl
  same_operands _ bytes = refl

  pub operands_law : (blank : Kind) → Spells (operands_at tables b blank) operand_bytes (GoodFilled tables b blank)
  operands_law blank = record {
    takes = operands_take tables b blank;
    again = λ k rest good.
        let bytes = operand_bytes k ++ rest in
        same_operands blank bytes
        ∙ ap (λ (n : ℕ). operands_at tables b (kind_by n (other_of blank)) bytes) (sym good.number)
        ∙ ap (λ (o : ℕ). operands_at tables b (kind_by (kind_number k) o) bytes) (sym good.other)
        ∙ sym (same_operands k bytes) ∙ operands_again k rest good.operands;
  }

-- ---- ways

module _ (tables : Tables) (blocks b : ℕ) where
  abbrev pub GoodWay : ℕ → Type 0
  GoodWay = Tested (is_way tables b) (Tested (λ n. nat_lt n blocks) (λ n. n < 2 ^ 16))

  abbrev pub LeadsWell : Kind → ℕ → Type 0
  LeadsWell kind.TaskEnd n = n ≡ b
  LeadsWell kind.IsrEnd n = n ≡ b
  LeadsWell (kind.Choice o) n = GoodWay n × GoodWay o.0
  LeadsWell _ n = GoodWay n

  pub record GoodWays (filled : Kind) (w : Kind × ℕ) : Type 0 where
    pub same : unwayed w.0 ≡ unwayed filled
    pub leads : LeadsWell w.0 w.1

  way_law : Spells (way_at tables blocks b) two GoodWay
  unfolding way_at
  way_law = tested_law (tested_at w16 (λ n. nat_lt n blocks) I3) two _ (is_way tables b) I5 (tested_number_law w16 (2 ^ 16) wide16 (λ n. nat_lt n blocks) I3)

  abbrev ways_bytes : Kind × ℕ → List ℕ
  ways_bytes w = way_bytes w.0 (block_no w.1)

  abbrev TookWays : Kind → (List ℕ → Read (Kind × ℕ)) → Type 0
  TookWays filled read = (bytes : List ℕ) (w : Kind × ℕ) (rest : List ℕ) → AreBytes bytes → read bytes ≡ Ok (w, rest) → Takes bytes (ways_bytes w) rest × GoodWays filled w

  abbrev nowhere : Kind → List ℕ → Read (Kind × ℕ)
  nowhere k bytes = Ok ((k, b), bytes)

  took_nowhere : (k : Kind) → way_bytes k (block_no b) ≡ [] → LeadsWell k b → TookWays k (nowhere k)
  took_nowhere k none leads bytes w rest fits e =
      subst (λ (p : (Kind × ℕ) × List ℕ). Takes bytes (ways_bytes p.0) p.1 × GoodWays k p.0) (ok_is ((k, b), bytes) (w, rest) e)
      (subst (λ (s : List ℕ). Takes bytes s bytes) (sym none) (record { parts = refl; rest_fits = fits }), record { same = refl; leads = leads })

  abbrev plainly : Kind → List ℕ → Read (Kind × ℕ)
  plainly k bytes = way_at tables blocks b bytes >>= λ next. Ok ((k, next.0), next.1)

  plain_law : (k : Kind) → Spells (plainly k) (λ w. two w.1 ++ []) (λ w. GoodWay w.1 × (w ≡ (k, w.1)))
  plain_law k = and_then (way_at tables blocks b) two GoodWay (λ w. w.1) (λ next rest. Ok ((k, next), rest)) (λ _. []) (λ next w. w ≡ (k, next)) way_law (λ next _. nothing_more (k, next)) (λ next w _ is. ap (λ (v : Kind × ℕ). v.1) is)

  took_plainly : (k : Kind) → ((n : ℕ) → two n ++ [] ≡ way_bytes k (block_no n)) → ((n : ℕ) → GoodWay n → LeadsWell k n) → TookWays k (plainly k)
  took_plainly k spelled leads bytes w rest fits e =
      let u = (plain_law k).takes bytes w rest fits e in
      subst (λ (v : Kind × ℕ). Takes bytes (ways_bytes v) rest × GoodWays k v) (sym u.1.1)
      (subst (λ (s : List ℕ). Takes bytes s rest) (spelled w.1) u.0, record { same = refl; leads = leads w.1 u.1.0 })

  abbrev a_choice : ℕ → ℕ → Kind × ℕ
  a_choice next other = (kind.Choice (block_no other), next)

  abbrev by_choice : List ℕ → Read (Kind × ℕ)
  by_choice bytes = way_at tables blocks b bytes >>= λ next. way_at tables blocks b next.1 >>= λ other. Ok (a_choice next.0 other.0, other.1)

  choice_law : Spells by_choice (λ w. two w.1 ++ (two (other_of w.0) ++ [])) (λ w. GoodWay w.1 × (GoodWay (other_of w.0) × (w ≡ a_choice w.1 (other_of w.0))))
  choice_law =
      and_then (way_at tables blocks b) two GoodWay (λ (w : Kind × ℕ). w.1) _ _ _ way_law (λ next _.
      and_then (way_at tables blocks b) two GoodWay (λ (w : Kind × ℕ). other_of w.0) (λ other rest. Ok (a_choice next other, rest)) (λ _. []) (λ other w. w ≡ a_choice next other) way_law (λ other _. nothing_more (a_choice next other))
      (λ other w _ is. ap (λ (v : Kind × ℕ). other_of v.0) is))
      (λ next w _ good. ap (λ (v : Kind × ℕ). v.1) good.1)

  took_choice : (o : BlockNo) → TookWays (kind.Choice o) by_choice
  took_choice o bytes w rest fits e =
      let u = choice_law.takes bytes w rest fits e in
      subst (λ (v : Kind × ℕ). Takes bytes (ways_bytes v) rest × GoodWays (kind.Choice o) v) (sym u.1.1.1)
      (u.0, record { same = refl; leads = (u.1.0, u.1.1.0) })

  ways_take : (filled : Kind) → TookWays filled (ways_at tables blocks b filled)
  unfolding ways_at
  ways_take kind.TaskEnd = took_nowhere kind.TaskEnd refl refl
  ways_take kind.IsrEnd = took_nowhere kind.IsrEnd refl refl
  ways_take (kind.Choice o) = took_choice o
  ways_take k = took_plainly k (λ n. refl) (λ n g. g)

  ways_again : (k : Kind) (n : ℕ) (rest : List ℕ) → LeadsWell k n → ways_at tables blocks b k (way_bytes k (block_no n) ++ rest) ≡ Ok ((k, n), rest)
  unfolding ways_at
  ways_again kind.TaskEnd n rest good = ap (λ (m : ℕ). done_with ((kind.TaskEnd, m), rest)) (sym good)
  ways_again kind.IsrEnd n rest good = ap (λ (m : ℕ). done_with ((kind.IsrEnd, m), rest)) (sym good)
  ways_again (kind.Choice o) n rest good = choice_law.again (kind.Choice o, n) rest (good.0, (good.1, refl))
  ways_again k n rest good = (plain_law k).again (k, n) rest (good, refl)

  same_ways : (k : Kind) (bytes : List ℕ) → ways_at tables blocks b k bytes ≡ ways_at tables blocks b (unwayed k) bytes
  unfolding ways_at
  same_ways (kind.Choice o) bytes = refl
  same_ways k bytes = refl

  pub ways_law : (filled : Kind) → Spells (ways_at tables blocks b filled) ways_bytes (GoodWays filled)
  ways_law filled = record {
    takes = ways_take filled;
    again = λ w rest good.
        let bytes = ways_bytes w ++ rest in
        same_ways filled bytes ∙ ap (λ (k : Kind). ways_at tables blocks b k bytes) (sym good.same) ∙ sym (same_ways w.0 bytes) ∙ ways_again w.0 w.1 rest good.leads;
  }

-- ---- blocks

abbrev pub Entry : Type 0
Entry = Block × Option Site

abbrev an_entry : Bool → ℕ → Kind × ℕ → Option Site → Entry
an_entry locked line w site = (record { kind = w.0; locked = locked; line = line; next = block_no w.1 }, site)

-- a kind with its operands blank
abbrev pub blank_call : Call → Call
blank_call (call.Plain k) = call.Plain k
blank_call (call.Task k x) = call.Task k (task_no 0)
blank_call (call.Resource k r) = call.Resource k (res_no 0)
blank_call (call.SetEvent x m) = call.SetEvent (task_no 0) (mask 0)
blank_call (call.Mask k m) = call.Mask k (mask 0)
blank_call (call.Alarm k a) = call.Alarm k (alarm_no 0)
blank_call (call.Arm k a i c) = call.Arm k (alarm_no 0) 0 0
blank_call (call.Lock l) = call.Lock lock.SuspendAll
blank_call call.ShutdownOs = call.ShutdownOs

abbrev pub blank_of : Kind → Kind
blank_of (kind.Work n) = kind.Work 0
blank_of (kind.Choice o) = kind.Choice (block_no 0)
blank_of kind.Loop = kind.Loop
blank_of (kind.Call c) = kind.Call (blank_call c)
blank_of kind.TaskEnd = kind.TaskEnd
blank_of kind.IsrEnd = kind.IsrEnd
blank_of kind.CountUp = kind.CountUp
blank_of (kind.Expire a) = kind.Expire (alarm_no 0)

-- each service, one by one: the other clauses of a family are covered by the last
pub listed_blank : (k : Kind) → slice_get blank_kinds (kind_number k) ≡ Some (blank_of k)
listed_blank (kind.Call (call.Plain call.TerminateTask)) = refl
listed_blank (kind.Call (call.Task call.ActivateTask x)) = refl
listed_blank (kind.Call (call.Resource call.GetResource r)) = refl
listed_blank (kind.Call (call.Mask call.ClearEvent m)) = refl
listed_blank (kind.Call (call.Alarm call.CancelAlarm a)) = refl
listed_blank (kind.Call (call.Arm call.SetRelAlarm a i c)) = refl
listed_blank k = refl

number_blank_call : (c : Call) → kind_number (kind.Call (blank_call c)) ≡ kind_number (kind.Call c)
number_blank_call (call.Plain k) = refl
number_blank_call (call.Task k x) = refl
number_blank_call c = refl

pub number_unwayed : (k : Kind) → kind_number (unwayed k) ≡ kind_number k
number_unwayed (kind.Choice o) = refl
number_unwayed k = refl

pub number_blank : (k : Kind) → kind_number (blank_of k) ≡ kind_number k
number_blank (kind.Call c) = number_blank_call c
number_blank k = refl

operands_unwayed : (k : Kind) → operand_bytes (unwayed k) ≡ operand_bytes k
operands_unwayed (kind.Choice o) = refl
operands_unwayed k = refl

unwayed_twice : (k : Kind) → unwayed k ≡ unwayed (unwayed k)
unwayed_twice (kind.Choice o) = refl
unwayed_twice k = refl

unwayed_already : (k : Kind) → other_of k ≡ 0 → unwayed k ≡ k
unwayed_already (kind.Choice o) e = ap (λ (n : ℕ). kind.Choice (block_no n)) (sym e)
unwayed_already k e = refl

blank_other : (k : Kind) → slice_get blank_kinds (kind_number k) ≡ Some k → other_of k ≡ 0
blank_other (kind.Choice o) e = ap other_of (sym (same_Some (kind.Choice (block_no 0)) (kind.Choice o) e))
blank_other k e = refl

module _ (t : Tables) (blocks b : ℕ) (v : Version) where
  -- a block is good beside the tables
  pub record GoodBlock (y : Entry) : Type 0 where
    pub blank : GoodBlank t b v (blank_of y.0.kind)
    pub line : y.0.line < 2 ^ 32
    pub filled : GoodFilled t b (blank_of y.0.kind) (unwayed y.0.kind)
    pub leads : LeadsWell t blocks b y.0.kind y.0.next.0
    pub site : GoodSite v (length t.tasks) (is_site_in t.tasks b y.0.kind) y.1

  pub block_law : Spells (block_at t blocks b v) (block_bytes v) GoodBlock
  unfolding block_at
  block_law =
      said (block_at t blocks b v) _ _ (block_bytes v) GoodBlock
      (and_then (kind_at t b v) (λ k. one (kind_number k)) (GoodBlank t b v) (λ (y : Entry). blank_of y.0.kind) _ _ _ (kind_law t b v) (λ blank blank_good.
      and_then flag_at (λ f. one (flag_number f)) _ (λ (y : Entry). y.0.locked) _ _ _ flag_law (λ locked _.
      and_then (number_at w32) four (λ n. n < 2 ^ 32) (λ (y : Entry). y.0.line) _ _ _ (number_law w32 (2 ^ 32) wide32) (λ line _.
      and_then (operands_at t b blank) operand_bytes (GoodFilled t b blank) (λ (y : Entry). unwayed y.0.kind) _ _ _ (operands_law t b blank) (λ filled filled_good.
      and_then (ways_at t blocks b filled) (λ w. way_bytes w.0 (block_no w.1)) (GoodWays t blocks b filled) (λ (y : Entry). (y.0.kind, y.0.next.0)) _ _ _ (ways_law t blocks b filled) (λ w _.
      and_then (site_at t b v w.0) (site_bytes v) _ (λ (y : Entry). y.1) (λ site rest. Ok (an_entry locked line w site, rest)) (λ _. []) (λ site y. y ≡ an_entry locked line w site)
      (site_law t b v w.0) (λ site _. nothing_more (an_entry locked line w site))
      (λ site y _ is. ap (λ (z : Entry). z.1) is))
      (λ w y _ good. ap (λ (z : Entry). (z.0.kind, z.0.next.0)) good.1))
      (λ filled y filled_good good.
      let none : other_of filled ≡ 0 = filled_good.other ∙ blank_other blank blank_good.blank in
      good.0.same ∙ unwayed_already filled none))
      (λ line y _ good. ap (λ (z : Entry). z.0.line) good.1.1.1))
      (λ locked y _ good. ap (λ (z : Entry). z.0.locked) good.1.1.1.1))
      (λ blank y blank_good good.
      let same : kind_number y.0.kind ≡ kind_number blank = sym (number_unwayed y.0.kind) ∙ good.1.1.0.number in
      sym (get_or_from_slice_get blank_kinds (kind_number y.0.kind) (blank_of y.0.kind) kind.Loop (listed_blank y.0.kind))
      ∙ ap (λ (n : ℕ). slice_index_or blank_kinds n kind.Loop) same ∙ get_or_from_slice_get blank_kinds (kind_number blank) blank kind.Loop blank_good.blank))
      (λ y.
      ap (λ (n : ℕ). one n ++ (one (flag_number y.0.locked) ++ (four y.0.line ++ (operand_bytes (unwayed y.0.kind) ++ (way_bytes y.0.kind y.0.next ++ (site_bytes v y.1 ++ [])))))) (number_blank y.0.kind)
      ∙ ap (λ (s : List ℕ). one (kind_number y.0.kind) ++ (one (flag_number y.0.locked) ++ (four y.0.line ++ (s ++ (way_bytes y.0.kind y.0.next ++ (site_bytes v y.1 ++ [])))))) (operands_unwayed y.0.kind)
      ∙ joined6 (one (kind_number y.0.kind)) (one (flag_number y.0.locked)) (four y.0.line) (operand_bytes y.0.kind) (way_bytes y.0.kind y.0.next) (site_bytes v y.1))
      (λ y good. record { blank = good.0; line = good.1.1.0; filled = good.1.1.1.0; leads = good.1.1.1.1.0.leads; site = good.1.1.1.1.1.0 })
      (λ y good. (good.blank, (tt, (good.line, (good.filled, (record { same = unwayed_twice y.0.kind; leads = good.leads }, (good.site, refl)))))))
