-- Readers of a block's kind, its operands and its ways, and their spellings.
use Rattle.std.proofs.Common.{◌≡◌, ℕ, ◌+◌, ◌^◌, ◌<◌, Bool, true, List, [], ◌∷◌, ◌++◌, length, map, get_or, Option, Some, None, Ok, refl, sym, ap, subst, ◌∙◌, arith}
use Rattle.std.specs.{Prelude.{nat_lt, slice_get, option_map, ⊤}, Int.{w16, w64}, List.{range_with_len}}
use Rattle.std.proofs.lemmas.{Option.{slice_get-map, slice_get_within, get_or_from_slice_get}, List.FromFn.{get_or-range_with_len}}
use Rattle.osek_values.specs.{Numbers.{task_no, alarm_no, res_no, mask}, declared.lock.Lock.{Lock}}
use Rattle.osek_values.specs.declared.lock.Lock.TheVariants as lock
use Rattle.osek_standard.specs.declared.block.Kind.{Kind}
use Rattle.osek_standard.specs.declared.block.Kind.TheVariants as kind
use Rattle.image_model.specs.CallNames as call
use Rattle.image_model.specs.declared.image.Version.{Version}
use Rattle.image_fields.specs.declared.{fault.ImageRule.TheVariants.{I3, I5}, parts.Tables.{Tables}}
use Rattle.image_codec.specs.Spelling.{one, two, eight, kind_number, lock_number, operand_bytes}
use Rattle.image_fields.specs.Reading.{AreBytes, Read, ◌>>=◌, byte_at, byte_below_at, number_at, tested_at}
use Rattle.image_fields.specs.BlockReading.{blank_kinds, is_allowed, is_takable, is_due, judged_at, kind_at, task_no_at, takable_at, alarm_no_at, events_at, locks, lock_of, lock_at, due_at, operands_at}
use Rattle.image_fields.proofs.Steps.{bind_ok, kept_ok, kept_again, ok_is}
use Rattle.image_codec.proofs.Spells.{Takes, Spells, nothing_more, and_then, wide16, wide64, number_law, byte_takes, Tested, tested_law, tested_byte_law, tested_number_law}

-- ---- the kind

-- the number of a place in a list of things that are listed by their numbers
pub listed : {X : Type 0} (number : X → ℕ) (xs : List X) (len : ℕ) → map number xs ≡ range_with_len 0 len → length xs ≡ len → (n : ℕ) (x : X) → slice_get xs n ≡ Some x → number x ≡ n
listed number xs len in_order many n x e =
    let numbered : slice_get (map number xs) n ≡ Some (number x) = slice_get-map number xs n ∙ ap (option_map number) e in
    let within : n < len = omega (arith, slice_get_within xs n x e, many) in
    let here : get_or (map number xs) n 0 ≡ number x = get_or_from_slice_get (map number xs) n (number x) 0 numbered in
    let there : get_or (range_with_len 0 len) n 0 ≡ 0 + n = get_or-range_with_len 0 len n 0 within in
    let same : get_or (map number xs) n 0 ≡ get_or (range_with_len 0 len) n 0 = ap (λ ys. get_or ys n 0) in_order in
    omega (arith, here, there, same)

pub number_of_blank : (n : ℕ) (k : Kind) → slice_get blank_kinds n ≡ Some k → kind_number k ≡ n
number_of_blank n k e = listed kind_number blank_kinds 26 refl refl n k e

pub number_of_lock : (n : ℕ) (l : Lock) → slice_get locks n ≡ Some l → lock_number l ≡ n
number_of_lock n l e = listed lock_number locks 6 refl refl n l e

pub lock_again : (l : Lock) → slice_get locks (lock_number l) ≡ Some l
lock_again lock.SuspendAll = refl
lock_again lock.ResumeAll = refl
lock_again lock.SuspendOs = refl
lock_again lock.ResumeOs = refl
lock_again lock.DisableAll = refl
lock_again lock.EnableAll = refl

module _ (t : Tables) (b : ℕ) (v : Version) where
  judged_ok : (bytes rest : List ℕ) (o : Option Kind) (x : Kind × List ℕ) → judged_at t b v bytes rest o ≡ Ok x → (o ≡ Some x.0) × (is_allowed t b v x.0 ≡ true) × (rest ≡ x.1)
  judged_ok bytes rest None x e = absurd cc
  judged_ok bytes rest (Some k) x e =
      let g = kept_ok (is_allowed t b v k) I5 bytes (k, rest) x e in
      (ap (λ (p : Kind × List ℕ). Some p.0) g.1, subst (λ (p : Kind × List ℕ). is_allowed t b v p.0 ≡ true) g.1 g.0, ap (λ (p : Kind × List ℕ). p.1) g.1)

  pub record GoodBlank (k : Kind) : Type 0 where
    pub blank : slice_get blank_kinds (kind_number k) ≡ Some k
    pub allowed : is_allowed t b v k ≡ true

  pub kind_law : Spells (kind_at t b v) (λ k. one (kind_number k)) GoodBlank
  unfolding kind_at
  kind_law = record {
    takes = λ bytes k rest fits e.
        let a = bind_ok (byte_at bytes) (λ n. judged_at t b v bytes n.1 (slice_get blank_kinds n.0)) (k, rest) e in
        let g = judged_ok bytes a.0.1 (slice_get blank_kinds a.0.0) (k, rest) a.2 in
        let u = byte_takes bytes a.0.0 a.0.1 fits a.1 in
        let same : a.0.0 ≡ kind_number k = sym (number_of_blank a.0.0 k g.0) in (
          subst (λ (r : List ℕ). Takes bytes (one (kind_number k)) r) g.2 (subst (λ (n : ℕ). Takes bytes (one n) a.0.1) same u.0),
          record { blank = ap (slice_get blank_kinds) (sym same) ∙ g.0; allowed = g.1 },
        );
    again = λ k rest good.
        ap (judged_at t b v (kind_number k ∷ rest) rest) good.blank ∙ kept_again (is_allowed t b v k) I5 (kind_number k ∷ rest) (k, rest) good.allowed;
  }

-- ---- operands

lock_ok : (bytes rest : List ℕ) (o : Option Lock) (x : Lock × List ℕ) → lock_of bytes rest o ≡ Ok x → (o ≡ Some x.0) × (rest ≡ x.1)
lock_ok bytes rest None x e = absurd cc
lock_ok bytes rest (Some l) x e = let g = ok_is (l, rest) x e in (ap (λ (p : Lock × List ℕ). Some p.0) g, ap (λ (p : Lock × List ℕ). p.1) g)

pub lock_law : Spells lock_at (λ l. one (lock_number l)) (λ _. Unit {0})
unfolding lock_at
lock_law = record {
  takes = λ bytes l rest fits e.
      let a = bind_ok (byte_at bytes) (λ n. lock_of bytes n.1 (slice_get locks n.0)) (l, rest) e in
      let g = lock_ok bytes a.0.1 (slice_get locks a.0.0) (l, rest) a.2 in
      let u = byte_takes bytes a.0.0 a.0.1 fits a.1 in
      (subst (λ (r : List ℕ). Takes bytes (one (lock_number l)) r) g.1 (subst (λ (n : ℕ). Takes bytes (one n) a.0.1) (sym (number_of_lock a.0.0 l g.0)) u.0), tt);
  again = λ l rest good. ap (lock_of (lock_number l ∷ rest) rest) (lock_again l);
}

-- the operands of a kind, in order
abbrev pub first_of : Kind → ℕ
first_of (kind.Work n) = n
first_of (kind.Choice o) = o.0
first_of (kind.Call (call.Task k x)) = x.0
first_of (kind.Call (call.Resource k r)) = r.0
first_of (kind.Call (call.SetEvent x m)) = x.0
first_of (kind.Call (call.Mask k m)) = m.0
first_of (kind.Call (call.Arm k a i c)) = a.0
first_of (kind.Call (call.Alarm k a)) = a.0
first_of (kind.Expire a) = a.0
first_of _ = 0

abbrev pub second_of : Kind → ℕ
second_of (kind.Call (call.SetEvent x m)) = m.0
second_of (kind.Call (call.Arm k a i c)) = i
second_of _ = 0

abbrev pub third_of : Kind → ℕ
third_of (kind.Call (call.Arm k a i c)) = c
third_of _ = 0

abbrev lock_in : Kind → Lock
lock_in (kind.Call (call.Lock l)) = l
lock_in _ = lock.SuspendAll

-- where choice 0 leads
abbrev pub other_of : Kind → ℕ
other_of (kind.Choice o) = o.0
other_of _ = 0

abbrev is_below : ℕ → ℕ → Bool
is_below limit n = nat_lt n limit

abbrev is_some : ℕ → Bool
is_some n = nat_lt 0 n

abbrev pub GoodNo : ℕ → ℕ → Type 0
GoodNo limit = Tested (is_below limit) (λ n. n < 256)

abbrev pub GoodEvents : ℕ → Type 0
GoodEvents = Tested is_some (λ n. n < 2 ^ 64)

abbrev pub made_of : {A : Type 0} → (List ℕ → Read A) → (A → Kind) → List ℕ → Read Kind
made_of read f bytes = read bytes >>= λ x. Ok (f x.0, x.1)

abbrev as_it_is : Kind → List ℕ → Read Kind
as_it_is k bytes = Ok (k, bytes)

-- a kind that is made of one field
module _ {A : Type 0} (read : List ℕ → Read A) (spell : A → List ℕ) (Good : A → Type 0) (law : Spells read spell Good) (f : A → Kind) (part : Kind → A) (back : (a : A) → part (f a) ≡ a) where
  pub one_field : Spells (made_of read f) (λ k. spell (part k) ++ []) (λ k. Good (part k) × (k ≡ f (part k)))
  one_field = and_then read spell Good part (λ a rest. Ok (f a, rest)) (λ _. []) (λ a k. k ≡ f a) law (λ a _. nothing_more (f a)) (λ a k _ is. ap part is ∙ back a)

module _ (tables : Tables) (b : ℕ) where
  abbrev tasks : ℕ
  tasks = length tables.tasks

  abbrev resources : ℕ
  resources = length tables.resources

  abbrev alarms : ℕ
  alarms = length tables.alarms

  -- the operands are in their ranges
  abbrev pub GoodOperands : Kind → Type 0
  GoodOperands (kind.Work n) = Tested is_some (λ k. k < 2 ^ 16) n
  GoodOperands (kind.Choice o) = ⊤
  GoodOperands kind.Loop = ⊤
  GoodOperands (kind.Call (call.Task k x)) = GoodNo tasks x.0
  GoodOperands (kind.Call (call.Plain k)) = ⊤
  GoodOperands (kind.Call (call.Resource k r)) = Tested (is_takable tables) (GoodNo resources) r.0
  GoodOperands (kind.Call (call.SetEvent x m)) = GoodNo tasks x.0 × GoodEvents m.0
  GoodOperands (kind.Call (call.Mask k m)) = GoodEvents m.0
  GoodOperands (kind.Call (call.Arm k a i c)) = GoodNo alarms a.0 × ((i < 2 ^ 64) × (c < 2 ^ 64))
  GoodOperands (kind.Call (call.Alarm k a)) = GoodNo alarms a.0
  GoodOperands (kind.Call (call.Lock l)) = ⊤
  GoodOperands (kind.Call call.ShutdownOs) = ⊤
  GoodOperands kind.TaskEnd = ⊤
  GoodOperands kind.IsrEnd = ⊤
  GoodOperands kind.CountUp = ⊤
  GoodOperands (kind.Expire a) = Tested (is_due tables b) (GoodNo alarms) a.0

  pub task_no_law : Spells (task_no_at tables b) one (GoodNo tasks)
  task_no_law = tested_byte_law (is_below tasks) I3

  pub takable_law : Spells (takable_at tables) one (Tested (is_takable tables) (GoodNo resources))
  unfolding takable_at
  takable_law = tested_law (byte_below_at resources) one (GoodNo resources) (is_takable tables) I5 (tested_byte_law (is_below resources) I3)

  pub alarm_no_law : Spells (alarm_no_at tables b) one (GoodNo alarms)
  alarm_no_law = tested_byte_law (is_below alarms) I3

  pub events_law : Spells events_at eight GoodEvents
  events_law = tested_number_law w64 (2 ^ 64) wide64 is_some I3

  pub due_law : Spells (due_at tables b) one (Tested (is_due tables b) (GoodNo alarms))
  unfolding due_at
  due_law = tested_law (alarm_no_at tables b) one (GoodNo alarms) (is_due tables b) I5 alarm_no_law

  -- a kind with an alarm and two numbers of ticks
  module _ (f : ℕ → ℕ → ℕ → Kind) (one_back : (a i c : ℕ) → first_of (f a i c) ≡ a) (two_back : (a i c : ℕ) → second_of (f a i c) ≡ i) (three_back : (a i c : ℕ) → third_of (f a i c) ≡ c) where
    pub ticks_law : Spells (λ bytes. alarm_no_at tables b bytes >>= λ a. number_at w64 a.1 >>= λ i. number_at w64 i.1 >>= λ c. Ok (f a.0 i.0 c.0, c.1))
        (λ k. one (first_of k) ++ (eight (second_of k) ++ (eight (third_of k) ++ [])))
        (λ k. GoodNo alarms (first_of k) × ((second_of k < 2 ^ 64) × ((third_of k < 2 ^ 64) × (k ≡ f (first_of k) (second_of k) (third_of k)))))
    ticks_law =
        and_then (alarm_no_at tables b) one (GoodNo alarms) first_of _ _ _ alarm_no_law (λ a _.
        and_then (number_at w64) eight (λ n. n < 2 ^ 64) second_of _ _ _ (number_law w64 (2 ^ 64) wide64) (λ i _.
        and_then (number_at w64) eight (λ n. n < 2 ^ 64) third_of (λ c rest. Ok (f a i c, rest)) (λ _. []) (λ c k. k ≡ f a i c) (number_law w64 (2 ^ 64) wide64) (λ c _. nothing_more (f a i c))
        (λ c k _ is. ap third_of is ∙ three_back a i c))
        (λ i k _ good. ap second_of good.1 ∙ two_back a i (third_of k)))
        (λ a k _ good. ap first_of good.1.1 ∙ one_back a (second_of k) (third_of k))

  pub set_event_law : Spells (λ bytes. task_no_at tables b bytes >>= λ x. events_at x.1 >>= λ m. Ok ((kind.Call (call.SetEvent (task_no x.0) (mask m.0))), m.1))
      (λ k. one (first_of k) ++ (eight (second_of k) ++ [])) (λ k. GoodNo tasks (first_of k) × (GoodEvents (second_of k) × (k ≡ (kind.Call (call.SetEvent (task_no (first_of k)) (mask (second_of k)))))))
  set_event_law =
      and_then (task_no_at tables b) one (GoodNo tasks) first_of _ _ _ task_no_law (λ x _.
      and_then events_at eight GoodEvents second_of (λ m rest. Ok ((kind.Call (call.SetEvent (task_no x) (mask m))), rest)) (λ _. []) (λ m k. k ≡ (kind.Call (call.SetEvent (task_no x) (mask m)))) events_law (λ m _. nothing_more (kind.Call (call.SetEvent (task_no x) (mask m))))
      (λ m k _ is. ap second_of is))
      (λ x k _ good. ap first_of good.1)

  -- what is so of a kind whose operands were read for another of its number
  pub record GoodFilled (blank k : Kind) : Type 0 where
    pub number : kind_number k ≡ kind_number blank
    pub other : other_of k ≡ other_of blank
    pub operands : GoodOperands k

  -- what a shape of operands gives
  module _ (read : List ℕ → Read Kind) (spell : Kind → List ℕ) (Good : Kind → Type 0) (law : Spells read spell Good) (blank : Kind) (fine : (k : Kind) → Good k → (spell k ≡ operand_bytes k) × GoodFilled blank k) where
    taken : (bytes : List ℕ) (k : Kind) (rest : List ℕ) → AreBytes bytes → read bytes ≡ Ok (k, rest) → Takes bytes (operand_bytes k) rest × GoodFilled blank k
    taken bytes k rest fits e =
        let u = law.takes bytes k rest fits e in
        let v = fine k u.1 in
        (subst (λ (s : List ℕ). Takes bytes s rest) v.0 u.0, v.1)

  -- of a shape with one field
  module _ {A : Type 0} (read : List ℕ → Read A) (spell : A → List ℕ) (Good : A → Type 0) (law : Spells read spell Good) (f : A → Kind) (part : Kind → A) (back : (a : A) → part (f a) ≡ a)
      (blank : Kind) (spelled : (a : A) → spell a ++ [] ≡ operand_bytes (f a)) (good : (a : A) → Good a → GoodFilled blank (f a)) where
    took_one : (bytes : List ℕ) (k : Kind) (rest : List ℕ) → AreBytes bytes → made_of read f bytes ≡ Ok (k, rest) → Takes bytes (operand_bytes k) rest × GoodFilled blank k
    took_one = taken (made_of read f) (λ k. spell (part k) ++ []) (λ k. Good (part k) × (k ≡ f (part k))) (one_field read spell Good law f part back) blank
        (λ k g. (spelled (part k) ∙ ap operand_bytes (sym g.1), subst (GoodFilled blank) (sym g.1) (good (part k) g.0)))

  took_none : (blank : Kind) → operand_bytes blank ≡ [] → GoodOperands blank → (bytes : List ℕ) (k : Kind) (rest : List ℕ) → AreBytes bytes → as_it_is blank bytes ≡ Ok (k, rest) → Takes bytes (operand_bytes k) rest × GoodFilled blank k
  took_none blank none good bytes k rest fits e =
      subst (λ (p : Kind × List ℕ). Takes bytes (operand_bytes p.0) p.1 × GoodFilled blank p.0) (ok_is (blank, bytes) (k, rest) e)
      (subst (λ (s : List ℕ). Takes bytes s bytes) (sym none) (record { parts = refl; rest_fits = fits }), record { number = refl; other = refl; operands = good })

  pub operands_take : (blank : Kind) (bytes : List ℕ) (k : Kind) (rest : List ℕ) → AreBytes bytes → operands_at tables b blank bytes ≡ Ok (k, rest) → Takes bytes (operand_bytes k) rest × GoodFilled blank k
  unfolding operands_at
  operands_take (kind.Work w) = took_one (tested_at w16 is_some I3) two (Tested is_some (λ n. n < 2 ^ 16)) (tested_number_law w16 (2 ^ 16) wide16 is_some I3) (λ n. kind.Work n) first_of (λ n. refl) (kind.Work w) (λ n. refl) (λ n g. record { number = refl; other = refl; operands = g })
  operands_take (kind.Choice o) = took_none (kind.Choice o) refl tt
  operands_take kind.Loop = took_none kind.Loop refl tt
  operands_take (kind.Call (call.Task k x)) = took_one (task_no_at tables b) one (GoodNo tasks) task_no_law (λ n. (kind.Call (call.Task k (task_no n)))) first_of (λ n. refl) (kind.Call (call.Task k x)) (λ n. refl) (λ n g. record { number = refl; other = refl; operands = g })
  operands_take (kind.Call (call.Plain k)) = took_none (kind.Call (call.Plain k)) refl tt
  operands_take (kind.Call (call.Resource k r)) = took_one (takable_at tables) one (Tested (is_takable tables) (GoodNo resources)) takable_law (λ n. (kind.Call (call.Resource k (res_no n)))) first_of (λ n. refl) (kind.Call (call.Resource k r)) (λ n. refl) (λ n g. record { number = refl; other = refl; operands = g })
  operands_take (kind.Call (call.SetEvent x m)) = taken _ _ _ set_event_law (kind.Call (call.SetEvent x m))
      (λ k g. (ap operand_bytes (sym g.1.1), subst (GoodFilled (kind.Call (call.SetEvent x m))) (sym g.1.1) (record { number = refl; other = refl; operands = (g.0, g.1.0) })))
  operands_take (kind.Call (call.Mask k m)) = took_one events_at eight GoodEvents events_law (λ n. (kind.Call (call.Mask k (mask n)))) first_of (λ n. refl) (kind.Call (call.Mask k m)) (λ n. refl) (λ n g. record { number = refl; other = refl; operands = g })
  operands_take (kind.Call (call.Arm k a i c)) = taken _ _ _ (ticks_law (λ n j d. (kind.Call (call.Arm k (alarm_no n) j d))) (λ n j d. refl) (λ n j d. refl) (λ n j d. refl)) (kind.Call (call.Arm k a i c))
      (λ z g. (ap operand_bytes (sym g.1.1.1), subst (GoodFilled (kind.Call (call.Arm k a i c))) (sym g.1.1.1) (record { number = refl; other = refl; operands = (g.0, (g.1.0, g.1.1.0)) })))
  operands_take (kind.Call (call.Alarm k a)) = took_one (alarm_no_at tables b) one (GoodNo alarms) alarm_no_law (λ n. (kind.Call (call.Alarm k (alarm_no n)))) first_of (λ n. refl) (kind.Call (call.Alarm k a)) (λ n. refl) (λ n g. record { number = refl; other = refl; operands = g })
  operands_take (kind.Call (call.Lock l)) = took_one lock_at (λ y. one (lock_number y)) (λ _. Unit {0}) lock_law (λ y. (kind.Call (call.Lock y))) lock_in (λ y. refl) (kind.Call (call.Lock l)) (λ y. refl) (λ y g. record { number = refl; other = refl; operands = tt })
  operands_take (kind.Call call.ShutdownOs) = took_none (kind.Call call.ShutdownOs) refl tt
  operands_take kind.TaskEnd = took_none kind.TaskEnd refl tt
  operands_take kind.IsrEnd = took_none kind.IsrEnd refl tt
  operands_take kind.CountUp = took_none kind.CountUp refl tt
  operands_take (kind.Expire a) = took_one (due_at tables b) one (Tested (is_due tables b) (GoodNo alarms)) due_law (λ n. kind.Expire (alarm_no n)) first_of (λ n. refl) (kind.Expire a) (λ n. refl) (λ n g. record { number = refl; other = refl; operands = g })
