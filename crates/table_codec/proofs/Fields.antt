-- The fields of a task's values: bytes that begin with two lists of fields have one of them before the other, and no value's
-- fields begin another's.
use Rattle.std.proofs.Common.{◌≡◌, ◌⊎◌, ℕ, suc, ◌+◌, ◌^◌, ◌<◌, Bool, true, false, List, [], ◌∷◌, ◌++◌, length, refl, sym, ap, subst, ◌∙◌, inl, inr, arith, append_assoc, eqb-true}
use Rattle.std.specs.{Prelude.{◌==◌, if◌then◌else◌}, Int.{to_be_bytes, w16, from_be_bytes}}
use Rattle.std.proofs.lemmas.{List.{append-nil, length-append, length-map}, Nat.{from_be_bytes-to_be_bytes_2}}
use Rattle.osek_values.specs.declared.numbers.ResNo.{ResNo}
use Rattle.abstract_state.specs.{declared.value.{Val.{Val, TheVariants.{Suspended, Live, Waiting}}, SourceVal.{SourceVal}}, ValueOrder.{flag_field}}
use Rattle.abstract_state.specs.declared.value.SourceVal.TheVariants as source_val
use Rattle.abstract_state.proofs.OrderLaws.{same_flag}
use Rattle.table_codec.specs.Spelling.{resource_numbers, task_fields, source_numbers, field_width, field_limit, field_bytes, fields_from}

pub record IsPrefix (ns ms : List ℕ) : Type 0 where
  pub more : List ℕ
  pub is : ms ≡ ns ++ more

-- each field is within its limit, from a place on
abbrev pub AreWithin : ℕ → List ℕ → Type 0
AreWithin k [] = Unit {0}
AreWithin k (n ∷ ns) = (n < field_limit k) × AreWithin (suc k) ns

pub two_heads : (n m : ℕ) (x y : List ℕ) → n < 2 ^ 16 → m < 2 ^ 16 → to_be_bytes w16 n ++ x ≡ to_be_bytes w16 m ++ y → (n ≡ m) × (x ≡ y)
two_heads n m x y ln lm e =
    let firsts : to_be_bytes w16 n ≡ to_be_bytes w16 m = cc in
    let rests : x ≡ y = cc in
    (sym (from_be_bytes-to_be_bytes_2 n ln) ∙ ap (from_be_bytes w16) firsts ∙ from_be_bytes-to_be_bytes_2 m lm, rests)

head_by : (wide : Bool) (n m : ℕ) (x y : List ℕ) → n < (if wide then 2 ^ 16 else 2 ^ 8) → m < (if wide then 2 ^ 16 else 2 ^ 8)
    → (if wide then to_be_bytes w16 n else n ∷ []) ++ x ≡ (if wide then to_be_bytes w16 m else m ∷ []) ++ y → (n ≡ m) × (x ≡ y)
head_by true n m x y ln lm e = two_heads n m x y ln lm e
head_by false n m x y ln lm e = (cc, cc)

pub one_head : (k n m : ℕ) (x y : List ℕ) → n < field_limit k → m < field_limit k → field_bytes k n ++ x ≡ field_bytes k m ++ y → (n ≡ m) × (x ≡ y)
one_head k n m x y ln lm e = head_by (k == 1) n m x y ln lm e

-- two lists of fields at the start of the same bytes
pub fields_meet : (k : ℕ) (ns ms x y : List ℕ) → AreWithin k ns → AreWithin k ms → fields_from k ns ++ x ≡ fields_from k ms ++ y → IsPrefix ns ms ⊎ IsPrefix ms ns
fields_meet k [] ms x y hn hm e = inl (record { more = ms; is = refl })
fields_meet k (n ∷ ns) [] x y hn hm e = inr (record { more = n ∷ ns; is = refl })
fields_meet k (n ∷ ns) (m ∷ ms) x y hn hm e =
    let h = one_head k n m (fields_from (suc k) ns ++ x) (fields_from (suc k) ms ++ y) hn.0 hm.0 (sym (append_assoc (field_bytes k n) (fields_from (suc k) ns) x) ∙ e ∙ append_assoc (field_bytes k m) (fields_from (suc k) ms) y) in
    elim (fields_meet (suc k) ns ms x y hn.1 hm.1 h.1) [
      | inl p ↦ inl (record { more = p.more; is = ap (λ (l : List ℕ). m ∷ l) p.is ∙ ap (λ (a : ℕ). a ∷ (ns ++ p.more)) (sym h.0) })
      | inr p ↦ inr (record { more = p.more; is = ap (λ (l : List ℕ). n ∷ l) p.is ∙ ap (λ (a : ℕ). a ∷ (ms ++ p.more)) h.0 })
    ]

-- ---- no value begins another

nothing_more : (xs more : List ℕ) (n : ℕ) → length xs ≡ n → length (xs ++ more) ≡ n → more ≡ []
nothing_more xs [] n a b = refl
nothing_more xs (m ∷ more) n a b = absurd (omega (arith, a, b, length-append xs (m ∷ more)))

pub whole_list : (xs ys more : List ℕ) → ys ≡ xs ++ more → length xs ≡ length ys → xs ≡ ys
whole_list xs ys more e same =
    let none = nothing_more xs more (length ys) same (ap length (sym e)) in
    sym (append-nil xs) ∙ ap (λ (m : List ℕ). xs ++ m) (sym none) ∙ sym e

pub same_prefix : (xs ys a b : List ℕ) → ys ≡ xs ++ a → xs ≡ ys ++ b → xs ≡ ys
same_prefix xs ys a b one two = whole_list xs ys a one (omega (arith, ap length one, ap length two, length-append xs a, length-append ys b))

-- stacks with the same numbers are the same
pub same_stack : (a b : List ResNo) → resource_numbers a ≡ resource_numbers b → a ≡ b
same_stack [] [] e = refl
same_stack [] (y ∷ b) e = absurd cc
same_stack (x ∷ a) [] e = absurd cc
same_stack (x ∷ a) (y ∷ b) e =
    let here : x.0 ≡ y.0 = cc in
    let rest : resource_numbers a ≡ resource_numbers b = cc in
    let one : x ≡ y = ap (λ (n : ℕ). the_resource n) here in
    ap (λ (z : ResNo). z ∷ a) one ∙ ap (λ (h : List ResNo). y ∷ h) (same_stack a b rest)
  where
    the_resource : ℕ → ResNo
    the_resource n = record { 0 = n }

-- a stack whose numbers begin those of another one as high is that one
stack_alone : (a b : List ResNo) (more : List ℕ) → length b ≡ length a → resource_numbers b ≡ resource_numbers a ++ more → a ≡ b
stack_alone a b more count rest =
    let whole = whole_list (resource_numbers a) (resource_numbers b) more rest (length-map a (λ (q : ResNo). q.0) ∙ sym count ∙ sym (length-map b (λ (q : ResNo). q.0))) in
    same_stack a b whole

-- a value whose fields begin another's is that one
pub val_alone : (v w : Val) (more : List ℕ) → task_fields w ≡ task_fields v ++ more → v ≡ w
val_alone Suspended Suspended more e = refl
val_alone Suspended (Live y) more e = absurd cc
val_alone Suspended (Waiting c) more e = absurd cc
val_alone (Live x) Suspended more e = absurd cc
val_alone (Live x) (Live y) more e =
    let block : y.block.0 ≡ x.block.0 = cc in
    let further : y.further ≡ x.further = cc in
    let flag : flag_field y.inside ≡ flag_field x.inside = cc in
    let inside = same_flag x.inside y.inside (sym flag) in
    let count : length y.held ≡ length x.held = cc in
    let rest : resource_numbers y.held ≡ resource_numbers x.held ++ more = cc in
    let held = stack_alone x.held y.held more count rest in
    λ i. Live (record { block = record { 0 = sym block i }; further = sym further i; inside = inside i; held = held i })
val_alone (Live x) (Waiting c) more e = absurd cc
val_alone (Waiting b) Suspended more e = absurd cc
val_alone (Waiting b) (Live y) more e = absurd cc
val_alone (Waiting b) (Waiting c) more e = (let same : b.0 ≡ c.0 = cc in ap waiting_at same)
  where
    waiting_at : ℕ → Val
    waiting_at n = Waiting (record { 0 = n })

pub source_alone : (v w : SourceVal) (more : List ℕ) → source_numbers w ≡ source_numbers v ++ more → v ≡ w
source_alone source_val.Out source_val.Out more e = refl
source_alone source_val.Out (source_val.In y) more e = absurd cc
source_alone (source_val.In x) source_val.Out more e = absurd cc
source_alone (source_val.In x) (source_val.In y) more e =
    let block : y.block.0 ≡ x.block.0 = cc in
    let count : length y.held ≡ length x.held = cc in
    let rest : resource_numbers y.held ≡ resource_numbers x.held ++ more = cc in
    let held = stack_alone x.held y.held more count rest in
    λ i. source_val.In (record { block = record { 0 = sym block i }; held = held i })

-- ---- fields behind fields

pub fields_append : (k : ℕ) (ns ms : List ℕ) → fields_from k (ns ++ ms) ≡ fields_from k ns ++ fields_from (k + length ns) ms
fields_append k [] ms = ap (λ (j : ℕ). fields_from j ms) (let e : k ≡ k + 0 = omega arith in e)
fields_append k (n ∷ ns) ms =
    ap (λ (l : List ℕ). field_bytes k n ++ l) (fields_append (suc k) ns ms)
    ∙ sym (append_assoc (field_bytes k n) (fields_from (suc k) ns) (fields_from (suc k + length ns) ms))
    ∙ ap (λ (j : ℕ). (field_bytes k n ++ fields_from (suc k) ns) ++ fields_from j ms) (let e : suc k + length ns ≡ k + suc (length ns) = omega arith in e)

-- behind the block each field is a byte
pub narrow_fields : (k : ℕ) (ns : List ℕ) → fields_from (suc (suc k)) ns ≡ ns
narrow_fields k [] = refl
narrow_fields k (n ∷ ns) = ap (λ (l : List ℕ). field_bytes (suc (suc k)) n ++ l) (narrow_fields (suc k) ns) ∙ narrow (suc (suc k) == 1) refl
  where
    narrow : (b : Bool) → (suc (suc k) == 1) ≡ b → (if b then to_be_bytes w16 n else n ∷ []) ++ ns ≡ n ∷ ns
    narrow true e = absurd (omega (arith, eqb-true (suc (suc k)) 1 e))
    narrow false e = refl

pub within_prefix : (k : ℕ) (ns ms : List ℕ) → AreWithin k (ns ++ ms) → AreWithin k ns
within_prefix k [] ms h = tt
within_prefix k (n ∷ ns) ms h = (h.0, within_prefix (suc k) ns ms h.1)

pub within_next : (k : ℕ) (ns : List ℕ) (m : ℕ) (ms : List ℕ) → AreWithin k (ns ++ m ∷ ms) → m < field_limit (k + length ns)
within_next k [] m ms h = (let e : k ≡ k + 0 = omega arith in subst (λ (j : ℕ). m < field_limit j) e h.0)
within_next k (n ∷ ns) m ms h = (let e : suc k + length ns ≡ k + suc (length ns) = omega arith in subst (λ (j : ℕ). m < field_limit j) e (within_next (suc k) ns m ms h.1))

pub plus_none : (n : ℕ) → 0 + n ≡ n
plus_none n = omega arith

pub cancel : (xs a b : List ℕ) → xs ++ a ≡ xs ++ b → a ≡ b
cancel [] a b e = e
cancel (x ∷ xs) a b e = cancel xs a b (cc)

pub width_is : (place n : ℕ) → length (field_bytes place n) ≡ field_width place
width_is place n = by_width (place == 1)
  where
    by_width : (wide : Bool) → length (if wide then to_be_bytes w16 n else n ∷ []) ≡ (if wide then 2 else 1)
    by_width true = refl
    by_width false = refl
