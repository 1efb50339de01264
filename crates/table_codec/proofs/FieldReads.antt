-- A number that was read, and may not stand there.
use Rattle.std.proofs.Common.{◌≡◌, ◌↔◌, ℕ, ◌<◌, Bool, false, List, ◌++◌, length, ap, ◌∙◌, IsTrue}
use Rattle.table_codec.specs.{declared.fault.{Fault.{Fault}, TableRule.{TableRule, TheVariants.{K3}}}, Spelling.{field_limit, field_bytes}, Faults.{IsFieldFault, field_barred}}

abbrev pub fault_of : TableRule → ℕ → Fault
fault_of rule left = record { rule = rule; left = left }

-- with how many bytes were left before it
pub number_barred : (place : ℕ) (May : ℕ → Type 0) (bytes more : List ℕ) (n left : ℕ) (f : Fault) → n < field_limit place → bytes ≡ field_bytes place n ++ more → (May n → ⊥) → left ≡ length bytes → f ≡ fault_of K3 left
    → IsFieldFault place May bytes f
number_barred place May bytes more n left f lt is bars l e = field_barred n more lt is bars (e ∙ ap (fault_of K3) l)

-- the same where a test says so
pub test_barred : (place : ℕ) (May : ℕ → Type 0) (bytes more : List ℕ) (n left : ℕ) (f : Fault) (b : Bool) → n < field_limit place → bytes ≡ field_bytes place n ++ more → (IsTrue b ↔ May n) → b ≡ false → left ≡ length bytes → f ≡ fault_of K3 left
    → IsFieldFault place May bytes f
test_barred place May bytes more n left f b lt is test fails l e = number_barred place May bytes more n left f lt is (λ may. let stands = test.1 may in absurd (cc)) l e
