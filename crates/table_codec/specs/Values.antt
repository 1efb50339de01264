-- What a value's reader answers, field by field.
use Rattle.std.specs.Prelude.{◌≡◌, ⊤, ℕ, zero, suc, ◌<◌, List, [], ◌∷◌, ◌++◌, length, IsTrue}
use Rattle.osek_values.specs.{declared.numbers.ResNo.{ResNo}, Numbers.{res_no}}
use Rattle.osek_standard.specs.{declared.{app.App.{App}, point.Point.{Point}}, Well.{IsStack}}
use Rattle.abstract_state.specs.{declared.value.{Component.{Component}, PartValue.{PartValue}}, Components.{IsPart}}
use Rattle.table_codec.specs.{declared.{fault.Fault.{Fault}, shape.Shape.{Shape}}, Spelling.{value_bytes, resource_numbers}, Faults.{IsFieldFault}}

-- how a task of the shape may stand
abbrev pub IsTag : Shape → ℕ → Type 0
IsTag x zero = IsTrue x.is_free
IsTag x (suc zero) = ⊤
IsTag x (suc (suc zero)) = IsTrue x.waits
IsTag x (suc (suc (suc n))) = ⊥

-- a value that the component can have at the point stands at the start of the bytes, and these follow it
pub record IsReadValue (app : App) (p : Point) (k : Component) (bytes rest : List ℕ) (v : PartValue) : Type 0 where
  pub allowed : IsPart app p k v
  pub are : bytes ≡ value_bytes v ++ rest

-- so does a stack of so many resources
pub record IsReadStack (app : App) (size : ℕ) (bytes rest : List ℕ) (held : List ResNo) : Type 0 where
  pub stack : IsStack app held
  pub as_many : length held ≡ size
  pub are : bytes ≡ resource_numbers held ++ rest

-- the first resources make a stack, and the next one can't be on it
pub record IsStackFault (app : App) (size : ℕ) (bytes : List ℕ) (f : Fault) : Type 0 where
  pub held : List ResNo
  pub rest : List ℕ
  pub stack : IsStack app held
  pub few : length held < size
  pub are : bytes ≡ resource_numbers held ++ rest
  pub next : IsFieldFault 5 (λ n. IsStack app (held ++ res_no n ∷ [])) rest f
