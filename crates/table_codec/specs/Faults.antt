-- The first fault of a table's bytes, without a reader: what stands before it is as in some table, and it breaks a rule.
use Rattle.std.specs.{Prelude.{◌≡◌, ◌≢◌, ◌⊎◌, ℕ, ◌^◌, ◌-◌, ◌<◌, ◌≤◌, List, [], ◌∷◌, ◌++◌, length, take, All, Contains, slice_get, Some}, List.{flat_map}, Int.{to_be_bytes, w32}}
use Rattle.osek_standard.specs.declared.{app.App.{App}, point.Point.{Point}}
use Rattle.abstract_state.specs.declared.value.{Component.{Component}, PartValue.{PartValue}}
use Rattle.abstract_state.specs.declared.value.Component.TheVariants as component
use Rattle.abstract_state.specs.{declared.table.{TableRow.{TableRow}, PlainTable.{PlainTable}}, ValueOrder.{IsAscending}}
use Rattle.abstract_state.specs.{Components.{components, component_at, component_count, IsPart}}
use Rattle.table_codec.specs.declared.fault.{TableRule.{TableRule, TheVariants.{K1, K2, K3, K4, K5}}, Fault.{Fault}, TableFault.{TableFault}}
use Rattle.osek_standard.specs.Points.{points_in_order}
use Rattle.table_codec.specs.Spelling.{value_fields, field_width, field_limit, field_bytes, fields_from, value_bytes, sets_bytes, point_bytes, magic, spelling, IsSpellable}

abbrev pub fault_at : TableRule → List ℕ → Fault
fault_at rule bytes = record { rule = rule; left = length bytes }

-- The field at a place of a value is cut, or it has a number that may not stand there.
pub data IsFieldFault (place : ℕ) (May : ℕ → Type 0) (bytes : List ℕ) (f : Fault) : Type 0 where
  field_cut : length bytes < field_width place → f ≡ fault_at K1 bytes → IsFieldFault place May bytes f
  field_barred : (n : ℕ) (more : List ℕ) → n < field_limit place → bytes ≡ field_bytes place n ++ more → (May n → ⊥) → f ≡ fault_at K3 bytes → IsFieldFault place May bytes f

-- the number of a set's values is cut, or 0
pub data IsCountFault (bytes : List ℕ) (f : Fault) : Type 0 where
  count_cut : length bytes < 4 → f ≡ fault_at K1 bytes → IsCountFault bytes f
  count_none : (more : List ℕ) → bytes ≡ to_be_bytes w32 0 ++ more → f ≡ fault_at K3 bytes → IsCountFault bytes f

-- the byte that says whether a point has an entry is cut, or neither 0 nor 1
abbrev pub IsPresenceFault : List ℕ → Fault → Type 0
IsPresenceFault [] f = f ≡ fault_at K1 []
IsPresenceFault (n ∷ bytes) f = (1 < n) × (f ≡ fault_at K3 (n ∷ bytes))

-- a byte of flags that is neither 1, 2 nor 3
abbrev pub IsFlagsFault : List ℕ → Fault → Type 0
IsFlagsFault [] f = f ≡ fault_at K1 []
IsFlagsFault (n ∷ bytes) f = ((n ≡ 0) ⊎ (3 < n)) × (f ≡ fault_at K3 (n ∷ bytes))

module _ (app : App) (p : Point) (k : Component) where
  -- some value that the component can have at the point begins with these fields
  pub record Begins (fields : List ℕ) : Type 0 where
    pub value : PartValue
    pub allowed : IsPart app p k value
    pub more : List ℕ
    pub is : value_fields value ≡ fields ++ more

  -- Of a value the fields are good up to some place, and it isn't whole there: the field there is cut, or no value that the
  -- component can have at the point begins so.
  pub record IsValueFault (bytes : List ℕ) (f : Fault) : Type 0 where
    pub fields : List ℕ
    pub rest : List ℕ
    pub begins : Begins fields
    pub not_whole : (v : PartValue) → IsPart app p k v → value_fields v ≢ fields
    pub are : bytes ≡ fields_from 0 fields ++ rest
    pub next : IsFieldFault (length fields) (λ n. Begins (fields ++ n ∷ [])) rest f

-- A value is faulty, or it isn't above those before it.
pub data IsNextFault (app : App) (p : Point) (k : Component) (before : List PartValue) (bytes : List ℕ) (f : Fault) : Type 0 where
  bad_value : IsValueFault app p k bytes f → IsNextFault app p k before bytes f
  not_above : (v : PartValue) (more : List ℕ) → IsPart app p k v → bytes ≡ value_bytes v ++ more → (IsAscending (before ++ v ∷ []) → ⊥) → f ≡ fault_at K4 bytes
      → IsNextFault app p k before bytes f

-- so many values of a set are good, fewer than its count says, and the next one isn't
pub record IsListFault (app : App) (p : Point) (k : Component) (bytes : List ℕ) (f : Fault) : Type 0 where
  pub count : ℕ
  pub values : List PartValue
  pub rest : List ℕ
  pub few : length values < count
  pub fits : count < 2 ^ 32
  pub allowed : All (IsPart app p k) values
  pub ascending : IsAscending values
  pub are : bytes ≡ to_be_bytes w32 count ++ (flat_map value_bytes values ++ rest)
  pub next : IsNextFault app p k values rest f

pub data IsListedFault (app : App) (p : Point) (k : Component) (bytes : List ℕ) (f : Fault) : Type 0 where
  bad_count : IsCountFault bytes f → IsListedFault app p k bytes f
  bad_list : IsListFault app p k bytes f → IsListedFault app p k bytes f

module _ (app : App) (p : Point) (k : Component) where
  abbrev pub IsSetFaultOf : Component → List ℕ → Fault → Type 0
  IsSetFaultOf (component.Task t) bytes f = IsListedFault app p k bytes f
  IsSetFaultOf (component.Event t j) bytes f = IsFlagsFault bytes f
  IsSetFaultOf (component.Alarm a) bytes f = IsFlagsFault bytes f
  IsSetFaultOf (component.Source j) bytes f = IsListedFault app p k bytes f

  abbrev pub IsSetFault : List ℕ → Fault → Type 0
  IsSetFault bytes f = IsSetFaultOf k bytes f

  -- some values that the component can have, in ascending order
  pub record AreGoodValues (vs : List PartValue) : Type 0 where
    pub some : 0 < length vs
    pub allowed : All (IsPart app p k) vs
    pub ascending : IsAscending vs

  -- no more of them than a count can say
  pub record IsGoodSet (vs : List PartValue) : Type 0 where
    pub values : AreGoodValues vs
    pub few : length vs < 2 ^ 32

module _ (app : App) (p : Point) where
  -- the sets of components from the first on
  abbrev pub AreGoodSets : List (List PartValue) → Type 0
  AreGoodSets sets = (c : ℕ) (vs : List PartValue) → slice_get sets c ≡ Some vs → IsGoodSet app p (component_at app c) vs

  -- the sets of the first components are good, and that of the next one is faulty
  pub record IsEntryFault (bytes : List ℕ) (f : Fault) : Type 0 where
    pub sets : List (List PartValue)
    pub rest : List ℕ
    pub few : length sets < component_count app
    pub good : AreGoodSets sets
    pub are : bytes ≡ sets_bytes (components app) sets ++ rest
    pub next : IsSetFault app p (component_at app (length sets)) rest f

  -- the byte that says whether there is an entry, or the entry
  abbrev pub IsPointFault : List ℕ → Fault → Type 0
  IsPointFault bytes f = IsPresenceFault bytes f ⊎ ((more : List ℕ) × (bytes ≡ 1 ∷ more) × IsEntryFault more f)

-- the points before one are as in a table that has no other rows, and it is faulty
pub record IsRowFault (app : App) (bytes : List ℕ) (f : Fault) : Type 0 where
  pub table : PlainTable
  pub spellable : IsSpellable app table
  pub done : List Point
  pub point : Point
  pub later : List Point
  pub points : points_in_order app ≡ done ++ point ∷ later
  pub before : All (λ (row : TableRow). Contains done row.point) table.rows
  pub rest : List ℕ
  pub are : bytes ≡ flat_map (point_bytes app table.rows) done ++ rest
  pub next : IsPointFault app point rest f

-- the magic is cut, or other bytes stand in its place
pub data IsMagicFault (bytes : List ℕ) (f : Fault) : Type 0 where
  magic_cut : length bytes < 8 → f ≡ fault_at K1 bytes → IsMagicFault bytes f
  other_magic : 8 ≤ length bytes → (take 8 bytes ≢ magic) → f ≡ fault_at K2 bytes → IsMagicFault bytes f

-- The first fault of the bytes: their magic, a row, or bytes behind the table.
pub data IsTableFault (app : App) (bytes : List ℕ) (f : Fault) : Type 0 where
  bad_magic : IsMagicFault bytes f → IsTableFault app bytes f
  bad_row : (rows : List ℕ) → bytes ≡ magic ++ rows → IsRowFault app rows f → IsTableFault app bytes f
  bytes_behind : (table : PlainTable) (rest : List ℕ) → IsSpellable app table → 0 < length rest → bytes ≡ spelling app table ++ rest → f ≡ fault_at K5 rest → IsTableFault app bytes f

-- a fault where so many of the bytes are left, at its offset
abbrev pub located : ℕ → Fault → TableFault
located len f = record { rule = f.rule; offset = len - f.left }

-- The first fault of the bytes, at its offset.
pub record IsFirstFault (app : App) (bytes : List ℕ) (x : TableFault) : Type 0 where
  pub fault : Fault
  pub first : IsTableFault app bytes fault
  pub is : x ≡ located (length bytes) fault
