-- What a reader of sets, of entries and of rows answers.
use Rattle.std.specs.{Prelude.{◌≡◌, ℕ, ◌<◌, ◌≤◌, ◌==◌, Bool, true, false, List, [], ◌∷◌, ◌++◌, if◌then◌else◌}}
use Rattle.osek_standard.specs.declared.{app.App.{App}, point.Point.{Point}}
use Rattle.abstract_state.specs.{declared.{value.{Component.{Component}, PartValue.{PartValue}}, table.{ValueSet.{ValueSet}, PlainEntry.{PlainEntry}}}, ValueOrder.{IsAscending}}
use Rattle.abstract_state.specs.{Components.{IsPart}, Domains.{domain_of, domains, domains_of}}
use Rattle.table_codec.specs.{Spelling.{value_bytes, listed, set_bytes, members_of, entry_bytes}}
use Rattle.table_codec.specs.Faults.{IsGoodSet, AreGoodSets}

abbrev pub IsFlagNumber : ℕ → Type 0
IsFlagNumber n = (0 < n) × (n ≤ 3)

-- the values of a set of flags
abbrev pub flagged : (Bool → PartValue) → ℕ → List PartValue
flagged of n = (if n == 2 then [] else of false ∷ []) ++ (if n == 1 then [] else of true ∷ [])

module _ (app : App) (p : Point) (k : Component) where
  -- a value above those before it stands at the start of the bytes, and these follow it
  pub record IsNextValue (before : List PartValue) (bytes rest : List ℕ) (v : PartValue) : Type 0 where
    pub allowed : IsPart app p k v
    pub above : IsAscending (before ++ v ∷ [])
    pub are : bytes ≡ value_bytes v ++ rest

  -- so do the values of a set
  pub record IsReadList (bytes rest : List ℕ) (vs : List PartValue) : Type 0 where
    pub good : IsGoodSet app p k vs
    pub are : bytes ≡ listed vs ++ rest

  pub record IsReadSet (bytes rest : List ℕ) (set : ValueSet) : Type 0 where
    pub good : IsGoodSet app p k set.members
    pub domain : set.domain ≡ domain_of app k
    pub are : bytes ≡ set_bytes k set.members ++ rest

-- so do the sets of an entry
pub record IsReadEntry (app : App) (p : Point) (bytes rest : List ℕ) (entry : PlainEntry) : Type 0 where
  pub good : AreGoodSets app p (members_of entry)
  pub domains : domains entry ≡ domains_of app
  pub are : bytes ≡ entry_bytes app entry ++ rest
