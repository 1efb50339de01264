-- What the reader of a table answers, by its parts.
use Rattle.std.proofs.Common.{◌≡◌, ℕ, ◌-◌, ◌<◌, List, [], ◌∷◌, ◌++◌, length, refl, sym, ap, subst, ◌∙◌, arith, append_assoc, append-nil}
use Rattle.std.specs.List.{flat_map}
use Rattle.osek_standard.specs.declared.app.App.{App}
use Rattle.abstract_state.specs.{declared.table.PlainTable.{PlainTable}}
use Rattle.table_codec.specs.declared.fault.{Fault.{Fault}, TableFault.{TableFault}, TableRule.{TableRule, TheVariants.{K5}}}
use Rattle.osek_standard.specs.Points.{points_in_order}
use Rattle.table_codec.specs.{Spelling.{magic, point_bytes, spelling, IsSpellable}, Faults.{fault_at, IsTableFault, bytes_behind, IsFirstFault}, Rows.{IsReadTable}}
use Rattle.table_codec.proofs.TableFaults.{spelled_once, no_first_fault}

pub none_left : (bytes : List ℕ) → length bytes ≡ 0 → bytes ≡ []
none_left [] e = refl
none_left (n ∷ bytes) e = absurd (omega (arith, e))

abbrev fault_located : TableRule → ℕ → TableFault
fault_located rule n = record { rule = rule; offset = n }

module _ (app : App) where
  module _ (bytes rows rest : List ℕ) (table : PlainTable) (prefix : bytes ≡ magic ++ rows) (read : IsReadTable app rows rest table) where
    pub spelled_prefix : bytes ≡ spelling app table ++ rest
    unfolding spelling
    spelled_prefix = prefix ∙ ap (λ (l : List ℕ). magic ++ l) read.are ∙ sym (append_assoc magic (flat_map (point_bytes app table.rows) (points_in_order app)) rest)

    pub behind_fault : (f : Fault) → 0 < length rest → f ≡ fault_at K5 rest → IsTableFault app bytes f
    behind_fault f some e = bytes_behind table rest read.spellable some spelled_prefix e

    pub spelled_whole : rest ≡ [] → spelling app table ≡ bytes
    spelled_whole e = sym (spelled_prefix ∙ ap (λ (l : List ℕ). spelling app table ++ l) e ∙ append-nil (spelling app table))

  module _ (bytes : List ℕ) where
    pub is_located : (f : Fault) (n : ℕ) → IsTableFault app bytes f → n ≡ length bytes - f.left → IsFirstFault app bytes (fault_located f.rule n)
    is_located f n first e = record { fault = f; first = first; is = ap (fault_located f.rule) e }

    pub same_table : (a b : PlainTable) → IsSpellable app a → IsSpellable app b → spelling app a ≡ bytes → spelling app b ≡ bytes → a ≡ b
    same_table a b v w e d = (spelled_once app a b [] [] v w (ap (λ (l : List ℕ). l ++ []) (e ∙ sym d))).0

    pub no_fault_there : (a : PlainTable) (f : TableFault) → IsSpellable app a → spelling app a ≡ bytes → IsFirstFault app bytes f → ⊥
    no_fault_there a f w e h = no_first_fault app a f w (subst (λ (l : List ℕ). IsFirstFault app l f) (sym e) h)
