-- How a proof tells two states of a shelf in memory apart: by its fields.
use Rattle.std.specs.{Prelude.{ℕ, List, refl}, FinMap.{code as map_code}, Coded.{Coded, code_by, coded×, coded_ℕ, coded_list}}
use Rattle.osek_io.specs.{Files.{Files}, MemShelf.{Rooms, ShelfState}}

-- the code of a state, as nested pairs of its fields
abbrev pub shelf_code : Coded ShelfState
shelf_code =
    code_by (List ℕ × (Files × (Rooms × (ℕ × (ℕ × (ℕ × ℕ))))))
    (coded× (coded_list coded_ℕ) (coded× (map_code (coded_list coded_ℕ) (coded_list coded_ℕ)) (coded× (map_code (coded_list coded_ℕ) coded_ℕ) (coded× coded_ℕ (coded× coded_ℕ (coded× coded_ℕ coded_ℕ))))))
    (λ s. (s.fails, (s.files, (s.rooms, (s.most, (s.calls, (s.read_faults, s.write_faults)))))))
    (λ t. record { fails = t.0; files = t.1.0; rooms = t.1.1.0; most = t.1.1.1.0; calls = t.1.1.1.1.0; read_faults = t.1.1.1.1.1.0; write_faults = t.1.1.1.1.1.1 })
    (λ _. refl)
