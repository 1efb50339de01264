-- The generator's OIL text is spelled word by word.
use Rattle.std.proofs.Common.{◌≡◌, ℕ, ◌==◌, Bool, List, [], ◌++◌, length, codes, decimal, refl, sym, ◌∙◌, append_assoc, arith}
use Rattle.std.specs.Prelude.{⊤}
use Rattle.std.proofs.lemmas.List.{append-nil}
use Rattle.osek_vectors.specs.{Writing.{fixed, ◌⨾◌, each_from}, OilTexts.{oil_head, oil_foot, task_line, oil_text}}
use Rattle.generated_texts.proofs.{Drawing.{Spells, Spells-fixed, Spells-draw, Spells-front, Spells-behind, Spells-each}, Lexemes.{spelled}}
use Rattle.generated_texts.proofs.{OilLexemes.{Lexemes, schedule_word, task_lexemes, head_lexemes, foot_lexemes, oil_lexemes}, Rows.{each_of, AllFrom}}

-- the generator's pieces, one behind the other
seven_pieces : (a b c d e f g rest : List ℕ) → (a ++ b ++ c ++ d ++ e ++ f ++ g) ++ rest ≡ a ++ (b ++ (c ++ (d ++ (e ++ (f ++ (g ++ rest))))))
seven_pieces a b c d e f g rest = simp append_assoc refl

task_spelled : (i : ℕ) (non : Bool) (rest : Lexemes) →
    (codes "TASK T" ++ decimal i ++ codes " { PRIORITY = " ++ decimal i ++ codes "; SCHEDULE = " ++ schedule_word non ++ codes "; AUTOSTART = TRUE; EVENT = E; RESOURCE = R; };\n") ++ spelled rest
    ≡ spelled (task_lexemes i non rest)
task_spelled i non rest = seven_pieces (codes "TASK T") (decimal i) (codes " { PRIORITY = ") (decimal i) (codes "; SCHEDULE = ") (schedule_word non) (codes "; AUTOSTART = TRUE; EVENT = E; RESOURCE = R; };\n") (spelled rest)

Spells-task_line : (i : ℕ) → Spells spelled (task_lexemes i) (λ (_ : Bool). ⊤) (task_line i)
Spells-task_line i =
    Spells-draw spelled (task_lexemes i) (λ (_ : Bool). ⊤) 4 _ (omega arith)
    (λ number h. Spells-fixed spelled (task_lexemes i) (λ (_ : Bool). ⊤) _ (number == 0) tt (task_spelled i (number == 0)))

abbrev AreTasks : ℕ → List Bool → Type 0
AreTasks n nons = (length nons ≡ n) × AllFrom (λ (_ : ℕ) (_ : Bool). ⊤) 0 nons

Spells-oil : (n : ℕ) → Spells spelled (λ (nons : List Bool) (rest : Lexemes). head_lexemes (each_of task_lexemes 0 nons (foot_lexemes rest))) (AreTasks n) (oil_text n)
Spells-oil n =
    let tasks = Spells-each spelled task_lexemes (λ (_ : ℕ) (_ : Bool). ⊤) task_line n 0 (λ j h. Spells-task_line j) in
    let begun = Spells-front spelled (each_of task_lexemes 0) (AreTasks n) oil_head head_lexemes (each_from 0 n task_line) (λ rest. refl) tasks in
    Spells-behind spelled (λ (nons : List Bool) (rest : Lexemes). head_lexemes (each_of task_lexemes 0 nons rest)) (AreTasks n) oil_foot foot_lexemes (fixed oil_head ⨾ each_from 0 n task_line) (λ rest. refl) begun

-- the generator's OIL text is spelled so
pub record IsOilText (n : ℕ) (bytes : List ℕ) : Type 0 where
  pub nons : List Bool
  pub tasks : length nons ≡ n
  pub is : bytes ≡ spelled (oil_lexemes nons)

pub oil_is : (n x : ℕ) → IsOilText n (oil_text n x).text
oil_is n x =
    let (nons, good, e) = Spells-oil n x in
    record { nons = nons; tasks = good.0; is = sym (append-nil (oil_text n x).text) ∙ e [] }
