-- A generated OIL text, word by word: all that is drawn in it is which tasks are non-preemptive.
use Rattle.std.proofs.Common.{◌≡◌, ℕ, ◌+◌, ◌*◌, ◌<◌, ◌≤◌, ◌^◌, Bool, true, false, List, [], ◌∷◌, ◌++◌, length, codes, decimal, refl, ◌∙◌, arith}
use Rattle.std.specs.Prelude.{if◌then◌else◌}
use Rattle.std.proofs.lemmas.{List.{length-append}, Fmt.{length-decimal-le}}
use Rattle.oil_lexer.specs.declared.token.Mark.TheVariants.{OpenBrace, CloseBrace, Equals, Semicolon}
use Rattle.generated_texts.proofs.{Lexemes.{Lexeme, a_word, a_number, a_mark, a_space, a_line_end, spelled, are_right}, Rows.{each_of}}
use Rattle.generated_texts.proofs.TaskNames.{task_name, task_name_right, decimal_numeral}

abbrev pub Lexemes : Type 0
Lexemes = List Lexeme

abbrev pub schedule_word : Bool → List ℕ
schedule_word non = if non then codes "NON" else codes "FULL"

-- a name, an equals sign and a value
abbrev attribute : List ℕ → Lexeme → Lexemes → Lexemes
attribute n value rest = a_word n ∷ a_space ∷ a_mark Equals ∷ a_space ∷ value ∷ rest

abbrev attribute_end : Lexemes → Lexemes
attribute_end rest = a_mark Semicolon ∷ a_space ∷ rest

-- the front of an object with attributes, or its end
abbrev object_front : List ℕ → List ℕ → Lexemes → Lexemes
object_front kind n rest = a_word kind ∷ a_space ∷ a_word n ∷ a_space ∷ a_mark OpenBrace ∷ a_space ∷ rest

abbrev object_end : Lexemes → Lexemes
object_end rest = a_mark CloseBrace ∷ a_mark Semicolon ∷ a_line_end ∷ rest

abbrev bare_object : List ℕ → List ℕ → Lexemes → Lexemes
bare_object kind n rest = a_word kind ∷ a_space ∷ a_word n ∷ a_mark Semicolon ∷ a_line_end ∷ rest

-- task i
abbrev behind_priority : Bool → Lexemes → Lexemes
behind_priority non rest =
    attribute_end (attribute (codes "SCHEDULE") (a_word (schedule_word non)) (attribute_end
    (attribute (codes "AUTOSTART") (a_word (codes "TRUE")) (attribute_end
    (attribute (codes "EVENT") (a_word (codes "E")) (attribute_end
    (attribute (codes "RESOURCE") (a_word (codes "R")) (attribute_end (object_end rest)))))))))

abbrev pub task_lexemes : ℕ → Bool → Lexemes → Lexemes
task_lexemes i non rest = object_front (codes "TASK") (task_name i) (attribute (codes "PRIORITY") (a_number (decimal i)) (behind_priority non rest))

abbrev pub head_lexemes : Lexemes → Lexemes
head_lexemes rest =
    a_word (codes "CPU") ∷ a_space ∷ a_word (codes "gen") ∷ a_space ∷ a_mark OpenBrace ∷ a_line_end
    ∷ bare_object (codes "OS") (codes "os") (bare_object (codes "EVENT") (codes "E") (bare_object (codes "RESOURCE") (codes "R")
    (object_front (codes "COUNTER") (codes "C") (attribute (codes "MAXALLOWEDVALUE") (a_number (codes "9")) (attribute_end (object_end rest))))))

abbrev nested_end : Lexemes → Lexemes
nested_end rest = a_mark CloseBrace ∷ a_mark Semicolon ∷ a_space ∷ rest

abbrev nested_front : Lexemes → Lexemes
nested_front rest = a_space ∷ a_mark OpenBrace ∷ a_space ∷ rest

abbrev pub foot_lexemes : Lexemes → Lexemes
foot_lexemes rest =
    object_front (codes "ALARM") (codes "A")
    (attribute (codes "COUNTER") (a_word (codes "C")) (attribute_end
    (attribute (codes "ACTION") (a_word (codes "ACTIVATETASK")) (nested_front
    (attribute (codes "TASK") (a_word (codes "T0")) (attribute_end (nested_end
    (attribute (codes "AUTOSTART") (a_word (codes "TRUE")) (nested_front
    (attribute (codes "ALARMTIME") (a_number (codes "1")) (attribute_end
    (attribute (codes "CYCLETIME") (a_number (codes "3")) (attribute_end (nested_end (object_end
    (object_front (codes "ISR") (codes "I") (attribute (codes "CATEGORY") (a_number (codes "2")) (attribute_end (object_end
    (object_end rest))))))))))))))))))))

-- of the tasks that these say, non-preemptive or not
abbrev pub oil_lexemes : List Bool → Lexemes
oil_lexemes nons = head_lexemes (each_of task_lexemes 0 nons (foot_lexemes []))

-- it is spelled right
task_right : (i : ℕ) (non : Bool) (rest : Lexemes) → i < 2 ^ 64 → are_right (task_lexemes i non rest) ≡ are_right rest
task_right i true rest h = rw (task_name_right i h, decimal_numeral i h) refl
task_right i false rest h = rw (task_name_right i h, decimal_numeral i h) refl

tasks_right : (i : ℕ) (nons : List Bool) (rest : Lexemes) → i + length nons < 2 ^ 64 → are_right (each_of task_lexemes i nons rest) ≡ are_right rest
tasks_right i [] rest h = refl
tasks_right i (non ∷ nons) rest h =
    task_right i non (each_of task_lexemes (i + 1) nons rest) (omega (arith, h)) ∙ tasks_right (i + 1) nons rest (omega (arith, h))

pub oil_right : (nons : List Bool) → length nons ≤ 16 → are_right (oil_lexemes nons) ≡ true
oil_right nons few = tasks_right 0 nons (foot_lexemes []) (omega (arith, few))

-- and short
two_numbers : (a d b rest : List ℕ) → length (a ++ (d ++ (b ++ (d ++ rest)))) ≡ length a + length d + length b + length d + length rest
two_numbers a d b rest = omega (arith, length-append a (d ++ (b ++ (d ++ rest))), length-append d (b ++ (d ++ rest)), length-append b (d ++ rest), length-append d rest)

tail_size : (non : Bool) (rest : Lexemes) → length (spelled (behind_priority non rest)) ≤ 70 + length (spelled rest)
tail_size true rest = omega arith
tail_size false rest = omega arith

task_size : (i : ℕ) (non : Bool) (rest : Lexemes) → i < 16 → length (spelled (task_lexemes i non rest)) ≤ 100 + length (spelled rest)
task_size i non rest h =
    let size : length (spelled (task_lexemes i non rest)) ≡ length (codes "TASK T") + length (decimal i) + length (codes " { PRIORITY = ") + length (decimal i) + length (spelled (behind_priority non rest)) =
    two_numbers (codes "TASK T") (decimal i) (codes " { PRIORITY = ") (spelled (behind_priority non rest)) in
    let digits : length (decimal i) ≤ 2 = length-decimal-le 2 i (omega arith) (omega (arith, h)) (omega (arith, h)) in
    omega (arith, size, digits, tail_size non rest)

tasks_size : (i : ℕ) (nons : List Bool) (rest : Lexemes) → i + length nons ≤ 16 → length (spelled (each_of task_lexemes i nons rest)) ≤ 100 * length nons + length (spelled rest)
tasks_size i [] rest h = omega arith
tasks_size i (non ∷ nons) rest h =
    omega (arith, task_size i non (each_of task_lexemes (i + 1) nons rest) (omega (arith, h)), tasks_size (i + 1) nons rest (omega (arith, h)))

head_size : (rest : Lexemes) → length (spelled (head_lexemes rest)) ≤ 100 + length (spelled rest)
head_size rest = omega arith

pub oil_size : (nons : List Bool) → length nons ≤ 16 → length (spelled (oil_lexemes nons)) ≤ 1048576
oil_size nons few =
    let foot : length (spelled (foot_lexemes [])) ≤ 200 = omega arith in
    omega (arith, head_size (each_of task_lexemes 0 nons (foot_lexemes [])), tasks_size 0 nons (foot_lexemes []) (omega (arith, few)), foot, few)
