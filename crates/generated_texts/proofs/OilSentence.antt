-- The tree of a generated OIL text: its tokens are a sentence, with the tasks in turn.
use Rattle.std.proofs.Common.{◌≡◌, ℕ, ◌+◌, Bool, List, [], ◌∷◌, ◌++◌, codes, decimal, refl}
use Rattle.std.specs.Prelude.{None}
use Rattle.oil_lexer.specs.{declared.token.Mark.TheVariants.{Semicolon}, Numbers.{value_of}, Tokens.{mark}}
use Rattle.oil_tree.specs.{declared.tree.{Object.{Object}, Tree.{Tree}, Value.TheVariants.{Word, Numeric}, Sign.TheVariants.{Bare}}, Attrs.{no_attrs, attr_then}}
use Rattle.oil_tree.specs.{Expect.{scan, some_objects, an_end}, Faults.{HasTree}}
use Rattle.oil_tree.specs.Grammar.{is_name, is_number, plain, no_more, one_more, bare, nested, IsObjects, no_objects, one_object, cpu, no_impl, no_version, IsSentence}
use Rattle.oil_tree.proofs.Prefixes.{has_tree}
use Rattle.generated_texts.proofs.{Lexemes.{tokens_from}, Rows.{each_of}, TaskNames.{task_name}, OilLexemes.{schedule_word, task_lexemes, foot_lexemes, oil_lexemes}}

-- the object of a task with its name, its priority and its schedule
abbrev pub task_with : List ℕ → ℕ → ℕ → Bool → Object
task_with n priority line non = record {
  kind = codes "TASK";
  line = line;
  name = n;
  attrs = attr_then (codes "PRIORITY") line (Numeric Bare priority) no_attrs
      (attr_then (codes "SCHEDULE") line (Word (schedule_word non)) no_attrs
      (attr_then (codes "AUTOSTART") line (Word (codes "TRUE")) no_attrs
      (attr_then (codes "EVENT") line (Word (codes "E")) no_attrs
      (attr_then (codes "RESOURCE") line (Word (codes "R")) no_attrs no_attrs))));
}

abbrev pub task_object : ℕ → ℕ → Bool → Object
task_object i line non = task_with (task_name i) (value_of 10 (decimal i)) line non

-- the tasks from number i on, each on a line of its own
abbrev pub tasks_from : ℕ → ℕ → List Bool → List Object
tasks_from i line [] = []
tasks_from i line (non ∷ nons) = task_object i line non ∷ tasks_from (i + 1) (line + 1) nons

abbrev pub line_behind : ℕ → List Bool → ℕ
line_behind line [] = line
line_behind line (non ∷ nons) = line_behind (line + 1) nons

abbrev pub bare_object : List ℕ → List ℕ → ℕ → Object
bare_object kind n line = record { kind = kind; line = line; name = n; attrs = no_attrs }

abbrev pub counter_object : Object
counter_object = record { kind = codes "COUNTER"; line = 5; name = codes "C"; attrs = attr_then (codes "MAXALLOWEDVALUE") 5 (Numeric Bare 9) no_attrs no_attrs }

abbrev pub alarm_object : ℕ → Object
alarm_object line = record {
  kind = codes "ALARM";
  line = line;
  name = codes "A";
  attrs = attr_then (codes "COUNTER") line (Word (codes "C")) no_attrs
      (attr_then (codes "ACTION") line (Word (codes "ACTIVATETASK")) (attr_then (codes "TASK") line (Word (codes "T0")) no_attrs no_attrs)
      (attr_then (codes "AUTOSTART") line (Word (codes "TRUE"))
      (attr_then (codes "ALARMTIME") line (Numeric Bare 1) no_attrs (attr_then (codes "CYCLETIME") line (Numeric Bare 3) no_attrs no_attrs)) no_attrs));
}

abbrev pub isr_object : ℕ → Object
isr_object line = record { kind = codes "ISR"; line = line; name = codes "I"; attrs = attr_then (codes "CATEGORY") line (Numeric Bare 2) no_attrs no_attrs }

abbrev pub foot_objects : ℕ → List Object
foot_objects line = alarm_object line ∷ isr_object (line + 1) ∷ []

abbrev pub oil_objects : List Bool → List Object
oil_objects nons =
    bare_object (codes "OS") (codes "os") 2 ∷ bare_object (codes "EVENT") (codes "E") 3 ∷ bare_object (codes "RESOURCE") (codes "R") 4 ∷ counter_object
    ∷ (tasks_from 0 6 nons ++ foot_objects (line_behind 6 nons))

abbrev pub oil_tree : List Bool → Tree
oil_tree nons = record { line = 1; objects = oil_objects nons }

abbrev end_line : ℕ → List Bool → ℕ
end_line line nons = line_behind line nons + 1 + 1

foot_are : (line : ℕ) → IsObjects (foot_objects line) (tokens_from line (foot_lexemes [])) (mark Semicolon (line + 1 + 1) ∷ [])
foot_are line =
    one_object (nested
    (one_more is_name (bare plain)
    (one_more is_name (nested (one_more is_name (bare plain) no_more) plain)
    (one_more is_name (nested (one_more is_number (bare plain) (one_more is_number (bare plain) no_more)) plain) no_more))) plain)
    (one_object (nested (one_more is_number (bare plain) no_more) plain) no_objects)

tasks_are : (i line : ℕ) (nons : List Bool) → IsObjects (tasks_from i line nons ++ foot_objects (line_behind line nons)) (tokens_from line (each_of task_lexemes i nons (foot_lexemes []))) (mark Semicolon (end_line line nons) ∷ [])
tasks_are i line [] = foot_are line
tasks_are i line (non ∷ nons) =
    one_object (nested (one_more is_number (bare plain) (one_more is_name (bare plain) (one_more is_name (bare plain) (one_more is_name (bare plain) (one_more is_name (bare plain) no_more))))) plain)
    (tasks_are (i + 1) (line + 1) nons)

sentence : (nons : List Bool) → IsSentence (tokens_from 1 (oil_lexemes nons)) (oil_tree nons)
sentence nons =
    no_version (no_impl (cpu refl
    (one_object (bare plain) (one_object (bare plain) (one_object (bare plain) (one_object (nested (one_more is_number (bare plain) no_more) plain) (tasks_are 0 6 nons)))))
    plain))

-- the reader's stack takes them
tasks_taken : (i line : ℕ) (nons : List Bool) → scan 1 (some_objects ∷ an_end ∷ []) (tokens_from line (each_of task_lexemes i nons (foot_lexemes []))) ≡ None
tasks_taken i line [] = refl
tasks_taken i line (non ∷ nons) = tasks_taken (i + 1) (line + 1) nons

pub oil_has_tree : (nons : List Bool) → HasTree (tokens_from 1 (oil_lexemes nons)) (oil_tree nons)
oil_has_tree nons = has_tree (tokens_from 1 (oil_lexemes nons)) (oil_tree nons) (sentence nons) (tasks_taken 0 6 nons)
