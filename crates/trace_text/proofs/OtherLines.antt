-- Which lines are faulty for the source that they name, and which say nothing.
use Rattle.std.proofs.Common.{◌≡◌, ℕ, ◌≤◌, Bool, true, false, cond, ltb, List, [], ◌∷◌, length, Option, Some, None, Ok, Err, Result, refl, ◌∙◌, ap, inl, inr}
use Rattle.std.specs.{Prelude.{codes}, Str.{bytes_eq}}
use Rattle.std.proofs.lemmas.Bool.{le-ltb, ltb-false}
use Rattle.osek_values.specs.{declared.event.Event.{Event, TheVariants.{Run, Irq, Tick}}, Numbers.{isr_no, counter_no}}
use Rattle.osek_standard.specs.declared.app.App.{App}
use Rattle.trace_text.specs.declared.fault.EventFault.{EventFault, TheVariants.{E1, E2, E3}}
use Rattle.trace_text.specs.{EventWords.{is_comment, run_by, of_source, isr_named, counter_named, said_with, said, read_line, words}, EventGrammar.{NamesUndeclared, SayNothing}}
use Rattle.trace_text.proofs.EventLaws.{same_bytes}

abbrev Answer : Type 0
Answer = Result (Option Event) EventFault

-- a line that is short enough is read by its words
read_short : (app : App) (line : List ℕ) → length line ≤ 256 → read_line app line ≡ said app (words line)
read_short app line short = ap (λ b. cond b (Err E3) (said app (words line))) (le-ltb 256 (length line) short)

-- a source that isn't declared

none_is_faulty : (app : App) (ws : List (List ℕ)) → NamesUndeclared app ws → said app ws ≡ Err E2
none_is_faulty app ws h =
    elim h.1 [
      | inl irq ↦ ap (said app) irq.0 ∙ ap (of_source (λ i. Irq (isr_no i))) irq.1
      | inr tick ↦ ap (said app) tick.0 ∙ ap (of_source (λ c. Tick (counter_no c))) tick.1
    ]

pub faulty_if_none : (app : App) (line : List ℕ) → length line ≤ 256 → NamesUndeclared app (words line) → read_line app line ≡ Err E2
faulty_if_none app line short h = read_short app line short ∙ none_is_faulty app (words line) h

source_is_none : (f : ℕ → Event) (o : Option ℕ) → of_source f o ≡ Err E2 → o ≡ None
source_is_none f None h = refl
source_is_none f (Some k) h = absurd (cc)

run_knows : (a b : Bool) → cond a (Ok (Some (Run false))) (cond b (Ok (Some (Run true))) (Err E1)) ≡ Err E2 → ⊥
run_knows true b h = cc
run_knows false true h = cc
run_knows false false h = cc

verb_is : (verb word operand : List ℕ) → bytes_eq verb word ≡ true → verb ∷ operand ∷ [] ≡ word ∷ operand ∷ []
verb_is verb word operand s = ap (λ v. v ∷ operand ∷ []) (same_bytes verb word s)

verb_names : (app : App) (verb operand : List ℕ) (a b d : Bool) → bytes_eq verb (codes "irq") ≡ b → bytes_eq verb (codes "tick") ≡ d →
    cond a (run_by operand) (cond b (of_source (λ i. Irq (isr_no i)) (isr_named app operand)) (cond d (of_source (λ c. Tick (counter_no c)) (counter_named app operand)) (Err E1))) ≡ Err E2 →
    NamesUndeclared app (verb ∷ operand ∷ [])
verb_names app verb operand true b d t u h = absurd (run_knows (bytes_eq operand (codes "0")) (bytes_eq operand (codes "1")) h)
verb_names app verb operand false true d t u h = (operand, inl (verb_is verb (codes "irq") operand t, source_is_none (λ i. Irq (isr_no i)) (isr_named app operand) h))
verb_names app verb operand false false true t u h = (operand, inr (verb_is verb (codes "tick") operand u, source_is_none (λ c. Tick (counter_no c)) (counter_named app operand) h))
verb_names app verb operand false false false t u h = absurd (cc)

with_names : (app : App) (verb : List ℕ) (rest : List (List ℕ)) → said_with app verb rest ≡ Err E2 → NamesUndeclared app (verb ∷ rest)
with_names app verb [] h = absurd (cc)
with_names app verb (operand ∷ []) h = verb_names app verb operand (bytes_eq verb (codes "run")) (bytes_eq verb (codes "irq")) (bytes_eq verb (codes "tick")) refl refl h
with_names app verb (operand ∷ more ∷ rest) h = absurd (cc)

no_comment : (b : Bool) (r : Answer) → cond b (Ok None) r ≡ Err E2 → r ≡ Err E2
no_comment true r h = absurd (cc)
no_comment false r h = h

said_names : (app : App) (ws : List (List ℕ)) → said app ws ≡ Err E2 → NamesUndeclared app ws
said_names app [] h = absurd (cc)
said_names app (verb ∷ rest) h = with_names app verb rest (no_comment (is_comment verb) (said_with app verb rest) h)

faulty_is_short : (b : Bool) (r : Answer) → cond b (Err E3) r ≡ Err E2 → (b ≡ false) × (r ≡ Err E2)
faulty_is_short true r h = absurd (cc)
faulty_is_short false r h = (refl, h)

pub none_if_faulty : (app : App) (line : List ℕ) → read_line app line ≡ Err E2 → (length line ≤ 256) × NamesUndeclared app (words line)
none_if_faulty app line h =
    let parts = faulty_is_short (ltb 256 (length line)) (said app (words line)) h in
    (ltb-false 256 (length line) parts.0, said_names app (words line) parts.1)

-- a line that says nothing

nothing_is_said : (app : App) (ws : List (List ℕ)) → SayNothing ws → said app ws ≡ Ok None
nothing_is_said app [] h = refl
nothing_is_said app (verb ∷ rest) h = ap (λ b. cond b (Ok None) (said_with app verb rest)) h

pub silent_if_nothing : (app : App) (line : List ℕ) → length line ≤ 256 → SayNothing (words line) → read_line app line ≡ Ok None
silent_if_nothing app line short h = read_short app line short ∙ nothing_is_said app (words line) h

run_says : (a b : Bool) → cond a (Ok (Some (Run false))) (cond b (Ok (Some (Run true))) (Err E1)) ≡ Ok None → ⊥
run_says true b h = cc
run_says false true h = cc
run_says false false h = cc

source_says : (f : ℕ → Event) (o : Option ℕ) → of_source f o ≡ Ok None → ⊥
source_says f None h = cc
source_says f (Some k) h = cc

verb_says : (app : App) (operand : List ℕ) (a b d : Bool) →
    cond a (run_by operand) (cond b (of_source (λ i. Irq (isr_no i)) (isr_named app operand)) (cond d (of_source (λ c. Tick (counter_no c)) (counter_named app operand)) (Err E1))) ≡ Ok None → ⊥
verb_says app operand true b d h = run_says (bytes_eq operand (codes "0")) (bytes_eq operand (codes "1")) h
verb_says app operand false true d h = source_says (λ i. Irq (isr_no i)) (isr_named app operand) h
verb_says app operand false false true h = source_says (λ c. Tick (counter_no c)) (counter_named app operand) h
verb_says app operand false false false h = cc

with_says : (app : App) (verb : List ℕ) (rest : List (List ℕ)) → said_with app verb rest ≡ Ok None → ⊥
with_says app verb [] h = cc
with_says app verb (operand ∷ []) h = verb_says app operand (bytes_eq verb (codes "run")) (bytes_eq verb (codes "irq")) (bytes_eq verb (codes "tick")) h
with_says app verb (operand ∷ more ∷ rest) h = cc

is_a_comment : (b : Bool) (r : Answer) → (r ≡ Ok None → ⊥) → cond b (Ok None) r ≡ Ok None → b ≡ true
is_a_comment true r says h = refl
is_a_comment false r says h = absurd (says h)

said_nothing : (app : App) (ws : List (List ℕ)) → said app ws ≡ Ok None → SayNothing ws
said_nothing app [] h = tt
said_nothing app (verb ∷ rest) h = is_a_comment (is_comment verb) (said_with app verb rest) (with_says app verb rest) h

silent_is_short : (b : Bool) (r : Answer) → cond b (Err E3) r ≡ Ok None → (b ≡ false) × (r ≡ Ok None)
silent_is_short true r h = absurd (cc)
silent_is_short false r h = (refl, h)

pub nothing_if_silent : (app : App) (line : List ℕ) → read_line app line ≡ Ok None → (length line ≤ 256) × SayNothing (words line)
nothing_if_silent app line h =
    let parts = silent_is_short (ltb 256 (length line)) (said app (words line)) h in
    (ltb-false 256 (length line) parts.0, said_nothing app (words line) parts.1)
