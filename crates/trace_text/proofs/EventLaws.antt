-- Which words are read as which event.
use Rattle.std.proofs.Common.{◌≡◌, ℕ, ◌<◌, Bool, true, false, cond, ltb, List, [], ◌∷◌, map, length, get_or, Option, Some, None, Ok, Err, Result, refl, sym, ◌∙◌, ap, subst, arith}
use Rattle.std.specs.{Prelude.{codes}, List.{IsDistinct, position}, Str.{bytes_eq}}
use Rattle.std.proofs.lemmas.{Bool.{lt-ltb, le-ltb}, List.{Sums.{position_or_len_is}, Quantifiers.{position-Some}}, Slice.Eq.{bytes_eq-Decides}}
use borrow.Author.Tests.{ltb-false}
use Rattle.osek_values.specs.{declared.event.Event.{Event, TheVariants.{Run, Irq, Tick}}, Numbers.{isr_no, counter_no}}
use Rattle.osek_standard.specs.{declared.{app.App.{App}, objects.{Isr.{Isr}, Counter.{Counter}}}, Apps.{the_isr, the_counter, no_isr, no_counter, IsDeclared}}
use Rattle.text_pieces.proofs.NameLaws.{apart}
use Rattle.trace_text.specs.declared.fault.EventFault.{EventFault, TheVariants.{E1, E3}}
use Rattle.trace_text.specs.{EventWords.{is_comment, run_by, of_source, isr_named, counter_named, said_with, said, read_line, words}, EventGrammar.{event_words, Says, HasWords}}
use Rattle.trace_text.proofs.GrammarLaws.{words_hold, no_other_words}

abbrev Answer : Type 0
Answer = Result (Option Event) EventFault

pub same_bytes : (xs ys : List ℕ) → bytes_eq xs ys ≡ true → xs ≡ ys
same_bytes xs ys = (bytes_eq-Decides xs ys).0

pub position_is : {X : Type 0} (p : X → Bool) (xs : List X) (k : ℕ) (d : X) → k < length xs → ((j : ℕ) → j < k → p (get_or xs j d) ≡ false) → p (get_or xs k d) ≡ true → position p xs ≡ Some k
position_is p xs k d below before here =
    let at = position_or_len_is p xs k d (omega (arith, below)) before (λ _. here) in
    ap (λ n. cond (ltb n (length xs)) (Some n) None) at ∙ ap (λ b. cond b (Some k) None) (lt-ltb k (length xs) below)

-- a name that stands once is found where it stands
name_found : {X : Type 0} (name : X → List ℕ) (xs : List X) (none : X) (k : ℕ) → IsDistinct bytes_eq (map name xs) → k < length xs →
    position (λ x. bytes_eq (name x) (name (get_or xs k none))) xs ≡ Some k
name_found name xs none k distinct below =
    position_is (λ x. bytes_eq (name x) (name (get_or xs k none))) xs k none below
    (λ j before. apart name xs none distinct j k before below)
    ((bytes_eq-Decides (name (get_or xs k none)) (name (get_or xs k none))).1 refl)

said_event : (app : App) (e : Event) → IsDeclared app e → said app (event_words app e) ≡ Ok (Some e)
said_event app (Run false) h = refl
said_event app (Run true) h = refl
said_event app (Irq i) h = ap (of_source (λ n. Irq (isr_no n))) (name_found (λ (x : Isr). x.name) app.isrs no_isr i.0 app.valid.isr_names.distinct h)
said_event app (Tick c) h = ap (of_source (λ n. Tick (counter_no n))) (name_found (λ (x : Counter). x.name) app.counters no_counter c.0 app.valid.counter_names.distinct h)

pub read_as_said : (app : App) (line : List ℕ) (e : Event) → Says app line e → read_line app line ≡ Ok (Some e)
read_as_said app line e h =
    ap (λ b. cond b (Err E3) (said app (words line))) (le-ltb 256 (length line) h.short) ∙ ap (said app) (sym (no_other_words line (event_words app e) h.words)) ∙ said_event app e h.known

no_comment : (b : Bool) (r : Answer) (e : Event) → cond b (Ok None) r ≡ Ok (Some e) → r ≡ Ok (Some e)
no_comment true r e h = absurd (cc)
no_comment false r e h = h

-- what the words must be
abbrev Gives : App → List (List ℕ) → Event → Type 0
Gives app ws e = IsDeclared app e × (ws ≡ event_words app e)

run_gives : (app : App) (choice : List ℕ) (e : Event) (a b : Bool) → bytes_eq choice (codes "0") ≡ a → bytes_eq choice (codes "1") ≡ b →
    cond a (Ok (Some (Run false))) (cond b (Ok (Some (Run true))) (Err E1)) ≡ Ok (Some e) → Gives app (codes "run" ∷ choice ∷ []) e
run_gives app choice e true b s t h =
    let is : Run false ≡ e = cc in
    subst (Gives app (codes "run" ∷ choice ∷ [])) is (tt, ap (λ w. codes "run" ∷ w ∷ []) (same_bytes choice (codes "0") s))
run_gives app choice e false true s t h =
    let is : Run true ≡ e = cc in
    subst (Gives app (codes "run" ∷ choice ∷ [])) is (tt, ap (λ w. codes "run" ∷ w ∷ []) (same_bytes choice (codes "1") t))
run_gives app choice e false false s t h = absurd (cc)

source_gives : (f : ℕ → Event) (o : Option ℕ) (e : Event) → of_source f o ≡ Ok (Some e) → (k : ℕ) × (o ≡ Some k) × (f k ≡ e)
source_gives f None e h = absurd (cc)
source_gives f (Some k) e h = (k, refl, cc)

irq_gives : (app : App) (name : List ℕ) (e : Event) → of_source (λ n. Irq (isr_no n)) (isr_named app name) ≡ Ok (Some e) → Gives app (codes "irq" ∷ name ∷ []) e
irq_gives app name e h =
    let found = source_gives (λ n. Irq (isr_no n)) (isr_named app name) e h in
    let at = position-Some (λ (x : Isr). bytes_eq x.name name) app.isrs found.0 no_isr found.1 in
    subst (Gives app (codes "irq" ∷ name ∷ [])) found.2 (at.0, ap (λ w. codes "irq" ∷ w ∷ []) (sym (same_bytes (the_isr app found.0).name name at.1)))

tick_gives : (app : App) (name : List ℕ) (e : Event) → of_source (λ n. Tick (counter_no n)) (counter_named app name) ≡ Ok (Some e) → Gives app (codes "tick" ∷ name ∷ []) e
tick_gives app name e h =
    let found = source_gives (λ n. Tick (counter_no n)) (counter_named app name) e h in
    let at = position-Some (λ (x : Counter). bytes_eq x.name name) app.counters found.0 no_counter found.1 in
    subst (Gives app (codes "tick" ∷ name ∷ [])) found.2 (at.0, ap (λ w. codes "tick" ∷ w ∷ []) (sym (same_bytes (the_counter app found.0).name name at.1)))

verb_is : (app : App) (verb word operand : List ℕ) (e : Event) → bytes_eq verb word ≡ true → Gives app (word ∷ operand ∷ []) e → Gives app (verb ∷ operand ∷ []) e
verb_is app verb word operand e s g = (g.0, ap (λ v. v ∷ operand ∷ []) (same_bytes verb word s) ∙ g.1)

verb_gives : (app : App) (verb operand : List ℕ) (e : Event) (a b d : Bool) → bytes_eq verb (codes "run") ≡ a → bytes_eq verb (codes "irq") ≡ b → bytes_eq verb (codes "tick") ≡ d →
    cond a (run_by operand) (cond b (of_source (λ n. Irq (isr_no n)) (isr_named app operand)) (cond d (of_source (λ n. Tick (counter_no n)) (counter_named app operand)) (Err E1))) ≡ Ok (Some e) →
    Gives app (verb ∷ operand ∷ []) e
verb_gives app verb operand e true b d s t u h =
    verb_is app verb (codes "run") operand e s (run_gives app operand e (bytes_eq operand (codes "0")) (bytes_eq operand (codes "1")) refl refl h)
verb_gives app verb operand e false true d s t u h = verb_is app verb (codes "irq") operand e t (irq_gives app operand e h)
verb_gives app verb operand e false false true s t u h = verb_is app verb (codes "tick") operand e u (tick_gives app operand e h)
verb_gives app verb operand e false false false s t u h = absurd (cc)

with_gives : (app : App) (verb : List ℕ) (rest : List (List ℕ)) (e : Event) → said_with app verb rest ≡ Ok (Some e) → Gives app (verb ∷ rest) e
with_gives app verb [] e h = absurd (cc)
with_gives app verb (operand ∷ []) e h =
    verb_gives app verb operand e (bytes_eq verb (codes "run")) (bytes_eq verb (codes "irq")) (bytes_eq verb (codes "tick")) refl refl refl h
with_gives app verb (operand ∷ more ∷ rest) e h = absurd (cc)

said_gives : (app : App) (ws : List (List ℕ)) (e : Event) → said app ws ≡ Ok (Some e) → Gives app ws e
said_gives app [] e h = absurd (cc)
said_gives app (verb ∷ rest) e h = with_gives app verb rest e (no_comment (is_comment verb) (said_with app verb rest) e h)

long_or_short : (b : Bool) (r : Answer) (e : Event) → cond b (Err E3) r ≡ Ok (Some e) → (b ≡ false) × (r ≡ Ok (Some e))
long_or_short true r e h = absurd (cc)
long_or_short false r e h = (refl, h)

pub said_as_read : (app : App) (line : List ℕ) (e : Event) → read_line app line ≡ Ok (Some e) → Says app line e
said_as_read app line e h =
    let parts = long_or_short (ltb 256 (length line)) (said app (words line)) e h in
    let gives = said_gives app (words line) e parts.1 in
    record { short = ltb-false 256 (length line) parts.0; known = gives.0; words = subst (HasWords line) gives.1 (words_hold line) }
