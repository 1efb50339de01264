-- A text of events reads back as these events.
use Rattle.std.proofs.Common.{◌≡◌, ℕ, ◌+◌, ◌-◌, ◌<◌, ◌≤◌, Bool, true, false, cond, ◌||◌, not, eqb, ltb, List, [], ◌∷◌, ◌++◌, map, length, take, get_or, Some, None, Ok, refl, sym, ◌∙◌, ap, subst, arith, append_assoc}
use Rattle.std.specs.{Prelude.{codes}, List.{All, list_all, slice_split, enumerate_from}, Str.Lines.{strip_carriage_return}}
use Rattle.std.proofs.{lemmas.{Bool.{le-ltb, not-true}, List.{length-map, append-nil, Elements.{All-head, All-tail, All-weaker}}}, Math.ListN.{get_or-map}}
use Rattle.std.proofs.lemmas.List.{Sums.{AllPass-from_list_all}, Splits.{slice_split_at}}
use Rattle.osek_values.specs.{declared.event.Event.{Event, TheVariants.{Run, Irq, Tick}}, Names.{is_name_byte, is_name}}
use Rattle.osek_standard.specs.{declared.{app.App.{App}, objects.{Isr.{Isr}, Counter.{Counter}}}, Apps.{the_isr, the_counter, no_isr, no_counter, IsDeclared}}
use Rattle.text_pieces.proofs.NameLaws.{byte_lacks, lacks, Name, name_is}
use Rattle.trace_text.specs.{EventWords.{is_blank, is_some_word}, declared.fault.EventFault.TheVariants.{E4}}
use Rattle.trace_text.specs.EventText.{Reading, ended_line, lines_in, text_lines, with_line, read_lines, fault_at, numbered_lines, read_text}
use Rattle.trace_text.specs.EventGrammar.{HasWords, Says, event_line, event_text}
use Rattle.trace_text.proofs.{LineLaws.{is_lf, ended_first, some_parts}, EventLaws.{read_as_said}, GrammarLaws.{both}}

pub no_blank_by : (a b : Bool) → not a ≡ true → not b ≡ true → not (a || b) ≡ true
no_blank_by true b h k = absurd (cc)
no_blank_by false b h k = k

no_blanks : (cs : List ℕ) → list_all is_name_byte cs ≡ true → list_all (λ c. not (is_blank c)) cs ≡ true
no_blanks [] h = refl
no_blanks (c ∷ cs) h =
    let parts = both (is_name_byte c) (list_all is_name_byte cs) h in
    rw (no_blank_by (eqb c 32) (eqb c 9) (byte_lacks c 32 refl parts.0) (byte_lacks c 9 refl parts.0), no_blanks cs parts.1)

some_word : (name : List ℕ) → 0 < length name → is_some_word name ≡ true
some_word [] h = absurd (omega (arith, h))
some_word (c ∷ cs) h = refl

isr_name : (app : App) (k : ℕ) → k < length app.isrs → Name (the_isr app k).name
isr_name app k h =
    let f : Isr → List ℕ = λ (x : Isr). x.name in
    let within : k < length (map f app.isrs) = omega (arith, length-map app.isrs f, h) in
    name_is (the_isr app k).name (subst (λ n. is_name n ≡ true) (get_or-map f app.isrs k no_isr) (app.valid.isr_names.each k [] within))

counter_name : (app : App) (k : ℕ) → k < length app.counters → Name (the_counter app k).name
counter_name app k h =
    let f : Counter → List ℕ = λ (x : Counter). x.name in
    let within : k < length (map f app.counters) = omega (arith, length-map app.counters f, h) in
    name_is (the_counter app k).name (subst (λ n. is_name n ≡ true) (get_or-map f app.counters k no_counter) (app.valid.counter_names.each k [] within))

abbrev is_whole : List ℕ → Bool
is_whole w = list_all (λ c. not (is_blank c)) w

-- two words and a space between them
two_words : (verb operand : List ℕ) → is_some_word verb ≡ true → is_whole verb ≡ true → is_some_word operand ≡ true → is_whole operand ≡ true →
    HasWords (verb ++ 32 ∷ operand) (verb ∷ operand ∷ [])
two_words verb operand some whole some_operand whole_operand = (
  [],
  32 ∷ operand,
  record { parts = refl; blanks = refl; some = some; whole = whole; ends = refl },
  (32 ∷ [], [], record { parts = ap (λ t. 32 ∷ t) (sym (append-nil operand)); blanks = refl; some = some_operand; whole = whole_operand; ends = refl }, refl),
)

pub says : (app : App) (e : Event) → IsDeclared app e → Says app (event_line app e) e
says app (Run false) h = record { short = omega arith; known = h; words = two_words (codes "run") (codes "0") refl refl refl refl }
says app (Run true) h = record { short = omega arith; known = h; words = two_words (codes "run") (codes "1") refl refl refl refl }
says app (Irq i) h =
    let n = isr_name app i.0 h in
    record { short = omega (arith, n.short); known = h; words = two_words (codes "irq") (the_isr app i.0).name refl refl (some_word (the_isr app i.0).name n.some) (no_blanks (the_isr app i.0).name n.bytes) }
says app (Tick c) h =
    let n = counter_name app c.0 h in
    record { short = omega (arith, n.short); known = h; words = two_words (codes "tick") (the_counter app c.0).name refl refl (some_word (the_counter app c.0).name n.some) (no_blanks (the_counter app c.0).name n.bytes) }

no_lf : (app : App) (e : Event) → IsDeclared app e → list_all (λ c. not (eqb c 10)) (event_line app e) ≡ true
no_lf app (Run false) h = refl
no_lf app (Run true) h = refl
no_lf app (Irq i) h = let n = isr_name app i.0 h in lacks 10 (the_isr app i.0).name refl n.bytes
no_lf app (Tick c) h = let n = counter_name app c.0 h in lacks 10 (the_counter app c.0).name refl n.bytes

no_cr : (app : App) (e : Event) → IsDeclared app e → list_all (λ c. not (eqb c 13)) (event_line app e) ≡ true
no_cr app (Run false) h = refl
no_cr app (Run true) h = refl
no_cr app (Irq i) h = let n = isr_name app i.0 h in lacks 13 (the_isr app i.0).name refl n.bytes
no_cr app (Tick c) h = let n = counter_name app c.0 h in lacks 13 (the_counter app c.0).name refl n.bytes

-- no byte of a line is the byte d
none_is : (d : ℕ) (line : List ℕ) → list_all (λ c. not (eqb c d)) line ≡ true → All (λ c. eqb c d ≡ false) line
none_is d line h = All-weaker (λ c. not (eqb c d) ≡ true) (λ c. eqb c d ≡ false) (λ c. not-true (eqb c d)) line (AllPass-from_list_all (λ c. not (eqb c d)) line h)

last_is_not : (line : List ℕ) → list_all (λ c. not (eqb c 13)) line ≡ true → eqb (get_or line (length line - 1) 0) 13 ≡ false
last_is_not [] h = refl
last_is_not (c ∷ cs) h = none_is 13 (c ∷ cs) h (length (c ∷ cs) - 1) 0 (omega arith)

either_same : (b : Bool) (line other : List ℕ) → other ≡ line → cond b line other ≡ line
either_same true line other e = refl
either_same false line other e = e

keeps_whole : (line : List ℕ) → list_all (λ c. not (eqb c 13)) line ≡ true → ended_line line ≡ line
keeps_whole line h =
    let stays : strip_carriage_return line ≡ line = ap (λ b. cond b (take (length line - 1) line) line) (last_is_not line h) in
    either_same (ltb 256 (length line)) line (strip_carriage_return line) stays

pub line_then : (line rest : List ℕ) → list_all (λ c. not (eqb c 10)) line ≡ true → list_all (λ c. not (eqb c 13)) line ≡ true →
    text_lines ((line ++ 10 ∷ []) ++ rest) ≡ line ∷ text_lines rest
line_then line rest lf cr =
    let joined : (line ++ 10 ∷ []) ++ rest ≡ line ++ 10 ∷ rest = append_assoc line (10 ∷ []) rest in
    ap text_lines joined ∙ ap lines_in (slice_split_at is_lf line 10 rest (none_is 10 line lf) refl) ∙ ended_first line (slice_split is_lf rest) (some_parts rest)
    ∙ ap (λ l. l ∷ text_lines rest) (keeps_whole line cr)

lines_are : (app : App) (es : List Event) → All (IsDeclared app) es → text_lines (event_text app es) ≡ map (event_line app) es
lines_are app [] h = refl
lines_are app (e ∷ es) h =
    let known = All-head (IsDeclared app) e es h in
    line_then (event_line app e) (event_text app es) (no_lf app e known) (no_cr app e known) ∙ ap (λ ls. event_line app e ∷ ls) (lines_are app es (All-tail (IsDeclared app) e es h))

abbrev all_read : List Event → Reading
all_read es = record { events = es; fault = None }

lines_read : (app : App) (es : List Event) (n : ℕ) → All (IsDeclared app) es → read_lines app (enumerate_from n (map (event_line app) es)) ≡ all_read es
lines_read app [] n h = refl
lines_read app (e ∷ es) n h =
    let known = All-head (IsDeclared app) e es h in
    let rest = read_lines app (enumerate_from (n + 1) (map (event_line app) es)) in
    ap (λ r. with_line n r rest) (read_as_said app (event_line app e) e (says app e known)) ∙ ap (with_line n (Ok (Some e))) (lines_read app es (n + 1) (All-tail (IsDeclared app) e es h))

pub reads_back : (app : App) (es : List Event) → All (IsDeclared app) es → length (event_text app es) ≤ 16777216 → read_text app (event_text app es) ≡ record { events = es; fault = None }
reads_back app es h size =
    let text = event_text app es in
    ap (λ b. cond b (fault_at 0 E4) (read_lines app (numbered_lines text))) (le-ltb 16777216 (length text) size)
    ∙ ap (λ ls. read_lines app (enumerate_from 1 ls)) (lines_are app es h) ∙ lines_read app es 1 h
