-- The text of a task by what a line shows of it, and where its letter stands.
use Rattle.std.proofs.Common.{◌≡◌, ℕ, ◌+◌, ◌<◌, Bool, true, false, List, [], ◌∷◌, ◌++◌, length, set, codes, if◌then◌else◌, refl, sym, ◌∙◌, ap, arith}
use Rattle.std.proofs.Common.{append_assoc, length-append, None}
use Rattle.std.specs.{Prelude.{◌==◌, slice_index}, List.{flat_map, cons_option}}
use Rattle.std.proofs.lemmas.List.{set_at}
use Rattle.osek_values.specs.{declared.status.Letter.{Letter, TheVariants.{S, Y, R, W}}, Numbers.{hexadecimal}}
use Rattle.osek_standard.specs.declared.{app.App.{App}, objects.Task.{Task}, state.{State.{State}, Processor.{Processor}}}
use Rattle.osek_standard.specs.declared.task_state.Activity.{Activity, TheVariants.{Suspended, Live, Waiting}}
use Rattle.osek_standard.specs.{TaskStates.{is_suspended_activity, further}, States.{task_state, letter_in, is_that_task, task_of}}
use Rattle.osek_standard.specs.{TraceText.{letter, resource_text, task_text, further_text}, Internal.{internal_of, occupied}}
use Rattle.trace_text.specs.{declared.shown.Shown.{Shown}, LineParts.{shown_of, shown_events, shown_text, is_suspended_letter, with_letter}}

one_of : (b : Bool) → is_suspended_letter (if b then R else Y) ≡ false
one_of true = refl
one_of false = refl

by_letter : (p : Processor) (t : ℕ) (a : Activity) → is_suspended_activity a ≡ is_suspended_letter (letter_in p t a)
by_letter p t Suspended = refl
by_letter p t (Live x) = sym (one_of (is_that_task (task_of p) t))
by_letter p t (Waiting b) = refl

-- the text of a task is that of what is shown of it
pub text_of_shown : (app : App) (s : State) (t : ℕ) (d : Task) → task_text app s (t, d) ≡ shown_text app t d (shown_of s t)
text_of_shown app s t d =
    let x = task_state s t in
    ap (λ (b : Bool).
    codes " " ++ d.name ++ codes "=" ++ letter (letter_in s.processor t x.activity) ++ further_text (further x)
    ++ (if (d.own.0 == 0) then [] else if b then [] else codes ":" ++ hexadecimal x.events.0)
    ++ flat_map (resource_text app) (occupied app t x))
    (by_letter s.processor t x.activity)

-- the byte behind the mark
abbrev pub letter_byte : Letter → ℕ
letter_byte l = slice_index (codes "=" ++ letter l) 1

letter_is : (l : Letter) → letter l ≡ letter_byte l ∷ []
letter_is S = refl
letter_is Y = refl
letter_is R = refl
letter_is W = refl

spread : (h f e g : List ℕ) (b : ℕ) → h ++ (b ∷ []) ++ f ++ e ++ g ≡ h ++ (b ∷ (f ++ e ++ g))
spread h f e g b = simp append_assoc refl

inward : (a h r z : List ℕ) (b : ℕ) → a ++ ((h ++ (b ∷ r)) ++ z) ≡ (a ++ h) ++ (b ∷ (r ++ z))
inward a h r z b = simp append_assoc refl

module _ (app : App) (t : ℕ) (d : Task) where
  -- what stands in front of the letter, and what behind it
  abbrev in_front : List ℕ
  in_front = codes " " ++ d.name ++ codes "="

  abbrev behind : Shown → List ℕ
  behind x = further_text x.further ++ shown_events d x ++ flat_map (resource_text app) (cons_option (if x.inside then internal_of app t else None) x.stack)

  parts : (x : Shown) → shown_text app t d x ≡ in_front ++ (letter_byte x.letter ∷ behind x)
  parts x =
      let held = flat_map (resource_text app) (cons_option (if x.inside then internal_of app t else None) x.stack) in
      ap (λ (l : List ℕ). in_front ++ l ++ further_text x.further ++ shown_events d x ++ held) (letter_is x.letter)
      ∙ spread in_front (further_text x.further) (shown_events d x) held (letter_byte x.letter)

  front_length : length in_front ≡ length d.name + 2
  front_length = omega (arith, length-append (codes " " ++ d.name) (codes "="), length-append (codes " ") d.name)

  -- with another letter, where the events are shown alike
  module _ (x : Shown) (l : Letter) (same : shown_events d (with_letter x l) ≡ shown_events d x) where
    held_same : behind (with_letter x l) ≡ behind x
    held_same =
        let held = flat_map (resource_text app) (cons_option (if x.inside then internal_of app t else None) x.stack) in
        ap (λ (e : List ℕ). further_text x.further ++ e ++ held) same

    other_parts : shown_text app t d (with_letter x l) ≡ in_front ++ (letter_byte l ∷ behind x)
    other_parts = parts (with_letter x l) ∙ ap (λ (r : List ℕ). in_front ++ (letter_byte l ∷ r)) held_same

    -- it is as long
    pub letter_length : length (shown_text app t d (with_letter x l)) ≡ length (shown_text app t d x)
    letter_length =
        let old = ap (λ (r : List ℕ). length r) (parts x) in
        let new = ap (λ (r : List ℕ). length r) other_parts in
        omega (arith, old, new, length-append in_front (letter_byte x.letter ∷ behind x), length-append in_front (letter_byte l ∷ behind x))

    -- and only the letter is put
    pub letter_put : (a z : List ℕ) (n : ℕ) → n ≡ length a + length d.name + 2 →
        set (a ++ (shown_text app t d x ++ z)) n (letter_byte l) ≡ a ++ (shown_text app t d (with_letter x l) ++ z)
    letter_put a z n e =
        ap (λ (p : List ℕ). set (a ++ (p ++ z)) n (letter_byte l)) (parts x)
        ∙ ap (λ (p : List ℕ). set p n (letter_byte l)) (inward a in_front (behind x) z (letter_byte x.letter))
        ∙ set_at (a ++ in_front) (letter_byte x.letter) (behind x ++ z) (letter_byte l) n (omega (arith, e, length-append a in_front, front_length))
        ∙ sym (inward a in_front (behind x) z (letter_byte l)) ∙ ap (λ (p : List ℕ). a ++ (p ++ z)) (sym other_parts)

    pub letter_within : (a z : List ℕ) (n : ℕ) → n ≡ length a + length d.name + 2 → n < length (a ++ (shown_text app t d x ++ z))
    letter_within a z n e =
        let all = ap (λ (r : List ℕ). length r) (parts x) in
        omega (
          arith,
          e,
          all,
          front_length,
          length-append in_front (letter_byte x.letter ∷ behind x),
          length-append a (shown_text app t d x ++ z),
          length-append (shown_text app t d x) z,
        )
