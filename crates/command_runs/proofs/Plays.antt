-- The lines of an event text, played one after the other.
use Rattle.std.proofs.Common.{◌≡◌, ℕ, ◌+◌, List, [], ◌++◌, sym, ◌∙◌, ap, subst, inl, inr, append_assoc, Some, None, Ok, Err}
use Rattle.std.specs.declared.{option.Option.{Option}, result.Result.{Result}}
use Rattle.osek_values.specs.declared.event.Event.{Event}
use Rattle.osek_standard.specs.{declared.state.State.{State}, Dispatch.{Stepped}}
use Rattle.image_model.specs.{declared.image.Image.{Image}, ImageStep.{image_step}}
use Rattle.trace_text.specs.declared.fault.EventFault.{EventFault}
use Rattle.command_runs.specs.Playing.{Played, played, printing, plays, played_line, played_after, line_of, Given, Puts, PutsPrefix, AnswersEvent, GoesOn, HeldAnswers}
use Rattle.command_runs.specs.declared.{showing.Showing.{Showing}, stop.Stop.{Stop}}
use Rattle.command_runs.proofs.GivenTexts.{puts_nothing, puts_both, puts_prefix_of_first, puts_prefix_behind}

pub printing-printing : (a b : List ℕ) (p : Played) → printing a (printing b p) ≡ printing (a ++ b) p
printing-printing a b p = ap (λ (l : List ℕ). played l p.end) (sym (append_assoc a b p.text))

-- a line that is no event
pub line_skipped : (old : Given) (w : Showing) (i : Image) (n : ℕ) (s : State) (number : ℕ) (r : Result (Option Event) EventFault) → r ≡ Ok None →
    GoesOn old old (λ more. played_line w i n s number more r) n s
line_skipped old w i n s number r e = record {
  text = [];
  prints = puts_nothing old;
  goes_on = λ more. ap (played_line w i n s number more) e;
}

-- an event whose line was printed
pub line_played : (old new : Given) (w : Showing) (i : Image) (n : ℕ) (s t : State) (number : ℕ) (r : Result (Option Event) EventFault) (e : Event) (x : Option Stepped) →
    r ≡ Ok (Some e) → image_step i s e ≡ x → AnswersEvent old new w i n t x (Ok tt) →
    GoesOn old new (λ more. played_line w i n s number more r) (n + 1) t
line_played old new w i n s t number r e None is step (inl h) = absurd (cc (h.0))
line_played old new w i n s t number r e None is step (inr h) = absurd (cc (h.0))
line_played old new w i n s t number r e (Some x) is step (same, inl h) = record {
  text = line_of w i n x;
  prints = h.1;
  goes_on = λ more. ap (played_line w i n s number more) is ∙ ap (played_after w i n (more (n + 1))) step ∙ ap (λ (u : State). printing (line_of w i n x) (more (n + 1) u)) (sym same);
}
line_played old new w i n s t number r e (Some x) is step (same, inr h) = absurd (cc (h.0))

-- an event at which the play ends
pub line_ends : (old new : Given) (w : Showing) (i : Image) (n : ℕ) (s t : State) (number : ℕ) (r : Result (Option Event) EventFault) (e : Event) (x : Option Stepped) (end : Stop) →
    r ≡ Ok (Some e) → image_step i s e ≡ x → AnswersEvent old new w i n t x (Err end) →
    (more : ℕ → State → Played) → HeldAnswers old new (played_line w i n s number more r) (Err end)
line_ends old new w i n s t number r e None end is step h more =
    subst (λ (p : Played). HeldAnswers old new p (Err end)) (sym (ap (played_line w i n s number more) is ∙ ap (played_after w i n (more (n + 1))) step)) h
line_ends old new w i n s t number r e (Some x) end is step (any, inl h) more = absurd (cc (h.0))
line_ends old new w i n s t number r e (Some x) end is step (any, inr h) more =
    subst (λ (p : Played). HeldAnswers old new p (Err end)) (sym (ap (played_line w i n s number more) is ∙ ap (played_after w i n (more (n + 1))) step))
    (inr (h.0, puts_prefix_of_first old new (line_of w i n x) (more (n + 1) x.state).text h.1))

-- how far a play has come: what was printed, and the lines that are ahead
pub record Came (first now : Given) (play : Played) (w : Showing) (i : Image) (lines : List (ℕ × List ℕ)) (n : ℕ) (s : State) : Type 0 where
  pub text : List ℕ
  pub prints : Puts first now text
  pub rest : play ≡ printing text (plays w i lines n s)

-- the play ends with an answer to what is ahead
pub came_to_end : (first now next : Given) (play : Played) (w : Showing) (i : Image) (lines : List (ℕ × List ℕ)) (n : ℕ) (s : State) (r : Result (Unit {0}) Stop) →
    HeldAnswers now next (plays w i lines n s) r → Came first now play w i lines n s → HeldAnswers first next play r
came_to_end first now next play w i lines n s r (inl h) c =
    inl (h.0 ∙ sym (ap (λ (p : Played). p.end) c.rest), subst (Puts first next) (sym (ap (λ (p : Played). p.text) c.rest)) (puts_both first now next c.text (plays w i lines n s).text c.prints h.1))
came_to_end first now next play w i lines n s r (inr h) c =
    inr (h.0, subst (PutsPrefix first next) (sym (ap (λ (p : Played). p.text) c.rest)) (puts_prefix_behind first now next c.text (plays w i lines n s).text c.prints h.1))

-- a text, and then a play
pub printed_first : (first now next : Given) (text : List ℕ) (p : Played) (r : Result (Unit {0}) Stop) →
    Puts first now text → HeldAnswers now next p r → HeldAnswers first next (printing text p) r
printed_first first now next text p r e (inl h) =
    inl (h.0, puts_both first now next text p.text e h.1)
printed_first first now next text p r e (inr h) =
    inr (h.0, puts_prefix_behind first now next text p.text e h.1)

-- a text that was put
pub was_put : (first next : Given) (text : List ℕ) → HeldAnswers first next (played text (Ok tt)) (Ok tt) → Puts first next text
was_put first next text (inl h) = h.1
was_put first next text (inr h) = absurd (cc (h.0))

-- or wasn't, and no more of a play is printed
pub first_fails : (first next : Given) (text : List ℕ) (p : Played) (end : Stop) → HeldAnswers first next (played text (Ok tt)) (Err end) → HeldAnswers first next (printing text p) (Err end)
first_fails first next text p end (inl h) = absurd (cc (h.0))
first_fails first next text p end (inr h) = inr (h.0, puts_prefix_of_first first next text p.text h.1)
