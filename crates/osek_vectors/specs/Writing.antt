-- Texts that draw numbers. What such a text is hangs on the state in which it begins, so it is a function of that state.
use Rattle.std.specs.Prelude.{ℕ, zero, suc, ◌+◌, List, [], ◌++◌}
use Rattle.osek_vectors.specs.Draws.{next_state, number_of}

infixl 60 ◌⨾◌
-- a text, and the state of the draws behind it
pub record Written : Type 0 where
  pub text : List ℕ
  pub state : ℕ

-- what is written from each state on
abbrev pub Text : Type 0
Text = ℕ → Written

-- a text that draws nothing
unfoldable pub fixed : List ℕ → Text
fixed bytes x = record { text = bytes; state = x }

-- the text of the number that a draw gives, from the state behind the draw on
unfoldable pub draw : ℕ → (ℕ → Text) → Text
draw choices text x = text (number_of choices (next_state x)) (next_state x)

-- what is written so far, and a text behind it
unfoldable pub onto : Written → Text → Written
onto w text = record { text = w.text ++ (text w.state).text; state = (text w.state).state }

-- a text, and another one behind it, which draws from the state on that the first one leaves
unfoldable pub ◌⨾◌ : Text → Text → Text
(first ⨾ second) x = onto (first x) second

-- the texts of n numbers from i on, one behind the other
unfoldable pub each_from : ℕ → ℕ → (ℕ → Text) → Text
each_from i zero text = fixed []
each_from i (suc n) text = text i ⨾ each_from (i + 1) n text

-- the number that a draw gives next
unfoldable pub drawn : ℕ → Written → ℕ
drawn choices w = number_of choices (next_state w.state)

-- what is written so far, with a draw behind it
unfoldable pub with_draw : Written → Written
with_draw w = record w { state = next_state w.state }
