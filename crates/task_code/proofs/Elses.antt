-- `else` begins no statement.
use Rattle.std.proofs.Common.{◌≡◌, ℕ, true, false, List, refl, ap, ◌∙◌}
use Rattle.std.specs.Prelude.{Option, Some, None, codes}
use Rattle.std.proofs.lemmas.{Bool.{false_from_ne_true}, Slice.Eq.{bytes_eq-Decides}}
use Rattle.task_code.specs.{declared.words.StatementWord.{StatementWord}, Words.{is_else, plain_service, object_service, service_of, statement_word}}

else_is : (n : List ℕ) → is_else n ≡ true → n ≡ codes "else"
unfolding is_else
else_is n e = (bytes_eq-Decides n (codes "else")).0 e

no_word : statement_word (codes "else") ≡ None
unfolding statement_word service_of object_service plain_service
no_word = refl

apart : (w : StatementWord) (o : Option StatementWord) → o ≡ Some w → o ≡ None → ⊥
apart w o e n = cc

pub else_is_no_statement : (n : List ℕ) (w : StatementWord) → statement_word n ≡ Some w → is_else n ≡ false
else_is_no_statement n w e = false_from_ne_true (is_else n) (λ is. apart w (statement_word n) e (ap statement_word (else_is n is) ∙ no_word))
