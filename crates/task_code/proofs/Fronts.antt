-- Phrases from the tokens that were read.
use Rattle.std.proofs.Common.{◌≡◌, ℕ, sym, ap, ◌∙◌, subst}
use Rattle.oil_lexer.specs.declared.token.{TokenKind.TheVariants.{Number, Mark}, Mark.{Mark as AMark, TheVariants.{Question}}, Token.{Token}}
use Rattle.task_code.specs.{declared.tree.Condition.TheVariants.{Choice, Always}, Grammar.{IsCondition, choice, always}}

pub choice_is : (t : Token) (m : AMark) → t.kind ≡ Mark m → m ≡ Question → IsCondition Choice t
choice_is t m k s = subst (λ (x : Token). IsCondition Choice x) (λ i. record { kind = sym (k ∙ ap Mark s) i; line = t.line }) choice

pub always_is : (t : Token) (v : ℕ) → t.kind ≡ Number v → v ≡ 1 → IsCondition Always t
always_is t v k s = subst (λ (x : Token). IsCondition Always x) (λ i. record { kind = sym (k ∙ ap Number s) i; line = t.line }) always
