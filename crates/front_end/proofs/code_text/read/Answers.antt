-- what the code has beside the system, or the first fault of the text
use Rattle.std.proofs.Common.{◌≡◌, ℕ, List, refl, sym, subst, inl, inr, Err}
use Rattle.osek_values.specs.declared.refusal.{Rule.{Rule}, Refusal.{Refusal}}
use Rattle.osek_values.specs.declared.refusal.Rule.TheVariants as rule
use Rattle.osek_values.specs.declared.refusal.TextFile.TheVariants as file
use Rattle.osek_standard.specs.declared.app.App.{App}
use Rattle.oil_system.specs.declared.system.System.{System}
use Rattle.oil_lexer.specs.{declared.token.Token.{Token}, Text.{AreTokens}}
use Rattle.task_code.specs.Faults.{IsFirstFault}
use Rattle.osek_values.specs.declared.refused.Refused.{Refused}
use Rattle.osek_values.specs.declared.refused.Refused.TheVariants as errors
use Rattle.osek_values.specs.Answers.{IsRight}
use Rattle.front_end.specs.{Answers.{IsCodeAnswer}, Texts.{IsCodeFault}}
use Rattle.front_end.proofs.code_text.read.Goals as goal

refuses : (s : System) (text : List ℕ) (e : Refused Refusal) (line : ℕ) (q : Rule) → e ≡ errors.Fault (record { file = file.Code; line = line; rule = q }) → IsCodeFault s text q line →
    IsRight {X = App} (λ r. IsCodeAnswer r s text) (Err e)
refuses s text e line q is fault = subst (λ (x : Refused Refusal). IsRight {X = App} (λ r. IsCodeAnswer r s text) (Err x)) (sym is) (refl, fault)

of_tokens : (s : System) (text : List ℕ) (tokens : List Token) (q : Rule) (line : ℕ) → AreTokens text tokens → IsFirstFault tokens q line → IsCodeFault s text q line
of_tokens s text tokens (rule.Lex r) line are fault = absurd fault
of_tokens s text tokens (rule.Syntax r) line are fault = (tokens, are, fault)
of_tokens s text tokens (rule.Oil r) line are fault = absurd fault
of_tokens s text tokens (rule.Code r) line are fault = (tokens, are, inl fault)

pub returns-in-Err : goal.returns-in-Err
returns-in-Err c = refuses c.args.system c.args.text.now c.refused.result c.in-Err.fault.line (rule.Lex c.in-Err.fault.rule) c.refused.ensures c.in-Err.ensures.right

pub returns-in-Err-Fault : goal.returns-in-Err-Fault
returns-in-Err-Fault c =
    refuses c.args.system c.args.text.now c.refused-in-Err-Fault.result c.in-Err-Fault.fault.line c.in-Err-Fault.fault.rule (rw c.in-Err-Fault.field-0-is at c.refused-in-Err-Fault.ensures)
    (of_tokens c.args.system c.args.text.now c.in-Ok.tokens c.in-Err-Fault.fault.rule c.in-Err-Fault.fault.line c.in-Ok.ensures.right
    (rw c.in-Err-Fault.field-0-is at c.in-Err-Fault.ensures.right))

pub returns-in-Ok-link : goal.returns-in-Ok-link
returns-in-Ok-link c = record {
  tokens = c.in-Ok.tokens;
  code = c.in-Ok-parse_code.code;
  are_tokens = c.in-Ok.ensures.right;
  has_code = c.in-Ok-parse_code.ensures.right;
  has_app = c.in-Ok-link.ensures.right;
}

pub returns-in-Err-Fault-link : goal.returns-in-Err-Fault-link
returns-in-Err-Fault-link c =
    refuses c.args.system c.args.text.now c.refused-in-Err-Fault-link.result c.in-Err-Fault-link.fault.line (rule.Code c.in-Err-Fault-link.fault.rule) c.refused-in-Err-Fault-link.ensures
    (c.in-Ok.tokens, c.in-Ok.ensures.right, inr (c.in-Ok-parse_code.code, c.in-Ok-parse_code.ensures.right, (rw c.in-Err-Fault-link.field-0-is at c.in-Err-Fault-link.ensures.right)))
