-- what the text declares, or its first fault
use Rattle.std.proofs.Common.{◌≡◌, ℕ, List, refl, sym, subst, Err}
use Rattle.osek_values.specs.declared.refusal.{Rule.{Rule}, Refusal.{Refusal}}
use Rattle.osek_values.specs.declared.refusal.Rule.TheVariants as rule
use Rattle.osek_values.specs.declared.refusal.TextFile.TheVariants as file
use Rattle.oil_system.specs.declared.system.System.{System}
use Rattle.osek_values.specs.declared.refused.Refused.{Refused}
use Rattle.osek_values.specs.declared.refused.Refused.TheVariants as errors
use Rattle.osek_values.specs.Answers.{IsRight}
use Rattle.front_end.specs.{Answers.{IsOilAnswer}, Texts.{IsOilFault}}
use Rattle.front_end.proofs.oil_text.read.Goals as goal

refuses : (text : List ℕ) (e : Refused Refusal) (line : ℕ) (q : Rule) → e ≡ errors.Fault (record { file = file.Oil; line = line; rule = q }) → IsOilFault text q line →
    IsRight {X = System} (λ r. IsOilAnswer r text) (Err e)
refuses text e line q is fault = subst (λ (x : Refused Refusal). IsRight {X = System} (λ r. IsOilAnswer r text) (Err x)) (sym is) (refl, fault)

pub returns-in-Err-clause-right : goal.returns-in-Err-clause-right
returns-in-Err-clause-right c = refuses c.args.text.now c.refused.result c.in-Err.fault.line (rule.Lex c.in-Err.fault.rule) c.refused.ensures c.in-Err.ensures.right

pub returns-in-Err-Fault-clause-right : goal.returns-in-Err-Fault-clause-right
returns-in-Err-Fault-clause-right c =
    refuses c.args.text.now c.refused-in-Err-Fault.result c.in-Err-Fault.fault.line (rule.Syntax c.in-Err-Fault.fault.rule) (rw c.in-Err-Fault.field-0-is at c.refused-in-Err-Fault.ensures)
    (c.in-Ok.tokens, c.in-Ok.ensures.right, (rw c.in-Err-Fault.field-0-is at c.in-Err-Fault.ensures.right))

pub returns-in-Ok-resolve-clause-right : goal.returns-in-Ok-resolve-clause-right
returns-in-Ok-resolve-clause-right c = record {
  tokens = c.in-Ok.tokens;
  tree = c.in-Ok-parse.tree;
  are_tokens = c.in-Ok.ensures.right;
  has_tree = c.in-Ok-parse.ensures.right;
  has_system = c.in-Ok-resolve.ensures.right;
}

pub returns-in-Err-Fault-resolve-clause-right : goal.returns-in-Err-Fault-resolve-clause-right
returns-in-Err-Fault-resolve-clause-right c =
    refuses c.args.text.now c.refused-in-Err-Fault-resolve.result c.in-Err-Fault-resolve.fault.line (rule.Oil c.in-Err-Fault-resolve.fault.rule) c.refused-in-Err-Fault-resolve.ensures
    (c.in-Ok.tokens, c.in-Ok-parse.tree, c.in-Ok.ensures.right, c.in-Ok-parse.ensures.right, (rw c.in-Err-Fault-resolve.field-0-is at c.in-Err-Fault-resolve.ensures.right))
