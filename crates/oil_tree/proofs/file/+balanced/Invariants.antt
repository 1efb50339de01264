use Rattle.std.proofs.Common.{◌≡◌, ◌+◌, ◌-◌, List, ◌∷◌, length}
use Rattle.osek_values.specs.declared.limits.TheConstants.{MAX_OIL_DEPTH}
use Rattle.oil_lexer.specs.declared.token.Token.{Token}
use Rattle.oil_tree.specs.{Grammar.{IsBalanced}, Expect.{some_balanced, Stack, scan}}
use Rattle.oil_tree.proofs.file.+balanced.Given as goal

abbrev pub decreases-balanced : goal.decreases-balanced
decreases-balanced l = MAX_OIL_DEPTH + 1 - l.depth

abbrev pub invariant-loop-token : goal.invariant-loop-token
invariant-loop-token l = record {
  joins : (last : List Token) → IsBalanced l.rest last → IsBalanced l.tokens last;
  takes : (stack : Stack) → scan l.depth (some_balanced ∷ stack) l.tokens ≡ scan l.depth (some_balanced ∷ stack) l.rest;
}

abbrev pub decreases-loop-token : goal.decreases-loop-token
decreases-loop-token l = length l.rest
