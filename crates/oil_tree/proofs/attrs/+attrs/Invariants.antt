use Rattle.std.proofs.Common.{◌≡◌, ◌+◌, ◌-◌, ◌*◌, List, ◌∷◌, length}
use Rattle.osek_values.specs.declared.limits.TheConstants.{MAX_OIL_DEPTH}
use Rattle.oil_lexer.specs.declared.token.Token.{Token}
use Rattle.oil_tree.specs.{Attrs.{Attrs}, AttrLists.{list_before}, Grammar.{IsAttrs}, Expect.{some_attrs, Stack, scan}}
use Rattle.oil_tree.proofs.attrs.+attrs.Given as goal

abbrev pub decreases-attr : goal.decreases-attr
decreases-attr l = 3 * (MAX_OIL_DEPTH + 1 - l.depth) + 1

abbrev pub decreases-attrs : goal.decreases-attrs
decreases-attrs l = 3 * (MAX_OIL_DEPTH + 1 - l.depth) + 2

abbrev pub decreases-body : goal.decreases-body
decreases-body l = 3 * (MAX_OIL_DEPTH + 1 - l.depth)

abbrev pub invariant-attrs-loop-found : goal.invariant-attrs-loop-found
invariant-attrs-loop-found l = record {
  joins : (next : Attrs) (last : List Token) → IsAttrs next l.rest last → IsAttrs (list_before l.found.items next) l.tokens last;
  takes : (stack : Stack) → scan l.depth (some_attrs ∷ stack) l.tokens ≡ scan l.depth (some_attrs ∷ stack) l.rest;
}

abbrev pub decreases-attrs-loop-found : goal.decreases-attrs-loop-found
decreases-attrs-loop-found l = length l.rest
