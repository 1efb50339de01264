-- The scan at a value and at the end of a phrase, and how many tokens they take.
use Rattle.std.proofs.Common.{◌≡◌, ℕ, ◌<◌, List, ◌∷◌, length, refl, arith}
use Rattle.oil_lexer.specs.declared.token.Token.{Token}
use Rattle.oil_tree.specs.{declared.tree.Value.{Value}, Attrs.{Attrs}}
use Rattle.oil_tree.specs.Grammar.{IsValue, is_name, is_text, is_number, is_plus, is_minus, IsEnd, plain, described, IsAttrs, no_more, one_more, IsBody, bare, nested}
use Rattle.oil_tree.specs.Expect.{a_value, an_end, Stack, scan}

pub takes_value : {v : Value} {ts rest : List Token} → IsValue v ts rest → (d : ℕ) (stack : Stack) → scan d (a_value ∷ stack) ts ≡ scan d stack rest
takes_value is_name d stack = refl
takes_value is_text d stack = refl
takes_value is_number d stack = refl
takes_value is_plus d stack = refl
takes_value is_minus d stack = refl

pub takes_end : {ts rest : List Token} → IsEnd ts rest → (d : ℕ) (stack : Stack) → scan d (an_end ∷ stack) ts ≡ scan d stack rest
takes_end plain d stack = refl
takes_end described d stack = refl

pub shorter_value : {v : Value} {ts rest : List Token} → IsValue v ts rest → length rest < length ts
shorter_value is_name = omega arith
shorter_value is_text = omega arith
shorter_value is_number = omega arith
shorter_value is_plus = omega arith
shorter_value is_minus = omega arith

shorter_end : {ts rest : List Token} → IsEnd ts rest → length rest < length ts
shorter_end plain = omega arith
shorter_end described = omega arith

mutual
  shorter_attrs : {x : Attrs} {ts rest : List Token} → IsAttrs x ts rest → length rest < length ts
  shorter_attrs no_more = omega arith
  shorter_attrs (one_more v b more) = omega (arith, shorter_value v, shorter_body b, shorter_attrs more)

  pub shorter_body : {x : Attrs} {ts rest : List Token} → IsBody x ts rest → length rest < length ts
  shorter_body (bare e) = shorter_end e
  shorter_body (nested a e) = omega (arith, shorter_attrs a, shorter_end e)
