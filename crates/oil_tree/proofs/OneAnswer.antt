-- A list of tokens has at most one tree or first fault.
use Rattle.std.proofs.Common.{◌≡◌, ℕ, List, ◌∷◌, refl, sym, ap, subst}
use Rattle.std.specs.Prelude.{Result, Ok, Err}
use Rattle.oil_lexer.specs.declared.token.{Token.{Token}, Mark.TheVariants.{OpenBrace, Equals}}
use Rattle.oil_tree.specs.declared.tree.{Value.{Value}, Object.{Object}, Tree.{Tree}}
use Rattle.osek_values.specs.declared.{refused.LineFault.{LineFault}, refusal.SyntaxRule.{SyntaxRule}}
use Rattle.oil_tree.specs.Attrs.{Attrs, attr_then}
use Rattle.oil_lexer.specs.Tokens.{name, mark}
use Rattle.oil_tree.specs.Grammar.{IsValue, is_name, is_text, is_number, is_plus, is_minus, IsEnd, plain, described, IsAttrs, no_more, one_more, IsBody, bare, nested, IsObjects, no_objects, one_object, IsBalanced, closed, braces, other, IsCpu, cpu, IsUnversioned, no_impl, impl, IsFile, no_version, version, IsSentence}
use Rattle.oil_lexer.proofs.OneFault.{same_fault, no_fault}
use Rattle.osek_values.specs.declared.limits.TheConstants.{MAX_OIL_DEPTH}
use Rattle.oil_tree.specs.Answers.{IsAnswer}

same_value : {v w : Value} {a b c : List Token} → IsValue v a b → IsValue w a c → (v ≡ w) × (b ≡ c)
same_value is_name is_name = (refl, refl)
same_value is_text is_text = (refl, refl)
same_value is_number is_number = (refl, refl)
same_value is_plus is_plus = (refl, refl)
same_value is_minus is_minus = (refl, refl)

same_end : {a b c : List Token} → IsEnd a b → IsEnd a c → b ≡ c
same_end plain plain = refl
same_end described described = refl

end_at : {a a' b c : List Token} → a ≡ a' → IsEnd a b → IsEnd a' c → b ≡ c
end_at {c} e x y = same_end x (subst (λ (z : List Token). IsEnd z c) (sym e) y)

no_open_end : {l : ℕ} {a b : List Token} → IsEnd (mark OpenBrace l ∷ a) b → ⊥
no_open_end e = elim e [ ]

mutual
  same_attrs : {x y : Attrs} {a b c : List Token} → IsAttrs x a b → IsAttrs y a c → (x ≡ y) × (b ≡ c)
  same_attrs no_more no_more = (refl, refl)
  same_attrs (one_more {n = n} {l = l} v b m) (one_more {inner = inner'} {next = next'} {b = b'} {c = c'} {rest = rest'} v' b'' m') =
      let sv = same_value v v' in
      let sb = same_body b (subst (λ (z : List Token). IsBody inner' z c') (sym sv.1) b'') in
      let sm = same_attrs m (subst (λ (z : List Token). IsAttrs next' z rest') (sym sb.1) m') in
      ((λ i. attr_then n l (sv.0 i) (sb.0 i) (sm.0 i)), sm.1)

  same_body : {x y : Attrs} {a b c : List Token} → IsBody x a b → IsBody y a c → (x ≡ y) × (b ≡ c)
  same_body (bare e) (bare e') = (refl, same_end e e')
  same_body (bare e) (nested i e') = absurd (no_open_end e)
  same_body (nested i e) (bare e') = absurd (no_open_end e')
  same_body (nested i e) (nested i' e') =
      let si = same_attrs i i' in
      (si.0, end_at si.1 e e')

same_objects : {x y : List Object} {a b c : List Token} → IsObjects x a b → IsObjects y a c → (x ≡ y) × (b ≡ c)
same_objects no_objects no_objects = (refl, refl)
same_objects (one_object {k = k} {n = n} {l = l} b m) (one_object {next = next'} {rest = rest'} b' m') =
    let sb = same_body b b' in
    let sm = same_objects m (subst (λ (z : List Token). IsObjects next' z rest') (sym sb.1) m') in
    ((λ i. record { kind = k; line = l; name = n; attrs = sb.0 i } ∷ sm.0 i), sm.1)

same_balanced : {a b c : List Token} → IsBalanced a b → IsBalanced a c → b ≡ c
same_balanced closed closed = refl
same_balanced closed (other o c m) = absurd cc
same_balanced (braces x y) (braces {rest = rest'} x' y') = same_balanced y (subst (λ (z : List Token). IsBalanced z rest') (sym (same_balanced x x')) y')
same_balanced (braces x y) (other o c m) = absurd cc
same_balanced (other o c m) closed = absurd cc
same_balanced (other o c m) (braces x y) = absurd cc
same_balanced (other o c m) (other o' c' m') = same_balanced m m'

same_cpu : {x y : Tree} {a b c : List Token} → IsCpu x a b → IsCpu y a c → (x ≡ y) × (b ≡ c)
same_cpu (cpu {l = l} w o e) (cpu w' o' e') =
    let so = same_objects o o' in
    ((λ i. record { line = l; objects = so.0 i }), end_at so.1 e e')

cpu_at : {x y : Tree} {a a' b c : List Token} → a ≡ a' → IsCpu x a b → IsCpu y a' c → (x ≡ y) × (b ≡ c)
cpu_at {y = y} {c = c} e p q = same_cpu p (subst (λ (z : List Token). IsCpu y z c) (sym e) q)

same_unversioned : {x y : Tree} {a b c : List Token} → IsUnversioned x a b → IsUnversioned y a c → (x ≡ y) × (b ≡ c)
same_unversioned (no_impl p) (no_impl q) = same_cpu p q
same_unversioned (no_impl (cpu w o e)) (impl w' i e' q) = absurd cc
same_unversioned (impl w' i e' q) (no_impl (cpu w o e)) = absurd cc
same_unversioned (impl w i e q) (impl {b = b'} {c = c'} w' i' e' q') = cpu_at (end_at (same_balanced i i') e e') q q'

no_equals : {x : Tree} {w : List ℕ} {l l' : ℕ} {a b : List Token} → IsUnversioned x (name w l ∷ (mark Equals l' ∷ a)) b → ⊥
no_equals (no_impl p) = elim p [ ]

same_file : {x y : Tree} {a b c : List Token} → IsFile x a b → IsFile y a c → (x ≡ y) × (b ≡ c)
same_file (no_version p) (no_version q) = same_unversioned p q
same_file (no_version p) (version w' e' q) = absurd (no_equals p)
same_file (version w e p) (no_version q) = absurd (no_equals q)
same_file (version w e p) (version {file = file'} {rest = rest'} w' e' q) = same_unversioned p (subst (λ (z : List Token). IsUnversioned file' z rest') (sym (same_end e e')) q)

pub one_answer : (tokens : List Token) (a b : Result Tree (LineFault SyntaxRule)) → IsAnswer a tokens → IsAnswer b tokens → a ≡ b
one_answer tokens (Ok x) (Ok y) a b = ap Ok (same_file a.sentence b.sentence).0
one_answer tokens (Ok x) (Err f) a b = absurd (no_fault Tree IsSentence MAX_OIL_DEPTH tokens x f.rule f.line a b)
one_answer tokens (Err f) (Ok y) a b = absurd (no_fault Tree IsSentence MAX_OIL_DEPTH tokens y f.rule f.line b a)
one_answer tokens (Err f) (Err g) a b =
    let s = same_fault Tree IsSentence MAX_OIL_DEPTH tokens f.rule g.rule f.line g.line a b in
    (λ i. Err (record { line = s.1 i; rule = s.0 i }))
