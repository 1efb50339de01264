-- The names of objects are names, where those among the tokens are.
use Rattle.std.proofs.{Common.{List}, lemmas.List.Elements.{All-nil, All-cons}}
use Rattle.std.specs.Prelude.{All, IsTrue}
use Rattle.osek_values.specs.Names.{is_name}
use Rattle.oil_lexer.specs.declared.token.Token.{Token}
use Rattle.oil_lexer.proofs.NamedTokens.{AreNamed}
use Rattle.oil_tree.specs.{Attrs.{Attrs}, declared.tree.{Value.{Value}, Object.{Object}, Tree.{Tree}}}
use Rattle.oil_tree.specs.Grammar as grammar
use Rattle.oil_tree.specs.Grammar.{IsValue, is_text, is_number, is_plus, is_minus, IsEnd, plain, described, IsAttrs, no_more, one_more, IsBody, bare, nested, IsObjects, no_objects, one_object, IsBalanced, closed, braces, other, IsCpu, cpu, IsUnversioned, no_impl, impl, IsFile, no_version, version}

abbrev pub IsNamedObject : Object → Type 0
IsNamedObject o = IsTrue (is_name o.name)

-- what is left behind a phrase has names among its names, too

behind_value : {v : Value} {a b : List Token} → IsValue v a b → AreNamed a → AreNamed b
behind_value grammar.is_name named = named.1
behind_value is_text named = named.1
behind_value is_number named = named.1
behind_value is_plus named = named.1.1
behind_value is_minus named = named.1.1

behind_end : {a b : List Token} → IsEnd a b → AreNamed a → AreNamed b
behind_end plain named = named.1
behind_end described named = named.1.1.1

mutual
  behind_attrs : {x : Attrs} {a b : List Token} → IsAttrs x a b → AreNamed a → AreNamed b
  behind_attrs no_more named = named.1
  behind_attrs (one_more value body more) named = behind_attrs more (behind_body body (behind_value value named.1.1))

  behind_body : {x : Attrs} {a b : List Token} → IsBody x a b → AreNamed a → AreNamed b
  behind_body (bare end) named = behind_end end named
  behind_body (nested attrs end) named = behind_end end (behind_attrs attrs named.1)

behind_balanced : {a b : List Token} → IsBalanced a b → AreNamed a → AreNamed b
behind_balanced closed named = named.1
behind_balanced (braces inner more) named = behind_balanced more (behind_balanced inner named.1)
behind_balanced (other opens closes more) named = behind_balanced more named.1

objects_named : {objects : List Object} {a b : List Token} → IsObjects objects a b → AreNamed a → All IsNamedObject objects
objects_named no_objects named = All-nil IsNamedObject
objects_named (one_object body more) named = All-cons IsNamedObject _ _ named.1.0 (objects_named more (behind_body body named.1.1))

cpu_named : {tree : Tree} {a b : List Token} → IsCpu tree a b → AreNamed a → All IsNamedObject tree.objects
cpu_named (cpu word objects end) named = objects_named objects named.1.1.1

unversioned_named : {tree : Tree} {a b : List Token} → IsUnversioned tree a b → AreNamed a → All IsNamedObject tree.objects
unversioned_named (no_impl file) named = cpu_named file named
unversioned_named (impl word balanced end file) named = cpu_named file (behind_end end (behind_balanced balanced named.1.1.1))

pub file_named : {tree : Tree} {a b : List Token} → IsFile tree a b → AreNamed a → All IsNamedObject tree.objects
file_named (no_version file) named = unversioned_named file named
file_named (version word end file) named = unversioned_named file (behind_end end named.1.1.1)
