-- Spellings by which a proof tells two lists of attributes, or of objects, apart.
use Rattle.std.specs.{Prelude.{◌≡◌, ℕ, List, [], ◌∷◌, refl}, Coded.{Coded, coded_ℕ, coded_list}}
use Rattle.std.proofs.Common.{arith}
use base.Stored.{coded_via}
use Rattle.oil_tree.specs.{declared.tree.{Sign.{Sign, TheVariants.{Bare, Plus, Minus}}, Value.{Value, TheVariants.{Word, Quoted, Numeric}}}, Attrs.{Attrs, no_attrs, attr_then}}

abbrev pub sign_number : Sign → ℕ
sign_number Bare = 0
sign_number Plus = 1
sign_number Minus = 2

pub sign_number-inj : (x y : Sign) → sign_number x ≡ sign_number y → x ≡ y
sign_number-inj Bare Bare e = refl
sign_number-inj Plus Plus e = refl
sign_number-inj Minus Minus e = refl
sign_number-inj _ _ e = absurd (omega (arith, e))

abbrev pub spell_value : Value → List (List ℕ)
spell_value (Word w) = [] ∷ (w ∷ [])
spell_value (Quoted w) = (0 ∷ []) ∷ (w ∷ [])
spell_value (Numeric sign v) = (0 ∷ 0 ∷ []) ∷ ((sign_number sign ∷ v ∷ []) ∷ [])

pub spell_value-inj : (x y : Value) → spell_value x ≡ spell_value y → x ≡ y
spell_value-inj (Word w) (Word w') e = cc
spell_value-inj (Quoted w) (Quoted w') e = cc
spell_value-inj (Numeric s v) (Numeric s' v') e =
    let signs : sign_number s ≡ sign_number s' = cc in
    let same : s ≡ s' = sign_number-inj s s' signs in
    cc
spell_value-inj _ _ e = absurd cc

abbrev pub spell : Attrs → List (List (List ℕ)) → List (List (List ℕ))
spell no_attrs rest = [] ∷ rest
spell (attr_then n line value inner next) rest = ((n ∷ ((line ∷ []) ∷ [])) ∷ (spell_value value ∷ spell inner (spell next rest)))

pub spell-inj : (x y : Attrs) (r s : List (List (List ℕ))) → spell x r ≡ spell y s → (x ≡ y) × (r ≡ s)
spell-inj no_attrs no_attrs r s e = (refl, cc)
spell-inj no_attrs (attr_then n l v i m) r s e = absurd cc
spell-inj (attr_then n l v i m) no_attrs r s e = absurd cc
spell-inj (attr_then n l v i m) (attr_then n' l' v' i' m') r s e =
    let names : n ≡ n' = cc in
    let lines : l ≡ l' = cc in
    let values : spell_value v ≡ spell_value v' = cc in
    let same : v ≡ v' = spell_value-inj v v' values in
    let rest : spell i (spell m r) ≡ spell i' (spell m' s) = cc in
    let inner = spell-inj i i' (spell m r) (spell m' s) rest in
    let next = spell-inj m m' r s inner.1 in
    ((λ k. attr_then (names k) (lines k) (same k) (inner.0 k) (next.0 k)), next.1)

abbrev pub attrs_code : Coded Attrs
attrs_code = coded_via (coded_list (coded_list (coded_list coded_ℕ))) (λ x. spell x []) (λ x y e. (spell-inj x y [] [] e).0)
