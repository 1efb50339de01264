-- Loads as keys: two are equal where they are the same, and what is hashed of one.
use Rattle.std.specs.{Prelude.{◌≡◌, ℕ, Bool, true, List, ◌++◌, ◌&&◌, ◌==◌, IsTrue}, Cmp.{IsPartialEquivalence, IsEquivalence, booleans_Decides, partial_equiv_from_equiv}}
use Rattle.std.specs.Hash as fed
use Rattle.std.specs.List.{flat_map}
use Rattle.std.specs.Cmp.Lexicographic.{pointwise}
use Rattle.std.proofs.Math.Bool.{beq}
use Rattle.std.proofs.{Common.{refl, sym, ap, subst, ◌∙◌, inl, inr, eqb-true}, lemmas.{Bool.{and_from, and_parts, cases_Bool, eq-eqb}, Cmp.{lists_equiv, nat_eq_equiv}, Slice.Eq.{slice_eq-Decides}}}
use Rattle.osek_values.specs.{Numbers.{res_no}, declared.numbers.ResNo.{ResNo}}
use Rattle.osek_standard.specs.Well.{same_resource}
use Rattle.numbered_sets.specs.declared.loads.Load.{Load}

abbrev pub same_load : Load → Load → Bool
same_load a b = ((a.further == b.further) && beq a.inside b.inside) && pointwise same_resource a.held b.held

abbrev pub key_input : Load → List (List ℕ)
key_input x = fed.u8 x.further ++ fed.bool x.inside ++ flat_map (λ (r : ResNo). fed.u8 r.0) x.held

stack_right : (a b : List ResNo) → pointwise same_resource a b ≡ true → a ≡ b
stack_right a b same = (slice_eq-Decides (λ (q r : ResNo). (λ e. ap res_no (eqb-true q.0 r.0 e), λ e. eq-eqb q.0 r.0 (ap (λ (x : ResNo). x.0) e))) a b (pointwise same_resource a b) refl).0 same

resources_equal : IsEquivalence same_resource
resources_equal = record {
  refl = λ q. nat_eq_equiv.refl q.0;
  symm = λ q r. nat_eq_equiv.symm q.0 r.0;
  congr = λ q r s. nat_eq_equiv.congr q.0 r.0 s.0;
}

-- keys that are equal are one load
pub one_load : (a b : Load) → same_load a b ≡ true → a ≡ b
one_load a b same =
    let parts = and_parts ((a.further == b.further) && beq a.inside b.inside) (pointwise same_resource a.held b.held) same in
    let front = and_parts (a.further == b.further) (beq a.inside b.inside) parts.0 in
    let further : a.further ≡ b.further = eqb-true a.further b.further front.0 in
    let inside : a.inside ≡ b.inside = (booleans_Decides a.inside b.inside).0 front.1 in
    let held : a.held ≡ b.held = stack_right a.held b.held parts.1 in
    λ i. record { further = further i; inside = inside i; held = held i }

pub load_itself : (a : Load) → same_load a a ≡ true
load_itself a =
    and_from ((a.further == a.further) && beq a.inside a.inside) (pointwise same_resource a.held a.held)
    (and_from (a.further == a.further) (beq a.inside a.inside) (eq-eqb a.further a.further refl) ((booleans_Decides a.inside a.inside).1 refl))
    ((lists_equiv resources_equal).refl a.held)

same_both : (a b : Load) → same_load a b ≡ same_load b a
same_both a b = elim (cases_Bool (same_load a b)) [
  | inl e ↦ subst (λ (x : Load). same_load a x ≡ same_load x a) (one_load a b e) refl
  | inr e ↦ elim (cases_Bool (same_load b a)) [
    | inl f ↦ subst (λ (x : Load). same_load x b ≡ same_load b x) (one_load b a f) refl
    | inr f ↦ e ∙ sym f
  ]
]

pub keys_equal : IsEquivalence same_load
keys_equal = record {
  refl = load_itself;
  symm = same_both;
  congr = λ a b c e. ap (λ (x : Load). same_load x c) (one_load a b e);
}

pub keys_alike : IsPartialEquivalence same_load
keys_alike = partial_equiv_from_equiv keys_equal

pub key_fed : (a b : Load) → IsTrue (same_load a b) → key_input a ≡ key_input b
key_fed a b same = ap key_input (one_load a b same)
