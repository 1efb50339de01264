-- Reading a field, and what stands for it.
use Rattle.std.proofs.{Common.{◌≡◌, ◌⊎◌, ℕ, Bool, true, false, cond, List, ◌++◌, Option, Some, None, Ok, refl, sym, ap, subst, ◌∙◌, inl, inr}, lemmas.Option.{same_Some}}
use Rattle.image_fields.specs.{declared.fault.ImageRule.{ImageRule}, Reading.{Read, ◌>>=◌, found_at}}
use Rattle.image_fields.proofs.Steps.{bind_ok, ok_is}
use Rattle.image_codec.proofs.Spells.{Takes, Spells}

pub first_choice : {A : Type 0} (test : Bool) (x : A) (o : Option A) (y : A) → cond test (Some x) o ≡ Some y → ((test ≡ true) × (x ≡ y)) ⊎ (o ≡ Some y)
first_choice true x o y e = inl (refl, same_Some x y e)
first_choice false x o y e = inr e

found_ok : {X : Type 0} (rule : ImageRule) (bytes rest : List ℕ) (o : Option X) (x : X × List ℕ) → found_at rule bytes rest o ≡ Ok x → (o ≡ Some x.0) × (rest ≡ x.1)
found_ok rule bytes rest None x e = absurd cc
found_ok {X} rule bytes rest (Some y) x e = let g = ok_is (y, rest) x e in (ap (λ (p : X × List ℕ). Some p.0) g, ap (λ (p : X × List ℕ). p.1) g)

-- a field, and what stands for it: `number` says what each of these is spelled by
module _ {A X : Type 0} (read : List ℕ → Read A) (spell : A → List ℕ) (Good : A → Type 0) (rule : ImageRule) (find : A → Option X) (number : X → A) (GoodX : X → Type 0)
    (law : Spells read spell Good) (back : (a : A) (x : X) → Good a → find a ≡ Some x → (number x ≡ a) × GoodX x) (again : (x : X) → GoodX x → Good (number x) × (find (number x) ≡ Some x)) where
  pub found_law : Spells (λ bytes. read bytes >>= λ n. found_at rule bytes n.1 (find n.0)) (λ x. spell (number x)) GoodX
  found_law = record {
    takes = λ bytes x rest fits e.
        let a = bind_ok (read bytes) (λ n. found_at rule bytes n.1 (find n.0)) (x, rest) e in
        let g = found_ok rule bytes a.0.1 (find a.0.0) (x, rest) a.2 in
        let t = law.takes bytes a.0.0 a.0.1 fits a.1 in
        let b = back a.0.0 x t.1 g.0 in
        (subst (λ (r : List ℕ). Takes bytes (spell (number x)) r) g.1 (subst (λ (n : A). Takes bytes (spell n) a.0.1) (sym b.0) t.0), b.1);
    again = λ x rest good.
        let b = again x good in
        ap (λ (r : Read A). r >>= λ n. found_at rule (spell (number x) ++ rest) n.1 (find n.0)) (law.again (number x) rest b.0)
        ∙ ap (found_at rule (spell (number x) ++ rest) rest) b.1;
  }
