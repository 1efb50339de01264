-- Steps of reading that did not fail.
use Rattle.std.proofs.Common.{◌≡◌, ℕ, Bool, true, false, cond, List, Result, Ok, Err, refl}
use Rattle.image_fields.specs.declared.fault.{ImageRule.{ImageRule}, Fault.{Fault}}
use Rattle.image_fields.specs.Reading.{◌>>=◌, kept}

-- the value of a step that did not fail
pub bind_ok : {A B : Type 0} (r : Result A Fault) (f : A → Result B Fault) (y : B) → (r >>= f) ≡ Ok y → (x : A) × (r ≡ Ok x) × (f x ≡ Ok y)
bind_ok (Ok x) f y e = (x, refl, e)
bind_ok (Err d) f y e = absurd cc

-- a test that did not fail
pub kept_ok : {A : Type 0} (test : Bool) (rule : ImageRule) (bytes : List ℕ) (x y : A × List ℕ) → kept test rule bytes x ≡ Ok y → (test ≡ true) × (x ≡ y)
kept_ok true rule bytes x y e = (refl, cc)
kept_ok false rule bytes x y e = absurd cc

pub kept_again : {A : Type 0} (test : Bool) (rule : ImageRule) (bytes : List ℕ) (x : A × List ℕ) → test ≡ true → kept test rule bytes x ≡ Ok x
kept_again true rule bytes x e = refl
kept_again false rule bytes x e = absurd cc

pub enough_ok : {A : Type 0} (short : Bool) (d : Fault) (x y : A) → cond short (Err d) (Ok x) ≡ Ok y → (short ≡ false) × (x ≡ y)
enough_ok true d x y e = absurd cc
enough_ok false d x y e = (refl, cc)

abbrev pub done_with : {A : Type 0} → A → Result A Fault
done_with x = Ok x

pub ok_is : {A : Type 0} (x y : A) → done_with x ≡ done_with y → x ≡ y
ok_is x y e = cc
