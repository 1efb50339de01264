-- Whether two lists of openers are the same, step by step.
use Rattle.std.proofs.Common.{◌≡◌, ◌≢◌, List, [], ◌∷◌, length, Bool, true, false, ◌&&◌, refl, arith}
use Rattle.block_graph.specs.{declared.locks.Opener.{Opener, TheVariants.{SuspendAll, SuspendOs, DisableAll}}, Locks.{is_opener, are_same}}

and_false : (a b : Bool) → b ≡ false → (a && b) ≡ false
and_false true b e = e
and_false false b e = refl

pub different : (a b : List Opener) → length a ≢ length b → are_same a b ≡ false
different [] [] h = absurd (h refl)
different [] (y ∷ b) h = refl
different (x ∷ a) [] h = refl
different (x ∷ a) (y ∷ b) h = let shorter : length a ≢ length b = λ e. h (omega (arith, e)) in and_false (is_opener x y) (are_same a b) (different a b shorter)

is_same : (x y : Opener) → is_opener x y ≡ true → x ≡ y
is_same SuspendAll SuspendAll e = refl
is_same SuspendOs SuspendOs e = refl
is_same DisableAll DisableAll e = refl
is_same _ _ e = absurd cc

and_true : (a b : Bool) → (a && b) ≡ true → (a ≡ true) × (b ≡ true)
and_true true b e = (refl, e)
and_true false b e = absurd cc

pub equal : (a b : List Opener) → are_same a b ≡ true → a ≡ b
equal [] [] e = refl
equal [] (y ∷ b) e = absurd cc
equal (x ∷ a) [] e = absurd cc
equal (x ∷ a) (y ∷ b) e =
    let both = and_true (is_opener x y) (are_same a b) e in
    let first : x ≡ y = is_same x y both.0 in
    let others : a ≡ b = equal a b both.1 in
    cc
