-- A look-up in a set, as the clauses of the set say it.
use Rattle.std.proofs.Common.{◌≡◌, ℕ, List, Bool, true, false, ◌||◌, refl, nat_cmp}
use Rattle.std.specs.{Prelude.{cond, ◌==◌}, Borrow.{Bor}, Ordering.{is_eq}}
use Rattle.std.specs.{Cmp.Lexicographic.{slice_cmp}, List.{list_any}}
use Rattle.std.proofs.lemmas.Map.Text.{is_eq-slice_cmp}
use Rattle.oil_model.specs.NameSets.{is_key}

pub any_key : (n : List ℕ) (keys : List (Bor (List ℕ))) → list_any (λ (k : Bor (List ℕ)). is_eq (slice_cmp nat_cmp n k.now)) keys ≡ list_any (is_key n) keys
any_key n keys = λ i. list_any (λ (k : Bor (List ℕ)). is_eq-slice_cmp n k.now i) keys

pub cond_or : (b x : Bool) → cond b true x ≡ (b || x)
cond_or true x = refl
cond_or false x = refl
