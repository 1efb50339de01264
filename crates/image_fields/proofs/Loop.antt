-- Reading one entry after the other, as a loop does.
use Rattle.std.proofs.Common.{◌≡◌, ℕ, zero, suc, ◌-◌, ◌+◌, ◌≤◌, ◌<◌, List, [], ◌∷◌, ◌++◌, Ok, Err, length, refl, sym, ap, ◌∙◌, arith}
use Rattle.osek_values.specs.declared.refused.Refused.{Refused}
use Rattle.image_fields.specs.declared.fault.Fault.{Fault}
use Rattle.osek_values.specs.declared.refused.Refused.TheVariants as errors
use Rattle.image_fields.specs.Reading.{Read, Fails, entries_at}
use Rattle.std.proofs.lemmas.List.{length_push}
use Rattle.image_fields.proofs.Steps.{bind_ok, ok_is}

module _ {X : Type 0} (one : List X → List ℕ → Read X) (earlier : List X) (total : Read (List X)) where
  pub goes_on : (count i : ℕ) (bytes : List ℕ) (x : X) (after : List ℕ) → i < count → one earlier bytes ≡ Ok (x, after)
      → entries_at one earlier (count - i) bytes ≡ total → entries_at one (earlier ++ x ∷ []) (count - (i + 1)) after ≡ total
  unfolding entries_at
  goes_on count i bytes x after lt read so_far =
      let k : count - i ≡ suc (count - (i + 1)) = omega arith in
      let step : entries_at one earlier (count - i) bytes ≡ entries_at one (earlier ++ x ∷ []) (count - (i + 1)) after = rw (k, read) refl in
      sym step ∙ so_far

  pub ends : (e : Refused Fault) (count i : ℕ) (bytes : List ℕ) → i < count → Fails e (one earlier bytes)
      → entries_at one earlier (count - i) bytes ≡ total → Fails e total
  unfolding entries_at
  ends errors.Memory count i bytes lt failed so_far = tt
  ends (errors.Fault f) count i bytes lt failed so_far =
      let k : count - i ≡ suc (count - (i + 1)) = omega arith in
      let step : entries_at one earlier (count - i) bytes ≡ Err f = rw (k, failed) refl in
      sym so_far ∙ step

  pub is_done : (count i : ℕ) (bytes : List ℕ) → count ≤ i → entries_at one earlier (count - i) bytes ≡ total → total ≡ Ok (earlier, bytes)
  unfolding entries_at
  is_done count i bytes le so_far =
      let k : count - i ≡ 0 = omega arith in
      let step : entries_at one earlier (count - i) bytes ≡ Ok (earlier, bytes) = rw k refl in
      sym so_far ∙ step

-- how many entries there are
pub entries_count : {X : Type 0} (one : List X → List ℕ → Read X) (k : ℕ) (earlier : List X) (bytes : List ℕ) (xs : List X) (rest : List ℕ) → entries_at one earlier k bytes ≡ Ok (xs, rest) → length xs ≡ length earlier + k
unfolding entries_at
entries_count one zero earlier bytes xs rest e = let same : length earlier ≡ length xs = ap (λ p. length p.0) (ok_is (earlier, bytes) (xs, rest) e) in omega (arith, same)
entries_count one (suc k) earlier bytes xs rest e =
    let a = bind_ok (one earlier bytes) (λ x. entries_at one (earlier ++ x.0 ∷ []) k x.1) (xs, rest) e in
    let more = entries_count one k (earlier ++ a.0.0 ∷ []) a.0.1 xs rest a.2 in
    omega (arith, more, length_push earlier a.0.0)
