-- What is true of an input's bytes.
use Rattle.std.proofs.{Common.{◌≡◌, ℕ, suc, ◌<◌, List, [], length, replicate, refl, sym, subst, arith, Some, None}, lemmas.List.{length-replicate}}
use Rattle.std.specs.{FinMap.{get}, declared.option.Option.{Option}}
use Rattle.osek_io.specs.Files.{Files, Holds, IsMissing}
use Rattle.command_runs.specs.Inputs.{OfFile}

-- what is true of the bytes that were loaded is true of the file's
pub of_loaded : (files : Option Files) (name : List ℕ) (P : List ℕ → Type 0) (loaded : List ℕ) → ((bytes : List ℕ) → Holds files name bytes → loaded ≡ bytes) →
    (IsMissing files name → ⊥) → P loaded → OfFile files name P
of_loaded None name P loaded bytes there p = (loaded, tt, p)
of_loaded (Some files) name P loaded bytes there p = found (get files name) refl
  where
    found : (o : Option (List ℕ)) → get files name ≡ o → OfFile (Some files) name P
    found None e = absurd (there e)
    found (Some b) e = (b, e, subst P (bytes b e) p)

-- what is true of the bytes that are told, and of none, is true of a file that is there
pub of_told : (files : Option Files) (name : List ℕ) (P : List ℕ → Type 0) → P [] → ((bytes : List ℕ) → Holds files name bytes → P bytes) → (IsMissing files name → ⊥) → OfFile files name P
of_told None name P none p there = ([], tt, none)
of_told (Some files) name P none p there = found (get files name) refl
  where
    found : (o : Option (List ℕ)) → get files name ≡ o → OfFile (Some files) name P
    found None e = absurd (there e)
    found (Some b) e = (b, e, p b e)

-- there are bytes beyond each limit
longer : (most : ℕ) → (bytes : List ℕ) × (most < length bytes)
longer most =
    let filler : ℕ = 0 in
    let size : length (replicate (suc most) filler) ≡ suc most = length-replicate (suc most) filler in
    (replicate (suc most) filler, omega (arith, size))

-- what is true of all bytes beyond a limit is true of a file that is longer
pub of_longer : (files : Option Files) (name : List ℕ) (most : ℕ) (P : List ℕ → Type 0) → ((bytes : List ℕ) → most < length bytes → P bytes) →
    ((bytes : List ℕ) → Holds files name bytes → most < length bytes) → (IsMissing files name → ⊥) → OfFile files name P
of_longer None name most P p longer_file there = let some = longer most in (some.0, tt, p some.0 some.1)
of_longer (Some files) name most P p longer_file there = found (get files name) refl
  where
    found : (o : Option (List ℕ)) → get files name ≡ o → OfFile (Some files) name P
    found None e = absurd (there e)
    found (Some b) e = (b, e, p b (longer_file b e))

pub of_map : (files : Option Files) (name : List ℕ) (P Q : List ℕ → Type 0) → ((bytes : List ℕ) → P bytes → Q bytes) → OfFile files name P → OfFile files name Q
of_map files name P Q f h = (h.0, h.1, f h.0 h.2)

-- what is true of the bytes that are known is true of the file's
pub of_bytes : (files : Option Files) (name : List ℕ) (P : List ℕ → Type 0) (loaded : List ℕ) → OfFile files name (λ b. b ≡ loaded) → P loaded → OfFile files name P
of_bytes files name P loaded holds p = (holds.0, holds.1, subst P (sym holds.2) p)
