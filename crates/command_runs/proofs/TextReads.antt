-- What the reads of a text that is there come to.
use Rattle.std.proofs.{Common.{◌≡◌, ℕ, ◌+◌, ◌≤◌, ◌⊎◌, Bool, true, eqb, List, length, Option, Some, None, sym, ◌∙◌, subst, inl, inr, arith}, lemmas.Bool.{eqb-true, cases_lt}}
use Rattle.osek_io.specs.{Counts.{Rose}, Files.{Files, Holds, IsMissing}}
use Rattle.command_runs.specs.Inputs.{OfFile, ReadsOn}

not_missing : (files : Option Files) (name : List ℕ) (P : List ℕ → Type 0) → OfFile files name P → IsMissing files name → ⊥
not_missing None name P text missing = missing
not_missing (Some files) name P (bytes, holds, p) missing = cc (holds, missing)

-- a read of a text that is there fails by a fault
pub rose_there : (files here : Option Files) (name : List ℕ) (P : List ℕ → Type 0) (a b c : ℕ) → here ≡ files → OfFile files name P → b ≡ a → Rose b c ⊎ IsMissing here name → Rose a c
rose_there files here name P a b c same text e (inl rose) = subst (λ (n : ℕ). Rose n c) e rose
rose_there files here name P a b c same text e (inr missing) = absurd (not_missing files name P text (subst (λ (o : Option Files). IsMissing o name) same missing))

short_by : (name bytes other : List ℕ) (o : Option (List ℕ)) → o ≡ Some bytes → o ≡ Some other → length other ≤ 16777216 → length bytes ≤ 16777216
short_by name bytes other o h k short = let same : other ≡ bytes = cc in subst (λ (xs : List ℕ). length xs ≤ 16777216) same short

-- where no bytes come, the text has come
pub has_come : (files : Option Files) (name : List ℕ) (taken c : ℕ) (ahead ahead_after : List ℕ) (finished : Bool) → OfFile files name (λ t. length t ≤ 16777216) → taken ≤ 16777216 → ReadsOn files name taken ahead ahead_after c → finished ≡ eqb c 0 →
    finished ≡ true → (bytes : List ℕ) → Holds files name bytes → length bytes ≤ taken + c
has_come None name taken c ahead ahead_after finished text within r is done bytes holds = absurd holds
has_come (Some files) name taken c ahead ahead_after finished (other, there, short) within r is done bytes holds =
    let none : c ≡ 0 = eqb-true c 0 (sym is ∙ done) in
    let most : length bytes ≤ 16777216 = short_by name bytes other _ holds there short in
    elim (cases_lt taken 16777216) [
      | inl more ↦ let all : length bytes ≤ taken = r.ends none more bytes holds in omega (arith, all)
      | inr full ↦ omega (arith, full, most)
    ]
