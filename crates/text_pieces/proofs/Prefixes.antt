-- A prefix of what was put.
use Rattle.std.proofs.{Common.{◌≡◌, ℕ, ◌+◌, ◌≤◌, List, ◌++◌, length, take, sym, ◌∙◌, ap, arith}, Math.Seq.{take-append-add}, lemmas.List.{length-take-le, take-take}}

-- a prefix of a piece stands where the piece was put
pub prefix_put : (at n : ℕ) (old new piece : List ℕ) → at ≤ length old → n ≤ length piece → take (at + length piece) new ≡ take at old ++ piece → take (at + n) new ≡ take at old ++ take n piece
prefix_put at n old new piece within few is =
    sym (take-take (at + n) (at + length piece) new (omega (arith, few))) ∙ ap (take (at + n)) is
    ∙ ap (λ (m : ℕ). take (m + n) (take at old ++ piece)) (sym (length-take-le at old within)) ∙ take-append-add (take at old) piece n
