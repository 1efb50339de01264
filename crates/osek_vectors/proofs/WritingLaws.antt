-- How what is written grows, text by text.
use Rattle.std.proofs.{Common.{◌≡◌, ℕ, ◌+◌, ◌-◌, ◌<◌, ◌≤◌, suc, List, [], ◌++◌, refl, sym, ap, append_assoc, arith}, lemmas.List.{append-nil}}
use Rattle.osek_vectors.specs.Writing.{Written, Text, fixed, draw, onto, ◌⨾◌, each_from, drawn, with_draw}

-- `w` with another text, and a state behind it
rewritten : ℕ → List ℕ → Written
rewritten x text = record { text = text; state = x }

pub onto_then : (w : Written) (first second : Text) → onto w (first ⨾ second) ≡ onto (onto w first) second
unfolding onto ◌⨾◌ rewritten
onto_then w first second =
    let behind = first w.state in
    ap (rewritten (second behind.state).state) (sym (append_assoc w.text behind.text (second behind.state).text))

pub onto_draw : (choices : ℕ) (w : Written) (text : ℕ → Text) → onto w (draw choices text) ≡ onto (with_draw w) (text (drawn choices w))
unfolding onto draw drawn with_draw
onto_draw choices w text = refl

onto_nothing : (w : Written) → onto w (fixed []) ≡ w
unfolding onto fixed rewritten
onto_nothing w = ap (rewritten w.state) (append-nil w.text)

-- none of n texts is left
pub onto_each_none : (w : Written) (n i : ℕ) (text : ℕ → Text) → n ≤ i → onto w (each_from i (n - i) text) ≡ w
unfolding each_from
onto_each_none w n i text h =
    let none : n - i ≡ 0 = omega arith in
    rw none (onto_nothing w)

-- the first of the texts that are left
pub onto_each_next : (w : Written) (n i : ℕ) (text : ℕ → Text) → i < n → onto w (each_from i (n - i) text) ≡ onto (onto w (text i)) (each_from (i + 1) (n - (i + 1)) text)
unfolding each_from
onto_each_next w n i text h =
    let some : n - i ≡ suc (n - (i + 1)) = omega arith in
    rw some (onto_then w (text i) (each_from (i + 1) (n - (i + 1)) text))

-- pieces of a text, one behind the other, as a format writes them
pub pieces_in_turn : (a b c d e f g : List ℕ) → a ++ (b ++ (c ++ (d ++ (e ++ (f ++ g))))) ≡ a ++ b ++ c ++ d ++ e ++ f ++ g
pieces_in_turn a b c d e f g = simp append_assoc refl
