-- Texts that are written piece by piece, or prefixes of them.
use Rattle.std.proofs.Common.{◌≡◌, ℕ, List, ◌++◌, take, drop, sym, ◌∙◌, ap, subst, append_assoc, Ok, Err}
use Rattle.std.specs.{Prelude.{OnOk, OnErr}, declared.{option.Option.{Option}, result.Result.{Result}}}
use Rattle.osek_io.specs.{Counts.{Rose}, Pieces.{grown}, Stored.{WritesProperPrefix}, Sunk.{Sunk, Writes}, declared.storing.PutError.{PutError}}
use Rattle.osek_io.proofs.Turns.{grown-grown}
use Rattle.command_runs.specs.Telling.{TellsText, WritesPrefix}
use Rattle.std.proofs.lemmas.List.{take-append-drop}

pub prefix_of_proper : (old new : Option (List ℕ)) (text : List ℕ) → WritesProperPrefix old new text → WritesPrefix old new text
prefix_of_proper old new text p = (take p.0 text, drop p.0 text, sym (take-append-drop p.0 text), p.2)

-- a prefix of the first of two pieces is one of both
pub prefix_of_first : (old new : Option (List ℕ)) (a b : List ℕ) → WritesPrefix old new a → WritesPrefix old new (a ++ b)
prefix_of_first old new a b h = (h.0, h.1 ++ b, ap (λ (l : List ℕ). l ++ b) h.2 ∙ append_assoc h.0 h.1 b, h.3)

-- a prefix of the second, behind all of the first
pub prefix_behind : (old between new : Option (List ℕ)) (a b : List ℕ) → between ≡ grown old a → WritesPrefix between new b → WritesPrefix old new (a ++ b)
prefix_behind old between new a b e h =
    (a ++ h.0, h.1, ap (λ (l : List ℕ). a ++ l) h.2 ∙ sym (append_assoc a h.0 h.1), h.3 ∙ ap (λ (o : Option (List ℕ)). grown o h.0) e ∙ grown-grown old a h.0)

-- a text that was put, by the clauses of `put_all`
pub told_by : (p q : Sunk) (text : List ℕ) (r : Result (Unit {0}) PutError) → OnOk r (q.written ≡ grown p.written text) → OnOk r (q.faults ≡ p.faults) →
    OnErr r (WritesProperPrefix p.written q.written text) → OnErr r (Rose p.faults q.faults) → TellsText p q text r
told_by p q text (Ok done) all calm part rose = (calm, all)
told_by p q text (Err e) all calm part rose = (rose, prefix_of_proper p.written q.written text part)

-- a text of which not all was written, and so nothing of what is behind it
pub told_first : (p q : Sunk) (a b : List ℕ) (e : PutError) → TellsText p q a (Err e) → TellsText p q (a ++ b) (Err e)
told_first p q a b e (rose, part) = (rose, prefix_of_first p.written q.written a b part)

-- a text behind one that was written
pub told_behind : (p q r : Sunk) (a b : List ℕ) (x : Result (Unit {0}) PutError) → Writes p q a → TellsText q r b x → TellsText p r (a ++ b) x
told_behind p q r a b (Ok done) (n, w) (m, v) = (m ∙ n, v ∙ ap (λ (o : Option (List ℕ)). grown o b) w ∙ grown-grown p.written a b)
told_behind p q r a b (Err e) (n, w) (rose, part) = (subst (λ (k : ℕ). Rose k r.faults) n rose, prefix_behind p.written q.written r.written a b w part)
