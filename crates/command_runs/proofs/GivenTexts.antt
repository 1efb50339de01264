-- Texts that are put one behind the other: what of them was written, and what is held back.
use Rattle.std.proofs.{Common.{◌≡◌, ℕ, List, [], ◌++◌, Option, Some, None, refl, sym, ◌∙◌, ap, subst, append_assoc}, lemmas.List.{append-nil}}
use Rattle.osek_io.specs.{Counts.{Rose}, Pieces.{grown}, Stored.{WritesProperPrefix}, Sunk.{Sunk, Writes}}
use Rattle.command_runs.specs.{Playing.{Given, given, Puts, PutsPrefix}, Telling.{Breaks, WritesPrefix}}
use Rattle.osek_io.proofs.Turns.{grown-grown}
use Rattle.command_runs.proofs.Prefixes.{prefix_of_proper, prefix_of_first, prefix_behind}

pub grown-nil : (old : Option (List ℕ)) → old ≡ grown old []
grown-nil None = refl
grown-nil (Some x) = ap (λ (l : List ℕ). Some l) (sym (append-nil x))

-- two texts, in the parts that were written and held back
parted : (held a b f h kept between : List ℕ) → held ++ a ≡ f ++ between → between ++ b ≡ h ++ kept → held ++ (a ++ b) ≡ (f ++ h) ++ kept
parted held a b f h kept between e k =
    sym (append_assoc held a b) ∙ ap (λ (xs : List ℕ). xs ++ b) e ∙ append_assoc f between b ∙ ap (λ (xs : List ℕ). f ++ xs) k ∙ sym (append_assoc f h kept)

pub puts_nothing : (p : Given) → Puts p p []
puts_nothing p = (refl, ([], append-nil p.held, grown-nil p.out.written))

pub puts_both : (p q r : Given) (a b : List ℕ) → Puts p q a → Puts q r b → Puts p r (a ++ b)
puts_both p q r a b (n, (f, e, w)) (o, (h, k, v)) =
    (o ∙ n, (f ++ h, parted p.held a b f h r.held q.held e k, v ∙ ap (λ (x : Option (List ℕ)). grown x h) w ∙ grown-grown p.out.written f h))

-- a prefix of the first of two texts is one of both
pub puts_prefix_of_first : (p q : Given) (a b : List ℕ) → PutsPrefix p q a → PutsPrefix p q (a ++ b)
puts_prefix_of_first p q a b ((rose, (prefix, back, e, w)), none) =
    ((rose, (prefix, back ++ b, sym (append_assoc p.held a b) ∙ ap (λ (xs : List ℕ). xs ++ b) e ∙ append_assoc prefix back b, w)), none)

-- a prefix of the second, behind all of the first
pub puts_prefix_behind : (p q r : Given) (a b : List ℕ) → Puts p q a → PutsPrefix q r b → PutsPrefix p r (a ++ b)
puts_prefix_behind p q r a b (n, (f, e, w)) ((rose, (prefix, back, k, v)), none) = (
  (subst (λ (m : ℕ). Rose m r.out.faults) n rose, (f ++ prefix, back, parted p.held a b f prefix back q.held e k, v ∙ ap (λ (x : Option (List ℕ)). grown x prefix) w ∙ grown-grown p.out.written f prefix)),
  none,
)

-- what was held back was written
pub puts_held : (p q : Given) → q.out.faults ≡ p.out.faults → q.out.written ≡ grown p.out.written p.held → q.held ≡ [] → Puts p q []
puts_held p q n w none = (n, (p.held, ap (λ (xs : List ℕ). p.held ++ xs) (sym none), w))

pub prefix_of_held : (p q : Given) → Rose p.out.faults q.out.faults → WritesProperPrefix p.out.written q.out.written p.held → q.held ≡ [] → PutsPrefix p q []
prefix_of_held p q rose part none = ((rose, prefix_of_first p.out.written q.out.written p.held [] (prefix_of_proper p.out.written q.out.written p.held part)), none)

-- what was held back was written, and a text behind it
pub puts_past : (p q : Given) (mid : Sunk) (text : List ℕ) → Writes p.out mid p.held → Writes mid q.out text → q.held ≡ [] → Puts p q text
puts_past p q mid text (n, m) (o, w) none = (
  o ∙ n,
  (
    p.held ++ text,
    sym (ap (λ (xs : List ℕ). (p.held ++ text) ++ xs) none ∙ append-nil (p.held ++ text)),
    w ∙ ap (λ (x : Option (List ℕ)). grown x text) m ∙ grown-grown p.out.written p.held text,
  ),
)

pub prefix_past : (p q : Given) (mid : Sunk) (text : List ℕ) → Writes p.out mid p.held → Breaks mid q.out text → q.held ≡ [] → PutsPrefix p q text
prefix_past p q mid text (n, m) (rose, prefix) none = ((subst (λ (k : ℕ). Rose k q.out.faults) n rose, prefix_behind p.out.written mid.written q.out.written p.held text m prefix), none)

-- a text was put where nothing was held back, and then what was held back of it was written
pub puts_flushed : (first : Sunk) (mid : Given) (last : Sunk) (text : List ℕ) → Puts (given first []) mid text → Writes mid.out last mid.held → Writes first last text
puts_flushed first mid last text (n, (f, parts, w)) (o, e) =
    (o ∙ n, e ∙ ap (λ (x : Option (List ℕ)). grown x mid.held) w ∙ grown-grown first.written f mid.held ∙ ap (grown first.written) (sym parts))

-- or a prefix of what was held back
pub flush_breaks : (first : Sunk) (mid : Given) (last : Sunk) (text : List ℕ) → Puts (given first []) mid text → Rose mid.out.faults last.faults → WritesProperPrefix mid.out.written last.written mid.held → Breaks first last text
flush_breaks first mid last text (n, (f, parts, w)) rose part = (
  subst (λ (m : ℕ). Rose m last.faults) n rose,
  subst (WritesPrefix first.written last.written) (sym parts) (prefix_behind first.written mid.out.written last.written f mid.held w (prefix_of_proper mid.out.written last.written mid.held part)),
)
