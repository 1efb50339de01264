-- The events of a mask, or-ed from the first on.
use Rattle.std.proofs.Common.{◌≡◌, ℕ, ◌+◌, ◌<◌, ◌≤◌, max, List, ◌∷◌, length, get_or, drop, add-one, drop-cons, length-drop, sym, ap, ◌∙◌, arith}
use Rattle.std.specs.{Prelude.{bit_or}, Int.{bit_at}}
use Rattle.std.proofs.lemmas.{List.{nil_from_length}, Nat.Bits.{bit_at_or, same_from_bits}}
use lib.Bits.{or_zero_r}
use Rattle.oil_system.specs.declared.system.System.{System}
use Rattle.task_code.specs.declared.call.Reference.{Reference}
use Rattle.block_graph.specs.Blocks.{event_bits, mask_bits}

max_assoc : (x y z : ℕ) → max (max x y) z ≡ max x (max y z)
max_assoc x y z = omega arith

pub or_assoc : (a b c : ℕ) → bit_or (bit_or a b) c ≡ bit_or a (bit_or b c)
or_assoc a b c = same_from_bits (bit_or (bit_or a b) c) (bit_or a (bit_or b c)) (λ i.
    bit_at_or (bit_or a b) c i
    ∙ ap (λ (n : ℕ). max n (bit_at c i)) (bit_at_or a b i)
    ∙ max_assoc (bit_at a i) (bit_at b i) (bit_at c i)
    ∙ ap (λ (n : ℕ). max (bit_at a i) n) (sym (bit_at_or b c i))
    ∙ sym (bit_at_or a (bit_or b c) i))

module _ (s : System) (events : List Reference) (n bits : ℕ) where
  -- one event more
  pub mask_here : (event : Reference) → n < length events → get_or events n event ≡ event → bit_or bits (mask_bits s (drop n events)) ≡ bit_or (bit_or bits (event_bits s event)) (mask_bits s (drop (n + 1) events))
  mask_here event lt item =
      let front : drop n events ≡ get_or events n event ∷ drop (n + 1) events = rw add-one (drop-cons events n event lt) in
      ap (λ (es : List Reference). bit_or bits (mask_bits s es)) front
      ∙ ap (λ (e : Reference). bit_or bits (bit_or (event_bits s e) (mask_bits s (drop (n + 1) events)))) item
      ∙ sym (or_assoc bits (event_bits s event) (mask_bits s (drop (n + 1) events)))

  -- behind the last
  pub mask_past : length events ≤ n → bit_or bits (mask_bits s (drop n events)) ≡ bits
  mask_past le =
      ap (λ (es : List Reference). bit_or bits (mask_bits s es)) (nil_from_length (drop n events) (omega (arith, length-drop n events)))
      ∙ or_zero_r bits
