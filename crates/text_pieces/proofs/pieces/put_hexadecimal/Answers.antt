use Rattle.std.proofs.{Common.{◌≡◌, ℕ, false, List, [], ◌∷◌, ◌<◌, ◌+◌, ◌-◌, ◌/◌, ◌%◌, ◌^◌, refl, sym, ◌∙◌, ap, subst, arith, ◌++◌, take, length}, Math.ListN.{length-set}}
use Rattle.std.proofs.{Math.Seq.{take-set-lt}, lemmas.List.{length-take-le}}
use Rattle.std.specs.Fmt.{digits, digit_glyph}
use Rattle.osek_values.specs.Numbers.{hexadecimal}
use Rattle.text_pieces.proofs.HexadecimalLaws.{digit_first, fewer, turn, written_front, some_place}
use Rattle.text_pieces.proofs.pieces.put_hexadecimal.Goals as goal

one_digit : (n : ℕ) → n < 16 → digit_glyph false n ∷ [] ≡ hexadecimal n
unfolding digits
one_digit n few = sym (digit_first 63 n [] few)

pub returns-then-n-lt16-clause-text : goal.returns-then-n-lt16-clause-text
returns-then-n-lt16-clause-text c =
    let before : List ℕ = take c.args.at c.args.buf.now in
    c.put_byte.ensures.text ∙ ap (λ (d : ℕ). before ++ d ∷ []) c.hexadecimal_digit.ensures ∙ ap (λ (t : List ℕ). before ++ t) (one_digit c.args.n c.if-n-lt16.true)

pub loop-left-init : goal.loop-left-init
unfolding digits
loop-left-init c = record { few = omega arith; size = refl; small = c.ranges.n.fits; text = refl }

pub loop-left-preserved : goal.loop-left-preserved
loop-left-preserved c =
    let i = c.loop-left.first in
    let n = c.loop-left.left in
    let inv = c.loop-left.invariant in
    let few : i < 16 = inv.few in
    let some = some_place n i c.loop-left-test.true inv.small in
    let all : length (take 16 c.loop-left.digits) ≡ 16 = length-take-le 16 c.loop-left.digits (omega (arith, inv.size)) in
    let within : i < length (take 16 c.loop-left.digits) = omega (arith, all, few) in
    let place : i - 1 + 1 ≡ i = omega (arith, some) in
    record {
      few = omega (arith, few);
      size = length-set c.loop-left.digits i c.hexadecimal_digit-in-loop-left.result ∙ inv.size;
      small = subst (λ m. n / 16 < 16 ^ m) (sym place) (fewer n i inv.small);
      text = rw c.hexadecimal_digit-in-loop-left.ensures (turn (take 16 c.loop-left.digits) _ i n (hexadecimal c.args.n) c.loop-left-test.true some within (take-set-lt 16 c.loop-left.digits i (digit_glyph false (n % 16)) few) inv.text);
    }

pub returns-clause-text : goal.returns-clause-text
returns-clause-text c =
    let inv = c.loop-left.invariant in
    c.put_prefix.ensures.text ∙ ap (λ t. take c.args.at c.args.buf.now ++ t)
    (written_front c.loop-left.digits c.loop-left.first c.loop-left.left c.hexadecimal_digit-2.result _ (hexadecimal c.args.n) c.loop-left-test.false inv.few (omega (arith, inv.size)) (omega arith) c.hexadecimal_digit-2.ensures inv.text)
