use Rattle.std.proofs.Common.{◌≡◌, ℕ, ◌+◌, ◌-◌, ◌<◌, ◌≤◌, ◌^◌, nat_lt, length, Bool, true, false, refl, sym, ap, ◌∙◌, arith}
use mir.Val.{bool_byte}
use Rattle.std.specs.Prelude.{if◌then◌else◌}
use Rattle.std.proofs.Math.Nat.{pow-le-pow_right}
use Rattle.oil_system.specs.declared.objects.Resource.{Resource}
use Rattle.osek_standard.specs.{Apps.{no_resource}, Levels.{interrupt_ceiling}}
use Rattle.abstract_state.specs.Concrete.{bits_number}
use Rattle.abstract_state.proofs.BitLaws.{number_few, number_below}
use Rattle.flow_exits.proofs.beginning.ceilings_above.Goals as goal

byte_is : (b : Bool) → bool_byte b ≡ (if b then 1 else 0)
byte_is true = refl
byte_is false = refl

byte_few : (b : Bool) → bool_byte b ≤ 1
byte_few true = omega arith
byte_few false = omega arith

few : (f : ℕ → Bool) (w : ℕ) → w ≤ 8 → bits_number f w < 256
few f w le = let wide : 2 ^ w ≤ 2 ^ 8 = pow-le-pow_right (omega arith) le in omega (arith, number_few f w, wide)

bits_few : (c : goal.After-from) → c.loop-resource.bits < 256
bits_few c =
    let n = length c.args.app.now.resources in
    let r = c.loop-resource.resource in
    let most = c.args.app.now.valid.few_resources in
    omega (arith, c.loop-resource.invariant.1, few (λ k. nat_lt c.args.priority (interrupt_ceiling c.args.app.now (r + k))) (n - r) (omega (arith, most)))

pub overflow_mul-bits : goal.overflow_mul-bits
overflow_mul-bits c =
    let n = length c.args.app.now.resources in
    let r = c.loop-resource.resource in
    let most = c.args.app.now.valid.few_resources in
    omega (arith, c.loop-resource.invariant.1, few (λ k. nat_lt c.args.priority (interrupt_ceiling c.args.app.now (r + k))) (n - r) (omega (arith, most)))

pub overflow_add-bits : goal.overflow_add-bits
overflow_add-bits c = omega (arith, bits_few c, c.from.ensures, byte_few (nat_lt c.args.priority c.at.result.now.interrupt_ceiling))

pub loop-resource-preserved : goal.loop-resource-preserved
loop-resource-preserved c = (
  omega (arith, c.loop-resource.invariant.0),
  number_below (λ k. nat_lt c.args.priority (interrupt_ceiling c.args.app.now k)) c.loop-resource.resource (length c.args.app.now.resources) c.loop-resource.bits c.from.result (omega (arith, c.loop-resource-test.true)) c.loop-resource.invariant.0 c.loop-resource.invariant.1
      (c.from.ensures ∙ byte_is (nat_lt c.args.priority c.at.result.now.interrupt_ceiling) ∙ ap (λ (x : Resource). if nat_lt c.args.priority x.interrupt_ceiling then 1 else 0) (sym (c.at.ensures.item no_resource))),
)
