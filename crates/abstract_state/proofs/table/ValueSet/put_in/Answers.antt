use Rattle.std.proofs.Common.{◌≡◌, ◌∙◌, ◌-◌, [], ◌∷◌, ◌++◌, ℕ, List, length, slice_set, refl, sym, ap, subst, arith}
use Rattle.std.specs.List.{insert}
use Rattle.std.proofs.lemmas.List.{length-set, length_push}
use Rattle.abstract_state.specs.declared.value.PartValue.{PartValue}
use Rattle.abstract_state.proofs.JoinLaws.{pushed, moved_on}
use Rattle.abstract_state.proofs.table.ValueSet.put_in.Goals as goal

pub loop-free-init : goal.loop-free-init
loop-free-init c =
    let members = c.args.self.now.members in
    let whole : c.push.new.self ≡ members ++ c.args.value ∷ [] = c.in_ok-push.ensures.ok ∙ ap (λ (v : PartValue). members ++ v ∷ []) c.copy.ensures in
    let last : c.len-free.result - 1 ≡ length members = omega (arith, c.len-free.ensures, ap length whole, length_push members c.args.value) in (
      omega (arith, last, c.requires),
      omega (arith, last),
      ap length whole ∙ length_push members c.args.value,
      subst (λ (n : ℕ). slice_set c.push.new.self n c.args.value ≡ insert members n c.args.value) (sym last)
          (ap (λ (ms : List PartValue). slice_set ms (length members) c.args.value) whole ∙ pushed members c.args.value),
      refl,
    )

pub loop-free-preserved : goal.loop-free-preserved
loop-free-preserved c =
    let item = c.put.ensures ∙ ap (slice_set c.loop-free.self.members c.loop-free.free) c.copy-member.ensures in (
      omega (arith, c.loop-free-test.true),
      omega (arith, c.loop-free.invariant.1),
      ap length item ∙ length-set c.loop-free.self.members c.loop-free.free c.at.result.now ∙ c.loop-free.invariant.2,
      ap (λ (ms : List PartValue). slice_set ms (c.loop-free.free - 1) c.args.value) item
          ∙ moved_on c.loop-free.self.members c.args.self.now.members c.loop-free.free c.args.value c.at.result.now
          (omega (arith, c.loop-free-test.true)) c.loop-free.invariant.1 c.at.ensures.item c.loop-free.invariant.3,
      c.loop-free.invariant.4,
    )
