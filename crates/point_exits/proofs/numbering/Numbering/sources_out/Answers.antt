use Rattle.std.proofs.Common.{◌≡◌, ℕ, ◌+◌, ◌-◌, Bool, not, List, [], ◌∷◌, length, sym, ap, subst, ◌∙◌, arith}
use Rattle.std.proofs.lemmas.{Bool.{OnTrue_at}, List.{length-append}}
use Rattle.osek_values.specs.Numbers.{source_no}
use Rattle.abstract_state.specs.Components.{component_number}
use Rattle.abstract_state.specs.declared.value.PartValue.TheVariants.{OfSource}
use Rattle.abstract_state.specs.declared.value.Component.TheVariants as component
use Rattle.abstract_state.specs.declared.value.SourceVal.TheVariants as source_val
use Rattle.numbered_sets.specs.Views.{plain_entry}
use Rattle.flow_effects.specs.Outs.{AreOutIn}
use Rattle.flow_exits.proofs.SourceNumbers.{number_behind}
use Rattle.point_exits.proofs.{EntryCounts.{numbers_counted, pool_counted}, OutLaws.{none_out, out_if, out_alone, out_more, sources_last}}
use Rattle.point_exits.proofs.numbering.Numbering.sources_out.Goals as goal

pub overflow_sub-first : goal.overflow_sub-first
overflow_sub-first c =
    let app = c.args.self.now.app.now in
    omega (arith, c.len.ensures, c.len-2.ensures, c.len-3.ensures, numbers_counted app c.args.before.now (c.requires.numbers.domains ∙ c.args.self.now.domains), sources_last app)

pub invariant_of-values : goal.invariant_of-values
invariant_of-values c =
    let app = c.args.self.now.app.now in
    let pool = pool_counted app c.args.self.now.pool c.args.self.now.domains in
    let sets = numbers_counted app c.args.before.now (c.requires.numbers.domains ∙ c.args.self.now.domains) in
    record { few = omega (arith, pool, sets) }

pub may_pass_alone-may_be_in-requires : goal.may_pass_alone-may_be_in-requires
may_pass_alone-may_be_in-requires c =
    let app = c.args.self.now.app.now in
    let sets = numbers_counted app c.args.before.now (c.requires.numbers.domains ∙ c.args.self.now.domains) in
    omega (arith, c.len.ensures, c.len-2.ensures, c.len-3.ensures, c.loop-source-test.true, sets, sources_last app)

pub loop-source-init : goal.loop-source-init
loop-source-init c =
    let app = c.args.self.now.app.now in
    let plain = plain_entry c.args.self.now.pool c.args.before.now in
    let none : c.of-outs.result ≡ [] = c.of-outs.ensures ∙ c.in_ok-with_capacity.ensures.items in
    record { size = ap (λ (xs : List Bool). length xs) none; out = subst (λ (xs : List Bool). AreOutIn app xs plain) (sym none) (none_out app plain) }

pub loop-source-preserved : goal.loop-source-preserved
loop-source-preserved c =
    let app = c.args.self.now.app.now in
    let pool = c.args.self.now.pool in
    let entry = c.args.before.now in
    let plain = plain_entry pool entry in
    let k = c.loop-source.source in
    let outs = c.loop-source.outs in
    let may_be_in = c.may_pass_alone-may_be_in.result in
    let is_out = not may_be_in in
    let sets = numbers_counted app entry (c.requires.numbers.domains ∙ c.args.self.now.domains) in
    let last = sources_last app in
    let behind = number_behind app k in
    let z : ℕ = c.len-3.result - (c.len.result + c.len-2.result) + k in
    let place : z ≡ component_number app (component.Source (source_no k)) = omega (arith, c.len.ensures, c.len-2.ensures, c.len-3.ensures, sets, last, behind) in
    record {
      size = (let long = ap (λ (xs : List Bool). length xs) c.in_ok-push.ensures.ok ∙ length-append outs (is_out ∷ []) in omega (arith, long, c.loop-source.invariant.size));
      out = subst (λ (xs : List Bool). AreOutIn app xs plain) (sym c.in_ok-push.ensures.ok)
          (out_more app plain outs k is_out c.loop-source.invariant.size c.loop-source.invariant.out (λ e value within.
          subst (λ (n : ℕ). value n ≡ OfSource source_val.Out) place (out_alone app pool entry (c.requires.numbers.domains ∙ c.args.self.now.domains) z (OnTrue_at e (out_if pool z entry may_be_in c.may_pass_alone-may_be_in.ensures)) value within)));
    }
