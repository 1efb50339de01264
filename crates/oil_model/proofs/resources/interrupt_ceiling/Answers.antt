use Rattle.std.proofs.Common.{◌≡◌, ℕ, List, ◌+◌, ◌≤◌, ◌∷◌, drop, max, true, false, ◌∙◌, sym, ap, subst, rules, arith}
use Rattle.std.specs.Prelude.{filter, if◌then◌else◌}
use Rattle.oil_tree.specs.declared.tree.Object.{Object}
use Rattle.oil_model.specs.{declared.objects.Category.TheVariants.{Two}, Objects.{is_isr, priority}, Systems.{names_resource, above_isrs}}
use Rattle.oil_model.proofs.{Clean.{at_passing}, Facts.{isr_priorities}, Repeats.{filter_yes, filter_not}}
use Rattle.oil_model.proofs.resources.interrupt_ceiling.Goals as goal
use Rattle.oil_model.proofs.resources.interrupt_ceiling.Goals.{then-is_isr+then-names_resource, then-is_isr+else-names_resource, else-is_isr}

pub narrow-requires : goal.narrow-requires
narrow-requires c = subst (λ (p : ℕ). p ≤ 255) (sym c.priority.ensures) (at_passing (λ (o : Object). priority o ≤ 255) (is_isr Two) c.args.objects.now c.loop-object.object-index c.object-item.result (isr_priorities c.args.objects.now c.requires) c.loop-object-test.true c.object-item.is (sym c.is_isr.ensures ∙ c.if-is_isr.true))

max_assoc : (a b c : ℕ) → max (max a b) c ≡ max a (max b c)
max_assoc a b c = omega arith

pub loop-object-preserved : goal.loop-object-preserved
loop-object-preserved c =
    let objects : List Object = c.args.objects.now in
    let x : Object = c.object-item.result in
    let rest : List Object = filter (is_isr Two) (drop (c.loop-object.object-index + 1) objects) in
    let names = λ (o : Object). names_resource c.args.name.now o in
    let others : ℕ = above_isrs (filter names rest) in
    let all = λ (os : List Object). max c.loop-object.highest (above_isrs (filter names os)) in
    elim c.if-is_isr.branch [
      | then-is_isr+then-names_resource w ↦
          let passes = filter_yes (is_isr Two) objects c.loop-object.object-index x c.loop-object-test.true c.object-item.is (sym c.is_isr.ensures ∙ w.if-is_isr.true) in
          let named : names x ≡ true = sym w.names_resource.ensures ∙ w.if-names_resource.true in
          let above : w.above_isr-level.result ≡ priority x + 1 = w.above_isr-level.ensures ∙ ap (λ (p : ℕ). p + 1) (w.narrow.ensures ∙ w.priority.ensures) in
          let higher : c.if-is_isr.highest ≡ max c.loop-object.highest w.above_isr-level.result = search rules in
          let t = (λ i. max (higher i) others) ∙ (λ i. max (max c.loop-object.highest (above i)) others) ∙ max_assoc c.loop-object.highest (priority x + 1) others in
          t ∙ sym (ap all passes ∙ (λ i. max c.loop-object.highest (above_isrs (if named i then x ∷ filter names rest else filter names rest)))) ∙ c.loop-object.invariant
      | then-is_isr+else-names_resource w ↦
          let passes = filter_yes (is_isr Two) objects c.loop-object.object-index x c.loop-object-test.true c.object-item.is (sym c.is_isr.ensures ∙ w.if-is_isr.true) in
          let named : names x ≡ false = sym w.names_resource.ensures ∙ w.if-names_resource.false in
          (λ i. max (w.highest-is i) others) ∙ sym (ap all passes ∙ (λ i. max c.loop-object.highest (above_isrs (if named i then x ∷ filter names rest else filter names rest)))) ∙ c.loop-object.invariant
      | else-is_isr w ↦
          let passes = filter_not (is_isr Two) objects c.loop-object.object-index x c.loop-object-test.true c.object-item.is (sym c.is_isr.ensures ∙ w.if-is_isr.false) in
          (λ i. max (w.highest-is i) others) ∙ sym (ap all passes) ∙ c.loop-object.invariant
    ]
