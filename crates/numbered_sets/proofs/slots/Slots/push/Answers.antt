use Rattle.std.proofs.Common.{ℕ, List, [], ◌∷◌, ◌++◌, ◌≡◌, ◌<◌, ◌/◌, ◌%◌, length, get_or, set, sym, ap₂, subst, ◌∙◌, arith}
use Rattle.numbered_sets.specs.Slots.{none, UsedSlots, IsUnused, AreNumbersBySlot}
use Rattle.numbered_sets.proofs.ColumnLaws.{numbers_stay, numbers_with}
use Rattle.numbered_sets.proofs.slots.Slots.push.Goals as goal

pub invariant_of-self-2 : goal.invariant_of-self-2
invariant_of-self-2 c =
    let here = c.self.inside in
    let used = here.used.items in
    let columns = c.widen.new.columns in
    let slot = c.args.slot in
    let column = slot % here.width in
    let row = slot / here.width in
    let unused : IsUnused used slot = subst (λ (x : UsedSlots). IsUnused x.used slot) (sym c.self.view_is) c.requires in
    let number : c.len-number.result ≡ length used = c.len-number.ensures ∙ here.used.ok.0 in
    let few : length used < none = omega (arith, c.if-number.false, number) in
    let before = numbers_stay here.width used here.columns columns c.in_ok-widen.ensures.same c.self.invariant in
    let put : c.put.new.self ≡ set (get_or columns column []) row (length used) = c.put.ensures ∙ ap₂ (λ (numbers : List ℕ) (n : ℕ). set numbers row n) (sym (c.at_mut.ensures.item [])) number in
    subst (λ (us : List ℕ). AreNumbersBySlot here.width us (set columns column c.put.new.self)) (sym c.in_ok-push.ensures.items)
    (subst (λ (numbers : List ℕ). AreNumbersBySlot here.width (used ++ slot ∷ []) (set columns column numbers)) (sym put) (numbers_with here.width used columns slot before unused few c.in_ok-widen.ensures.room))
