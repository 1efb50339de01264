use Rattle.std.proofs.{Common.{ℕ, List, [], ◌≡◌, ◌+◌, ◌*◌, ◌<◌, get_or, sym, ap, subst, ◌∙◌, arith}, lemmas.List.{get_or_past}}
use Rattle.numbered_sets.specs.Slots.{none, number_in, UsedSlots, IsNumberOfSlot, IsUnused}
use Rattle.numbered_sets.proofs.ColumnLaws.{unused_at}
use Rattle.numbered_sets.proofs.slots.Slots.find_in.Goals as goal

pub returns-then-column-len-clause-none : goal.returns-then-column-len-clause-none
returns-then-column-len-clause-none c =
    let here = c.self.inside in
    let known : c.args.column < here.width = subst (λ (x : UsedSlots). c.args.column < x.width) (sym c.self.view_is) c.requires in
    let empty : get_or here.columns c.args.column [] ≡ [] = get_or_past here.columns c.args.column [] (omega (arith, c.if-column-len.true, c.len.ensures)) in
    let is : number_in here.columns c.args.column c.args.row ≡ none = ap (λ (numbers : List ℕ). get_or numbers c.args.row none) empty ∙ get_or_past [] c.args.row none (omega arith) in
    subst (λ (x : UsedSlots). IsUnused x.used (c.args.row * x.width + c.args.column)) c.self.view_is (unused_at here.width here.used.items here.columns c.args.column c.args.row c.self.invariant known is)

pub returns-then-number-clause-none : goal.returns-then-number-clause-none
returns-then-number-clause-none c =
    let here = c.self.inside in
    let known : c.args.column < here.width = subst (λ (x : UsedSlots). c.args.column < x.width) (sym c.self.view_is) c.requires in
    let is : number_in here.columns c.args.column c.args.row ≡ none =
    ap (λ (numbers : List ℕ). get_or numbers c.args.row none) (c.at.ensures.item []) ∙ sym c.at-number.ensures ∙ c.if-number.true in
    subst (λ (x : UsedSlots). IsUnused x.used (c.args.row * x.width + c.args.column)) c.self.view_is (unused_at here.width here.used.items here.columns c.args.column c.args.row c.self.invariant known is)

pub returns-clause-number : goal.returns-clause-number
returns-clause-number c =
    let here = c.self.inside in
    let known : c.args.column < here.width = subst (λ (x : UsedSlots). c.args.column < x.width) (sym c.self.view_is) c.requires in
    let there : number_in here.columns c.args.column c.args.row ≡ c.at-number.result = ap (λ (numbers : List ℕ). get_or numbers c.args.row none) (c.at.ensures.item []) ∙ sym c.at-number.ensures in
    let place = c.self.invariant.only c.args.column c.args.row known (λ e. c.if-number.false (sym there ∙ e)) in
    subst (λ (x : UsedSlots). IsNumberOfSlot x.used (c.args.row * x.width + c.args.column) c.at-number.result) c.self.view_is (subst (IsNumberOfSlot here.used.items (c.args.row * here.width + c.args.column)) there place)
