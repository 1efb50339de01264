use Rattle.std.proofs.Common.{◌≡◌, ℕ, Bool, ◌+◌, ◌-◌, ◌≤◌, List, length, drop, take, ap, sym, subst, ◌∙◌, false, arith}
use Rattle.std.specs.{Prelude.{slice_index_or}, List.{list_any}}
use Rattle.std.proofs.lemmas.List.{take_all, length-drop}
use Rattle.flow_model.specs.declared.change.Change.{Change}
use Rattle.point_exits.specs.Changing.{names, is_named, IsAlone}
use Rattle.point_exits.proofs.ChangedSets.{alone_there, none_behind}
use Rattle.point_exits.proofs.changes.PlacedChange.alone.Goals as goal

-- what follows a place is all that is left of the list there, however long that is said to be
rest_of : (p : Change → Bool) (xs ys : List Change) (k n m : ℕ) → ys ≡ xs → n ≡ length xs → length (take (n - k) (drop k ys)) ≤ m → list_any p (drop k xs) ≡ list_any p (take m (take (n - k) (drop k ys)))
rest_of p xs ys k n m same long le =
    let left : length (drop k ys) ≤ n - k = omega (arith, length-drop k ys, ap length same) in
    ap (list_any p) (ap (drop k) (sym same) ∙ sym (take_all (n - k) (drop k ys) left) ∙ sym (take_all m (take (n - k) (drop k ys)) le))

-- the change at the place names the component
named_there : (xs : List Change) (k : ℕ) (x : Change) → ((d : Change) → slice_index_or xs k d ≡ x) → (y : Change) → slice_index_or xs k y ≡ y → y.component.0 ≡ x.component.0
named_there xs k x there y at = ap (λ (z : Change). z.component.0) (sym at ∙ there y)

pub returns-then-self : goal.returns-then-self
returns-then-self c =
    let x = c.args.self.now in
    let xs = x.changes.now in
    let named = named_there xs x.place x.change.now x.there in
    let rest = none_behind xs x.place x.change.now.component.0 x.known (x.order c.if-self.true) named in
    record {
      known = x.known;
      becomes = λ y v at. alone_there xs x.place y x.known at x.change.now.component.0 v (named y at) c.requires rest;
    }

pub returns : goal.returns
returns c =
    let x = c.args.self.now in
    let xs = x.changes.now in
    let k = x.place in
    let component = c.index-component.result in
    let index : component ≡ x.change.now.component.0 = c.index-component.ensures in
    let first : is_named xs k component ≡ false = subst (λ (j : ℕ). is_named xs k j ≡ false) (sym index) c.requires in
    let after : list_any (names component) (drop (k + 1) xs) ≡ false =
    rest_of (names component) xs c.as_slice.result.now (k + 1) c.len-count.result _ c.as_slice.ensures c.len-count.ensures (omega arith) ∙ sym c.is_named.ensures ∙ c.if-is_named.false in
    let alone : IsAlone xs component k = record {
      known = x.known;
      becomes = λ y v at. alone_there xs k y x.known at component v (named_there xs k x.change.now x.there y at ∙ sym index) first after;
    } in
    subst (λ (j : ℕ). IsAlone xs j k) index alone
