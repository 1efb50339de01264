use Rattle.std.proofs.{Common.{◌≡◌, ◌∙◌, ◌<◌, List, length, set, sym, ap, subst, arith}, lemmas.{List.{length_push, length-set}, Result.{err_from_is_err_and}}}
use Rattle.osek_values.proofs.Refusals.{refuses_map}
use Rattle.abstract_state.specs.{declared.{value.Component.{Component}, table.ValueSet.{ValueSet}}, Components.{component_at, component_count, IsComponent}, Tables.{set_at}}
use Rattle.abstract_state.proofs.ComponentLaws.{component_known}
use Rattle.table_codec.specs.{Faults.{IsSetFault}, Kept.{sets_or, set_or, IsKept}, Sets.{IsReadSet}}
use Rattle.table_codec.proofs.{KeptSets.{AreKeptSoFar, kept_begun, kept_here, kept_next, kept_all, read_next, set_fault, whole_entry}, ReadSoFar.{AreSetsSoFar, component_there, no_sets}}
use Rattle.table_codec.proofs.entries.entry.Goals as goal

pub loop-component-init : goal.loop-component-init
loop-component-init c =
    let app = c.args.app.now in
    let none = c.of-sets.ensures ∙ c.in_ok-room.ensures.items in
    record {
      size = ap (λ (xs : List ValueSet). length xs) none;
      many = c.requires.many;
      read = λ before h. subst (λ (xs : List ValueSet). AreSetsSoFar app c.args.point c.args.reader.now (sets_or before 0 xs) c.args.reader.now) (sym none) (no_sets app c.args.point c.args.reader.now);
      kept = λ before h. subst (λ (xs : List ValueSet). AreKeptSoFar app before xs c.args.kept.now) (sym none) (kept_begun app before c.args.kept.now h);
    }

pub at_mut-spelled-requires : goal.at_mut-spelled-requires
at_mut-spelled-requires c = omega (arith, c.loop-component-test.true, c.len-component-end.ensures, ap (λ (ks : List Component). length ks) c.requires.components, c.loop-component.invariant.many)

pub next_set-requires : goal.next_set-requires
next_set-requires c =
    let known : c.loop-component.component < component_count c.args.app.now = omega (arith, c.loop-component-test.true, c.len-component-end.ensures, ap (λ (ks : List Component). length ks) c.requires.components) in
    subst (IsComponent c.args.app.now) (component_there c.args.app.now c.args.components.now c.loop-component.component c.at.result.now c.requires.components c.at.ensures.item) (component_known c.args.app.now c.loop-component.component known)

pub loop-component-preserved : goal.loop-component-preserved
loop-component-preserved c =
    let app = c.args.app.now in
    let n = c.loop-component.component in
    let sets = c.loop-component.sets in
    let kept = c.loop-component.kept in
    let old = c.at_mut-spelled.result.now in
    let next = c.in_ok-next.next in
    let now = c.next_set.new.kept in
    let size = c.loop-component.invariant.size in
    let more = c.in_ok-push.ensures.ok in
    let few : n < component_count app = omega (arith, c.loop-component-test.true, c.len-component-end.ensures, ap (λ (ks : List Component). length ks) c.requires.components) in
    let here : n < length kept = omega (arith, few, c.loop-component.invariant.many) in
    let there : component_at app n ≡ c.at.result.now = component_there app c.args.components.now n c.at.result.now c.requires.components c.at.ensures.item in
    record {
      size = omega (arith, ap (λ (xs : List ValueSet). length xs) more, length_push sets next, size);
      many = length-set kept n now ∙ c.loop-component.invariant.many;
      read = λ before h.
          let was = subst (λ (k : Component). IsKept app k (set_at before n) old) there
          (subst (IsKept app (component_at app n) (set_at before n)) (c.at_mut-spelled.ensures.item old) (kept_here app before sets kept n size here (c.loop-component.invariant.kept before h) old)) in
          let read = subst (λ (k : Component). IsReadSet app c.args.point k c.loop-component.reader c.next_set.new.reader (set_or (set_at before n) next)) (sym there) (c.in_ok-next.ensures.ok (set_at before n) was) in
          subst (λ (xs : List ValueSet). AreSetsSoFar app c.args.point c.args.reader.now (sets_or before 0 xs) c.next_set.new.reader) (sym more)
          (read_next app before c.args.point c.args.reader.now sets c.loop-component.reader c.next_set.new.reader n next size few (c.loop-component.invariant.read before h) read);
      kept = λ before h.
          let was = subst (λ (k : Component). IsKept app k (set_at before n) old) there
          (subst (IsKept app (component_at app n) (set_at before n)) (c.at_mut-spelled.ensures.item old) (kept_here app before sets kept n size here (c.loop-component.invariant.kept before h) old)) in
          let is = subst (λ (k : Component). IsKept app k (set_or (set_at before n) next) now) (sym there) (c.in_ok-next.ensures.kept (set_at before n) was) in
          subst (λ (xs : List ValueSet). AreKeptSoFar app before xs (set kept n now)) (sym more) (kept_next app before sets kept n size here (c.loop-component.invariant.kept before h) next now is);
    }

pub returns-in_err-next-clause-err : goal.returns-in_err-next-clause-err
returns-in_err-next-clause-err c =
    let p = err_from_is_err_and c.from_residual-in_err-next.result c.from_residual-in_err-next.ensures.1 in
    let app = c.args.app.now in
    let n = c.loop-component.component in
    let few : n < component_count app = omega (arith, c.loop-component-test.true, c.len-component-end.ensures, ap (λ (ks : List Component). length ks) c.requires.components) in
    let there : component_at app n ≡ c.at.result.now = component_there app c.args.components.now n c.at.result.now c.requires.components c.at.ensures.item in
    let before = c.requires.kept.entry in
    rw (p.1, p.2) (refuses_map c.in_err-next.field-0.0 _ _
    (λ f bad.
    set_fault app before c.args.point c.args.reader.now c.loop-component.sets c.loop-component.reader n f c.loop-component.invariant.size few (c.loop-component.invariant.read before c.requires.kept.are)
    (subst (λ (k : Component). IsSetFault app c.args.point k c.loop-component.reader f) (sym there) bad))
    c.in_err-next.ensures.err)

pub returns-clause-many : goal.returns-clause-many
returns-clause-many c = c.loop-component.invariant.many ∙ sym c.requires.many

pub returns-clause-ok : goal.returns-clause-ok
returns-clause-ok c = λ before h.
    (let app = c.args.app.now in
    let all : length c.loop-component.sets ≡ component_count app
    = omega (arith, c.loop-component-test.false, c.loop-component.auto.component-end, c.len-component-end.ensures, ap (λ (ks : List Component). length ks) c.requires.components, c.loop-component.invariant.size) in
    whole_entry app before c.args.point c.args.reader.now c.loop-component.sets c.loop-component.reader all (c.loop-component.invariant.read before h))

pub returns-clause-kept : goal.returns-clause-kept
returns-clause-kept c = λ before h.
    (let app = c.args.app.now in
    let all : length c.loop-component.sets ≡ length c.loop-component.kept
    = omega (arith, c.loop-component-test.false, c.loop-component.auto.component-end, c.len-component-end.ensures, ap (λ (ks : List Component). length ks) c.requires.components, c.loop-component.invariant.size, c.loop-component.invariant.many) in
    kept_all app before c.loop-component.sets c.loop-component.kept all (c.loop-component.invariant.kept before h))
