use Rattle.std.proofs.Common.{ℕ, ◌+◌, List, [], ◌∷◌, ◌++◌, map, drop, ◌||◌, ◌∙◌, sym, ap}
use Rattle.std.specs.{Prelude.{Option}, List.{list_any}, Str.{bytes_eq}}
use Rattle.oil_tree.specs.declared.tree.Object.{Object}
use Rattle.oil_model.specs.{NameSets.{has_name}, Objects.{is_kind, is_called, objects_of, object_line}, Lines.{sooner, least}, Rules.{repeated, has_same_name, repeated_names}}
use Rattle.oil_model.proofs.Repeats.{filter_yes, filter_not, repeated_step, any_push, not_not}
use Rattle.oil_model.proofs.object_rules.repeated_name_of.Goals as goal
use Rattle.oil_model.proofs.object_rules.repeated_name_of.Goals.{then-is_kind+in_ok-new, else-is_kind}

pub loop-object-preserved : goal.loop-object-preserved
loop-object-preserved c =
    let kind : List ℕ = c.args.kind.now in
    let objects : List Object = c.args.objects.now in
    let x : Object = c.object-item.result in
    let before : List Object = c.loop-object.invariant.0 in
    let rest : List Object = objects_of kind (drop (c.loop-object.object-index + 1) objects) in
    elim c.if-is_kind.branch [
      | then-is_kind+in_ok-new w ↦
          let is_x = w.as_bytes.ensures.bytes in
          let passes = filter_yes (is_kind kind) objects c.loop-object.object-index x c.loop-object-test.true c.object-item.is (sym c.is_kind.ensures ∙ w.if-is_kind.true) in
          let seen = not_not _ _ w.in_ok-new.ensures.new ∙ c.loop-object.invariant.1 w.as_bytes.result.now ∙ ap (λ (n : List ℕ). list_any (is_called n) before) is_x in
          let best = w.best-is ∙ w.sooner-best.ensures ∙ ap (sooner c.loop-object.best) w.line_if.ensures in (
            before ++ x ∷ [],
            (λ n. ap (λ s. has_name s n) w.seen-is ∙ w.in_ok-new.ensures.added n ∙ (λ i. bytes_eq (is_x i) n || c.loop-object.invariant.1 n i) ∙ any_push (is_called n) before x),
            ap (λ (b : Option ℕ). sooner b (least (map object_line (repeated has_same_name (before ++ x ∷ []) rest)))) best
                ∙ repeated_step object_line has_same_name before rest x w.in_ok-new.new c.loop-object.best (least (repeated_names kind objects)) seen
                (ap (λ (os : List Object). sooner c.loop-object.best (least (map object_line (repeated has_same_name before os)))) (sym passes) ∙ c.loop-object.invariant.2),
          )
      | else-is_kind w ↦
          let passes = filter_not (is_kind kind) objects c.loop-object.object-index x c.loop-object-test.true c.object-item.is (sym c.is_kind.ensures ∙ w.if-is_kind.false) in (
            before,
            (λ n. ap (λ s. has_name s n) w.seen-is ∙ c.loop-object.invariant.1 n),
            (λ i. sooner (w.best-is i) (least (map object_line (repeated has_same_name before (sym passes i))))) ∙ c.loop-object.invariant.2,
          )
    ]
