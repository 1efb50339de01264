-- The rows of a block stand together, from the first that doesn't come before the block's points.
use Rattle.std.proofs.Common.{◌≡◌, ◌⊎◌, ℕ, ◌<◌, ◌≤◌, true, false, List, length, get_or, IsTrue, refl, sym, ap, subst, ◌∙◌, inl, inr, arith}
use Rattle.std.specs.{Prelude.{Contains}, List.Sorted.{IsPartitionedBy}}
use Rattle.std.proofs.lemmas.{Bool.{cases_lt, cases_eq, cases_order, cases_Bool, lt-ltb, ltb-true, ltb-false}, List.Elements.{Contains-get_or}}
use Rattle.osek_values.specs.{Numbers.{block_no, source_no}, declared.numbers.{BlockNo.{BlockNo}, ResNo.{ResNo}}}
use Rattle.osek_standard.specs.{declared.{app.App.{App}, point.Point.{Point}, state.State.{State}}, Points.{point_number, point_of, IsPoint, StandsAt}}
use Rattle.osek_standard.specs.declared.point.Point.TheVariants as point
use Rattle.osek_standard.proofs.PointLaws.{by_block}
use Rattle.abstract_state.specs.declared.table.TableRow.{TableRow}
use Rattle.abstract_state.specs.declared.value.Component.TheVariants as component
use Rattle.abstract_state.specs.{Components.{abstract_of, component_count, component_number}, Tables.{In}}
use Rattle.abstract_state.proofs.{ComponentLaws.{task_counted}, Numbers.{number_known}}
use Rattle.flow_model.specs.Tests.{passes}
use Rattle.flow_model.specs.declared.test.Test.TheVariants as test
use Rattle.numbered_sets.specs.{declared.table.NumberedRow.{NumberedRow}, Pools.{Values}, PlainTables.{plain_row, plain_table}}
use Rattle.table_rows.{specs.Rows.{AreRowsFrom}, proofs.TableRows.{in_order, plain_proper, listed_plain, plain_listed}}
use Rattle.flow_report.specs.{Findings.{IsReachedBlock}, Reached.{HasPassing, IsTakenAt, IsHeldIn, ArePartedAt, comes_before, table_of}}
use Rattle.flow_report.proofs.{RowStates.{row_of_state}, ShownRows.{block_reached, state_of_row, row_by_state}, BlockFindings.{taken_by, taken_by_routine, holder_of}}

-- ---- points

stands_not_before : (p : Point) (b : BlockNo) → StandsAt p b → comes_before p b.0 ≡ true → ⊥
stands_not_before point.Halted b at e = absurd at
stands_not_before point.Idle b at e = absurd at
stands_not_before (point.Task c) b at e = (let same : c.0 ≡ b.0 = ap (λ (x : BlockNo). x.0) at in omega (arith, ltb-true c.0 b.0 e, same))
stands_not_before (point.Routine c over) b at e = (let same : c.0 ≡ b.0 = ap (λ (x : BlockNo). x.0) at in omega (arith, ltb-true c.0 b.0 e, same))

-- of a block behind this one
record IsBehind (p : Point) (b : BlockNo) : Type 0 where
  block : BlockNo
  stands : StandsAt p block
  behind : b.0 < block.0

at_or_behind : (p : Point) (b : BlockNo) → comes_before p b.0 ≡ false → StandsAt p b ⊎ IsBehind p b
at_or_behind point.Halted b e = absurd (cc)
at_or_behind point.Idle b e = absurd (cc)
at_or_behind (point.Task c) b e = elim (cases_order c.0 b.0) [
  | inl same ↦ inl (ap (λ (n : ℕ). block_no n) same)
  | inr (inl lt) ↦ (let wrong = lt-ltb c.0 b.0 lt in absurd (cc))
  | inr (inr gt) ↦ inr (record { block = c; stands = refl; behind = gt })
]
at_or_behind (point.Routine c over) b e = elim (cases_order c.0 b.0) [
  | inl same ↦ inl (ap (λ (n : ℕ). block_no n) same)
  | inr (inl lt) ↦ (let wrong = lt-ltb c.0 b.0 lt in absurd (cc))
  | inr (inr gt) ↦ inr (record { block = c; stands = refl; behind = gt })
]

module _ (app : App) (p q : Point) (b : ℕ) (h : IsPoint app p) (k : IsPoint app q) where
  -- what comes before a block has a lower number than what doesn't
  by_blocks : (c d : BlockNo) → StandsAt p c → StandsAt q d → c.0 < b → b ≤ d.0 → point_number p < point_number q
  by_blocks c d at there lt le = by_block app p q c d h k at there (omega (arith, lt, le))

before_lower : (app : App) (p q : Point) (b : ℕ) → IsPoint app p → IsPoint app q → comes_before p b ≡ true → comes_before q b ≡ false → point_number p < point_number q
before_lower app p point.Halted b h k e f = absurd (cc)
before_lower app p point.Idle b h k e f = absurd (cc)
before_lower app point.Halted (point.Task d) b h k e f = omega arith
before_lower app point.Idle (point.Task d) b h k e f = omega arith
before_lower app (point.Task c) (point.Task d) b h k e f = by_blocks app (point.Task c) (point.Task d) b h k c d refl refl (ltb-true c.0 b e) (ltb-false d.0 b f)
before_lower app (point.Routine c over) (point.Task d) b h k e f = by_blocks app (point.Routine c over) (point.Task d) b h k c d refl refl (ltb-true c.0 b e) (ltb-false d.0 b f)
before_lower app point.Halted (point.Routine d above) b h k e f = omega arith
before_lower app point.Idle (point.Routine d above) b h k e f = omega arith
before_lower app (point.Task c) (point.Routine d above) b h k e f = by_blocks app (point.Task c) (point.Routine d above) b h k c d refl refl (ltb-true c.0 b e) (ltb-false d.0 b f)
before_lower app (point.Routine c over) (point.Routine d above) b h k e f = by_blocks app (point.Routine c over) (point.Routine d above) b h k c d refl refl (ltb-true c.0 b e) (ltb-false d.0 b f)

-- ---- rows

module _ (app : App) (pool : List Values) (rows : List NumberedRow) (from : AreRowsFrom app pool rows) where
  point_there : (i : ℕ) (d : NumberedRow) → i < length rows → IsPoint app (get_or rows i d).point
  point_there i d lt = (plain_proper app pool rows from (get_or rows i d) (Contains-get_or rows i d lt)).row.point

  pub parted : (b : ℕ) → IsPartitionedBy (λ (row : NumberedRow). comes_before row.point b) rows
  parted b i j d le lt before = elim (cases_eq i j) [
    | inl same ↦ (ap (λ (k : ℕ). comes_before (get_or rows k d).point b) same ∙ before)
    | inr other ↦ elim (cases_Bool (comes_before (get_or rows i d).point b)) [
      | inl e ↦ e
      | inr e ↦
          (let less = before_lower app (get_or rows j d).point (get_or rows i d).point b (point_there j d lt) (point_there i d (omega (arith, le, lt))) before e in
          absurd (omega (arith, less, (in_order app pool rows from).before i j d (omega (arith, le, other)) lt)))
    ]
  ]

  module _ (b : BlockNo) (place : ℕ) (parts : ArePartedAt rows b.0 place) where
    pub none_before : (k : ℕ) (d : NumberedRow) → k < place → StandsAt (get_or rows k d).point b → ⊥
    none_before k d lt at = stands_not_before (get_or rows k d).point b at (parts.0 k d (omega arith) lt)

    -- where a row that isn't before the block isn't of it, no later one is
    pub none_behind : (j : ℕ) → place ≤ j → ((d : NumberedRow) → j < length rows → StandsAt (get_or rows j d).point b → ⊥) → (k : ℕ) (d : NumberedRow) → j ≤ k → k < length rows → StandsAt (get_or rows k d).point b → ⊥
    none_behind j le other k d up lt at = elim (cases_eq j k) [
      | inl same ↦ other d (omega (arith, lt, same)) (subst (λ (n : ℕ). StandsAt (get_or rows n d).point b) (sym same) at)
      | inr apart ↦ elim (at_or_behind (get_or rows j d).point b (parts.1 j d le (omega (arith, up, lt)))) [
        | inl here ↦ other d (omega (arith, up, lt)) here
        | inr h ↦
            (let less = by_block app (get_or rows k d).point (get_or rows j d).point b h.block (point_there k d lt) (point_there j d (omega (arith, up, lt))) at h.stands h.behind in
            omega (arith, less, (in_order app pool rows from).before j k d (omega (arith, up, apart)) lt))
      ]
    ]

  module _ (b : BlockNo) where
    pub reached_at : (row : NumberedRow) → Contains rows row → StandsAt row.point b → IsReachedBlock app (table_of pool rows) b
    reached_at row listed at = block_reached app (plain_table pool rows) from.written b (plain_row pool row) (plain_listed pool rows row listed) at

    pub none_reached : ((k : ℕ) (d : NumberedRow) → k < length rows → StandsAt (get_or rows k d).point b → ⊥) → IsReachedBlock app (table_of pool rows) b → ⊥
    none_reached none h =
        let r = row_of_state app (plain_table pool rows) from.written h.state h.inside in
        let x = listed_plain pool rows r.row r.among in
        none x.1.0 x.0 x.1.1 (subst (λ (y : NumberedRow). StandsAt y.point b) (sym x.1.2) (subst (λ (p : Point). StandsAt p b) (r.at.point ∙ ap (λ (y : TableRow). y.point) x.2) h.stands))

    -- where the first row that isn't before the block isn't of it, none is
    pub nowhere : (place : ℕ) → ArePartedAt rows b.0 place → ((d : NumberedRow) → place < length rows → StandsAt (get_or rows place d).point b → ⊥) → IsReachedBlock app (table_of pool rows) b → ⊥
    nowhere place parts other = none_reached (λ k d lt at. elim (cases_lt k place) [
      | inl less ↦ none_before b place parts k d less at
      | inr le ↦ none_behind b place parts place (omega arith) other k d le lt at
    ])

    module _ (r : ResNo) where
      pub taken_at : (row : NumberedRow) → Contains rows row → StandsAt row.point b → IsHeldIn app r (plain_row pool row) → IsTakenAt app (table_of pool rows) b r
      taken_at row listed at (inl h) =
          let x = state_of_row app (plain_table pool rows) from.written h.task (test.Holds r) (task_counted app h.task h.known) (plain_row pool row) (plain_listed pool rows row listed) h.value in
          taken_by app (table_of pool rows) b r x.state x.inside (subst (λ (p : Point). StandsAt p b) (sym x.point) at) h.task h.known x.passes
      taken_at row listed at (inr h) =
          let k = component.Source (source_no h.source) in
          let x = state_of_row app (plain_table pool rows) from.written (component_number app k) (test.Holds r) (number_known app k h.known) (plain_row pool row) (plain_listed pool rows row listed) h.value in
          taken_by_routine app (table_of pool rows) b r x.state x.inside (subst (λ (p : Point). StandsAt p b) (sym x.point) at) h.source h.known x.passes

      -- no row of the block says that the resource is held
      abbrev pub HeldInNone : Type 0
      HeldInNone = (k : ℕ) (d : NumberedRow) → k < length rows → StandsAt (get_or rows k d).point b → IsHeldIn app r (plain_row pool (get_or rows k d)) → ⊥

      -- a component of a state by whose value it is held
      held_there : (c : ℕ) → c < component_count app → ((row : TableRow) → HasPassing c (test.Holds r) row.entry → IsHeldIn app r row) → HeldInNone
          → (s : State) → In app (table_of pool rows) s → StandsAt (point_of s) b → IsTrue (passes (test.Holds r) (abstract_of app s c)) → ⊥
      held_there c lt holder none s inside stands passed =
          let x = row_by_state app (plain_table pool rows) from.written c (test.Holds r) lt s inside passed in
          let y = listed_plain pool rows x.row x.among in
          none y.1.0 y.0 y.1.1 (subst (λ (z : NumberedRow). StandsAt z.point b) (sym y.1.2) (subst (λ (p : Point). StandsAt p b) (x.point ∙ ap (λ (z : TableRow). z.point) y.2) stands))
          (subst (λ (z : NumberedRow). IsHeldIn app r (plain_row pool z)) (sym y.1.2) (subst (IsHeldIn app r) y.2 (holder x.row x.value)))

      pub none_taken : HeldInNone → IsTakenAt app (table_of pool rows) b r → ⊥
      none_taken none h = elim (holder_of app (table_of pool rows) b r h) [
        | inl t ↦ held_there t.task (task_counted app t.task t.known) (λ row v. inl (record { task = t.task; known = t.known; value = v })) none h.state h.inside h.stands t.passes
        | inr k ↦
            held_there (component_number app (component.Source (source_no k.source))) (number_known app (component.Source (source_no k.source)) k.known)
            (λ row v. inr (record { source = k.source; known = k.known; value = v })) none h.state h.inside h.stands k.passes
      ]
