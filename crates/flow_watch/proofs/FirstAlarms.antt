-- A watch finds the first alarm of a record, which has one at most.
use Rattle.std.proofs.Common.{◌≡◌, ◌↔◌, Bool, true, false, List, [], ◌∷◌, ◌++◌, length, length-append, append_assoc, IsTrue, Option, Some, None, refl, sym, ap, subst, ◌∙◌, inl, inr, arith}
use Rattle.std.specs.{Prelude.{Contains}, List.{list_any}}
use Rattle.std.proofs.lemmas.{Bool.{and_from, and_parts, or_cases, or_left, or_right, true≢false}, List.{append-nil, Folds.{Any-from_list_any, list_any_at}}, Map.Views.{Contains-from_any}}
use Rattle.osek_standard.specs.declared.{app.App.{App}, point.Point.{Point}}
use Rattle.abstract_state.specs.{declared.edge.FlowEdge.{FlowEdge}, Edges.{flow_edge, Edge}, Tables.{Sets, same_point}}
use Rattle.abstract_state.proofs.EqualityLaws.{point_right, point_itself}
use Rattle.flow_watch.specs.declared.alarm.Alarm.{Alarm}
use Rattle.flow_watch.specs.Records.{last_of, MayCome, IsQuiet, IsFirstAlarm, IsAlarmOf}
use Rattle.flow_watch.specs.Watches.{WatchState, leads_to, may_come, with_point, seen_after, seen_by, all_seen, IsWatchOf}

edge_is : (p q : Point) (e : FlowEdge) → leads_to p q e ≡ true → e ≡ flow_edge p q
edge_is p q e h =
    let parts = and_parts (same_point p e.from) (same_point q e.to) h in
    let from : p ≡ e.from = point_right p e.from parts.0 in
    let to : q ≡ e.to = point_right q e.to parts.1 in
    (λ i. flow_edge (sym from i) (sym to i))

edge_leads : (p q : Point) → leads_to p q (flow_edge p q) ≡ true
edge_leads p q = and_from (same_point p p) (same_point q q) (point_itself p) (point_itself q)

last_more : (before : Option Point) (ps : List Point) (p : Point) → last_of before (ps ++ p ∷ []) ≡ Some p
last_more before [] p = refl
last_more before (q ∷ ps) p = last_more (Some q) ps p

-- an alarm stays
pub stays : (w : WatchState) (a : Alarm) (ps : List Point) → w.alarm ≡ Some a → all_seen w ps ≡ w
stays w a [] e = refl
stays w a (p ∷ ps) e =
    let same : seen_by w p ≡ w = ap (seen_after w p) e in
    ap (λ (v : WatchState). all_seen v ps) same ∙ stays w a ps e

module _ (app : App) (table : Sets) where
  quiet_more : (before : Option Point) (ps : List Point) (p : Point) → IsQuiet app table before ps → MayCome app table (last_of before ps) p → IsQuiet app table before (ps ++ p ∷ [])
  quiet_more before [] p h m = (m, tt)
  quiet_more before (q ∷ ps) p h m = (h.0, quiet_more (Some q) ps p h.1 m)

  quiet_at : (before : Option Point) (ps : List Point) (p : Point) (later : List Point) → IsQuiet app table before (ps ++ p ∷ later) → MayCome app table (last_of before ps) p
  quiet_at before [] p later h = h.0
  quiet_at before (q ∷ ps) p later h = quiet_at (Some q) ps p later h.1

  -- what a watch keeps of its table
  record HasTable (w : WatchState) : Type 0 where
    entries : (p : Point) → Contains w.entries p ↔ IsTrue (table.entry p)
    edges : (p q : Point) → Contains w.edges (flow_edge p q) ↔ Edge app table p q

  module _ (w : WatchState) (has : HasTable w) where
    allowed : (before : Option Point) (p : Point) → may_come w before p ≡ true → MayCome app table before p
    allowed None p e = (has.entries p).0 (Contains-from_any point_right p w.entries e)
    allowed (Some q) p e = elim (or_cases (same_point q p) (list_any (leads_to q p) w.edges) e) [
      | inl same ↦ inl (sym (point_right q p same))
      | inr led ↦
          (let at = Any-from_list_any (leads_to q p) w.edges led in
          inr ((has.edges q p).0 (subst (Contains w.edges) (edge_is q p at.1 at.4) (at.0, at.2, at.3))))
    ]

    admitted : (before : Option Point) (p : Point) → MayCome app table before p → may_come w before p ≡ true
    admitted None p m =
        let at = (has.entries p).1 m in
        list_any_at (same_point p) w.entries at.0 p at.1 (ap (same_point p) at.2 ∙ point_itself p)
    admitted (Some q) p (inl same) = or_left (same_point q p) (list_any (leads_to q p) w.edges) (ap (same_point q) same ∙ point_itself q)
    admitted (Some q) p (inr edge) =
        let at = (has.edges q p).1 edge in
        or_right (same_point q p) (list_any (leads_to q p) w.edges) (list_any_at (leads_to q p) w.edges at.0 (flow_edge q p) at.1 (ap (leads_to q p) at.2 ∙ edge_leads q p))

  -- a watch that saw these points, and no alarm
  record Saw (quiet : List Point) (w : WatchState) : Type 0 where
    has : HasTable w
    seen : w.seen ≡ length quiet
    last : w.last ≡ last_of None quiet
    alarm : w.alarm ≡ None
    quiets : IsQuiet app table None quiet

  saw_more : (quiet : List Point) (w : WatchState) (p : Point) → Saw quiet w → may_come w w.last p ≡ true → Saw (quiet ++ p ∷ []) (with_point w p true)
  saw_more quiet w p h e = record {
    has = record { entries = h.has.entries; edges = h.has.edges };
    seen = omega (arith, h.seen, length-append quiet (p ∷ []));
    last = sym (last_more None quiet p);
    alarm = h.alarm;
    quiets = quiet_more None quiet p h.quiets (subst (λ (l : Option Point). MayCome app table l p) h.last (allowed w h.has w.last p e));
  }

  first_of : (quiet : List Point) (w : WatchState) (p : Point) (ps : List Point) → Saw quiet w → may_come w w.last p ≡ false → IsAlarmOf app table (quiet ++ p ∷ ps) (with_point w p false).alarm
  first_of quiet w p ps h e = record {
    quiet = quiet;
    later = ps;
    are = refl;
    place = h.seen;
    before = h.last;
    is_quiet = h.quiets;
    alarms = λ m. true≢false (sym (admitted w h.has w.last p (subst (λ (l : Option Point). MayCome app table l p) (sym h.last) m)) ∙ e);
  }

  next_from : (quiet : List Point) (w : WatchState) (p : Point) (ps : List Point) → Saw quiet w → (b : Bool) → may_come w w.last p ≡ b
      → (may_come w w.last p ≡ true → IsAlarmOf app table ((quiet ++ p ∷ []) ++ ps) (all_seen (with_point w p true) ps).alarm) → IsAlarmOf app table (quiet ++ p ∷ ps) (all_seen (seen_by w p) ps).alarm
  next_from quiet w p ps h true e later =
      let same : seen_by w p ≡ with_point w p true = ap (seen_after w p) h.alarm ∙ ap (with_point w p) e in
      subst (λ (v : WatchState). IsAlarmOf app table (quiet ++ p ∷ ps) (all_seen v ps).alarm) (sym same)
      (subst (λ (l : List Point). IsAlarmOf app table l (all_seen (with_point w p true) ps).alarm) (append_assoc quiet (p ∷ []) ps) (later e))
  next_from quiet w p ps h false e later =
      let v = with_point w p false in
      let same : all_seen (seen_by w p) ps ≡ v =
      ap (λ (u : WatchState). all_seen u ps) (ap (seen_after w p) h.alarm ∙ ap (with_point w p) e) ∙ stays v (record { place = w.seen; before = w.last; point = p }) ps refl in
      subst (λ (u : WatchState). IsAlarmOf app table (quiet ++ p ∷ ps) u.alarm) (sym same) (first_of quiet w p ps h e)

  seen_from : (quiet : List Point) (w : WatchState) (ps : List Point) → Saw quiet w → IsAlarmOf app table (quiet ++ ps) (all_seen w ps).alarm
  seen_from quiet w [] h = subst (IsAlarmOf app table (quiet ++ [])) (sym h.alarm) (subst (IsQuiet app table None) (sym (append-nil quiet)) h.quiets)
  seen_from quiet w (p ∷ ps) h = next_from quiet w p ps h (may_come w w.last p) refl (λ e. seen_from (quiet ++ p ∷ []) (with_point w p true) ps (saw_more quiet w p h e))

  pub finds : (w : WatchState) (points : List Point) → IsWatchOf app table w → IsAlarmOf app table points (all_seen w points).alarm
  finds w points h = seen_from [] w points (record { has = record { entries = h.entries; edges = h.edges }; seen = h.seen; last = h.last; alarm = h.alarm; quiets = tt })

  -- ---- one alarm at most

  one_place : (before : Option Point) (qs rs : List Point) (p q : Point) (later others : List Point) → qs ++ p ∷ later ≡ rs ++ q ∷ others → IsQuiet app table before qs → IsQuiet app table before rs
      → (MayCome app table (last_of before qs) p → ⊥) → (MayCome app table (last_of before rs) q → ⊥) → (qs ≡ rs) × (p ≡ q)
  one_place before [] [] p q later others e h k a b = (refl, cc)
  one_place before [] (r ∷ rs) p q later others e h k a b = (let same : r ≡ p = cc in absurd (a (subst (MayCome app table before) same k.0)))
  one_place before (s ∷ qs) [] p q later others e h k a b = (let same : s ≡ q = cc in absurd (b (subst (MayCome app table before) same h.0)))
  one_place before (s ∷ qs) (r ∷ rs) p q later others e h k a b =
      let same : s ≡ r = cc in
      let rest = one_place (Some s) qs rs p q later others (cc) h.1 (subst (λ (x : Point). IsQuiet app table (Some x) rs) (sym same) k.1) a
      (λ m. b (subst (λ (x : Point). MayCome app table (last_of (Some x) rs) q) same m)) in
      ((let tails = rest.0 in cc), rest.1)

  no_alarm : (points : List Point) (a : Alarm) → IsQuiet app table None points → IsFirstAlarm app table points a → ⊥
  no_alarm points a h k = k.alarms (quiet_at None k.quiet a.point k.later (subst (IsQuiet app table None) k.are h))

  same_alarm : (points : List Point) (a b : Alarm) → IsFirstAlarm app table points a → IsFirstAlarm app table points b → a ≡ b
  same_alarm points a b h k =
      let one = one_place None h.quiet k.quiet a.point b.point h.later k.later (sym h.are ∙ k.are) h.is_quiet k.is_quiet h.alarms k.alarms in
      let place : a.place ≡ b.place = h.place ∙ ap (λ (l : List Point). length l) one.0 ∙ sym k.place in
      let before : a.before ≡ b.before = h.before ∙ ap (last_of None) one.0 ∙ sym k.before in
      (λ i. record { place = place i; before = before i; point = one.1 i })

  pub one_alarm : (points : List Point) (x y : Option Alarm) → IsAlarmOf app table points x → IsAlarmOf app table points y → x ≡ y
  one_alarm points None None h k = refl
  one_alarm points None (Some b) h k = absurd (no_alarm points b h k)
  one_alarm points (Some a) None h k = absurd (no_alarm points a k h)
  one_alarm points (Some a) (Some b) h k = ap (λ (c : Alarm). Some c) (same_alarm points a b h k)
