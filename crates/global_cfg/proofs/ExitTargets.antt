-- The points to which edges lead are the targets of exits.
use Rattle.std.proofs.Common.{◌≡◌, ◌≢◌, ◌⊎◌, true, List, [], refl, sym, ap, subst, ◌∙◌, inl, inr, arith}
use Rattle.std.specs.Prelude.{Contains}
use Rattle.osek_values.specs.declared.event.Event.{Event}
use Rattle.osek_standard.specs.{declared.{app.App.{App}, state.State.{State}, point.Point.{Point}}, Points.{IsPoint}, Kernel.{step}}
use Rattle.osek_standard.proofs.PointLaws.{one_number}
use Rattle.abstract_state.specs.{declared.table.PlainEntry.{PlainEntry}, Edges.{IsAnew}}
use Rattle.abstract_state.proofs.AllowedLaws.{well_point}
use Rattle.flow_model.specs.Effects.{IsAt}
use Rattle.flow_exits.specs.{declared.exit.Exit.{Exit}, Exits.{IsBy, CoverSteps, AreExact}}
use Rattle.flow_exits.proofs.ExactExits.{some_step}
use Rattle.table_rows.specs.{declared.bare.BareExit.{BareExit}, BareExits.{bare_exit, AreBare}}
use Rattle.global_cfg.specs.Targets.{leads, HasExitTo, AreEndsPut, LeadsTo, AreTargets}
use Rattle.global_cfg.proofs.LeadingOn.{next_well, target_point, moves_on, leads_where_it_moves, stays_silent}

module _ (app : App) (p : Point) (entry : PlainEntry) where
  -- an edge leads to a point of the application
  leads_to_point : (q : Point) → LeadsTo app p entry q → IsPoint app q
  leads_to_point q x = subst (IsPoint app) x.ends (well_point app (step app x.from x.event).state (next_well app p entry x.from x.event x.at))

  module _ (exits : List Exit) (exact : AreExact app p entry exits) (bare : List BareExit) (are : AreBare exits bare) where
    -- an exit by which control flow leads on leads to its target
    led_there : (q : Point) → HasExitTo p bare q → LeadsTo app p entry q
    led_there q x =
        let o = are.each x.exit x.listed in
        let s = some_step app p entry o.exit (exact o.exit o.listed) in
        let ends : q ≡ o.exit.target = x.ends ∙ ap (λ (y : BareExit). y.target) o.is in
        let on : leads o.exit.target o.exit.decision p ≡ true = ap (λ (y : BareExit). leads y.target y.decision p) (sym o.is) ∙ x.on in
        record {
          from = s.from;
          event = s.event;
          at = s.at;
          ends = s.target ∙ sym ends;
          moves =
              subst (λ (r : Point). (p ≢ r) ⊎ IsAnew app s.from s.event) (sym ends)
              (moves_on app p entry s.from s.event s.at o.exit.target o.exit.decision o.exit.status s.target s.shows on);
        }

    module _ (targets : List Point) (covers : CoverSteps app p entry exits) (put : AreEndsPut p bare [] targets) where
      leads_to_each : (q : Point) → Contains targets q → LeadsTo app p entry q
      leads_to_each q h = elim (put.from q h) [
        | inl old ↦ absurd (omega (arith, old.1))
        | inr led ↦ led_there q led
      ]

      -- a state that steps by an exit which leads on ends at one of the targets
      leads_there : (x : Exit) (s : State) (e : Event) → IsAt app p entry s → IsBy app x s e → (p ≢ x.target) ⊎ IsAnew app s e → Contains exits x → Contains targets x.target
      leads_there x s e at by moves listed =
          let on = leads_where_it_moves app p entry s e at x.target x.decision x.status by.target by.shows moves in
          let has = put.each x.target (record { exit = bare_exit x; listed = are.all x listed; on = on; ends = refl }) in
          let there = leads_to_point has.point (leads_to_each has.point has.listed) in
          let is : has.point ≡ x.target = one_number app has.point x.target there (target_point app p entry s e at x.target x.decision x.status by.target by.shows) has.is in
          subst (Contains targets) is has.listed

      -- the targets of all exits are put in
      pub ends_are_targets : AreTargets app p entry targets
      ends_are_targets = record {
        order = put.order;
        each = leads_to_each;
        all = λ q x.
            let b = covers x.from x.event x.at (stays_silent app p entry x.from x.event x.at q x.ends x.moves) in
            let is : q ≡ b.exit.target = sym x.ends ∙ b.by.target in
            subst (Contains targets) (sym is) (leads_there b.exit x.from x.event x.at b.by (subst (λ (y : Point). (p ≢ y) ⊎ IsAnew app x.from x.event) is x.moves) b.listed);
      }
