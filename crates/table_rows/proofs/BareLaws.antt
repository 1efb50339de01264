-- Exits without their values: those of groups, one by one.
use Rattle.std.proofs.Common.{◌≡◌, List, map, ap, ◌∙◌}
use Rattle.std.proofs.lemmas.Simd.{map-map}
use Rattle.osek_standard.specs.declared.point.Point.{Point}
use Rattle.osek_standard.proofs.Members.{contained_among, among_contained, among_map, map_among}
use Rattle.numbered_sets.specs.Pools.{Values}
use Rattle.flow_exits.specs.declared.exit.Exit.{Exit}
use Rattle.point_exits.specs.{declared.group.{NumberEnd.{NumberEnd}, Ends.{Ends}, ExitGroup.{ExitGroup}}, Groups.{with_end, exit_at, exits_by, exits_of}}
use Rattle.point_exits.specs.declared.group.Ends.TheVariants as ends
use Rattle.table_rows.specs.BareExits.{bare_exit, bare_end, AreBare}

module _ (pool : List Values) (g : ExitGroup) where
  pub at_points : (points : List Point) → g.ends ≡ ends.At points → map bare_exit (exits_of pool g) ≡ map (bare_end g) points
  at_points points is = ap (λ (e : Ends). map bare_exit (exits_by pool g e)) is ∙ map-map bare_exit (exit_at pool g g.entry) points

  pub with_ends : (xs : List NumberEnd) → g.ends ≡ ends.With xs → map bare_exit (exits_of pool g) ≡ map (λ (x : NumberEnd). bare_end g x.target) xs
  with_ends xs is =
      ap (λ (e : Ends). map bare_exit (exits_by pool g e)) is
      ∙ map-map bare_exit (λ (x : NumberEnd). exit_at pool g (with_end g.entry x) x.target) xs

pub each_bare : (exits : List Exit) → AreBare exits (map bare_exit exits)
each_bare exits = record {
  each = λ x m.
      let its = map_among bare_exit x exits (contained_among (map bare_exit exits) x m) in
      record { exit = its.0; listed = among_contained exits its.0 its.1; is = its.2 };
  all = λ x m. among_contained (map bare_exit exits) (bare_exit x) (among_map bare_exit x exits (contained_among exits x m));
}
