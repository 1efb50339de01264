-- The exits of groups, one group after another.
use Rattle.std.proofs.Common.{◌≡◌, ◌⊎◌, List, [], ◌∷◌, ◌++◌, sym, ap, subst, ◌∙◌, inl, inr}
use Rattle.std.specs.Prelude.{Contains}
use Rattle.std.proofs.lemmas.{List.{append-nil, Elements.{Contains-append_left, Contains-append_right, Contains-append_cases, Contains-push_cases}}, Grind.{flat_map-append}}
use Rattle.numbered_sets.specs.Pools.{Values}
use Rattle.flow_exits.specs.declared.exit.Exit.{Exit}
use Rattle.point_exits.specs.{declared.group.ExitGroup.{ExitGroup}, Groups.{exits_of, all_exits, IsKnownGroup, AreKnownGroups}}

module _ (pool : List Values) (before : List ExitGroup) (g : ExitGroup) where
  exits_with : all_exits pool (before ++ g ∷ []) ≡ all_exits pool before ++ exits_of pool g
  exits_with = flat_map-append (exits_of pool) before (g ∷ []) ∙ ap (λ (xs : List Exit). all_exits pool before ++ xs) (append-nil (exits_of pool g))

  pub old_exit : (x : Exit) → Contains (all_exits pool before) x → Contains (all_exits pool (before ++ g ∷ [])) x
  old_exit x m = subst (λ (xs : List Exit). Contains xs x) (sym exits_with) (Contains-append_left (all_exits pool before) (exits_of pool g) x m)

  pub new_exit : (x : Exit) → Contains (exits_of pool g) x → Contains (all_exits pool (before ++ g ∷ [])) x
  new_exit x m = subst (λ (xs : List Exit). Contains xs x) (sym exits_with) (Contains-append_right (all_exits pool before) (exits_of pool g) x m)

  pub exit_cases : (x : Exit) → Contains (all_exits pool (before ++ g ∷ [])) x → Contains (all_exits pool before) x ⊎ Contains (exits_of pool g) x
  exit_cases x m = Contains-append_cases (all_exits pool before) (exits_of pool g) x (subst (λ (xs : List Exit). Contains xs x) exits_with m)

  pub known_with : AreKnownGroups pool before → IsKnownGroup pool g → AreKnownGroups pool (before ++ g ∷ [])
  known_with old new h m = elim (Contains-push_cases before g h m) [ inl there ↦ old h there | inr same ↦ subst (IsKnownGroup pool) same new ]
