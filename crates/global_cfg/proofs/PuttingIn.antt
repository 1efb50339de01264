-- Points that are put in, one after another.
use Rattle.std.proofs.Common.{◌≡◌, ◌⊎◌, ℕ, true, false, List, [], ◌∷◌, ◌++◌, refl, sym, ap, subst, ◌∙◌, inl, inr}
use Rattle.std.specs.Prelude.{Contains}
use Rattle.std.proofs.lemmas.List.Elements.{Contains-append_left, Contains-append_right, Contains-append_cases}
use Rattle.osek_standard.proofs.Members.{among_contained, contained_among}
use Rattle.osek_standard.specs.{declared.point.Point.{Point}, Points.{point_number}}
use Rattle.table_rows.specs.{declared.bare.BareExit.{BareExit}, Order.{AscendBy}}
use Rattle.global_cfg.specs.{PointOrder.{HasNumber, IsPut}, Targets.{leads, HasExitTo, AreAllPut, AreEndsPut}}

-- none is to be put in, or those that are have their numbers there
pub all_there : (Has : Point → Type 0) (points : List Point) → AscendBy point_number points → ((q : Point) → Has q → HasNumber points (point_number q)) → AreAllPut Has points points
all_there Has points order each = record { order = order; kept = λ q h. h; from = λ q h. inl h; each = each }

still_there : (before after : List Point) (n : ℕ) → ((q : Point) → Contains before q → Contains after q) → HasNumber before n → HasNumber after n
still_there before after n kept has = record { point = has.point; listed = kept has.point has.listed; is = has.is }

-- those of one property and then those of another
pub put_then : (First Next Both : Point → Type 0) (a b c : List Point) → ((q : Point) → First q → Both q) → ((q : Point) → Next q → Both q) → ((q : Point) → Both q → First q ⊎ Next q) → AreAllPut First a b → AreAllPut Next b c → AreAllPut Both a c
put_then First Next Both a b c left right either x y = record {
  order = y.order;
  kept = λ q h. y.kept q (x.kept q h);
  from = λ q h. elim (y.from q h) [
    | inl old ↦ elim (x.from q old) [ inl before ↦ inl before | inr first ↦ inr (left q first) ]
    | inr next ↦ inr (right q next)
  ];
  each = λ q h. elim (either q h) [
    | inl first ↦ still_there b c (point_number q) y.kept (x.each q first)
    | inr next ↦ y.each q next
  ];
}

module _ (p : Point) where
  pub no_exits : (points : List Point) → AscendBy point_number points → AreEndsPut p [] points points
  no_exits points order = all_there (HasExitTo p []) points order (λ q h. absurd (contained_among [] h.exit h.listed))

  pub exits_then : (first next : List BareExit) (a b c : List Point) → AreEndsPut p first a b → AreEndsPut p next b c → AreEndsPut p (first ++ next) a c
  exits_then first next a b c x y =
      put_then (HasExitTo p first) (HasExitTo p next) (HasExitTo p (first ++ next)) a b c (λ q h. record { exit = h.exit; listed = Contains-append_left first next h.exit h.listed; on = h.on; ends = h.ends })
      (λ q h. record { exit = h.exit; listed = Contains-append_right first next h.exit h.listed; on = h.on; ends = h.ends })
      (λ q h. elim (Contains-append_cases first next h.exit h.listed) [
        | inl old ↦ inl (record { exit = h.exit; listed = old; on = h.on; ends = h.ends })
        | inr new ↦ inr (record { exit = h.exit; listed = new; on = h.on; ends = h.ends })
      ])
      x y

  -- one exit
  module _ (x : BareExit) where
    only : (q : Point) → HasExitTo p (x ∷ []) q → (leads x.target x.decision p ≡ true) × (q ≡ x.target)
    only q h = elim (contained_among (x ∷ []) h.exit h.listed) [
      | inl same ↦ (ap (λ (y : BareExit). leads y.target y.decision p) (sym same) ∙ h.on, h.ends ∙ ap (λ (y : BareExit). y.target) same)
      | inr nothing ↦ absurd nothing
    ]

    -- control flow doesn't lead on by it
    pub not_on : (points : List Point) → AscendBy point_number points → leads x.target x.decision p ≡ false → AreEndsPut p (x ∷ []) points points
    not_on points order off = all_there (HasExitTo p (x ∷ [])) points order (λ q h. (let on = (only q h).0 in absurd (cc)))

    -- its target is there
    pub one_there : (points : List Point) → AscendBy point_number points → HasNumber points (point_number x.target) → AreEndsPut p (x ∷ []) points points
    one_there points order has =
        all_there (HasExitTo p (x ∷ [])) points order (λ q h. subst (λ (r : Point). HasNumber points (point_number r)) (sym (only q h).1) has)

    -- its target is put in
    pub one_put : (before after : List Point) → leads x.target x.decision p ≡ true → IsPut before x.target after → AreEndsPut p (x ∷ []) before after
    one_put before after on put = record {
      order = put.order;
      kept = put.kept;
      from = λ q h. elim (put.from q h) [
        | inl old ↦ inl old
        | inr is ↦ inr (record { exit = x; listed = among_contained (x ∷ []) x (inl refl); on = on; ends = is })
      ];
      each = λ q h. subst (λ (r : Point). HasNumber after (point_number r)) (sym (only q h).1) put.there;
    }
