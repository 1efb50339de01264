-- The findings that are listed so far, and one more.
use Rattle.std.proofs.Common.{◌≡◌, ◌⊎◌, ℕ, ◌+◌, ◌<◌, Bool, true, false, List, [], ◌∷◌, ◌++◌, get_or, refl, sym, subst, inl, inr, arith}
use Rattle.std.specs.{Prelude.{Contains, ◌↔◌, if◌then◌else◌}, Bool.{Decides}}
use Rattle.std.proofs.lemmas.List.{Elements.{Contains-push, Contains-push_cases, Contains-append_left, Contains-get_or}, Quantifiers.{all_pairs_push}}
use Rattle.osek_standard.specs.declared.app.App.{App}
use Rattle.abstract_state.specs.Tables.{Sets}
use Rattle.flow_report.specs.{declared.finding.Finding.{Finding}, Findings.{Holds}, FindingOrder.{Rank, rank, rank_at, IsBefore}, Progress.{AreListed}}
use Rattle.flow_report.specs.declared.finding.Finding.TheVariants as finding
use Rattle.flow_report.proofs.OrderLaws.{before_onward, next_number, next_kind}

module _ (app : App) (table : Sets) where
  pub none_listed : AreListed app table (rank_at 0 0 0) []
  none_listed = record {
    ascending = λ i j d lt below. absurd (omega (arith, below));
    each = λ f m. absurd (omega (arith, m.1));
    whole = λ f h b. absurd (never_before (rank f) b);
  }
    where
      never_before : (r : Rank) → IsBefore r (rank_at 0 0 0) → ⊥
      never_before r (inl a) = omega (arith, a)
      never_before r (inr (e, inl a)) = omega (arith, a)
      never_before r (inr (e, inr (n, a))) = omega (arith, a)

  -- the next place, where no finding stands between
  pub listed_onward : (r s : Rank) (fs : List Finding) → AreListed app table r fs → IsBefore r s → ((g : Finding) → Holds app table g → IsBefore (rank g) s → IsBefore (rank g) r) → AreListed app table s fs
  listed_onward r s fs l up back = record {
    ascending = l.ascending;
    each = λ f m. ((l.each f m).0, before_onward (rank f) r s (l.each f m).1 up);
    whole = λ f h b. l.whole f h (back f h b);
  }

  listed_by : (r s : Rank) (fs : List Finding) (f : Finding) (holds : Bool) → AreListed app table r fs → Decides holds (Holds app table f) → rank f ≡ r → IsBefore r s
      → ((g : Finding) → Holds app table g → IsBefore (rank g) s → IsBefore (rank g) r ⊎ (g ≡ f)) → AreListed app table s (if holds then fs ++ f ∷ [] else fs)
  listed_by r s fs f true l d is up next = record {
    ascending = all_pairs_push (λ (x y : Finding). IsBefore (rank x) (rank y)) fs f l.ascending (λ k d lt. subst (IsBefore (rank (get_or fs k d))) (sym is) (l.each (get_or fs k d) (Contains-get_or fs k d lt)).1);
    each = λ g m. elim (Contains-push_cases fs f g m) [
      | inl old ↦ ((l.each g old).0, before_onward (rank g) r s (l.each g old).1 up)
      | inr same ↦ (subst (Holds app table) same (d.0 refl), subst (λ (h : Finding). IsBefore (rank h) s) same (subst (λ (q : Rank). IsBefore q s) (sym is) up))
    ];
    whole = λ g h b. elim (next g h b) [
      | inl old ↦ Contains-append_left fs (f ∷ []) g (l.whole g h old)
      | inr same ↦ subst (Contains (fs ++ f ∷ [])) (sym same) (Contains-push fs f)
    ];
  }
  listed_by r s fs f false l d is up next = listed_onward r s fs l up (λ g h b. elim (next g h b) [
    | inl old ↦ old
    | inr same ↦ (let wrong : false ≡ true = d.1 (subst (Holds app table) same h) in absurd (cc))
  ])

  -- one more, where it holds
  pub listed_more : (r s : Rank) (fs after : List Finding) (f : Finding) (holds : Bool) → AreListed app table r fs → Decides holds (Holds app table f) → rank f ≡ r → IsBefore r s
      → ((g : Finding) → Holds app table g → IsBefore (rank g) s → IsBefore (rank g) r ⊎ (g ≡ f)) → after ≡ (if holds then fs ++ f ∷ [] else fs) → AreListed app table s after
  listed_more r s fs after f holds l d is up next e = subst (AreListed app table s) (sym e) (listed_by r s fs f holds l d is up next)

  -- one more of a kind that has one for each number
  pub listed_number : (k i : ℕ) (fs after : List Finding) (f : Finding) (holds : Bool) → AreListed app table (rank_at k i 0) fs → Decides holds (Holds app table f) → rank f ≡ rank_at k i 0
      → ((g : Finding) → Holds app table g → (rank g).kind ≡ k → (rank g).number ≡ i → g ≡ f) → after ≡ (if holds then fs ++ f ∷ [] else fs) → AreListed app table (rank_at k (i + 1) 0) after
  listed_number k i fs after f holds l d is one = listed_more (rank_at k i 0) (rank_at k (i + 1) 0) fs after f holds l d is (inr (refl, inl (omega arith)))
      (λ g h b. elim (next_number k i (rank g) b) [
        | inl old ↦ inl old
        | inr at ↦ inr (one g h at.0 at.1)
      ])

  -- all of a kind
  pub listed_kind : (k n : ℕ) (fs : List Finding) → ((g : Finding) → Holds app table g → (rank g).kind ≡ k → (rank g).number < n) → AreListed app table (rank_at k n 0) fs → AreListed app table (rank_at (k + 1) 0 0) fs
  listed_kind k n fs few l = listed_onward (rank_at k n 0) (rank_at (k + 1) 0 0) fs l (inl (omega arith)) (λ g h b. next_kind k n (rank g) (few g h) b)

  -- before the last place stands each finding
  before_all : (f : Finding) → IsBefore (rank f) (rank_at 6 0 0)
  before_all (finding.Suspended t) = inl (omega arith)
  before_all (finding.Unarmed a) = inl (omega arith)
  before_all (finding.Unset t m) = inl (omega arith)
  before_all (finding.Silent h) = inl (omega arith)
  before_all (finding.Free b) = inl (omega arith)
  before_all (finding.Dead b) = inl (omega arith)

  pub all_listed : (fs : List Finding) → AreListed app table (rank_at 6 0 0) fs → (f : Finding) → Contains fs f ↔ Holds app table f
  all_listed fs l f = ((λ m. (l.each f m).0), (λ h. l.whole f h (before_all f)))
