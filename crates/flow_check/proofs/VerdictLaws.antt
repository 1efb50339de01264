-- One verdict at most is said of an image and a table.
use Rattle.std.proofs.{Common.{◌≡◌, ℕ, length, refl, ap, subst, inl, inr}, lemmas.Bool.{cases_order}}
use Rattle.osek_values.specs.{Numbers.{mode_no, block_no}, declared.numbers.ModeNo.{ModeNo}}
use Rattle.osek_standard.specs.{declared.{app.App.{App}, point.Point.{Point}}, Points.{point_number, IsPoint}}
use Rattle.osek_standard.proofs.PointLaws.{one_number}
use Rattle.image_model.specs.declared.image.Image.{Image}
use Rattle.abstract_state.specs.Tables.{Sets, Inductive}
use Rattle.abstract_state.proofs.AllowedLaws.{well_point}
use Rattle.flow_check.specs.{declared.verdict.Verdict.{Verdict}, Verdicts.{StartsIn, Leaves, IsFirstStartOut, IsFirstLeft, IsFirstForm, IsFirstKnown, IsVerdict}}
use Rattle.flow_check.specs.declared.verdict.Verdict.TheVariants as verdict

module _ (app : App) (t : Sets) where
  start_out : (m : ModeNo) → IsFirstStartOut app t m → StartsIn app t (length app.modes) → ⊥
  start_out m h all = h.out (all m h.mode)

  leaves_none : (p : Point) → Leaves app t p → Inductive app t → ⊥
  leaves_none p l ind = l.out (ind.step l.from l.event l.inside)

  one_start : (m n : ModeNo) → IsFirstStartOut app t m → IsFirstStartOut app t n → m ≡ n
  one_start m n h k = elim (cases_order m.0 n.0) [
    | inl same ↦ ap mode_no same
    | inr (inl below) ↦ absurd (h.out (k.before m below))
    | inr (inr above) ↦ absurd (k.out (h.before n above))
  ]

  leaves_point : (p : Point) → Leaves app t p → IsPoint app p
  leaves_point p l = subst (IsPoint app) l.at (well_point app l.from l.inside.well)

  one_left : (p q : Point) → IsFirstLeft app t p → IsFirstLeft app t q → p ≡ q
  one_left p q h k = elim (cases_order (point_number p) (point_number q)) [
    | inl same ↦ one_number app p q (leaves_point p h.leaves) (leaves_point q k.leaves) same
    | inr (inl below) ↦ absurd (k.before p below h.leaves)
    | inr (inr above) ↦ absurd (h.before q above k.leaves)
  ]

module _ (i : Image) (t : Sets) where
  one_form_block : (b c : ℕ) → IsFirstForm t i b → IsFirstForm t i c → b ≡ c
  one_form_block b c h k = elim (cases_order b c) [
    | inl same ↦ same
    | inr (inl below) ↦ absurd (h.misfits (k.before b h.form below h.site))
    | inr (inr above) ↦ absurd (k.misfits (h.before c k.form above k.site))
  ]

  one_known_block : (b c : ℕ) → IsFirstKnown t i b → IsFirstKnown t i c → b ≡ c
  one_known_block b c h k = elim (cases_order b c) [
    | inl same ↦ same
    | inr (inl below) ↦ absurd (h.misfits (k.before b h.known below h.site))
    | inr (inr above) ↦ absurd (k.misfits (h.before c k.known above k.site))
  ]

  pub one_verdict : (x y : Verdict) → IsVerdict i t x → IsVerdict i t y → x ≡ y
  one_verdict verdict.Yes verdict.Yes h k = refl
  one_verdict verdict.Yes (verdict.N1 m) h k = absurd (start_out i.app t m k h.0.start)
  one_verdict verdict.Yes (verdict.N2 p) h k = absurd (leaves_none i.app t p k.leaves h.0)
  one_verdict verdict.Yes (verdict.N3 b) h k = absurd (k.misfits (h.1.forms b.0 k.form k.site))
  one_verdict verdict.Yes (verdict.N4 b) h k = absurd (k.misfits (h.1.statuses b.0 k.known k.site))
  one_verdict (verdict.N1 m) verdict.Yes h k = absurd (start_out i.app t m h k.0.start)
  one_verdict (verdict.N1 m) (verdict.N1 n) h k = ap verdict.N1 (one_start i.app t m n h k)
  one_verdict (verdict.N1 m) (verdict.N2 p) h k = absurd (start_out i.app t m h k.starts)
  one_verdict (verdict.N1 m) (verdict.N3 b) h k = absurd (start_out i.app t m h k.inductive.start)
  one_verdict (verdict.N1 m) (verdict.N4 b) h k = absurd (start_out i.app t m h k.inductive.start)
  one_verdict (verdict.N2 p) verdict.Yes h k = absurd (leaves_none i.app t p h.leaves k.0)
  one_verdict (verdict.N2 p) (verdict.N1 m) h k = absurd (start_out i.app t m k h.starts)
  one_verdict (verdict.N2 p) (verdict.N2 q) h k = ap verdict.N2 (one_left i.app t p q h k)
  one_verdict (verdict.N2 p) (verdict.N3 b) h k = absurd (leaves_none i.app t p h.leaves k.inductive)
  one_verdict (verdict.N2 p) (verdict.N4 b) h k = absurd (leaves_none i.app t p h.leaves k.inductive)
  one_verdict (verdict.N3 b) verdict.Yes h k = absurd (h.misfits (k.1.forms b.0 h.form h.site))
  one_verdict (verdict.N3 b) (verdict.N1 m) h k = absurd (start_out i.app t m k h.inductive.start)
  one_verdict (verdict.N3 b) (verdict.N2 p) h k = absurd (leaves_none i.app t p k.leaves h.inductive)
  one_verdict (verdict.N3 b) (verdict.N3 c) h k = ap (λ n. verdict.N3 (block_no n)) (one_form_block b.0 c.0 h k)
  one_verdict (verdict.N3 b) (verdict.N4 c) h k = absurd (h.misfits (k.forms b.0 h.form h.site))
  one_verdict (verdict.N4 b) verdict.Yes h k = absurd (h.misfits (k.1.statuses b.0 h.known h.site))
  one_verdict (verdict.N4 b) (verdict.N1 m) h k = absurd (start_out i.app t m k h.inductive.start)
  one_verdict (verdict.N4 b) (verdict.N2 p) h k = absurd (leaves_none i.app t p k.leaves h.inductive)
  one_verdict (verdict.N4 b) (verdict.N3 c) h k = absurd (k.misfits (h.forms c.0 k.form k.site))
  one_verdict (verdict.N4 b) (verdict.N4 c) h k = ap (λ n. verdict.N4 (block_no n)) (one_known_block b.0 c.0 h k)
