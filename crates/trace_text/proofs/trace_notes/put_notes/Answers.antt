-- the notes in their order
use Rattle.std.proofs.Common.{◌≡◌, ℕ, List, ◌++◌, refl, append_assoc}
use Rattle.trace_text.proofs.trace_notes.put_notes.Goals as goal

in_a_row : (t u v w x y z all a b d e f g h : List ℕ) → u ≡ t ++ a → v ≡ u ++ b → w ≡ v ++ d → x ≡ w ++ e → y ≡ x ++ f → z ≡ y ++ g → all ≡ z ++ h →
    all ≡ t ++ (a ++ b ++ d ++ e ++ f ++ g ++ h)
in_a_row t u v w x y z all a b d e f g h p q r s j k l = rw (l, k, j, s, r, q, p) (simp append_assoc refl)

pub returns-clause-text : goal.returns-clause-text
returns-clause-text c =
    in_a_row _ _ _ _ _ _ _ _ _ _ _ _ _ _ _ c.put_status-at.ensures.text c.put_hook-at.ensures.text c.put_value_note-at.ensures.text c.put_hook-at-2.ensures.text c.put_hook-at-3.ensures.text
    c.put_hook-at-4.ensures.text c.put_hook.ensures.text
