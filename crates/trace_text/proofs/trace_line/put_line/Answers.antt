-- the parts of a line in their order
use Rattle.std.proofs.Common.{◌≡◌, ℕ, List, [], ◌∷◌, ◌++◌, take, refl, ◌∙◌, ap, append_assoc}
use Rattle.std.specs.{Fmt.{decimal}, List.{flat_map, enumerate_from}}
use Rattle.osek_standard.specs.{Dispatch.{stepped}, TraceText.{who, task_text, notes_text, line_text}}
use Rattle.trace_text.specs.LineParts.{routines_text}
use Rattle.trace_text.proofs.trace_line.put_line.Goals as goal

together : (t a s b d f e end : List ℕ) → t ++ a ++ (s ++ b) ++ d ++ f ++ e ++ end ≡ t ++ (a ++ s ++ b ++ d ++ f ++ e) ++ end
together t a s b d f e end = simp append_assoc refl

in_a_row : (t a b d f e end line v w x y z all : List ℕ) → line ≡ a ++ (32 ∷ []) ++ b ++ d ++ f ++ e → v ≡ t ++ a → w ≡ v ++ 32 ∷ b → x ≡ w ++ d → y ≡ x ++ f → z ≡ y ++ e
    → all ≡ z ++ end →
    all ≡ t ++ line ++ end
in_a_row t a b d f e end line v w x y z all is p q r k l m = rw (is, m, l, k, r, q, p) (together t a (32 ∷ []) b d f e end)

pub returns-clause-line : goal.returns-clause-line
returns-clause-line c =
    let app = c.args.app.now in
    let state = c.args.state.now in
    let tasks = c.put_shown-at.ensures.text ∙ ap (λ (l : List ℕ). take c.put_who-at.result c.put_who-at.new.buf ++ l) c.requires.shown in
    in_a_row (take c.args.at c.args.buf.now) (decimal c.args.n) (who app state.processor) (flat_map (task_text app state) (enumerate_from 0 app.tasks)) (routines_text app state)
    (notes_text app c.args.notes.now) (10 ∷ []) (line_text app c.args.n (stepped state c.args.notes.now)) _ _ _ _ _ _ refl c.put_number-at.ensures.text c.put_who-at.ensures.text tasks
    c.put_nest-at.ensures.text c.put_notes-at.ensures.text c.put_byte.ensures.text
