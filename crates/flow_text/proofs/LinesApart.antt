-- A line tells one edge, or one site.
use Rattle.std.proofs.Common.{◌≡◌, ℕ, ◌<◌, List, [], ◌∷◌, ◌++◌, length, sym, ◌∙◌, ap, arith, append_assoc}
use Rattle.std.specs.{Prelude.{codes}, Fmt.{decimal}}
use Rattle.std.proofs.lemmas.List.{append_cancel_left, append_cancel_right}
use Rattle.osek_standard.specs.{declared.{app.App.{App}, point.Point.{Point}}, Apps.{the_block}, Points.{IsPoint}}
use Rattle.image_model.specs.{declared.site.{Form.{Form}, Site.{Site}}, Sites.{IsForm}}
use Rattle.abstract_state.specs.{Edges.{flow_edge}, declared.edge.FlowEdge.{FlowEdge}}
use Rattle.trace_text.specs.PointTexts.{block_text, point_text}
use Rattle.trace_text.proofs.{Parting.{parted}, PointsApart.{block_lacks, block_once, few, point_lacks, point_once}}
use Rattle.flow_text.specs.FlowLines.{edge_line, form_text, known_line, known_text, site_line}
use Rattle.flow_text.proofs.{FormsApart.{form_first, form_once}, KnownTexts.{known_once}}

abbrev lf : List ℕ
lf = 10 ∷ []

-- a word, a part, a blank and the rest
regrouped : (w a b : List ℕ) → w ++ a ++ codes " " ++ b ++ lf ≡ w ++ (a ++ 32 ∷ (b ++ lf))
regrouped w a b = simp append_assoc

two_parts : (w a b c d : List ℕ) → w ++ a ++ codes " " ++ b ++ lf ≡ w ++ c ++ codes " " ++ d ++ lf → a ++ 32 ∷ (b ++ lf) ≡ c ++ 32 ∷ (d ++ lf)
two_parts w a b c d e = append_cancel_left w (a ++ 32 ∷ (b ++ lf)) (c ++ 32 ∷ (d ++ lf)) (sym (regrouped w a b) ∙ e ∙ regrouped w c d)

pub edge_once : (app : App) (e f : FlowEdge) → IsPoint app e.from → IsPoint app e.to → IsPoint app f.from → IsPoint app f.to → edge_line app e ≡ edge_line app f → e ≡ f
edge_once app e f from to from_too to_too same =
    let parts = parted 32 (point_text app e.from) (point_text app f.from) (point_text app e.to ++ lf) (point_text app f.to ++ lf)
    (point_lacks app e.from from) (point_lacks app f.from from_too)
    (two_parts (codes "edge ") (point_text app e.from) (point_text app e.to) (point_text app f.from) (point_text app f.to) same) in
    let ends = append_cancel_right (point_text app e.to) (point_text app f.to) lf parts.1 in
    ap (λ (p : Point). flow_edge p e.to) (point_once app e.from f.from from from_too parts.0)
    ∙ ap (flow_edge f.from) (point_once app e.to f.to to to_too ends)

-- what stands behind the block
abbrev behind : App → ℕ → Form → List ℕ
behind app b x = codes "line " ++ decimal (the_block app b).line ++ codes " " ++ form_text app x ++ lf

site_regrouped : (w a b d : List ℕ) → w ++ a ++ codes " line " ++ b ++ codes " " ++ d ++ lf ≡ w ++ (a ++ 32 ∷ (codes "line " ++ b ++ codes " " ++ d ++ lf))
site_regrouped w a b d = simp append_assoc

pub site_once : (app : App) (b c : ℕ) (x y : Form) → b < length app.blocks → c < length app.blocks → IsForm (length app.tasks) x → IsForm (length app.tasks) y →
    site_line app b x ≡ site_line app c y → (b ≡ c) × (x ≡ y)
site_once app b c x y known known_too form form_too same =
    let low = few app b known in
    let high = few app c known_too in
    let line_of : ℕ → List ℕ = λ (k : ℕ). decimal (the_block app k).line in
    let word = codes "site " in
    let whole = append_cancel_left word (block_text b ++ 32 ∷ behind app b x) (block_text c ++ 32 ∷ behind app c y)
    (sym (site_regrouped word (block_text b) (line_of b) (form_text app x)) ∙ same ∙ site_regrouped word (block_text c) (line_of c) (form_text app y)) in
    let parts = parted 32 (block_text b) (block_text c) (behind app b x) (behind app c y) (block_lacks 32 b (omega arith) low) (block_lacks 32 c (omega arith) high) whole in
    let block = block_once b c low high parts.0 in
    let prefix : ℕ → List ℕ = λ (k : ℕ). codes "line " ++ line_of k ++ codes " " in
    let forms : prefix c ++ form_text app x ≡ prefix c ++ form_text app y =
    ap (λ (k : ℕ). prefix k ++ form_text app x) (sym block) ∙ append_cancel_right (prefix b ++ form_text app x) (prefix c ++ form_text app y) lf parts.1 in
    (block, form_once app x y form form_too (append_cancel_left (prefix c) (form_text app x) (form_text app y) forms))

-- what stands behind the block, where what is known of the status is told
abbrev behind_known : App → ℕ → Site → List ℕ
behind_known app b x = codes "line " ++ decimal (the_block app b).line ++ codes " " ++ (form_text app x.form ++ 32 ∷ (codes "known " ++ known_text x.known ++ lf))

known_tail : (x d k : List ℕ) → x ++ d ++ codes " known " ++ k ++ lf ≡ x ++ (d ++ 32 ∷ (codes "known " ++ k ++ lf))
known_tail x d k = simp append_assoc

known_front : (w a b r : List ℕ) → w ++ a ++ codes " line " ++ b ++ codes " " ++ r ≡ w ++ (a ++ 32 ∷ (codes "line " ++ b ++ codes " " ++ r))
known_front w a b r = simp append_assoc

known_regrouped : (w a b d k : List ℕ) → w ++ a ++ codes " line " ++ b ++ codes " " ++ d ++ codes " known " ++ k ++ lf ≡ w ++ (a ++ 32 ∷ (codes "line " ++ b ++ codes " " ++ (d ++ 32 ∷ (codes "known " ++ k ++ lf))))
known_regrouped w a b d k = known_tail (w ++ a ++ codes " line " ++ b ++ codes " ") d k ∙ known_front w a b (d ++ 32 ∷ (codes "known " ++ k ++ lf))

pub known_site_once : (app : App) (b c : ℕ) (x y : Site) → b < length app.blocks → c < length app.blocks → IsForm (length app.tasks) x.form → IsForm (length app.tasks) y.form →
    known_line app b x ≡ known_line app c y → (b ≡ c) × (x ≡ y)
known_site_once app b c x y known known_too form form_too same =
    let low = few app b known in
    let high = few app c known_too in
    let line_of : ℕ → List ℕ = λ (k : ℕ). decimal (the_block app k).line in
    let word = codes "site " in
    let whole = append_cancel_left word (block_text b ++ 32 ∷ behind_known app b x) (block_text c ++ 32 ∷ behind_known app c y)
    (sym (known_regrouped word (block_text b) (line_of b) (form_text app x.form) (known_text x.known)) ∙ same ∙ known_regrouped word (block_text c) (line_of c) (form_text app y.form) (known_text y.known)) in
    let parts = parted 32 (block_text b) (block_text c) (behind_known app b x) (behind_known app c y) (block_lacks 32 b (omega arith) low) (block_lacks 32 c (omega arith) high) whole in
    let block = block_once b c low high parts.0 in
    let prefix : ℕ → List ℕ = λ (k : ℕ). codes "line " ++ line_of k ++ codes " " in
    let rest : Site → List ℕ = λ (s : Site). codes "known " ++ known_text s.known ++ lf in
    let forms : prefix c ++ (form_text app x.form ++ 32 ∷ rest x) ≡ prefix c ++ (form_text app y.form ++ 32 ∷ rest y) = ap (λ (k : ℕ). prefix k ++ (form_text app x.form ++ 32 ∷ rest x)) (sym block) ∙ parts.1 in
    let two = form_first app x.form y.form (rest x) (rest y) form form_too (append_cancel_left (prefix c) (form_text app x.form ++ 32 ∷ rest x) (form_text app y.form ++ 32 ∷ rest y) forms) in
    let texts = append_cancel_left (codes "known ") (known_text x.known) (known_text y.known) (append_cancel_right (codes "known " ++ known_text x.known) (codes "known " ++ known_text y.known) lf two.1) in
    let statuses = known_once x.known y.known texts in
    (block, λ j. record { form = two.0 j; known = statuses j })
