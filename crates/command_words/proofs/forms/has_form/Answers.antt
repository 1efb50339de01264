use Rattle.std.proofs.Common.{ℕ, Bool, ◌&&◌, List, length, sym, ap, ◌∙◌}
use Rattle.std.specs.String.{string_bytes}
use Rattle.command_words.specs.Forms.{is_verb}
use Rattle.command_words.proofs.FormParts.{behind, form_parts, of_no_form}
use Rattle.command_words.proofs.forms.has_form.Goals as goal

pub returns-in_default : goal.returns-in_default
returns-in_default c = of_no_form string_bytes c.args.words.now c.in_default.len_below

pub returns-then-are_plain : goal.returns-then-are_plain
returns-then-are_plain c =
    let words = c.args.words.now in
    let count = length (behind string_bytes words) in
    let plain = sym c.are_plain.ensures ∙ c.if-are_plain.true in
    let parts = form_parts string_bytes words c.verb-item.result c.in-len2-up.len_at_least c.verb-item.is in
    c.is_verb.ensures ∙ ap (λ (v : List ℕ). is_verb v count) c.deref.ensures
    ∙ sym (parts ∙ ap (λ (b : Bool). b && is_verb (string_bytes c.verb-item.result) count) plain)

pub returns-else-are_plain : goal.returns-else-are_plain
returns-else-are_plain c =
    let words = c.args.words.now in
    let count = length (behind string_bytes words) in
    let plain = sym c.are_plain.ensures ∙ c.if-are_plain.false in
    let parts = form_parts string_bytes words c.verb-item.result c.in-len2-up.len_at_least c.verb-item.is in
    c.if-are_plain.false ∙ sym (parts ∙ ap (λ (b : Bool). b && is_verb (string_bytes c.verb-item.result) count) plain)
