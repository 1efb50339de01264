use Rattle.std.proofs.Common.{ℕ, ◌≡◌, ◌-◌, suc, List, [], ◌∷◌, ◌++◌, length, take, get_or, sym, ap, ◌∙◌, arith}
use Rattle.std.proofs.{Math.Seq.{take-suc}, lemmas.List.{take_all}}
use Rattle.bit_words.specs.Words.{bits_of_words}
use Rattle.bit_words.proofs.WordLaws.{bits_widened}
use Rattle.bit_words.proofs.words.trim.Goals as goal

without_last : (ws : List ℕ) (n d : ℕ) → n ≡ length ws → get_or ws (n - 1) d ≡ 0 → bits_of_words (take (n - 1) ws) ≡ bits_of_words ws
without_last [] n d size last = ap bits_of_words (take_all (n - 1) [] (omega arith))
without_last (w ∷ ws) n d size last =
    let all = w ∷ ws in
    let j = length ws in
    let e : n - 1 ≡ j = omega (arith, size) in
    let whole : take j all ++ 0 ∷ [] ≡ all =
    ap (λ (v : ℕ). take j all ++ v ∷ []) (sym last ∙ ap (λ (k : ℕ). get_or all k d) e) ∙ sym (take-suc all j d (omega arith)) ∙ take_all (suc j) all (omega arith) in
    ap (λ (k : ℕ). bits_of_words (take k all)) e ∙ sym (bits_widened (take j all) 1) ∙ ap bits_of_words whole

pub words-preserved : goal.words-preserved
words-preserved c =
    let old = c.words.words in
    ap bits_of_words c.pop.ensures.rest
    ∙ without_last old.items old.len c.index.result.now old.ok.0 (ap (λ (n : ℕ). get_or old.items (n - 1) c.index.result.now) (sym c.len.ensures) ∙ sym c.index.ensures ∙ c.if-index-eq0.true) ∙ c.words.invariant
