use Rattle.std.proofs.Common.{length, take, drop, ◌-◌, refl, sym, ◌∙◌, ap, arith}
use Rattle.trace_text.specs.EventWords.{is_blank}
use Rattle.trace_text.proofs.{Parts.{position-le}, WordLaws.{no_word, first_word}}
use Rattle.trace_text.proofs.event_words.next_word.Goals as goal

pub returns-in-None : goal.returns-in-None
returns-in-None c = no_word c.args.line.now (sym c.word_start.ensures ∙ c.in-None.is)

pub split_at-requires : goal.split_at-requires
split_at-requires c =
    let line = c.args.line.now in
    let start = c.in-Some.start in
    omega (arith, c.word_end.ensures, position-le is_blank (take (length line - start) (drop start line)))

pub returns-in-Some : goal.returns-in-Some
returns-in-Some c =
    let line = c.args.line.now in
    let start = c.in-Some.start in
    let front = take (length line - start) (drop start line) in
    let word = c.split_at.ensures.front ∙ ap (λ n. take n front) c.word_end.ensures in
    let rest = c.split_at.ensures.back ∙ ap (λ n. drop n front) c.word_end.ensures in
    rw (word, rest) (first_word line front start (sym c.word_start.ensures ∙ c.in-Some.is) refl)
