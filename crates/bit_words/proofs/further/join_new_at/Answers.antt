use Rattle.std.proofs.Common.{rules, ◌≡◌, ◌+◌, List, ℕ, [], set, refl, sym, ap, ◌∙◌}
use Rattle.std.specs.Prelude.{bit_or, count_ones}
use Rattle.std.proofs.lemmas.List.{set-get_or}
use Rattle.bit_words.specs.Words.{bits_of_words}
use Rattle.bit_words.proofs.FurtherLaws.{changed_to, bits_after, further_counted}
use Rattle.bit_words.proofs.further.join_new_at.Goals as goal

pub returns-in_err-added-clause-others : goal.returns-in_err-added-clause-others
returns-in_err-added-clause-others c = changed_to c.args.more.now _ c.args.component c.join.new.self refl

pub returns-in_err-added-clause-err : goal.returns-in_err-added-clause-err
returns-in_err-added-clause-err c =
    let same : set c.args.more.now c.args.component c.join.new.self ≡ c.args.more.now =
    ap (set c.args.more.now c.args.component) (c.in_err-added.ensures.err ∙ sym (c.at_mut-words.ensures.item [])) ∙ set-get_or c.args.more.now c.args.component [] in
    search (rules, same)

pub returns-clause-others : goal.returns-clause-others
returns-clause-others c = changed_to c.args.more.now _ c.args.component c.join.new.self refl

pub returns-clause-bits : goal.returns-clause-bits
returns-clause-bits c =
    bits_after c.args.more.now _ c.args.component c.join.new.self refl c.requires.known
    ∙ c.in_ok-added.ensures.bits ∙ ap (λ (ws : List ℕ). bit_or (bits_of_words ws) (bits_of_words c.args.other.now)) (sym (c.at_mut-words.ensures.item []))

pub returns-clause-count : goal.returns-clause-count
returns-clause-count c =
    let added = c.in_ok-added.added in
    further_counted c.args.more.now _ c.args.component c.join.new.self refl added c.requires.known
    (c.in_ok-added.ensures.count ∙ ap (λ (ws : List ℕ). count_ones (bits_of_words ws) + added) (sym (c.at_mut-words.ensures.item [])))
