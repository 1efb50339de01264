-- A line of a record is answered as what it says, and in no other way.
use Rattle.std.proofs.Common.{◌≡◌, ℕ, ◌≤◌, Bool, true, false, cond, ltb, List, [], ◌∷◌, length, Option, Some, None, Ok, Err, Result, refl, sym, ◌∙◌, ap, subst}
use Rattle.std.proofs.lemmas.Bool.{le-ltb, lt-ltb, ltb-false, ltb-true, true≢false}
use Rattle.osek_standard.specs.declared.{app.App.{App}, point.Point.{Point}}
use Rattle.trace_text.specs.declared.fault.PointFault.{PointFault, TheVariants.{G1, G2, G3, G4}}
use Rattle.trace_text.specs.{EventWords.{is_comment, words}, EventGrammar.{HasWords, SayNothing}}
use Rattle.trace_text.specs.PointWords.{is_point_form, IsPointOf, point_named, said_point, one_point, point_of_words, read_point_line}
use Rattle.trace_text.specs.PointGrammar.{IsPointWord, halted, idle, block, over, HasWordsOf, AreOne, NamesNoPoint, HaveNoForm, IsLineAnswer}
use Rattle.trace_text.proofs.{GrammarLaws.{words_hold, no_other_words}, PointForms.{tested_form, form_tested, text_form}, PointReading.{named_is, is_named}}

abbrev Answer : Type 0
Answer = Result (Option Point) PointFault

-- a word of the form isn't a comment
no_comment : (word : List ℕ) → IsPointWord word → is_comment word ≡ false
no_comment _ halted = refl
no_comment _ idle = refl
no_comment _ (block number h) = refl
no_comment _ (over number c more h) = refl

module _ (app : App) where
  -- ---- what is answered is what the line says

  module _ (line : List ℕ) (short : length line ≤ 256) where
    words_of : (Property : List (List ℕ) → Type 0) (ws : List (List ℕ)) → words line ≡ ws → Property ws → HasWordsOf Property line
    words_of Property ws e h = record { short = short; words = ws; parted = subst (HasWords line) e (words_hold line); property = h }

    no_point : (word : List ℕ) (form : Bool) → words line ≡ word ∷ [] → is_comment word ≡ false → point_named app word ≡ None → is_point_form word ≡ form → IsLineAnswer app line (Err (cond form G2 G1))
    no_point word true e visible none f =
        words_of (AreOne (NamesNoPoint app)) (word ∷ []) e (record { word = word; alone = refl; property = record { form = tested_form word f; none = is_named app word None none } })
    no_point word false e visible none f =
        words_of (HaveNoForm) (word ∷ []) e (record {
          something = λ h. true≢false (sym h ∙ visible);
          formless = λ h. (let same : word ≡ h.word = cc (h.alone) in true≢false (sym (form_tested word (subst IsPointWord (sym same) h.property)) ∙ f));
        })

    one_says : (word : List ℕ) (o : Option Point) → words line ≡ word ∷ [] → is_comment word ≡ false → point_named app word ≡ o → IsLineAnswer app line (said_point word o)
    one_says word (Some p) e visible named = words_of (AreOne (λ w. IsPointOf app w (Some p))) (word ∷ []) e (record { word = word; alone = refl; property = is_named app word (Some p) named })
    one_says word None e visible named = no_point word (is_point_form word) e visible named refl

    visible_says : (word : List ℕ) (rest : List (List ℕ)) → words line ≡ word ∷ rest → is_comment word ≡ false → IsLineAnswer app line (one_point app word rest)
    visible_says word [] e visible = one_says word (point_named app word) e visible refl
    visible_says word (more ∷ rest) e visible = words_of HaveNoForm (word ∷ more ∷ rest) e (record { something = λ h. true≢false (sym h ∙ visible); formless = λ h. cc (h.alone) })

    first_says : (word : List ℕ) (rest : List (List ℕ)) (b : Bool) → words line ≡ word ∷ rest → is_comment word ≡ b → IsLineAnswer app line (cond b (Ok None) (one_point app word rest))
    first_says word rest true e c = words_of SayNothing (word ∷ rest) e c
    first_says word rest false e c = visible_says word rest e c

    words_say : (ws : List (List ℕ)) → words line ≡ ws → IsLineAnswer app line (point_of_words app ws)
    words_say [] e = words_of SayNothing [] e tt
    words_say (word ∷ rest) e = first_says word rest (is_comment word) e refl

  line_says : (line : List ℕ) (long : Bool) → ltb 256 (length line) ≡ long → IsLineAnswer app line (cond long (Err G3) (point_of_words app (words line)))
  line_says line true e = ltb-true 256 (length line) e
  line_says line false e = words_say line (ltb-false 256 (length line) e) (words line) refl

  pub said : (line : List ℕ) → IsLineAnswer app line (read_point_line app line)
  said line = line_says line (ltb 256 (length line)) refl

  -- ---- what the line says is answered

  by_words : (line : List ℕ) (ws : List (List ℕ)) → length line ≤ 256 → HasWords line ws → read_point_line app line ≡ point_of_words app ws
  by_words line ws short h =
      ap (λ b. cond b (Err G3) (point_of_words app (words line))) (le-ltb 256 (length line) short) ∙ ap (point_of_words app) (sym (no_other_words line ws h))

  nothing : (ws : List (List ℕ)) → SayNothing ws → point_of_words app ws ≡ Ok None
  nothing [] h = refl
  nothing (word ∷ rest) h = ap (λ b. cond b (Ok None) (one_point app word rest)) h

  one_word : (ws : List (List ℕ)) (word : List ℕ) (o : Option Point) → ws ≡ word ∷ [] → IsPointWord word → IsPointOf app word o → point_of_words app ws ≡ said_point word o
  one_word ws word o alone form h =
      ap (point_of_words app) alone ∙ ap (λ b. cond b (Ok None) (one_point app word [])) (no_comment word form) ∙ ap (said_point word) (named_is app word o h)

  no_form : (ws : List (List ℕ)) → HaveNoForm ws → point_of_words app ws ≡ Err G1
  no_form [] h = absurd (h.something tt)
  no_form (word ∷ rest) h = by_comment (is_comment word) refl
    where
      formless : (o : Option Point) (form : Bool) → rest ≡ [] → point_named app word ≡ o → is_point_form word ≡ form → said_point word o ≡ Err G1
      formless (Some p) form alone named f =
          let at = is_named app word (Some p) named in
          absurd (h.formless (record { word = word; alone = ap (λ (l : List (List ℕ)). word ∷ l) alone; property = subst IsPointWord at.1 (text_form app p at.0) }))
      formless None true alone named f = absurd (h.formless (record { word = word; alone = ap (λ (l : List (List ℕ)). word ∷ l) alone; property = tested_form word f }))
      formless None false alone named f = ap (λ b. Err (cond b G2 G1)) f

      by_rest : (ws : List (List ℕ)) → rest ≡ ws → one_point app word ws ≡ Err G1
      by_rest [] e = formless (point_named app word) (is_point_form word) e refl refl
      by_rest (more ∷ others) e = refl

      by_comment : (b : Bool) → is_comment word ≡ b → cond b (Ok None) (one_point app word rest) ≡ Err G1
      by_comment true c = absurd (h.something c)
      by_comment false c = by_rest rest refl

  pub read : (line : List ℕ) (r : Answer) → IsLineAnswer app line r → read_point_line app line ≡ r
  read line (Ok None) h = by_words line h.words h.short h.parted ∙ nothing h.words h.property
  read line (Ok (Some p)) h =
      let one = h.property in
      by_words line h.words h.short h.parted
      ∙ one_word h.words one.word (Some p) one.alone (subst IsPointWord one.property.1 (text_form app p one.property.0)) one.property
  read line (Err G1) h = by_words line h.words h.short h.parted ∙ no_form h.words h.property
  read line (Err G2) h =
      let one = h.property in
      by_words line h.words h.short h.parted ∙ one_word h.words one.word None one.alone one.property.form one.property.none
      ∙ ap (λ b. Err (cond b G2 G1)) (form_tested one.word one.property.form)
  read line (Err G3) h = ap (λ b. cond b (Err G3) (point_of_words app (words line))) (lt-ltb 256 (length line) h)
  read line (Err G4) h = absurd h
