-- Which words are of the form of a point, and that the text of each point is.
use Rattle.std.proofs.Common.{◌≡◌, ℕ, zero, suc, ◌+◌, ◌<◌, ◌^◌, Bool, true, false, cond, ◌||◌, not, eqb, ltb, List, [], ◌∷◌, ◌++◌, length, take, drop, get_or, Option, Some, None, refl, sym, ◌∙◌, ap, subst, inl, inr, arith, one-add, add-one, append_assoc, rules}
use Rattle.std.specs.{Prelude.{codes}, Char.{is_ascii_digit}, Fmt.{decimal}, List.{list_all, position_or_len}, Str.{bytes_eq, Parse.{digits_value}}}
use Rattle.std.proofs.Math.{Bool.{or-true}, Seq.{drop-cons, take-append_seam}}
use Rattle.std.proofs.lemmas.Bool.{and_parts, and_from, cases_Bool, eqb-true, le-ltb, lt-ltb, ltb-true, or_cases, true≢false}
use Rattle.std.proofs.lemmas.{Fmt.{decimal_nonempty, decimal_digit, digits_decimal, first_decimal}, List.{length-append, length-drop, take-append-drop, Quantifiers.{position-Some}}, Str.Parse.{IsNumeralModel, numerals_by_value}}
use Rattle.osek_values.specs.declared.numbers.TaskNo.{TaskNo}
use Rattle.osek_standard.specs.declared.{app.App.{App}, point.Point.{Point}}
use Rattle.osek_standard.specs.declared.point.Point.TheVariants as point
use Rattle.osek_standard.specs.{Points.{IsPoint}, TraceText.{task_name}}
use Rattle.text_pieces.proofs.NameLaws.{name_is}
use Rattle.trace_text.specs.{EventWords.{is_some_word}, PointTexts.{point_text, task_or_dash}, PointWords.{is_number, slash, is_block_form, is_block_word, is_point_form}}
use Rattle.trace_text.specs.PointGrammar.{IsNumber, IsPointWord, halted, idle, block, over}
use Rattle.trace_text.proofs.{EventLaws.{same_bytes}, Parting.{Lacks}, PointsApart.{IsKnown, named, task_block_fits, routine_block_fits}}

abbrev pub is_slash : ℕ → Bool
is_slash c = eqb c 47

pub own : IsNumeralModel (λ ds. list_all is_ascii_digit ds ≡ true) (digits_value 10)
own = numerals_by_value _ (search rules)

-- ---- numbers

plain_by : (c : ℕ) (cs : List ℕ) (b : Bool) → eqb c 48 ≡ b → (not b || not (is_some_word cs)) ≡ true → c ≡ 48 → length (c ∷ cs) ≡ 1
plain_by c [] b s e same = refl
plain_by c (d ∷ cs) true s e same = absurd (true≢false (sym e))
plain_by c (d ∷ cs) false s e same = absurd (true≢false (sym (ap (λ n. eqb n 48) same) ∙ s))

pub tested_number : (ds : List ℕ) → is_number ds ≡ true → IsNumber ds
tested_number [] e = absurd (cc)
tested_number (c ∷ cs) e =
    let parts = and_parts (list_all is_ascii_digit (c ∷ cs)) (not (eqb c 48) || not (is_some_word cs)) e in
    record { some = omega arith; digits = parts.0; plain = plain_by c cs (eqb c 48) refl parts.1 }

pub number_tested : (ds : List ℕ) → IsNumber ds → is_number ds ≡ true
number_tested [] h = absurd (omega (arith, h.some))
number_tested (c ∷ []) h = and_from (list_all is_ascii_digit (c ∷ [])) (not (eqb c 48) || true) h.digits (or-true (not (eqb c 48)))
number_tested (c ∷ d ∷ cs) h =
    and_from (list_all is_ascii_digit (c ∷ d ∷ cs)) (not (eqb c 48) || false) h.digits
    (elim (cases_Bool (eqb c 48)) [
      | inl e ↦ absurd (omega (arith, h.plain (eqb-true c 48 e)))
      | inr e ↦ ap (λ b. not b || false) e
    ])

plain_decimal : (n : ℕ) → n < 2 ^ 64 → get_or (decimal n) 0 0 ≡ 48 → length (decimal n) ≡ 1
plain_decimal zero h e = ap length (decimal_digit 0 (omega arith))
plain_decimal (suc n) h e = absurd (omega (arith, e, first_decimal (suc n) (omega arith) h))

pub decimal_number : (n : ℕ) → n < 2 ^ 64 → IsNumber (decimal n)
decimal_number n h = record { some = decimal_nonempty n h; digits = digits_decimal own n h; plain = plain_decimal n h }

lacks_by : (c : ℕ) (b : Bool) → eqb c 47 ≡ b → is_ascii_digit c ≡ true → not b ≡ true
lacks_by c true e h = absurd (true≢false (sym h ∙ ap is_ascii_digit (eqb-true c 47 e)))
lacks_by c false e h = refl

pub digits_lack : (ds : List ℕ) → list_all is_ascii_digit ds ≡ true → Lacks 47 ds
digits_lack [] h = refl
digits_lack (c ∷ cs) h =
    let parts = and_parts (is_ascii_digit c) (list_all is_ascii_digit cs) h in
    and_from (not (eqb c 47)) (list_all (λ (x : ℕ). not (eqb x 47)) cs) (lacks_by c (eqb c 47) refl parts.0) (digits_lack cs parts.1)

-- ---- where the first slash stands

no_place : (cs : List ℕ) → Lacks 47 cs → position_or_len is_slash cs ≡ length cs
no_place [] h = refl
no_place (c ∷ cs) h =
    let parts = and_parts (not (eqb c 47)) (list_all (λ (x : ℕ). not (eqb x 47)) cs) h in
    ap (λ b. cond b (1 + position_or_len is_slash cs) 0) parts.0 ∙ ap (λ n. 1 + n) (no_place cs parts.1) ∙ one-add (length cs)

place_at : (cs more : List ℕ) → Lacks 47 cs → position_or_len is_slash (cs ++ 47 ∷ more) ≡ length cs
place_at [] more h = refl
place_at (c ∷ cs) more h =
    let parts = and_parts (not (eqb c 47)) (list_all (λ (x : ℕ). not (eqb x 47)) cs) h in
    ap (λ b. cond b (1 + position_or_len is_slash (cs ++ 47 ∷ more)) 0) parts.0 ∙ ap (λ n. 1 + n) (place_at cs more parts.1) ∙ one-add (length cs)

pub slash_none : (cs : List ℕ) → Lacks 47 cs → slash cs ≡ None
slash_none cs h = ap (λ n. cond (ltb n (length cs)) (Some n) None) (no_place cs h) ∙ ap (λ b. cond b (Some (length cs)) None) (le-ltb (length cs) (length cs) (omega arith))

pub slash_at : (cs more : List ℕ) → Lacks 47 cs → slash (cs ++ 47 ∷ more) ≡ Some (length cs)
slash_at cs more h =
    let size = length-append cs (47 ∷ more) in
    ap (λ n. cond (ltb n (length (cs ++ 47 ∷ more))) (Some n) None) (place_at cs more h)
    ∙ ap (λ b. cond b (Some (length cs)) None) (lt-ltb (length cs) (length (cs ++ 47 ∷ more)) (omega (arith, size)))

-- a text is parted at its first slash
pub parts_at : (cs : List ℕ) (k : ℕ) → slash cs ≡ Some k → cs ≡ take k cs ++ 47 ∷ drop (k + 1) cs
parts_at cs k e =
    let found = position-Some is_slash cs k 0 e in
    let here : get_or cs k 0 ≡ 47 = eqb-true (get_or cs k 0) 47 found.1 in
    sym (take-append-drop k cs) ∙ ap (λ (l : List ℕ). take k cs ++ l) (drop-cons cs k 0 found.0 ∙ ap (λ (n : ℕ). n ∷ drop (suc k) cs) here ∙ ap (λ (n : ℕ). 47 ∷ drop n cs) (sym (add-one k)))

-- ---- words

some_over : (number more : List ℕ) → IsNumber number → 0 < length more → IsPointWord (98 ∷ (number ++ 47 ∷ more))
some_over number [] h some = absurd (omega (arith, some))
some_over number (c ∷ more) h some = subst (λ (l : List ℕ). IsPointWord (98 ∷ l)) (append_assoc number (47 ∷ []) (c ∷ more)) (over number c more h)

tested_block : (cs : List ℕ) (o : Option ℕ) → slash cs ≡ o → is_block_form cs o ≡ true → IsPointWord (98 ∷ cs)
tested_block cs None at e = block cs (tested_number cs e)
tested_block cs (Some k) at e =
    let parts = and_parts (is_number (take k cs)) (ltb (k + 1) (length cs)) e in
    let below = ltb-true (k + 1) (length cs) parts.1 in
    let same = parts_at cs k at in
    subst (λ (l : List ℕ). IsPointWord (98 ∷ l)) (sym same) (some_over (take k cs) (drop (k + 1) cs) (tested_number (take k cs) parts.0) (omega (arith, below, length-drop (k + 1) cs)))

tested_word : (word : List ℕ) → is_block_word word ≡ true → IsPointWord word
tested_word [] e = absurd (cc)
tested_word (c ∷ cs) e =
    let parts = and_parts (eqb c 98) (is_block_form cs (slash cs)) e in
    subst (λ (n : ℕ). IsPointWord (n ∷ cs)) (sym (eqb-true c 98 parts.0)) (tested_block cs (slash cs) refl parts.1)

pub tested_form : (word : List ℕ) → is_point_form word ≡ true → IsPointWord word
tested_form word e =
    elim (or_cases (bytes_eq word (codes "halt") || bytes_eq word (codes "idle")) (is_block_word word) e) [
      | inl named ↦ elim (or_cases (bytes_eq word (codes "halt")) (bytes_eq word (codes "idle")) named) [
        | inl h ↦ subst IsPointWord (sym (same_bytes word (codes "halt") h)) halted
        | inr h ↦ subst IsPointWord (sym (same_bytes word (codes "idle") h)) idle
      ]
      | inr h ↦ tested_word word h
    ]

block_tested : (number : List ℕ) (o : Option ℕ) → slash number ≡ o → IsNumber number → is_block_form number o ≡ true
block_tested number None at h = number_tested number h
block_tested number (Some k) at h = absurd (cc (slash_none number (digits_lack number h.digits)))

over_tested : (number more : List ℕ) → IsNumber number → 0 < length more → is_block_form (number ++ 47 ∷ more) (slash (number ++ 47 ∷ more)) ≡ true
over_tested number more h some =
    let all = number ++ 47 ∷ more in
    let size = length-append number (47 ∷ more) in
    let short : take (length number) all ≡ number = take-append_seam number (47 ∷ more) in
    ap (is_block_form all) (slash_at number more (digits_lack number h.digits))
    ∙ and_from (is_number (take (length number) all)) (ltb (length number + 1) (length all)) (ap is_number short ∙ number_tested number h)
    (lt-ltb (length number + 1) (length all) (omega (arith, size, some)))

pub form_tested : (word : List ℕ) → IsPointWord word → is_point_form word ≡ true
form_tested _ halted = refl
form_tested _ idle = refl
form_tested _ (block number h) = block_tested number (slash number) refl h
form_tested _ (over number c more h) =
    ap (λ (l : List ℕ). is_block_form l (slash l)) (append_assoc number (47 ∷ []) (c ∷ more)) ∙ over_tested number (c ∷ more) h (omega arith)

module _ (app : App) where
  some_task : (x : Option TaskNo) → IsKnown app x → 0 < length (task_or_dash app x)
  some_task None h = omega arith
  some_task (Some t) h = (name_is (task_name app t.0) (named app t.0 h)).some

  pub text_form : (p : Point) → IsPoint app p → IsPointWord (point_text app p)
  text_form point.Halted h = halted
  text_form point.Idle h = idle
  text_form (point.Task b) h = block (decimal b.0) (decimal_number b.0 (task_block_fits app b h))
  text_form (point.Routine b x) h =
      subst (λ (l : List ℕ). IsPointWord (98 ∷ l)) (sym (append_assoc (decimal b.0) (47 ∷ []) (task_or_dash app x)))
      (some_over (decimal b.0) (task_or_dash app x) (decimal_number b.0 (routine_block_fits app b x h)) (some_task x h.task))
