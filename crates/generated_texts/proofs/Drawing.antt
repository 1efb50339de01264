-- What texts of draws are, whatever state they begin in.
use Rattle.std.proofs.Common.{◌≡◌, ℕ, ◌+◌, ◌/◌, ◌<◌, Bool, true, false, zero, suc, List, [], ◌∷◌, ◌++◌, length, refl, ap, ◌∙◌, append_assoc, arith}
use Rattle.std.specs.Prelude.{if◌then◌else◌}
use Rattle.std.proofs.lemmas.Nat.{mod_below}
use Rattle.osek_vectors.specs.{Draws.{next_state, number_of}, Writing.{Text, fixed, draw, onto, ◌⨾◌, each_from}}
use Rattle.generated_texts.proofs.Rows.{each_of, AllFrom}

-- What is spelled has texts, and a value makes of what stands behind it what stands with it in front.
module _ {L : Type 0} (spell : L → List ℕ) where
  -- the text is that of some value, of which P is true, in front of any rest
  abbrev pub Spells : {A : Type 0} → (A → L → L) → (A → Type 0) → Text → Type 0
  Spells {A} before P text = (x : ℕ) → (a : A) × P a × ((rest : L) → (text x).text ++ spell rest ≡ spell (before a rest))

  pub Spells-fixed : {A : Type 0} (before : A → L → L) (P : A → Type 0) (bytes : List ℕ) (a : A) → P a → ((rest : L) → bytes ++ spell rest ≡ spell (before a rest)) → Spells before P (fixed bytes)
  unfolding fixed
  Spells-fixed before P bytes a is e x = (a, is, e)

  pub Spells-draw : {A : Type 0} (before : A → L → L) (P : A → Type 0) (choices : ℕ) (text : ℕ → Text) → 0 < choices → ((d : ℕ) → d < choices → Spells before P (text d)) → Spells before P (draw choices text)
  unfolding draw
  Spells-draw before P choices text positive each x =
      each (number_of choices (next_state x)) (mod_below (next_state x / 65536) choices positive) (next_state x)

  pub Spells-either : {A : Type 0} (before : A → L → L) (P : A → Type 0) (b : Bool) (first second : Text) → Spells before P first → Spells before P second → Spells before P (if b then first else second)
  Spells-either before P true first second f s = f
  Spells-either before P false first second f s = s

  pub Spells-then : {A B : Type 0} (before : A → L → L) (P : A → Type 0) (behind : B → L → L) (Q : B → Type 0) (first second : Text) → Spells before P first → Spells behind Q second →
      Spells (λ (p : A × B) (rest : L). before p.0 (behind p.1 rest)) (λ (p : A × B). P p.0 × Q p.1) (first ⨾ second)
  unfolding onto ◌⨾◌
  Spells-then before P behind Q first second f s x =
      let (a, is, e) = f x in
      let (b, is', e') = s (first x).state in
      ((a, b), (is, is'), λ rest. append_assoc (first x).text (second (first x).state).text (spell rest) ∙ ap (λ (t : List ℕ). (first x).text ++ t) (e' rest) ∙ e (behind b rest))

  -- a text that draws nothing in front of another, and behind it
  pub Spells-front : {A : Type 0} (before : A → L → L) (P : A → Type 0) (bytes : List ℕ) (front : L → L) (text : Text) → ((rest : L) → bytes ++ spell rest ≡ spell (front rest)) → Spells before P text →
      Spells (λ (a : A) (rest : L). front (before a rest)) P (fixed bytes ⨾ text)
  unfolding fixed onto ◌⨾◌
  Spells-front before P bytes front text same f x =
      let (a, is, e) = f x in
      (a, is, λ rest. append_assoc bytes (text x).text (spell rest) ∙ ap (λ (t : List ℕ). bytes ++ t) (e rest) ∙ same (before a rest))

  pub Spells-behind : {A : Type 0} (before : A → L → L) (P : A → Type 0) (bytes : List ℕ) (back : L → L) (text : Text) → ((rest : L) → bytes ++ spell rest ≡ spell (back rest)) → Spells before P text →
      Spells (λ (a : A) (rest : L). before a (back rest)) P (text ⨾ fixed bytes)
  unfolding fixed onto ◌⨾◌
  Spells-behind before P bytes back text same f x =
      let (a, is, e) = f x in
      (a, is, λ rest. append_assoc (text x).text bytes (spell rest) ∙ ap (λ (t : List ℕ). (text x).text ++ t) (same rest) ∙ e (back rest))

  pub Spells-each : {A : Type 0} (before : ℕ → A → L → L) (P : ℕ → A → Type 0) (text : ℕ → Text) (n i : ℕ) → ((j : ℕ) → j < i + n → Spells (before j) (P j) (text j)) →
      Spells (each_of before i) (λ (those : List A). (length those ≡ n) × AllFrom P i those) (each_from i n text)
  unfolding each_from
  Spells-each {A} before P text zero i each x = Spells-fixed (each_of before i) (λ (those : List A). (length those ≡ 0) × AllFrom P i those) [] [] (refl, tt) (λ rest. refl) x
  Spells-each {A} before P text (suc n) i each x =
      let more = Spells-each before P text n (i + 1) (λ j h. each j (omega (arith, h))) in
      let ((a, those), (is, (size, are)), e) = Spells-then (before i) (P i) (each_of before (i + 1)) (λ (those : List A). (length those ≡ n) × AllFrom P (i + 1) those) (text i) (each_from (i + 1) n text) (each i (omega arith)) more x in
      (a ∷ those, (ap suc size, (is, are)), e)

  -- the same, by another value
  pub Spells-by : {A B : Type 0} (before : A → L → L) (P : A → Type 0) (other : B → L → L) (Q : B → Type 0) (to : A → B) → ((a : A) → P a → Q (to a)) → ((a : A) (rest : L) → before a rest ≡ other (to a) rest) →
      (text : Text) → Spells before P text → Spells other Q text
  Spells-by before P other Q to keeps same text f x =
      let (a, is, e) = f x in
      (to a, keeps a is, λ rest. e rest ∙ ap spell (same a rest))
