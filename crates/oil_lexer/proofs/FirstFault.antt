-- The scan, token by token, gives the first fault.
use Rattle.std.proofs.Common.{◌≡◌, ℕ, ◌≤◌, ◌⊎◌, inl, inr, ⊎_elim, Bool, true, false, cond, List, [], ◌∷◌, ◌++◌, refl, sym, ap, ◌∙◌, subst, append_assoc, arith}
use Rattle.std.specs.Prelude.{Option, Some, None, option_and_then, ◌&&◌, nat_le}
use Rattle.std.proofs.lemmas.{List.{append-nil}, Bool.Decides.{nat_tests}}
use Rattle.oil_lexer.specs.declared.{token.{TokenKind.{TokenKind}, Token.{Token}}, fault.Stop.{Stop, TheVariants.{NotAllowed, TooDeep, Ends}}}
use Rattle.osek_values.specs.declared.{refused.LineFault.{LineFault}, refusal.SyntaxRule.{SyntaxRule}}
use Rattle.oil_lexer.specs.Faults as faults
use Rattle.oil_lexer.specs.{Tokens.{is_open}, Depth.{deeper, depth_from}}
use Rattle.oil_lexer.specs.Scan as scans
use Rattle.oil_lexer.specs.Scan.{at_end, fault_of}
use Rattle.oil_lexer.proofs.Splits.{split_push}

pub depth_push : (d : ℕ) (done : List Token) (t : Token) → depth_from d (done ++ t ∷ []) ≡ deeper (depth_from d done) t.kind
depth_push d [] t = refl
depth_push d (x ∷ done) t = depth_push (deeper d x.kind) done t

module _ (Phrase : Type 0) (step_all : List Phrase → TokenKind → Option (List Phrase)) where
  abbrev run : List Phrase → List Token → Option (List Phrase)
  run = scans.run Phrase step_all

  pub run_append : (stack : List Phrase) (a b : List Token) → run stack (a ++ b) ≡ option_and_then (λ next. run next b) (run stack a)
  run_append stack [] b = refl
  run_append stack (t ∷ a) b =
      elim (step_all stack t.kind) as (λ e. option_and_then (λ next. run next (a ++ b)) e ≡ option_and_then (λ next. run next b) (option_and_then (λ next. run next a) e)) [ None ↦ refl | Some next ↦ run_append next a b ]

-- A grammar with a stack of expectations that takes its sentences and no others, and that can always be completed.
module _ (Tree : Type 0) (IsSentence : List Token → Tree → Type 0) (limit : ℕ) (Phrase : Type 0) (step_all : List Phrase → TokenKind → Option (List Phrase)) (start : List Phrase) (complete : (tokens : List Token) (tree : Tree) → IsSentence tokens tree → scans.run Phrase step_all start tokens ≡ Some []) (right : (tokens : List Token) → scans.run Phrase step_all start tokens ≡ Some [] → (tree : Tree) × IsSentence tokens tree) (completion : (stack : List Phrase) → (more : List Token) × (scans.run Phrase step_all stack more ≡ Some [])) where
  abbrev IsPrefix : List Token → Type 0
  IsPrefix = faults.IsPrefix Tree IsSentence limit

  abbrev IsTooDeep : List Token → Token → Type 0
  IsTooDeep = faults.IsTooDeep Tree IsSentence limit

  abbrev FailsS1 : List Token → Token → Type 0
  FailsS1 = faults.FailsS1 Tree IsSentence limit

  abbrev FailsS3 : List Token → Token → Type 0
  FailsS3 = faults.FailsS3 Tree IsSentence limit

  abbrev IsClear : List Token → Type 0
  IsClear = faults.IsClear Tree IsSentence limit

  abbrev FailsAt : (List Token → Token → Type 0) → List Token → ℕ → Type 0
  FailsAt F tokens line = faults.FailsAt Tree IsSentence limit F tokens line

  abbrev Run : List Phrase → List Token → Option (List Phrase)
  Run = scans.run Phrase step_all

  abbrev scan : ℕ → List Phrase → List Token → Option Stop
  scan = scans.scan Phrase step_all limit

  abbrev at_token : ℕ → Token → Option (List Phrase) → (List Phrase → Option Stop) → Option Stop
  at_token = scans.at_token Phrase step_all limit

  pub prefix_of_run : (tokens : List Token) (stack : List Phrase) → Run start tokens ≡ Some stack → IsPrefix tokens
  prefix_of_run tokens stack e =
      let (more, last) = completion stack in
      let whole : Run start (tokens ++ more) ≡ Some [] = run_append Phrase step_all start tokens more ∙ ap (λ x. option_and_then (λ next. Run next more) x) e ∙ last in
      let (tree, is) = right (tokens ++ more) whole in
      (more, tree, is)

  pub no_prefix_of_run : (tokens : List Token) → Run start tokens ≡ None → IsPrefix tokens → ⊥
  no_prefix_of_run tokens e (more, tree, is) =
      let whole : Run start (tokens ++ more) ≡ Some [] = complete (tokens ++ more) tree is in
      let nothing : Run start (tokens ++ more) ≡ None = run_append Phrase step_all start tokens more ∙ ap (λ x. option_and_then (λ next. Run next more) x) e in
      cc

  clear_more : (done : List Token) (t : Token) → IsClear done → (FailsS1 done t → ⊥) → (FailsS3 done t → ⊥) → IsClear (done ++ t ∷ [])
  clear_more done t clear s1 s3 prefix u back e =
      ⊎_elim
      (λ s. (subst (λ (f : List Token). FailsS1 f u → ⊥) s.0 (subst (λ (x : Token). FailsS1 done x → ⊥) s.1 s1), subst (λ (f : List Token). FailsS3 f u → ⊥) s.0 (subst (λ (x : Token). FailsS3 done x → ⊥) s.1 s3)))
      (λ s. clear prefix u s.0 s.1)
      (split_push done prefix back t u e)

  -- the tokens so far, none of which fails, and what they leave
  pub record IsAt (done : List Token) (d : ℕ) (stack : List Phrase) : Type 0 where
    pub ran : Run start done ≡ Some stack
    pub clear : IsClear done
    pub depth : depth_from 0 done ≡ d

  run_push : (done : List Token) (t : Token) (stack : List Phrase) (next : Option (List Phrase)) → Run start done ≡ Some stack → step_all stack t.kind ≡ next → Run start (done ++ t ∷ []) ≡ next
  run_push done t stack next ran e = run_append Phrase step_all start done (t ∷ []) ∙ ap (λ x. option_and_then (λ n. Run n (t ∷ [])) x) ran ∙ ap (λ x. option_and_then (λ n. Some n) x) e ∙ some_same next
    where
      some_same : (o : Option (List Phrase)) → option_and_then (λ n. Some n) o ≡ o
      some_same None = refl
      some_same (Some n) = refl

  too_deep_test : (done : List Token) (t : Token) (d : ℕ) → depth_from 0 done ≡ d → is_open t.kind && nat_le limit d ≡ false → IsTooDeep done t → ⊥
  too_deep_test done t d depth e deep = test (is_open t.kind) (depth_from 0 done) d depth e deep.0 deep.1
    where
      test : (is : Bool) (from d : ℕ) → from ≡ d → is && nat_le limit d ≡ false → is ≡ true → limit ≤ from → ⊥
      test true from d same e o le = grind (arith, nat_tests)
      test false from d same e o le = cc

  deep_test : (done : List Token) (t : Token) (d : ℕ) → depth_from 0 done ≡ d → is_open t.kind && nat_le limit d ≡ true → IsTooDeep done t
  deep_test done t d depth e = test (is_open t.kind) (depth_from 0 done) d depth e
    where
      test : (is : Bool) (from d : ℕ) → from ≡ d → is && nat_le limit d ≡ true → (is ≡ true) × (limit ≤ from)
      test true from d same e = (refl, grind (arith, nat_tests))
      test false from d same e = absurd cc

  at_next : (done : List Token) (t : Token) (d : ℕ) (stack next : List Phrase) → IsAt done d stack → step_all stack t.kind ≡ Some next → is_open t.kind && nat_le limit d ≡ false → IsAt (done ++ t ∷ []) (deeper d t.kind) next
  at_next done t d stack next at e shallow =
      let ran : Run start (done ++ t ∷ []) ≡ Some next = run_push done t stack (Some next) at.ran e in
      record {
        ran = ran;
        clear = clear_more done t at.clear (λ s1. s1 (prefix_of_run (done ++ t ∷ []) next ran)) (λ s3. too_deep_test done t d at.depth shallow s3.1);
        depth = depth_push 0 done t ∙ ap (λ n. deeper n t.kind) at.depth;
      }

  -- what the place where reading stops says of the tokens
  abbrev pub Answers : List Token → Option Stop → Type 0
  Answers tokens None = IsClear tokens
  Answers tokens (Some (NotAllowed line)) = FailsAt FailsS1 tokens line
  Answers tokens (Some (TooDeep line)) = FailsAt FailsS3 tokens line
  Answers tokens (Some Ends) = IsClear tokens × ((tree : Tree) → IsSentence tokens tree → ⊥)

  answers_end : (done : List Token) (d : ℕ) (stack : List Phrase) → IsAt done d stack → Answers done (at_end stack)
  answers_end done d [] at = at.clear
  answers_end done d (p ∷ stack) at = (at.clear, λ tree is. let e = complete done tree is in let r = at.ran in cc)

  answers_some : (done ts : List Token) (t : Token) (d : ℕ) (stack next : List Phrase) (deep : Bool) → IsAt done d stack → step_all stack t.kind ≡ Some next → is_open t.kind && nat_le limit d ≡ deep → (IsAt (done ++ t ∷ []) (deeper d t.kind) next → Answers ((done ++ t ∷ []) ++ ts) (scan (deeper d t.kind) next ts)) → Answers (done ++ t ∷ ts) (cond deep (Some (TooDeep t.line)) (scan (deeper d t.kind) next ts))
  answers_some done ts t d stack next true at e deep go =
      record { prefix = done; token = t; back = ts; parts = refl; clear = at.clear; fails = (prefix_of_run (done ++ t ∷ []) next (run_push done t stack (Some next) at.ran e), deep_test done t d at.depth deep); line_is = refl }
  answers_some done ts t d stack next false at e shallow go =
      subst (λ (x : List Token). Answers x (scan (deeper d t.kind) next ts)) (append_assoc done (t ∷ []) ts) (go (at_next done t d stack next at e shallow))

  answers_token : (done ts : List Token) (t : Token) (d : ℕ) (stack : List Phrase) (next : Option (List Phrase)) → IsAt done d stack → step_all stack t.kind ≡ next → ((n : List Phrase) → IsAt (done ++ t ∷ []) (deeper d t.kind) n → Answers ((done ++ t ∷ []) ++ ts) (scan (deeper d t.kind) n ts)) → Answers (done ++ t ∷ ts) (at_token d t next (λ n. scan (deeper d t.kind) n ts))
  answers_token done ts t d stack None at e go =
      record { prefix = done; token = t; back = ts; parts = refl; clear = at.clear; fails = no_prefix_of_run (done ++ t ∷ []) (run_push done t stack None at.ran e); line_is = refl }
  answers_token done ts t d stack (Some n) at e go = answers_some done ts t d stack n (is_open t.kind && nat_le limit d) at e refl (go n)

  scan_answers : (ts done : List Token) (d : ℕ) (stack : List Phrase) → IsAt done d stack → Answers (done ++ ts) (scan d stack ts)
  scan_answers [] done d stack at = subst (λ (x : List Token). Answers x (at_end stack)) (sym (append-nil done)) (answers_end done d stack at)
  scan_answers (t ∷ ts) done d stack at = answers_token done ts t d stack (step_all stack t.kind) at refl (λ n at'. scan_answers ts (done ++ t ∷ []) (deeper d t.kind) n at')

  clear_nil : IsClear []
  clear_nil [] t back e = absurd cc
  clear_nil (x ∷ prefix) t back e = absurd cc

  pub first_fault : (tokens : List Token) → Answers tokens (scan 0 start tokens)
  first_fault tokens = scan_answers tokens [] 0 start (record { ran = refl; clear = clear_nil; depth = refl })

  pub stop_fault : (tokens : List Token) (stop : Stop) → scan 0 start tokens ≡ Some stop → faults.IsFirstFault Tree IsSentence limit tokens (fault_of stop tokens).rule (fault_of stop tokens).line
  stop_fault tokens (NotAllowed line) e = subst (Answers tokens) e (first_fault tokens)
  stop_fault tokens (TooDeep line) e = subst (Answers tokens) e (first_fault tokens)
  stop_fault tokens Ends e =
      let answer : Answers tokens (Some Ends) = subst (Answers tokens) e (first_fault tokens) in
      record { clear = answer.0; no_sentence = answer.1; line_is = refl }

  pub has_tree : (tokens : List Token) (tree : Tree) → IsSentence tokens tree → scan 0 start tokens ≡ None → faults.HasTree Tree IsSentence limit tokens tree
  has_tree tokens tree is e = record { sentence = is; clear = subst (Answers tokens) e (first_fault tokens) }

  -- where reading doesn't stop, nothing is expected behind the tokens
  token_run : (t : Token) (ts : List Token) (d : ℕ) (next : Option (List Phrase)) → ((n : List Phrase) → scan (deeper d t.kind) n ts ≡ None → Run n ts ≡ Some []) → at_token d t next (λ n. scan (deeper d t.kind) n ts) ≡ None → option_and_then (λ n. Run n ts) next ≡ Some []
  token_run t ts d None go e = absurd cc
  token_run t ts d (Some n) go e = deep_run (is_open t.kind && nat_le limit d) e
    where
      deep_run : (deep : Bool) → cond deep (Some (TooDeep t.line)) (scan (deeper d t.kind) n ts) ≡ None → Run n ts ≡ Some []
      deep_run true e = absurd cc
      deep_run false e = go n e

  scan_run : (ts : List Token) (d : ℕ) (stack : List Phrase) → scan d stack ts ≡ None → Run stack ts ≡ Some []
  scan_run [] d [] e = refl
  scan_run [] d (p ∷ stack) e = absurd cc
  scan_run (t ∷ ts) d stack e = token_run t ts d (step_all stack t.kind) (λ n h. scan_run ts (deeper d t.kind) n h) e

  -- the tokens have a tree or a first fault
  pub some_answer : (tokens : List Token) → ((tree : Tree) × faults.HasTree Tree IsSentence limit tokens tree) ⊎ ((fault : LineFault SyntaxRule) × faults.IsFirstFault Tree IsSentence limit tokens fault.rule fault.line)
  some_answer tokens = by_scan (scan 0 start tokens) refl
    where
      by_scan : (stop : Option Stop) → scan 0 start tokens ≡ stop → ((tree : Tree) × faults.HasTree Tree IsSentence limit tokens tree) ⊎ ((fault : LineFault SyntaxRule) × faults.IsFirstFault Tree IsSentence limit tokens fault.rule fault.line)
      by_scan None e =
          let (tree, is) = right tokens (scan_run tokens 0 start e) in
          inl (tree, has_tree tokens tree is e)
      by_scan (Some stop) e = inr (fault_of stop tokens, stop_fault tokens stop e)
