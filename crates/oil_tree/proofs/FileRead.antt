-- What the scan does at the parts of a file that were read.
use Rattle.std.proofs.Common.{◌≡◌, ℕ, List, [], ◌∷◌, refl, sym, ap, ◌∙◌, subst}
use Rattle.std.specs.Prelude.{Option}
use Rattle.oil_lexer.specs.declared.token.{Mark.TheVariants.{OpenBrace, Equals}, Token.{Token}}
use Rattle.oil_tree.specs.declared.{words.Word.{Word, TheVariants.{Version, Implementation, Cpu, Other}}, tree.Object.{Object}}
use Rattle.oil_lexer.specs.{declared.fault.Stop.{Stop}, Tokens.{name, text, mark}}
use Rattle.oil_tree.specs.{Words.{word_of}, Grammar.{IsEnd, IsCpu, cpu, IsUnversioned, no_impl, impl, IsFile, no_version, version}}
use Rattle.oil_lexer.specs.Scan as scans
use Rattle.osek_values.specs.declared.limits.TheConstants.{MAX_OIL_DEPTH}
use Rattle.oil_tree.specs.Expect.{Phrase, a_file, an_unversioned, a_cpu, Stack, step_all, scan, cpu_word, unversioned_word, file_word}
use Rattle.oil_tree.specs.Phrases.{ReadsObjects, ReadsBalanced, ReadsVersion, ReadsImpl, ReadsCpu}
use Rattle.oil_tree.proofs.Ends.{takes_end}

-- the version

version_or_not : (w : Word) → (w ≡ Version → ⊥) → file_word w ≡ unversioned_word w
version_or_not Version h = absurd (h refl)
version_or_not Implementation h = refl
version_or_not Cpu h = refl
version_or_not Other h = refl

-- the scan behind a first word
abbrev behind : Stack → ℕ → List Token → Option Stack → Option Stop
behind stack l ts phrases = scans.at_token Phrase step_all MAX_OIL_DEPTH 0 (name [] l) (scans.onto stack phrases) (λ next. scan 0 next ts)

pub reads_no_version : (n : List ℕ) (l : ℕ) (w : Word) (tokens ts : List Token) → tokens ≡ name n l ∷ ts → word_of n ≡ w → (w ≡ Version → ⊥) → ReadsVersion tokens tokens
reads_no_version n l w tokens ts e is differs = record {
  joins = λ tree last u. no_version u;
  takes = λ stack. ap (scan 0 (a_file ∷ stack)) e ∙ ap (behind stack l ts) (ap file_word is ∙ version_or_not w differs ∙ ap unversioned_word (sym is)) ∙ ap (scan 0 (an_unversioned ∷ stack)) (sym e);
}

pub version_taken : (n : List ℕ) (l : ℕ) (tokens ts : List Token) (stack : Stack) → tokens ≡ name n l ∷ ts → word_of n ≡ Version → scan 0 (a_file ∷ stack) tokens ≡ behind stack l ts (file_word Version)
version_taken n l tokens ts stack e is = ap (scan 0 (a_file ∷ stack)) e ∙ ap (λ (w : Word). behind stack l ts (file_word w)) is

pub reads_version : (n t : List ℕ) (l l' l'' : ℕ) (tokens r1 r2 r3 rest : List Token) → tokens ≡ name n l ∷ r1 → word_of n ≡ Version → r1 ≡ mark Equals l' ∷ r2 → r2 ≡ text t l'' ∷ r3 → IsEnd r3 rest → ReadsVersion tokens rest
reads_version n t l l' l'' tokens r1 r2 r3 rest e is e2 e3 end =
    let prefix : tokens ≡ name n l ∷ (mark Equals l' ∷ (text t l'' ∷ r3)) = e ∙ (λ i. name n l ∷ (e2 ∙ (λ j. mark Equals l' ∷ e3 j)) i) in
    record {
      joins = λ tree last u. subst (λ (x : List Token). IsFile tree x last) (sym prefix) (version is end u);
      takes = λ stack. version_taken n l tokens _ stack prefix is ∙ takes_end end 0 _;
    }

-- the implementation

impl_or_not : (w : Word) → (w ≡ Implementation → ⊥) → unversioned_word w ≡ cpu_word w
impl_or_not Version h = refl
impl_or_not Implementation h = absurd (h refl)
impl_or_not Cpu h = refl
impl_or_not Other h = refl

pub reads_no_impl : (n : List ℕ) (l : ℕ) (w : Word) (tokens ts : List Token) → tokens ≡ name n l ∷ ts → word_of n ≡ w → (w ≡ Implementation → ⊥) → ReadsImpl tokens tokens
reads_no_impl n l w tokens ts e is differs = record {
  joins = λ tree last c. no_impl c;
  takes = λ stack. ap (scan 0 (an_unversioned ∷ stack)) e ∙ ap (behind stack l ts) (ap unversioned_word is ∙ impl_or_not w differs ∙ ap cpu_word (sym is)) ∙ ap (scan 0 (a_cpu ∷ stack)) (sym e);
}

pub impl_taken : (n : List ℕ) (l : ℕ) (tokens ts : List Token) (stack : Stack) → tokens ≡ name n l ∷ ts → word_of n ≡ Implementation → scan 0 (an_unversioned ∷ stack) tokens ≡ behind stack l ts (unversioned_word Implementation)
impl_taken n l tokens ts stack e is = ap (scan 0 (an_unversioned ∷ stack)) e ∙ ap (λ (w : Word). behind stack l ts (unversioned_word w)) is

pub reads_impl : (n m : List ℕ) (l l' l'' : ℕ) (tokens r1 r2 r3 r4 rest : List Token) → tokens ≡ name n l ∷ r1 → word_of n ≡ Implementation → r1 ≡ name m l' ∷ r2 → r2 ≡ mark OpenBrace l'' ∷ r3 → ReadsBalanced 1 r3 r4 → IsEnd r4 rest → ReadsImpl tokens rest
reads_impl n m l l' l'' tokens r1 r2 r3 r4 rest e is e2 e3 b end =
    let prefix : tokens ≡ name n l ∷ (name m l' ∷ (mark OpenBrace l'' ∷ r3)) = e ∙ (λ i. name n l ∷ (e2 ∙ (λ j. name m l' ∷ e3 j)) i) in
    record {
      joins = λ tree last c. subst (λ (x : List Token). IsUnversioned tree x last) (sym prefix) (impl is b.is_balanced end c);
      takes = λ stack. impl_taken n l tokens _ stack prefix is ∙ b.takes _ ∙ takes_end end 0 _;
    }

-- the CPU

pub cpu_taken : (n : List ℕ) (l : ℕ) (tokens ts : List Token) (stack : Stack) → tokens ≡ name n l ∷ ts → word_of n ≡ Cpu → scan 0 (a_cpu ∷ stack) tokens ≡ behind stack l ts (cpu_word Cpu)
cpu_taken n l tokens ts stack e is = ap (scan 0 (a_cpu ∷ stack)) e ∙ ap (λ (w : Word). behind stack l ts (cpu_word w)) is

pub reads_cpu : (n m : List ℕ) (l l' l'' : ℕ) (objects : List Object) (tokens r1 r2 r3 r4 rest : List Token) → tokens ≡ name n l ∷ r1 → word_of n ≡ Cpu → r1 ≡ name m l' ∷ r2 → r2 ≡ mark OpenBrace l'' ∷ r3 → ReadsObjects r3 objects r4 → IsEnd r4 rest → ReadsCpu tokens (record { line = l; objects = objects }) rest
reads_cpu n m l l' l'' objects tokens r1 r2 r3 r4 rest e is e2 e3 o end =
    let prefix : tokens ≡ name n l ∷ (name m l' ∷ (mark OpenBrace l'' ∷ r3)) = e ∙ (λ i. name n l ∷ (e2 ∙ (λ j. name m l' ∷ e3 j)) i) in
    record {
      is_cpu = subst (λ (x : List Token). IsCpu (record { line = l; objects = objects }) x rest) (sym prefix) (cpu is o.are_objects end);
      takes = λ stack. cpu_taken n l tokens _ stack prefix is ∙ o.takes _ ∙ takes_end end 0 _;
    }
